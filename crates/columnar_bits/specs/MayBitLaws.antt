-- Booleans are denied only if there are too many.
use Rattle.std.proofs.Common.{refl}
use Rattle.columnar_core.specs.May.{IsLimited, count_limit}
use Rattle.columnar_core.specs.MayLaws.{count_limited}
use Rattle.columnar_bits.specs.BoolColumns.{bools_format}

pub bools_limited : IsLimited bools_format count_limit
bools_limited = count_limited {f = bools_format} (λ e c s n rs. refl)
