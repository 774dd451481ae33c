use Rattle.std.proofs.Common.{ap, ◌∙◌}
use Rattle.std.specs.Int.{cast_signed, cast_unsigned, w128}
use Rattle.std.proofs.lemmas.Int.{to_z-of_z}
use Rattle.columnar_base.specs.Numbers.{signed_row}
use Rattle.columnar_primitive.specs.LargeLaws.{i128_code}
use Rattle.columnar_primitive.proofs.larges.I128Coded.code.Goals as goal

pub returns-clause-row : goal.returns-clause-row
returns-clause-row c = i128_code (cast_signed w128 (cast_unsigned w128 c.args.self)) c.to_le_bytes.result c.to_le_bytes.ensures ∙ ap (signed_row w128) (to_z-of_z w128 c.args.self c.ranges.self)
