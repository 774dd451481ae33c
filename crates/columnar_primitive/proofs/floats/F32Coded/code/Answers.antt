use Rattle.std.proofs.Common.{T, sym, subst}
use Rattle.std.specs.Prelude.{true}
use Rattle.columnar_primitive.specs.RealLaws.{single_code}
use Rattle.columnar_primitive.proofs.floats.F32Coded.code.Goals as goal

pub returns-clause-row : goal.returns-clause-row
returns-clause-row c = rw c.f32_to_bits_with_nan.ensures (single_code c.args.self (subst T (sym c.well_formed.0.1) tt))
