use Rattle.std.proofs.Common.{T, sym, subst}
use Rattle.std.specs.Prelude.{true}
use Rattle.columnar_primitive.specs.RealLaws.{double_code}
use Rattle.columnar_primitive.proofs.floats.F64Coded.code.Goals as goal

pub returns-clause-row : goal.returns-clause-row
returns-clause-row c = rw c.f64_to_bits_with_nan.ensures (double_code c.args.self (subst T (sym c.well_formed.0.1) tt))
