use Rattle.columnar_primitive.specs.LargeLaws.{u128_code}
use Rattle.columnar_primitive.proofs.larges.U128Coded.code.Goals as goal

pub returns-clause-row : goal.returns-clause-row
returns-clause-row c = u128_code c.args.self c.to_le_bytes.result c.to_le_bytes.ensures
