use Rattle.std.proofs.Common.{rules}
use Rattle.columnar_primitive.specs.LargeLaws.{i128_back}
use Rattle.columnar_primitive.proofs.larges.I128Coded.from_code.Goals as goal

pub returns-clause-row : goal.returns-clause-row
returns-clause-row c = i128_back c.from_le_bytes.result c.args.code (search rules) (search rules) c.from_le_bytes.ensures
