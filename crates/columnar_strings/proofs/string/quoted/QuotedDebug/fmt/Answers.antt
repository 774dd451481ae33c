use Rattle.columnar_strings.specs.StringLaws.{not_quoted}
use Rattle.columnar_strings.proofs.string.quoted.QuotedDebug.fmt.Goals as goal

pub returns-in-Err : goal.returns-in-Err
returns-in-Err g c = record { writes = not_quoted c.args.self.now.0.now _ c.in-Err.ensures.cases.0 }
