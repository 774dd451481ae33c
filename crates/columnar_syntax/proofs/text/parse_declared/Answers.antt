use Rattle.std.proofs.Common.{◌∙◌, sym}
use Rattle.columnar_syntax.specs.ParsingLaws.{some_token}
use Rattle.columnar_syntax.proofs.text.parse_declared.Goals as goal

pub returns-in_default-clause-whole : goal.returns-in_default-clause-whole
returns-in_default-clause-whole c s d h = some_token d.names d.after (sym c.in_default.ensures.none ∙ d.is)
