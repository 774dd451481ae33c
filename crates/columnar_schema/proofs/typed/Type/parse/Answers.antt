use Rattle.std.proofs.Common.{◌<◌, ◌^◌, arith}
use Rattle.columnar_schema.specs.Formats.{format_of}
use Rattle.columnar_schema.specs.SliceLaws.{text_longer}
use Rattle.columnar_schema.proofs.typed.Type.parse.Goals as goal

pub returns-clause-whole : goal.returns-clause-whole
returns-clause-whole c s n h l =
    let few = text_longer c.args.text.now c.in_ok-parse.field-0 c.in_ok-parse.ensures.names l in
    let many : 2 ^ 60 < (format_of c.in_ok-parse.field-0).count = rw c.in-Err.ensures.same at c.in-Err.ensures.err in
    absurd (omega (arith, few, many))
