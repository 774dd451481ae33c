use Rattle.std.proofs.Common.{◌∙◌}
use Rattle.columnar_syntax.specs.SourceLaws.{plainly_named}
use Rattle.columnar_syntax.proofs.source.parse.Goals as goal

pub returns-clause-whole : goal.returns-clause-whole
returns-clause-whole c s n d =
    let m = plainly_named c.args.lists c.args.text.now c.as_slice.result.now s 64 c.in_ok-shown.ensures.ok.1 (c.as_slice.ensures.value ∙ c.in_ok-shown.ensures.ok.0) n d in
    c.parse.ensures.whole s m.0 m.1
