use Rattle.std.proofs.Common.{◌∙◌, ◌≡◌}
use Rattle.columnar_syntax.specs.declared.text.Mistake.TheVariants.{Memory}
use Rattle.columnar_syntax.specs.SourceLaws.{plain_source, plainly_declared, refused_on, unended_refused}
use Rattle.columnar_syntax.proofs.source.parse_declared.Goals as goal

pub returns-in_err-shown-clause-whole : goal.returns-in_err-shown-clause-whole
returns-in_err-shown-clause-whole c s d n = refused_on c.from_residual.result (λ e. e.mistake ≡ Memory) c.from_residual.ensures.1 (unended_refused c.args.lists c.args.source.now c.args.name.now s c.in_err-shown.field-0.0.mistake c.in_err-shown.ensures.err d)

pub returns-clause-whole : goal.returns-clause-whole
returns-clause-whole c s d n =
    let same = plain_source c.args.lists c.args.source.now c.as_slice.result.now c.in_ok-shown.ensures.ok.1 (c.as_slice.ensures.value ∙ c.in_ok-shown.ensures.ok.0) in
    let m = plainly_declared c.args.lists c.args.source.now c.as_slice.result.now c.args.name.now s 64 same d n in
    c.parse_declared.ensures.whole s m.0 m.1
