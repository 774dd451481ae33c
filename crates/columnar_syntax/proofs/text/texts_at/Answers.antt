use Rattle.columnar_syntax.specs.ParsingLaws.{bounds_begin, bounds_known}
use Rattle.columnar_syntax.proofs.text.texts_at.Goals as goal

pub returns-in_err-start-clause-whole : goal.returns-in_err-start-clause-whole
returns-in_err-start-clause-whole c name rest k e = absurd (c.in_err-start.ensures.passes name _ (c.in_ok-next.ensures.passes _ e) (bounds_begin name k))

pub returns-in_default-clause-whole : goal.returns-in_default-clause-whole
returns-in_default-clause-whole c name rest k e =
    let read = c.in_ok-start.ensures.passes name _ (c.in_ok-next.ensures.passes _ e) (bounds_begin name k) in
    absurd (bounds_known _ name k read.0 c.in_default.ensures.none)

pub returns-in_err-next-2-clause-whole : goal.returns-in_err-next-2-clause-whole
returns-in_err-next-2-clause-whole c name rest k e =
    let read = c.in_ok-start.ensures.passes name _ (c.in_ok-next.ensures.passes _ e) (bounds_begin name k) in
    absurd (c.in_err-next-2.ensures.passes _ read.1)

pub returns-clause-whole : goal.returns-clause-whole
returns-clause-whole c name rest k e =
    let read = c.in_ok-start.ensures.passes name _ (c.in_ok-next.ensures.passes _ e) (bounds_begin name k) in
    c.in_ok-next-2.ensures.passes _ read.1
