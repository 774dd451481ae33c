use Rattle.columnar_syntax.specs.NumberLaws.{limit_absent, limit_follows, limit_stands, no_limit}
use Rattle.columnar_syntax.proofs.number.after_limit.Goals as goal

pub returns-in_default-clause-stands : goal.returns-in_default-clause-stands
returns-in_default-clause-stands c = no_limit c.args.text.now c.args.at

pub returns-in_default-clause-passes : goal.returns-in_default-clause-passes
returns-in_default-clause-passes c w rest e l = limit_absent _ rest l e c.in_default.ensures.none

pub returns-in_err-_limit-clause-passes : goal.returns-in_err-_limit-clause-passes
returns-in_err-_limit-clause-passes c w rest e l =
    let f = limit_follows _ _ rest l e c.in-Some.ensures.some in
    absurd (c.in_err-_limit.ensures.passes f.digits _ f.number f.is f.writes f.small)

pub returns-clause-stands : goal.returns-clause-stands
returns-clause-stands c = limit_stands c.args.text.now c.args.at c.in-Some.next c.in_ok-_limit.next c.in_ok-_limit._limit c.in-Some.ensures.some c.in_ok-_limit.ensures.stands c.in_ok-_limit.ensures.most

pub returns-clause-passes : goal.returns-clause-passes
returns-clause-passes c w rest e l =
    let f = limit_follows _ _ rest l e c.in-Some.ensures.some in
    c.in_ok-_limit.ensures.passes f.digits _ f.number f.is f.writes f.small
