use Rattle.std.proofs.Common.{rules, ◌≡◌, true, get_or}
use Rattle.std.specs.Char.{is_ascii_digit}
use Rattle.columnar_syntax.specs.NameLaws.{name_refused}
use Rattle.columnar_syntax.specs.ReadingLaws.{name_begins}
use Rattle.columnar_syntax.proofs.scan.name_at.Goals as goal

pub returns-then-is_ascii_digit-clause-passes : goal.returns-then-is_ascii_digit-clause-passes
returns-then-is_ascii_digit-clause-passes c w x e h =
    let digit : is_ascii_digit (get_or c.args.text.now c.in_ok-start.start 0) ≡ true = search rules in
    name_refused c.args.text.now c.in_ok-start.start c.in_ok-start.end 0 w c.in_ok-start.ensures.some c.in_ok-start.ensures.within digit (c.in_ok-start.ensures.passes w x e (name_begins w h)).0 h
