use Rattle.columnar_strings.specs.StringLaws.{what_is_shown}
use Rattle.columnar_strings.specs.declared.string.show.ShownText.{ShownText}
use Rattle.columnar_strings.proofs.string.show.text_of.Goals as goal

pub returns-in-Ok-clause-ok : goal.returns-in-Ok-clause-ok
returns-in-Ok-clause-ok g c = what_is_shown (λ (s : ShownText). s.text.items) (g.D.Display.output c.args.value.now) _ c.write-written.new.self c.new.ensures.items c.in-Ok.ensures.writes
