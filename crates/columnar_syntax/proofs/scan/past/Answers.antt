use Rattle.std.proofs.Common.{arith, refl}
use Rattle.columnar_syntax.specs.ReadingLaws.{other_stands}
use Rattle.columnar_syntax.proofs.scan.past.Goals as goal

pub returns-else-text-at-clause-none : goal.returns-else-text-at-clause-none
returns-else-text-at-clause-none c = other_stands c.args.text.now c.args.at c.after_blanks-at.result _ 0 c.args.wanted c.after_blanks-at.ensures.same c.after_blanks-at.ensures.ends (omega (arith, c.after_blanks-at.ensures.within, c.if-at-text.false)) refl c.if-text-at.false
