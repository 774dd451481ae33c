use Rattle.std.proofs.Common.{sym, ◌∙◌, ap, List, ℕ}
use Rattle.columnar_sums.specs.Unary.{ends_left}
use Rattle.columnar_sums.specs.UnaryChangeLaws.{ends_are}
use Rattle.columnar_sums.proofs.unaries.Unaries.ends_tallied.Goals as goal

pub returns-clause-stands : goal.returns-clause-stands
returns-clause-stands g c = c.new.ensures.stands ∙ ap (λ (t : List ℕ). ends_left t 0) (sym (ends_are (g.CC.Words.bytes c.args.self.now.bits.counts) (g.VC.Words.bytes c.args.self.now.bits.values.values) (g.WC.Words.bytes c.args.self.now.bits.values.tail)))
