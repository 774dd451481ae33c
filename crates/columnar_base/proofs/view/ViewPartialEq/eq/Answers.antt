use Rattle.std.proofs.Common.{◌∙◌, sym, rules}
use Rattle.columnar_base.specs.Elements.{elements_rows}
use Rattle.columnar_base.specs.SameRowsLaws.{rest_more, rest_differs, other_length}
use Rattle.columnar_base.specs.Views.{items_content}
use Rattle.columnar_base.proofs.view.ViewPartialEq.eq.Goals as goal

pub returns-then-count-len : goal.returns-then-count-len
returns-then-count-len g c = other_length (elements_rows g.T.Element.size g.T.Element.row_of (items_content g.T.Element.le_bytes c.args.self.now.items)) (elements_rows g.T.Element.size g.T.Element.row_of (items_content g.T.Element.le_bytes c.args.other.now.items)) (λ e. c.if-count-len.true (c.len-count.ensures ∙ e ∙ sym c.len.ensures))

pub returns-then-not-same : goal.returns-then-not-same
returns-then-not-same g c = rest_differs _ _ c.loop-i.i _ _ c.at.ensures c.at-in-loop-i.ensures (search rules) c.loop-i.invariant

pub loop-i-preserved : goal.loop-i-preserved
loop-i-preserved g c = rest_more _ _ c.loop-i.i _ _ c.at.ensures c.at-in-loop-i.ensures (search rules) c.loop-i.invariant
