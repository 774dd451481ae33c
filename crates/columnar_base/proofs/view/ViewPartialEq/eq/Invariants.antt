use Rattle.columnar_base.specs.Elements.{elements_rows}
use Rattle.columnar_base.specs.SameRows.{RestDecides}
use Rattle.columnar_base.specs.Views.{items_content}
use Rattle.columnar_base.proofs.view.ViewPartialEq.eq.Given as goal

abbrev pub invariant-loop-i : goal.invariant-loop-i
invariant-loop-i g l = RestDecides (elements_rows g.T.Element.size g.T.Element.row_of (items_content g.T.Element.le_bytes l.self.items)) (elements_rows g.T.Element.size g.T.Element.row_of (items_content g.T.Element.le_bytes l.other.items)) l.i
