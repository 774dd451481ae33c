use Rattle.columnar_base.specs.Row.{row_eq}
use Rattle.columnar_base.specs.Arrays.{array_row}
use Rattle.columnar_base.specs.ArrayLaws.{RestDecidesArrays}
use Rattle.columnar_base.proofs.element.array.ArrayElement.same.Given as goal

abbrev pub invariant-loop-i : goal.invariant-loop-i
invariant-loop-i g l = RestDecidesArrays g.T.Item.meaning l.self l.other (row_eq (array_row g.row.N g.T.Element.size g.T.Element.le_bytes g.T.Element.row_of l.self) (array_row g.row.N g.T.Element.size g.T.Element.le_bytes g.T.Element.row_of l.other)) l.i
