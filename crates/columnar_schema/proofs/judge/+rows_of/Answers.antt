use Rattle.columnar_core.specs.Store.{slices_in}
use Rattle.columnar_schema.specs.ArrayLaws.{array_rows}
use Rattle.columnar_schema.specs.RecalledLaws.{recalled_rows}
use Rattle.columnar_schema.specs.RepeatedLaws.{repeated_rows}
use Rattle.columnar_schema.specs.TypeLaws.{optional_rows, fallible_rows, lists_rows_of, tuple_rows_of, beside_rows_of}
use Rattle.columnar_schema.specs.BankLaws.{sum_rows_of}
use Rattle.columnar_schema.proofs.judge.+rows_of.Goals as goal

pub returns-in-Optional : goal.returns-in-Optional
returns-in-Optional t c = optional_rows c.args.schema.now c.args.offset (slices_in c.args.store.now) _ c.in-Optional.is c.rows_in.ensures

pub returns-in-Fallible : goal.returns-in-Fallible
returns-in-Fallible t c = fallible_rows c.args.schema.now c.args.offset (slices_in c.args.store.now) _ c.in-Fallible.is c.rows_in-in-Fallible.ensures

pub returns-in-Lists : goal.returns-in-Lists
returns-in-Lists t c = lists_rows_of c.args.schema.now c.args.offset (slices_in c.args.store.now) _ c.in-Lists.is c.bounds_rows.ensures

pub returns-in-Tuple : goal.returns-in-Tuple
returns-in-Tuple t c = tuple_rows_of c.args.schema.now c.args.offset (slices_in c.args.store.now) _ _ _ c.in-Tuple.is (rw c.deref-in-Tuple.ensures at c.rows_of-rows.ensures) (rw (c.slice_count_of.ensures, c.deref-in-Tuple-2.ensures, c.deref-in-Tuple-3.ensures) at c.rows_of-in-Tuple.ensures) c.min.ensures

pub returns-in-Beside : goal.returns-in-Beside
returns-in-Beside t c = beside_rows_of c.args.schema.now c.args.offset (slices_in c.args.store.now) _ _ _ c.in-Beside.is (rw c.deref-in-Beside.ensures at c.rows_of-rows-in-Beside.ensures) (rw (c.slice_count_of-in-Beside.ensures, c.deref-in-Beside-2.ensures, c.deref-in-Beside-3.ensures) at c.rows_of-in-Beside.ensures) c.min-in-Beside.ensures

pub returns-in-Array : goal.returns-in-Array
returns-in-Array t c = array_rows c.args.schema.now c.args.offset (slices_in c.args.store.now) _ c.in-Array.is c.bounds_rows-in-Array.ensures

pub returns-in-Repeated : goal.returns-in-Repeated
returns-in-Repeated t c = repeated_rows c.args.schema.now c.args.offset (slices_in c.args.store.now) _ c.in-Repeated.is c.rows_in-in-Repeated.ensures

pub returns-in-Recalled : goal.returns-in-Recalled
returns-in-Recalled t c = recalled_rows c.args.schema.now c.args.offset (slices_in c.args.store.now) _ c.in-Recalled.is c.rows_in-in-Recalled.ensures

pub returns-in-Sum : goal.returns-in-Sum
returns-in-Sum t c = sum_rows_of c.args.schema.now c.args.offset (slices_in c.args.store.now) _ c.in-Sum.is (rw (c.slice_count_of-in-Sum.ensures, c.deref-in-Sum.ensures) at c.rows_in-in-Sum.ensures)
