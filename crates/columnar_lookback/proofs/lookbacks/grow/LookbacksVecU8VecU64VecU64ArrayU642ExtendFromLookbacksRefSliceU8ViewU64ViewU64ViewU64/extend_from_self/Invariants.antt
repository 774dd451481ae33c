use Rattle.std.proofs.Common.{◌≡◌, ◌-◌, ◌++◌, [], take, drop}
use Rattle.std.specs.Int.{to_le_bytes, w8}
use Rattle.columnar_base.specs.Change.{Took}
use Rattle.columnar_base.specs.Elements.{elements, bytes_format}
use Rattle.columnar_base.specs.WordViews.{view_bytes}
use Rattle.columnar_sums.specs.RankColumns.{ranks_bits, ranks_content}
use Rattle.columnar_sums.specs.Results.{weave_results}
use Rattle.columnar_lookback.specs.Recall.{recall}
use Rattle.columnar_lookback.specs.Lookbacks.{lookbacks_code, lookbacks_format, kept_rows, nearest_each, owned_lookbacks, values_back}
use Rattle.columnar_lookback.proofs.lookbacks.grow.LookbacksVecU8VecU64VecU64ArrayU642ExtendFromLookbacksRefSliceU8ViewU64ViewU64ViewU64.extend_from_self.Given as goal

abbrev pub invariant-loop-i : goal.invariant-loop-i
invariant-loop-i g l = record {
  took : Took (lookbacks_format g.TC.Column.format bytes_format) (owned_lookbacks g.TC.Column.content l.initial.self.inner) (owned_lookbacks g.TC.Column.content l.self.inner) (take (l.i - l.start) (drop l.start (recall lookbacks_code [] (weave_results (ranks_bits (ranks_content view_bytes view_bytes view_bytes l.view.inner.indexes)) (g.V.Column.format.rows (g.V.Column.content l.view.inner.oks)) (bytes_format.rows (elements (to_le_bytes w8) l.view.inner.errs.now))))));
  kept : kept_rows g.TC.Column.format (owned_lookbacks g.TC.Column.content l.self.inner) ≡ kept_rows g.TC.Column.format (owned_lookbacks g.TC.Column.content l.initial.self.inner) ++ nearest_each g.TC.Column.format.kin g.row.N (values_back g.TC.Column.format (owned_lookbacks g.TC.Column.content l.initial.self.inner)) (take (l.i - l.start) (drop l.start (recall lookbacks_code [] (weave_results (ranks_bits (ranks_content view_bytes view_bytes view_bytes l.view.inner.indexes)) (g.V.Column.format.rows (g.V.Column.content l.view.inner.oks)) (bytes_format.rows (elements (to_le_bytes w8) l.view.inner.errs.now))))));
}
