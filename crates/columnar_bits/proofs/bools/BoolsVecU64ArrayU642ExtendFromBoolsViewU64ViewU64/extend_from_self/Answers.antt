use Rattle.std.proofs.lemmas.Result.{on_ok_weaker}
use Rattle.columnar_core.specs.WordViews.{view_bytes}
use Rattle.columnar_bits.specs.BoolColumns.{bits_in}
use Rattle.std.proofs.Common.{arith}
use Rattle.columnar_bits.specs.RoomLaws.{bits_full, bits_left_on}
use Rattle.columnar_bits.specs.BoolLaws.{bools_parts, bools_copied, rows_between, length_between, length_range}
use Rattle.columnar_bits.proofs.bools.BoolsVecU64ArrayU642ExtendFromBoolsViewU64ViewU64.extend_from_self.Goals as goal

pub returns-clause-ok : goal.returns-clause-ok
returns-clause-ok c =
    let bits = bits_in (view_bytes c.args.view.values) (view_bytes c.args.view.tail) in
    on_ok_weaker c.extend_bits_from.result (λ e. bools_copied c.args.range.start _ (record { sound = bools_parts c.extend_bits_from.ensures.sound; bits = e }) (rows_between bits c.args.range.start c.args.range.«end»)) c.extend_bits_from.ensures.ok

pub returns-clause-wanted : goal.returns-clause-wanted
returns-clause-wanted c =
    let bits = bits_in (view_bytes c.args.view.values) (view_bytes c.args.view.tail) in
    bits_full _ _ _ _ c.extend_bits_from.result (length_between bits c.args.range.start c.args.range.«end» c.requires.in_range) c.extend_bits_from.ensures.wanted

pub returns-clause-left : goal.returns-clause-left
returns-clause-left c =
    let bits = bits_in (view_bytes c.args.view.values) (view_bytes c.args.view.tail) in
    bits_left_on _ _ _ _ _ _ _ c.extend_bits_from.result (length_between bits c.args.range.start c.args.range.«end» c.requires.in_range) (length_range bits c.args.range.start c.args.range.«end» c.requires.in_range) c.extend_bits_from.ensures.capacity c.extend_bits_from.ensures.ok
