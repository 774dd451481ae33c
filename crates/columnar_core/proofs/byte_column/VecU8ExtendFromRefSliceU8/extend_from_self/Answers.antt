use Rattle.std.proofs.Common.{◌-◌, w8, length, sym, ap, ◌∙◌}
use Rattle.std.proofs.lemmas.Result.{on_ok_weaker}
use Rattle.columnar_base.specs.ElementLaws.{length-typed, elements_copied}
use Rattle.columnar_base.specs.NumberLaws.{unsigned_element}
use Rattle.columnar_core.specs.AppendedLaws.{piece_means}
use Rattle.columnar_base.specs.RoomLaws.{elements_left, elements_wanted, wanted}
use Rattle.std.proofs.lemmas.List.{length-map}
use Rattle.columnar_core.proofs.byte_column.VecU8ExtendFromRefSliceU8.extend_from_self.Goals as goal

pub elements_between-requires-clause-in_range : goal.elements_between-requires-clause-in_range
elements_between-requires-clause-in_range c = rw (length-typed (unsigned_element w8) c.args.view.now) at c.requires.in_range

pub returns-clause-ok : goal.returns-clause-ok
returns-clause-ok c =
    let n = c.args.range.«end» - c.args.range.start in
    on_ok_weaker c.append_typed.result (λ e. rw e (elements_copied (unsigned_element w8) c.args.self.now.items c.elements_between.result.now c.args.range.start _ (piece_means (unsigned_element w8) c.args.view.now c.elements_between.result.now c.args.range.start n c.elements_between.ensures))) c.append_typed.ensures.ok

pub returns-clause-left : goal.returns-clause-left
returns-clause-left c =
    let n = c.args.range.«end» - c.args.range.start in
    let m = piece_means (unsigned_element w8) c.args.view.now c.elements_between.result.now c.args.range.start n c.elements_between.ensures in
    let l = sym (length-map c.elements_between.result.now _) ∙ ap length m in
    on_ok_weaker c.append_typed.result (λ e. elements_left _ _ _ _ _ (length c.elements_between.result.now) (sym l) e c.append_typed.ensures.capacity) c.append_typed.ensures.len

pub returns-clause-wanted : goal.returns-clause-wanted
returns-clause-wanted c =
    let n = c.args.range.«end» - c.args.range.start in
    let m = piece_means (unsigned_element w8) c.args.view.now c.elements_between.result.now c.args.range.start n c.elements_between.ensures in
    let l = sym (length-map c.elements_between.result.now _) ∙ ap length m in
    wanted _ _ _ c.append_typed.result c.append_typed.ensures.full (λ e h. elements_wanted _ _ _ (length c.elements_between.result.now) (sym l) h)
