use Rattle.std.proofs.Common.{◌∙◌, ◌/◌, sym, ap, subst, length}
use Rattle.std.proofs.lemmas.Result.{on_ok_weaker}
use Rattle.columnar_base.specs.Format.{Content, IsSound, slice}
use Rattle.columnar_base.specs.Elements.{elements_format, elements_rows}
use Rattle.columnar_base.specs.ElementLaws.{rows_typed, elements_copied, whole_slice}
use Rattle.columnar_base.specs.RoomLaws.{elements_left, elements_wanted, wanted, length-elements_rows}
use Rattle.std.proofs.lemmas.List.{length-map}
use Rattle.columnar_core.proofs.vector.VecExtendFromView.extend_from_self.Goals as goal

pub append_bytes-requires : goal.append_bytes-requires
append_bytes-requires g c =
    let P : Content → Type 0 = λ x. IsSound (elements_format g.T.Element.size g.T.Element.align g.T.Element.row_of) x in
    whole_slice g.T.Element.size g.T.Element.row_of c.in-Bytes.bytes.now (subst P (sym c.in-Bytes.ensures) c.part.ensures.sound)

pub returns-in-Typed-clause-ok : goal.returns-in-Typed-clause-ok
returns-in-Typed-clause-ok g c =
    let m = sym (rows_typed g.met.T.Element.element c.in-Typed.items.now) ∙ ap (elements_rows g.T.Element.size g.T.Element.row_of) c.in-Typed.ensures ∙ c.part.ensures.rows in
    on_ok_weaker c.append_typed.result (λ e. rw e (elements_copied g.met.T.Element.element c.args.self.now.items c.in-Typed.items.now c.args.range.start _ m)) c.append_typed.ensures.ok

pub returns-in-Bytes-clause-ok : goal.returns-in-Bytes-clause-ok
returns-in-Bytes-clause-ok g c =
    on_ok_weaker c.append_bytes.result (λ a.
    let m = sym (rows_typed g.met.T.Element.element a.fresh) ∙ ap (elements_rows g.T.Element.size g.T.Element.row_of) (ap slice a.same ∙ c.in-Bytes.ensures) ∙ c.part.ensures.rows in
    rw a.items (elements_copied g.met.T.Element.element c.args.self.now.items a.fresh c.args.range.start _ m)) c.append_bytes.ensures.ok

pub returns-in-Typed-clause-left : goal.returns-in-Typed-clause-left
returns-in-Typed-clause-left g c =
    let m = sym (rows_typed g.met.T.Element.element c.in-Typed.items.now) ∙ ap (elements_rows g.T.Element.size g.T.Element.row_of) c.in-Typed.ensures ∙ c.part.ensures.rows in
    let n = sym (length-map c.in-Typed.items.now _) ∙ ap length m in
    on_ok_weaker c.append_typed.result (λ e. elements_left _ _ _ _ _ (length c.in-Typed.items.now) (sym n) e c.append_typed.ensures.capacity) c.append_typed.ensures.len

pub returns-in-Typed-clause-wanted : goal.returns-in-Typed-clause-wanted
returns-in-Typed-clause-wanted g c =
    let m = sym (rows_typed g.met.T.Element.element c.in-Typed.items.now) ∙ ap (elements_rows g.T.Element.size g.T.Element.row_of) c.in-Typed.ensures ∙ c.part.ensures.rows in
    let n = sym (length-map c.in-Typed.items.now _) ∙ ap length m in
    wanted _ _ _ c.append_typed.result c.append_typed.ensures.full (λ e l. elements_wanted _ _ _ (length c.in-Typed.items.now) (sym n) l)

pub returns-in-Bytes-clause-left : goal.returns-in-Bytes-clause-left
returns-in-Bytes-clause-left g c =
    let m = ap (elements_rows g.T.Element.size g.T.Element.row_of) c.in-Bytes.ensures ∙ c.part.ensures.rows in
    let n = sym (length-elements_rows g.T.Element.size g.T.Element.row_of c.in-Bytes.bytes.now) ∙ ap length m in
    on_ok_weaker c.append_bytes.result (λ e. elements_left _ _ _ _ _ (length c.in-Bytes.bytes.now / g.T.Element.size) (sym n) e c.append_bytes.ensures.capacity) c.append_bytes.ensures.len

pub returns-in-Bytes-clause-wanted : goal.returns-in-Bytes-clause-wanted
returns-in-Bytes-clause-wanted g c =
    let m = ap (elements_rows g.T.Element.size g.T.Element.row_of) c.in-Bytes.ensures ∙ c.part.ensures.rows in
    let n = sym (length-elements_rows g.T.Element.size g.T.Element.row_of c.in-Bytes.bytes.now) ∙ ap length m in
    wanted _ _ _ c.append_bytes.result c.append_bytes.ensures.full (λ e l. elements_wanted _ _ _ (length c.in-Bytes.bytes.now / g.T.Element.size) (sym n) l)
