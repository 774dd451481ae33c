use Rattle.std.proofs.lemmas.Result.{IfErr-weaker}
use Rattle.columnar_sums.specs.MarkedLaws.{on_ok_both}
use Rattle.columnar_sums.specs.ResultLaws.{results_parts, results_took_ok, results_took_err, results_refused_ok, results_refused_err}
use Rattle.std.proofs.Common.{true, false, [], ◌∷◌, length, refl, ⊎_elim}
use Rattle.columnar_core.specs.Row.{ok, err, truth}
use Rattle.columnar_sums.specs.RankColumns.{ranked_bits}
use Rattle.columnar_sums.specs.Rooms.{held_top}
use Rattle.columnar_sums.specs.Results.{oks, errs}
use Rattle.columnar_core.specs.RoomLaws.{both_leave, full_left, full_right, counted_leaves, counted_full, through_leaves, through_full, leaves_none}
use Rattle.columnar_sums.specs.RoomLaws.{count_counted}
use Rattle.columnar_sums.proofs.result.grow.ResultsVecU64VecU64ArrayU642PushRefResult.push_ref.Goals as goal

pub push_ref_marked-requires-clause-values : goal.push_ref_marked-requires-clause-values
push_ref_marked-requires-clause-values g c = (results_parts g.SC.Column.format g.TC.Column.format c.requires.sound).oks

pub push_ref_marked-requires-in-Err-clause-values : goal.push_ref_marked-requires-in-Err-clause-values
push_ref_marked-requires-in-Err-clause-values g c = (results_parts g.SC.Column.format g.TC.Column.format c.requires.sound).errs

pub returns-in-Ok-clause-ok : goal.returns-in-Ok-clause-ok
returns-in-Ok-clause-ok g c = on_ok_both c.push_ref_marked.result (λ h k. rw c.in-Ok.is (results_took_ok g.SC.Column.format g.TC.Column.format g.met.SC.Truncate.lawful.same g.met.TC.Truncate.lawful.same c.requires.sound h k)) c.push_ref_marked.ensures.value c.push_ref_marked.ensures.bit

pub returns-in-Ok-clause-err : goal.returns-in-Ok-clause-err
returns-in-Ok-clause-err g c = IfErr-weaker c.push_ref_marked.result _ _ (λ e h. rw c.in-Ok.is (results_refused_ok g.SC.Column.format g.TC.Column.format (g.S.Item.meaning c.in-Ok.value) c.requires.sound h)) c.push_ref_marked.ensures.err

pub returns-in-Err-clause-ok : goal.returns-in-Err-clause-ok
returns-in-Err-clause-ok g c = on_ok_both c.push_ref_marked-in-Err.result (λ h k. rw c.in-Err.is (results_took_err g.SC.Column.format g.TC.Column.format g.met.SC.Truncate.lawful.same g.met.TC.Truncate.lawful.same c.requires.sound h k)) c.push_ref_marked-in-Err.ensures.value c.push_ref_marked-in-Err.ensures.bit

pub returns-in-Err-clause-err : goal.returns-in-Err-clause-err
returns-in-Err-clause-err g c = IfErr-weaker c.push_ref_marked-in-Err.result _ _ (λ e h. rw c.in-Err.is (results_refused_err g.SC.Column.format g.TC.Column.format (g.T.Item.meaning c.in-Err.value) c.requires.sound h)) c.push_ref_marked-in-Err.ensures.err

pub returns-in-Ok-clause-wanted : goal.returns-in-Ok-clause-wanted
returns-in-Ok-clause-wanted g c = λ k. IfErr-weaker c.push_ref_marked.result _ _ (λ e h. rw c.in-Ok.is (⊎_elim (λ p. full_right _ (full_left _ (through_full oks (ok (g.S.Item.meaning c.in-Ok.value) ∷ []) (λ rs. refl) p))) (λ p. full_left _ (counted_full (ok (g.S.Item.meaning c.in-Ok.value) ∷ []) (truth true ∷ []) refl (count_counted (length (ranked_bits c.args.self.now.indexes)) (held_top c.args.self.now.indexes)) p)) h)) (c.push_ref_marked.ensures.wanted k.0)

pub returns-in-Ok-clause-left : goal.returns-in-Ok-clause-left
returns-in-Ok-clause-left g c = on_ok_both c.push_ref_marked.result (λ h k. rw c.in-Ok.is (both_leave (counted_leaves (ok (g.S.Item.meaning c.in-Ok.value) ∷ []) (truth true ∷ []) refl (count_counted (length (ranked_bits c.args.self.now.indexes)) (held_top c.args.self.now.indexes)) k) (both_leave (through_leaves oks (ok (g.S.Item.meaning c.in-Ok.value) ∷ []) (λ rs. refl) h) (through_leaves {a = g.TC.Column.room c.args.self.now.errs} errs (ok (g.S.Item.meaning c.in-Ok.value) ∷ []) (λ rs. refl) leaves_none)))) c.push_ref_marked.ensures.value_left c.push_ref_marked.ensures.bit_left

pub returns-in-Err-clause-wanted : goal.returns-in-Err-clause-wanted
returns-in-Err-clause-wanted g c = λ k. IfErr-weaker c.push_ref_marked-in-Err.result _ _ (λ e h. rw c.in-Err.is (⊎_elim (λ p. full_right _ (full_right _ (through_full errs (err (g.T.Item.meaning c.in-Err.value) ∷ []) (λ rs. refl) p))) (λ p. full_left _ (counted_full (err (g.T.Item.meaning c.in-Err.value) ∷ []) (truth false ∷ []) refl (count_counted (length (ranked_bits c.args.self.now.indexes)) (held_top c.args.self.now.indexes)) p)) h)) (c.push_ref_marked-in-Err.ensures.wanted k.1)

pub returns-in-Err-clause-left : goal.returns-in-Err-clause-left
returns-in-Err-clause-left g c = on_ok_both c.push_ref_marked-in-Err.result (λ h k. rw c.in-Err.is (both_leave (counted_leaves (err (g.T.Item.meaning c.in-Err.value) ∷ []) (truth false ∷ []) refl (count_counted (length (ranked_bits c.args.self.now.indexes)) (held_top c.args.self.now.indexes)) k) (both_leave (through_leaves {a = g.SC.Column.room c.args.self.now.oks} oks (err (g.T.Item.meaning c.in-Err.value) ∷ []) (λ rs. refl) leaves_none) (through_leaves errs (err (g.T.Item.meaning c.in-Err.value) ∷ []) (λ rs. refl) h)))) c.push_ref_marked-in-Err.ensures.value_left c.push_ref_marked-in-Err.ensures.bit_left
