use Rattle.std.proofs.lemmas.Result.{on_ok_weaker, IfErr-weaker}
use Rattle.columnar_sums.specs.MarkedLaws.{on_ok_both}
use Rattle.columnar_sums.specs.OptionLaws.{options_parts, options_took_some, options_took_none, options_refused_some, options_refused_false}
use Rattle.std.proofs.Common.{true, false, [], ◌∷◌, length, refl, ⊎_elim}
use Rattle.columnar_core.specs.Row.{some, none, truth}
use Rattle.columnar_sums.specs.RankColumns.{ranked_bits}
use Rattle.columnar_sums.specs.Rooms.{held_top}
use Rattle.columnar_sums.specs.Options.{somes}
use Rattle.columnar_core.specs.RoomLaws.{both_leave, full_left, full_right, counted_leaves, counted_full, through_leaves, through_full, leaves_none}
use Rattle.columnar_sums.specs.RoomLaws.{count_counted}
use Rattle.columnar_sums.proofs.option.grow.OptionsAnyVecU64VecU64ArrayU642PushRefOptionAnyImpl6a947abb.push_ref.Goals as goal

pub push_ref_marked-requires-clause-values : goal.push_ref_marked-requires-clause-values
push_ref_marked-requires-clause-values g c = (options_parts g.TC.Column.format c.requires.sound).values

pub returns-in-Some-clause-ok : goal.returns-in-Some-clause-ok
returns-in-Some-clause-ok g c = on_ok_both c.push_ref_marked.result (λ h k. rw c.in-Some.is (options_took_some g.TC.Column.format g.met.TC.Truncate.lawful.same c.requires.sound h k)) c.push_ref_marked.ensures.value c.push_ref_marked.ensures.bit

pub returns-in-Some-clause-err : goal.returns-in-Some-clause-err
returns-in-Some-clause-err g c = IfErr-weaker c.push_ref_marked.result _ _ (λ e h. rw c.in-Some.is (options_refused_some g.TC.Column.format (g.T.Item.meaning c.in-Some.value) c.requires.sound h)) c.push_ref_marked.ensures.err

pub returns-in-None-clause-ok : goal.returns-in-None-clause-ok
returns-in-None-clause-ok g c = on_ok_weaker c.push.result (λ h. rw c.in-None.is (options_took_none g.TC.Column.format g.met.TC.Truncate.lawful.same c.requires.sound h)) c.push.ensures.ok

pub returns-in-None-clause-err : goal.returns-in-None-clause-err
returns-in-None-clause-err g c = IfErr-weaker c.push.result _ _ (λ e h. rw c.in-None.is (options_refused_false g.TC.Column.format c.requires.sound h)) c.push.ensures.err

pub returns-in-Some-clause-wanted : goal.returns-in-Some-clause-wanted
returns-in-Some-clause-wanted g c = λ k. IfErr-weaker c.push_ref_marked.result _ _ (λ e h. rw c.in-Some.is (⊎_elim (λ p. full_right _ (through_full somes (some (g.T.Item.meaning c.in-Some.value) ∷ []) (λ rs. refl) p)) (λ p. full_left _ (counted_full (some (g.T.Item.meaning c.in-Some.value) ∷ []) (truth true ∷ []) refl (count_counted (length (ranked_bits c.args.self.now.indexes)) (held_top c.args.self.now.indexes)) p)) h)) (c.push_ref_marked.ensures.wanted k)

pub returns-in-Some-clause-left : goal.returns-in-Some-clause-left
returns-in-Some-clause-left g c = on_ok_both c.push_ref_marked.result (λ h k. rw c.in-Some.is (both_leave (counted_leaves (some (g.T.Item.meaning c.in-Some.value) ∷ []) (truth true ∷ []) refl (count_counted (length (ranked_bits c.args.self.now.indexes)) (held_top c.args.self.now.indexes)) k) (through_leaves somes (some (g.T.Item.meaning c.in-Some.value) ∷ []) (λ rs. refl) h))) c.push_ref_marked.ensures.value_left c.push_ref_marked.ensures.bit_left

pub returns-in-None-clause-wanted : goal.returns-in-None-clause-wanted
returns-in-None-clause-wanted g c = λ k. IfErr-weaker c.push.result _ _ (λ e h. rw c.in-None.is (full_left _ (counted_full (none ∷ []) (truth false ∷ []) refl (count_counted (length (ranked_bits c.args.self.now.indexes)) (held_top c.args.self.now.indexes)) h))) c.push.ensures.wanted

pub returns-in-None-clause-left : goal.returns-in-None-clause-left
returns-in-None-clause-left g c = on_ok_weaker c.push.result (λ h. rw c.in-None.is (both_leave (counted_leaves (none ∷ []) (truth false ∷ []) refl (count_counted (length (ranked_bits c.args.self.now.indexes)) (held_top c.args.self.now.indexes)) h) (through_leaves {a = g.TC.Column.room c.args.self.now.somes} somes (none ∷ []) (λ rs. refl) leaves_none))) c.push.ensures.left
