use Rattle.std.proofs.Common.{◌≡◌, ℕ, ◌+◌, List, length, map, [], ◌∷◌, ◌++◌, sym, ◌∙◌, ap, subst, arith, length-append, refl}
use Rattle.std.proofs.lemmas.List.{nil_from_length, length-map}
use Rattle.columnar_core.specs.Format.{Format, Content}
use Rattle.columnar_core.specs.Row.{Row}
use Rattle.columnar_core.specs.Change.{Took, Refused}
use Rattle.columnar_core.specs.ChangeLaws.{passed_on, took_none}
use Rattle.columnar_core.specs.AlikeLaws.{alike_length}
use Rattle.columnar_core.specs.RoomLaws.{leaves_none, leaves_more, full_more}
use Rattle.columnar_base.specs.ExtendLaws.{yields_more, all_last, extend_more, extend_stopped}
use Rattle.columnar_core.specs.declared.fault.GrowError.{GrowError}
use Rattle.columnar_bytes.specs.Stashes.{variant_of, typed}
use Rattle.columnar_bytes.proofs.stash.Stash.extend.Goals as goal

-- where the rows are as before, no item was taken
none_taken : {T : Type 0} {f : Format} {old mid : Content} (meaning : T → Row) (xs : List T) → Took f old mid (map meaning xs) → f.rows mid ≡ f.rows old → xs ≡ []
none_taken {f = f} {old = old} meaning xs t e =
    let n = ap length t.grew.rows in
    let a = length-append (f.rows old) t.fresh in
    let k = alike_length f.alike t.fresh (map meaning xs) t.alike in
    let m = length-map xs meaning in
    nil_from_length xs (omega (arith, n, a, k, m, ap length e))

-- a list with one more is not empty
one_more : {T : Type 0} (xs : List T) (x : T) → xs ++ x ∷ [] ≡ [] → ⊥
one_more [] x h = cc
one_more (y ∷ xs) x h = cc

pub loop-item-init : goal.loop-item-init
loop-item-init g c = record { took = took_none c.requires.sound; left = leaves_none; first = λ e. refl; later = λ h. absurd (h refl) }

pub push-requires-clause-valid : goal.push-requires-clause-valid
push-requires-clause-valid g c = all_last g.T.Item.valid c.loop-item.yielded c.in-Some.item (c.requires.valid (c.loop-item.yielded ++ c.in-Some.item ∷ []) c.next.new.self (rw c.into_iter-item-iterator.ensures.into_iter_gives at (yields_more g.I.Iterator.next_gives c.into_iter-item-iterator.result c.loop-item.item-iterator c.next.new.self c.loop-item.yielded c.in-Some.item c.loop-item.yielded_by c.in-Some.ensures.steps)))

pub loop-item-preserved : goal.loop-item-preserved
loop-item-preserved g c = record {
  took = extend_more g.T.Item.meaning c.loop-item.yielded c.in-Some.item c.loop-item.invariant.took c.in_ok-push.ensures.ok;
  left = leaves_more g.T.Item.meaning c.loop-item.yielded c.in-Some.item c.loop-item.invariant.left c.in_ok-push.ensures.left;
  first = λ e. absurd (one_more c.loop-item.yielded c.in-Some.item e);
  later = λ h. c.in_ok-push.ensures.typed;
}

pub returns-in_err-push-clause-err : goal.returns-in_err-push-clause-err
returns-in_err-push-clause-err g c = rw (passed_on c.from_residual.result c.from_residual.ensures.1) ((c.loop-item.yielded ++ c.in-Some.item ∷ [], c.next.new.self, (rw c.into_iter-item-iterator.ensures.into_iter_gives at (yields_more g.I.Iterator.next_gives c.into_iter-item-iterator.result c.loop-item.item-iterator c.next.new.self c.loop-item.yielded c.in-Some.item c.loop-item.yielded_by c.in-Some.ensures.steps), extend_stopped g.T.Item.meaning c.loop-item.yielded c.in-Some.item c.loop-item.invariant.took c.in_err-push.ensures.err)))

pub returns-in_err-push-clause-bytes : goal.returns-in_err-push-clause-bytes
returns-in_err-push-clause-bytes g c = λ e n.
    let i = c.loop-item.invariant.first (none_taken g.T.Item.meaning c.loop-item.yielded c.loop-item.invariant.took (sym c.in_err-push.ensures.err.stayed.rows ∙ e)) in
    c.in_err-push.ensures.bytes (λ t. n (sym (ap variant_of i) ∙ t)) ∙ i

pub returns-in_err-push-clause-wanted : goal.returns-in_err-push-clause-wanted
returns-in_err-push-clause-wanted g c = λ k. rw (passed_on c.from_residual.result c.from_residual.ensures.1) ((c.loop-item.yielded ++ c.in-Some.item ∷ [], c.next.new.self, (rw c.into_iter-item-iterator.ensures.into_iter_gives at (yields_more g.I.Iterator.next_gives c.into_iter-item-iterator.result c.loop-item.item-iterator c.next.new.self c.loop-item.yielded c.in-Some.item c.loop-item.yielded_by c.in-Some.ensures.steps), (extend_stopped g.T.Item.meaning c.loop-item.yielded c.in-Some.item c.loop-item.invariant.took c.in_err-push.ensures.err, full_more g.T.Item.meaning c.loop-item.yielded c.in-Some.item c.loop-item.invariant.left (c.in_err-push.ensures.wanted k)))))
