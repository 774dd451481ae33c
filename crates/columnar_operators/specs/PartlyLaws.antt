-- What a column has taken while runs of rows are copied into it.
use Rattle.std.proofs.Common.{◌≡◌, ℕ, suc, ◌+◌, ◌-◌, ◌<◌, ◌≤◌, true, List, [], ◌∷◌, ◌++◌, length, take, drop, refl, sym, ◌∙◌, ap, subst, arith, append-nil, append_assoc}
use Rattle.std.specs.Prelude.{slice_get, Some}
use Rattle.columnar_base.specs.Row.{Row}
use Rattle.columnar_base.specs.Format.{Format, Content, IsSound, IsLawful, Excess, refuses_more}
use Rattle.columnar_base.specs.Change.{Took, Stayed, WasCut, Refused, IsTrueOf}
use Rattle.columnar_base.specs.Room.{WasFull, Leaves}
use Rattle.columnar_base.specs.RoomLaws.{leaves_none, leaves_twice, full_front, full_after}
use Rattle.columnar_base.specs.ChangeLaws.{took_none, took_twice, took_stayed, undone, true_from, slice_get-drop, take-suc_get}
use Rattle.columnar_base.specs.declared.fault.GrowError.{GrowError}
use Rattle.columnar_operators.specs.Partly.{Partly, Pending, AtRun}

-- what was taken before the refusal is taken back
pub partly_undone : {f : Format} {room : List Row → Type 0} {old mid new : Content} {added : List Row} {error : GrowError} → IsLawful f → IsSound f old → Partly f room old mid added error → WasCut f mid new (length (f.rows old)) → Refused f old new added error
partly_undone law s p cut = record { stayed = undone law s p.took.grew cut; cause = p.cause }

-- nothing was taken, and no run stands
pub pending_none : {f : Format} {room : List Row → Type 0} {c : Content} {added : List Row} → IsSound f c → Pending f room room c c [] added added
pending_none {f} {room} {c} {added} s = record { front = []; took = took_none s; leaves = leaves_none; whole = refl }

-- the run was copied
pub pending_copied : {f : Format} {x y z : List Row → Type 0} {old mid new : Content} {run rest added : List Row} → Pending f x y old mid run rest added → Took f mid new run → Leaves y z run → Pending f x z old new [] rest added
pending_copied {f} {x} {y} {z} {old} {mid} {new} {run} {rest} {added} p t l = record { front = p.front ++ run; took = took_twice p.took t; leaves = leaves_twice p.front run p.leaves l; whole = p.whole ∙ sym (append_assoc p.front run rest) }

-- more of the rest stands in the run
pub pending_more : {f : Format} {x y : List Row → Type 0} {old mid : Content} {run rest added : List Row} (more left : List Row) → Pending f x y old mid run rest added → rest ≡ more ++ left → Pending f x y old mid (run ++ more) left added
pending_more {f} {x} {y} {old} {mid} {run} {rest} {added} more left p e = record { front = p.front; took = p.took; leaves = p.leaves; whole = p.whole ∙ ap (λ t. p.front ++ (run ++ t)) e ∙ ap (λ t. p.front ++ t) (sym (append_assoc run more left)) }

last_whole : {f : Format} {x y : List Row → Type 0} {old mid : Content} {run added : List Row} (p : Pending f x y old mid run [] added) → added ≡ p.front ++ run
last_whole {f} {x} {y} {old} {mid} {run} {added} p = p.whole ∙ ap (λ (r : List Row). p.front ++ r) (append-nil run)

-- the last run was copied
pub last_taken : {f : Format} {x y : List Row → Type 0} {old mid new : Content} {run added : List Row} → Pending f x y old mid run [] added → Took f mid new run → Took f old new added
last_taken p t = rw (last_whole p) (took_twice p.took t)

pub last_leaves : {f : Format} {x y z : List Row → Type 0} {old mid : Content} {run added : List Row} → Pending f x y old mid run [] added → Leaves y z run → Leaves x z added
last_leaves {f} {x} {y} {z} {old} {mid} {run} {added} p l = rw (last_whole p) (leaves_twice p.front run p.leaves l)

-- the run was refused
pub pending_refused : {f : Format} {x y : List Row → Type 0} {old mid new : Content} {run rest added : List Row} {error : GrowError} → IsLawful f → Pending f x y old mid run rest added → Refused f mid new run error → WasFull y run error → Partly f x old new added error
pending_refused {f} {x} {y} {old} {mid} {new} {run} {rest} {added} {error} law p r w = record {
  front = p.front;
  took = took_stayed p.took r.stayed;
  cause = true_from f f mid old run added error (λ e k.
      rw (p.whole, ← append_assoc p.front run rest) (law.more e old (length (f.rows old)) (p.front ++ run) rest (p.took.adds e run k))) r.cause;
  full = rw (p.whole, ← append_assoc p.front run rest) (full_front (p.front ++ run) rest (full_after p.front run p.leaves w));
}

-- a run that goes on by one row
pub run_more : {A : Type 0} (xs : List A) (start «end» : ℕ) (x : A) → start ≤ «end» → slice_get xs «end» ≡ Some x → take («end» + 1 - start) (drop start xs) ≡ take («end» - start) (drop start xs) ++ x ∷ []
run_more xs start «end» x l h =
    let n : «end» + 1 - start ≡ suc («end» - start) = omega arith in
    rw n (take-suc_get («end» - start) (drop start xs) x (slice_get-drop start xs «end» («end» - start) x (omega arith) h))

no_rows : {A : Type 0} (m : ℕ) (xs : List A) → take (m - m) (drop m xs) ≡ []
no_rows m xs = let z : m - m ≡ 0 = omega arith in rw z refl

-- the first run is empty
pub at_run_none : {f : Format} {room : List Row → Type 0} {c : Content} {added : List Row} (rows : List Row) (m : ℕ) → m ≤ length rows → IsSound f c → AtRun f room room rows c c m m added added
at_run_none rows m l s = record { ordered = omega arith; within = l; pending = rw (no_rows m rows) (pending_none s) }

-- the next row is that of the run
pub at_run_next : {f : Format} {x y : List Row → Type 0} {rows rest added : List Row} {old new : Content} {start n : ℕ} (r : Row) (left : List Row) → slice_get rows n ≡ Some r → n < length rows → rest ≡ r ∷ left → AtRun f x y rows old new start n rest added → AtRun f x y rows old new start (n + 1) left added
at_run_next {f} {x} {y} {rows} {rest} {added} {old} {new} {start} {n} r left h l e a =
    record { ordered = omega (arith, a.ordered); within = omega arith; pending = rw (run_more rows start n r a.ordered h) (pending_more (r ∷ []) left a.pending e) }

-- the run was copied, and another begins
pub at_run_new : {f : Format} {x y z : List Row → Type 0} {rows rest added : List Row} {old mid new : Content} {start n : ℕ} (m : ℕ) → m ≤ length rows → Took f mid new (take (n - start) (drop start rows)) → Leaves y z (take (n - start) (drop start rows)) → AtRun f x y rows old mid start n rest added → AtRun f x z rows old new m m rest added
at_run_new {f} {x} {y} {z} {rows} {rest} {added} {old} {mid} {new} {start} {n} m l t k a =
    record { ordered = omega arith; within = l; pending = rw (no_rows m rows) (pending_copied a.pending t k) }

-- the last run was copied
pub at_run_done : {f : Format} {x y : List Row → Type 0} {rows rest added : List Row} {old mid new : Content} {start n : ℕ} → rest ≡ [] → AtRun f x y rows old mid start n rest added → Took f mid new (take (n - start) (drop start rows)) → Took f old new added
at_run_done e a t = last_taken (rw e at a.pending) t

pub at_run_leaves : {f : Format} {x y z : List Row → Type 0} {rows rest added : List Row} {old mid : Content} {start n : ℕ} → rest ≡ [] → AtRun f x y rows old mid start n rest added → Leaves y z (take (n - start) (drop start rows)) → Leaves x z added
at_run_leaves e a l = last_leaves (rw e at a.pending) l

-- a run was refused
pub at_run_refused : {f : Format} {x y : List Row → Type 0} {rows rest added : List Row} {old mid new : Content} {start n : ℕ} {error : GrowError} → IsLawful f → AtRun f x y rows old mid start n rest added → Refused f mid new (take (n - start) (drop start rows)) error → WasFull y (take (n - start) (drop start rows)) error → Partly f x old new added error
at_run_refused law a r w = pending_refused law a.pending r w

-- what is left, in another form
pub at_run_rest : {f : Format} {x y : List Row → Type 0} {rows rest left added : List Row} {old new : Content} {start n : ℕ} → rest ≡ left → AtRun f x y rows old new start n rest added → AtRun f x y rows old new start n left added
at_run_rest {f} {x} {y} {rows} {rest} {left} {added} {old} {new} {start} {n} e a = subst (λ (r : List Row). AtRun f x y rows old new start n r added) e a

-- a run at the front of what is left was copied
pub pending_next : {f : Format} {x y z : List Row → Type 0} {old mid new : Content} {rest added : List Row} (run left : List Row) → Pending f x y old mid [] rest added → rest ≡ run ++ left → Took f mid new run → Leaves y z run → Pending f x z old new [] left added
pending_next run left p e t l = pending_copied (pending_more run left p e) t l
