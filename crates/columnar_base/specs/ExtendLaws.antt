use Rattle.std.proofs.Common.{◌≡◌, ℕ, ◌+◌, ◌-◌, ◌<◌, List, [], ◌∷◌, ◌++◌, length, take, drop, map, refl, sym, ◌∙◌, ap, arith, length-append}
use Rattle.std.specs.Prelude.{Option, Some, slice_index_or, All, slice_get, get_or, option_map}
use Rattle.std.proofs.lemmas.Option.{slice_get-map, slice_get_read}
use Rattle.std.specs.Iterator.{Yields}
use Rattle.std.proofs.lemmas.List.{map-append, length-map, take-append-drop}
use Rattle.std.proofs.Math.Seq.{take-length}
use Rattle.columnar_base.specs.Row.{Row}
use Rattle.columnar_base.specs.Format.{Format, Content, IsSound, IsLawful}
use Rattle.columnar_base.specs.Change.{Took, Refused, StoppedAt, WasCut}
use Rattle.columnar_base.specs.ChangeLaws.{took_twice, took_stayed, true_from, undone, refused_more, grew_stayed}
use Rattle.columnar_base.specs.declared.fault.GrowError.{GrowError}
use Rattle.std.proofs.Math.Seq.{take-append_seam}

-- one more call
pub yields_more : {S A : Type 0} (steps : S → Option A → S → Type 0) (s t u : S) (xs : List A) (x : A) → Yields steps s xs t → steps t (Some x) u → Yields steps s (xs ++ x ∷ []) u
yields_more {S} {A} steps s t u [] x y h = let P : S → Type 0 = λ v. steps v (Some x) u in (u, Rattle.std.proofs.Common.subst P (sym y) h, refl)
yields_more steps s t u (z ∷ xs) x y h = (y.0, y.1, yields_more steps y.0 t u xs x y.2 h)

last_of : {A : Type 0} (xs : List A) (x d : A) → slice_index_or (xs ++ x ∷ []) (length xs) d ≡ x
last_of [] x d = refl
last_of (y ∷ xs) x d = last_of xs x d

pub all_last : {A : Type 0} (P : A → Type 0) (xs : List A) (x : A) → All P (xs ++ x ∷ []) → P x
all_last P xs x h = Rattle.std.proofs.Common.subst P (last_of xs x x) (h (length xs) x (rw length-append (omega arith)))

pub extend_more : {T : Type 0} {f : Format} {old mid new : Content} (meaning : T → Row) (xs : List T) (x : T) → Took f old mid (map meaning xs) → Took f mid new (meaning x ∷ []) → Took f old new (map meaning (xs ++ x ∷ []))
extend_more meaning xs x p q = rw map-append (took_twice p q)

pub extend_stopped : {T : Type 0} {f : Format} {old mid new : Content} {error : GrowError} (meaning : T → Row) (xs : List T) (x : T) → Took f old mid (map meaning xs) → Refused f mid new (meaning x ∷ []) error → StoppedAt f old new (map meaning (xs ++ x ∷ [])) error
extend_stopped {T} {f} {old} {mid} {new} {error} meaning xs x p q =
    let m : map meaning (xs ++ x ∷ []) ≡ map meaning xs ++ meaning x ∷ [] = map-append meaning xs (x ∷ []) in
    let l : length (map meaning (xs ++ x ∷ [])) ≡ length xs + 1 = length-map (xs ++ x ∷ []) meaning ∙ length-append xs (x ∷ []) in
    let k : length (map meaning xs) ≡ length xs = length-map xs meaning in
    let a : take (length xs) (map meaning (xs ++ x ∷ [])) ≡ map meaning xs = rw (m, ← k) (take-append_seam (map meaning xs) (meaning x ∷ [])) in
    let b : take (length xs + 1) (map meaning (xs ++ x ∷ [])) ≡ map meaning (xs ++ x ∷ []) = rw (← l) (take-length (map meaning (xs ++ x ∷ []))) in
    record {
      count = length xs;
      last = sym l;
      took = rw a (took_stayed p q.stayed);
      cause = rw (b, m) (true_from f f mid old (meaning x ∷ []) (map meaning xs ++ meaning x ∷ []) error (λ e h. p.adds e (meaning x ∷ []) h) q.cause);
    }

-- items that were taken up to a refusal, then rolled back: the call took none
pub refused_whole : {f : Format} {old mid new : Content} {error : GrowError} (items : List Row) → IsLawful f → IsSound f old → StoppedAt f old mid items error → WasCut f mid new (length (f.rows old)) → Refused f old new items error
refused_whole {f} {old} {mid} {new} {error} items law s h w = record {
  stayed = undone law s h.took.grew w;
  cause = true_from f f old old (take (h.count + 1) items) items error (λ e k. rw (take-append-drop (h.count + 1) items) at (law.more e old (length (f.rows old)) (take (h.count + 1) items) (drop (h.count + 1) items) k)) h.cause;
}

-- the row of an item that was read
pub item_row_at : {T : Type 0} (meaning : T → Row) (items : List T) (i : ℕ) (x : T) → i < length items → x ≡ get_or items i x → slice_get (map meaning items) i ≡ Some (meaning x)
item_row_at meaning items i x l e = slice_get-map meaning items i ∙ ap (option_map meaning) (slice_get_read items (length items) i x refl l e)

-- a push that was refused at item i, after it took the items before, then rolled back
pub items_refused : {T : Type 0} {f : Format} {old mid refused new : Content} {error : GrowError} (meaning : T → Row) (items : List T) (i : ℕ) (x : T) → IsLawful f → IsSound f old → i < length items → x ≡ get_or items i x → Took f old mid (take (i - 0) (drop 0 (map meaning items))) → Refused f mid refused (meaning x ∷ []) error → WasCut f refused new (length (f.rows old)) → Refused f old new (map meaning items) error
items_refused meaning items i x law s l e t r w =
    let n : i < length (map meaning items) = rw (length-map items meaning) l in
    let z : length (map meaning items) - 0 ≡ length (map meaning items) = omega arith in
    rw (z, take-length (map meaning items)) at (refused_more (map meaning items) 0 i (length (map meaning items)) (meaning x) law (omega arith) n (item_row_at meaning items i x l e) t r.cause (undone law s (grew_stayed t.grew r.stayed) w))
