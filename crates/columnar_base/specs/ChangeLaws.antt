use Rattle.std.specs.Prelude.{slice_get, Some, Result, Err}
use Rattle.std.specs.Result.{IsErrAnd}
use Rattle.std.proofs.Common.{◌≡◌, ℕ, zero, suc, ◌+◌, ◌-◌, ◌<◌, ◌≤◌, true, List, [], ◌∷◌, ◌++◌, length, take, drop, refl, append-nil, sym, ◌∙◌, ap, arith, length-append, append_assoc}
use Rattle.std.proofs.Math.Seq.{take-append_seam}
use Rattle.std.proofs.lemmas.Result.{err_from_is_err_and}
use Rattle.columnar_base.specs.Row.{Row}
use Rattle.columnar_base.specs.Format.{Format, Content, IsSound, IsLawful, IsExact, Excess, too_many, misplaced, refuses_more}
use Rattle.columnar_base.specs.AlikeLaws.{alike_is, all_alike-append}
use Rattle.columnar_base.specs.declared.fault.GrowError.{GrowError}
use Rattle.columnar_base.specs.declared.fault.GrowError.TheVariants.{Memory, Length, Offset, Format as FormatError}
use Rattle.columnar_base.specs.Change.{Keeps, Grew, Stayed, WasCut, Took, IsTrueOf, Refused}

-- the exit of a `?` returns the error that it received
pub passed_on : {T E : Type 0} {e : E} (r : Result T E) → IsErrAnd r (λ y. y ≡ e) → r ≡ Err e
passed_on r h = let p = err_from_is_err_and r h in p.1 ∙ ap Err p.2

pub keeps_all : {f : Format} {c : Content} {n : ℕ} → Keeps f c c n
keeps_all = record { extents = λ n l. refl; limits = λ n l e rs. refl }

-- growth followed by a cut to the old length changes nothing
pub undone : {f : Format} {old mid new : Content} {added : List Row} → IsLawful f → IsSound f old → Grew f old mid added → WasCut f mid new (length (f.rows old)) → Stayed f old new
undone {f} {old} {mid} {new} {added} law s g w = record {
  sound = w.sound;
  rows = w.rows ∙ (rw g.rows (take-append_seam (f.rows old) added));
  lengths_same = w.lengths_cut ∙ (g.kept.extents (length (f.rows old)) (omega arith) ∙ law.full old s);
  kept = record { extents = λ n l. w.kept.extents n l ∙ g.kept.extents n l; limits = λ n l e rs. w.kept.limits n l e rs ∙ g.kept.limits n l e rs };
}

pub unchanged : {f : Format} {c : Content} → IsSound f c → Stayed f c c
unchanged s = record { sound = s; rows = refl; lengths_same = refl; kept = keeps_all }

-- two refused calls in sequence
pub stayed_twice : {f : Format} {x y z : Content} → Stayed f x y → Stayed f y z → Stayed f x z
stayed_twice {f} {x} {y} {z} p q = record {
  sound = q.sound;
  rows = q.rows ∙ p.rows;
  lengths_same = q.lengths_same ∙ p.lengths_same;
  kept = record { extents = λ n l. q.kept.extents n (rw p.rows l) ∙ p.kept.extents n l; limits = λ n l e rs. q.kept.limits n (rw p.rows l) e rs ∙ p.kept.limits n l e rs };
}

-- a refused call leaves what is refused
pub refuses_stayed : {f : Format} {x y : Content} → Stayed f x y → (e : Excess) (rs : List Row) → refuses_more f e y rs ≡ refuses_more f e x rs
refuses_stayed {f} {x} {y} g e rs = ap (λ n. f.refuses e y n rs) (ap length g.rows) ∙ g.kept.limits (length (f.rows x)) (omega arith) e rs

pub grew_twice : {f : Format} {x y z : Content} {r s : List Row} → Grew f x y r → Grew f y z s → Grew f x z (r ++ s)
grew_twice {f} {x} {y} {z} {r} {s} p q = record {
  sound = q.sound;
  rows = rw (q.rows, p.rows) (append_assoc (f.rows x) r s);
  kept = record { extents = λ n l. q.kept.extents n (rw (p.rows, length-append) (omega arith)) ∙ p.kept.extents n l; limits = λ n l e rs. q.kept.limits n (rw (p.rows, length-append) (omega arith)) e rs ∙ p.kept.limits n l e rs };
}

pub grew_none : {f : Format} {c : Content} → IsSound f c → Grew f c c []
grew_none {f} {c} s = record { sound = s; rows = sym (append-nil (f.rows c)); kept = keeps_all }

pub grew_stayed : {f : Format} {x y z : Content} {r : List Row} → Grew f x y r → Stayed f y z → Grew f x z r
grew_stayed {f} {x} {y} {z} {r} p q = record {
  sound = q.sound;
  rows = q.rows ∙ p.rows;
  kept = record { extents = λ n l. q.kept.extents n (rw (p.rows, length-append) (omega arith)) ∙ p.kept.extents n l; limits = λ n l e rs. q.kept.limits n (rw (p.rows, length-append) (omega arith)) e rs ∙ p.kept.limits n l e rs };
}

pub slice_get-drop : {A : Type 0} (from : ℕ) (rs : List A) (n k : ℕ) (r : A) → n ≡ from + k → slice_get rs n ≡ Some r → slice_get (drop from rs) k ≡ Some r
slice_get-drop zero rs n k r e h = let i : n ≡ k = omega arith in rw i at h
slice_get-drop (suc from) [] n k r e h = cc
slice_get-drop (suc from) (x ∷ xs) zero k r e h = absurd (omega arith)
slice_get-drop (suc from) (x ∷ xs) (suc n) k r e h = slice_get-drop from xs n k r (omega arith) h

pub take-suc_get : {A : Type 0} (k : ℕ) (rs : List A) (r : A) → slice_get rs k ≡ Some r → take (suc k) rs ≡ take k rs ++ r ∷ []
take-suc_get k [] r h = cc
take-suc_get zero (x ∷ xs) r h = cc
take-suc_get (suc k) (x ∷ xs) r h = ap (λ t. x ∷ t) (take-suc_get k xs r h)

pub slice_get_some : {A : Type 0} (xs : List A) (i : ℕ) → i < length xs → (x : A) × (slice_get xs i ≡ Some x)
slice_get_some [] i l = absurd (omega arith)
slice_get_some (x ∷ xs) zero l = (x, refl)
slice_get_some (x ∷ xs) (suc i) l = slice_get_some xs i (omega arith)

pub took_none : {f : Format} {c : Content} → IsSound f c → Took f c c []
took_none s = record { fresh = []; grew = grew_none s; alike = refl; adds = λ e rs h. h }

pub took_twice : {f : Format} {x y z : Content} {r s : List Row} → Took f x y r → Took f y z s → Took f x z (r ++ s)
took_twice {f} {x} {y} {z} {r} {s} p q = record {
  fresh = p.fresh ++ q.fresh;
  grew = grew_twice p.grew q.grew;
  alike = all_alike-append f.alike p.fresh r q.fresh s p.alike q.alike;
  adds = λ e rs h. rw (append_assoc r s rs) (p.adds e (s ++ rs) (q.adds e rs h));
}

-- a refusal after growth leaves the growth
pub took_stayed : {f : Format} {x y z : Content} {r : List Row} → Took f x y r → Stayed f y z → Took f x z r
took_stayed {f} {x} {y} {z} {r} p q = record {
  fresh = p.fresh;
  grew = grew_stayed p.grew q;
  alike = p.alike;
  adds = λ e rs h. p.adds e rs (rw (refuses_stayed q e rs) at h);
}

-- growth by exactly the given rows, if alike is equality
pub grew_exactly : {f : Format} {old new : Content} {added : List Row} → IsExact f.alike → Took f old new added → Grew f old new added
grew_exactly {f} {old} {new} {added} e t =
    let h = alike_is f.alike e t.fresh added t.alike in
    rw h at t.grew

-- an error with a true cause at one column has one at another
pub true_from : (f g : Format) (c d : Content) (rs ss : List Row) (error : GrowError) → ((e : Excess) → refuses_more f e c rs ≡ true → refuses_more g e d ss ≡ true) → IsTrueOf error f c rs → IsTrueOf error g d ss
true_from f g c d rs ss Memory h t = t
true_from f g c d rs ss Length h t = h too_many t
true_from f g c d rs ss Offset h t = h misplaced t
true_from f g c d rs ss FormatError h t = t

-- one more of the rows from `from` on
pub took_more : {f : Format} {x y z : Content} (rs : List Row) (from i : ℕ) (r : Row) → from ≤ i → slice_get rs i ≡ Some r → Took f x y (take (i - from) (drop from rs)) → Took f y z (r ∷ []) → Took f x z (take (i + 1 - from) (drop from rs))
took_more {f} {x} {y} {z} rs from i r l h p q =
    let d = slice_get-drop from rs i (i - from) r (omega arith) h in
    let t = take-suc_get (i - from) (drop from rs) r d in
    let e : suc (i - from) ≡ i + 1 - from = omega arith in
    rw (← t, e) at (took_twice p q)

pub take-front : {A : Type 0} (m n : ℕ) (xs : List A) → m ≤ n → (rest : List A) × (take n xs ≡ take m xs ++ rest)
take-front zero n xs l = (take n xs, refl)
take-front (suc m) zero xs l = absurd (omega arith)
take-front (suc m) (suc n) [] l = ([], refl)
take-front (suc m) (suc n) (x ∷ xs) l = let p = take-front m n xs (omega arith) in (p.0, ap (λ t. x ∷ t) p.1)

-- a copy row by row that is refused at row i, and rolled back
pub refused_more : {f : Format} {x y z : Content} {error : GrowError} (rs : List Row) (from i to : ℕ) (r : Row) → IsLawful f → from ≤ i → i < to → slice_get rs i ≡ Some r → Took f x y (take (i - from) (drop from rs)) → IsTrueOf error f y (r ∷ []) → Stayed f x z → Refused f x z (take (to - from) (drop from rs)) error
refused_more {f} {x} {y} {z} {error} rs from i to r law l m h t cause st = record {
  stayed = st;
  cause = true_from f f y x (r ∷ []) (take (to - from) (drop from rs)) error (λ e k.
      let d = slice_get-drop from rs i (i - from) r (omega arith) h in
      let g = take-suc_get (i - from) (drop from rs) r d in
      let q = take-front (suc (i - from)) (to - from) (drop from rs) (omega arith) in
      let w : take (to - from) (drop from rs) ≡ (take (i - from) (drop from rs) ++ r ∷ []) ++ q.0 = rw g at q.1 in
      rw w (law.more e x (length (f.rows x)) (take (i - from) (drop from rs) ++ r ∷ []) q.0 (t.adds e (r ∷ []) k))) cause;
}
