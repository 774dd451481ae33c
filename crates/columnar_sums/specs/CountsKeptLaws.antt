-- Counts of bits that are appended or truncated, and positions of set bits.
use Rattle.std.proofs.Common.{◌≡◌, ℕ, zero, suc, ◌+◌, ◌*◌, ◌/◌, ◌%◌, ◌<◌, ◌≤◌, Bool, true, false, cond, List, [], ◌∷◌, ◌++◌, length, take, refl, sym, ap, ◌∙◌, subst, ⊎_elim, arith, Option, Some, None}
use Rattle.std.specs.Prelude.{count_by, slice_index_or, option_map, IfSome, IfNone, IsNone}
use Rattle.std.proofs.lemmas.List.{take-append-le, take_at, length_push, get_or_append_left, get_or_push, take-take, get_or-take, length-take-le}
use Rattle.std.proofs.lemmas.Bool.{cases_lt}
use Rattle.columnar_sums.specs.Counting.{ones, place, AreCounts}
use Rattle.columnar_sums.specs.CountLaws.{place_none, ones_more, ones_zero, ones_true, ones_false}

ones_front : (b ys : List Bool) (p : ℕ) → p ≤ length b → ones (b ++ ys) p ≡ ones b p
unfolding ones
ones_front b ys p h = ap (λ (x : List Bool). count_by (λ (y : Bool). y) x) (take-append-le p b ys h)

pub counts_stay : (b : List Bool) (cs : List ℕ) (x : Bool) → AreCounts b cs → length b % 1024 < 1023 → AreCounts (b ++ x ∷ []) cs
unfolding AreCounts
counts_stay b cs x h l =
    let n = length_push b x in
    let e = h.0 in
    (omega arith, λ i k. h.1 i k ∙ sym (ones_front b (x ∷ []) (1024 * (i + 1)) (omega arith)))

pub counts_grow : (b : List Bool) (cs : List ℕ) (x : Bool) (n : ℕ) → AreCounts b cs → length b % 1024 ≡ 1023 → n ≡ ones b (length b) + cond x 1 0 → AreCounts (b ++ x ∷ []) (cs ++ n ∷ [])
unfolding AreCounts
counts_grow b cs x n h l en =
    let lb = length_push b x in
    let lc = length_push cs n in
    let e = h.0 in (
      omega arith,
      λ i k.
          ⊎_elim (λ (a : i < length cs). get_or_append_left cs (n ∷ []) 0 i a ∙ h.1 i a ∙ sym (ones_front b (x ∷ []) (1024 * (i + 1)) (omega arith)))
          (λ (a : length cs ≤ i).
          let d : length cs ≡ i = omega arith in
          let m : length b + 1 ≡ 1024 * (i + 1) = omega arith in
          get_or_push cs n 0 i d ∙ en ∙
          sym (ap (λ (y : ℕ). y + cond x 1 0) (ones_front b (x ∷ []) (length b) (omega arith))) ∙
          ap (λ (y : Bool). ones (b ++ x ∷ []) (length b) + cond y 1 0) (sym (get_or_push b x false (length b) refl)) ∙
          sym (ones_more (b ++ x ∷ []) (length b) (omega arith)) ∙ ap (ones (b ++ x ∷ [])) m)
          (cases_lt i (length cs)),
    )

pub counts_back : (b : List Bool) (now cs : List ℕ) (n k : ℕ) → AreCounts b cs → now ≡ cs ++ n ∷ [] → k ≡ length b / 1024 → take k now ≡ cs
unfolding AreCounts
counts_back b now cs n k h e ek = ap (take k) e ∙ take_at cs (n ∷ []) k (let d = h.0 in omega arith)

pub counts_cut : (b : List Bool) (cs : List ℕ) (n : ℕ) → AreCounts b cs → n ≤ length b → AreCounts (take n b) (take (n / 1024) cs)
unfolding ones AreCounts
counts_cut b cs n h l =
    let e = h.0 in
    let lb = length-take-le n b l in
    let lc = length-take-le (n / 1024) cs (omega arith) in (
      omega arith,
      λ i k. get_or-take (n / 1024) cs i 0 (omega arith) ∙ h.1 i (omega arith) ∙
          sym (ap (λ (x : List Bool). count_by (λ (y : Bool). y) x) (take-take (1024 * (i + 1)) n b (omega arith))),
    )

pub counts_none : (b : List Bool) → b ≡ [] → AreCounts b []
unfolding AreCounts
counts_none b e = let l = ap length e in (omega arith, λ i k. absurd (omega arith))

-- ---- places

pub record IsFound (b : List Bool) (k p : ℕ) : Type 0 where
  pub within : p < length b
  pub set : slice_index_or b p false ≡ true
  pub before : ones b p ≡ k

-- the position moves by one
after_false : (b : List Bool) (k q p : ℕ) → IsFound b k q → suc q ≡ p → IsFound (false ∷ b) k p
after_false b k q p h e =
    subst (λ (x : ℕ). IsFound (false ∷ b) k x) e (record { within = let l = h.within in omega arith; set = h.set; before = ones_false b q ∙ h.before })

after_true : (b : List Bool) (k q p : ℕ) → IsFound b k q → suc q ≡ p → IsFound (true ∷ b) (suc k) p
after_true b k q p h e =
    subst (λ (x : ℕ). IsFound (true ∷ b) (suc k) x) e (record { within = let l = h.within in omega arith; set = h.set; before = ones_true b q ∙ ap suc h.before })

moved : (P : ℕ → Type 0) (Q : ℕ → Type 0) (o : Option ℕ) (p : ℕ) → ((q : ℕ) → o ≡ Some q → P q) → ((q : ℕ) → P q → suc q ≡ p → Q p) → option_map suc o ≡ Some p → Q p
moved P Q None p h f e = cc e
moved P Q (Some q) p h f e = f q (h q refl) (cc e)

-- at a position there is a set bit, with k set bits before it
pub place_found : (b : List Bool) (k p : ℕ) → place b k ≡ Some p → IsFound b k p
unfolding place
place_found [] k p e = cc e
place_found (false ∷ b) k p e = moved (IsFound b k) (IsFound (false ∷ b) k) (place b k) p (λ q d. place_found b k q d) (λ q h d. after_false b k q p h d) e
place_found (true ∷ b) zero p e =
    let d : 0 ≡ p = cc e in
    subst (λ (x : ℕ). IsFound (true ∷ b) 0 x) d (record { within = omega arith; set = refl; before = ones_zero (true ∷ b) })
place_found (true ∷ b) (suc k) p e = moved (IsFound b k) (IsFound (true ∷ b) (suc k)) (place b k) p (λ q d. place_found b k q d) (λ q h d. after_true b k q p h d) e

pub place_within : (b : List Bool) (k p : ℕ) → place b k ≡ Some p → p < length b
place_within b k p e = (place_found b k p e).within

-- there is no position, so at most k bits are set
none_of : (o : Option ℕ) → option_map suc o ≡ None → o ≡ None
none_of None h = refl
none_of (Some x) h = cc

pub place_past : (b : List Bool) (k : ℕ) → place b k ≡ None → ones b (length b) ≤ k
unfolding place ones
place_past [] k e = omega arith
place_past (false ∷ b) k e =
    let h : ones b (length b) ≤ k = place_past b k (none_of (place b k) e) in
    subst (λ (x : ℕ). x ≤ k) (sym (ones_false b (length b))) h
place_past (true ∷ b) zero e = cc
place_past (true ∷ b) (suc k) e =
    let h : ones b (length b) ≤ k = place_past b k (none_of (place b k) e) in
    let r : suc (ones b (length b)) ≤ suc k = omega arith in
    subst (λ (x : ℕ). x ≤ suc k) (sym (ones_true b (length b))) r

-- the facts about a position that was found
pub found_set : (b : List Bool) (k : ℕ) (o : Option ℕ) → o ≡ place b k → IfSome o (λ q. (slice_index_or b q false ≡ true) × (ones b q ≡ k))
found_set b k None e = tt
found_set b k (Some q) e = let f = place_found b k q (sym e) in (f.set, f.before)

pub found_none : (b : List Bool) (k : ℕ) (o : Option ℕ) → o ≡ place b k → IfNone o (ones b (length b) ≤ k)
found_none b k None e = place_past b k (sym e)
found_none b k (Some q) e = tt

pub found_past : (b : List Bool) (k : ℕ) (o : Option ℕ) → o ≡ place b k → ones b (length b) ≤ k → IsNone o
found_past b k o e l = rw (e, place_none b k l) refl
