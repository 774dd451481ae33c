-- Moves of a place among words.
use Rattle.std.proofs.Common.{◌≡◌, ℕ, zero, suc, ◌+◌, ◌-◌, ◌*◌, ◌/◌, ◌%◌, ◌^◌, ◌<◌, ◌≤◌, max, Bool, true, false, eqb, List, [], ◌∷◌, ◌++◌, length, take, refl, sym, ap, ◌∙◌, ⊎_elim, arith}
use Rattle.std.proofs.Math.Path.{ap₂}
use Rattle.std.specs.Int.{bit_at, bit_not, w64, trailing_zeros}
use Rattle.std.specs.List.{range_with_len}
use Rattle.std.specs.Prelude.{slice_index, bit_and, Option, Some, None, IfNone}
use Rattle.std.proofs.lemmas.List.{append-nil, append_assoc, map-id}
use Rattle.std.proofs.lemmas.List.FromFn.{map-range_with_len_more}
use Rattle.std.proofs.lemmas.Bool.{cases_lt, eq-eqb, true≢false, cases_eq}
use Rattle.std.proofs.lemmas.Nat.Bits.{bit_at-trailing_zeros, bit_at_clear_same, bit_at_clear_other, bit_at-zero}
use Rattle.columnar_bits.specs.Bits.{bit, bit_in}
use Rattle.columnar_bits.specs.BitLaws.{bit_in_word, bit_shown}
use Rattle.columnar_core.specs.Reads.{Reads}
use Rattle.columnar_sums.specs.Counting.{ones_below, Adds}
use Rattle.columnar_sums.specs.CountLaws.{ones_below_add}
use Rattle.columnar_sums.specs.RankColumns.{IsAt, AreClear}

bit_of_zero : (j : ℕ) → bit 0 j ≡ false
unfolding bit
bit_of_zero j = ap (λ (x : ℕ). eqb x 1) (bit_at-zero j)

-- no bit of the word is left: no bit is set before the next word
pub clear_here : (ws : List ℕ) (i r p : ℕ) → IsAt ws i r p → r ≡ 0 → AreClear ws p (64 * i + 64)
clear_here ws i r p h z = λ k a b.
    ⊎_elim (λ (c : k < 64 * i). h.skipped k a c)
    (λ (c : 64 * i ≤ k).
    let j : ℕ = k - 64 * i in let e : 64 * i + j ≡ k = omega arith in
    ap (bit_in ws) (sym e) ∙ sym (h.same j (omega arith) (omega arith)) ∙ ap (λ (x : ℕ). bit x j) z ∙ bit_of_zero j)
    (cases_lt k (64 * i))

pub move_on : (ws : List ℕ) (i r p w : ℕ) → IsAt ws i r p → r ≡ 0 → i + 1 < length ws → w ≡ slice_index ws (i + 1) → IsAt ws (i + 1) w p
move_on ws i r p w h z l e =
    let q = h.reach in
    record {
      within = l;
      reach = omega arith;
      ahead = λ j a b. omega arith;
      same = λ j a b. ap (λ (x : ℕ). bit x j) e ∙ sym (bit_in_word ws (i + 1) j (64 * (i + 1) + j) a refl);
      skipped = λ k a b. clear_here ws i r p h z k a (omega arith);
    }

pub stays : (ws : List ℕ) (i r p q : ℕ) → IsAt ws i r p → r ≡ 0 → q ≡ max p (64 * i) → IsAt ws i r q
stays ws i r p q h z e =
    let l = h.reach in
    record {
      within = h.within;
      reach = omega arith;
      ahead = λ j a b. absurd (true≢false (sym b ∙ ap (λ (x : ℕ). bit x j) z ∙ bit_of_zero j));
      same = λ j a b. h.same j a (omega arith);
      skipped = λ k a b. h.skipped k (omega arith) b;
    }

pub none_here : (ws : List ℕ) (i r p : ℕ) → IsAt ws i r p → r ≡ 0 → i + 1 ≡ length ws → AreClear ws p (64 * length ws)
none_here ws i r p h z e = λ k a b. clear_here ws i r p h z k a (omega arith)

-- ---- the lowest bit that is left

pub record IsLowest (ws : List ℕ) (i p q : ℕ) : Type 0 where
  pub within : q < 64 * length ws
  pub from : p ≤ q
  pub set : bit_in ws q ≡ true
  pub clear : AreClear ws p q

pub lowest : (ws : List ℕ) (i r p z q : ℕ) → IsAt ws i r p → 0 < r → r < 2 ^ 64 → z ≡ trailing_zeros w64 r → q ≡ 64 * i + z → IsLowest ws i p q
unfolding bit
lowest ws i r p z q h pos fits ez eq =
    let t = bit_at-trailing_zeros w64 r pos fits in
    let low : z < 64 = omega (arith, t.0) in
    let one : bit r z ≡ true = ap (bit r) ez ∙ eq-eqb _ 1 t.1 in
    let a : p ≤ 64 * i + z = h.ahead z low one in
    let w = h.within in
    record {
      within = omega arith;
      from = omega arith;
      set = ap (bit_in ws) eq ∙ sym (h.same z low a) ∙ one;
      clear = λ k b c.
          ⊎_elim (λ (d : k < 64 * i). h.skipped k b d)
          (λ (d : 64 * i ≤ k).
          let j : ℕ = k - 64 * i in let e : 64 * i + j ≡ k = omega arith in
          ap (bit_in ws) (sym e) ∙ sym (h.same j (omega arith) (omega arith)) ∙ ap (λ (x : ℕ). eqb x 1) (t.2 j (omega arith)))
          (cases_lt k (64 * i));
    }

pub after_found : (ws : List ℕ) (i r p z q : ℕ) → IsAt ws i r p → 0 < r → r < 2 ^ 64 → z ≡ trailing_zeros w64 r → q ≡ 64 * i + z + 1 → IsAt ws i (bit_and r (bit_not w64 (1 * 2 ^ z % 2 ^ 64))) q
unfolding bit
after_found ws i r p z q h pos fits ez eq =
    let t = bit_at-trailing_zeros w64 r pos fits in
    let low : z < 64 = omega (arith, t.0) in
    let l = lowest ws i r p z (64 * i + z) h pos fits ez refl in
    let from = l.from in
    record {
      within = h.within;
      reach = omega arith;
      ahead = λ j a b.
          ⊎_elim (λ (c : j < z).
          let o : bit_at (bit_and r (bit_not w64 (1 * 2 ^ z % 2 ^ 64))) j ≡ bit_at r j = bit_at_clear_other w64 r z low j a (omega arith) in
          absurd (true≢false (sym b ∙ ap (λ (x : ℕ). eqb x 1) (o ∙ t.2 j (omega arith)))))
          (λ (c : z ≤ j).
          ⊎_elim (λ (d : j ≡ z). absurd (true≢false (sym b ∙ ap (bit (bit_and r (bit_not w64 (1 * 2 ^ z % 2 ^ 64)))) d ∙ ap (λ (x : ℕ). eqb x 1) (bit_at_clear_same w64 r z low)))) (λ (d : j ≡ z → ⊥). omega arith) (cases_eq j z))
          (cases_lt j z);
      same = λ j a b. ap (λ (x : ℕ). eqb x 1) (bit_at_clear_other w64 r z low j a (omega arith)) ∙ h.same j a (omega arith);
      skipped = λ k a b. absurd (omega arith);
    }

-- ---- loaded words

pub load_none : (xs : List ℕ) (i : ℕ) → xs ≡ xs ++ range_with_len (i + 1) (i - i)
load_none xs i = let e : i - i ≡ 0 = omega arith in sym (append-nil xs) ∙ ap (λ (n : ℕ). xs ++ range_with_len (i + 1) n) (sym e)

pub load_more : (new mid old : List ℕ) (i j : ℕ) → mid ≡ old ++ range_with_len (i + 1) (j - i) → i ≤ j → new ≡ mid ++ (j + 1) ∷ [] → new ≡ old ++ range_with_len (i + 1) (j + 1 - i)
load_more new mid old i j e h d =
    let s : j - i + 1 ≡ j + 1 - i = omega arith in
    let m : range_with_len (i + 1) (j - i + 1) ≡ range_with_len (i + 1) (j - i) ++ (j + 1) ∷ [] =
    sym (map-id _) ∙ map-range_with_len_more (λ (x : ℕ). x) (i + 1) (j - i) (j + 1) (omega arith) ∙ ap (λ (x : List ℕ). x ++ (j + 1) ∷ []) (map-id _) in
    d ∙ ap (λ (x : List ℕ). x ++ (j + 1) ∷ []) e ∙ append_assoc old (range_with_len (i + 1) (j - i)) ((j + 1) ∷ []) ∙ ap (λ (x : List ℕ). old ++ x) (sym m ∙ ap (range_with_len (i + 1)) s)

pub place_inside : (ws : List ℕ) (i r p z q : ℕ) → IsAt ws i r p → 0 < r → r < 2 ^ 64 → z ≡ trailing_zeros w64 r → q ≡ 64 * i + z → length ws ≤ 2 ^ 58 → bit_in ws (64 * length ws - 1) ≡ false → q + 1 < 2 ^ 64
place_inside ws i r p z q h pos fits ez eq short last =
    let t = bit_at-trailing_zeros w64 r pos fits in
    let low : z < 64 = omega (arith, t.0) in
    let l = lowest ws i r p z q h pos fits ez eq in
    let w = h.within in
    ⊎_elim (λ (a : q ≡ 64 * length ws - 1). absurd (true≢false (sym l.set ∙ ap (bit_in ws) a ∙ last))) (λ (a : q ≡ 64 * length ws - 1 → ⊥).
    ⊎_elim (λ (b : q < 64 * length ws - 1). omega arith) (λ (b : 64 * length ws - 1 ≤ q). absurd (a (omega arith))) (cases_lt q (64 * length ws - 1)))
    (cases_eq q (64 * length ws - 1))

-- the word of a bit
pub word_of : (i r z : ℕ) → 0 < r → r < 2 ^ 64 → z ≡ trailing_zeros w64 r → i ≡ (64 * i + z) / 64
word_of i r z pos fits ez = let t = bit_at-trailing_zeros w64 r pos fits in let low : z < 64 = omega (arith, ez, t.0) in omega (arith, low)

pub at_start : (ws : List ℕ) (w : ℕ) → w ≡ slice_index ws 0 → 0 < length ws → IsAt ws 0 w 0
at_start ws w e h = record {
  within = h;
  reach = omega arith;
  ahead = λ j a b. omega arith;
  same = λ j a b. ap (λ (x : ℕ). bit x j) e ∙ sym (bit_in_word ws 0 j (64 * 0 + j) a refl);
  skipped = λ k a b. absurd (omega arith);
}

-- ---- bit by bit, and further on

-- the start of a word
pub at_word : (ws : List ℕ) (k w p : ℕ) → w ≡ slice_index ws k → k < length ws → p ≡ 64 * k → IsAt ws k w p
at_word ws k w p e h d = record {
  within = h;
  reach = omega arith;
  ahead = λ j a b. omega arith;
  same = λ j a b. ap (λ (x : ℕ). bit x j) e ∙ sym (bit_in_word ws k j (64 * k + j) a refl);
  skipped = λ m a b. absurd (omega arith);
}

-- the bit at a place in its word
pub bit_here : (ws : List ℕ) (i r p at : ℕ) → IsAt ws i r p → 64 * i ≤ p → p < 64 * i + 64 → at ≡ p - 64 * i → eqb (bit_and (r / 2 ^ at) 1) 1 ≡ bit_in ws p
bit_here ws i r p at h f l e =
    let d : 64 * i + at ≡ p = omega arith in
    bit_shown r at ∙ h.same at (omega arith) (omega arith) ∙ ap (bit_in ws) d

-- the next place
pub after_bit : (ws : List ℕ) (i r p at : ℕ) → IsAt ws i r p → 64 * i ≤ p → p < 64 * i + 64 → at ≡ p - 64 * i → IsAt ws i (bit_and r (bit_not w64 (1 * 2 ^ at % 2 ^ 64))) (p + 1)
unfolding bit
after_bit ws i r p at h f l e =
    let low : at < 64 = omega arith in
    record {
      within = h.within;
      reach = omega arith;
      ahead = λ j a b.
          ⊎_elim (λ (d : j ≡ at). absurd (true≢false (sym b ∙ ap (bit (bit_and r (bit_not w64 (1 * 2 ^ at % 2 ^ 64)))) d ∙ ap (λ (x : ℕ). eqb x 1) (bit_at_clear_same w64 r at low))))
          (λ (d : j ≡ at → ⊥).
          let o : bit_at (bit_and r (bit_not w64 (1 * 2 ^ at % 2 ^ 64))) j ≡ bit_at r j = bit_at_clear_other w64 r at low j a d in
          let q : p ≤ 64 * i + j = h.ahead j a (sym (ap (λ (x : ℕ). eqb x 1) o) ∙ b) in
          omega arith)
          (cases_eq j at);
      same = λ j a b. ap (λ (x : ℕ). eqb x 1) (bit_at_clear_other w64 r at low j a (omega arith)) ∙ h.same j a (omega arith);
      skipped = λ k a b. absurd (omega arith);
    }

-- a place whose word was loaded, without the bits before it
pub at_loaded : (ws : List ℕ) (i w r p at : ℕ) → w ≡ slice_index ws i → i < length ws → at ≡ p % 64 → i ≡ p / 64 → ((j : ℕ) → j < at → bit r j ≡ false) → ((j : ℕ) → at ≤ j → j < 64 → bit r j ≡ bit w j) → IsAt ws i r p
at_loaded ws i w r p at e h ea ei low high = record {
  within = h;
  reach = omega arith;
  ahead = λ j a b. ⊎_elim (λ (d : j < at). absurd (true≢false (sym b ∙ low j d))) (λ (d : at ≤ j). omega arith) (cases_lt j at);
  same = λ j a b. high j (omega arith) a ∙ ap (λ (x : ℕ). bit x j) e ∙ sym (bit_in_word ws i j (64 * i + j) a refl);
  skipped = λ m a b. absurd (omega arith);
}

-- a later place in the same word
pub at_later : (ws : List ℕ) (i r r' p q at : ℕ) → IsAt ws i r p → 64 * i ≤ p → p ≤ q → q < 64 * i + 64 → at ≡ q - 64 * i → ((j : ℕ) → j < at → bit r' j ≡ false) → ((j : ℕ) → at ≤ j → j < 64 → bit r' j ≡ bit r j) → IsAt ws i r' q
at_later ws i r r' p q at h f le l e low high = record {
  within = h.within;
  reach = omega arith;
  ahead = λ j a b. ⊎_elim (λ (d : j < at). absurd (true≢false (sym b ∙ low j d))) (λ (d : at ≤ j). omega arith) (cases_lt j at);
  same = λ j a b. high j (omega arith) a ∙ h.same j a (omega arith);
  skipped = λ m a b. absurd (omega arith);
}

-- no remaining bit is before the place
rest_clear : (ws : List ℕ) (i r p n : ℕ) → IsAt ws i r p → 64 * i + n ≤ p → n ≤ 64 → ones_below (bit r) n ≡ 0
unfolding ones_below
rest_clear ws i r p zero h l m = refl
rest_clear ws i r p (suc n) h l m =
    let c : bit r n ≡ false = not_set (bit r n) (λ e. let q = h.ahead n (omega arith) e in omega arith) in
    let k : ones_below (bit r) n ≡ 0 = rest_clear ws i r p n h (omega arith) (omega arith) in
    rw (c, k) refl
  where
    not_set : (b : Bool) → (b ≡ true → ⊥) → b ≡ false
    not_set true h = absurd (h refl)
    not_set false h = refl

-- the number of set bits between two places
pub ones_passed : (ws : List ℕ) (i r p q at : ℕ) → IsAt ws i r p → 64 * i ≤ p → p ≤ q → q < 64 * i + 64 → at ≡ q - 64 * i → ones_below (bit_in ws) p + ones_below (bit r) at ≡ ones_below (bit_in ws) q
ones_passed ws i r p q at h f le l e =
    let d : ℕ = p - 64 * i in
    let n : ℕ = q - p in
    let ed : d + n ≡ at = omega arith in
    let eq : p + n ≡ q = omega arith in
    let z : ones_below (bit r) d ≡ 0 = rest_clear ws i r p d h (omega arith) (omega arith) in
    let u : ones_below (bit r) (d + n) ≡ ones_below (bit r) d + ones_below (λ (j : ℕ). bit r (d + j)) n = ones_below_add (bit r) (λ (j : ℕ). bit r (d + j)) d n (λ j m. refl) in
    let v : ones_below (bit_in ws) (p + n) ≡ ones_below (bit_in ws) p + ones_below (λ (j : ℕ). bit r (d + j)) n = ones_below_add (bit_in ws) (λ (j : ℕ). bit r (d + j)) p n (λ j m.
    let k : 64 * i + (d + j) ≡ p + j = omega arith in
    sym (h.same (d + j) (omega arith) (omega arith) ∙ ap (bit_in ws) k)) in
    let w : ones_below (bit r) at ≡ ones_below (λ (j : ℕ). bit r (d + j)) n = sym (ap (ones_below (bit r)) ed) ∙ u ∙ (rw z (omega arith)) in
    rw w (sym v ∙ ap (ones_below (bit_in ws)) eq)

-- two reads in sequence
pub adds_twice : (a b m n : ℕ) (x y z : Reads) → Adds a m x y → Adds b n y z → Adds (a + b) (m + n) x z
adds_twice a b m n x y z p q =
    let l = p.1 in let k = q.1 in
    let lx : length x.words ≤ length y.words = kept_longer x.words y.words p.2 in
    (omega (arith, p.0, q.0), omega arith, front_kept x.words y.words z.words p.2 q.2 lx)
  where
    kept_longer : (xs ys : List ℕ) → take (length xs) ys ≡ xs → length xs ≤ length ys
    kept_longer [] ys h = omega arith
    kept_longer (x ∷ xs) [] h = cc
    kept_longer (x ∷ xs) (y ∷ ys) h = let e : take (length xs) ys ≡ xs = cc in let k = kept_longer xs ys e in omega arith

    front_kept : (xs ys zs : List ℕ) → take (length xs) ys ≡ xs → take (length ys) zs ≡ ys → length xs ≤ length ys → take (length xs) zs ≡ xs
    front_kept [] ys zs p q l = refl
    front_kept (x ∷ xs) [] zs p q l = cc
    front_kept (x ∷ xs) (y ∷ ys) [] p q l = cc
    front_kept (x ∷ xs) (y ∷ ys) (z ∷ zs) p q l =
        let e : take (length xs) ys ≡ xs = cc in let f : take (length ys) zs ≡ ys = cc in
        let g : x ≡ y = cc in let i : y ≡ z = cc in
        let k = front_kept xs ys zs e f (omega arith) in
        ap₂ (λ (u : ℕ) (v : List ℕ). u ∷ v) (sym i ∙ sym g) k

pub none_then : {X P Q : Type 0} (r : Option X) → IfNone r P → (P → Q) → IfNone r Q
none_then (Some x) h f = h
none_then None h f = f h
