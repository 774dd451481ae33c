-- The invariant of a cursor.
use Rattle.std.proofs.Common.{◌≡◌, ℕ, zero, suc, ◌+◌, ◌-◌, ◌*◌, ◌/◌, ◌^◌, ◌<◌, ◌≤◌, max, Bool, true, false, cond, List, length, refl, sym, ap, ◌∙◌, ⊎_elim, arith}
use Rattle.std.specs.Prelude.{slice_index_or, Some}
use Rattle.std.proofs.lemmas.Bool.{cases_lt}
use Rattle.columnar_core.specs.Format.{slice, both, IsSound}
use Rattle.columnar_core.specs.WordViews.{bit_words}
use Rattle.columnar_bits.specs.Bits.{bit_in}
use Rattle.columnar_bits.specs.BoolColumns.{bits_in, SoundBools}
use Rattle.columnar_bits.specs.BoolLaws.{bits_length}
use Rattle.columnar_sums.specs.Counting.{ones, ones_below, place}
use Rattle.columnar_sums.specs.CountLaws.{ones_le, ones_more, ones_zero}
use Rattle.columnar_sums.specs.CountsKeptLaws.{place_found}
use Rattle.columnar_sums.specs.RankColumns.{ranks_format, IsAt, AreClear, IsNextTrue, AreFalseFrom}
use Rattle.columnar_sums.specs.RankLaws.{ranks_parts, words_length, last_clear, next_bit, no_bit, ones_next, ones_none, ones_bits, bit_is, words_few}
use Rattle.columnar_sums.specs.Cursors.{CursorStands}

bools_of : {c a b : List ℕ} {i r p k : ℕ} → CursorStands c a b i r p k → SoundBools a b
bools_of s = (ranks_parts s.ranked).bools

rank_fits : {a b : List ℕ} (k p : ℕ) → SoundBools a b → p ≤ length (bits_in a b) → k ≡ ones (bits_in a b) p → k < 2 ^ 64
rank_fits {a} {b} k p s l e = omega (arith, ones_le (bits_in a b) p, bits_length a b, s.short)

pub stands_first : {c a b ws : List ℕ} {i r p : ℕ} → IsSound ranks_format (both (slice c) (both (slice a) (slice b))) → ws ≡ bit_words a b → IsAt ws i r p → p ≡ 0 → i ≡ 0 → CursorStands c a b i r p 0
stands_first {c} {a} {b} {ws} {i} {r} {p} s e h z y = record {
  ranked = s;
  inside = omega arith;
  floor = omega arith;
  at = rw e at h;
  rank = sym (ap (ones (bits_in a b)) z ∙ ones_zero (bits_in a b));
}

-- the words that are read
pub stands_words : {c a b ws : List ℕ} {i r p k : ℕ} → CursorStands c a b i r p k → ws ≡ bit_words a b → IsAt ws i r p × (length ws ≤ 2 ^ 58) × (bit_in ws (64 * length ws - 1) ≡ false) × (length ws ≡ length (bits_in a b) / 64 + 1)
stands_words s e = rw e (s.at, words_few (bools_of s), last_clear (bools_of s), words_length (bools_of s))

pub record Found (c a b : List ℕ) (i r p k q start : ℕ) : Type 0 where
  pub stands : CursorStands c a b i r p k
  pub next : IsNextTrue (bits_in a b) start q
  pub fits : k < 2 ^ 64

pub stands_found : {c a b ws : List ℕ} {i r p k i' r' p' q : ℕ} → CursorStands c a b i r p k → ws ≡ bit_words a b → IsAt ws i' r' p' → 64 * i' ≤ p' → (q < 64 * length ws) × (p ≤ q) × (bit_in ws q ≡ true) × AreClear ws p q × (p' ≡ q + 1) → Found c a b i' r' p' (k + 1) q p
stands_found {c} {a} {b} {ws} {i} {r} {p} {k} {i'} {r'} {p'} {q} s e h l f =
    let t = bools_of s in
    let g : (q < 64 * length (bit_words a b)) × (p ≤ q) × (bit_in (bit_words a b) q ≡ true) × AreClear (bit_words a b) p q × (p' ≡ q + 1) = rw e at f in
    let n = next_bit p q t g.0 g.1 g.2 g.3 in
    let d : p' ≡ q + 1 = g.4 in
    let o : k + 1 ≡ ones (bits_in a b) p' = ap (λ (x : ℕ). x + 1) s.rank ∙ sym (ones_next (bits_in a b) p q n.1) ∙ sym (ap (ones (bits_in a b)) d) in
    let m : p' ≤ length (bits_in a b) = omega (arith, n.0) in
    record {
      stands = record { ranked = s.ranked; inside = m; floor = l; at = rw e at h; rank = o };
      next = n.1;
      fits = rank_fits (k + 1) p' t m o;
    }

pub stands_ended : {c a b ws : List ℕ} {i r p k i' r' p' : ℕ} → CursorStands c a b i r p k → ws ≡ bit_words a b → IsAt ws i' r' p' → 64 * i' ≤ p' → AreClear ws p (64 * length ws) × (p' ≡ max p (64 * (length ws - 1))) → CursorStands c a b i' r' p' k × (AreFalseFrom (bits_in a b) p × (p' ≡ max p (64 * (length (bits_in a b) / 64))))
stands_ended {c} {a} {b} {ws} {i} {r} {p} {k} {i'} {r'} {p'} s e h l f =
    let t = bools_of s in
    let n = words_length t in
    let g : AreClear (bit_words a b) p (64 * length (bit_words a b)) × (p' ≡ max p (64 * (length (bit_words a b) - 1))) = rw e at f in
    let y = no_bit p t g.0 in
    let d : p' ≡ max p (64 * (length (bits_in a b) / 64)) = omega (arith, g.1) in
    let m : p' ≤ length (bits_in a b) = omega (arith, s.inside) in
    (record { ranked = s.ranked; inside = m; floor = l; at = rw e at h; rank = s.rank ∙ sym (ones_none (bits_in a b) p p' y (omega arith) m) }, (y, d))

pub record Stepped (c a b : List ℕ) (i r p k start : ℕ) (bit : Bool) : Type 0 where
  pub stands : CursorStands c a b i r p k
  pub value : bit ≡ slice_index_or (bits_in a b) start false
  pub fits : k < 2 ^ 64

pub stands_stepped : {c a b ws : List ℕ} {i r p k i' r' p' n : ℕ} {bit : Bool} → CursorStands c a b i r p k → ws ≡ bit_words a b → p < length (bits_in a b) → IsAt ws i' r' p' → 64 * i' ≤ p' → bit ≡ bit_in ws p → p' ≡ p + 1 → n ≡ cond bit 1 0 → Stepped c a b i' r' p' (k + n) p bit
stands_stepped {c} {a} {b} {ws} {i} {r} {p} {k} {i'} {r'} {p'} {n} {bit} s e l h f v d m =
    let t = bools_of s in
    let w : bit ≡ slice_index_or (bits_in a b) p false = (rw e at v) ∙ sym (bit_is a b p l) in
    let o : k + n ≡ ones (bits_in a b) p' = rw m (ap (λ (x : ℕ). x + cond bit 1 0) s.rank) ∙ ap (λ (x : Bool). ones (bits_in a b) p + cond x 1 0) w ∙ sym (ones_more (bits_in a b) p l) ∙ sym (ap (ones (bits_in a b)) d) in
    let y : p' ≤ length (bits_in a b) = omega arith in
    record {
      stands = record { ranked = s.ranked; inside = y; floor = f; at = rw e at h; rank = o };
      value = w;
      fits = rank_fits (k + n) p' t y o;
    }

pub stands_skipped : {c a b ws : List ℕ} {i r p k i' r' p' : ℕ} (n : ℕ) → CursorStands c a b i r p k → ws ≡ bit_words a b → p' ≤ length (bits_in a b) → IsAt ws i' r' p' → 64 * i' ≤ p' → ones_below (bit_in ws) p + n ≡ ones_below (bit_in ws) p' → CursorStands c a b i' r' p' (k + n) × (k + n < 2 ^ 64)
stands_skipped {c} {a} {b} {ws} {i} {r} {p} {k} {i'} {r'} {p'} n s e y h f o =
    let t = bools_of s in
    let u : ones_below (bit_in (bit_words a b)) p + n ≡ ones_below (bit_in (bit_words a b)) p' = rw e at o in
    let v : k + n ≡ ones (bits_in a b) p' = omega (arith, s.rank, ones_bits a b p s.inside, ones_bits a b p' y) in
    (record { ranked = s.ranked; inside = y; floor = f; at = rw e at h; rank = v }, rank_fits (k + n) p' t y v)

pub stands_moved : {c a b ws : List ℕ} {i r p k i' r' p' n : ℕ} → CursorStands c a b i r p k → ws ≡ bit_words a b → p' ≤ length (bits_in a b) → IsAt ws i' r' p' → 64 * i' ≤ p' → n ≡ ones (bits_in a b) p' → CursorStands c a b i' r' p' n
stands_moved {c} {a} {b} {ws} {i} {r} {p} {k} {i'} {r'} {p'} {n} s e y h f o = record { ranked = s.ranked; inside = y; floor = f; at = rw e at h; rank = o }

ones_up_by : (b : List Bool) (p n : ℕ) → p + n ≤ length b → ones b p ≤ ones b (p + n)
ones_up_by b p zero l = let e : p + zero ≡ p = omega arith in rw e (omega arith)
ones_up_by b p (suc n) l =
    let e : p + suc n ≡ p + n + 1 = omega arith in
    let h = ones_up_by b p n (omega arith) in
    let m = ones_more b (p + n) (omega arith) in
    rw e (omega arith)

ones_up : (b : List Bool) (p q : ℕ) → p ≤ q → q ≤ length b → ones b p ≤ ones b q
ones_up b p q h l = let e : p + (q - p) ≡ q = omega arith in rw e at (ones_up_by b p (q - p) (omega arith))

-- a set bit with at least as many set bits before it as before the cursor is not before the cursor
pub not_before : (b : List Bool) (p q k : ℕ) → place b k ≡ Some q → ones b p ≤ k → p ≤ length b → p ≤ q
not_before b p q k e l m =
    let f = place_found b k q e in
    ⊎_elim (λ (h : q < p).
    let s = ones_more b q f.within in
    let t : ones b (q + 1) ≡ k + 1 = s ∙ (rw (f.set, f.before) refl) in
    let u = ones_up b (q + 1) p (omega arith) m in
    absurd (omega arith))
    (λ (h : p ≤ q). h)
    (cases_lt q p)

-- a position that was found is not before the cursor
pub stands_place : {c a b : List ℕ} {i r p k : ℕ} (n q : ℕ) → CursorStands c a b i r p k → Some q ≡ place (bits_in a b) n → ones (bits_in a b) p ≤ n → (q < length (bits_in a b)) × (p ≤ q) × (length (bits_in a b) < 2 ^ 64)
stands_place {c} {a} {b} {i} {r} {p} {k} n q s e l =
    ((place_found (bits_in a b) n q (sym e)).within, not_before (bits_in a b) p q n (sym e) l s.inside, omega (arith, bits_length a b, (bools_of s).short))
