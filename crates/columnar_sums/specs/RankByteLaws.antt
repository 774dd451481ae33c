-- Columns of bits and counts in slices of bytes.
use Rattle.std.proofs.Common.{◌≡◌, ℕ, suc, ◌+◌, ◌*◌, ◌/◌, ◌%◌, ◌^◌, ◌<◌, ◌≤◌, true, false, List, [], ◌∷◌, length, drop, refl, sym, ◌∙◌, ap, arith, ⊎_elim}
use Rattle.std.specs.Prelude.{slice_index, slice_index_or, Some, None, nat_eq, count_ones}
use Rattle.std.proofs.lemmas.Bool.{cases_lt, eq-eqb, ne_eqb}
use Rattle.std.proofs.lemmas.List.{drop-drop, get_or_append_left}
use Rattle.columnar_sums.specs.Agree.{numbers_eq}
use Rattle.columnar_core.specs.Format.{Content, slice, both, first, moved, Fault, fault, Fits}
use Rattle.columnar_core.specs.TwoPartsLaws.{two_right, two_own, two_fine}
use Rattle.columnar_core.specs.StoreLaws.{drop_at}
use Rattle.columnar_core.specs.Elements.{elements_broken, first_slice}
use Rattle.columnar_core.specs.WordViews.{words_in, bit_words, le_bytes}
use Rattle.columnar_bits.specs.Bits.{bit_in}
use Rattle.columnar_bits.specs.BoolColumns.{bits_in, bools_broken, bools_format, SoundBools}
use Rattle.columnar_bits.specs.BoolLaws.{bits_length}
use Rattle.columnar_sums.specs.Counting.{ones_below, counts_of, AreCounts, CountWords}
use Rattle.columnar_sums.specs.RankColumns.{ranks_broken, ranks_format}
use Rattle.columnar_sums.specs.RankLaws.{ranks_two, ranks_parts, counts_test, counts_in_words}
use Rattle.columnar_sums.specs.RankChangeLaws.{counts_differ, counts_complete, length-truths_rows, sum_more}

-- the counts of the chunks below n, the invariant of a loop over words
abbrev pub AreRight : List ℕ → List ℕ → ℕ → Type 0
AreRight ws cs n = (i : ℕ) → i < n → slice_index cs i ≡ ones_below (bit_in ws) (1024 * (i + 1))

pub right_more : (ws cs : List ℕ) (chunk sum : ℕ) → AreRight ws cs chunk → slice_index cs chunk ≡ sum → sum ≡ ones_below (bit_in ws) (1024 * (chunk + 1)) → AreRight ws cs (chunk + 1)
right_more ws cs chunk sum h f e = λ i l.
    ⊎_elim (λ (p : i < chunk). h i p)
    (λ (p : chunk ≤ i).
    let d : chunk ≡ i = omega arith in
    ap (slice_index cs) (sym d) ∙ f ∙ e ∙ ap (λ (n : ℕ). ones_below (bit_in ws) (1024 * (n + 1))) d)
    (cases_lt i chunk)

pub right_all : {a b : List ℕ} (cs : List ℕ) → SoundBools a b → AreRight (bit_words a b) cs (length (words_in a) / 16) → length cs ≡ length (words_in a) / 16 → numbers_eq cs (counts_of (bits_in a b)) ≡ true
unfolding CountWords
right_all {a} {b} cs s h l =
    let few = s.few in
    counts_test (bits_in a b) cs (counts_complete a b cs (λ i k. h i (omega arith)) (omega (arith, bits_length a b)))

pub wrong_number : {a b : List ℕ} (cs : List ℕ) → SoundBools a b → (length cs ≡ length (words_in a) / 16 → ⊥) → numbers_eq cs (counts_of (bits_in a b)) ≡ false
unfolding AreCounts
wrong_number {a} {b} cs s h =
    let few = s.few in
    counts_differ a b cs (λ k. let n = k.0 in h (omega (arith, bits_length a b)))

pub wrong_count : {a b : List ℕ} (cs : List ℕ) (chunk sum : ℕ) → SoundBools a b → length cs ≡ length (words_in a) / 16 → chunk < length cs → (slice_index cs chunk ≡ sum → ⊥) → sum ≡ ones_below (bit_in (bit_words a b)) (1024 * (chunk + 1)) → numbers_eq cs (counts_of (bits_in a b)) ≡ false
unfolding CountWords
wrong_count {a} {b} cs chunk sum s l m h o = counts_differ a b cs (λ k. h (counts_in_words a b cs s.few k chunk m ∙ sym o))

-- one more whole word
pub sum_word : (a b : List ℕ) (at w sum : ℕ) → at < length (words_in a) → sum ≡ ones_below (bit_in (bit_words a b)) (64 * at) → w ≡ slice_index (words_in a) at → w < 2 ^ 64 → sum + count_ones w ≡ ones_below (bit_in (bit_words a b)) (64 * (at + 1))
sum_word a b at w sum l e d h = sum_more (bit_words a b) at w sum e (d ∙ sym (get_or_append_left (words_in a) (slice_index (words_in b) 0 ∷ []) 0 at l)) h

-- the first broken rule
pub ranks_bad_size : (c a b : List ℕ) (o : ℕ) → (length c % 8 ≡ 0 → ⊥) → Some (fault 8 o) ≡ first (moved o (ranks_broken (both (slice c) (both (slice a) (slice b)))))
ranks_bad_size c a b o h =
    let e : nat_eq (length c % 8) 0 ≡ false = ne_eqb _ _ h in
    let k : o + 0 ≡ o = omega arith in
    rw (e, k) refl

counts_fine : (c : List ℕ) (o : ℕ) → length c % 8 ≡ 0 → None ≡ first (moved o (elements_broken 8 (slice c)))
counts_fine c o h =
    let e : nat_eq (length c % 8) 0 ≡ true = eq-eqb _ _ h in
    rw e refl

pub ranks_bad_bits : (c a b : List ℕ) (o : ℕ) (z : Fault) → length c % 8 ≡ 0 → Some z ≡ first (moved (o + 1) (bools_broken (both (slice a) (slice b)))) → Some z ≡ first (moved o (ranks_broken (both (slice c) (both (slice a) (slice b)))))
ranks_bad_bits c a b o z h k = two_right ranks_two (slice c) (both (slice a) (slice b)) o z (counts_fine c o h) k

pub ranks_bad_counts : (c a b : List ℕ) (o : ℕ) → length c % 8 ≡ 0 → None ≡ first (moved (o + 1) (bools_broken (both (slice a) (slice b)))) → numbers_eq (words_in c) (counts_of (bits_in a b)) ≡ false → Some (fault 12 o) ≡ first (moved o (ranks_broken (both (slice c) (both (slice a) (slice b)))))
ranks_bad_counts c a b o h k e = two_own ranks_two (slice c) (both (slice a) (slice b)) o (counts_fine c o h) k e

pub ranks_fine : (c a b : List ℕ) (o : ℕ) → length c % 8 ≡ 0 → None ≡ first (moved (o + 1) (bools_broken (both (slice a) (slice b)))) → numbers_eq (words_in c) (counts_of (bits_in a b)) ≡ true → None ≡ first (moved o (ranks_broken (both (slice c) (both (slice a) (slice b)))))
ranks_fine c a b o h k e = two_fine ranks_two (slice c) (both (slice a) (slice b)) o (counts_fine c o h) k e

-- the three slices at an offset
pub ranks_at : (ss : List (List ℕ)) (o : ℕ) (c a b : List ℕ) → o + 3 ≤ length ss → c ≡ slice_index_or ss o [] → a ≡ slice_index_or ss (o + 1) [] → b ≡ slice_index_or ss (o + 2) [] → ranks_format.build (drop o ss) ≡ both (slice c) (both (slice a) (slice b))
ranks_at ss o c a b l p q r =
    let d = drop_at ss o c (omega arith) p in
    let e = drop_at ss (o + 1) a (omega arith) q in
    let f = drop_at ss (o + 2) b (omega arith) r in
    let g : suc o ≡ o + 1 = omega arith in
    let h : suc (o + 1) ≡ o + 2 = omega arith in
    rw (d, g, e, h, f) refl

pub ranks_held_at : (ss : List (List ℕ)) (o : ℕ) (xs : List ℕ) (y : Content) → slice (le_bytes xs) ≡ first_slice (drop o ss) → y ≡ bools_format.build (drop (o + 1) ss) → both (slice (le_bytes xs)) y ≡ ranks_format.build (drop o ss)
ranks_held_at ss o xs y p q =
    let d : drop 1 (drop o ss) ≡ drop (o + 1) ss = drop-drop 1 o ss in
    rw (p, q, d) refl

-- the words and the tail of slices that were accepted
pub ranks_bools_at : (ss : List (List ℕ)) (o : ℕ) (a b : List ℕ) → Fits ranks_format o ss → a ≡ slice_index_or ss (o + 1) [] → b ≡ slice_index_or ss (o + 2) [] → SoundBools a b
ranks_bools_at ss o a b h q r =
    let l : o + 3 ≤ length ss = h.room in
    let e = ranks_at ss o (slice_index_or ss o []) a b l refl q r in
    (ranks_parts (rw e at h.sound)).bools

pub ranks_rows_at : (ss : List (List ℕ)) (o : ℕ) (a b : List ℕ) → Fits ranks_format o ss → a ≡ slice_index_or ss (o + 1) [] → b ≡ slice_index_or ss (o + 2) [] → length (bits_in a b) ≡ length (ranks_format.rows (ranks_format.build (drop o ss)))
ranks_rows_at ss o a b h q r =
    let l : o + 3 ≤ length ss = h.room in
    sym (ap (λ (x : Content). length (ranks_format.rows x)) (ranks_at ss o (slice_index_or ss o []) a b l refl q r) ∙ length-truths_rows a b)
