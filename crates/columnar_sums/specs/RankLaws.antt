use Rattle.std.proofs.Common.{◌≡◌, ℕ, zero, suc, ◌+◌, ◌-◌, ◌*◌, ◌/◌, ◌%◌, ◌^◌, ◌<◌, ◌≤◌, Bool, true, false, List, [], ◌∷◌, length, map, Some, None, refl, sym, ◌∙◌, ap, arith, ⊎_elim, add-zero}
use Rattle.std.specs.Prelude.{slice_index_or, nat_eq, Option, MatchOption}
use Rattle.std.proofs.Math.Path.{ap₂}
use Rattle.std.proofs.lemmas.List.{length-map, length_push, get_or_past}
use Rattle.std.proofs.lemmas.List.FromFn.{fill_by_all, length-map-range_with_len, get_or-map-range_with_len}
use Rattle.std.proofs.lemmas.Bool.{and_parts, and_from, eqb-true, eq-eqb, cases_lt, true≢false}
use Rattle.columnar_core.specs.Row.{truth}
use Rattle.columnar_sums.specs.Agree.{numbers_eq}
use Rattle.columnar_core.specs.Format.{Content, slice, both, plain, IsSound, IsLawful, IsStorable, lengths, fault}
use Rattle.columnar_core.specs.FaultLaws.{unless_true, true_unless}
use Rattle.columnar_core.specs.AlikeLaws.{row_eq_same}
use Rattle.columnar_core.specs.Elements.{word_row_of, words_format}
use Rattle.columnar_base.specs.ElementLaws.{elements_form, elements_storable}
use Rattle.columnar_core.specs.TwoParts.{TwoParts}
use Rattle.columnar_core.specs.TwoPartsLaws.{two_form, two_parts, two_sound, two_storable}
use Rattle.columnar_core.specs.WordViews.{words_in, bit_words}
use Rattle.columnar_core.specs.WordViewLaws.{length-words_in}
use Rattle.columnar_bits.specs.Bits.{bit_in, bits_of}
use Rattle.columnar_bits.specs.BitLaws.{get_or-bits_of, bit_in_tail, bit_above, length-truths}
use Rattle.columnar_bits.specs.BoolColumns.{last_word, last_count, bit_count, bits_in, bools_format, SoundBools}
use Rattle.columnar_bits.specs.BoolLaws.{bools_parts, bools_sound, bools_form, bools_lawful, bools_storable, bits_length, words_of_bits}
use Rattle.columnar_sums.specs.Counting.{ones, place, ones_below, counts_of, AreCounts, CountWords}
use Rattle.columnar_sums.specs.CountLaws.{ones_truths, ones_below_mono, ones_yes, ones_no, place_some, place_none, set_inside}
use Rattle.columnar_sums.specs.RankColumns.{counts_match, ranks_format, IsNextTrue, AreFalseFrom, AreClear}

-- counts as a test

pub same_numbers : (xs ys : List ℕ) → numbers_eq xs ys ≡ true → xs ≡ ys
same_numbers [] [] h = refl
same_numbers [] (y ∷ ys) h = cc
same_numbers (x ∷ xs) [] h = cc
same_numbers (x ∷ xs) (y ∷ ys) h = let p = and_parts (nat_eq x y) (numbers_eq xs ys) h in ap₂ (λ (u : ℕ) (v : List ℕ). u ∷ v) (eqb-true x y p.0) (same_numbers xs ys p.1)

pub numbers_same : (xs : List ℕ) → numbers_eq xs xs ≡ true
numbers_same [] = refl
numbers_same (x ∷ xs) = and_from _ _ (eq-eqb x x refl) (numbers_same xs)

pub counts_from : (b : List Bool) (cs : List ℕ) → numbers_eq cs (counts_of b) ≡ true → AreCounts b cs
unfolding counts_of AreCounts
counts_from b cs h =
    let e = same_numbers cs (counts_of b) h in
    let l : length (counts_of b) ≡ length b / 1024 = length-map-range_with_len (λ (i : ℕ). ones b (1024 * (i + 1))) 0 (length b / 1024) in
    rw e (l, λ i k. get_or-map-range_with_len (λ (i : ℕ). ones b (1024 * (i + 1))) 0 (length b / 1024) i i 0 (omega arith) (omega arith))

pub counts_test : (b : List Bool) (cs : List ℕ) → AreCounts b cs → numbers_eq cs (counts_of b) ≡ true
unfolding counts_of AreCounts
counts_test b cs h =
    let l = h.0 in
    let e : cs ≡ counts_of b = fill_by_all (λ (i : ℕ). ones b (1024 * (i + 1))) cs (length b / 1024) 0 l (λ k m. h.1 k (omega arith)) in
    rw (← e) (numbers_same cs)

-- what the soundness of a column of bits and counts consists of
pub record SoundRanks (counts values tail : List ℕ) : Type 0 where
  pub whole : length counts % 8 ≡ 0
  pub bools : SoundBools values tail
  pub are_counts : AreCounts (bits_in values tail) (words_in counts)

-- counts, then bits
pub ranks_two : TwoParts ranks_format words_format bools_format counts_match 12
ranks_two = record { count = refl; sizes = refl; aligns = refl; build = λ ss. refl; broken = λ c. refl }

pub ranks_parts : {c a b : List ℕ} → IsSound ranks_format (both (slice c) (both (slice a) (slice b))) → SoundRanks c a b
ranks_parts {c} {a} {b} s =
    let p = two_parts ranks_two (slice c) (both (slice a) (slice b)) s in
    record {
      whole = eqb-true _ _ (unless_true (nat_eq (length c % 8) 0) (fault 8 0) p.left.accepted);
      bools = bools_parts p.right;
      are_counts = counts_from (bits_in a b) (words_in c) p.own;
    }

pub ranks_sound : {c a b : List ℕ} → SoundRanks c a b → IsSound ranks_format (both (slice c) (both (slice a) (slice b)))
ranks_sound {c} {a} {b} s = two_sound ranks_two (slice c) (both (slice a) (slice b)) (record {
  left = record { accepted = true_unless (nat_eq (length c % 8) 0) (fault 8 0) (eq-eqb _ _ s.whole) };
  right = bools_sound s.bools;
  own = counts_test (bits_in a b) (words_in c) s.are_counts;
})

-- a sound content has three slices
pub record ThreeSlices (x : Content) : Type 0 where
  pub counts : List ℕ
  pub values : List ℕ
  pub tail : List ℕ
  pub is : x ≡ both (slice counts) (both (slice values) (slice tail))

pub ranks_form : (c : Content) → IsSound ranks_format c → ThreeSlices c
ranks_form c s =
    let w = two_form ranks_two c s in
    let h = two_parts ranks_two w.left w.right (rw w.is at s) in
    let p = elements_form 8 w.left h.left.accepted in
    let f = bools_form w.right h.right in
    record { counts = p.0; values = f.values; tail = f.tail; is = w.is ∙ ap₂ (λ (u v : Content). both u v) p.1 f.is }

-- the counts of all bits
pub bytes_of_counts : {c a b : List ℕ} → SoundRanks c a b → 8 * (bit_count a b / 1024) ≡ length c
unfolding AreCounts
bytes_of_counts {c} {a} {b} s = let n = s.are_counts.0 in omega (arith, s.whole, length-words_in c, bits_length a b)

pub length-ranks : (a b : List ℕ) → length (map truth (bits_in a b)) ≡ bit_count a b
length-ranks a b = length-map (bits_in a b) truth ∙ bits_length a b

ranks_full : (x : Content) → IsSound ranks_format x → ranks_format.extent x (length (ranks_format.rows x)) ≡ lengths x
ranks_full x s =
    let f = ranks_form x s in
    let p : SoundRanks f.counts f.values f.tail = ranks_parts (rw f.is at s) in
    rw f.is (full_of p)
  where
    full_of : {c a b : List ℕ} → SoundRanks c a b → 8 * (length (map truth (bits_in a b)) / 1024) ∷ 8 * (length (map truth (bits_in a b)) / 64) ∷ 16 ∷ [] ≡ length c ∷ length a ∷ length b ∷ []
    full_of {c} {a} {b} p = rw (length-ranks a b, bytes_of_counts p, words_of_bits p.bools, p.bools.two) refl

pub ranks_lawful : IsLawful ranks_format
ranks_lawful = record {
  full = ranks_full;
  same = row_eq_same;
  kindred = row_eq_same;
  related = λ r s h. h;
  more = λ e c n rs ss h. bools_lawful.more e (plain []) n rs ss h;
}

pub ranks_storable : IsStorable ranks_format
ranks_storable = two_storable ranks_two (omega arith) (elements_storable 8 8 word_row_of) bools_storable

-- bits and their words

pub ones_bits : (a b : List ℕ) (p : ℕ) → p ≤ length (bits_in a b) → ones (bits_in a b) p ≡ ones_below (bit_in (bit_words a b)) p
unfolding bits_of
ones_bits a b p h = ones_truths (bit_in (bit_words a b)) (bit_count a b) p (omega (arith, length-truths (bit_in (bit_words a b)) (bit_count a b)))

pub counts_in_words : (a b cs : List ℕ) → last_count b < 64 → AreCounts (bits_in a b) cs → CountWords (bit_words a b) cs
unfolding CountWords AreCounts
counts_in_words a b cs l h = λ i k. h.1 i k ∙ ones_bits a b (1024 * (i + 1)) (let e = h.0 in omega arith)

pub words_length : {a b : List ℕ} → SoundBools a b → length (bit_words a b) ≡ length (bits_in a b) / 64 + 1
words_length {a} {b} s = omega (arith, s.few, bits_length a b, length_push (words_in a) (last_word b))

pub bit_is : (a b : List ℕ) (i : ℕ) → i < length (bits_in a b) → slice_index_or (bits_in a b) i false ≡ bit_in (bit_words a b) i
bit_is a b i h = get_or-bits_of (words_in a) (last_word b) (last_count b) i (omega (arith, bits_length a b))

beyond : {a b : List ℕ} (i : ℕ) → SoundBools a b → length (bits_in a b) ≤ i → i < 64 * length (bit_words a b) → bit_in (bit_words a b) i ≡ false
beyond {a} {b} i s h l =
    let ws : List ℕ = words_in a in
    let e = bits_length a b in let d = length_push ws (last_word b) in
    let j : ℕ = i - 64 * length ws in
    bit_in_tail ws (last_word b) j i (omega arith) (omega arith) ∙ bit_above (last_word b) (last_count b) j s.clear (omega arith)

pub last_clear : {a b : List ℕ} → SoundBools a b → bit_in (bit_words a b) (64 * length (bit_words a b) - 1) ≡ false
last_clear {a} {b} s =
    let few = s.few in
    let e = bits_length a b in let d = length_push (words_in a) (last_word b) in
    beyond (64 * length (bit_words a b) - 1) s (omega arith) (omega arith)

pub select_some : {a b : List ℕ} (k q : ℕ) → SoundBools a b → q < 64 * length (bit_words a b) → bit_in (bit_words a b) q ≡ true → ones_below (bit_in (bit_words a b)) q ≡ k → place (bits_in a b) k ≡ Some q
select_some {a} {b} k q s h e o =
    ⊎_elim (λ (p : q < length (bits_in a b)). place_some (bits_in a b) k q (bit_is a b q p ∙ e) (ones_bits a b q (omega arith) ∙ o))
    (λ (p : length (bits_in a b) ≤ q). absurd (true≢false (sym e ∙ beyond q s p h)))
    (cases_lt q (length (bits_in a b)))

pub select_none : {a b : List ℕ} (k : ℕ) → SoundBools a b → ones_below (bit_in (bit_words a b)) (64 * length (bit_words a b)) ≤ k → place (bits_in a b) k ≡ None
select_none {a} {b} k s h =
    let few = s.few in
    let e : length (bit_words a b) ≡ length (words_in a) + 1 = length_push (words_in a) (last_word b) in
    let n = bits_length a b in
    let m : length (bits_in a b) ≤ 64 * length (bit_words a b) = omega arith in
    let u = ones_below_mono (bit_in (bit_words a b)) (length (bits_in a b)) (64 * length (bit_words a b)) m in
    let t : ones (bits_in a b) (length (bits_in a b)) ≡ ones_below (bit_in (bit_words a b)) (length (bits_in a b)) = ones_bits a b (length (bits_in a b)) (omega arith) in
    place_none (bits_in a b) k (omega arith)

pub next_bit : {a b : List ℕ} (p q : ℕ) → SoundBools a b → q < 64 * length (bit_words a b) → p ≤ q → bit_in (bit_words a b) q ≡ true → AreClear (bit_words a b) p q → (q < length (bits_in a b)) × IsNextTrue (bits_in a b) p q
next_bit {a} {b} p q s l h e c =
    let n : q < length (bits_in a b) = ⊎_elim (λ (m : q < length (bits_in a b)). m) (λ (m : length (bits_in a b) ≤ q). absurd (true≢false (sym e ∙ beyond q s m l))) (cases_lt q (length (bits_in a b))) in
    (n, (h, bit_is a b q n ∙ e, λ k i d. bit_is a b k (omega arith) ∙ c k i d))

pub no_bit : {a b : List ℕ} (p : ℕ) → SoundBools a b → AreClear (bit_words a b) p (64 * length (bit_words a b)) → AreFalseFrom (bits_in a b) p
no_bit {a} {b} p s c = λ k i.
    let few = s.few in
    let e = bits_length a b in let d = length_push (words_in a) (last_word b) in
    ⊎_elim (λ (l : k < length (bits_in a b)). bit_is a b k l ∙ ⊎_elim (λ (m : k < 64 * length (bit_words a b)). c k i m) (λ (m : 64 * length (bit_words a b) ≤ k). absurd (omega arith)) (cases_lt k (64 * length (bit_words a b))))
    (λ (l : length (bits_in a b) ≤ k). get_or_past (bits_in a b) k false l)
    (cases_lt k (length (bits_in a b)))

-- the rank does not change over clear bits
ones_flat : (b : List Bool) (p m : ℕ) → ((k : ℕ) → p ≤ k → k < p + m → slice_index_or b k false ≡ false) → p + m ≤ length b → ones b (p + m) ≡ ones b p
ones_flat b p zero h l = ap (ones b) (add-zero p)
ones_flat b p (suc m) h l =
    let e : p + suc m ≡ p + m + 1 = omega arith in
    ap (ones b) e ∙ ones_no b (p + m) (omega arith) (h (p + m) (omega arith) (omega arith)) ∙ ones_flat b p m (λ k a d. h k a (omega arith)) (omega arith)

pub ones_next : (b : List Bool) (p q : ℕ) → IsNextTrue b p q → ones b (q + 1) ≡ ones b p + 1
ones_next b p q h =
    let l = set_inside b q h.1 in let from = h.0 in let e : p + (q - p) ≡ q = omega arith in
    ones_yes b q l h.1 ∙ ap (λ (x : ℕ). x + 1) (sym (ap (ones b) e) ∙ ones_flat b p (q - p) (λ k a d. h.2 k a (omega arith)) (omega arith))

pub ones_none : (b : List Bool) (p q : ℕ) → AreFalseFrom b p → p ≤ q → q ≤ length b → ones b q ≡ ones b p
ones_none b p q h l m = let e : p + (q - p) ≡ q = omega arith in sym (ap (ones b) e) ∙ ones_flat b p (q - p) (λ k a d. h k a) (omega arith)

-- the preconditions of the search in counts and words
pub counts_cover : {c a b : List ℕ} → SoundRanks c a b → (16 * length (words_in c) < length (bit_words a b)) × (length (bit_words a b) ≤ 16 * length (words_in c) + 16)
unfolding AreCounts
counts_cover {c} {a} {b} s = let n = s.are_counts.0 in let w = words_length s.bools in (omega arith, omega arith)

pub counts_reach : {c a b : List ℕ} (i : ℕ) → SoundRanks c a b → i ≤ length (bits_in a b) → (i / 64 < length (bit_words a b)) × (i / 1024 ≤ length (words_in c))
unfolding AreCounts
counts_reach {c} {a} {b} i s l = let n = s.are_counts.0 in let w = words_length s.bools in (omega arith, omega arith)

pub counts_exact : {c a b : List ℕ} → SoundRanks c a b → CountWords (bit_words a b) (words_in c)
counts_exact {c} {a} {b} s = counts_in_words a b (words_in c) s.bools.few s.are_counts

pub words_few : {a b : List ℕ} → SoundBools a b → length (bit_words a b) ≤ 2 ^ 58
words_few {a} {b} s = omega (arith, words_length s, bits_length a b, s.short)

-- the result of the search is the position
pub found_place : {a b : List ℕ} (k : ℕ) (o : Option ℕ) → SoundBools a b → MatchOption o (ones_below (bit_in (bit_words a b)) (64 * length (bit_words a b)) ≤ k) (λ p. (p < 64 * length (bit_words a b)) × (bit_in (bit_words a b) p ≡ true) × (ones_below (bit_in (bit_words a b)) p ≡ k)) → o ≡ place (bits_in a b) k
found_place {a} {b} k None s h = sym (select_none k s h)
found_place {a} {b} k (Some q) s h = sym (select_some k q s h.0 h.1 h.2)
