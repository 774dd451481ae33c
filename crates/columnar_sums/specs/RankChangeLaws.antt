-- Columns of bits and counts that grow or are truncated.
use Rattle.std.proofs.Common.{◌≡◌, ℕ, ◌+◌, ◌*◌, ◌/◌, ◌%◌, ◌^◌, ◌<◌, ◌≤◌, Bool, true, false, cond, List, [], ◌∷◌, ◌++◌, length, take, map, refl, sym, ◌∙◌, ap, arith, length-append, ⊎_elim}
use Rattle.std.specs.Prelude.{slice_index, count_by, count_ones}
use Rattle.std.proofs.lemmas.List.{map-append, length-map, take-map, length-take-le, take-append-le, get_or_append_left, get_or_push, length_push, take_at, nil_from_length}
use Rattle.std.proofs.lemmas.Bool.{cases_lt}
use Rattle.columnar_core.specs.Row.{Row, truth, row_eq}
use Rattle.columnar_sums.specs.Agree.{numbers_eq}
use Rattle.columnar_core.specs.Format.{Content, slice, both, IsSound}
use Rattle.columnar_core.specs.AlikeLaws.{alike_all, row_eq_same}
use Rattle.columnar_core.specs.Change.{Keeps, Grew, Stayed, WasCut, Took, Copied, Refused}
use Rattle.columnar_core.specs.ChangeLaws.{unchanged}
use Rattle.columnar_core.specs.WordViews.{words_in, bit_words, le_bytes}
use Rattle.columnar_core.specs.WordViewLaws.{length-words_in, length-le_bytes, words_cut}
use Rattle.columnar_core.specs.declared.fault.GrowError.{GrowError}
use Rattle.columnar_core.specs.declared.fault.GrowError.TheVariants.{Memory, Length, Offset, Format as FormatError}
use Rattle.columnar_bits.specs.Bits.{bit_in}
use Rattle.columnar_bits.specs.BoolColumns.{IsOfGrowth, bit_count, bits_in, bools_format, SoundBools}
use Rattle.columnar_bits.specs.BoolLaws.{length_words_back, bools_parts, bools_took, bools_past, bits_length, bits_from_rows, words_of_bits, words_grown}
use Rattle.columnar_sums.specs.Counting.{ones, ones_below, AreCounts, CountWords, counts_of, count_before}
use Rattle.columnar_sums.specs.CountLaws.{ones_word_whole, ones_below_le, count_before_is}
use Rattle.columnar_sums.specs.CountsKeptLaws.{counts_stay, counts_grow, counts_cut, counts_none}
use Rattle.columnar_sums.specs.RankColumns.{ranks_format}
use Rattle.columnar_sums.specs.RankLaws.{SoundRanks, ranks_parts, ranks_sound, ones_bits, bytes_of_counts, counts_from}

abbrev three : List ℕ → List ℕ → List ℕ → Content
three c a b = both (slice c) (both (slice a) (slice b))

-- bits were appended
pub record Ranked (c a b c' a' b' : List ℕ) (cs : List Bool) : Type 0 where
  pub sound : SoundRanks c' a' b'
  pub bits : bits_in a' b' ≡ bits_in a b ++ cs

ranks_keeps : (x y : Content) (n : ℕ) → Keeps ranks_format x y n
ranks_keeps x y n = record { extents = λ k l. refl; limits = λ k l e rs. refl }

pub ranks_grew : {c a b c' a' b' : List ℕ} {cs : List Bool} → Ranked c a b c' a' b' cs → Grew ranks_format (three c a b) (three c' a' b') (map truth cs)
ranks_grew {c} {a} {b} {c'} {a'} {b'} {cs} g = record {
  sound = ranks_sound g.sound;
  rows = rw g.bits (map-append truth (bits_in a b) cs);
  kept = ranks_keeps (three c a b) (three c' a' b') (length (map truth (bits_in a b)));
}

pub ranks_took : {c a b c' a' b' : List ℕ} {cs : List Bool} → Ranked c a b c' a' b' cs → Took ranks_format (three c a b) (three c' a' b') (map truth cs)
ranks_took {c} {a} {b} {c'} {a'} {b'} {cs} g = record {
  fresh = map truth cs;
  grew = ranks_grew g;
  alike = alike_all row_eq row_eq_same (map truth cs);
  adds = λ e rs h. (bools_took (record { sound = g.sound.bools; bits = g.bits })).adds e rs h;
}

pub ranks_copied : {c a b c' a' b' : List ℕ} {cs : List Bool} (start : ℕ) (rs : List Row) → Ranked c a b c' a' b' cs → map truth cs ≡ rs → Copied ranks_format (three c a b) (three c' a' b') start rs
ranks_copied {c} {a} {b} {c'} {a'} {b'} {cs} start rs g e = record {
  took = rw e at (ranks_took g);
  front = λ n z. rw (g.bits, map-append truth (bits_in a b) cs, n) e;
}

pub ranks_refused : {c a b : List ℕ} {y : Content} (rs : List Row) (e : GrowError) → Stayed ranks_format (three c a b) y → IsOfGrowth e → (e ≡ Length → 2 ^ 64 ≤ length (bits_in a b) + length rs) → Refused ranks_format (three c a b) y rs e
ranks_refused {c} {a} {b} rs Memory s k h = record { stayed = s; cause = tt }
ranks_refused {c} {a} {b} rs Length s k h = record { stayed = s; cause = bools_past a b rs (h refl) }
ranks_refused {c} {a} {b} rs Offset s k h = absurd k
ranks_refused {c} {a} {b} rs FormatError s k h = absurd k

pub ranks_same : {c a b : List ℕ} {y : Content} → IsSound ranks_format (three c a b) → y ≡ three c a b → Stayed ranks_format (three c a b) y
ranks_same {c} {a} {b} {y} s e = rw e (unchanged s)

-- one more bit that completes no chunk
pub ranked_plain : {c a b a' b' : List ℕ} {x : Bool} → SoundRanks c a b → SoundBools a' b' → bits_in a' b' ≡ bits_in a b ++ x ∷ [] → length (bits_in a b) % 1024 < 1023 → Ranked c a b c a' b' (x ∷ [])
ranked_plain {c} {a} {b} {a'} {b'} {x} s t e l = record {
  sound = record { whole = s.whole; bools = t; are_counts = rw e (counts_stay (bits_in a b) (words_in c) x s.are_counts l) };
  bits = e;
}

-- one more bit that completes a chunk, and its count
pub ranked_count : {c a b c' a' b' : List ℕ} {x : Bool} (n : ℕ) → SoundRanks c a b → SoundBools a' b' → bits_in a' b' ≡ bits_in a b ++ x ∷ [] → length (bits_in a b) % 1024 ≡ 1023 → words_in c' ≡ words_in c ++ n ∷ [] → length c' ≡ 8 + length c → n ≡ ones (bits_in a b) (length (bits_in a b)) + cond x 1 0 → Ranked c a b c' a' b' (x ∷ [])
ranked_count {c} {a} {b} {c'} {a'} {b'} {x} n s t e l w m o = record {
  sound = record { whole = omega (arith, s.whole); bools = t; are_counts = rw (e, w) (counts_grow (bits_in a b) (words_in c) x n s.are_counts l o) };
  bits = e;
}

-- a cut
pub ranks_cut : {c a b c' a' b' : List ℕ} {n : ℕ} → SoundRanks c a b → WasCut bools_format (both (slice a) (slice b)) (both (slice a') (slice b')) n → n ≤ length (bits_in a b) → words_in c' ≡ take (n / 1024) (words_in c) → length c' % 8 ≡ 0 → WasCut ranks_format (three c a b) (three c' a' b') n
ranks_cut {c} {a} {b} {c'} {a'} {b'} {n} s w l e m =
    let t = bools_parts w.sound in
    let d : bits_in a' b' ≡ take n (bits_in a b) = bits_from_rows (bits_in a' b') (take n (bits_in a b)) (w.rows ∙ take-map truth n (bits_in a b)) in
    let y : SoundRanks c' a' b' = record { whole = m; bools = t; are_counts = rw (d, e) (counts_cut (bits_in a b) (words_in c) n s.are_counts l) } in
    let z : length (bits_in a' b') ≡ n = rw d (length-take-le n (bits_in a b) l) in
    let k : bit_count a' b' ≡ n = omega (arith, bits_length a' b') in
    let h : 8 * (n / 1024) ≡ length c' = rw k at (bytes_of_counts y) in
    let i : 8 * (n / 64) ≡ length a' = rw k at (words_of_bits t) in
    let j = t.two in
    record {
      sound = ranks_sound y;
      rows = w.rows;
      lengths_cut = rw (h, i, j) refl;
      kept = ranks_keeps (three c a b) (three c' a' b') n;
    }

-- no bits, no counts
pub ranks_none : {c a b : List ℕ} → words_in c ≡ [] → length c % 8 ≡ 0 → SoundBools a b → bits_in a b ≡ [] → SoundRanks c a b
ranks_none {c} {a} {b} e m s h = record { whole = m; bools = s; are_counts = rw e (counts_none (bits_in a b) h) }

-- counts from words, and back

ones_front : (b ys : List Bool) (p : ℕ) → p ≤ length b → ones (b ++ ys) p ≡ ones b p
unfolding ones
ones_front b ys p h = ap (λ (x : List Bool). count_by (λ (y : Bool). y) x) (take-append-le p b ys h)

-- the counts of a column whose bits grew
pub counts_so_far : {c a b : List ℕ} (a' b' : List ℕ) (cs : List Bool) → SoundRanks c a b → bits_in a' b' ≡ bits_in a b ++ cs → CountWords (bit_words a' b') (words_in c) × (length (words_in c) ≡ length (bits_in a b) / 1024)
unfolding CountWords AreCounts
counts_so_far {c} {a} {b} a' b' cs s e =
    let h = s.are_counts in
    let n = h.0 in
    let l : length (bits_in a' b') ≡ length (bits_in a b) + length cs = rw e (length-append (bits_in a b) cs) in (
      λ i k.
          let m : 1024 * (i + 1) ≤ length (bits_in a b) = omega arith in
          h.1 i k ∙ sym (ones_front (bits_in a b) cs (1024 * (i + 1)) m) ∙ ap (λ (x : List Bool). ones x (1024 * (i + 1))) (sym e) ∙ ones_bits a' b' (1024 * (i + 1)) (omega arith),
      n,
    )

pub counts_complete : (a b cs : List ℕ) → CountWords (bit_words a b) cs → length cs ≡ length (bits_in a b) / 1024 → AreCounts (bits_in a b) cs
unfolding CountWords AreCounts
counts_complete a b cs h l = (l, λ i k. h i k ∙ sym (ones_bits a b (1024 * (i + 1)) (omega arith)))

-- one more word, within a chunk and at its end
pub sum_more : (ws : List ℕ) (at w sum : ℕ) → sum ≡ ones_below (bit_in ws) (64 * at) → w ≡ slice_index ws at → w < 2 ^ 64 → sum + count_ones w ≡ ones_below (bit_in ws) (64 * (at + 1))
sum_more ws at w sum e d h = (rw e refl) ∙ sym (ones_word_whole ws at w d h)

pub sum_fits : (ws : List ℕ) (at sum : ℕ) → sum ≡ ones_below (bit_in ws) (64 * at) → sum ≤ 64 * at
sum_fits ws at sum e = omega (arith, ones_below_le (bit_in ws) (64 * at))

pub count_more : (ws cs : List ℕ) (sum : ℕ) → CountWords ws cs → sum ≡ ones_below (bit_in ws) (1024 * (length cs + 1)) → CountWords ws (cs ++ sum ∷ [])
unfolding CountWords
count_more ws cs sum h e = λ i k.
    let n = length_push cs sum in
    ⊎_elim (λ (p : i < length cs). get_or_append_left cs (sum ∷ []) 0 i p ∙ h i p)
    (λ (p : length cs ≤ i).
    let d : length cs ≡ i = omega arith in
    get_or_push cs sum 0 i d ∙ e ∙ ap (λ (x : ℕ). ones_below (bit_in ws) (1024 * (x + 1))) d)
    (cases_lt i (length cs))

pub sum_start : (ws cs : List ℕ) (n : ℕ) → CountWords ws cs → n ≡ length cs → count_before cs n ≡ ones_below (bit_in ws) (1024 * n)
sum_start ws cs n h e = count_before_is ws cs n h (omega arith)

-- a count that differs
pub counts_differ : (a b cs : List ℕ) → (AreCounts (bits_in a b) cs → ⊥) → numbers_eq cs (counts_of (bits_in a b)) ≡ false
counts_differ a b cs h = not_true (numbers_eq cs (counts_of (bits_in a b))) (λ e. h (counts_from (bits_in a b) cs e))
  where
    not_true : (b : Bool) → (b ≡ true → ⊥) → b ≡ false
    not_true true h = absurd (h refl)
    not_true false h = refl

-- one item pushed and removed again
pub items_back : (xs ys zs : List ℕ) (n k : ℕ) → ys ≡ xs ++ n ∷ [] → zs ≡ take k ys → k ≡ length xs → zs ≡ xs
items_back xs ys zs n k e f l = f ∙ ap (take k) e ∙ take_at xs (n ∷ []) k (sym l)

pub counts_many : (xs : List ℕ) {a b : List ℕ} → SoundRanks (le_bytes xs) a b → length xs ≡ length (bits_in a b) / 1024
unfolding AreCounts
counts_many xs s = let n = s.are_counts.0 in omega (arith, length-words_in (le_bytes xs), length-le_bytes xs)

pub length-truths_rows : (a b : List ℕ) → length (map truth (bits_in a b)) ≡ length (bits_in a b)
length-truths_rows a b = length-map (bits_in a b) truth

no_truths : (bs : List Bool) → map truth bs ≡ [] → bs ≡ []
no_truths bs h = bits_from_rows bs [] h

pub none_ranked : {a b : List ℕ} (xs : List ℕ) → xs ≡ [] → IsSound bools_format (both (slice a) (slice b)) → map truth (bits_in a b) ≡ [] → IsSound ranks_format (three (le_bytes xs) a b)
none_ranked {a} {b} xs e s h =
    let l : length xs ≡ 0 = ap length e in
    let n = length-le_bytes xs in
    let w = length-words_in (le_bytes xs) in
    ranks_sound (ranks_none (nil_from_length (words_in (le_bytes xs)) (omega arith)) (omega arith) (bools_parts s) (no_truths (bits_in a b) h))

pub held_cut : {a b a' b' : List ℕ} {n : ℕ} (xs ys : List ℕ) → IsSound ranks_format (three (le_bytes xs) a b) → ys ≡ take (n / 1024) xs → WasCut bools_format (both (slice a) (slice b)) (both (slice a') (slice b')) n → n ≤ length (map truth (bits_in a b)) → WasCut ranks_format (three (le_bytes xs) a b) (three (le_bytes ys) a' b') n
held_cut {a} {b} {a'} {b'} {n} xs ys s e w l =
    let m = length-le_bytes ys in
    ranks_cut (ranks_parts s) w (omega (arith, l, length-map (bits_in a b) truth)) (rw e (words_cut xs (n / 1024))) (omega arith)

-- the invariant of the loop that counts chunks
pub record CountedTo (ws before ys : List ℕ) (n chunk : ℕ) : Type 0 where
  pub exact : CountWords ws (words_in (le_bytes ys))
  pub many : length ys ≡ chunk
  pub front : take n ys ≡ before

pub counted_on : {ws before xs ys : List ℕ} {n chunk : ℕ} (sum : ℕ) → CountedTo ws before xs n chunk → n ≤ chunk → sum ≡ ones_below (bit_in ws) (1024 * (chunk + 1)) → sum < 2 ^ 64 → ys ≡ xs ++ sum ∷ [] → CountedTo ws before ys n (chunk + 1)
counted_on {ws} {before} {xs} {ys} {n} {chunk} sum k l e h d =
    let w = words_grown xs ys sum d h in
    let o = k.many in
    let many : length (words_in (le_bytes xs)) ≡ chunk = length_words_back xs ∙ o in
    record {
      exact = rw w.0 (count_more ws (words_in (le_bytes xs)) sum k.exact (e ∙ ap (λ (x : ℕ). ones_below (bit_in ws) (1024 * (x + 1))) (sym many)));
      many = omega (arith, ap length d, length_push xs sum);
      front = ap (take n) d ∙ take-append-le n xs (sum ∷ []) (omega arith) ∙ k.front;
    }

-- bits that stay the same, with the same counts
pub ranks_stayed : {c a b a' b' : List ℕ} → IsSound ranks_format (three c a b) → Stayed bools_format (both (slice a) (slice b)) (both (slice a') (slice b')) → Stayed ranks_format (three c a b) (three c a' b')
ranks_stayed {c} {a} {b} {a'} {b'} s g =
    let e : bits_in a' b' ≡ bits_in a b = bits_from_rows (bits_in a' b') (bits_in a b) g.rows in
    let p = ranks_parts s in
    let l = g.lengths_same in
    record {
      sound = ranks_sound (record { whole = p.whole; bools = bools_parts g.sound; are_counts = rw e p.are_counts });
      rows = g.rows;
      lengths_same = ap (λ (xs : List ℕ). length c ∷ xs) l;
      kept = ranks_keeps (three c a b) (three c a' b') (length (map truth (bits_in a b)));
    }

-- the counts of all complete chunks
pub ranked_on : {c a b a' b' : List ℕ} {cs : List Bool} (ys : List ℕ) → SoundBools a' b' → bits_in a' b' ≡ bits_in a b ++ cs → CountWords (bit_words a' b') (words_in (le_bytes ys)) × (length ys ≡ length (words_in a') / 16) → Ranked c a b (le_bytes ys) a' b' cs
ranked_on {c} {a} {b} {a'} {b'} {cs} ys t e h =
    let m = length-le_bytes ys in
    let few = t.few in
    let l : length (words_in (le_bytes ys)) ≡ length (bits_in a' b') / 1024 = omega (arith, length_words_back ys, h.1, bits_length a' b') in
    record { sound = record { whole = omega arith; bools = t; are_counts = counts_complete a' b' (words_in (le_bytes ys)) h.0 l }; bits = e }

-- the old counts are within the new words
pub counts_within : {a b a' b' : List ℕ} (xs : List ℕ) → SoundRanks (le_bytes xs) a b → SoundBools a' b' → length (bits_in a b) ≤ length (bits_in a' b') → length xs ≤ length (words_in a') / 16
counts_within {a} {b} {a'} {b'} xs s t l = omega (arith, counts_many xs s, bits_length a' b', t.few)

pub words_short : {a b : List ℕ} → SoundBools a b → length (words_in a) < 2 ^ 58
words_short {a} {b} s = omega (arith, s.short)

-- steps for words, and for new chunks and their words
pub turns_fit : (old mid new l m w n : ℕ) → mid ≤ old + (m / 64 + 1) → new + 17 * n ≤ mid + 17 * w → n ≡ l / 1024 → w ≡ (l + m) / 1024 → new ≤ old + (m / 16 + 64)
turns_fit old mid new l m w n p q r s = omega arith

-- a bit whose push may fail to allocate fills a word
pub fills_word : (n : ℕ) → (n % 64 < 63 → ⊥) → n % 64 ≡ 63
fills_word n h = ⊎_elim (λ (l : n % 64 < 63). absurd (h l)) (λ (m : 63 ≤ n % 64). omega arith) (cases_lt (n % 64) 63)
