-- Offsets that are packed into the words of bits.
use Rattle.std.proofs.Common.{◌≡◌, ℕ, zero, suc, ◌+◌, ◌-◌, ◌*◌, ◌%◌, ◌^◌, ◌<◌, ◌≤◌, Bool, true, false, ◌||◌, ◌&&◌, List, [], ◌∷◌, ◌++◌, length, take, map, refl, sym, ◌∙◌, ap, arith, append_assoc, length-append, ⊎_elim}
use Rattle.std.specs.Prelude.{slice_get, Some, nat_lt, bit_or}
use Rattle.std.proofs.Math.Seq.{take-length}
use Rattle.std.proofs.lemmas.List.{length-map}
use Rattle.std.proofs.lemmas.Bool.{or_right, cases_lt, lt-ltb, lt-leb, le-leb, le-ltb, eq-eqb}
use Rattle.columnar_core.specs.Row.{Row, number, number_of, truth}
use Rattle.columnar_core.specs.Format.{Content, IsSound, Excess, too_many, misplaced, refuses_more}
use Rattle.columnar_core.specs.Bounds.{rises, numbers, last_or}
use Rattle.columnar_core.specs.BoundLaws.{word_is, words_numbers}
use Rattle.columnar_core.specs.Earlier.{IsMadeOf, IsTrueOfNew}
use Rattle.columnar_core.specs.Elements.{words_format, word_row, past_count}
use Rattle.columnar_core.specs.WordViews.{words_in, le_bytes}
use Rattle.columnar_core.specs.declared.fault.GrowError.TheVariants.{Length, Offset}
use Rattle.columnar_bits.specs.Bits.{bit, truths}
use Rattle.columnar_bits.specs.BitLaws.{truths_append, truths_grow, bit_set, bit_kept, bit_above, set_below, pow_le}
use Rattle.columnar_bits.specs.BoolLaws.{bits_from_rows, length_words_back}
use Rattle.columnar_sums.specs.Counting.{CountWords}
use Rattle.columnar_sums.specs.RankColumns.{ranks_format, ranks_bits}
use Rattle.columnar_sums.specs.Unary.{unary_bits, ends_of, last_bit, all_false, runs, falls, is_misplaced}
use Rattle.columnar_sums.specs.UnaryBitLaws.{ranks_bits_are, truths_zero, zeros_more, length-zeros}
use Rattle.columnar_sums.specs.UnaryColumns.{unaries_format}
use Rattle.columnar_sums.specs.UnaryLaws.{unary_sound}
use Rattle.columnar_sums.specs.UnaryListLaws.{runs-ended, ends-runs, runs-append, last-or-append}

-- ---- a run after the bits of a word

below_run : (w c n : ℕ) → w < 2 ^ c → w < 2 ^ (c + n)
below_run w c n l = let h = pow_le c (c + n) (omega arith) in omega arith

pub run_bits : (w c n : ℕ) → w < 2 ^ c → c + n < 64 → truths (bit (bit_or w (1 * 2 ^ (c + n) % 2 ^ 64))) (c + n + 1) ≡ truths (bit w) c ++ (all_false n ++ true ∷ [])
run_bits w c n l f =
    let zeros : truths (bit w) (c + n) ≡ truths (bit w) c ++ truths (bit 0) n = truths_append (bit w) (bit 0) (bit w) c n (λ k m. refl) (λ j m. bit_above w c (c + j) l (omega arith) ∙ sym (bit_above 0 0 j (omega arith) (omega arith))) in
    let one = truths_grow (bit w) (bit (bit_or w (1 * 2 ^ (c + n) % 2 ^ 64))) (c + n) true (λ k m. bit_kept w (c + n) k f m) (bit_set w (c + n) f) in
    rw (zeros, truths_zero n, append_assoc (truths (bit w) c) (all_false n) (true ∷ [])) at one

pub run_within : (w c n : ℕ) → w < 2 ^ c → c + n < 64 → bit_or w (1 * 2 ^ (c + n) % 2 ^ 64) < 2 ^ (c + n + 1)
run_within w c n l f = set_below w (c + n) f (below_run w c n l)

-- ---- one more offset

pub taken_next : (rs : List Row) (i x : ℕ) → x < 2 ^ 64 → slice_get rs i ≡ Some (word_row x) → take (i + 1) (numbers rs) ≡ take i (numbers rs) ++ x ∷ []
taken_next [] zero x l h = cc
taken_next [] (suc i) x l h = cc
taken_next (r ∷ rs) zero x l h =
    let e : r ≡ number x = rw (word_is x l) at (some_same h) in
    rw e refl
  where
    some_same : {r s : Row} → Some r ≡ Some s → r ≡ s
    some_same h = cc
taken_next (r ∷ rs) (suc i) x l h =
    let e : suc i + 1 ≡ suc (i + 1) = omega arith in
    rw e (ap (λ (t : List ℕ). number_of r ∷ t) (taken_next rs i x l h))

pub runs_next : (ns : List ℕ) (i x last : ℕ) → take (i + 1) ns ≡ take i ns ++ x ∷ [] → last ≡ last_or 0 (take i ns) → runs 0 (take (i + 1) ns) ≡ runs 0 (take i ns) ++ (all_false (x - last) ++ true ∷ [])
runs_next ns i x last h l = rw (h, l) (runs-append 0 (take i ns) (x ∷ []))

pub last_next : (ns : List ℕ) (i x : ℕ) → take (i + 1) ns ≡ take i ns ++ x ∷ [] → x ≡ last_or 0 (take (i + 1) ns)
last_next ns i x h = rw h (sym (last-or-append 0 (take i ns) (x ∷ [])))

pub last_is : (rs : List Row) (n x : ℕ) → n ≡ length rs → 0 < n → x < 2 ^ 64 → slice_get rs (n - 1) ≡ Some (word_row x) → x ≡ last_or 0 (numbers rs)
last_is rs n x e z l h =
    let m : n - 1 + 1 ≡ length (numbers rs) = omega (arith, length-map rs number_of) in
    rw (m, take-length (numbers rs)) at (last_next (numbers rs) (n - 1) x (taken_next rs (n - 1) x l h))

pub no_truths : (w : ℕ) → truths (bit w) 0 ≡ []
unfolding truths
no_truths w = refl

-- the bits of the run were appended to those of the word
pub run_gathered : (old now done word after more : List Bool) → now ++ word ≡ old ++ done → after ≡ word ++ more → now ++ after ≡ old ++ (done ++ more)
run_gathered old now done word after more h e = ap (λ (t : List Bool). now ++ t) e ∙ sym (append_assoc now word more) ∙ ap (λ (t : List Bool). t ++ more) h ∙ append_assoc old done more

-- they were not, and a new word was started
pub run_apart : (old now full new done word after : List Bool) (n : ℕ) → now ++ word ≡ old ++ done → full ≡ now ++ word → new ≡ full ++ all_false (n - n % 64) → after ≡ all_false (n % 64) ++ true ∷ [] → new ++ after ≡ old ++ (done ++ (all_false n ++ true ∷ []))
run_apart old now full new done word after n h e f g =
    let m : n - n % 64 + n % 64 ≡ n = omega arith in
    let z : all_false (n - n % 64) ++ (all_false (n % 64) ++ true ∷ []) ≡ all_false n ++ true ∷ [] = sym (append_assoc (all_false (n - n % 64)) (all_false (n % 64)) (true ∷ [])) ∙ ap (λ (t : List Bool). t ++ true ∷ []) (zeros_more (n - n % 64) (n % 64) ∙ ap all_false m) in
    let k : new ≡ (old ++ done) ++ all_false (n - n % 64) = f ∙ ap (λ (t : List Bool). t ++ all_false (n - n % 64)) (e ∙ h) in
    rw (k, g, append_assoc (old ++ done) (all_false (n - n % 64)) (all_false (n % 64) ++ true ∷ []), z, append_assoc old done (all_false n ++ true ∷ [])) refl

-- ---- offsets that fall, and too many bits

apart : true ≡ false → ⊥
apart h = cc

-- offsets either fall or do not
pub not_both : (from : ℕ) (ns : List ℕ) → falls from ns ≡ true → falls from ns ≡ false → ⊥
not_both from ns p q = apart (sym p ∙ q)

pub no_fall : (from : ℕ) (ns : List ℕ) → rises from ns (last_or from ns) ≡ true → falls from ns ≡ false
no_fall from [] h = refl
no_fall from (n ∷ ns) h = ⊎_elim
    (λ (l : n < from). absurd (apart (sym (rw (lt-leb from n l) at h))))
    (λ (l : from ≤ n). rw (le-ltb n from l) (no_fall n ns (rw (le-leb from n l) at h)))
    (cases_lt n from)

pub fall_there : (from : ℕ) (ns : List ℕ) → rises from ns (last_or from ns) ≡ false → falls from ns ≡ true
fall_there from [] h = absurd (apart (rw (eq-eqb from from refl) at h))
fall_there from (n ∷ ns) h = ⊎_elim
    (λ (l : n < from). rw (lt-ltb n from l) refl)
    (λ (l : from ≤ n). or_right (nat_lt n from) (falls n ns) (fall_there n ns (rw (le-leb from n l) at h)))
    (cases_lt n from)

long_runs : (from : ℕ) (ns : List ℕ) → last_or from ns + length ns ≤ from + length (runs from ns)
long_runs from [] = omega arith
long_runs from (n ∷ ns) =
    let e : length (all_false (n - from) ++ true ∷ runs n ns) ≡ n - from + suc (length (runs n ns)) = length-append (all_false (n - from)) (true ∷ runs n ns) ∙ ap (λ (t : ℕ). t + suc (length (runs n ns))) (length-zeros (n - from)) in
    let i = long_runs n ns in
    rw e (omega arith)

-- a column without offsets refuses the same as an empty one
new_refuses : (k : Excess) (c : Content) (rs : List Row) → unaries_format.rows c ≡ [] → ranks_format.refuses k c 0 (map truth (runs 0 (numbers rs))) || (is_misplaced k && falls 0 (numbers rs)) ≡ true → refuses_more unaries_format k c rs ≡ true
new_refuses k c rs e h = ap (λ (t : List Row). unaries_format.refuses k c (length t) rs) e ∙ h

pub fallen_new : (rs : List Row) → falls 0 (numbers rs) ≡ true → IsTrueOfNew Offset unaries_format rs
fallen_new rs h = λ c s e. new_refuses misplaced c rs e (or_right (ranks_format.refuses misplaced c 0 (map truth (runs 0 (numbers rs)))) (falls 0 (numbers rs)) h)

pub too_long_new : (rs : List Row) → 2 ^ 64 ≤ last_or 0 (numbers rs) + length rs → IsTrueOfNew Length unaries_format rs
too_long_new rs l = λ c s e. new_refuses too_many c rs e (rw past refl)
  where
    many : 2 ^ 64 ≤ length (map truth (runs 0 (numbers rs)))
    many = omega (arith, l, long_runs 0 (numbers rs), length-map (runs 0 (numbers rs)) truth, length-map rs number_of)

    past : past_count too_many (0 + length (map truth (runs 0 (numbers rs)))) ≡ true
    past = lt-ltb (2 ^ 64 - 1) (0 + length (map truth (runs 0 (numbers rs)))) (omega (arith, many))

pub no_bits : (xs : List Bool) → map truth xs ≡ [] → xs ≡ []
no_bits xs h = bits_from_rows xs [] h

-- ---- the result

-- the column of these bits is made from the offsets
pub made_of_runs : {c y : Content} → IsSound ranks_format y → ranks_bits y ≡ runs 0 (numbers (words_format.rows c)) → falls 0 (numbers (words_format.rows c)) ≡ false → IsMadeOf words_format unaries_format c y
made_of_runs {c} {y} s b h =
    let ns : List ℕ = numbers (words_format.rows c) in
    let bits : unary_bits ranks_format y ≡ runs 0 ns = ranks_bits_are y ∙ b in
    record {
      sound = unary_sound ranks_format (record { bits = s; ended = ap (last_bit true) bits ∙ runs-ended 0 ns });
      rows = ap (λ (t : List Bool). map number (ends_of 0 t)) bits ∙ ap (map number) (ends-runs 0 ns h) ∙ sym (words_numbers c);
    }

-- an empty list of counts is right, as far as it goes
pub none_counted : (ws xs : List ℕ) → xs ≡ [] → CountWords ws (words_in (le_bytes xs))
unfolding CountWords
none_counted ws xs e = λ i l. absurd (omega (arith, l, length_words_back xs, ap (λ (t : List ℕ). length t) e))
