use Rattle.std.proofs.Common.{◌≡◌, ℕ, ◌+◌, ◌-◌, ◌*◌, ◌/◌, ◌%◌, ◌^◌, ◌<◌, ◌≤◌, Bool, true, false, eqb, List, [], ◌∷◌, ◌++◌, length, take, drop, map, refl, sym, ◌∙◌, ap, arith, length-append}
use Rattle.std.specs.Prelude.{slice_index, slice_index_or, nat_eq, nat_lt, bit_and, slice_range}
use Rattle.std.proofs.lemmas.List.{map-append, length-map, take-map, length-take-le, length_push, nil_from_length, length-drop}
use Rattle.std.proofs.lemmas.Bool.{and_parts, and_from, eqb-true, eq-eqb, ltb-true, lt-ltb}
use Rattle.std.proofs.Math.Path.{ap₂}
use Rattle.columnar_core.specs.Row.{Row, truth, row_eq}
use Rattle.columnar_core.specs.Format.{Format, Content, slice, both, part, plain, IsSound, IsLawful, IsStorable, lengths, slices_of, Fault, fault, moved, unless, too_many}
use Rattle.columnar_core.specs.FaultLaws.{nothing_left, nothing_both, nothing_moved, moved_nothing, unless_true, true_unless}
use Rattle.columnar_core.specs.AlikeLaws.{alike_all, row_eq_same}
use Rattle.columnar_core.specs.Change.{Keeps, Grew, Stayed, WasCut, Took, Copied, Refused}
use Rattle.columnar_core.specs.ChangeLaws.{unchanged}
use Rattle.columnar_core.specs.AppendedLaws.{map_drop}
use Rattle.columnar_core.specs.declared.fault.GrowError.{GrowError}
use Rattle.columnar_core.specs.declared.fault.GrowError.TheVariants.{Memory, Length, Offset, Format as FormatError}
use Rattle.columnar_core.specs.Elements.{elements_broken, past_count}
use Rattle.columnar_core.specs.ElementLaws.{elements_form, past_more}
use Rattle.columnar_core.specs.WordViews.{words_in, bit_words, le_bytes}
use Rattle.columnar_core.specs.WordViewLaws.{length-words_in, length-le_bytes, word_of_words, words_pushed, words_cut}
use Rattle.columnar_bits.specs.Bits.{bit, truths}
use Rattle.columnar_bits.specs.BitLaws.{length-bits_of, get_or-bits_of, bit_in_word, bit_shown, bit_shr, bits_of_more, bits_of_spill, bits_of_cut}
use Rattle.columnar_bits.specs.BoolColumns.{IsOfGrowth, last_word, last_count, bit_count, bits_in, is_tail, tail_broken, bools_format, SoundBools, TwoSlices, Tail}

pub bits_length : (a b : List ℕ) → length (bits_in a b) ≡ bit_count a b
bits_length a b = length-bits_of (words_in a) (last_word b) (last_count b)

pub length-bools : (a b : List ℕ) → length (map truth (bits_in a b)) ≡ bit_count a b
length-bools a b = length-map (bits_in a b) truth ∙ bits_length a b

abbrev own_rules : List ℕ → List ℕ → List Fault
own_rules a b = unless (is_tail (last_word b) (last_count b)) (fault 13 0) ++ unless (nat_lt (bit_count a b) (2 ^ 64)) (fault 19 0)

pub bools_parts : {a b : List ℕ} → IsSound bools_format (both (slice a) (slice b)) → SoundBools a b
bools_parts {a} {b} s =
    let p = nothing_left (elements_broken 8 (slice a)) (moved 1 (tail_broken (slice b)) ++ own_rules a b) s.accepted in
    let q = nothing_left (moved 1 (tail_broken (slice b))) (own_rules a b) p.1 in
    let r = nothing_left (unless (is_tail (last_word b) (last_count b)) (fault 13 0)) (unless (nat_lt (bit_count a b) (2 ^ 64)) (fault 19 0)) q.1 in
    let t = and_parts (nat_lt (last_count b) 64) (nat_lt (last_word b) (2 ^ last_count b)) (unless_true (is_tail (last_word b) (last_count b)) (fault 13 0) r.0) in
    record {
      whole = eqb-true _ _ (unless_true (nat_eq (length a % 8) 0) (fault 8 0) p.0);
      two = eqb-true _ _ (unless_true (nat_eq (length b) 16) (fault 9 0) (nothing_moved 1 (tail_broken (slice b)) q.0));
      few = ltb-true _ _ t.0;
      clear = ltb-true _ _ t.1;
      short = ltb-true _ _ (unless_true (nat_lt (bit_count a b) (2 ^ 64)) (fault 19 0) r.1);
    }

pub bools_sound : {a b : List ℕ} → SoundBools a b → IsSound bools_format (both (slice a) (slice b))
bools_sound {a} {b} s = record {
  accepted = nothing_both (elements_broken 8 (slice a)) (moved 1 (tail_broken (slice b)) ++ own_rules a b) (true_unless (nat_eq (length a % 8) 0) (fault 8 0) (eq-eqb _ _ s.whole))
      (nothing_both (moved 1 (tail_broken (slice b))) (own_rules a b) (moved_nothing 1 (tail_broken (slice b)) (true_unless (nat_eq (length b) 16) (fault 9 0) (eq-eqb _ _ s.two)))
      (nothing_both (unless (is_tail (last_word b) (last_count b)) (fault 13 0)) (unless (nat_lt (bit_count a b) (2 ^ 64)) (fault 19 0))
      (true_unless (is_tail (last_word b) (last_count b)) (fault 13 0) (and_from _ _ (lt-ltb _ _ s.few) (lt-ltb _ _ s.clear)))
      (true_unless (nat_lt (bit_count a b) (2 ^ 64)) (fault 19 0) (lt-ltb _ _ s.short))));
}

right_form : (y : Content) (rest : List Fault) → moved 1 (tail_broken y) ++ rest ≡ [] → (b : List ℕ) × (y ≡ slice b)
right_form (slice b) rest h = (b, refl)
right_form (both x y) rest h = cc
right_form (part l u x) rest h = cc
right_form (plain rs) rest h = cc

pub bools_form : (c : Content) → IsSound bools_format c → TwoSlices c
bools_form (both x y) s =
    let q = nothing_left (elements_broken 8 x) _ s.accepted in
    let p = elements_form 8 x q.0 in
    let r = right_form y _ q.1 in
    record { values = p.0; tail = r.0; is = ap₂ (λ (u v : Content). both u v) p.1 r.1 }
bools_form (slice bs) s = cc
bools_form (part l u x) s = cc
bools_form (plain rs) s = cc

-- the words of all bits
pub words_of_bits : {a b : List ℕ} → SoundBools a b → 8 * (bit_count a b / 64) ≡ length a
words_of_bits {a} {b} s = omega (arith, s.whole, s.few, length-words_in a)

bools_full : (c : Content) → IsSound bools_format c → bools_format.extent c (length (bools_format.rows c)) ≡ lengths c
bools_full c s =
    let f = bools_form c s in
    let p : SoundBools f.values f.tail = bools_parts (rw f.is at s) in
    rw f.is (full_of p)
  where
    full_of : {a b : List ℕ} → SoundBools a b → 8 * (length (map truth (bits_in a b)) / 64) ∷ 16 ∷ [] ≡ length a ∷ length b ∷ []
    full_of {a} {b} p = rw (length-bools a b, words_of_bits p, p.two) refl

bools_counted : (c : Content) → IsSound bools_format c → length (slices_of c) ≡ 2
bools_counted c s = let f = bools_form c s in rw f.is refl

bools_rebuilt : (c : Content) (rest : List (List ℕ)) → IsSound bools_format c → bools_format.build (slices_of c ++ rest) ≡ c
bools_rebuilt c rest s = let f = bools_form c s in rw f.is refl

bools_built : (ss : List (List ℕ)) → 2 ≤ length ss → slices_of (bools_format.build ss) ≡ take 2 ss
bools_built [] l = absurd (omega arith)
bools_built (a ∷ []) l = absurd (omega arith)
bools_built (a ∷ b ∷ ss) l = refl

pub bools_lawful : IsLawful bools_format
bools_lawful = record {
  full = bools_full;
  same = row_eq_same;
  kindred = row_eq_same;
  related = λ r s h. h;
  more = λ e c n rs ss h. past_more e (n + length rs) (n + length (rs ++ ss)) (omega (arith, length-append rs ss)) h;
}

pub bools_storable : IsStorable bools_format
bools_storable = record {
  swift = omega arith;
  sized = refl;
  aligned = refl;
  counted = bools_counted;
  rebuilt = bools_rebuilt;
  built = bools_built;
}

-- changes

-- the bits cs follow those of a and b
pub record Added (a b a' b' : List ℕ) (cs : List Bool) : Type 0 where
  pub sound : SoundBools a' b'
  pub bits : bits_in a' b' ≡ bits_in a b ++ cs

pub bools_keeps : (c d : Content) (n : ℕ) → Keeps bools_format c d n
bools_keeps c d n = record { extents = λ k l. refl; limits = λ k l e rs. refl }

pub bools_grew : {a b a' b' : List ℕ} {cs : List Bool} → Added a b a' b' cs → Grew bools_format (both (slice a) (slice b)) (both (slice a') (slice b')) (map truth cs)
bools_grew {a} {b} {a'} {b'} {cs} g = record {
  sound = bools_sound g.sound;
  rows = rw g.bits (map-append truth (bits_in a b) cs);
  kept = bools_keeps (both (slice a) (slice b)) (both (slice a') (slice b')) (length (map truth (bits_in a b)));
}

pub bools_took : {a b a' b' : List ℕ} {cs : List Bool} → Added a b a' b' cs → Took bools_format (both (slice a) (slice b)) (both (slice a') (slice b')) (map truth cs)
bools_took {a} {b} {a'} {b'} {cs} g = record {
  fresh = map truth cs;
  grew = bools_grew g;
  alike = alike_all row_eq row_eq_same (map truth cs);
  adds = λ e rs h. past_more e (length (map truth (bits_in a' b')) + length rs) (length (map truth (bits_in a b)) + length (map truth cs ++ rs)) (omega (arith, ap length g.bits, length-append (bits_in a b) cs, length-map (bits_in a' b') truth, length-map (bits_in a b) truth, length-map cs truth, length-append (map truth cs) rs)) h;
}

pub bools_copied : {a b a' b' : List ℕ} {cs : List Bool} (start : ℕ) (rs : List Row) → Added a b a' b' cs → map truth cs ≡ rs → Copied bools_format (both (slice a) (slice b)) (both (slice a') (slice b')) start rs
bools_copied {a} {b} {a'} {b'} {cs} start rs g e = record {
  took = rw e at (bools_took g);
  front = λ n z. rw (g.bits, map-append truth (bits_in a b) cs, n) e;
}

pub bools_cut : {a b a' b' : List ℕ} {n : ℕ} → SoundBools a' b' → bits_in a' b' ≡ take n (bits_in a b) → n ≤ length (bits_in a b) → WasCut bools_format (both (slice a) (slice b)) (both (slice a') (slice b')) n
bools_cut {a} {b} {a'} {b'} {n} s e l =
    let m : length (bits_in a' b') ≡ n = rw e (length-take-le n (bits_in a b) l) in
    let k : bit_count a' b' ≡ n = omega (arith, bits_length a' b') in
    let h : 8 * (n / 64) ≡ length a' = rw k at (words_of_bits s) in
    let t = s.two in
    record {
      sound = bools_sound s;
      rows = rw e (sym (take-map truth n (bits_in a b)));
      lengths_cut = rw (h, t) refl;
      kept = bools_keeps (both (slice a) (slice b)) (both (slice a') (slice b')) n;
    }

-- more bits than 64 bits can count
pub bools_past : (a b : List ℕ) (rs : List Row) → 2 ^ 64 ≤ length (bits_in a b) + length rs → past_count too_many (length (map truth (bits_in a b)) + length rs) ≡ true
bools_past a b rs l = lt-ltb (2 ^ 64 - 1) (length (map truth (bits_in a b)) + length rs) (omega (arith, l, length-map (bits_in a b) truth))

-- the rows determine the bits
pub bits_from_rows : (xs ys : List Bool) → map truth xs ≡ map truth ys → xs ≡ ys
bits_from_rows [] [] h = refl
bits_from_rows [] (y ∷ ys) h = cc
bits_from_rows (x ∷ xs) [] h = cc
bits_from_rows (x ∷ xs) (y ∷ ys) h =
    let e : truth x ≡ truth y = cc in
    let f : map truth xs ≡ map truth ys = cc in
    let g : x ≡ y = cc in
    let k = bits_from_rows xs ys f in
    rw (g, k) refl

-- more bits in the tail
pub tail_more : {a b b' : List ℕ} {w c u n : ℕ} (g m : ℕ) → SoundBools a b → Tail b w c → Tail b' u n → n ≡ c + m → n < 64 → u < 2 ^ n → ((j : ℕ) → j < c → bit u j ≡ bit w j) → ((j : ℕ) → c ≤ j → j < 64 → bit u j ≡ bit g (j - c)) → Added a b a b' (truths (bit g) m)
tail_more {a} {b} {b'} {w} {c} {u} {n} g m s t t' e l clear same more =
    let p = s.few in let q = s.short in
    let ew : last_word b ≡ w = t.word in
    let ec : last_count b ≡ c = t.count in
    let eu : last_word b' ≡ u = t'.word in
    let en : last_count b' ≡ n = t'.count in
    record {
      sound = record { whole = s.whole; two = t'.two; few = rw en l; clear = rw (eu, en) clear; short = omega arith };
      bits = rw (ew, ec, eu, en) (bits_of_more (words_in a) w u c g n m (omega arith) e (omega arith) same
          (λ j k. let d : c + j - c ≡ j = omega arith in more (c + j) (omega arith) (omega arith) ∙ ap (bit g) d));
    }

-- one more whole word, with the remaining bits in the tail
pub word_more : {a b a' b' : List ℕ} {w c r n : ℕ} (u g m : ℕ) → SoundBools a b → Tail b w c → Tail b' r n → words_in a' ≡ words_in a ++ u ∷ [] → length a' ≡ 8 + length a → length (words_in a) + 1 < 2 ^ 58 → n + 64 ≡ c + m → m ≤ 64 → r < 2 ^ n → ((j : ℕ) → j < c → bit u j ≡ bit w j) → ((j : ℕ) → c ≤ j → j < 64 → bit u j ≡ bit g (j - c)) → ((j : ℕ) → j < n → bit r j ≡ bit g (j + (64 - c))) → Added a b a' b' (truths (bit g) m)
word_more {a} {b} {a'} {b'} {w} {c} {r} {n} u g m s t t' ea la room e l clear same more rest =
    let p = s.few in let q = s.whole in
    let ew : last_word b ≡ w = t.word in
    let ec : last_count b ≡ c = t.count in
    let er : last_word b' ≡ r = t'.word in
    let en : last_count b' ≡ n = t'.count in
    let k : length (words_in a') ≡ length (words_in a) + 1 = rw ea (length_push (words_in a) u) in
    record {
      sound = record { whole = omega arith; two = t'.two; few = omega arith; clear = rw (er, en) clear; short = omega arith };
      bits = rw (ew, ec, er, en, ea) (bits_of_spill (words_in a) w u r c g n m (omega arith) e l same more rest);
    }

-- the first n bits
pub tail_cut : {a b a' b' : List ℕ} {u n : ℕ} → SoundBools a b → Tail b' u (n % 64) → words_in a' ≡ take (n / 64) (words_in a) → length a' ≡ 8 * (n / 64) → n ≤ length (bits_in a b) → u < 2 ^ (n % 64) → ((j : ℕ) → j < n % 64 → bit u j ≡ bit (slice_index (words_in a ++ last_word b ∷ []) (n / 64)) j) → (SoundBools a' b') × (bits_in a' b' ≡ take n (bits_in a b))
tail_cut {a} {b} {a'} {b'} {u} {n} s t ea la l clear same =
    let p = s.few in let q = s.short in
    let i = bits_length a b in
    let eu : last_word b' ≡ u = t.word in
    let en : last_count b' ≡ n % 64 = t.count in
    let k : length (words_in a') ≡ n / 64 = rw ea (length-take-le (n / 64) (words_in a) (omega arith)) in (
      record { whole = omega arith; two = t.two; few = omega arith; clear = rw (eu, en) clear; short = omega arith },
      rw (eu, en, ea) (bits_of_cut (words_in a) (last_word b) (last_count b) u n (omega arith) p same),
    )

-- bits by their words

pub two_words : {a b : List ℕ} → SoundBools a b → length (words_in b) ≡ 2
two_words {a} {b} s = omega (arith, s.two, length-words_in b)

-- the word of a bit exists, also that of the index after the last bit
pub word_there : {a b : List ℕ} (i : ℕ) → SoundBools a b → i ≤ length (bits_in a b) → i / 64 < length (bit_words a b)
word_there {a} {b} i s l = omega (arith, s.few, bits_length a b, length_push (words_in a) (last_word b))

pub next_there : {a b : List ℕ} (i n : ℕ) → SoundBools a b → i + n ≤ length (bits_in a b) → 64 < i % 64 + n → n ≤ 64 → i / 64 + 1 < length (bit_words a b)
next_there {a} {b} i n s l h m = omega (arith, s.few, bits_length a b, length_push (words_in a) (last_word b))

-- a bit is a bit of its word
pub bit_of_word : (a b : List ℕ) (i q r : ℕ) → i < length (bits_in a b) → r < 64 → 64 * q + r ≡ i → slice_index_or (bits_in a b) i false ≡ bit (slice_index (bit_words a b) q) r
bit_of_word a b i q r h l e =
    get_or-bits_of (words_in a) (last_word b) (last_count b) i (omega (arith, bits_length a b)) ∙
    bit_in_word (bit_words a b) q r i l e

pub bit_read : (a b : List ℕ) (i w : ℕ) → i < length (bits_in a b) → w ≡ slice_index (bit_words a b) (i / 64) → eqb (bit_and (w / 2 ^ (i % 64)) 1) 1 ≡ slice_index_or (bits_in a b) i false
bit_read a b i w l e =
    bit_shown w (i % 64) ∙ sym (bit_of_word a b i (i / 64) (i % 64) l (omega arith) (omega arith) ∙ ap (λ (x : ℕ). bit x (i % 64)) (sym e))

pub window_low : (a b : List ℕ) (i j w : ℕ) → i + j < length (bits_in a b) → i % 64 + j < 64 → w ≡ slice_index (bit_words a b) (i / 64) → bit (w / 2 ^ (i % 64)) j ≡ slice_index_or (bits_in a b) (i + j) false
window_low a b i j w l h e =
    bit_shr w (i % 64) j ∙ ap (λ (x : ℕ). bit x (i % 64 + j)) e ∙ sym (bit_of_word a b (i + j) (i / 64) (i % 64 + j) l h (omega arith))

pub window_high : (a b : List ℕ) (i j w : ℕ) → i + j < length (bits_in a b) → 64 ≤ i % 64 + j → j < 64 → w ≡ slice_index (bit_words a b) (i / 64 + 1) → bit w (j - (64 - i % 64)) ≡ slice_index_or (bits_in a b) (i + j) false
window_high a b i j w l h k e =
    ap (λ (x : ℕ). bit x (j - (64 - i % 64))) e ∙ sym (bit_of_word a b (i + j) (i / 64 + 1) (j - (64 - i % 64)) l (omega arith) (omega arith))

-- the bytes of two words
pub tail_made : (w c : ℕ) → w < 2 ^ 64 → c < 2 ^ 64 → Tail (le_bytes (w ∷ c ∷ [])) w c
tail_made w c h k = record {
  two = length-le_bytes (w ∷ c ∷ []);
  word = word_of_words (w ∷ c ∷ []) 0 w (omega arith) refl h;
  count = word_of_words (w ∷ c ∷ []) 1 c (omega arith) refl k;
}

pub tail_read : {v b : List ℕ} {w c : ℕ} → v ≡ b → length b ≡ 16 → w ≡ last_word v → c ≡ last_count v → Tail b w c
tail_read {v} {b} e l p q = record { two = l; word = sym (rw e at p); count = sym (rw e at q) }

-- the bits of an owned column
pub record OwnedBits (xs tail : List ℕ) (w c : ℕ) : Type 0 where
  pub sound : SoundBools (le_bytes xs) (le_bytes tail)
  pub tail_is : Tail (le_bytes tail) w c
  pub few : c < 64
  pub clear : w < 2 ^ c
  pub words : length (words_in (le_bytes xs)) ≡ length xs
  pub length_is : length (bits_in (le_bytes xs) (le_bytes tail)) ≡ 64 * length xs + c
  pub short : 64 * length xs + c < 2 ^ 64

pub length_words_back : (xs : List ℕ) → length (words_in (le_bytes xs)) ≡ length xs
length_words_back xs = omega (arith, length-words_in (le_bytes xs), length-le_bytes xs)

pub owned_bits_of : {xs tail v : List ℕ} {w c : ℕ} → IsSound bools_format (both (slice (le_bytes xs)) (slice (le_bytes tail))) → v ≡ le_bytes tail → w ≡ last_word v → c ≡ last_count v → OwnedBits xs tail w c
owned_bits_of {xs} {tail} {v} {w} {c} h e p q =
    let s = bools_parts h in
    let t : Tail (le_bytes tail) w c = tail_read e s.two p q in
    let n = length_words_back xs in
    let few = s.few in let short = s.short in
    record {
      sound = s;
      tail_is = t;
      few = omega (arith, t.count);
      clear = rw (t.word, t.count) at s.clear;
      words = n;
      length_is = bits_length (le_bytes xs) (le_bytes tail) ∙ omega (arith, t.count);
      short = omega (arith, t.count);
    }

-- one more word
pub words_grown : (xs ys : List ℕ) (u : ℕ) → ys ≡ xs ++ u ∷ [] → u < 2 ^ 64 → (words_in (le_bytes ys) ≡ words_in (le_bytes xs) ++ u ∷ []) × (length (le_bytes ys) ≡ 8 + length (le_bytes xs))
words_grown xs ys u e h = (rw e (words_pushed xs u h), omega (arith, length-le_bytes ys, length-le_bytes xs, ap length e, length_push xs u))

-- one bit, as a number
pub bit_one : truths (bit 1) 1 ≡ true ∷ []
unfolding bit truths
bit_one = refl

pub bit_zero : truths (bit 0) 1 ≡ false ∷ []
unfolding bit truths
bit_zero = refl

-- no words, and an empty tail
pub bools_none : (xs tail : List ℕ) → xs ≡ [] → Tail (le_bytes tail) 0 0 → SoundBools (le_bytes xs) (le_bytes tail) × (bits_in (le_bytes xs) (le_bytes tail) ≡ [])
bools_none xs tail e t =
    let n = length_words_back xs in
    let l : length xs ≡ 0 = ap length e in
    let m = length-le_bytes xs in
    let w = t.word in let c = t.count in (
      record { whole = omega arith; two = t.two; few = omega arith; clear = rw (w, c) (omega arith); short = omega arith },
      nil_from_length _ (bits_length (le_bytes xs) (le_bytes tail) ∙ omega arith),
    )

-- an owned column was cut
pub owned_cut : (xs ys tail tail' : List ℕ) {u n : ℕ} → IsSound bools_format (both (slice (le_bytes xs)) (slice (le_bytes tail))) → ys ≡ take (n / 64) xs → Tail (le_bytes tail') u (n % 64) → n ≤ length (map truth (bits_in (le_bytes xs) (le_bytes tail))) → u < 2 ^ (n % 64) → ((j : ℕ) → j < n % 64 → bit u j ≡ bit (slice_index (bit_words (le_bytes xs) (le_bytes tail)) (n / 64)) j) → WasCut bools_format (both (slice (le_bytes xs)) (slice (le_bytes tail))) (both (slice (le_bytes ys)) (slice (le_bytes tail'))) n
owned_cut xs ys tail tail' {u} {n} h e t l clear same =
    let s = bools_parts h in
    let k : n ≤ length (bits_in (le_bytes xs) (le_bytes tail)) = omega (arith, length-map (bits_in (le_bytes xs) (le_bytes tail)) truth) in
    let few = s.few in
    let m = bits_length (le_bytes xs) (le_bytes tail) in
    let w = length_words_back xs in
    let y : length ys ≡ n / 64 = rw e (length-take-le (n / 64) xs (omega arith)) in
    let c = tail_cut s t (rw e (words_cut xs (n / 64))) (length-le_bytes ys ∙ (rw y refl)) k clear same in
    bools_cut c.0 c.1 k

-- a refusal, by its causes
pub bools_refused : {a b a' b' : List ℕ} (rs : List Row) (e : GrowError) → Stayed bools_format (both (slice a) (slice b)) (both (slice a') (slice b')) → IsOfGrowth e → (e ≡ Length → 2 ^ 64 ≤ length (bits_in a b) + length rs) → Refused bools_format (both (slice a) (slice b)) (both (slice a') (slice b')) rs e
bools_refused {a} {b} rs Memory s k h = record { stayed = s; cause = tt }
bools_refused {a} {b} rs Length s k h = record { stayed = s; cause = bools_past a b rs (h refl) }
bools_refused {a} {b} rs Offset s k h = absurd k
bools_refused {a} {b} rs FormatError s k h = absurd k

-- nothing changed
pub bools_same : {a b : List ℕ} {d : Content} → IsSound bools_format (both (slice a) (slice b)) → d ≡ both (slice a) (slice b) → Stayed bools_format (both (slice a) (slice b)) d
bools_same {a} {b} {d} s e = rw e (unchanged s)

-- a range of the rows is the same range of the bits
pub rows_between : (xs : List Bool) (i j : ℕ) → map truth (slice_range xs i j) ≡ take (j - i) (drop i (map truth xs))
rows_between xs i j = rw (map_drop truth i xs) (sym (take-map truth (j - i) (drop i xs)))

pub length_between : (xs : List Bool) (i j : ℕ) → j ≤ length (map truth xs) → length (take (j - i) (drop i (map truth xs))) ≡ j - i
length_between xs i j l = length-take-le (j - i) (drop i (map truth xs)) (omega (arith, length-drop i (map truth xs)))

pub length_range : (xs : List Bool) (i j : ℕ) → j ≤ length (map truth xs) → length (slice_range xs i j) ≡ j - i
length_range xs i j l = length-take-le (j - i) (drop i xs) (omega (arith, length-drop i xs, length-map xs truth, l))

pub length_added : (new old xs : List Bool) (i j : ℕ) → new ≡ old ++ slice_range xs i j → i ≤ j → j ≤ length xs → length new ≡ length old + (j - i)
length_added new old xs i j e h l = omega (arith, ap length e, length-append old (slice_range xs i j), length-take-le (j - i) (drop i xs) (omega (arith, length-drop i xs)))

pub grew_to : {f : Format} {c d e : Content} {rs : List Row} → e ≡ d → Grew f c d rs → Grew f c e rs
grew_to q g = rw q g
