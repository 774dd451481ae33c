-- The written words frame the slices.
use Rattle.std.proofs.Common.{ℕ, zero, suc, List, [], ◌∷◌, ◌++◌, ◌≡◌, ◌<◌, ◌≤◌, ◌+◌, ◌-◌, ◌*◌, ◌/◌, ◌%◌, ◌^◌, length, get_or, take, drop, replicate, refl, sym, ◌∙◌, ap, arith, append_assoc, length-append, subst}
use Rattle.std.specs.List.{flat_map}
use Rattle.std.specs.Int.{to_le_bytes, from_le_bytes, w64}
use Rattle.std.proofs.lemmas.List.{drop_more, drop-drop, drop_at, take_at, length-replicate, get_or-append_right, get_or_append_left, get_or_past}
use Rattle.std.proofs.lemmas.List.FromFn.{length-map-range_with_len}
use Rattle.std.proofs.lemmas.Nat.{from_le_bytes-to_le_bytes_8}
use Rattle.columnar_base.specs.WordViewLaws.{length-le_bytes}
use Rattle.columnar_core.specs.Bytes.{word, rounded, word_bytes, le_bytes}
use Rattle.columnar_core.specs.Words.{slice_ends, table_words, slice_words, words, padded, store_bytes}
use Rattle.columnar_core.specs.Frame.{end_of, start_of, Frame, IsLegal}

pub length-word_bytes : (n : ℕ) → length (word_bytes n) ≡ 8
unfolding word_bytes
length-word_bytes n = refl

pub word-front : (n : ℕ) (rest : List ℕ) → n < 2 ^ 64 → word (word_bytes n ++ rest) 0 ≡ n
unfolding word word_bytes
word-front n rest l = from_le_bytes-to_le_bytes_8 n l

-- eight bytes in front shift each word by one index
pub word-after : (front rest : List ℕ) (i : ℕ) → length front ≡ 8 → word (front ++ rest) (suc i) ≡ word rest i
unfolding word
word-after front rest i e =
    let d : 8 * suc i ≡ 8 + 8 * i = omega arith in
    let f : drop (8 * suc i) (front ++ rest) ≡ drop (8 * i) rest =
    ap (λ k. drop k (front ++ rest)) d ∙ sym (drop-drop (8 * i) 8 (front ++ rest)) ∙ ap (drop (8 * i)) (drop_at front rest 8 e) in
    ap (λ t. from_le_bytes w64 t) f

-- the first words are those that were written
pub word-le_bytes : (xs rest : List ℕ) (i : ℕ) → i < length xs → get_or xs i 0 < 2 ^ 64 → word (le_bytes xs ++ rest) i ≡ get_or xs i 0
unfolding word_bytes
word-le_bytes [] rest i l b = absurd (omega arith)
word-le_bytes (x ∷ xs) rest zero l b = ap (λ t. word t 0) (append_assoc (word_bytes x) (le_bytes xs) rest) ∙ word-front x (le_bytes xs ++ rest) b
word-le_bytes (x ∷ xs) rest (suc i) l b =
    ap (λ t. word t (suc i)) (append_assoc (word_bytes x) (le_bytes xs) rest)
    ∙ word-after (word_bytes x) (le_bytes xs ++ rest) i (length-word_bytes x) ∙ word-le_bytes xs rest i (omega arith) b

pub length-ends : (start : ℕ) (slices : List (List ℕ)) → length (slice_ends start slices) ≡ length slices
length-ends start [] = refl
length-ends start (s ∷ ss) = ap suc (length-ends (rounded (start + length s)) ss)

pub length-slice_words : (s : List ℕ) → length (slice_words s) ≡ (length s + 7) / 8
length-slice_words s = length-map-range_with_len (word s) 0 ((length s + 7) / 8)

pub length-padded : (s : List ℕ) → length (padded s) ≡ rounded (length s)
length-padded s = length-append s (replicate (rounded (length s) - length s) 0) ∙ omega (arith, length-replicate {A = ℕ} (rounded (length s) - length s) 0)

-- the number of words of the slices
pub length-flat_padded : (slices : List (List ℕ)) → length (flat_map padded slices) ≡ 8 * length (flat_map slice_words slices)
length-flat_padded [] = refl
length-flat_padded (s ∷ ss) =
    length-append (padded s) (flat_map padded ss)
    ∙ omega (arith, length-padded s, length-slice_words s, length-append (slice_words s) (flat_map slice_words ss), length-flat_padded ss)

pub length-words : (slices : List (List ℕ)) → length (words slices) ≡ 1 + length slices + length (flat_map slice_words slices)
length-words slices = length-append (table_words slices) (flat_map slice_words slices) ∙ omega (arith, length-ends (8 * (length slices + 1)) slices)

pub length-store_bytes : (slices : List (List ℕ)) → length (store_bytes slices) ≡ 8 * length (words slices)
length-store_bytes slices =
    length-append (le_bytes (table_words slices)) (flat_map padded slices)
    ∙ omega (arith, length-le_bytes (table_words slices), length-flat_padded slices, length-words slices, length-ends (8 * (length slices + 1)) slices)

-- where slice i starts, if slices are laid out from `start` on
abbrev pub from_of : ℕ → List (List ℕ) → ℕ → ℕ
from_of start slices zero = start
from_of start slices (suc i) = rounded (get_or (slice_ends start slices) i 0)

pub from_shift : (start : ℕ) (s : List ℕ) (ss : List (List ℕ)) (i : ℕ) → from_of start (s ∷ ss) (suc i) ≡ from_of (rounded (start + length s)) ss i
from_shift start s ss zero = refl
from_shift start s ss (suc i) = refl

-- s lies in all, from one index to another
pub record LiesAt (all s : List ℕ) (from to : ℕ) : Type 0 where
  pub ordered : from ≤ to
  pub within : to ≤ length all
  pub is : s ≡ take (to - from) (drop from all)
  pub padding : (j : ℕ) → to ≤ j → j < rounded to → get_or all j 0 ≡ 0

-- zeros after bytes read as those past their end
get_or-zeros : (n k : ℕ) → get_or {A = ℕ} (replicate n 0) k 0 ≡ 0
get_or-zeros zero k = refl
get_or-zeros (suc n) zero = refl
get_or-zeros (suc n) (suc k) = get_or-zeros n k

pub zeros_read : (s : List ℕ) (n k : ℕ) → get_or (s ++ replicate n 0) k 0 ≡ get_or s k 0
zeros_read [] n k = get_or-zeros n k
zeros_read (x ∷ s) n zero = refl
zeros_read (x ∷ s) n (suc k) = zeros_read s n k

at_first : (pre s : List ℕ) (n : ℕ) (rest : List ℕ) (start : ℕ) → length pre ≡ start → rounded (start + length s) ≡ start + length s + n → LiesAt (pre ++ ((s ++ replicate n 0) ++ rest)) s start (start + length s)
at_first pre s n rest start e r =
    let size : length (s ++ replicate n 0) ≡ length s + n = length-append s (replicate n 0) ∙ ap (λ k. length s + k) (length-replicate {A = ℕ} n 0) in
    record {
      ordered = omega arith;
      within = omega (arith, length-append pre ((s ++ replicate n 0) ++ rest), length-append (s ++ replicate n 0) rest);
      is =
          let n' : length s ≡ (start + length s) - start = omega arith in
          sym (ap (take ((start + length s) - start)) (drop_at pre ((s ++ replicate n 0) ++ rest) start e ∙ append_assoc s (replicate n 0) rest)
          ∙ take_at s (replicate n 0 ++ rest) ((start + length s) - start) n');
      padding = λ j l h.
          get_or-append_right pre ((s ++ replicate n 0) ++ rest) start j 0 e (omega arith)
          ∙ get_or_append_left (s ++ replicate n 0) rest 0 (j - start) (omega arith)
          ∙ zeros_read s n (j - start) ∙ get_or_past s (j - start) 0 (omega arith);
    }

-- slices that are laid out, each after the previous one
pub laid : (pre : List ℕ) (start : ℕ) (slices : List (List ℕ)) (i : ℕ) → length pre ≡ start → start % 8 ≡ 0 → i < length slices → LiesAt (pre ++ flat_map padded slices) (get_or slices i []) (from_of start slices i) (get_or (slice_ends start slices) i 0)
laid pre start [] i e m l = absurd (omega arith)
laid pre start (s ∷ ss) zero e m l = at_first pre s (rounded (length s) - length s) (flat_map padded ss) start e (omega arith)
laid pre start (s ∷ ss) (suc i) e m l =
    let k : length (pre ++ padded s) ≡ rounded (start + length s) = length-append pre (padded s) ∙ omega (arith, length-padded s) in
    let h = laid (pre ++ padded s) (rounded (start + length s)) ss i k (omega arith) (omega arith) in
    let P : List ℕ → ℕ → Type 0 = λ all from. LiesAt all (get_or ss i []) from (get_or (slice_ends (rounded (start + length s)) ss) i 0) in
    subst (λ (all : List ℕ). P all (from_of start (s ∷ ss) (suc i))) (append_assoc pre (padded s) (flat_map padded ss))
    (subst (P ((pre ++ padded s) ++ flat_map padded ss)) (sym (from_shift start s ss i)) h)

first_word : (slices : List (List ℕ)) → 8 * length (words slices) < 2 ^ 64 → word (store_bytes slices) 0 ≡ 8 * (length slices + 1)
first_word slices b =
    word-le_bytes (table_words slices) (flat_map padded slices) 0 (omega arith)
    (omega (arith, length-words slices))

later_word : (slices : List (List ℕ)) (i : ℕ) → 8 * length (words slices) < 2 ^ 64 → i < length slices → word (store_bytes slices) (suc i) ≡ get_or (slice_ends (8 * (length slices + 1)) slices) i 0
later_word slices i b l =
    let start = 8 * (length slices + 1) in
    let k : length (le_bytes (table_words slices)) ≡ start = length-le_bytes (table_words slices) ∙ omega (arith, length-ends start slices) in
    let h = laid (le_bytes (table_words slices)) start slices i k (omega arith) l in
    let w = h.within in
    word-le_bytes (table_words slices) (flat_map padded slices) (suc i) (omega (arith, length-ends start slices))
    (omega (arith, length-store_bytes slices))

pub start_word : (slices : List (List ℕ)) (i : ℕ) → 8 * length (words slices) < 2 ^ 64 → i ≤ length slices → start_of (store_bytes slices) i ≡ from_of (8 * (length slices + 1)) slices i
start_word slices zero b l = first_word slices b
start_word slices (suc i) b l = ap (λ k. rounded (word (store_bytes slices) k)) (omega arith) ∙ ap rounded (later_word slices i b (omega arith))

end_word : (slices : List (List ℕ)) (i : ℕ) → 8 * length (words slices) < 2 ^ 64 → i < length slices → end_of (store_bytes slices) i ≡ get_or (slice_ends (8 * (length slices + 1)) slices) i 0
end_word slices i b l = ap (word (store_bytes slices)) (omega arith) ∙ later_word slices i b l

pub at_words : (slices : List (List ℕ)) (i : ℕ) → 8 * length (words slices) < 2 ^ 64 → i < length slices → LiesAt (store_bytes slices) (get_or slices i []) (start_of (store_bytes slices) i) (end_of (store_bytes slices) i)
at_words slices i b l =
    let start = 8 * (length slices + 1) in
    let k : length (le_bytes (table_words slices)) ≡ start = length-le_bytes (table_words slices) ∙ omega (arith, length-ends start slices) in
    let h = laid (le_bytes (table_words slices)) start slices i k (omega arith) l in
    rw (start_word slices i b (omega arith), end_word slices i b l) h

-- the written bytes frame the slices
pub framed_words : (slices : List (List ℕ)) → 8 * length (words slices) < 2 ^ 64 → Frame (store_bytes slices) slices
framed_words slices b = record {
  table = record {
    first = first_word slices b;
    fits = omega (arith, length-store_bytes slices, length-words slices);
    placed = λ i l. let h = at_words slices i b l in record { ordered = h.ordered; within = h.within };
  };
  each = λ i l. let h = at_words slices i b l in h.is;
}

-- the written bytes are a legal store
pub legal_words : (slices : List (List ℕ)) → 8 * length (words slices) < 2 ^ 64 → IsLegal (store_bytes slices) (length slices)
legal_words slices b = record {
  whole = omega (arith, length-store_bytes slices);
  framed = (slices, (framed_words slices b, refl));
}

-- the bytes of the remaining words, one word further
pub le_bytes-drop : (xs : List ℕ) (i : ℕ) → (bytes : List ℕ) → bytes ≡ to_le_bytes w64 (get_or xs i 0) → i < length xs → le_bytes (drop i xs) ≡ bytes ++ le_bytes (drop (i + 1) xs)
unfolding word_bytes
le_bytes-drop xs i bytes e l = ap le_bytes (drop_more xs i 0 l) ∙ ap (λ t. t ++ le_bytes (drop (i + 1) xs)) (sym e)

pub padding_is : (s : List ℕ) (n : ℕ) → n ≡ length s → padded s ≡ s ++ replicate ((8 - n % 8) % 8) 0
padding_is s n e = ap (λ k. s ++ replicate k 0) (omega arith)
