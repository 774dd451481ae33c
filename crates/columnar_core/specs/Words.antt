-- The words that are written for slices.
use Rattle.std.specs.Prelude.{ℕ, List, [], ◌∷◌, ◌++◌, ◌+◌, ◌-◌, ◌*◌, ◌/◌, ◌^◌, length, map, replicate, nat_lt, Option, Some, None, if◌then◌else◌}
use Rattle.std.specs.List.{range_with_len, flat_map}
use Rattle.columnar_core.specs.Bytes.{word, rounded, le_bytes}

-- where slices end, if the first starts at `start`
abbrev pub slice_ends : ℕ → List (List ℕ) → List ℕ
slice_ends start [] = []
slice_ends start (s ∷ ss) = (start + length s) ∷ slice_ends (rounded (start + length s)) ss

-- the table of the slices: its own end, and the end of each slice
abbrev pub table_words : List (List ℕ) → List ℕ
table_words slices = 8 * (length slices + 1) ∷ slice_ends (8 * (length slices + 1)) slices

-- the words of a slice, the last one filled up with zeros
abbrev pub slice_words : List ℕ → List ℕ
slice_words s = map (word s) (range_with_len 0 ((length s + 7) / 8))

-- the words of a store that frames the slices, with zeros between them and nothing after them
abbrev pub words : List (List ℕ) → List ℕ
words slices = table_words slices ++ flat_map slice_words slices

-- a slice, filled up with zeros to a multiple of eight
abbrev pub padded : List ℕ → List ℕ
padded s = s ++ replicate (rounded (length s) - length s) 0

-- the bytes of these words
abbrev pub store_bytes : List (List ℕ) → List ℕ
store_bytes slices = le_bytes (table_words slices) ++ flat_map padded slices

-- the number of words that are written, if 64 bits can count their bytes
abbrev pub word_count : List (List ℕ) → Option ℕ
word_count slices = if nat_lt (8 * length (words slices)) (2 ^ 64) then Some (length (words slices)) else None

-- the number of bytes that are written, if 64 bits can count them
abbrev pub byte_count : List (List ℕ) → Option ℕ
byte_count slices = if nat_lt (8 * length (words slices)) (2 ^ 64) then Some (8 * length (words slices)) else None
