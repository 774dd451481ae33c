-- Booleans, stored as bits of words.
use Rattle.std.specs.Prelude.{ℕ, ◌+◌, ◌*◌, ◌/◌, ◌%◌, ◌==◌, Bool, List, [], ◌∷◌, ◌++◌, length, map, slice_index, cond}
use Rattle.std.specs.Int.{bit_at}
use Rattle.std.specs.List.{range_with_len}

-- whether bit i of the number n is set
unfoldable pub bit : ℕ → ℕ → Bool
bit n i = bit_at n i == 1

-- bit i of 64-bit words, lowest first: bit i % 64 of word i / 64
unfoldable pub bit_in : List ℕ → ℕ → Bool
bit_in words i = bit (slice_index words (i / 64)) (i % 64)

-- the first n booleans of f
unfoldable pub truths : (ℕ → Bool) → ℕ → List Bool
truths f n = map f (range_with_len 0 n)

-- the bits of whole words, then the lowest `count` bits of a last word
unfoldable pub bits_of : List ℕ → ℕ → ℕ → List Bool
bits_of words tail count = truths (bit_in (words ++ tail ∷ [])) (64 * length words + count)

-- the number with these bits, lowest first
unfoldable pub number_of_bits : List Bool → ℕ
number_of_bits [] = 0
number_of_bits (b ∷ bs) = cond b 1 0 + 2 * number_of_bits bs
