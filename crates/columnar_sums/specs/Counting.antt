-- How set bits are counted and found.
use Rattle.std.specs.Prelude.{◌≡◌, ℕ, zero, suc, ◌+◌, ◌-◌, ◌*◌, ◌/◌, ◌≤◌, ◌<◌, Bool, true, false, List, [], ◌∷◌, length, map, take, count_by, slice_index, Option, Some, None, option_map, cond}
use Rattle.std.specs.List.{range_with_len}
use Rattle.columnar_core.specs.Reads.{Reads}
use Rattle.columnar_bits.specs.Bits.{bit_in}

-- the number of set bits among the first p
unfoldable pub ones : List Bool → ℕ → ℕ
ones b p = count_by (λ x. x) (take p b)

-- the position of the set bit that has k set bits before it
unfoldable pub place : List Bool → ℕ → Option ℕ
place [] k = None
place (false ∷ b) k = option_map suc (place b k)
place (true ∷ b) zero = Some 0
place (true ∷ b) (suc k) = option_map suc (place b k)

-- the number of i below n with f i true
unfoldable pub ones_below : (ℕ → Bool) → ℕ → ℕ
ones_below f zero = 0
ones_below f (suc n) = ones_below f n + cond (f n) 1 0

-- for each complete 1024 bits the number of set bits up to their end
unfoldable pub counts_of : List Bool → List ℕ
counts_of b = map (λ i. ones b (1024 * (i + 1))) (range_with_len 0 (length b / 1024))

-- the counts are those of the bits
unfoldable pub AreCounts : List Bool → List ℕ → Type 0
AreCounts b counts =
    (length counts ≡ length b / 1024) × ((i : ℕ) → i < length counts → slice_index counts i ≡ ones b (1024 * (i + 1)))

-- each count is the number of set bits of the words up to its chunk's end
unfoldable pub CountWords : List ℕ → List ℕ → Type 0
CountWords words counts = (i : ℕ) → i < length counts → slice_index counts i ≡ ones_below (bit_in words) (1024 * (i + 1))

-- the count before a chunk; 0 before the first
unfoldable pub count_before : List ℕ → ℕ → ℕ
count_before counts zero = 0
count_before counts (suc chunk) = slice_index counts chunk

-- At most this many more counts and words were read, and earlier reads stay.
abbrev pub Adds : ℕ → ℕ → Reads → Reads → Type 0
Adds counts words old new =
    (new.counts ≤ old.counts + counts) × (length new.words ≤ length old.words + words) × (take (length old.words) new.words ≡ old.words)
