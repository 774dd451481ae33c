-- Framing: how a store holds slices.
use Rattle.std.specs.Prelude.{ℕ, zero, suc, List, [], ◌≡◌, ◌<◌, ◌≤◌, ◌+◌, ◌-◌, ◌*◌, ◌/◌, ◌%◌, length, map, slice_index_or, slice_range}
use Rattle.std.specs.List.{range_with_len}
use Rattle.columnar_core.specs.Bytes.{word, rounded}

-- where slice i ends
abbrev pub end_of : List ℕ → ℕ → ℕ
end_of bytes i = word bytes (i + 1)

-- where slice i starts: the first after the table, each later one at the previous end, rounded up to a multiple of
-- eight
abbrev pub start_of : List ℕ → ℕ → ℕ
start_of bytes zero = word bytes 0
start_of bytes (suc i) = rounded (end_of bytes i)

-- the bytes from the start of slice i to its end
abbrev pub slice_of : List ℕ → ℕ → List ℕ
slice_of bytes i = slice_range bytes (start_of bytes i) (end_of bytes i)

-- slice i does not end before its start or past the bytes
pub record IsPlaced (bytes : List ℕ) (i : ℕ) : Type 0 where
  pub ordered : start_of bytes i ≤ end_of bytes i
  pub within : end_of bytes i ≤ length bytes

-- the bytes begin with a table of n slices, and each slice lies in the bytes
pub record IsTable (bytes : List ℕ) (n : ℕ) : Type 0 where
  pub first : word bytes 0 ≡ 8 * (n + 1)
  pub fits : 8 * (n + 1) ≤ length bytes
  pub placed : (i : ℕ) → i < n → IsPlaced bytes i

-- the bytes frame the slices: the table has their number, and each is the bytes from its start to its end
pub record Frame (bytes : List ℕ) (slices : List (List ℕ)) : Type 0 where
  pub table : IsTable bytes (length slices)
  pub each : (i : ℕ) → i < length slices → slice_index_or slices i [] ≡ slice_of bytes i

-- the bytes are whole words that frame n slices
pub record IsLegal (bytes : List ℕ) (n : ℕ) : Type 0 where
  pub whole : length bytes % 8 ≡ 0
  pub framed : (slices : List (List ℕ)) × (Frame bytes slices × (length slices ≡ n))

-- the number of slices in the table
abbrev pub slice_count : List ℕ → ℕ
slice_count bytes = word bytes 0 / 8 - 1

-- the slices of a store
abbrev pub framed_slices : List ℕ → List (List ℕ)
framed_slices bytes = map (slice_of bytes) (range_with_len 0 (slice_count bytes))

-- the bytes are whole words that frame slices
pub record IsStore (bytes : List ℕ) : Type 0 where
  pub whole : length bytes % 8 ≡ 0
  pub framed : Frame bytes (framed_slices bytes)
