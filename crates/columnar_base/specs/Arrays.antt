-- Arrays of elements, as elements.
use Rattle.std.specs.Prelude.{ℕ, zero, suc, List, ◌++◌, ◌*◌, ◌^◌, map, take, replicate}
use Rattle.std.specs.List.{flat_map}
use Rattle.columnar_base.specs.Row.{Row, list}
use Rattle.columnar_base.specs.Elements.{pieces}

-- n bytes: the first n of bs, filled up with zeros
abbrev pub filled : ℕ → List ℕ → List ℕ
filled n bs = take n (bs ++ replicate n 0)

-- The number of bytes of an array of n elements of `size` bytes. An array of no elements has no bytes, so its size is
-- set beyond 2^64 - 1, and no call over bytes takes it.
abbrev pub array_size : ℕ → ℕ → ℕ
array_size size zero = 2 ^ 64
array_size size (suc n) = size * suc n

-- the bytes of an array of n elements
abbrev pub array_bytes : {T : Type 0} → ℕ → ℕ → (T → List ℕ) → List T → List ℕ
array_bytes n size bytes xs = filled (array_size size n) (flat_map bytes xs)

-- the row that the bytes represent
abbrev pub array_row_of : ℕ → ℕ → (List ℕ → Row) → List ℕ → Row
array_row_of n size row_of bs = list (map row_of (pieces size n bs))

-- the row of an array of n elements
abbrev pub array_row : {T : Type 0} → ℕ → ℕ → (T → List ℕ) → (List ℕ → Row) → List T → Row
array_row n size bytes row_of xs = array_row_of n size row_of (array_bytes n size bytes xs)
