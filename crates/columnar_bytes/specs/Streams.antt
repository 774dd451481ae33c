-- Consecutive stores.
use Rattle.std.specs.Prelude.{ℕ, zero, suc, Bool, true, List, [], ◌∷◌, ◌++◌, ◌≡◌, ◌⊎◌, ◌<◌, ◌≤◌, ◌+◌, ◌*◌, ◌%◌, ◌^◌, ◌==◌, ◌&&◌, nat_le, length, take, drop, if◌then◌else◌}
use Rattle.std.specs.List.{concat}
use Rattle.columnar_core.specs.Bytes.{word}
use Rattle.columnar_core.specs.Frame.{IsStore, start_of, end_of, slice_count}

-- the end of the last slice of the table, rounded up to words; the end of the table if it has no slices
abbrev pub store_end : List ℕ → ℕ
store_end bytes = start_of bytes (slice_count bytes)

-- the bytes are one store: the structure is legal, and nothing follows the padding of the last slice
pub record IsOneStore (bytes : List ℕ) : Type 0 where
  pub store : IsStore bytes
  pub nothing_after : length bytes ≡ store_end bytes

-- the bytes begin with one store
abbrev pub BeginsStore : List ℕ → Type 0
BeginsStore bytes = (first : List ℕ) × ((rest : List ℕ) × ((bytes ≡ first ++ rest) × IsOneStore first))

-- each item of the list is one store
abbrev pub AreStores : List (List ℕ) → Type 0
AreStores [] = Unit {0}
AreStores (s ∷ ss) = IsOneStore s × AreStores ss

-- consecutive stores
abbrev pub joined : List (List ℕ) → List ℕ
joined stores = concat stores

-- the bytes begin with a complete table of n slices, the first m of which are in order and end at `limit` at most
pub record HasTable (bytes : List ℕ) (limit n m : ℕ) : Type 0 where
  pub first : word bytes 0 ≡ 8 * (n + 1)
  pub fits : 8 * (n + 1) ≤ length bytes
  pub ordered : (i : ℕ) → i < m → start_of bytes i ≤ end_of bytes i
  pub within : (i : ℕ) → i < m → end_of bytes i ≤ limit

-- whether the bytes contain the table with which they begin
abbrev pub has_table : List ℕ → Bool
has_table bytes = (word bytes 0 == 8 * (slice_count bytes + 1)) && nat_le (word bytes 0) (length bytes)

-- whether the first n slices of the table are in order and end at `limit` at most
abbrev pub in_order : List ℕ → ℕ → ℕ → Bool
in_order bytes limit zero = true
in_order bytes limit (suc n) = in_order bytes limit n && (nat_le (start_of bytes n) (end_of bytes n) && nat_le (end_of bytes n) limit)

-- whether the bytes begin with one store
abbrev pub begins_store : List ℕ → Bool
begins_store bytes = has_table bytes && (in_order bytes (length bytes) (slice_count bytes) && nat_le (store_end bytes) (length bytes))

-- at most n stores, each starting at the end of the one before; the bytes after them
abbrev pub stores_within : ℕ → List ℕ → List (List ℕ)
stores_within zero bytes = []
stores_within (suc n) bytes = if begins_store bytes then take (store_end bytes) bytes ∷ stores_within n (drop (store_end bytes) bytes) else []

abbrev pub rest_within : ℕ → List ℕ → List ℕ
rest_within zero bytes = bytes
rest_within (suc n) bytes = if begins_store bytes then rest_within n (drop (store_end bytes) bytes) else bytes

-- the stores with which the bytes begin, in order; the bytes after them, which begin with no store
abbrev pub stores_in : List ℕ → List (List ℕ)
stores_in bytes = stores_within (length bytes) bytes

abbrev pub rest_in : List ℕ → List ℕ
rest_in bytes = rest_within (length bytes) bytes

-- Some bytes at the end of consecutive stores are missing: the whole ones are the first of them, and the torn bytes are
-- a beginning of the next one, but not all of it.
abbrev pub IsTornFrom : List (List ℕ) → List (List ℕ) → List ℕ → Type 0
IsTornFrom all whole torn = (next : List ℕ) × ((later : List (List ℕ)) × ((tail : List ℕ) × ((all ≡ whole ++ next ∷ later) × ((next ≡ torn ++ tail) × (0 < length tail)))))
