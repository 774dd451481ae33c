-- Columns of elements of one size, stored as little-endian bytes.
use Rattle.std.specs.Prelude.{ℕ, zero, suc, Bool, false, List, [], ◌∷◌, length, ◌+◌, ◌*◌, ◌/◌, ◌%◌, ◌^◌, ◌-◌, map, take, drop, nat_eq, nat_lt}
use Rattle.std.specs.List.{flat_map}
use Rattle.std.specs.Int.{from_le_bytes, w8, w64}
use Rattle.columnar_base.specs.Numbers.{unsigned_row_of}
use Rattle.columnar_base.specs.Row.{Row, number, row_eq}
use Rattle.columnar_base.specs.Format.{Format, Content, slice, both, part, plain, Fault, fault, unless, misfit, Excess, too_many, misplaced}
use Rattle.std.proofs.Common.{◌≡◌, ℕ, ◌-◌, ◌≤◌, List, length}

-- n consecutive pieces of `size` bytes
abbrev pub pieces : ℕ → ℕ → List ℕ → List (List ℕ)
pieces size zero bs = []
pieces size (suc n) bs = take size bs ∷ pieces size n (drop size bs)

-- More than 2^64 - 1 rows are refused.
abbrev pub past_count : Excess → ℕ → Bool
past_count too_many n = nat_lt (2 ^ 64 - 1) n
past_count misplaced n = false

abbrev pub elements_broken : ℕ → Content → List Fault
elements_broken size (slice bs) = unless (nat_eq (length bs % size) 0) (fault 8 0)
elements_broken size (both x y) = misfit
elements_broken size (part l u x) = misfit
elements_broken size (plain rs) = misfit

abbrev pub elements_rows : ℕ → (List ℕ → Row) → Content → List Row
elements_rows size row_of (slice bs) = map row_of (pieces size (length bs / size) bs)
elements_rows size row_of (both x y) = []
elements_rows size row_of (part l u x) = []
elements_rows size row_of (plain rs) = []

abbrev pub first_slice : List (List ℕ) → Content
first_slice [] = plain []
first_slice (bs ∷ rest) = slice bs

-- one slice of elements of `size` bytes with the alignment `align`, each read by `row_of`
abbrev pub elements_format : ℕ → ℕ → (List ℕ → Row) → Format
elements_format size align row_of = record {
  count = 1;
  sizes = size ∷ [];
  aligns = align ∷ [];
  turns = 0;
  broken = elements_broken size;
  rows = elements_rows size row_of;
  extent = λ c n. size * n ∷ [];
  build = first_slice;
  alike = row_eq;
  kin = row_eq;
  refuses = λ e c n rs. past_count e (n + length rs);
}

-- the slice of the elements xs
abbrev pub elements : {T : Type 0} → (T → List ℕ) → List T → Content
elements bytes xs = slice (flat_map bytes xs)

-- the row of a 64-bit number; the row of its eight little-endian bytes
abbrev pub word_row : ℕ → Row
word_row n = number (n % 2 ^ 64)

abbrev pub word_row_of : List ℕ → Row
word_row_of bs = number (from_le_bytes w64 bs)

-- one slice of 64-bit words
abbrev pub words_format : Format
words_format = elements_format 8 8 word_row_of

-- one slice of bytes
abbrev pub bytes_format : Format
bytes_format = elements_format 1 1 (unsigned_row_of w8)

-- how an element is stored: its size, its bytes, and the row that they represent
pub record IsElement {T : Type 0} (size : ℕ) (bytes : T → List ℕ) (row_of : List ℕ → Row) (meaning : T → Row) : Type 0 where
  pub positive : 1 ≤ size
  pub sized : (x : T) → length (bytes x) ≡ size
  pub read_back : (x : T) → row_of (bytes x) ≡ meaning x
