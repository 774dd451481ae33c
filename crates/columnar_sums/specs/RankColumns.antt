-- Columns of bits with counts, and the state of a cursor over them.
use Rattle.std.specs.Prelude.{ℕ, Bool, true, false, List, [], ◌∷◌, ◌≡◌, ◌≤◌, ◌<◌, ◌+◌, ◌*◌, ◌/◌, length, map, drop, slice_index_or, Vec}
use Rattle.std.specs.Global.{Global}
use Rattle.columnar_core.specs.Row.{truth, row_eq}
use Rattle.columnar_sums.specs.Agree.{numbers_eq}
use Rattle.columnar_core.specs.Format.{Format, Content, slice, both, part, plain, Fault, two_broken, IsSound}
use Rattle.columnar_core.specs.Elements.{first_slice, past_count, words_format}
use Rattle.columnar_core.specs.WordViews.{words_in, bytes_of, le_bytes}
use Rattle.columnar_bits.specs.Bits.{bit, bit_in}
use Rattle.columnar_bits.specs.BoolColumns.{bools_bits, bools_format, bools_content, bits_held}
use Rattle.columnar_sums.specs.Counting.{counts_of}
use Rattle.columnar_sums.specs.declared.rank_select.RankSelect.{RankSelect}

-- the counts are the numbers of set bits
abbrev pub counts_match : Content → Content → Bool
counts_match x y = numbers_eq (words_in (bytes_of x)) (counts_of (bools_bits y))

-- the rules of the counts and of the bits, then that the counts are the numbers of set bits
abbrev pub ranks_broken : Content → List Fault
ranks_broken = two_broken words_format bools_format counts_match 12

-- the bits
abbrev pub ranks_bits : Content → List Bool
ranks_bits (both x y) = bools_bits y
ranks_bits (slice bs) = []
ranks_bits (part l u x) = []
ranks_bits (plain rs) = []

-- bits with their counts; each row is a truth value
abbrev pub ranks_format : Format
ranks_format = record {
  count = 3;
  sizes = 8 ∷ 8 ∷ 8 ∷ [];
  aligns = 8 ∷ 8 ∷ 8 ∷ [];
  turns = 4;
  broken = ranks_broken;
  rows = λ c. map truth (ranks_bits c);
  extent = λ c n. 8 * (n / 1024) ∷ 8 * (n / 64) ∷ 16 ∷ [];
  build = λ ss. both (first_slice ss) (bools_format.build (drop 1 ss));
  alike = row_eq;
  kin = row_eq;
  refuses = λ e c n rs. past_count e (n + length rs);
}

-- the content of a column of bits and counts
abbrev pub ranks_content : {C V W : Type 0} → (C → List ℕ) → (V → List ℕ) → (W → List ℕ) → RankSelect C V W → Content
ranks_content counts values tail r = both (slice (counts r.counts)) (bools_content values tail r.values)

-- its bits
abbrev pub bits_ranked : {C V W : Type 0} → (V → List ℕ) → (W → List ℕ) → RankSelect C V W → List Bool
bits_ranked values tail r = bits_held values tail r.values

-- the column is well-formed
abbrev pub IsRanked : {C V W : Type 0} → (C → List ℕ) → (V → List ℕ) → (W → List ℕ) → RankSelect C V W → Type 0
IsRanked counts values tail r = IsSound ranks_format (ranks_content counts values tail r)

-- the same for a column that owns its words
abbrev pub OwnedRanks : Type 0
OwnedRanks = RankSelect (Vec ℕ Global) (Vec ℕ Global) (List ℕ)

abbrev pub owned_ranks : OwnedRanks → Content
owned_ranks r = ranks_content (λ (v : Vec ℕ Global). le_bytes v.items) (λ (v : Vec ℕ Global). le_bytes v.items) le_bytes r

abbrev pub ranked_bits : OwnedRanks → List Bool
ranked_bits r = bits_ranked (λ (v : Vec ℕ Global). le_bytes v.items) le_bytes r

-- ---- cursors

-- the state of a cursor: its bits, the position of the next bit, the number of the word that it has loaded, and the
-- number of counts of the column
pub record Standing : Type 0 where
  pub bits : List Bool
  pub pos : ℕ
  pub word : ℕ
  pub counts : ℕ

-- q is the position of the first set bit from pos on
abbrev pub IsNextTrue : List Bool → ℕ → ℕ → Type 0
IsNextTrue b pos q =
    (pos ≤ q) × (slice_index_or b q false ≡ true) × ((k : ℕ) → pos ≤ k → k < q → slice_index_or b k false ≡ false)

-- there is no set bit from pos on
abbrev pub AreFalseFrom : List Bool → ℕ → Type 0
AreFalseFrom b pos = (k : ℕ) → pos ≤ k → slice_index_or b k false ≡ false

-- A place among words. Its current word is `index`. `rest` is that word without the bits before `pos`, and no bit from
-- `pos` up to that word is set.
pub record IsAt (words : List ℕ) (index rest pos : ℕ) : Type 0 where
  pub within : index < length words
  pub reach : pos ≤ 64 * index + 64
  pub ahead : (j : ℕ) → j < 64 → bit rest j ≡ true → pos ≤ 64 * index + j
  pub same : (j : ℕ) → j < 64 → pos ≤ 64 * index + j → bit rest j ≡ bit_in words (64 * index + j)
  pub skipped : (k : ℕ) → pos ≤ k → k < 64 * index → bit_in words k ≡ false

-- no bit from `from` on, below `end`, is set
abbrev pub AreClear : List ℕ → ℕ → ℕ → Type 0
AreClear words from end = (k : ℕ) → from ≤ k → k < end → bit_in words k ≡ false
