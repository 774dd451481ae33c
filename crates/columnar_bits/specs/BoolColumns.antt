-- Columns of booleans: whole words and a tail of two words, the last bits and their number.
use Rattle.std.specs.Prelude.{ℕ, Bool, List, [], ◌∷◌, ◌++◌, ◌+◌, ◌*◌, ◌/◌, ◌^◌, ◌&&◌, length, map, drop, nat_eq, nat_lt, slice_index, Vec}
use Rattle.std.specs.Global.{Global}
use Rattle.columnar_core.specs.Row.{truth, row_eq}
use Rattle.columnar_core.specs.Format.{Format, Content, slice, both, part, plain, Fault, fault, moved, unless, misfit}
use Rattle.columnar_core.specs.Elements.{elements_broken, first_slice, past_count}
use Rattle.columnar_core.specs.WordViews.{words_in, bytes_of, le_bytes}
use Rattle.columnar_bits.specs.Bits.{bits_of}
use Rattle.columnar_core.specs.declared.fault.GrowError.{GrowError}
use Rattle.columnar_core.specs.declared.fault.GrowError.TheVariants.{Memory, Length, Offset, Format as FormatError}
use Rattle.columnar_bits.specs.declared.bools.Bools.{Bools}
use Rattle.std.proofs.Common.{◌≡◌, ℕ, ◌-◌, ◌%◌, ◌^◌, ◌<◌, List, length}

-- the last bits of a tail; their number
abbrev pub last_word : List ℕ → ℕ
last_word tail = slice_index (words_in tail) 0

abbrev pub last_count : List ℕ → ℕ
last_count tail = slice_index (words_in tail) 1

-- the number of bits of whole words and a tail
abbrev pub bit_count : List ℕ → List ℕ → ℕ
bit_count values tail = 64 * length (words_in values) + last_count tail

-- the bits of whole words and a tail
abbrev pub bits_in : List ℕ → List ℕ → List Bool
bits_in values tail = bits_of (words_in values) (last_word tail) (last_count tail)

-- the count is below 64, and no bit from the count on is set
abbrev pub is_tail : ℕ → ℕ → Bool
is_tail word count = nat_lt count 64 && nat_lt word (2 ^ count)

-- a tail has exactly two words
abbrev pub tail_broken : Content → List Fault
tail_broken (slice bs) = unless (nat_eq (length bs) 16) (fault 9 0)
tail_broken (both x y) = misfit
tail_broken (part l u x) = misfit
tail_broken (plain rs) = misfit

-- the rules of both slices, then the rule of a tail, then that 64 bits can count all bits
abbrev pub bools_broken : Content → List Fault
bools_broken (both x y) = elements_broken 8 x ++ (moved 1 (tail_broken y) ++ (unless (is_tail (last_word (bytes_of y)) (last_count (bytes_of y))) (fault 13 0) ++ unless (nat_lt (bit_count (bytes_of x) (bytes_of y)) (2 ^ 64)) (fault 19 0)))
bools_broken (slice bs) = misfit
bools_broken (part l u x) = misfit
bools_broken (plain rs) = misfit

-- the bits of a content
abbrev pub bools_bits : Content → List Bool
bools_bits (both x y) = bits_in (bytes_of x) (bytes_of y)
bools_bits (slice bs) = []
bools_bits (part l u x) = []
bools_bits (plain rs) = []

-- bits, each of them a boolean
abbrev pub bools_format : Format
bools_format = record {
  count = 2;
  sizes = 8 ∷ 8 ∷ [];
  aligns = 8 ∷ 8 ∷ [];
  turns = 0;
  broken = bools_broken;
  rows = λ c. map truth (bools_bits c);
  extent = λ c n. 8 * (n / 64) ∷ 16 ∷ [];
  build = λ ss. both (first_slice ss) (first_slice (drop 1 ss));
  alike = row_eq;
  kin = row_eq;
  refuses = λ e c n rs. past_count e (n + length rs);
}

-- the content of a column of bits
abbrev pub bools_content : {V T : Type 0} → (V → List ℕ) → (T → List ℕ) → Bools V T → Content
bools_content values tail b = both (slice (values b.values)) (slice (tail b.tail))

-- its bits
abbrev pub bits_held : {V T : Type 0} → (V → List ℕ) → (T → List ℕ) → Bools V T → List Bool
bits_held values tail b = bits_in (values b.values) (tail b.tail)

-- the same for a column that owns its words
abbrev pub Owned : Type 0
Owned = Bools (Vec ℕ Global) (List ℕ)

abbrev pub owned_content : Owned → Content
owned_content b = bools_content (λ (v : Vec ℕ Global). le_bytes v.items) le_bytes b

abbrev pub owned_bits : Owned → List Bool
owned_bits b = bits_held (λ (v : Vec ℕ Global). le_bytes v.items) le_bytes b

-- the errors of growth
abbrev pub IsOfGrowth : GrowError → Type 0
IsOfGrowth Memory = Unit {0}
IsOfGrowth Length = Unit {0}
IsOfGrowth Offset = ⊥
IsOfGrowth FormatError = ⊥

-- the soundness of a column of bits
pub record SoundBools (values tail : List ℕ) : Type 0 where
  pub whole : length values % 8 ≡ 0
  pub two : length tail ≡ 16
  pub few : last_count tail < 64
  pub clear : last_word tail < 2 ^ last_count tail
  pub short : bit_count values tail < 2 ^ 64

-- a sound content has two slices
pub record TwoSlices (c : Content) : Type 0 where
  pub values : List ℕ
  pub tail : List ℕ
  pub is : c ≡ both (slice values) (slice tail)

-- tails by their two words

pub record Tail (b : List ℕ) (w c : ℕ) : Type 0 where
  pub two : length b ≡ 16
  pub word : last_word b ≡ w
  pub count : last_count b ≡ c
