-- Columns of the multiples of a constant.
use Rattle.std.specs.Prelude.{ℕ, Bool, true, false, List, [], ◌∷◌, length, ◌+◌, ◌-◌, ◌*◌, ◌^◌, ◌||◌, ◌≡◌, not, cond, nat_eq, nat_lt, nat_le, suc}
use Rattle.columnar_core.specs.Row.{Row, number, row_eq}
use Rattle.columnar_core.specs.Format.{Format, Content, slice, both, part, plain, Fault, fault, unless, misfit, Excess, too_many, misplaced}
use Rattle.columnar_core.specs.Elements.{first_slice}
use Rattle.columnar_core.specs.Bytes.{word}
use Rattle.columnar_core.specs.declared.fault.GrowError.{GrowError}
use Rattle.columnar_core.specs.declared.fault.GrowError.TheVariants.{Memory, Length, Offset, Format as FormatError}
use Rattle.columnar_primitive.specs.Multiples.{multiples}

-- one word, the count; and the last multiple fits a word
abbrev pub fixed_broken : ℕ → Content → List Fault
fixed_broken k (slice bs) = cond (nat_eq (length bs) 8) (unless (nat_le (k * word bs 0) (2 ^ 64 - 1)) (fault 16 0)) (fault 9 0 ∷ [])
fixed_broken k (both x y) = misfit
fixed_broken k (part l u x) = misfit
fixed_broken k (plain rs) = misfit

abbrev pub fixed_rows : ℕ → Content → List Row
fixed_rows k (slice bs) = multiples k 0 (word bs 0)
fixed_rows k (both x y) = []
fixed_rows k (part l u x) = []
fixed_rows k (plain rs) = []

-- one of the rows, after n others, is not k times its place
abbrev pub strays : ℕ → ℕ → List Row → Bool
strays k n [] = false
strays k n (r ∷ rs) = not (row_eq r (number (k * suc n))) || strays k (suc n) rs

-- their number, or k times it, does not fit a word
abbrev pub passes : ℕ → ℕ → Bool
passes k n = nat_lt (2 ^ 64 - 1) n || nat_lt (2 ^ 64 - 1) (k * n)

-- The rows are refused after n others.
abbrev pub fixed_refuses : ℕ → Excess → ℕ → List Row → Bool
fixed_refuses k too_many n rs = passes k (n + length rs)
fixed_refuses k misplaced n rs = strays k n rs

-- only a count, of the rows k, 2k, ..
abbrev pub fixed_format : ℕ → Format
fixed_format k = record {
  count = 1;
  sizes = 8 ∷ [];
  aligns = 8 ∷ [];
  turns = 0;
  broken = fixed_broken k;
  rows = fixed_rows k;
  extent = λ c n. 8 ∷ [];
  build = first_slice;
  alike = row_eq;
  kin = row_eq;
  refuses = λ e c n rs. fixed_refuses k e n rs;
}

-- not an allocation failure: a limit was exceeded
abbrev pub IsLimit : GrowError → Type 0
IsLimit Memory = ⊥
IsLimit Length = Unit {0}
IsLimit Offset = Unit {0}
IsLimit FormatError = ⊥

-- The error has a true cause: the rows are refused after n others.
abbrev pub IsFixedCause : ℕ → GrowError → ℕ → List Row → Type 0
IsFixedCause k Memory n rs = Unit {0}
IsFixedCause k Length n rs = fixed_refuses k too_many n rs ≡ true
IsFixedCause k Offset n rs = fixed_refuses k misplaced n rs ≡ true
IsFixedCause k FormatError n rs = ⊥
