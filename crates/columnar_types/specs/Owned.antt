-- Which rows have no owned value of a type, and why.
use Rattle.std.specs.Prelude.{ℕ, Bool, true, false, not, List, [], ◌∷◌, ◌≡◌, ◌||◌, nat_eq, length, map, All, Option, None, Some, Result, Ok, Err, if◌then◌else◌}
use Rattle.std.specs.Str.{is_utf8}
use Rattle.columnar_base.specs.Row.{Row, some, ok, err, first_of, second_of, items_of}
use Rattle.columnar_base.specs.Solos.{only_of}
use Rattle.columnar_base.specs.Texts.{text_bytes}
use Rattle.columnar_base.specs.declared.fault.OwnError.{OwnError}
use Rattle.columnar_base.specs.declared.fault.OwnError.TheVariants.{Memory, Utf8, WrongLength}

-- Faults of a row: the bytes of a text are not UTF-8; a list has another length than its array.
pub data Unfit : Type 0 where
  no_text : Unfit
  other_length : Unfit

-- one of the rows satisfies p
abbrev pub any : (Row → Bool) → List Row → Bool
any p [] = false
any p (r ∷ rs) = p r || any p rs

abbrev pub always_fit : Unfit → Row → Bool
always_fit u r = false

abbrev pub text_unfit : Unfit → Row → Bool
text_unfit no_text r = not (is_utf8 (text_bytes r))
text_unfit other_length r = false

-- the value of an option satisfies p
abbrev pub of_some : (Row → Bool) → Row → Bool
of_some p (some r) = p r
of_some p _ = false

abbrev pub of_ok : (Row → Bool) → Row → Bool
of_ok p (ok r) = p r
of_ok p _ = false

abbrev pub of_err : (Row → Bool) → Row → Bool
of_err p (err r) = p r
of_err p _ = false

abbrev pub option_unfit : (Unfit → Row → Bool) → Unfit → Row → Bool
option_unfit part u r = of_some (part u) r

abbrev pub result_unfit : (Unfit → Row → Bool) → (Unfit → Row → Bool) → Unfit → Row → Bool
result_unfit left right u r = of_ok (left u) r || of_err (right u) r

abbrev pub pair_unfit : (Unfit → Row → Bool) → (Unfit → Row → Bool) → Unfit → Row → Bool
pair_unfit left right u r = left u (first_of r) || right u (second_of r)

abbrev pub solo_unfit : (Unfit → Row → Bool) → Unfit → Row → Bool
solo_unfit part u r = part u (only_of r)

abbrev pub list_unfit : (Unfit → Row → Bool) → Unfit → Row → Bool
list_unfit part u r = any (part u) (items_of r)

abbrev pub array_unfit : ℕ → (Unfit → Row → Bool) → Unfit → Row → Bool
array_unfit n part no_text r = any (part no_text) (items_of r)
array_unfit n part other_length r = not (nat_eq (length (items_of r)) n) || any (part other_length) (items_of r)

-- no part of the row is unfit
pub record IsFit (unfit : Unfit → Row → Bool) (r : Row) : Type 0 where
  pub fit : (u : Unfit) → unfit u r ≡ false

-- The error names its true cause; for Memory there is none that a contract can name.
abbrev pub IsWhy : OwnError → (Unfit → Row → Bool) → Row → Type 0
IsWhy Memory unfit r = Unit {0}
IsWhy Utf8 unfit r = unfit no_text r ≡ true
IsWhy WrongLength unfit r = unfit other_length r ≡ true

-- The answer is this error, if there is one.
abbrev pub IsAnswered : {A : Type 0} → Option OwnError → Result A OwnError → Type 0
IsAnswered None answer = Unit {0}
IsAnswered (Some e) answer = answer ≡ Err e

-- the error of a row that is reported before any allocation
abbrev pub text_at_once : Row → Option OwnError
text_at_once r = if is_utf8 (text_bytes r) then None else Some Utf8

abbrev pub array_at_once : ℕ → Row → Option OwnError
array_at_once n r = if nat_eq (length (items_of r)) n then None else Some WrongLength

abbrev pub option_at_once : (Row → Option OwnError) → Row → Option OwnError
option_at_once part (some r) = part r
option_at_once part _ = None

abbrev pub result_at_once : (Row → Option OwnError) → (Row → Option OwnError) → Row → Option OwnError
result_at_once left right (ok r) = left r
result_at_once left right (err r) = right r
result_at_once left right _ = None

-- Values that represent rows, in order, none of which is unfit.
pub record AreOwned {T : Type 0} (meaning : T → Row) (holds : T → Type 0) (unfit : Unfit → Row → Bool) (xs : List T) (rs : List Row) : Type 0 where
  pub rows : map meaning xs ≡ rs
  pub valid : All holds xs
  pub fit : (u : Unfit) → any (unfit u) rs ≡ false
