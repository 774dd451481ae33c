-- Texts of numbers by their digits, and the flaws of texts.
use Rattle.std.proofs.Common.{ℕ, Bool, true, false, List, [], ◌∷◌, ◌≡◌, ◌+◌, ◌/◌, ◌%◌, ◌^◌, ◌<◌, ◌≤◌, refl, arith}
use Rattle.std.specs.Prelude.{Some, Result, Ok, decimal, IsUtf8}
use Rattle.std.specs.Str.{is_utf8}
use Rattle.std.proofs.lemmas.Fmt.{decimal_digit, decimal_step_wide}
use Rattle.std.proofs.lemmas.Str.{IsUtf8-from_is_utf8, is_utf8-from_IsUtf8}
use Rattle.columnar_json.specs.Json.{first_flaw, text_flaws}
use Rattle.columnar_json.specs.Written.{Wrote}
use Rattle.columnar_json.specs.WrittenLaws.{goes_on}
use Rattle.columnar_json.specs.declared.unwritten.Unwritten.{Unwritten}
use Rattle.columnar_json.specs.declared.unwritten.Unwritten.TheVariants.{NotText}

-- the last digit, after the others or alone
pub digits_more : (old mid new : List ℕ) (n : ℕ) (r : Result (Unit {0}) Unwritten) → 10 ≤ n → n < 10 ^ 64 → Wrote old mid (decimal (n / 10)) [] (Ok tt) → Wrote mid new ((48 + n % 10) ∷ []) [] r → Wrote old new (decimal n) [] r
digits_more old mid new n r h k p q = rw (decimal_step_wide n h k) (goes_on old mid new (decimal (n / 10)) ((48 + n % 10) ∷ []) [] [] r p q)

pub digit_alone : (old new : List ℕ) (n : ℕ) (r : Result (Unit {0}) Unwritten) → n < 10 → Wrote old new ((48 + n % 10) ∷ []) [] r → Wrote old new (decimal n) [] r
digit_alone old new n r h q =
    let e : n % 10 ≡ n = omega (arith, h) in
    rw (decimal_digit n h) (rw e at q)

pub is_wide : (n : ℕ) → n < 2 ^ 128 → n < 10 ^ 64
is_wide n h = omega (arith, h)

pub text_flawless : (bs : List ℕ) → IsUtf8 bs → text_flaws bs ≡ []
text_flawless bs h = rw (is_utf8-from_IsUtf8 bs h) refl

flaw_of : (b : Bool) (bs : List ℕ) → is_utf8 bs ≡ b → (IsUtf8 bs → ⊥) → first_flaw (text_flaws bs) ≡ Some NotText
flaw_of true bs e h = absurd (h (IsUtf8-from_is_utf8 bs e))
flaw_of false bs e h = rw e refl

pub text_flawed : (bs : List ℕ) → (IsUtf8 bs → ⊥) → first_flaw (text_flaws bs) ≡ Some NotText
text_flawed bs h = flaw_of (is_utf8 bs) bs refl h
