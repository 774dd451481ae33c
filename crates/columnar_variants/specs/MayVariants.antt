-- Limits of columns of sum types.
use Rattle.std.specs.Prelude.{ℕ, suc, true, List, ◌++◌, length, ◌≡◌, ◌<◌, ◌⊎◌}
use Rattle.columnar_core.specs.Row.{Row}
use Rattle.columnar_core.specs.Format.{Content, IsSound, Excess}
use Rattle.columnar_core.specs.May.{Limit, count_limit}
use Rattle.columnar_variants.specs.Variants.{Bank, of_case}

-- the rows that the columns of variants deny, and why
abbrev pub BankLimit : Type 1
BankLimit = Excess → (ℕ → List Row) → Type 0

-- a single variant, and one before others
abbrev pub leaf_limit : Limit → BankLimit
leaf_limit a e f = a e (f 0)

abbrev pub join_limit : Limit → BankLimit → BankLimit
join_limit a b e f = a e (f 0) ⊎ b e (λ v. f (suc v))

-- There are too many rows, or a column cannot hold its variant's values.
abbrev pub variants_limit : BankLimit → Limit
variants_limit b e rs = count_limit e rs ⊎ b e (λ v. of_case v rs)

-- The limit denies whatever one of the columns refuses; it depends only on the existing variants.
pub record IsLimitedBank (b : Bank) (limit : BankLimit) : Type 0 where
  pub agrees : (e : Excess) (f g : ℕ → List Row) → ((v : ℕ) → v < b.size → f v ≡ g v) → limit e f → limit e g
  pub denied : (e : Excess) (c : Content) (n : ℕ → ℕ) (f : ℕ → List Row) → IsSound b.sides c → ((v : ℕ) → v < b.size → n v ≡ length (b.table c v)) → b.refuses e c n f ≡ true → limit e (λ v. b.table c v ++ f v)
