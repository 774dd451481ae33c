-- Copies of ranges of rows into columns of variants, for each column.
use Rattle.std.proofs.Common.{◌≡◌, ℕ, zero, suc, ◌+◌, ◌-◌, ◌<◌, ◌≤◌, true, List, [], ◌++◌, length, take, drop}
use Rattle.columnar_core.specs.Row.{Row}
use Rattle.columnar_core.specs.Format.{Format, Content, IsSound, Excess, all_alike, refuses_more}
use Rattle.columnar_core.specs.Change.{IsTrueOf}
use Rattle.columnar_base.specs.declared.fault.GrowError.{GrowError}
use Rattle.columnar_sums.specs.Discriminants.{times}
use Rattle.columnar_variants.specs.Variants.{Bank, BankStayed, are_below}

-- Each column accepted the rows of its variant in f, from row s on in the column that they come from.
pub record BankCopied (b : Bank) (x x' : Content) (s : ℕ → ℕ) (f : ℕ → List Row) : Type 0 where
  pub fresh : ℕ → List Row
  pub near : (v : ℕ) → v < b.size → all_alike (b.alike v) (fresh v) (f v) ≡ true
  pub here : (v : ℕ) → v < b.size → b.table x' v ≡ b.table x v ++ fresh v
  pub front : (v : ℕ) → v < b.size → b.table x v ≡ [] → s v ≡ 0 → b.table x' v ≡ f v
  pub rooms : (n : ℕ → ℕ) → ((v : ℕ) → v < b.size → n v ≤ length (b.table x v)) → b.room x' n ≡ b.room x n
  pub limits : (n : ℕ → ℕ) → ((v : ℕ) → v < b.size → n v ≤ length (b.table x v)) → (e : Excess) (g : ℕ → List Row) → b.refuses e x' n g ≡ b.refuses e x n g
  pub adds : (m n : ℕ → ℕ) → ((v : ℕ) → v < b.size → m v ≡ length (b.table x' v)) → ((v : ℕ) → v < b.size → n v ≡ length (b.table x v)) → (e : Excess) (g : ℕ → List Row) → b.refuses e x' m g ≡ true → b.refuses e x n (λ v. f v ++ g v) ≡ true
  pub sound : IsSound b.sides x → IsSound b.sides x'

abbrev pub headed : List Row → (ℕ → List Row) → ℕ → List Row
headed r g zero = r
headed r g (suc v) = g v

-- the rows of variant v in a range
abbrev pub range_of : (ℕ → List Row) → List ℕ → List ℕ → ℕ → List Row
range_of u before mid v = take (times v mid) (drop (times v before) (u v))

-- There are rows for all variants of the range, and it has no others.
pub record HasRange (size : ℕ) (u : ℕ → List Row) (before mid : List ℕ) : Type 0 where
  pub room : (v : ℕ) → v < size → times v before + times v mid ≤ length (u v)
  pub below : are_below size mid ≡ true

-- One of the columns refused the rows of its variant, with a justified error; all columns are unchanged.
pub record BankDenied (b : Bank) (x x' : Content) (f : ℕ → List Row) (error : GrowError) : Type 0 where
  pub stayed : BankStayed b x x'
  pub format : Format
  pub content : Content
  pub asked : List Row
  pub cause : IsTrueOf error format content asked
  pub passes : (e : Excess) (n : ℕ → ℕ) → ((v : ℕ) → v < b.size → n v ≡ length (b.table x v)) → refuses_more format e content asked ≡ true → b.refuses e x n f ≡ true
