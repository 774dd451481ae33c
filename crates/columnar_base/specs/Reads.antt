-- What a tally has recorded.
use Rattle.std.specs.Prelude.{ℕ, List}

-- the number of counts that were read; the numbers of the words that were read, in order; the number of loop steps
pub record Reads : Type 0 where
  pub counts : ℕ
  pub words : List ℕ
  pub turns : ℕ
