-- Columns in which a row may refer to an earlier one: an inner column has values, and references to earlier values. It
-- is read as the rows that these give.
use Rattle.std.specs.Prelude.{ℕ, zero, suc, Bool, true, false, List, [], ◌∷◌, ◌++◌, length, ◌&&◌, ◌||◌, nat_lt}
use Rattle.columnar_base.specs.Row.{Row, unit}
use Rattle.columnar_base.specs.Format.{Format, Content, Fault, fault, unless}

-- The meaning of inner rows. `value` is the value of a row, if it is one; `back` is the distance that the row reads
-- back, 0 for the last value up to it; `forms` are the inner rows as which a pushed row may be stored.
pub record Code : Type 0 where
  pub value : Row → List Row
  pub back : Row → ℕ
  pub forms : Row → List Row

-- among values with the last one first, the one that is m before the last
abbrev pub recent : List Row → ℕ → Row
recent [] m = unit
recent (v ∷ vs) zero = v
recent (v ∷ vs) (suc m) = recent vs m

-- the values of inner rows that follow the values vs, the last one first
abbrev pub latest : Code → List Row → List Row → List Row
latest k vs [] = vs
latest k vs (u ∷ us) = latest k (k.value u ++ vs) us

-- the rows as which inner rows read
abbrev pub recall : Code → List Row → List Row → List Row
recall k vs [] = []
recall k vs (u ∷ us) = recent (k.value u ++ vs) (k.back u) ∷ recall k (k.value u ++ vs) us

-- each row reaches a value
abbrev pub reaches : Code → List Row → List Row → Bool
reaches k vs [] = true
reaches k vs (u ∷ us) = nat_lt (k.back u) (length (k.value u ++ vs)) && reaches k (k.value u ++ vs) us

-- p is true of one of the rows
abbrev pub any_row : (Row → Bool) → List Row → Bool
any_row p [] = false
any_row p (u ∷ us) = p u || any_row p us

-- p is true of some way of storing the rows
abbrev pub some_storing : Code → (List Row → Bool) → List Row → Bool
some_storing k p [] = p []
some_storing k p (r ∷ rs) = any_row (λ u. some_storing k (λ us. p (u ∷ us)) rs) (k.forms r)

-- the rules of the inner column, then that each row reaches a value: Lookback
abbrev pub recalled_broken : Code → Format → Content → List Fault
recalled_broken k o c = o.broken c ++ unless (reaches k [] (o.rows c)) (fault 15 0)

-- The inner column o, read in this way. A row is stored as a reference if an earlier value is kin to it, so only
-- kinship to the pushed rows is known. Rows may be refused if some way of storing them may be refused.
abbrev pub recalled : Code → (Row → Row → Bool) → Format → Format
recalled k kin o = record {
  count = o.count;
  sizes = o.sizes;
  aligns = o.aligns;
  turns = o.turns;
  broken = recalled_broken k o;
  rows = λ c. recall k [] (o.rows c);
  extent = o.extent;
  build = o.build;
  alike = kin;
  kin = kin;
  refuses = λ e c n rs. some_storing k (o.refuses e c n) rs;
}
