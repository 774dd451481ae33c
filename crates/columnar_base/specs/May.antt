-- Whether a column type can hold rows, as a fact about the rows alone. A type denies lists of rows: all rows that a
-- column would have, however it stores them.
use Rattle.std.specs.Prelude.{true, List, [], ◌∷◌, ◌++◌, length, ◌≡◌, ◌⊎◌}
use Rattle.columnar_base.specs.Row.{Row}
use Rattle.columnar_base.specs.Format.{Format, Content, IsSound, Excess, too_many, misplaced, refuses_more}
use Rattle.columnar_base.specs.Elements.{past_count}
use Rattle.columnar_base.specs.Tuples.{firsts, seconds}
use Rattle.columnar_base.specs.Solos.{onlies}
use Rattle.columnar_base.specs.declared.fault.GrowError.{GrowError}
use Rattle.columnar_base.specs.declared.fault.GrowError.TheVariants.{Memory, Length, Offset, Format as FormatError}

-- the lists of rows that a type denies, with the reason
abbrev pub Limit : Type 1
Limit = Excess → List Row → Type 0

-- The item may be pushed after these rows: the type does not deny them all together.
abbrev pub May : Limit → List Row → Row → Type 0
May limit rows item = (e : Excess) → limit e (rows ++ item ∷ []) → ⊥

-- What an error says about the rows. Length: there are too many, at some part of the type. Offset: a row is an offset
-- that cannot stand at its place. Memory says nothing about them, and Format never occurs.
abbrev pub Denied : GrowError → Limit → List Row → Type 0
Denied Memory limit rs = Unit {0}
Denied Length limit rs = limit too_many rs
Denied Offset limit rs = limit misplaced rs
Denied FormatError limit rs = ⊥

-- The limit denies whatever the format refuses.
pub record IsLimited (f : Format) (limit : Limit) : Type 0 where
  pub denied : (e : Excess) (c : Content) (rs : List Row) → IsSound f c → refuses_more f e c rs ≡ true → limit e (f.rows c ++ rs)

-- rs is a subsequence of ss
abbrev pub AreAmong : List Row → List Row → Type 0
AreAmong [] ss = Unit {0}
AreAmong (r ∷ rs) [] = ⊥
AreAmong (r ∷ rs) (s ∷ ss) = ((r ≡ s) × AreAmong rs ss) ⊎ AreAmong (r ∷ rs) ss

-- A denied list stays denied with further rows before, between and after its rows.
pub record IsSteady (limit : Limit) : Type 0 where
  pub more : (e : Excess) (rs ss : List Row) → AreAmong rs ss → limit e rs → limit e ss

-- ---- the limits of types

-- denies nothing
abbrev pub no_limit : Limit
no_limit e rs = ⊥

-- Denies more than 2^64 - 1 rows, and nothing else: the limit of rows that contain no rows.
abbrev pub count_limit : Limit
count_limit e rs = past_count e (length rs) ≡ true

-- Denies tuples if one part denies its fields: for three fields the first part, or the tuple of the others.
abbrev pub pair_limit : Limit → Limit → Limit
pair_limit a b e rs = a e (firsts rs) ⊎ b e (seconds rs)

-- the same for a tuple of one part
abbrev pub solo_limit : Limit → Limit
solo_limit a e rs = a e (onlies rs)
