-- Columns of offsets, and the lists into which they divide values.
use Rattle.std.specs.Prelude.{ℕ, Bool, List, [], ◌∷◌, ◌≡◌, ◌≤◌, ◌+◌, ◌-◌, ◌&&◌, nat_eq, nat_le, map}
use Rattle.columnar_base.specs.Row.{Row, number, number_of}
use Rattle.columnar_base.specs.Format.{Format, Content, IsExact, IsSound}

-- the numbers of rows
abbrev pub numbers : List Row → List ℕ
numbers rs = map number_of rs

-- the offsets never decrease, from `from` on, and end at `end`
abbrev pub rises : ℕ → List ℕ → ℕ → Bool
rises from [] end = nat_eq from end
rises from (n ∷ ns) end = nat_le from n && rises n ns end

-- the last offset, or `from` if there is none
abbrev pub last_or : ℕ → List ℕ → ℕ
last_or from [] = from
last_or from (n ∷ ns) = last_or n ns

-- offsets shifted from `lower` to `start`, as rows
abbrev pub shifted : ℕ → ℕ → List ℕ → List Row
shifted lower start ns = map (λ n. number (start + (n - lower))) ns

-- each row of a well-formed column is a number
abbrev pub AreNumbers : Format → Type 0
AreNumbers b = (c : Content) → IsSound b c → b.rows c ≡ map number (numbers (b.rows c))

-- The laws of a format of offsets: its rows are numbers, stored as they are pushed, and its own validation leaves half
-- of the steps to `rises_to`.
pub record IsBounds (b : Format) : Type 0 where
  pub exact : IsExact b.alike
  pub swift : b.turns ≤ 8
  pub are_numbers : AreNumbers b
