-- Equality of lists of numbers.
use Rattle.std.specs.Prelude.{ℕ, Bool, true, false, List, [], ◌∷◌, nat_eq, ◌&&◌}

-- two lists of numbers are equal
abbrev pub numbers_eq : List ℕ → List ℕ → Bool
numbers_eq [] [] = true
numbers_eq (n ∷ ns) (m ∷ ms) = nat_eq n m && numbers_eq ns ms
numbers_eq _ _ = false
