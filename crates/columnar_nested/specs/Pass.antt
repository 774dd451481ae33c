-- The rule, tested in one pass over the bounds and the groups.
use Rattle.std.proofs.Common.{ℕ, suc, ◌-◌, Bool, true, false, cond, ◌&&◌, List, [], ◌∷◌}
use Rattle.std.specs.Prelude.{nat_eq, nat_le}

abbrev pub is_nil : List ℕ → Bool
is_nil [] = true
is_nil (g ∷ gs) = false

-- from node j on, after the bound `last`, with the remaining groups gs
abbrev pub follow : ℕ → ℕ → List ℕ → List ℕ → ℕ → Bool
follow j last [] gs n = nat_eq last n && (nat_eq j (suc n) && is_nil gs)
follow j last (b ∷ bs) [] n = nat_le last b && (nat_le j b && cond (nat_eq b j) false (follow (suc j) b bs [] n))
follow j last (b ∷ bs) (g ∷ gs) n = nat_le last b && (nat_le j b && cond (nat_eq b j) (nat_eq g j && follow (suc j) b bs gs n) (follow (suc j) b bs (g ∷ gs) n))

-- groups and bounds satisfy the rule of layouts of n nodes
abbrev pub accepts : List ℕ → List ℕ → ℕ → Bool
accepts gs [] n = false
accepts gs (b ∷ bs) n = nat_eq b 0 && follow 0 0 (b ∷ bs) gs n
