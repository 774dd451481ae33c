-- The fields that a command chooses.
use Rattle.std.specs.Prelude.{ℕ, Bool, true, List, [], ◌∷◌, ◌++◌, ◌&&◌, ◌==◌, bytes_eq, not}
use Rattle.std.specs.List.{list_any, slice_split}

-- the names in a text with commas between them
abbrev pub names_in : List ℕ → List (List ℕ)
names_in text = slice_split (λ b. b == 44) text

-- a name is among others
abbrev pub is_in : List ℕ → List (List ℕ) → Bool
is_in n ns = list_any (λ m. bytes_eq m n) ns

-- these names, after others, are those of fields, and none stands twice
abbrev pub are_chosen : List (List ℕ) → List (List ℕ) → List (List ℕ) → Bool
are_chosen fields others [] = true
are_chosen fields others (n ∷ ns) = is_in n fields && (not (is_in n others) && are_chosen fields (others ++ (n ∷ [])) ns)
