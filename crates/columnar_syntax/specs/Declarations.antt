-- Declarations of structs and enums among the tokens of a source.
use Rattle.std.specs.Prelude.{ℕ, Bool, false, List, [], ◌∷◌, ◌||◌, ◌&&◌, cond, codes, bytes_eq}

-- the word before the name of a declaration
abbrev pub is_declarer : List ℕ → Bool
is_declarer w = bytes_eq w (codes "struct") || bytes_eq w (codes "enum")

-- the first token is this one
abbrev pub follows : List ℕ → List (List ℕ) → Bool
follows w [] = false
follows w (t ∷ ts) = bytes_eq t w

-- The tokens from the first place on where `struct` or `enum` stands before this name; none if it never does.
abbrev pub declared_in : List ℕ → List (List ℕ) → List (List ℕ)
declared_in w [] = []
declared_in w (t ∷ ts) = cond (is_declarer t && follows w ts) (t ∷ ts) (declared_in w ts)
