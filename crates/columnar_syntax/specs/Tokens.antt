-- The text of a type as its tokens.
use Rattle.std.specs.Prelude.{ℕ, Bool, false, List, [], ◌∷◌, ◌||◌, ◌&&◌, cond, nat_eq}
use Rattle.std.specs.Char.{is_ascii_alphanumeric}

-- a space, a tab, or an end of a line
abbrev pub is_blank : ℕ → Bool
is_blank n = nat_eq n 32 || (nat_eq n 9 || (nat_eq n 10 || nat_eq n 13))

-- a letter, a digit or `_`
abbrev pub is_word_byte : ℕ → Bool
is_word_byte n = is_ascii_alphanumeric n || nat_eq n 95

-- such a byte comes first
abbrev pub begins_word : List ℕ → Bool
begins_word [] = false
begins_word (n ∷ ns) = is_word_byte n

-- one more byte in front of the first token
abbrev pub lengthened : ℕ → List (List ℕ) → List (List ℕ)
lengthened n [] = (n ∷ []) ∷ []
lengthened n (w ∷ ws) = (n ∷ w) ∷ ws

-- Letters, digits and `_` without a gap are one token, a word; every other byte is a token of its own. Blanks are none.
abbrev pub tokens : List ℕ → List (List ℕ)
tokens [] = []
tokens (n ∷ ns) = cond (is_blank n) (tokens ns) (cond (is_word_byte n && begins_word ns) (lengthened n (tokens ns)) ((n ∷ []) ∷ tokens ns))

-- each byte as a token
abbrev pub marks : List ℕ → List (List ℕ)
marks [] = []
marks (n ∷ ns) = (n ∷ []) ∷ marks ns
