-- Names that are read one after the other.
use Rattle.std.proofs.Common.{◌≡◌, ℕ, ◌+◌, ◌-◌, ◌<◌, true, false, List, [], ◌∷◌, ◌++◌, ◌==◌, length, refl, ◌∙◌, ap, arith, append_assoc}
use Rattle.std.specs.Prelude.{◌||◌, bytes_eq, map, Option, None, Some, IfSome, MatchOption}
use Rattle.std.specs.List.{after_first, before_first, position_or_len}
use Rattle.std.proofs.lemmas.List.{length-drop, map-append}
use Rattle.std.proofs.lemmas.List.Splits.{slice_split_first, slice_split_none}
use Rattle.std.proofs.lemmas.List.Sums.{fails_before_first}
use Rattle.columnar_tool.specs.Choices.{are_chosen, is_in, names_in}

-- a text without a comma is one name
pub one_name : (text : List ℕ) → position_or_len (λ b. b == 44) text ≡ length text → names_in text ≡ text ∷ []
one_name text e = slice_split_none (λ b. b == 44) text (λ k d h. fails_before_first (λ b. b == 44) text k d (rw e h))

-- the first of several
pub more_names : (text name later : List ℕ) → name ≡ before_first (λ b. b == 44) text → later ≡ after_first (λ b. b == 44) text → position_or_len (λ b. b == 44) text < length text → names_in text ≡ name ∷ names_in later
more_names text name later e h l = rw (e, h) (slice_split_first (λ b. b == 44) text 0 l)

pub one_chosen : (fields others : List (List ℕ)) (text : List ℕ) → names_in text ≡ text ∷ [] → is_in text fields ≡ true → is_in text others ≡ false → are_chosen fields others (names_in text) ≡ true
one_chosen fields others text e h k = rw (e, h, k) refl

pub more_chosen : (fields others next : List (List ℕ)) (text name later : List ℕ) → names_in text ≡ name ∷ names_in later → is_in name fields ≡ true → is_in name others ≡ false → next ≡ others ++ (name ∷ []) → are_chosen fields next (names_in later) ≡ true → are_chosen fields others (names_in text) ≡ true
more_chosen fields others next text name later e h k n w = rw (e, h, k) (rw n at w)

pub more_added : (others next all : List (List ℕ)) (text name later : List ℕ) → names_in text ≡ name ∷ names_in later → next ≡ others ++ (name ∷ []) → all ≡ next ++ names_in later → all ≡ others ++ names_in text
more_added others next all text name later e n w = rw e (w ∙ (ap (λ z. z ++ names_in later) n ∙ append_assoc others (name ∷ []) (names_in later)))

pub one_added : (others all : List (List ℕ)) (text : List ℕ) → names_in text ≡ text ∷ [] → all ≡ others ++ (text ∷ []) → all ≡ others ++ names_in text
one_added others all text e w = rw e w

-- a name is the first of others, or among the later ones
pub among_more : {X : Type 0} (xs rest : List X) (x : X) (f : X → List ℕ) (name : List ℕ) → xs ≡ x ∷ rest → is_in name (map f xs) ≡ (bytes_eq (f x) name || is_in name (map f rest))
among_more xs rest x f name e = rw e refl

-- a name is added
pub map_push : {X : Type 0} (xs : List X) (x : X) (f : X → List ℕ) → map f (xs ++ (x ∷ [])) ≡ map f xs ++ (f x ∷ [])
map_push xs x f = map-append f xs (x ∷ [])

-- a text is split at its first comma
pub is_split : {X : Type 0} (r : Option X) (f g : X → List ℕ) (text : List ℕ) → MatchOption r (position_or_len (λ b. b == 44) text ≡ length text) (λ p. (f p ≡ before_first (λ b. b == 44) text) × (g p ≡ after_first (λ b. b == 44) text) × (position_or_len (λ b. b == 44) text < length text)) → MatchOption r (names_in text ≡ text ∷ []) (λ p. names_in text ≡ f p ∷ names_in (g p))
is_split None f g text h = one_name text h
is_split (Some p) f g text h = more_names text (f p) (g p) h.0 h.1 h.2

pub is_shorter : {X : Type 0} (r : Option X) (f g : X → List ℕ) (text : List ℕ) → MatchOption r (position_or_len (λ b. b == 44) text ≡ length text) (λ p. (f p ≡ before_first (λ b. b == 44) text) × (g p ≡ after_first (λ b. b == 44) text) × (position_or_len (λ b. b == 44) text < length text)) → IfSome r (λ p. length (g p) < length text)
is_shorter None f g text h = tt
is_shorter (Some p) f g text h = rw (h.1, length-drop (position_or_len (λ b. b == 44) text + 1) text) (omega (arith, h.2))
