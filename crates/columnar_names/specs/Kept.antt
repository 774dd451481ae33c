-- What a list keeps if items are appended.
use Rattle.std.specs.Prelude.{List, length, take, ◌≡◌}

-- the list begins with these items
abbrev pub BeginsWith : {A : Type 0} → List A → List A → Type 0
BeginsWith xs ys = take (length xs) ys ≡ xs

-- Whatever the list began with, it still begins with: its old items stay, in their places.
abbrev pub KeepsItems : {A : Type 0} → List A → List A → Type 0
KeepsItems {A} old new = (xs : List A) → BeginsWith xs old → BeginsWith xs new
