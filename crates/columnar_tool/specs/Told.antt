-- What the program prints, also if it fails.
use Rattle.std.specs.Prelude.{ℕ, List, ◌≡◌, ◌⊎◌, Option}
use Rattle.std.specs.Io.KnownBytes.{Appends}
use Rattle.columnar_core.specs.Sent.{WentOut}

-- a beginning of the text was printed, perhaps none of it or all
abbrev pub Began : Option (List ℕ) → Option (List ℕ) → List ℕ → Type 0
Began before after text = (rest : List ℕ) × WentOut before after rest text

-- the text was printed, with this status; or the program failed, with status 1, and a beginning of the text was printed
abbrev pub Prints : List ℕ → ℕ → ℕ → Option (List ℕ) → Option (List ℕ) → Type 0
Prints text good status before after = ((status ≡ good) × Appends before after text) ⊎ ((status ≡ 1) × Began before after text)
