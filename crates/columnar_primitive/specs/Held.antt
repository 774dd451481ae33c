-- The content of an owned count.
use Rattle.std.specs.Prelude.{ℕ, [], ◌∷◌}
use Rattle.columnar_core.specs.Format.{Content, slice}
use Rattle.columnar_core.specs.Bytes.{le_bytes}

-- the content of a count: one word
abbrev pub counted : ℕ → Content
counted n = slice (le_bytes (n ∷ []))
