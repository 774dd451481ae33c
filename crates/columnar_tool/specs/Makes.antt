-- The store that is made of lines.
use Rattle.std.specs.Prelude.{ℕ, List, ◌≡◌, ◌⊎◌, Option, IfSome}
use Rattle.std.specs.Io.KnownBytes.{Keeps}
use Rattle.columnar_bytes.specs.Accepted.{Accepts}
use Rattle.columnar_schema.specs.Formats.{format_of}
use Rattle.columnar_syntax.specs.declared.schema.Schema.{Schema}
use Rattle.columnar_make.specs.Lines.{HasLines, rows_in}
use Rattle.columnar_tool.specs.Told.{Prints}

-- These bytes are a store whose rows have the lines of the input, if its bytes are known.
pub record IsMade (s : Schema) (input : Option (List ℕ)) (store : List ℕ) : Type 0 where
  pub text : List ℕ
  pub is_input : IfSome input (λ bytes. text ≡ bytes)
  pub accepted : Accepts (format_of s) store
  pub lines : HasLines s (rows_in s store) text

-- such a store was printed, or a beginning of it with status 1; or nothing was, with status 1
abbrev pub Makes : Schema → Option (List ℕ) → ℕ → Option (List ℕ) → Option (List ℕ) → Type 0
Makes s input status before after = ((store : List ℕ) × (IsMade s input store × Prints store 0 status before after)) ⊎ ((status ≡ 1) × Keeps before after)
