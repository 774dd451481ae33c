-- The lines that tell the slices of a type.
use Rattle.std.specs.Prelude.{ℕ, List, [], ◌∷◌, ◌++◌, ◌≡◌, ◌⊎◌, ◌+◌, ◌==◌, length, Option, codes, decimal, if◌then◌else◌}
use Rattle.std.specs.Io.KnownBytes.{Keeps}
use Rattle.columnar_syntax.specs.declared.schema.Schema.{Schema}
use Rattle.columnar_schema.specs.Formats.{format_of}
use Rattle.columnar_tool.specs.Told.{Prints}

-- the name of a slice, after its number
abbrev pub name_text : List ℕ → List ℕ
name_text name = if length name == 0 then [] else codes ", " ++ name

-- a slice, and the size of its elements
abbrev pub slice_line : ℕ → List ℕ → ℕ → List ℕ
slice_line i name size = codes "slice " ++ (decimal i ++ (name_text name ++ (codes ": " ++ (decimal size ++ codes "-byte elements\n"))))

-- a line for each of these sizes, of slice i and the later ones, each with some name
abbrev pub AreSlices : ℕ → List ℕ → List ℕ → Type 0
AreSlices i [] text = text ≡ []
AreSlices i (size ∷ sizes) text = (name : List ℕ) × ((later : List ℕ) × ((text ≡ slice_line i name size ++ later) × AreSlices (i + 1) sizes later))

-- the lines of all slices were printed, or the program failed
abbrev pub PrintsSlices : Schema → ℕ → Option (List ℕ) → Option (List ℕ) → Type 0
PrintsSlices s status before after = ((text : List ℕ) × (AreSlices 0 (format_of s).sizes text × Prints text 0 status before after)) ⊎ ((status ≡ 1) × Keeps before after)
