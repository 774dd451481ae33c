-- The uses of the program.
use Rattle.std.specs.Prelude.{ℕ, false, List, [], ◌∷◌, ◌≡◌, ◌⊎◌, ◌≤◌, ◌^◌, ◌&&◌, length, Option, codes, string_bytes, if◌then◌else◌}
use Rattle.std.proofs.Common.{Global, String}
use Rattle.std.specs.Io.KnownBytes.{Keeps}
use Rattle.columnar_syntax.specs.declared.schema.Bounds.{Bounds}
use Rattle.columnar_syntax.specs.declared.schema.Bounds.TheVariants.{Words, Unaries}
use Rattle.columnar_syntax.specs.declared.schema.Schema.{Schema}
use Rattle.columnar_tool.specs.Flags.{reads}
use Rattle.columnar_tool.specs.Kinds.{Asks, IsNoType}
use Rattle.columnar_tool.specs.Makes.{Makes}
use Rattle.columnar_tool.specs.Slices.{PrintsSlices}
use Rattle.columnar_tool.specs.Tables.{ShowsTable}
use Rattle.columnar_tool.specs.Told.{Prints}
use Rattle.columnar_tool.specs.declared.help.TheConstants.{HELP, VERSION}

-- a use of the program
pub data Use : Type 0 where
  helps : Use
  tells_version : Use
  lists_slices : Bounds → List ℕ → Use
  shows_table : Use
  makes : Bounds → List ℕ → Use
  reads_files : Use
  misuses : Use

-- the use that a single word asks for
abbrev pub use_of_word : String Global → Use
use_of_word word = if reads word (codes "--help") then helps else (if reads word (codes "--version") then tells_version else misuses)

-- the use that two words ask for, the second a type or a file
abbrev pub use_of_two : String Global → String Global → Use
use_of_two verb word = if reads verb (codes "slices") then lists_slices Unaries (string_bytes word) else (if reads verb (codes "table") then shows_table else (if reads verb (codes "make") then makes Unaries (string_bytes word) else reads_files))

-- the use that three words ask for
abbrev pub use_of_three : String Global → String Global → String Global → Use
use_of_three verb flag word = if reads verb (codes "slices") && reads flag (codes "--rust") then lists_slices Words (string_bytes word) else (if reads verb (codes "make") && reads flag (codes "--rust") then makes Words (string_bytes word) else reads_files)

-- the use that the arguments ask for
abbrev pub use_of : List (String Global) → Use
use_of [] = misuses
use_of (word ∷ []) = use_of_word word
use_of (verb ∷ word ∷ []) = use_of_two verb word
use_of (verb ∷ flag ∷ word ∷ []) = use_of_three verb flag word
use_of _ = reads_files

-- the status and the output after the slices of a type were asked for
abbrev pub Lists : Bounds → List ℕ → ℕ → Option (List ℕ) → Option (List ℕ) → Type 0
Lists lists text status before after = ((s : Schema) × (Asks lists text s × PrintsSlices s status before after)) ⊎ (IsNoType lists text status × Keeps before after)

-- the status and the output after the table of a file was asked for: of some bytes, or the file could not be read
abbrev pub ShowsFile : ℕ → Option (List ℕ) → Option (List ℕ) → Type 0
ShowsFile status before after = ((bytes : List ℕ) × ShowsTable bytes status before after) ⊎ ((status ≡ 1) × Keeps before after)

-- the status and the output after a store of a type was asked for
abbrev pub MakesOf : Bounds → List ℕ → Option (List ℕ) → ℕ → Option (List ℕ) → Option (List ℕ) → Type 0
MakesOf lists text input status before after = ((s : Schema) × (Asks lists text s × Makes s input status before after)) ⊎ (IsNoType lists text status × Keeps before after)

-- the status and the output after a use with this input, if it is known; with status 2 nothing was printed
abbrev pub Ends : Use → Option (List ℕ) → ℕ → Option (List ℕ) → Option (List ℕ) → Type 0
Ends helps input status before after = Prints HELP.now 0 status before after
Ends tells_version input status before after = Prints VERSION.now 0 status before after
Ends (lists_slices lists text) input status before after = Lists lists text status before after
Ends shows_table input status before after = ShowsFile status before after
Ends (makes lists text) input status before after = MakesOf lists text input status before after
Ends reads_files input status before after = status ≡ 2 → Keeps before after
Ends misuses input status before after = (status ≡ 2) × Keeps before after
