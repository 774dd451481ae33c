-- The commands of the program, and their answers.
use Rattle.std.specs.Prelude.{ℕ, Bool, true, false, List, [], ◌∷◌, ◌++◌, ◌≡◌, ◌≢◌, ◌⊎◌, length, codes, string_bytes, bytes_eq, if◌then◌else◌, Option, None, Some, Result, Ok, Err}
use Rattle.std.proofs.Common.{Global, String}
use Rattle.std.specs.Io.KnownBytes.{Keeps, Appends}
use Rattle.columnar.specs.Accepted.{Accepts}
use Rattle.columnar.specs.Either.{Either, IsFaultOfNamed}
use Rattle.columnar.specs.Faults.{fault_number, fault_slice}
use Rattle.columnar.specs.Format.{Format, Content, slices_of}
use Rattle.columnar.specs.Frame.{framed_slices}
use Rattle.columnar.specs.Row.{Row}
use Rattle.columnar.specs.Sent.{AppendsBeginning}
use Rattle.roster.specs.Ages.{ages_sum, roster_ages}
use Rattle.roster.specs.Told.{rows_line, refused_line, seven_lines, slice_lines, sum_line}
use Rattle.roster.specs.declared.told.Answer.{Answer}
use Rattle.roster.specs.declared.told.Failure.{Failure}
use Rattle.roster.specs.declared.told.Outcome.{Outcome}
use Rattle.roster.specs.declared.told.Outcome.TheVariants.{Done, Failed, Misused}

-- a command of the program
pub data Use : Type 0 where
  shows : Use
  begins : Use
  writes : Use
  checks : Use
  misuses : Use

-- the word is this text
abbrev pub reads : String Global → List ℕ → Bool
reads word text = bytes_eq (string_bytes word) text

-- the command that the arguments give
abbrev pub use_of : List (String Global) → Use
use_of [] = shows
use_of (word ∷ []) = if reads word (codes "first") then begins else misuses
use_of (word ∷ path ∷ []) = if reads word (codes "write") then writes else (if reads word (codes "check") then checks else misuses)
use_of _ = misuses

-- The lines that show a column: its slices, and the sum of the ages in its rows; `ages` is the sum in one row.
abbrev pub shown : (Row → ℕ) → Format → Content → List ℕ
shown ages f c = slice_lines f.aligns (slices_of c) ++ sum_line (ages_sum ages (f.rows c))

-- A file received all of the bytes: they were appended to its contents, if those are known.
abbrev pub Received : {F : Type 0} → (F → Option (List ℕ)) → List ℕ → Type 0
Received {F} contents bytes = (before : F) × ((after : F) × Appends (contents before) (contents after) bytes)

-- a file received bytes that are accepted, all of them
abbrev pub ReceivedStore : {F : Type 0} → (F → Option (List ℕ)) → Format → Type 0
ReceivedStore contents f = (bytes : List ℕ) × (Accepts f bytes × Received contents bytes)

-- the text shows some bytes that are accepted
abbrev pub ShowsAges : Format → List ℕ → Type 0
ShowsAges f text = (bytes : List ℕ) × (Accepts f bytes × (text ≡ shown roster_ages f (f.build (framed_slices bytes))))

-- the text reports the number of rows of accepted bytes
abbrev pub TellsRows : Format → List ℕ → List ℕ → Type 0
TellsRows f bytes text = Accepts f bytes × (text ≡ rows_line (length (f.rows (f.build (framed_slices bytes)))))

-- the text reports the first fault of bytes that neither format accepts, by the format that they name
abbrev pub TellsFault : Format → Format → List ℕ → List ℕ → Type 0
TellsFault f old bytes text = (Either f old bytes → ⊥) × ((fault : _) × (IsFaultOfNamed f old bytes fault × (text ≡ refused_line (fault_number fault) (fault_slice fault))))

-- the answer to a check of bytes, for a format and its earlier form
abbrev pub Judges : Format → Format → List ℕ → ℕ → List ℕ → Type 0
Judges f old bytes status text = ((status ≡ 0) × (TellsRows f bytes text ⊎ TellsRows old bytes text)) ⊎ ((status ≡ 1) × TellsFault f old bytes text)

-- The answer to a command: the status, and the text on the output. `f` and `old` are the formats of the roster's
-- columns and of their earlier form; `stored` is the claim that a file received a store.
abbrev pub AnswersUse : Format → Format → Type 0 → Use → ℕ → List ℕ → Type 0
AnswersUse f old stored shows status text = (status ≡ 0) × ShowsAges f text
AnswersUse f old stored begins status text = (status ≡ 0) × (text ≡ seven_lines)
AnswersUse f old stored writes status text = (status ≡ 0) × ((text ≡ []) × stored)
AnswersUse f old stored checks status text = (bytes : List ℕ) × Judges f old bytes status text
AnswersUse f old stored misuses status text = ⊥

-- the answer to a command, or None if there is no such command
abbrev pub Answered : Format → Format → Type 0 → Use → Option (Result Answer Failure) → Type 0
Answered f old stored asked (Some (Ok answer)) = AnswersUse f old stored asked answer.status (string_bytes answer.text)
Answered f old stored asked (Some (Err failure)) = asked ≢ misuses
Answered f old stored asked None = asked ≡ misuses

-- The output of a command that failed: nothing, or a proper prefix of its answer.
abbrev pub Began : Format → Format → Type 0 → Use → Option (List ℕ) → Option (List ℕ) → Type 0
Began f old stored asked before after = Keeps before after ⊎ ((status : ℕ) × ((text : List ℕ) × (AnswersUse f old stored asked status text × AppendsBeginning before after text)))

-- The outcome of a command, and the output: it succeeded, and its answer was written; it failed; or there is no such
-- command, and nothing was written.
abbrev pub Ends : Format → Format → Type 0 → Use → Outcome → Option (List ℕ) → Option (List ℕ) → Type 0
Ends f old stored asked (Done status) before after = (text : List ℕ) × (AnswersUse f old stored asked status text × Appends before after text)
Ends f old stored asked (Failed failure) before after = (asked ≢ misuses) × Began f old stored asked before after
Ends f old stored asked Misused before after = (asked ≡ misuses) × Keeps before after

-- The output after a text was written: all of it, or a proper prefix if not all was accepted.
abbrev pub Hears : List ℕ → Bool → Option (List ℕ) → Option (List ℕ) → Type 0
Hears text true before after = Appends before after text
Hears text false before after = AppendsBeginning before after text

-- The result of writing an answer to an output.
abbrev pub Given : Result Answer Failure → Result ℕ Failure → Option (List ℕ) → Option (List ℕ) → Type 0
Given (Ok answer) (Ok status) before after = (status ≡ answer.status) × Appends before after (string_bytes answer.text)
Given (Ok answer) (Err failure) before after = AppendsBeginning before after (string_bytes answer.text)
Given (Err why) (Ok status) before after = ⊥
Given (Err why) (Err failure) before after = Keeps before after
