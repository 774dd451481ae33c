-- The commands of the program, and their answers.
use Rattle.std.specs.Prelude.{ℕ, Bool, true, false, List, [], ◌∷◌, ◌++◌, ◌≡◌, ◌≢◌, ◌⊎◌, ◌==◌, codes, string_bytes, bytes_eq, if◌then◌else◌, Option, None, Some, Result, Ok, Err}
use Rattle.std.proofs.Common.{Global, String}
use Rattle.std.specs.Io.KnownBytes.{Keeps, Appends}
use Rattle.std.specs.List.{All}
use Rattle.columnar_bytes.specs.Accepted.{Accepts}
use Rattle.columnar_core.specs.Format.{Format}
use Rattle.columnar_core.specs.Sent.{AppendsBeginning}
use Rattle.columnar_bytes.specs.Streams.{stores_in, rest_in}
use Rattle.event_log.specs.Batches.{IsBatchOf}
use Rattle.event_log.specs.Lines.{IsRefused}
use Rattle.event_log.specs.Logs.{IsForeign, IsFound}
use Rattle.event_log.specs.Told.{cut_line, foreign_line, found_lines, refused_line, torn_line}
use Rattle.event_log.specs.declared.lines.Reason.{Reason}
use Rattle.event_log.specs.declared.survey.Found.{Found}
use Rattle.event_log.specs.declared.survey.Foreign.{Foreign}
use Rattle.event_log.specs.declared.told.Answer.{Answer}
use Rattle.event_log.specs.declared.told.Failure.{Failure}
use Rattle.event_log.specs.declared.told.Outcome.{Outcome}
use Rattle.event_log.specs.declared.told.Outcome.TheVariants.{Done, Failed, Misused}

-- a command of the program
pub data Use : Type 0 where
  appends : Use
  sums : Use
  repairs : Use
  misuses : Use

-- the word is this text
abbrev pub reads : String Global → List ℕ → Bool
reads word text = bytes_eq (string_bytes word) text

-- the command that the arguments give
abbrev pub use_of : List (String Global) → Use
use_of (word ∷ path ∷ []) = if reads word (codes "append") then appends else (if reads word (codes "sum") then sums else (if reads word (codes "repair") then repairs else misuses))
use_of _ = misuses

-- the status and the text that reject bytes which are not a log
abbrev pub Refuses : Format → List ℕ → ℕ → List ℕ → Type 0
Refuses f bytes status text = (foreign : Foreign) × (IsForeign f bytes foreign × ((status ≡ 1) × (text ≡ foreign_line foreign)))

-- the status of a sum: 3 if the tail is torn
abbrev pub found_status : Found → ℕ
found_status found = if found.torn == 0 then 0 else 3

-- the answer to a sum of a log with these bytes
abbrev pub AnswersSum : Format → List ℕ → ℕ → List ℕ → Type 0
AnswersSum f bytes status text = ((found : Found) × (IsFound f bytes found × ((status ≡ found_status found) × (text ≡ found_lines found)))) ⊎ Refuses f bytes status text

-- the answer to a repair of a log with these bytes
abbrev pub AnswersRepair : Format → List ℕ → ℕ → List ℕ → Type 0
AnswersRepair f bytes status text = ((found : Found) × (IsFound f bytes found × ((status ≡ 0) × (text ≡ cut_line found.torn)))) ⊎ Refuses f bytes status text

-- the bytes are accepted stores, one after another, and nothing else
abbrev pub IsWhole : Format → List ℕ → Type 0
IsWhole f bytes = All (Accepts f) (stores_in bytes) × (rest_in bytes ≡ [])

-- the status and the text that reject a batch for a log with these bytes: its tail is torn, or they are not a log
abbrev pub KeepsOut : Format → List ℕ → ℕ → List ℕ → Type 0
KeepsOut f old status text = ((found : Found) × (IsFound f old found × ((found.torn ≢ 0) × ((status ≡ 3) × (text ≡ torn_line found.torn))))) ⊎ Refuses f old status text

-- why a batch cannot be appended to a log with these bytes, or None
abbrev pub MayAppend : Format → List ℕ → Option Answer → Type 0
MayAppend f old (Some answer) = KeepsOut f old answer.status (string_bytes answer.text)
MayAppend f old None = IsWhole f old

-- the same, for these contents of the log
abbrev pub IsObjection : Found → Option Answer → Type 0
IsObjection found (Some answer) = (found.torn ≢ 0) × ((answer.status ≡ 3) × (string_bytes answer.text ≡ torn_line found.torn))
IsObjection found None = found.torn ≡ 0

-- after these bytes, the batch is the last store, and nothing follows it
abbrev pub IsFoundBehind : List ℕ → List ℕ → Type 0
IsFoundBehind old batch = (stores_in (old ++ batch) ≡ stores_in old ++ (batch ∷ [])) × (rest_in (old ++ batch) ≡ [])

-- A file received all of the bytes: they were appended to its contents, if those are known.
abbrev pub Received : {F : Type 0} → (F → Option (List ℕ)) → List ℕ → Type 0
Received {F} contents bytes = (before : F) × ((after : F) × Appends (contents before) (contents after) bytes)

-- The outcome of appending a batch to a log with these bytes: it was sent and is the last store, or it was rejected. `sent`
-- is the claim that a file received these bytes.
abbrev pub AnswersBatch : Format → (List ℕ → Type 0) → List ℕ → List ℕ → ℕ → List ℕ → Type 0
AnswersBatch f sent old batch status text = ((sent batch × (IsWhole f old × IsFoundBehind old batch)) × ((status ≡ 0) × (text ≡ []))) ⊎ KeepsOut f old status text

-- the status and the text that reject an input's lines
abbrev pub RefusesLine : List ℕ → ℕ → List ℕ → Type 0
RefusesLine input status text = (count : ℕ) × ((reason : Reason) × (IsRefused input count × ((status ≡ 1) × (text ≡ refused_line count reason))))

-- The answer to appending an input's lines to a log: their batch was appended or rejected; or a line is not an event.
abbrev pub AnswersAppend : Format → (List ℕ → Type 0) → List ℕ → List ℕ → ℕ → List ℕ → Type 0
AnswersAppend f sent input old status text = ((batch : List ℕ) × (IsBatchOf f input batch × AnswersBatch f sent old batch status text)) ⊎ RefusesLine input status text

-- The answer to a command: the status, and the text on the output. `f` is the format of a batch's columns.
abbrev pub AnswersUse : Format → (List ℕ → Type 0) → Use → ℕ → List ℕ → Type 0
AnswersUse f sent appends status text = (input : List ℕ) × ((old : List ℕ) × AnswersAppend f sent input old status text)
AnswersUse f sent sums status text = (bytes : List ℕ) × AnswersSum f bytes status text
AnswersUse f sent repairs status text = (bytes : List ℕ) × AnswersRepair f bytes status text
AnswersUse f sent misuses status text = ⊥

-- the answer to a command, or None if there is no such command
abbrev pub Answered : Format → (List ℕ → Type 0) → Use → Option (Result Answer Failure) → Type 0
Answered f sent asked (Some (Ok answer)) = AnswersUse f sent asked answer.status (string_bytes answer.text)
Answered f sent asked (Some (Err failure)) = asked ≢ misuses
Answered f sent asked None = asked ≡ misuses

-- The output of a command that failed: nothing, or a proper prefix of its answer.
abbrev pub Began : Format → (List ℕ → Type 0) → Use → Option (List ℕ) → Option (List ℕ) → Type 0
Began f sent asked before after = Keeps before after ⊎ ((status : ℕ) × ((text : List ℕ) × (AnswersUse f sent asked status text × AppendsBeginning before after text)))

-- The outcome of a command, and the output: it succeeded, and its answer was written; it failed; or there is no such
-- command, and nothing was written.
abbrev pub Ends : Format → (List ℕ → Type 0) → Use → Outcome → Option (List ℕ) → Option (List ℕ) → Type 0
Ends f sent asked (Done status) before after = (text : List ℕ) × (AnswersUse f sent asked status text × Appends before after text)
Ends f sent asked (Failed failure) before after = (asked ≢ misuses) × Began f sent asked before after
Ends f sent asked Misused before after = (asked ≡ misuses) × Keeps before after

-- The output after a text was written: all of it, or a proper prefix if not all was accepted.
abbrev pub Hears : List ℕ → Bool → Option (List ℕ) → Option (List ℕ) → Type 0
Hears text true before after = Appends before after text
Hears text false before after = AppendsBeginning before after text

-- The result of writing an answer to an output.
abbrev pub Given : Result Answer Failure → Result ℕ Failure → Option (List ℕ) → Option (List ℕ) → Type 0
Given (Ok answer) (Ok status) before after = (status ≡ answer.status) × Appends before after (string_bytes answer.text)
Given (Ok answer) (Err failure) before after = AppendsBeginning before after (string_bytes answer.text)
Given (Err why) (Ok status) before after = ⊥
Given (Err why) (Err failure) before after = Keeps before after
