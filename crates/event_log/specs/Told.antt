-- The messages of the program, as bytes.
use Rattle.std.specs.Prelude.{ℕ, List, [], ◌++◌, ◌==◌, codes, decimal, if◌then◌else◌}
use Rattle.columnar_core.specs.Faults.{fault_number, fault_slice}
use Rattle.event_log.specs.declared.counts.Counts.{Counts}
use Rattle.event_log.specs.declared.lines.Reason.{Reason}
use Rattle.event_log.specs.declared.lines.Reason.TheVariants.{Parts, Time, User, Level}
use Rattle.event_log.specs.declared.survey.Found.{Found}
use Rattle.event_log.specs.declared.survey.Foreign.{Foreign}
use Rattle.event_log.specs.declared.survey.Foreign.TheVariants.{Store, Tail}
use Rattle.event_log.specs.declared.told.Failure.{Failure}
use Rattle.event_log.specs.declared.told.Failure.TheVariants.{Memory, TooLong, Input, Utf8, Output}
use Rattle.event_log.specs.declared.told.Outcome.{Outcome}
use Rattle.event_log.specs.declared.told.Outcome.TheVariants.{Done, Failed, Misused}

-- the message for a failure
abbrev pub failure_line : Failure → List ℕ
failure_line Memory = codes "failed: no memory\n"
failure_line TooLong = codes "failed: too long\n"
failure_line Input = codes "failed: cannot read\n"
failure_line Utf8 = codes "failed: the input is not UTF-8\n"
failure_line Output = codes "failed: cannot write\n"

-- the message for the error output
abbrev pub outcome_line : Outcome → List ℕ
outcome_line (Done status) = []
outcome_line (Failed failure) = failure_line failure
outcome_line Misused = codes "usage: event_log append FILE | sum FILE | repair FILE\n"

-- the exit status
abbrev pub outcome_status : Outcome → ℕ
outcome_status (Done status) = status
outcome_status (Failed failure) = 1
outcome_status Misused = 2

-- why a line is not an event
abbrev pub reason_words : Reason → List ℕ
reason_words Parts = codes "it does not have four parts"
reason_words Time = codes "its time is not a 64-bit number"
reason_words User = codes "it has no user"
reason_words Level = codes "its level is none of debug, info, warn, error"

-- the rejected line, and why
abbrev pub refused_line : ℕ → Reason → List ℕ
refused_line count reason = codes "refused: line " ++ (decimal count ++ (codes ": " ++ (reason_words reason ++ codes "\n")))

-- the rejected batch, the first rule that it breaks, and the slice
abbrev pub batch_line : ℕ → ℕ → ℕ → List ℕ
batch_line count rule slice = codes "refused: batch " ++ (decimal count ++ (codes ": " ++ (decimal rule ++ (codes " in slice " ++ (decimal slice ++ codes "\n")))))

-- why bytes are not a log
abbrev pub foreign_line : Foreign → List ℕ
foreign_line (Store count fault) = batch_line count (fault_number fault) (fault_slice fault)
foreign_line (Tail at) = codes "refused: no batch begins at byte " ++ (decimal at ++ codes "\n")

-- nothing is appended after a torn tail
abbrev pub torn_line : ℕ → List ℕ
torn_line count = codes "refused: a torn tail of " ++ (decimal count ++ codes " bytes: event_log repair cuts it\n")

-- the number of bytes that were cut
abbrev pub cut_line : ℕ → List ℕ
cut_line count = codes "cut: " ++ (decimal count ++ codes " bytes\n")

-- a name and a number
abbrev pub number_line : List ℕ → ℕ → List ℕ
number_line name count = name ++ (decimal count ++ codes "\n")

-- the number of batches, and of the events of each level
abbrev pub counts_lines : ℕ → Counts → List ℕ
counts_lines batches counts = ((((number_line (codes "batches: ") batches) ++ number_line (codes "debug: ") counts.debug) ++ number_line (codes "info: ") counts.info) ++ number_line (codes "warn: ") counts.warn) ++ number_line (codes "error: ") counts.error

-- the same, and the torn tail, if there is one
abbrev pub found_lines : Found → List ℕ
found_lines found = counts_lines found.batches found.counts ++ (if found.torn == 0 then [] else (codes "torn tail: " ++ (decimal found.torn ++ codes " bytes\n")))
