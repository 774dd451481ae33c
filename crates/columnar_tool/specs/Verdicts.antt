-- The lines that tell whether stores are accepted.
use Rattle.std.specs.Prelude.{ℕ, Bool, true, false, List, ◌++◌, ◌≡◌, length, codes, decimal}
use Rattle.columnar_bytes.specs.Accepted.{Accepts, IsFirstFault}
use Rattle.columnar_core.specs.Faults.{fault_number, fault_slice}
use Rattle.columnar_core.specs.declared.fault.StoreFault.{StoreFault}
use Rattle.columnar_syntax.specs.declared.schema.Schema.{Schema}
use Rattle.columnar_schema.specs.Formats.{format_of}
use Rattle.columnar_tool.specs.Lines.{rows_in}
use Rattle.columnar_tool.specs.Slices.{name_text}
use Rattle.columnar_tool.specs.declared.file.Wanted.{Wanted}
use Rattle.columnar_tool.specs.declared.file.Wanted.TheVariants.{Verdict, Rows}

-- the line of a store that is accepted and has this number of rows
abbrev pub accepted_text : Wanted → List ℕ → ℕ → List ℕ
accepted_text Verdict label rows = label ++ codes ": accepted\n"
accepted_text Rows label rows = label ++ (codes ": " ++ (decimal rows ++ codes " rows\n"))

-- the line of a broken rule: its number, its slice with its name, and why it is broken
abbrev pub fault_text : List ℕ → ℕ → ℕ → List ℕ → List ℕ → List ℕ
fault_text label rule slice name why = label ++ (codes ": rule " ++ (decimal rule ++ (codes " in slice " ++ (decimal slice ++ (name_text name ++ (codes ": " ++ (why ++ codes "\n")))))))

-- the line tells this fault, in some words
abbrev pub IsFaultLine : List ℕ → StoreFault → List ℕ → Type 0
IsFaultLine label fault line = (name : List ℕ) × ((why : List ℕ) × (line ≡ fault_text label (fault_number fault) (fault_slice fault) name why))

-- the line tells whether the bytes are accepted as a column of the type, and the first broken rule if not
abbrev pub IsVerdict : Schema → Wanted → List ℕ → List ℕ → Bool → List ℕ → Type 0
IsVerdict s wanted label bytes true line = Accepts (format_of s) bytes × (line ≡ accepted_text wanted label (length (rows_in s bytes)))
IsVerdict s wanted label bytes false line = (¬ Accepts (format_of s) bytes) × ((fault : StoreFault) × (IsFirstFault (format_of s) bytes fault × IsFaultLine label fault line))
