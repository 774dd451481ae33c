-- Flags before a type and after the files.
use Rattle.std.specs.Prelude.{ℕ, Bool, true, false, List, [], ◌∷◌, bytes_eq, codes, string_bytes, if◌then◌else◌}
use Rattle.std.proofs.Common.{Global, String}
use Rattle.columnar_syntax.specs.declared.schema.Bounds.TheVariants.{Words}
use Rattle.columnar_tool.specs.declared.flags.Flags.{Flags}

-- the word is this text
abbrev pub reads : String Global → List ℕ → Bool
reads word text = bytes_eq (string_bytes word) text

-- what the flags at the beginning say, after others, and the words after them
abbrev pub flags_in : Flags → List (String Global) → Flags × List (String Global)
flags_in f [] = (f, [])
flags_in f (w ∷ ws) =
    if f.names_next then flags_in (record f { names_next = false }) ws else (
    if reads w (codes "--rust") then flags_in (record f { lists = Words }) ws else (
    if reads w (codes "--stores") then flags_in (record f { stores = true }) ws else (
    if reads w (codes "--json") then flags_in (record f { json = true }) ws else (
    if reads w (codes "--csv") then flags_in (record f { csv = true }) ws else (
    if reads w (codes "--fields") then flags_in (record f { fields = true; names_next = true }) ws else (f, w ∷ ws))))))
