-- Files that hold stores one after another.
use Rattle.std.specs.Prelude.{ℕ, Bool, true, false, List, [], ◌∷◌, ◌++◌, ◌+◌, ◌≡◌, ◌&&◌, All, Option, length, take, drop, codes, decimal}
use Rattle.std.specs.Io.KnownBytes.{Appends}
use Rattle.std.specs.List.{flat_map}
use Rattle.columnar_base.specs.Format.{Format}
use Rattle.columnar_bytes.specs.Accepted.{Accepts}
use Rattle.columnar_bytes.specs.StreamFaults.{IsFlaw}
use Rattle.columnar_bytes.specs.Streams.{rest_in, stores_in}
use Rattle.columnar_core.specs.declared.fault.StoreFault.{StoreFault}
use Rattle.columnar_json.specs.Pieces.{Piece}
use Rattle.columnar_json.specs.declared.view.View.{View}
use Rattle.columnar_syntax.specs.declared.schema.Schema.{Schema}
use Rattle.columnar_schema.specs.Formats.{format_of}
use Rattle.columnar_tool.specs.Lines.{Prints, Stops, lines_of, rows_in}
use Rattle.columnar_tool.specs.declared.cat.Stop.{Stop}
use Rattle.columnar_tool.specs.declared.cat.Stop.TheVariants.{Failed, Refused, Beyond, Row as RowStop}
use Rattle.columnar_tool.specs.declared.file.Wanted.{Wanted}
use Rattle.columnar_tool.specs.declared.range.TheConstants.{ALL}
use Rattle.columnar_tool.specs.Verdicts.{IsFaultLine, IsVerdict}

-- the bytes are stores one after another, each of which is accepted
abbrev pub AreAccepted : Format → List ℕ → Type 0
AreAccepted f bytes = All (Accepts f) (stores_in bytes) × (rest_in bytes ≡ [])

-- the lines of all rows of a store
abbrev pub store_lines : View → Schema → List ℕ → List Piece
store_lines v s bytes = lines_of v s (rows_in s bytes)

-- what stops the program at the first of these stores; if there is none, at the bytes after them, which are no store
abbrev pub StopsIn : View → Schema → List (List ℕ) → List ℕ → Option (List ℕ) → Option (List ℕ) → Stop → Type 0
StopsIn v s (store ∷ later) rest old new stop = Stops v s ALL store old new stop
StopsIn v s [] rest old new (Refused fault) = IsFlaw rest (length rest) fault × (new ≡ old)
StopsIn v s [] rest old new (Failed why) = ⊥
StopsIn v s [] rest old new (Beyond count) = ⊥
StopsIn v s [] rest old new (RowStop i why) = ⊥

-- what stops it at store n, after all lines of the stores before it
abbrev pub StopsAtStore : View → Schema → List ℕ → Option (List ℕ) → Option (List ℕ) → ℕ → Stop → Type 0
StopsAtStore v s bytes old new n stop = (mid : Option (List ℕ)) × (All (Accepts (format_of s)) (take n (stores_in bytes)) × (Prints old mid (flat_map (store_lines v s) (take n (stores_in bytes))) × StopsIn v s (drop n (stores_in bytes)) (rest_in bytes) mid new stop))

-- what names store n of a file
abbrev pub label_of : List ℕ → ℕ → List ℕ
label_of path n = path ++ (codes ", store " ++ decimal n)

-- The text has a line for each of these stores that tells whether it is accepted, and a line for bytes after them, which
-- are no store. The first store has this number. The result is whether all are accepted.
pub data Reports (s : Schema) (wanted : Wanted) (path : List ℕ) : ℕ → List (List ℕ) → List ℕ → Bool → List ℕ → Type 0 where
  ended : {n : ℕ} → Reports s wanted path n [] [] true []
  torn : {n : ℕ} {rest line : List ℕ} (fault : StoreFault) → IsFlaw rest (length rest) fault → IsFaultLine (label_of path n) fault line → Reports s wanted path n [] rest false line
  tested : {n : ℕ} {store : List ℕ} {stores : List (List ℕ)} {rest : List ℕ} (line more : List ℕ) (one later : Bool) → IsVerdict s wanted (label_of path n) store one line → Reports s wanted path (n + 1) stores rest later more → Reports s wanted path n (store ∷ stores) rest (one && later) (line ++ more)

-- such a text about all stores of a file was printed
abbrev pub IsReport : Schema → Wanted → List ℕ → List ℕ → Bool → Option (List ℕ) → Option (List ℕ) → Type 0
IsReport s wanted path bytes ok old new = (text : List ℕ) × (Reports s wanted path 0 (stores_in bytes) (rest_in bytes) ok text × Appends old new text)
