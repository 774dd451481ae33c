-- The report on a row, for each outcome.
use Rattle.std.proofs.Common.{◌≡◌, ◌++◌, ◌<◌, ◌≤◌, ◌⊎◌, inl, inr, ℕ, List, length, drop, sym, arith}
use Rattle.std.specs.Prelude.{Some}
use Rattle.std.proofs.lemmas.Bool.{cases_lt}
use Rattle.columnar_syntax.specs.Names.{Names, a_type}
use Rattle.columnar_syntax.specs.Plain.{type_tokens}
use Rattle.columnar_syntax.specs.declared.schema.Bounds.{Bounds}
use Rattle.columnar_syntax.specs.declared.schema.Schema.{Schema}
use Rattle.columnar_c.specs.Answers.{bounds_of, IsTypeOf}
use Rattle.columnar_c.specs.RowAnswers.{Holds, IsRowText, LacksRoom, Told}

type_of : {lists : Bounds} (bounds : ℕ) (text : List ℕ) (s : Schema) → Some lists ≡ bounds_of bounds → Names lists a_type (type_tokens text) s → IsTypeOf bounds text s
type_of {lists} bounds text s k n = record { lists = lists; kept = sym k; named = n }

told_written : {bounds : ℕ} {text : List ℕ} (bytes : List ℕ) {s : Schema} (i : ℕ) (line old new : List ℕ) (written rule slice : ℕ) → IsTypeOf bounds text s → IsRowText s bytes i line → Holds line old new written → Told bounds text bytes i 0 old new written rule slice
told_written bytes {s} i line old new written rule slice n t h = record {
  schema = s;
  named = n;
  wrote = λ _. (line, (t, h));
  broken = λ e. absurd (omega (arith, e));
  no_row = λ e. absurd (omega (arith, e));
  not_text = λ e. absurd (omega (arith, e));
  wrong_length = λ e. absurd (omega (arith, e));
  no_room = λ e. absurd (omega (arith, e));
}

told_no_room : {bounds : ℕ} {text : List ℕ} (bytes : List ℕ) {s : Schema} (i : ℕ) (line old new : List ℕ) (written rule slice : ℕ) → IsTypeOf bounds text s → IsRowText s bytes i line → LacksRoom line old written → Told bounds text bytes i 8 old new written rule slice
told_no_room bytes {s} i line old new written rule slice n t h = record {
  schema = s;
  named = n;
  wrote = λ e. absurd (omega (arith, e));
  broken = λ e. absurd (omega (arith, e));
  no_row = λ e. absurd (omega (arith, e));
  not_text = λ e. absurd (omega (arith, e));
  wrong_length = λ e. absurd (omega (arith, e));
  no_room = λ _. (line, (t, h));
}

-- the row has a text, which fits or not
told_text_by : {bounds : ℕ} {text : List ℕ} (bytes : List ℕ) {s : Schema} (i : ℕ) (line old new : List ℕ) (answer written rule slice : ℕ) → IsTypeOf bounds text s → IsRowText s bytes i line → (length line ≤ length old → (answer ≡ 0) × (new ≡ line ++ drop (length line) old)) → (length old < length line → (answer ≡ 8) × (new ≡ old)) → written ≡ length line → (length old < length line) ⊎ (length line ≤ length old) → Told bounds text bytes i answer old new written rule slice
told_text_by {bounds} {text} bytes i line old new answer written rule slice n t f g w (inl h) = rw ((g h).0) (told_no_room bytes i line old new written rule slice n t (record { short = h; count = w }))
told_text_by {bounds} {text} bytes i line old new answer written rule slice n t f g w (inr h) = rw ((f h).0) (told_written bytes i line old new written rule slice n t (record { bytes = (f h).1; fits = h; count = w }))

pub told_text : {lists : Bounds} (bounds : ℕ) (text bytes : List ℕ) (s : Schema) (i : ℕ) (line old new : List ℕ) (answer written rule slice : ℕ) → Some lists ≡ bounds_of bounds → Names lists a_type (type_tokens text) s → IsRowText s bytes i line → (length line ≤ length old → (answer ≡ 0) × (new ≡ line ++ drop (length line) old)) → (length old < length line → (answer ≡ 8) × (new ≡ old)) → written ≡ length line → Told bounds text bytes i answer old new written rule slice
told_text bounds text bytes s i line old new answer written rule slice k n t f g w = told_text_by bytes i line old new answer written rule slice (type_of bounds text s k n) t f g w (cases_lt (length old) (length line))
