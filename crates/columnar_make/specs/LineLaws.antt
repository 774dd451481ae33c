-- Rows and their lines, one after the other.
use Rattle.std.proofs.Common.{◌≡◌, ◌⊎◌, inl, inr, ℕ, zero, suc, ◌+◌, ◌<◌, List, [], ◌∷◌, ◌++◌, length, drop, refl, ap, arith}
use Rattle.columnar_base.specs.Row.{Row}
use Rattle.columnar_syntax.specs.declared.schema.Schema.{Schema}
use Rattle.columnar_json.specs.Json.{row_at}
use Rattle.columnar_json.specs.Pieces.{Appended, Piece, Spells}
use Rattle.columnar_make.specs.Lines.{HasLines, none, last, more, IsLine, IsLineOf}

-- the rows from row i on
drop_row : (rs : List Row) (i : ℕ) → i < length rs → drop i rs ≡ row_at rs i ∷ drop (i + 1) rs
drop_row [] i h = absurd (omega (arith, h))
drop_row (r ∷ rs) zero h = refl
drop_row (r ∷ rs) (suc i) h =
    let m : suc i + 1 ≡ suc (i + 1) = omega arith in
    rw m (drop_row rs i (omega (arith, h)))

not_empty : (line rest : List ℕ) → line ++ (10 ∷ rest) ≡ [] → ⊥
not_empty [] rest e = absurd (omega (arith, ap length e))
not_empty (b ∷ line) rest e = absurd (omega (arith, ap length e))

-- an empty text has no line
no_lines : (s : Schema) (rs : List Row) (text : List ℕ) → HasLines s rs text → text ≡ [] → rs ≡ []
no_lines s [] text h e = refl
no_lines s (r ∷ rs) text (last l o) e = absurd (omega (arith, ap length e))
no_lines s (r ∷ rs) text (more {line = line} {rest = rest} l o h) e = absurd (not_empty line rest e)

last_line : (s : Schema) (r : Row) (line : List ℕ) → 0 < length line → IsLine line → IsLineOf s r line → HasLines s (r ∷ []) line
last_line s r [] h l o = absurd (omega (arith, h))
last_line s r (b ∷ line) h l o = last l o

-- a line before others
pub line_taken : (s : Schema) (rs : List Row) (i : ℕ) (text line later : List ℕ) → i < length rs → 0 < length text → IsLine line → (text ≡ line ++ (10 ∷ later)) ⊎ ((text ≡ line) × (later ≡ [])) → IsLineOf s (row_at rs i) line → HasLines s (drop (i + 1) rs) later → HasLines s (drop i rs) text
line_taken s rs i text line later h n l (inl e) o k = rw (drop_row rs i h, e) (more l o k)
line_taken s rs i text line later h n l (inr e) o k =
    let d : drop (i + 1) rs ≡ [] = no_lines s (drop (i + 1) rs) later k e.1 in
    rw (drop_row rs i h, d, e.0) (last_line s (row_at rs i) line (rw (e.0) at n) l o)

-- after the last line
pub lines_ended : (s : Schema) (rs : List Row) (n : ℕ) (text : List ℕ) → n ≡ length rs → length text ≡ 0 → HasLines s (drop n rs) text
lines_ended s [] zero [] e f = none
lines_ended s [] zero (b ∷ text) e f = absurd (omega (arith, f))
lines_ended s [] (suc n) text e f = absurd (omega (arith, e))
lines_ended s (r ∷ rs) zero text e f = absurd (omega (arith, e))
lines_ended s (r ∷ rs) (suc n) text e f = lines_ended s rs n text (omega (arith, e)) f

-- what was appended to nothing is spelled
pub spelled_alone : (old new : List ℕ) (ps : List Piece) → old ≡ [] → Appended old new ps → Spells ps new
spelled_alone old new ps e h = rw (h.1.0, e) h.1.1
