-- Lines that are printed one after the other.
use Rattle.std.proofs.Common.{◌≡◌, ℕ, suc, Bool, true, false, ◌==◌, ◌+◌, ◌-◌, ◌<◌, ◌≤◌, List, [], ◌∷◌, ◌++◌, length, take, drop, refl, sym, ◌∙◌, ap, arith, append-nil}
use Rattle.std.specs.Prelude.{Option, map, slice_range, codes}
use Rattle.std.proofs.lemmas.Bool.{eq-eqb}
use Rattle.std.specs.Io.KnownBytes.{Appends}
use Rattle.columnar_base.specs.Row.{Row}
use Rattle.columnar_core.specs.SentLaws.{appends_both, appends_none}
use Rattle.columnar_syntax.specs.declared.schema.Schema.{Schema}
use Rattle.columnar_json.specs.Csv.{head_of}
use Rattle.columnar_json.specs.ItemLaws.{flat_more, take_more}
use Rattle.columnar_json.specs.Json.{row_at}
use Rattle.columnar_json.specs.Pieces.{Appended, Piece, plain}
use Rattle.columnar_json.specs.declared.view.View.{View}
use Rattle.columnar_json.specs.Views.{names_line}
use Rattle.columnar_json.specs.WrittenLaws.{appended_both, appended_plain}
use Rattle.columnar_tool.specs.Lines.{HasNoLine, Prints, StopsBetween, line_of, lines_of}
use Rattle.columnar_tool.specs.declared.cat.Stop.{Stop}
use Rattle.columnar_tool.specs.declared.cat.Stop.TheVariants.{Failed, Refused, Beyond, Row as RowStop}

lines_more : (v : View) (s : Schema) (rs : List Row) (l i : ℕ) → l ≤ i → i < length rs → lines_of v s (take (suc (i - l)) (drop l rs)) ≡ lines_of v s (take (i - l) (drop l rs)) ++ line_of v s (row_at rs i)
lines_more v s rs l i o h = ap (lines_of v s) (take_more rs l (i - l) i (omega arith) h) ∙ flat_more (line_of v s) (take (i - l) (drop l rs)) (row_at rs i)

-- nothing was printed
pub prints_none : (old : Option (List ℕ)) → Prints old old []
prints_none old = ([], (appends_none old, refl))

-- before the first row
pub none_printed : (v : View) (s : Schema) (rs : List Row) (l : ℕ) (old : Option (List ℕ)) → Prints old old (lines_of v s (slice_range rs l l))
none_printed v s rs l old = let m : l - l ≡ 0 = omega arith in rw m (prints_none old)

pub prints_both : (old mid new : Option (List ℕ)) (ps qs : List Piece) → Prints old mid ps → Prints mid new qs → Prints old new (ps ++ qs)
prints_both old mid new ps qs h k =
    let a = appended_both [] h.0 (h.0 ++ k.0) ps qs (h.0, (refl, h.1.1)) (k.0, (refl, k.1.1)) in
    (a.0, (rw (a.1.0) at (appends_both old mid new h.0 k.0 h.1.0 k.1.0), a.1.1))

-- a row of a range has no line after the lines of those before it
pub stops_between : (v : View) (s : Schema) (rs : List Row) (l to i : ℕ) (old new : Option (List ℕ)) (stop : Stop) → l ≤ i → i < to → Prints old new (lines_of v s (slice_range rs l i)) → HasNoLine v s rs i stop → StopsBetween v s rs l to old new stop
stops_between v s rs l to i old new (Failed why) o t p h = tt
stops_between v s rs l to i old new (Refused fault) o t p h = h
stops_between v s rs l to i old new (Beyond count) o t p h = h
stops_between v s rs l to i old new (RowStop j why) o t p h = rw (h.0) (o, t, p, h.1)

-- the end of a line
pub line_done : (old mid new : List ℕ) (ps : List Piece) → Appended old mid ps → new ≡ mid ++ (10 ∷ []) → Appended old new (ps ++ plain (codes "\n"))
line_done old mid new ps h e = appended_both old mid new ps (plain (codes "\n")) h (appended_plain mid new (10 ∷ []) e)

-- a turn of the loop
pub row_printed : (v : View) (s : Schema) (rs : List Row) (l i : ℕ) (old mid new : Option (List ℕ)) (line : List ℕ) → l ≤ i → i < length rs → Prints old mid (lines_of v s (slice_range rs l i)) → Appended [] line (line_of v s (row_at rs i)) → Appends mid new line → Prints old new (lines_of v s (slice_range rs l (i + 1)))
row_printed v s rs l i old mid new line o h p e q =
    let m : (i + 1) - l ≡ suc (i - l) = omega arith in
    let k : Prints mid new (line_of v s (row_at rs i)) = (e.0, (rw (e.1.0) at q, e.1.1)) in
    rw (m, lines_more v s rs l i o h) (prints_both old mid new (lines_of v s (take (i - l) (drop l rs))) (line_of v s (row_at rs i)) p k)

-- ---- the line before the rows

-- nothing was appended
pub appended_none : (old : List ℕ) → Appended old old []
appended_none old = ([], (sym (append-nil old), refl))

pub no_names : {X : Type 0} (xs : List X) (f : X → List ℕ) → length xs ≡ 0 → names_line (map f xs) ≡ []
no_names [] f e = refl
no_names (x ∷ xs) f e = absurd (omega (arith, e))

pub some_names : {X : Type 0} (xs : List X) (f : X → List ℕ) → (length xs ≡ 0 → ⊥) → names_line (map f xs) ≡ head_of (map f xs) ++ plain (codes "\n")
some_names [] f h = absurd (h refl)
some_names (x ∷ xs) f h = refl

pub not_empty : (n : ℕ) (b : Bool) → b ≡ (n == 0) → b ≡ false → n ≡ 0 → ⊥
not_empty n b e h z =
    let y : true ≡ false = sym (eq-eqb n 0 z) ∙ (sym e ∙ h) in
    let never : ⊥ = cc in
    never

-- the line was printed
pub head_printed : (old new : Option (List ℕ)) (line : List ℕ) (ps : List Piece) → Appended [] line ps → Appends old new line → Prints old new ps
head_printed old new line ps h p = (h.0, (rw (h.1.0) at p, h.1.1))
