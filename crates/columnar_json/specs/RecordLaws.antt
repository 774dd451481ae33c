-- Fields that are written one after the other.
use Rattle.std.proofs.Common.{◌≡◌, ℕ, ◌+◌, ◌*◌, ◌<◌, true, false, List, [], ◌∷◌, ◌++◌, refl, sym, ap, subst, append-nil}
use Rattle.std.specs.Prelude.{Result, Ok, codes, map}
use Rattle.columnar_base.specs.Row.{Row, solo, tuple}
use Rattle.columnar_syntax.specs.Gathered.{is_beside}
use Rattle.columnar_syntax.specs.declared.schema.Schema.{Schema, Simple, Optional', Fallible', Lists', Solo', Tuple', Beside', Field', Array', Repeated', Recalled', Sum', Named, Case'}
use Rattle.columnar_json.specs.Csv.{after_commas, csv_of, field_csv, fields_of, later_fields, shown}
use Rattle.columnar_json.specs.FieldLaws.{commas_more}
use Rattle.columnar_json.specs.Json.{commas, flaws_of}
use Rattle.columnar_json.specs.Pieces.{Piece, plain}
use Rattle.columnar_json.specs.Written.{Wrote, WroteRow}
use Rattle.columnar_json.specs.WrittenLaws.{row_goes_on, wrote_plain}
use Rattle.columnar_json.specs.declared.unwritten.Unwritten.{Unwritten}

-- there is one
later_some : (s : Schema) (r : Row) → (f : Schema × Row) × ((fs : List (Schema × Row)) × (later_fields s r ≡ f ∷ fs))
later_some (Simple l) r = ((Simple l, r), ([], refl))
later_some (Optional' p t) r = ((Optional' p t, r), ([], refl))
later_some (Fallible' p t q u) r = ((Fallible' p t q u, r), ([], refl))
later_some (Lists' b p t) r = ((Lists' b p t, r), ([], refl))
later_some (Solo' k p t) r = ((Solo' k p t, r), ([], refl))
later_some (Tuple' k p a q u) r = ((Tuple' k p a q u, r), ([], refl))
later_some (Beside' p a q u) r = ((a, _), (later_fields u _, refl))
later_some (Field' n p t) r = ((Field' n p t, r), ([], refl))
later_some (Array' n p t) r = ((Array' n p t, r), ([], refl))
later_some (Repeated' p t) r = ((Repeated' p t, r), ([], refl))
later_some (Recalled' p t) r = ((Recalled' p t, r), ([], refl))
later_some (Sum' p t) r = ((Sum' p t, r), ([], refl))
later_some (Named n) r = ((Named n, r), ([], refl))
later_some (Case' n k p t) r = ((Case' n k p t, r), ([], refl))

fields_more : (g : Schema × Row → List Piece) (f : Schema × Row) (u : Schema) (r : Row) → commas (map g (f ∷ later_fields u r)) ≡ g f ++ (plain (codes ",") ++ commas (map g (later_fields u r)))
fields_more g f u r =
    let k = later_some u r in
    rw (k.1.1) (commas_more (g f) (g k.0) (map g k.1.0))

-- two texts and a comma between them
pub comma_between : (old mid next new : List ℕ) (ps qs : List Piece) (fs gs : List Unwritten) (r : Result (Unit {0}) Unwritten) → WroteRow old mid ps fs (Ok tt) → Wrote mid next (codes ",") [] (Ok tt) → WroteRow next new qs gs r → WroteRow old new (ps ++ (plain (codes ",") ++ qs)) (fs ++ gs) r
comma_between old mid next new ps qs fs gs r h k w = row_goes_on old mid new ps (plain (codes ",") ++ qs) fs gs r h (row_goes_on mid next new (plain (codes ",")) qs [] gs r (wrote_plain mid next (codes ",") [] (Ok tt) k) w)

pub one_field : (s : Schema) (row : Row) (old new : List ℕ) (r : Result (Unit {0}) Unwritten) → WroteRow old new (field_csv s row) (flaws_of s row) r → WroteRow old new (commas ((field_csv s row) ∷ [])) (flaws_of s row) r
one_field s row old new r w = rw (append-nil (field_csv s row)) w

pub later_wrote : (s : Schema) {p : _} {a : Schema} {q : _} {u : Schema} (row x y : Row) (old new : List ℕ) (r : Result (Unit {0}) Unwritten) → s ≡ Beside' p a q u → row ≡ tuple x y → WroteRow old new (field_csv a x ++ (plain (codes ",") ++ commas (map (λ f. field_csv f.0 f.1) (later_fields u y)))) (flaws_of a x ++ flaws_of u y) r → WroteRow old new (commas (map (λ f. field_csv f.0 f.1) (later_fields s row))) (flaws_of s row) r
later_wrote s {p} {a} {q} {u} row x y old new r e k w = rw (e, k, fields_more (λ f. field_csv f.0 f.1) (a, x) u y) w

pub fields_wrote : (s : Schema) {b : _} {p : _} {a : Schema} {q : _} {u : Schema} (row x y : Row) (old new : List ℕ) (r : Result (Unit {0}) Unwritten) → s ≡ Tuple' b p a q u → row ≡ tuple x y → WroteRow old new (field_csv a x ++ (plain (codes ",") ++ commas (map (λ f. field_csv f.0 f.1) (later_fields u y)))) (flaws_of a x ++ flaws_of u y) r → WroteRow old new (commas (map (λ f. field_csv f.0 f.1) (fields_of s row))) (flaws_of s row) r
fields_wrote s {b} {p} {a} {q} {u} row x y old new r e k w = rw (e, k, fields_more (λ f. field_csv f.0 f.1) (a, x) u y) w

pub only_wrote : (s : Schema) {b : _} {p : _} {t : Schema} (row x : Row) (old new : List ℕ) (r : Result (Unit {0}) Unwritten) → s ≡ Solo' b p t → row ≡ solo x → WroteRow old new (field_csv t x) (flaws_of t x) r → WroteRow old new (commas (map (λ f. field_csv f.0 f.1) (fields_of s row))) (flaws_of s row) r
only_wrote s {b} {p} {t} row x old new r e k w = rw (e, k) (one_field t x old new r w)

-- ---- several names

pub names_begin : {X : Type 0} (xs rest : List X) (x : X) (f : X → List ℕ) → xs ≡ x ∷ rest → map f xs ≡ f x ∷ map f rest
names_begin xs rest x f e = ap (map f) e

pub none_after : (g : List ℕ → List Piece) (ns : List (List ℕ)) (old new : List ℕ) (r : Result (Unit {0}) Unwritten) → ns ≡ [] → Wrote old new [] [] r → WroteRow old new (after_commas (map g ns)) [] r
none_after g ns old new r e w = rw e (wrote_plain old new [] [] r w)

pub one_after : (g : List ℕ → List Piece) (ns rest : List (List ℕ)) (n : List ℕ) (old mid next new : List ℕ) (fs gs : List Unwritten) (r : Result (Unit {0}) Unwritten) → ns ≡ n ∷ rest → Wrote old mid (codes ",") [] (Ok tt) → WroteRow mid next (g n) fs (Ok tt) → WroteRow next new (after_commas (map g rest)) gs r → WroteRow old new (after_commas (map g ns)) (fs ++ gs) r
one_after g ns rest n old mid next new fs gs r e h k w = rw e (row_goes_on old next new (plain (codes ",") ++ g n) (after_commas (map g rest)) fs gs r (row_goes_on old mid next (plain (codes ",")) (g n) [] fs (Ok tt) (wrote_plain old mid (codes ",") [] (Ok tt) h) k) w)

pub no_first : (g : List ℕ → List Piece) (ns : List (List ℕ)) (old new : List ℕ) (r : Result (Unit {0}) Unwritten) → ns ≡ [] → Wrote old new [] [] r → WroteRow old new (commas (map g ns)) [] r
no_first g ns old new r e w = rw e (wrote_plain old new [] [] r w)

pub one_first : (g : List ℕ → List Piece) (ns rest : List (List ℕ)) (n : List ℕ) (old mid new : List ℕ) (fs gs : List Unwritten) (r : Result (Unit {0}) Unwritten) → ns ≡ n ∷ rest → WroteRow old mid (g n) fs (Ok tt) → WroteRow mid new (after_commas (map g rest)) gs r → WroteRow old new (commas (map g ns)) (fs ++ gs) r
one_first g ns rest n old mid new fs gs r e h w = rw e (row_goes_on old mid new (g n) (after_commas (map g rest)) fs gs r h w)
