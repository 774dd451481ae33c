-- Chosen fields that are written.
use Rattle.std.proofs.Common.{◌≡◌, ℕ, true, false, List, [], ◌∷◌, ◌++◌, refl}
use Rattle.std.specs.Prelude.{Result, Ok, Err, codes, map}
use Rattle.std.specs.List.{flat_map}
use Rattle.columnar_base.specs.Row.{Row, solo, tuple}
use Rattle.columnar_syntax.specs.declared.schema.Schema.{Schema, Solo', Tuple', Beside'}
use Rattle.columnar_json.specs.Csv.{after_commas, fields_of, later_fields}
use Rattle.columnar_json.specs.Json.{commas, flaws_of}
use Rattle.columnar_json.specs.Pieces.{Piece, plain}
use Rattle.columnar_json.specs.RecordLaws.{one_after}
use Rattle.columnar_json.specs.Views.{is_named, of_named}
use Rattle.columnar_json.specs.Written.{Wrote, WroteRow}
use Rattle.columnar_json.specs.WrittenLaws.{row_failed, row_goes_on, wrote_plain}
use Rattle.columnar_json.specs.declared.unwritten.Unwritten.{Unwritten}

-- one field

pub is_it : (f : Schema → Row → List Piece) (n : List ℕ) (s : Schema) (row : Row) (old new : List ℕ) (r : Result (Unit {0}) Unwritten) → is_named n s ≡ true → WroteRow old new (f s row) (flaws_of s row) r → WroteRow old new (of_named f n ((s, row) ∷ [])) (of_named flaws_of n ((s, row) ∷ [])) r
is_it f n s row old new r h w = rw h w

pub is_other : (f : Schema → Row → List Piece) (n : List ℕ) (s : Schema) (row : Row) (old new : List ℕ) (r : Result (Unit {0}) Unwritten) → is_named n s ≡ false → Wrote old new [] [] r → WroteRow old new (of_named f n ((s, row) ∷ [])) (of_named flaws_of n ((s, row) ∷ [])) r
is_other f n s row old new r h w = rw h (wrote_plain old new [] [] r w)

pub only_field : (f : Schema → Row → List Piece) (n : List ℕ) (s : Schema) {b : _} {p : _} {t : Schema} (row x : Row) (old new : List ℕ) (r : Result (Unit {0}) Unwritten) → s ≡ Solo' b p t → row ≡ solo x → WroteRow old new (of_named f n ((t, x) ∷ [])) (of_named flaws_of n ((t, x) ∷ [])) r → WroteRow old new (of_named f n (fields_of s row)) (of_named flaws_of n (fields_of s row)) r
only_field f n s row x old new r e k w = rw (e, k) w

-- the first of several, or a later one

pub first_field : (f : Schema → Row → List Piece) (n : List ℕ) (s : Schema) {b : _} {p : _} {a : Schema} {q : _} {u : Schema} (row x y : Row) (old new : List ℕ) (r : Result (Unit {0}) Unwritten) → s ≡ Tuple' b p a q u → row ≡ tuple x y → is_named n a ≡ true → WroteRow old new (f a x) (flaws_of a x) r → WroteRow old new (of_named f n (fields_of s row)) (of_named flaws_of n (fields_of s row)) r
first_field f n s row x y old new r e k h w = rw (e, k, h) w

pub other_field : (f : Schema → Row → List Piece) (n : List ℕ) (s : Schema) {b : _} {p : _} {a : Schema} {q : _} {u : Schema} (row x y : Row) (old new : List ℕ) (r : Result (Unit {0}) Unwritten) → s ≡ Tuple' b p a q u → row ≡ tuple x y → is_named n a ≡ false → WroteRow old new (of_named f n (later_fields u y)) (of_named flaws_of n (later_fields u y)) r → WroteRow old new (of_named f n (fields_of s row)) (of_named flaws_of n (fields_of s row)) r
other_field f n s row x y old new r e k h w = rw (e, k, h) w

pub this_field : (f : Schema → Row → List Piece) (n : List ℕ) (s : Schema) {p : _} {a : Schema} {q : _} {u : Schema} (row x y : Row) (old new : List ℕ) (r : Result (Unit {0}) Unwritten) → s ≡ Beside' p a q u → row ≡ tuple x y → is_named n a ≡ true → WroteRow old new (f a x) (flaws_of a x) r → WroteRow old new (of_named f n (later_fields s row)) (of_named flaws_of n (later_fields s row)) r
this_field f n s row x y old new r e k h w = rw (e, k, h) w

pub later_field : (f : Schema → Row → List Piece) (n : List ℕ) (s : Schema) {p : _} {a : Schema} {q : _} {u : Schema} (row x y : Row) (old new : List ℕ) (r : Result (Unit {0}) Unwritten) → s ≡ Beside' p a q u → row ≡ tuple x y → is_named n a ≡ false → WroteRow old new (of_named f n (later_fields u y)) (of_named flaws_of n (later_fields u y)) r → WroteRow old new (of_named f n (later_fields s row)) (of_named flaws_of n (later_fields s row)) r
later_field f n s row x y old new r e k h w = rw (e, k, h) w

-- several names

pub none_chosen : (g : List ℕ → List Piece) (h : List ℕ → List Unwritten) (ns : List (List ℕ)) (old new : List ℕ) (r : Result (Unit {0}) Unwritten) → ns ≡ [] → Wrote old new [] [] r → WroteRow old new (after_commas (map g ns)) (flat_map h ns) r
none_chosen g h ns old new r e w = rw e (wrote_plain old new [] [] r w)

pub chosen_after : (g : List ℕ → List Piece) (h : List ℕ → List Unwritten) (ns rest : List (List ℕ)) (n : List ℕ) (old mid next new : List ℕ) (r : Result (Unit {0}) Unwritten) → ns ≡ n ∷ rest → Wrote old mid (codes ",") [] (Ok tt) → WroteRow mid next (g n) (h n) (Ok tt) → WroteRow next new (after_commas (map g rest)) (flat_map h rest) r → WroteRow old new (after_commas (map g ns)) (flat_map h ns) r
chosen_after g h ns rest n old mid next new r e a b w = rw e (one_after g (n ∷ rest) rest n old mid next new (h n) (flat_map h rest) r refl a b w)

pub after_failed : (g : List ℕ → List Piece) (h : List ℕ → List Unwritten) (ns rest : List (List ℕ)) (n : List ℕ) (old mid new : List ℕ) (x : Unwritten) → ns ≡ n ∷ rest → Wrote old mid (codes ",") [] (Ok tt) → WroteRow mid new (g n) (h n) (Err x) → WroteRow old new (after_commas (map g ns)) (flat_map h ns) (Err x)
after_failed g h ns rest n old mid new x e a w = rw e (row_failed old new (plain (codes ",") ++ g n) (after_commas (map g (n ∷ rest))) (h n) (flat_map h rest) x (row_goes_on old mid new (plain (codes ",")) (g n) [] (h n) (Err x) (wrote_plain old mid (codes ",") [] (Ok tt) a) w))

pub none_first : (g : List ℕ → List Piece) (h : List ℕ → List Unwritten) (ns : List (List ℕ)) (old new : List ℕ) (r : Result (Unit {0}) Unwritten) → ns ≡ [] → Wrote old new [] [] r → WroteRow old new (commas (map g ns)) (flat_map h ns) r
none_first g h ns old new r e w = rw e (wrote_plain old new [] [] r w)

pub chosen_first : (g : List ℕ → List Piece) (h : List ℕ → List Unwritten) (ns rest : List (List ℕ)) (n : List ℕ) (old mid new : List ℕ) (r : Result (Unit {0}) Unwritten) → ns ≡ n ∷ rest → WroteRow old mid (g n) (h n) (Ok tt) → WroteRow mid new (after_commas (map g rest)) (flat_map h rest) r → WroteRow old new (commas (map g ns)) (flat_map h ns) r
chosen_first g h ns rest n old mid new r e b w = rw e (row_goes_on old mid new (g n) (after_commas (map g rest)) (h n) (flat_map h rest) r b w)

pub first_failed : (g : List ℕ → List Piece) (h : List ℕ → List Unwritten) (ns rest : List (List ℕ)) (n : List ℕ) (old new : List ℕ) (x : Unwritten) → ns ≡ n ∷ rest → WroteRow old new (g n) (h n) (Err x) → WroteRow old new (commas (map g ns)) (flat_map h ns) (Err x)
first_failed g h ns rest n old new x e w = rw e (row_failed old new (g n) (commas (map g (n ∷ rest))) (h n) (flat_map h rest) x w)
