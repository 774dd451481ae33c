-- Composition of the tokens of types.
use Rattle.std.proofs.Common.{◌≡◌, ℕ, ◌≤◌, Bool, true, false, List, [], ◌∷◌, ◌++◌, length, drop, refl, sym, ◌∙◌, ap, subst, append_assoc, arith, suc, ◌-◌, ◌<◌, take}
use Rattle.std.specs.Prelude.{◌&&◌, codes, get_or, Vec}
use Rattle.std.specs.Global.{Global}
use Rattle.std.specs.Char.{is_ascii_digit}
use Rattle.std.specs.List.{list_all}
use Rattle.std.proofs.lemmas.List.{drop_more}
use Rattle.columnar_syntax.specs.Declarations.{declared_in}
use Rattle.columnar_syntax.specs.declared.schema.Bounds.{Bounds}
use Rattle.columnar_syntax.specs.declared.schema.Bounds.TheVariants.{Words}
use Rattle.columnar_syntax.specs.declared.schema.Leaf.{Leaf}
use Rattle.columnar_syntax.specs.declared.schema.Leaf.TheVariants.{Text, Unit}
use Rattle.columnar_syntax.specs.declared.schema.Schema.{Schema, Simple, Optional', Fallible', Lists', Solo', Tuple', Beside', Field', Repeated'}
use Rattle.columnar_syntax.specs.declared.schema.Brackets.{Brackets}
use Rattle.columnar_syntax.specs.declared.schema.Brackets.TheVariants.{Square, Curly, Bare}
use Rattle.columnar_syntax.specs.Distinct.{AreApart}
use Rattle.columnar_syntax.specs.Gathered.{IsGathered, is_beside, of_one, of_several}
use Rattle.columnar_syntax.specs.Names.{NamesIn, Part, GoesOn, Reads, a_type, other_types, struct_body, a_field, all_fields, is_name, last_comma, structure, nothing, places, object, labelled, last_field, more_fields, leaf, last, boxed, optional, listed, numbered, fallible, solo, tuple, more, repeated, inside, leaf_name, starts_name, with_comma, IsUnknown, Scope, declared}
use Rattle.columnar_syntax.specs.ReadingLaws.{no}
use Rattle.columnar_syntax.specs.Tokens.{is_word_byte, marks, tokens}

-- a word that names a type without parts
pub leaf_goes_on : (scope : Scope) (l : Leaf) (word text : List ℕ) (at : ℕ) → word ≡ leaf_name l → tokens (leaf_name l) ≡ leaf_name l ∷ [] → at ≤ length text → GoesOn scope a_type (word ∷ []) text at (Simple l) at
leaf_goes_on scope l word text at e k h = record {
  words = [];
  names = subst (λ (z : List (List ℕ)). NamesIn scope a_type z (Simple l)) (k ∙ ap (λ z. z ∷ []) (sym e)) (leaf l);
  stands = refl;
  within = h;
}

-- a word that stands for the type of its declaration
pub declared_goes_on : (scope : Scope) (word text : List ℕ) (at from to : ℕ) (s : Schema) → is_name word ≡ true → IsUnknown word → tokens (drop from text) ≡ declared_in word scope.source → Reads scope a_type text from s to → at ≤ length text → GoesOn scope a_type (word ∷ []) text at s at
declared_goes_on scope word text at from to s h u e r l = record {
  words = [];
  names = declared (tokens (drop to text)) h u (sym e ∙ r.stands) r.names;
  stands = refl;
  within = l;
}

-- `()`
pub unit_goes_on : (scope : Scope) (text : List ℕ) (at n : ℕ) → tokens (drop at text) ≡ (41 ∷ []) ∷ tokens (drop n text) → n ≤ length text → GoesOn scope a_type (marks (codes "(")) text at (Simple Unit) n
unit_goes_on scope text at n e h = record {
  words = (41 ∷ []) ∷ [];
  names = leaf Unit;
  stands = e;
  within = h;
}

-- two parts, the token between them, and the tokens after them
pub two_stand : (t u : List (List ℕ)) (x : List ℕ) (a b c d : List (List ℕ)) → a ≡ t ++ b → b ≡ x ∷ c → c ≡ u ++ d → a ≡ (t ++ (x ∷ u)) ++ d
two_stand t u x a b c d e f g = rw (e, f, g) (sym (append_assoc t (x ∷ u) d))

-- the last field of a tuple
pub last_reads : (scope : Scope) (text : List ℕ) (at : ℕ) (s : Schema) (n : ℕ) → Reads scope a_type text at s n → Reads scope other_types text at s n
last_reads scope text at s n r = record {
  words = r.words;
  names = last r.names;
  stands = r.stands;
  within = r.within;
}

-- a field, and those after it
pub fields_read : (scope : Scope) (text : List ℕ) (at n m k : ℕ) (a b s : Schema) → Reads scope a_type text at a n → tokens (drop n text) ≡ (44 ∷ []) ∷ tokens (drop m text) → Reads scope other_types text m b k → ((z : Scope) (t u : List (List ℕ)) → NamesIn z a_type t a → NamesIn z other_types u b → NamesIn z other_types (with_comma t u) s) → Reads scope other_types text at s k
fields_read scope text at n m k a b s p e q f = record {
  words = with_comma p.words q.words;
  names = f scope p.words q.words p.names q.names;
  stands = two_stand p.words q.words (44 ∷ []) (tokens (drop at text)) (tokens (drop n text)) (tokens (drop m text)) (tokens (drop k text)) p.stands e q.stands;
  within = q.within;
}

-- the fields of a tuple after its `(`
pub tuple_goes_on : (scope : Scope) (text : List ℕ) (at n m k o : ℕ) (a b s : Schema) → Reads scope a_type text at a n → tokens (drop n text) ≡ (44 ∷ []) ∷ tokens (drop m text) → Reads scope other_types text m b k → tokens (drop k text) ≡ (41 ∷ []) ∷ tokens (drop o text) → o ≤ length text → ((z : Scope) (t u : List (List ℕ)) → NamesIn z a_type t a → NamesIn z other_types u b → NamesIn z a_type (marks (codes "(") ++ (with_comma t u ++ marks (codes ")"))) s) → GoesOn scope a_type (marks (codes "(")) text at s o
tuple_goes_on scope text at n m k o a b s p e q g h f =
    let w : tokens (drop at text) ≡ with_comma p.words q.words ++ tokens (drop k text) = two_stand p.words q.words (44 ∷ []) (tokens (drop at text)) (tokens (drop n text)) (tokens (drop m text)) (tokens (drop k text)) p.stands e q.stands in
    record {
      words = with_comma p.words q.words ++ marks (codes ")");
      names = f scope p.words q.words p.names q.names;
      stands = w ∙ (ap (λ z. with_comma p.words q.words ++ z) g ∙ sym (append_assoc (with_comma p.words q.words) (marks (codes ")")) (tokens (drop o text))));
      within = h;
    }

-- the one field of a tuple after its `(`
pub solo_goes_on : (scope : Scope) (text : List ℕ) (at n m k : ℕ) (a s : Schema) → Reads scope a_type text at a n → tokens (drop n text) ≡ (44 ∷ []) ∷ tokens (drop m text) → tokens (drop m text) ≡ (41 ∷ []) ∷ tokens (drop k text) → k ≤ length text → ((z : Scope) (t : List (List ℕ)) → NamesIn z a_type t a → NamesIn z a_type (marks (codes "(") ++ (t ++ marks (codes ",)"))) s) → GoesOn scope a_type (marks (codes "(")) text at s k
solo_goes_on scope text at n m k a s p e g h f = record {
  words = p.words ++ marks (codes ",)");
  names = f scope p.words p.names;
  stands = p.stands ∙ (ap (λ z. p.words ++ z) (e ∙ ap (λ z. (44 ∷ []) ∷ z) g) ∙ sym (append_assoc p.words (marks (codes ",)")) (tokens (drop k text))));
  within = h;
}

-- the part of a type of one part after its name
pub part_goes_on : (scope : Scope) (name text : List ℕ) (at n m k : ℕ) (a s : Schema) → tokens (drop at text) ≡ (60 ∷ []) ∷ tokens (drop n text) → Reads scope a_type text n a m → tokens (drop m text) ≡ (62 ∷ []) ∷ tokens (drop k text) → k ≤ length text → ((t : List (List ℕ)) → NamesIn scope a_type t a → NamesIn scope a_type (inside name t) s) → GoesOn scope a_type (name ∷ []) text at s k
part_goes_on scope name text at n m k a s e p g h f = record {
  words = marks (codes "<") ++ (p.words ++ marks (codes ">"));
  names = f p.words p.names;
  stands = e ∙ ap (λ z. (60 ∷ []) ∷ z) (p.stands ∙ (ap (λ z. p.words ++ z) g ∙ sym (append_assoc p.words (marks (codes ">")) (tokens (drop k text)))));
  within = h;
}

-- the bounds of texts after `Strings`
pub texts_go_on : (text word : List ℕ) (at n i k : ℕ) (b : Bounds) → tokens (drop at text) ≡ (60 ∷ []) ∷ tokens (drop n text) → tokens (drop n text) ≡ word ∷ tokens (drop i text) → tokens (drop i text) ≡ (62 ∷ []) ∷ tokens (drop k text) → k ≤ length text → inside (codes "Strings") (word ∷ []) ≡ tokens (leaf_name (Text b)) → (scope : Scope) → GoesOn scope a_type (codes "Strings" ∷ []) text at (Simple (Text b)) k
texts_go_on text word at n i k b d f g h named scope = record {
  words = marks (codes "<") ++ (word ∷ marks (codes ">"));
  names = rw named (leaf (Text b));
  stands = d ∙ ap (λ z. (60 ∷ []) ∷ z) (f ∙ ap (λ z. word ∷ z) g);
  within = h;
}

-- the parts of a result after its name
pub result_goes_on : (scope : Scope) (text : List ℕ) (at n m k o i : ℕ) (a b s : Schema) → tokens (drop at text) ≡ (60 ∷ []) ∷ tokens (drop n text) → Reads scope a_type text n a m → tokens (drop m text) ≡ (44 ∷ []) ∷ tokens (drop k text) → Reads scope a_type text k b o → tokens (drop o text) ≡ (62 ∷ []) ∷ tokens (drop i text) → i ≤ length text → ((z : Scope) (t u : List (List ℕ)) → NamesIn z a_type t a → NamesIn z a_type u b → NamesIn z a_type (inside (codes "Result") (with_comma t u)) s) → GoesOn scope a_type (codes "Result" ∷ []) text at s i
result_goes_on scope text at n m k o i a b s d p e q g h f =
    let w : tokens (drop n text) ≡ with_comma p.words q.words ++ tokens (drop o text) = two_stand p.words q.words (44 ∷ []) (tokens (drop n text)) (tokens (drop m text)) (tokens (drop k text)) (tokens (drop o text)) p.stands e q.stands in
    record {
      words = marks (codes "<") ++ (with_comma p.words q.words ++ marks (codes ">"));
      names = f scope p.words q.words p.names q.names;
      stands = d ∙ ap (λ z. (60 ∷ []) ∷ z) (w ∙ (ap (λ z. with_comma p.words q.words ++ z) g ∙ sym (append_assoc (with_comma p.words q.words) (marks (codes ">")) (tokens (drop i text)))));
      within = h;
    }

-- ---- the parts in boxes have their names

pub optional_named : (scope : Scope) (a b : Schema) {p : _} → b ≡ a → (t : List (List ℕ)) → NamesIn scope a_type t a → NamesIn scope a_type (inside (codes "Option") t) (Optional' p b)
optional_named scope a b e t n = rw e (optional n)

pub listed_named : (scope : Scope) (a b : Schema) {p : _} → b ≡ a → (t : List (List ℕ)) → NamesIn scope a_type t a → NamesIn scope a_type (inside (codes "Vec") t) (Lists' scope.bounds p b)
listed_named scope a b e t n = rw e (listed n)

pub numbered_named : (scope : Scope) (a b : Schema) {p : _} → b ≡ a → (t : List (List ℕ)) → NamesIn scope a_type t a → NamesIn scope a_type (inside (codes "SmallVec") t) (Lists' Words p b)
numbered_named scope a b e t n = rw e (numbered n)

pub fallible_named : (a b c d : Schema) {p q : _} → b ≡ a → d ≡ c → (scope : Scope) (t u : List (List ℕ)) → NamesIn scope a_type t a → NamesIn scope a_type u c → NamesIn scope a_type (inside (codes "Result") (with_comma t u)) (Fallible' p b q d)
fallible_named a b c d e f scope t u n m = rw (e, f) (fallible n m)

pub solo_named : (a b : Schema) {p : _} → b ≡ a → (scope : Scope) (t : List (List ℕ)) → NamesIn scope a_type t a → NamesIn scope a_type (marks (codes "(") ++ (t ++ marks (codes ",)"))) (Solo' Square p b)
solo_named a b e scope t n = rw e (solo n)

pub tuple_named : (a b c d : Schema) {p q : _} → b ≡ a → d ≡ c → (scope : Scope) (t u : List (List ℕ)) → NamesIn scope a_type t a → NamesIn scope other_types u c → NamesIn scope a_type (marks (codes "(") ++ (with_comma t u ++ marks (codes ")"))) (Tuple' Square p b q d)
tuple_named a b c d e f scope t u n m = rw (e, f) (tuple n m)

pub beside_named : (a b c d : Schema) {p q : _} → b ≡ a → d ≡ c → (scope : Scope) (t u : List (List ℕ)) → NamesIn scope a_type t a → NamesIn scope other_types u c → NamesIn scope other_types (with_comma t u) (Beside' p b q d)
beside_named a b c d e f scope t u n m = rw (e, f) (more n m)

pub repeated_named : (scope : Scope) (a b : Schema) {p : _} → b ≡ a → (t : List (List ℕ)) → NamesIn scope a_type t a → NamesIn scope a_type (inside (codes "Repeats") t) (Repeated' p b)
repeated_named scope a b e t n = rw e (repeated n)

pub boxed_named : (scope : Scope) (a : Schema) (t : List (List ℕ)) → NamesIn scope a_type t a → NamesIn scope a_type (inside (codes "Box") t) a
boxed_named scope a t n = boxed n

-- ---- structs

-- what continues a first mark
pub begun_read : (scope : Scope) (part : Part) (k : ℕ) (text : List ℕ) (at n : ℕ) (s : Schema) (m : ℕ) → tokens (drop at text) ≡ (k ∷ []) ∷ tokens (drop n text) → GoesOn scope part ((k ∷ []) ∷ []) text n s m → Reads scope part text at s m
begun_read scope part k text at n s m e g = record {
  words = (k ∷ []) ∷ g.words;
  names = g.names;
  stands = e ∙ ap (λ z. (k ∷ []) ∷ z) g.stands;
  within = g.within;
}

-- no field
pub nothing_read : (scope : Scope) (text : List ℕ) (at n : ℕ) → tokens (drop at text) ≡ (59 ∷ []) ∷ tokens (drop n text) → n ≤ length text → Reads scope struct_body text at (Simple Unit) n
nothing_read scope text at n e h = record {
  words = (59 ∷ []) ∷ [];
  names = nothing;
  stands = e;
  within = h;
}

-- the name of a struct, and what follows it
pub struct_goes_on : (scope : Scope) (text name : List ℕ) (at n m : ℕ) (s : Schema) → is_name name ≡ true → tokens (drop at text) ≡ name ∷ tokens (drop n text) → Reads scope struct_body text n s m → GoesOn scope a_type (codes "struct" ∷ []) text at s m
struct_goes_on scope text name at n m s h e r = record {
  words = name ∷ r.words;
  names = structure name h r.names;
  stands = e ∙ ap (λ z. name ∷ z) r.stands;
  within = r.within;
}

-- a field with its name
pub field_read : (scope : Scope) (text name : List ℕ) (at n m k : ℕ) (a s : Schema) → is_name name ≡ true → tokens (drop at text) ≡ name ∷ tokens (drop n text) → tokens (drop n text) ≡ (58 ∷ []) ∷ tokens (drop m text) → Reads scope a_type text m a k → ((z : Scope) (t : List (List ℕ)) → is_name name ≡ true → NamesIn z a_type t a → NamesIn z a_field (name ∷ (marks (codes ":") ++ t)) s) → Reads scope a_field text at s k
field_read scope text name at n m k a s h e g r f = record {
  words = name ∷ ((58 ∷ []) ∷ r.words);
  names = f scope r.words h r.names;
  stands = e ∙ ap (λ z. name ∷ z) (g ∙ ap (λ z. (58 ∷ []) ∷ z) r.stands);
  within = r.within;
}

pub labelled_named : (a b : Schema) (name : List ℕ) {v : Vec ℕ Global} {p : _} → v.items ≡ name → b ≡ a → (z : Scope) (t : List (List ℕ)) → is_name name ≡ true → NamesIn z a_type t a → NamesIn z a_field (name ∷ (marks (codes ":") ++ t)) (Field' v p b)
labelled_named a b name {v} {p} e k l t h n = subst (λ (z : List ℕ). NamesIn l a_field (z ∷ (marks (codes ":") ++ t)) (Field' v p b)) e (labelled {v = v} (rw e h) (rw k n))

-- the last field, or one and those after it
pub last_field_reads : (scope : Scope) (text : List ℕ) (at : ℕ) (s : Schema) (n : ℕ) → Reads scope a_field text at s n → Reads scope all_fields text at s n
last_field_reads scope text at s n r = record {
  words = r.words;
  names = last_field r.names;
  stands = r.stands;
  within = r.within;
}

pub more_fields_read : (scope : Scope) (text : List ℕ) (at n m k : ℕ) (a b s : Schema) → Reads scope a_field text at a n → tokens (drop n text) ≡ (44 ∷ []) ∷ tokens (drop m text) → Reads scope all_fields text m b k → AreApart a b → ((z : Scope) (t u : List (List ℕ)) → NamesIn z a_field t a → NamesIn z all_fields u b → AreApart a b → NamesIn z all_fields (with_comma t u) s) → Reads scope all_fields text at s k
more_fields_read scope text at n m k a b s p e q d f = record {
  words = with_comma p.words q.words;
  names = f scope p.words q.words p.names q.names d;
  stands = two_stand p.words q.words (44 ∷ []) (tokens (drop at text)) (tokens (drop n text)) (tokens (drop m text)) (tokens (drop k text)) p.stands e q.stands;
  within = q.within;
}

pub fields_named : (a b c d : Schema) {p q : _} → b ≡ a → d ≡ c → (scope : Scope) (t u : List (List ℕ)) → NamesIn scope a_field t a → NamesIn scope all_fields u c → AreApart a c → NamesIn scope all_fields (with_comma t u) (Beside' p b q d)
fields_named a b c d e f scope t u n m g = rw (e, f) (more_fields n m g)

-- the fields of a struct after its `{`
pub object_goes_on : (scope : Scope) (text : List ℕ) (at n m : ℕ) (a s : Schema) (c : Bool) → Reads scope all_fields text at a n → tokens (drop n text) ≡ last_comma c ++ ((125 ∷ []) ∷ tokens (drop m text)) → m ≤ length text → IsGathered Curly Curly a s → GoesOn scope struct_body (marks (codes "{")) text at s m
object_goes_on scope text at n m a s c r e h g = record {
  words = r.words ++ (last_comma c ++ marks (codes "}"));
  names = object c r.names g;
  stands = r.stands ∙ (ap (λ z. r.words ++ z) (e ∙ sym (append_assoc (last_comma c) (marks (codes "}")) (tokens (drop m text)))) ∙ sym (append_assoc r.words (last_comma c ++ marks (codes "}")) (tokens (drop m text))));
  within = h;
}

-- the fields of a struct without names after its `(`
pub places_go_on : (scope : Scope) (text : List ℕ) (at n m k : ℕ) (a s : Schema) → Reads scope other_types text at a n → tokens (drop n text) ≡ (41 ∷ []) ∷ tokens (drop m text) → tokens (drop m text) ≡ (59 ∷ []) ∷ tokens (drop k text) → k ≤ length text → IsGathered Bare Square a s → GoesOn scope struct_body (marks (codes "(")) text at s k
places_go_on scope text at n m k a s r e f h g = record {
  words = r.words ++ marks (codes ");");
  names = places r.names g;
  stands = r.stands ∙ (ap (λ z. r.words ++ z) (e ∙ ap (λ z. (41 ∷ []) ∷ z) f) ∙ sym (append_assoc r.words (marks (codes ");")) (tokens (drop k text))));
  within = h;
}

-- a name that was scanned
pub name_scanned : (text : List ℕ) (m e d : ℕ) → m < e → e ≤ length text → is_ascii_digit (get_or text m d) ≡ false → list_all is_word_byte (take (e - m) (drop m text)) ≡ true → is_name (take (e - m) (drop m text)) ≡ true
name_scanned text m e d l h k a =
    let x = drop_more text m d (omega (arith, l, h)) in
    let y : e - m ≡ suc (e - m - 1) = omega (arith, l) in
    let s : starts_name (take (e - m) (drop m text)) ≡ true = rw (x, y, k) refl in
    rw (s, a) refl

and_first : (a b : Bool) → (a && b) ≡ true → a ≡ true
and_first true b h = refl
and_first false b h = h

-- a digit begins no name
pub name_refused : (text : List ℕ) (m e d : ℕ) (w : List ℕ) → m < e → e ≤ length text → is_ascii_digit (get_or text m d) ≡ true → take (e - m) (drop m text) ≡ w → is_name w ≡ true → ⊥
name_refused text m e d w l h k f n =
    let x = drop_more text m d (omega (arith, l, h)) in
    let y : e - m ≡ suc (e - m - 1) = omega (arith, l) in
    let s : starts_name (take (e - m) (drop m text)) ≡ false = rw (x, y, k) refl in
    no (sym s ∙ (ap starts_name f ∙ and_first (starts_name w) (list_all is_word_byte w) n))

-- the fields of a struct, as one type
pub gathered_one : (k l : Brackets) (a b : Schema) {p : _} → b ≡ a → is_beside a ≡ false → IsGathered k l a (Solo' k p b)
gathered_one k l a b e h = rw e (of_one h)

pub gathered_several : (k l : Brackets) (all : Schema) {p : _} {a : Schema} {q : _} {r : Schema} → all ≡ Beside' p a q r → IsGathered k l all (Tuple' l p a q r)
gathered_several k l all e = rw e of_several
