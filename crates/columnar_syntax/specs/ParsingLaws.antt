-- What the parser reads, by cases of the type.
use Rattle.std.proofs.Common.{◌≡◌, ◌≢◌, ◌⊎◌, inl, inr, ℕ, ◌-◌, ◌≤◌, Bool, true, false, List, [], ◌∷◌, ◌++◌, drop, refl, sym, ◌∙◌, ap, subst, arith, append_assoc, Result, Ok, Err}
use Rattle.std.specs.Prelude.{codes, cond, get_or, nat_eq, bytes_eq}
use Rattle.std.specs.List.{list_any}
use Rattle.std.proofs.lemmas.List.Folds.{list_any_none}
use Rattle.std.proofs.lemmas.Slice.Eq.{bytes_eq-Decides}
use Rattle.columnar_syntax.specs.Declarations.{declared_in}
use Rattle.columnar_syntax.specs.Distinct.{AreApart, Holds}
use Rattle.columnar_syntax.specs.Names.{NamesIn, Part, a_type, other_types, struct_body, a_field, all_fields, a_case, all_cases, structure, nothing, places, object, labelled, last_field, more_fields, leaf, last, boxed, optional, listed, numbered, fallible, solo, tuple, more, array, repeated, recalled, sum, last_case, more_cases, named, valued, bare_value, named_value, declared, IsLimit, IsUnknown, head_name, is_name, last_comma, leaf_name, with_comma, Scope}
use Rattle.columnar_syntax.specs.Reading.{EndsCase, NamesNone, NestsWithin, Reaches, ReachesAs, ReachesName, ReadsArray, ReadsBareValue, ReadsDeclared, ReadsEnum, ReadsNamedValue, ReadsObject, ReadsPart, ReadsParts, ReadsPlaces, ReadsRecalled, ReadsSolo, ReadsStruct, ReadsTexts, ReadsTuple, ReadsUnit, first_is, first_token, parts_of, other_leaves, signed_leaves, unsigned_leaves}
use Rattle.columnar_syntax.specs.ReadingLaws.{apart_bytes, name_begins, no}
use Rattle.columnar_syntax.specs.Tokens.{begins_word, is_word_byte, marks, tokens}
use Rattle.columnar_syntax.specs.declared.schema.Bounds.TheVariants.{Words, Strides, Unaries}
use Rattle.columnar_syntax.specs.declared.schema.Leaf.{Leaf}
use Rattle.columnar_syntax.specs.declared.schema.Leaf.TheVariants.{U8, U16, U32, U64, U128, Usize, I8, I16, I32, I64, I128, Isize, F32, F64, Bool as BoolLeaf, Char, Unit, Duration, Text}
use Rattle.columnar_syntax.specs.declared.schema.Schema.{Schema}
use Rattle.columnar_syntax.specs.declared.text.Head.{Head}
use Rattle.columnar_syntax.specs.declared.text.Head.TheVariants.{Boxed, Optional, Vector, Small, Repeats}
use Rattle.columnar_syntax.specs.declared.text.Refused.{Refused}

-- ---- the first token

-- tokens begin with a name, `(` or `[`
pub record Begins (t : List (List ℕ)) : Type 0 where
  pub first : List ℕ
  pub later : List (List ℕ)
  pub is : t ≡ first ∷ later
  pub kind : (first ≡ 40 ∷ []) ⊎ ((first ≡ 91 ∷ []) ⊎ (is_name first ≡ true))
  pub opens : first_is 41 (first ∷ []) ≡ false

begins_with : (w : List ℕ) (x : List (List ℕ)) → is_name w ≡ true → first_is 41 (w ∷ []) ≡ false → Begins (w ∷ x)
begins_with w x h o = record { first = w; later = x; is = refl; kind = inr (inr h); opens = o }

-- a name begins with no mark
name_no_mark : (w : List ℕ) (k : ℕ) (x : List (List ℕ)) → is_name w ≡ true → is_word_byte k ≡ false → first_is k (w ∷ x) ≡ false
name_no_mark [] k x h g = no h
name_no_mark (n ∷ ns) k x h g = apart_bytes n k (name_begins (n ∷ ns) h) g

begins_open : (x : List (List ℕ)) → Begins ((40 ∷ []) ∷ x)
begins_open x = record { first = 40 ∷ []; later = x; is = refl; kind = inl refl; opens = refl }

begins_square : (x : List (List ℕ)) → Begins ((91 ∷ []) ∷ x)
begins_square x = record { first = 91 ∷ []; later = x; is = refl; kind = inr (inl refl); opens = refl }

leaf_begins : (l : Leaf) → Begins (tokens (leaf_name l))
leaf_begins Unit = begins_open _
leaf_begins (Text Words) = begins_with _ _ refl refl
leaf_begins (Text Strides) = begins_with _ _ refl refl
leaf_begins (Text Unaries) = begins_with _ _ refl refl
leaf_begins l = begins_with _ _ refl refl

pub begins : {scope : Scope} {t : List (List ℕ)} {s : Schema} → NamesIn scope a_type t s → Begins t
begins (leaf l) = leaf_begins l
begins (boxed n) = begins_with _ _ refl refl
begins (optional n) = begins_with _ _ refl refl
begins (listed n) = begins_with _ _ refl refl
begins (numbered n) = begins_with _ _ refl refl
begins (fallible n m) = begins_with _ _ refl refl
begins (solo n) = begins_open _
begins (tuple n m) = begins_open _
begins (structure k h n) = begins_with _ _ refl refl
begins (array d w n) = begins_square _
begins (repeated n) = begins_with _ _ refl refl
begins (recalled w l n) = begins_with _ _ refl refl
begins (sum k c h n) = begins_with _ _ refl refl
begins (declared {w} after h u e n) = begins_with w [] h (name_no_mark w 41 [] h refl)

-- a type has a token
pub some_token : {X : Type 0} {scope : Scope} {t : List (List ℕ)} {s : Schema} → NamesIn scope a_type t s → (after : List (List ℕ)) → [] ≡ t ++ after → X
some_token n after e =
    let b = begins n in
    let some : [] ≡ b.first ∷ (b.later ++ after) = e ∙ ap (λ z. z ++ after) b.is in
    let never : ⊥ = cc in
    absurd never

pub rest_begins : {scope : Scope} {u : List (List ℕ)} {r : Schema} → NamesIn scope other_types u r → Begins u
rest_begins (last n) = begins n
rest_begins (more {t} {u} n m) =
    let b = begins n in
    record { first = b.first; later = b.later ++ ((44 ∷ []) ∷ u); is = ap (λ z. z ++ ((44 ∷ []) ∷ u)) b.is; kind = b.kind; opens = b.opens }

first_no : (w : List ℕ) (x : List (List ℕ)) → first_is 41 (w ∷ []) ≡ false → first_is 41 (w ∷ x) ≡ false
first_no [] x h = refl
first_no (n ∷ ns) x h = h

-- such tokens do not begin with `)`
pub not_closed : {X : Type 0} {t : List (List ℕ)} (b : Begins t) (from x y : List (List ℕ)) → from ≡ t ++ x → from ≡ (41 ∷ []) ∷ y → X
not_closed b from x y e f = no (sym (first_no b.first (b.later ++ x) b.opens) ∙ ap (first_is 41) (sym (ap (λ z. z ++ x) b.is) ∙ (sym e ∙ f)))

first_of : (w : List ℕ) (x from : List (List ℕ)) (k : ℕ) → from ≡ w ∷ x → w ≡ k ∷ [] → nat_eq k k ≡ true → first_is k from ≡ true
first_of w x from k e f h = ap (first_is k) (e ∙ ap (λ z. z ∷ x) f) ∙ h

no_kind : {X : Type 0} (first : List ℕ) (later from : List (List ℕ)) → (first ≡ 40 ∷ []) ⊎ ((first ≡ 91 ∷ []) ⊎ (is_name first ≡ true)) → from ≡ first ∷ later → first_is 40 from ≡ false → first_is 91 from ≡ false → ((w : List ℕ) (x : List (List ℕ)) → from ≡ w ∷ x → is_name w ≡ true → ⊥) → X
no_kind first later from (inl k) e f g h = no (sym f ∙ first_of first later from 40 e k refl)
no_kind first later from (inr (inl k)) e f g h = no (sym g ∙ first_of first later from 91 e k refl)
no_kind first later from (inr (inr k)) e f g h = absurd (h first later e k)

-- one of the three follows
pub no_word : {X : Type 0} {t : List (List ℕ)} (b : Begins t) (from rest : List (List ℕ)) → from ≡ t ++ rest → first_is 40 from ≡ false → first_is 91 from ≡ false → ((w : List ℕ) (x : List (List ℕ)) → from ≡ w ∷ x → is_name w ≡ true → ⊥) → X
no_word b from rest e f g h = no_kind b.first (b.later ++ rest) from b.kind (e ∙ ap (λ z. z ++ rest) b.is) f g h

-- ---- tuples

unit_read : (l : Leaf) (rest : List (List ℕ)) (text : List ℕ) (next : ℕ) (r : Result (Schema × ℕ) Refused) → tokens (leaf_name l) ++ rest ≡ (40 ∷ []) ∷ tokens (drop next text) → ReadsUnit text (tokens (drop next text)) r → Reaches r text rest
unit_read Unit rest text next r e h = h rest (ap (drop 1) (sym e))
unit_read (Text Words) rest text next r e h = no (ap (first_is 40) e)
unit_read (Text Strides) rest text next r e h = no (ap (first_is 40) e)
unit_read (Text Unaries) rest text next r e h = no (ap (first_is 40) e)
unit_read l rest text next r e h = no (ap (first_is 40) e)

-- two parts and the mark after them
two_apart : (t u : List (List ℕ)) (k : List ℕ) (rest : List (List ℕ)) → (with_comma t u ++ (k ∷ [])) ++ rest ≡ t ++ ((44 ∷ []) ∷ (u ++ (k ∷ rest)))
two_apart t u k rest = append_assoc (with_comma t u) (k ∷ []) rest ∙ append_assoc t ((44 ∷ []) ∷ u) (k ∷ rest)

pub tuple_read : {scope : Scope} {t : List (List ℕ)} {s : Schema} (n : NamesIn scope a_type t s) (most : ℕ) (rest : List (List ℕ)) (text : List ℕ) (next : ℕ) (r : Result (Schema × ℕ) Refused) → t ++ rest ≡ (40 ∷ []) ∷ tokens (drop next text) → NestsWithin most n → ReadsUnit text (tokens (drop next text)) r → ReadsSolo scope (most - 1) text (tokens (drop next text)) r → ReadsTuple scope (most - 1) text (tokens (drop next text)) r → Reaches r text rest
tuple_read (leaf l) most rest text next r e h unit one several = unit_read l rest text next r e unit
tuple_read (solo {t} n) most rest text next r e h unit one several = one t rest _ n (ap (drop 1) (sym e) ∙ append_assoc t (marks (codes ",)")) rest) h.1
tuple_read (tuple {t} {u} n m) most rest text next r e h unit one several = several t u rest _ _ n m (ap (drop 1) (sym e) ∙ two_apart t u (41 ∷ []) rest) h.1.1.0 h.1.1.1 h.1.0
tuple_read (declared {w} after k u g n) most rest text next r e h unit one several = no (sym (name_no_mark w 40 rest k refl) ∙ ap (first_is 40) e)
tuple_read n most rest text next r e h unit one several = no (ap (first_is 40) e)

-- ---- arrays

leaf_square : {X : Type 0} (l : Leaf) (rest x : List (List ℕ)) → tokens (leaf_name l) ++ rest ≡ (91 ∷ []) ∷ x → X
leaf_square (Text Words) rest x e = no (ap (first_is 91) e)
leaf_square (Text Strides) rest x e = no (ap (first_is 91) e)
leaf_square (Text Unaries) rest x e = no (ap (first_is 91) e)
leaf_square l rest x e = no (ap (first_is 91) e)

pub array_read : {scope : Scope} {t : List (List ℕ)} {s : Schema} (n : NamesIn scope a_type t s) (most : ℕ) (rest : List (List ℕ)) (text : List ℕ) (next : ℕ) (r : Result (Schema × ℕ) Refused) → t ++ rest ≡ (91 ∷ []) ∷ tokens (drop next text) → NestsWithin most n → ReadsArray scope (most - 1) text (tokens (drop next text)) r → Reaches r text rest
array_read (leaf l) most rest text next r e h g = leaf_square l rest _ e
array_read (array {n} {t} d w m) most rest text next r e h g = g t rest d n _ m (ap (drop 1) (sym e) ∙ append_assoc t (marks (codes ";") ++ (d ∷ marks (codes "]"))) rest) w h.1.0 h.1.1
array_read (declared {w} after k u j n) most rest text next r e h g = no (sym (name_no_mark w 91 rest k refl) ∙ ap (first_is 91) e)
array_read n most rest text next r e h g = no (ap (first_is 91) e)

-- ---- the bounds of texts

pub bounds_begin : (name : List ℕ) → (name ≡ codes "Strides") ⊎ (name ≡ codes "Unaries") → begins_word name ≡ true
bounds_begin name (inl e) = ap begins_word e
bounds_begin name (inr e) = ap begins_word e

-- the name of a kind of bounds is read
pub bounds_known : (word name : List ℕ) → (name ≡ codes "Strides") ⊎ (name ≡ codes "Unaries") → word ≡ name → (word ≢ codes "Strides") × (word ≢ codes "Unaries") → ⊥
bounds_known word name (inl k) e h = h.0 (e ∙ k)
bounds_known word name (inr k) e h = h.1 (e ∙ k)

-- ---- fields of tuples

pub some_fields : {scope : Scope} {u : List (List ℕ)} {r : Schema} (m : NamesIn scope other_types u r) → 1 ≤ parts_of m
some_fields (last n) = omega arith
some_fields (more n m) = omega arith

-- the first of some fields, and what follows it
pub record FirstField (scope : Scope) (depth : ℕ) (from : List (List ℕ)) : Type 0 where
  pub words : List (List ℕ)
  pub rest : List (List ℕ)
  pub type : Schema
  pub names : NamesIn scope a_type words type
  pub is : from ≡ words ++ rest
  pub nests : NestsWithin depth names

pub first_field : {scope : Scope} {u : List (List ℕ)} {r : Schema} (m : NamesIn scope other_types u r) (depth : ℕ) (from rest : List (List ℕ)) → from ≡ u ++ ((41 ∷ []) ∷ rest) → NestsWithin depth m → FirstField scope depth from
first_field (last n) depth from rest e h = record { words = _; rest = _; type = _; names = n; is = e; nests = h }
first_field (more {t} {u} n m) depth from rest e h = record { words = t; rest = _; type = _; names = n; is = e ∙ append_assoc t ((44 ∷ []) ∷ u) ((41 ∷ []) ∷ rest); nests = h.0 }

-- a type was read, and `there` follows it
abbrev pub TypeRead : Scope → ℕ → List (List ℕ) → List (List ℕ) → Type 0
TypeRead scope depth from there = (t rest : List (List ℕ)) (s : Schema) (n : NamesIn scope a_type t s) → from ≡ t ++ rest → NestsWithin depth n → there ≡ rest

-- without a comma after the first field, `)` follows it
pub fields_end : {scope : Scope} {u : List (List ℕ)} {r : Schema} (m : NamesIn scope other_types u r) (depth : ℕ) (from there rest : List (List ℕ)) → from ≡ u ++ ((41 ∷ []) ∷ rest) → NestsWithin depth m → TypeRead scope depth from there → first_is 44 there ≡ false → there ≡ (41 ∷ []) ∷ rest
fields_end (last n) depth from there rest e h f g = f _ _ _ n e h
fields_end (more {t} {u} n m) depth from there rest e h f g = no (sym g ∙ ap (first_is 44) (f t _ _ n (e ∙ append_assoc t ((44 ∷ []) ∷ u) ((41 ∷ []) ∷ rest)) h.0))

-- with a comma after it, the later fields follow
pub record LaterFields (scope : Scope) (depth most : ℕ) (from rest : List (List ℕ)) : Type 0 where
  pub words : List (List ℕ)
  pub type : Schema
  pub names : NamesIn scope other_types words type
  pub is : from ≡ words ++ ((41 ∷ []) ∷ rest)
  pub nests : NestsWithin depth names
  pub few : parts_of names ≤ most - 1

pub fields_go : {scope : Scope} {u : List (List ℕ)} {r : Schema} (m : NamesIn scope other_types u r) (depth most : ℕ) (from there later rest : List (List ℕ)) → from ≡ u ++ ((41 ∷ []) ∷ rest) → NestsWithin depth m → parts_of m ≤ most → TypeRead scope depth from there → there ≡ (44 ∷ []) ∷ later → LaterFields scope depth most later rest
fields_go (last n) depth most from there later rest e h l f g = no (ap (first_is 44) (sym (f _ _ _ n e h) ∙ g))
fields_go (more {t} {u} n m) depth most from there later rest e h l f g = record {
  words = u;
  type = _;
  names = m;
  is = ap (drop 1) (sym g ∙ f t _ _ n (e ∙ append_assoc t ((44 ∷ []) ∷ u) ((41 ∷ []) ∷ rest)) h.0);
  nests = h.1;
  few = omega (arith, l);
}

-- ---- fields with names, and variants

-- a field or a variant was read, and `there` follows it
abbrev pub ItemRead : Scope → Part → ℕ → List (List ℕ) → List (List ℕ) → Schema → Type 0
ItemRead scope part depth from there item = (t rest : List (List ℕ)) (s : Schema) (n : NamesIn scope part t s) → from ≡ t ++ rest → EndsCase rest → NestsWithin depth n → (there ≡ rest) × ((k : List ℕ) → Holds item k → Holds s k)

-- a field was
abbrev pub FieldRead : Scope → ℕ → List (List ℕ) → List (List ℕ) → Schema → Type 0
FieldRead scope depth from there item = (name : List ℕ) (t rest : List (List ℕ)) (s : Schema) (n : NamesIn scope a_type t s) → from ≡ name ∷ ((58 ∷ []) ∷ (t ++ rest)) → is_name name ≡ true → NestsWithin depth n → (there ≡ rest) × ((k : List ℕ) → Holds item k → name ≡ k)

field_item : {scope : Scope} {t : List (List ℕ)} {s : Schema} (n : NamesIn scope a_field t s) (depth : ℕ) (from there rest : List (List ℕ)) (item : Schema) → FieldRead scope depth from there item → from ≡ t ++ rest → NestsWithin depth n → (there ≡ rest) × ((k : List ℕ) → Holds item k → Holds s k)
field_item (labelled {t} {s} {v} h n) depth from there rest item f e d = f v.items t rest s n e h d

pub field_as_item : (scope : Scope) (depth : ℕ) (from there : List (List ℕ)) (item : Schema) → FieldRead scope depth from there item → ItemRead scope a_field depth from there item
field_as_item scope depth from there item f t rest s n e a d = field_item n depth from there rest item f e d

field_fails : {X : Type 0} {scope : Scope} {t : List (List ℕ)} {s : Schema} (n : NamesIn scope a_field t s) (depth : ℕ) (from rest : List (List ℕ)) → ((name : List ℕ) (t rest : List (List ℕ)) (s : Schema) (n : NamesIn scope a_type t s) → from ≡ name ∷ ((58 ∷ []) ∷ (t ++ rest)) → is_name name ≡ true → NestsWithin depth n → X) → from ≡ t ++ rest → NestsWithin depth n → X
field_fails (labelled {t} {s} {v} h n) depth from rest f e d = f v.items t rest s n e h d

-- the first field or variant, and the later ones, before `}` or a comma and `}`
pub data Items (scope : Scope) (part all : Part) (depth most : ℕ) (c : Bool) (rest from : List (List ℕ)) (r : Schema) : Type 0 where
  final : {t : List (List ℕ)} (n : NamesIn scope part t r) → NestsWithin depth n → from ≡ t ++ (last_comma c ++ ((125 ∷ []) ∷ rest)) → Items scope part all depth most c rest from r
  further : {t u : List (List ℕ)} {a b : Schema} (n : NamesIn scope part t a) (m : NamesIn scope all u b) → NestsWithin depth n → NestsWithin depth m → parts_of m ≤ most - 1 → AreApart a b → ((x : List (List ℕ)) → first_is 125 (u ++ x) ≡ false) → from ≡ t ++ ((44 ∷ []) ∷ (u ++ (last_comma c ++ ((125 ∷ []) ∷ rest)))) → ((k : List ℕ) → Holds a k ⊎ Holds b k → Holds r k) → Items scope part all depth most c rest from r

field_open : {scope : Scope} {t : List (List ℕ)} {s : Schema} (n : NamesIn scope a_field t s) (x : List (List ℕ)) → first_is 125 (t ++ x) ≡ false
field_open (labelled {t} {s} {v} h n) x = name_no_mark v.items 125 _ h refl

case_open : {scope : Scope} {t : List (List ℕ)} {s : Schema} (n : NamesIn scope a_case t s) (x : List (List ℕ)) → first_is 125 (t ++ x) ≡ false
case_open (named {v} h) x = name_no_mark v.items 125 _ h refl
case_open (valued {t} {s} {v} h n) x = name_no_mark v.items 125 _ h refl

fields_open : {scope : Scope} {t : List (List ℕ)} {s : Schema} (n : NamesIn scope all_fields t s) (x : List (List ℕ)) → first_is 125 (t ++ x) ≡ false
fields_open (last_field n) x = field_open n x
fields_open (more_fields {t} {u} n m d) x = ap (first_is 125) (append_assoc t ((44 ∷ []) ∷ u) x) ∙ field_open n _

cases_open : {scope : Scope} {t : List (List ℕ)} {s : Schema} (n : NamesIn scope all_cases t s) (x : List (List ℕ)) → first_is 125 (t ++ x) ≡ false
cases_open (last_case n) x = case_open n x
cases_open (more_cases {t} {u} n m d) x = ap (first_is 125) (append_assoc t ((44 ∷ []) ∷ u) x) ∙ case_open n _

pub fields_items : {scope : Scope} {u : List (List ℕ)} {r : Schema} (m : NamesIn scope all_fields u r) (depth most : ℕ) (c : Bool) (from rest : List (List ℕ)) → from ≡ u ++ (last_comma c ++ ((125 ∷ []) ∷ rest)) → NestsWithin depth m → parts_of m ≤ most → Items scope a_field all_fields depth most c rest from r
fields_items (last_field n) depth most c from rest e h l = final n h e
fields_items (more_fields {t} {u} n m d) depth most c from rest e h l = further n m h.0 h.1 (omega (arith, l)) d (fields_open m) (e ∙ append_assoc t ((44 ∷ []) ∷ u) (last_comma c ++ ((125 ∷ []) ∷ rest))) (λ k z. z)

pub cases_items : {scope : Scope} {u : List (List ℕ)} {r : Schema} (m : NamesIn scope all_cases u r) (depth most : ℕ) (c : Bool) (from rest : List (List ℕ)) → from ≡ u ++ (last_comma c ++ ((125 ∷ []) ∷ rest)) → NestsWithin depth m → parts_of m ≤ most → Items scope a_case all_cases depth most c rest from r
cases_items (last_case n) depth most c from rest e h l = final n h e
cases_items (more_cases {t} {u} n m d) depth most c from rest e h l = further n m h.0 h.1 (omega (arith, l)) d (cases_open m) (e ∙ append_assoc t ((44 ∷ []) ∷ u) (last_comma c ++ ((125 ∷ []) ∷ rest))) (λ k z. z)

pub some_named : {scope : Scope} {u : List (List ℕ)} {r : Schema} (m : NamesIn scope all_fields u r) → 1 ≤ parts_of m
some_named (last_field n) = omega arith
some_named (more_fields n m d) = omega arith

pub some_cases : {scope : Scope} {u : List (List ℕ)} {r : Schema} (m : NamesIn scope all_cases u r) → 1 ≤ parts_of m
some_cases (last_case n) = omega arith
some_cases (more_cases n m d) = omega arith

last_ends : (c : Bool) (rest : List (List ℕ)) → EndsCase (last_comma c ++ ((125 ∷ []) ∷ rest))
last_ends true rest = (refl, refl)
last_ends false rest = (refl, refl)

-- the first is not read
pub item_fails : {X : Type 0} {scope : Scope} {part all : Part} {depth most : ℕ} {c : Bool} {rest from : List (List ℕ)} {r : Schema} → Items scope part all depth most c rest from r → ((t after : List (List ℕ)) (s : Schema) (n : NamesIn scope part t s) → from ≡ t ++ after → EndsCase after → NestsWithin depth n → X) → X
item_fails {c = c} {rest = rest} (final n h e) f = f _ _ _ n e (last_ends c rest) h
item_fails (further n m h k l d o e z) f = f _ _ _ n e (refl, refl) h

pub field_unread : {X : Type 0} {scope : Scope} {all : Part} {depth most : ℕ} {c : Bool} {rest from : List (List ℕ)} {r : Schema} → Items scope a_field all depth most c rest from r → ((name : List ℕ) (t rest : List (List ℕ)) (s : Schema) (n : NamesIn scope a_type t s) → from ≡ name ∷ ((58 ∷ []) ∷ (t ++ rest)) → is_name name ≡ true → NestsWithin depth n → X) → X
field_unread {depth = depth} {from = from} i f = item_fails i (λ t after s n e a d. field_fails n depth from after f e d)

-- without a comma after the first, it is the last
pub items_end : {scope : Scope} {part all : Part} {depth most : ℕ} {c : Bool} {rest from : List (List ℕ)} {r : Schema} → Items scope part all depth most c rest from r → (there : List (List ℕ)) (item : Schema) → ItemRead scope part depth from there item → first_is 44 there ≡ false → (there ≡ last_comma c ++ ((125 ∷ []) ∷ rest)) × ((k : List ℕ) → Holds item k → Holds r k)
items_end {c = c} {rest = rest} (final n h e) there item f g = f _ _ _ n e (last_ends c rest) h
items_end (further n m h k l d o e z) there item f g = no (sym g ∙ ap (first_is 44) (f _ _ _ n e (refl, refl) h).0)

-- so it is if `}` follows the comma
pub items_close : {scope : Scope} {part all : Part} {depth most : ℕ} {c : Bool} {rest from : List (List ℕ)} {r : Schema} → Items scope part all depth most c rest from r → (there later : List (List ℕ)) (item : Schema) → ItemRead scope part depth from there item → there ≡ (44 ∷ []) ∷ later → first_is 125 later ≡ true → (there ≡ last_comma c ++ ((125 ∷ []) ∷ rest)) × ((k : List ℕ) → Holds item k → Holds r k)
items_close {c = c} {rest = rest} (final n h e) there later item f g y = f _ _ _ n e (last_ends c rest) h
items_close (further n m h k l d o e z) there later item f g y = no (sym (o _) ∙ (ap (first_is 125) (ap (drop 1) (sym (f _ _ _ n e (refl, refl) h).0 ∙ g)) ∙ y))

-- with a comma, and without `}`, the later ones follow
pub record LaterItems (scope : Scope) (all : Part) (depth most : ℕ) (c : Bool) (later rest : List (List ℕ)) (item r : Schema) : Type 0 where
  pub words : List (List ℕ)
  pub first : Schema
  pub type : Schema
  pub names : NamesIn scope all words type
  pub is : later ≡ words ++ (last_comma c ++ ((125 ∷ []) ∷ rest))
  pub nests : NestsWithin depth names
  pub few : parts_of names ≤ most - 1
  pub apart : AreApart first type
  pub held : (k : List ℕ) → Holds item k → Holds first k
  pub holds : (k : List ℕ) → Holds first k ⊎ Holds type k → Holds r k

not_final : {X : Type 0} (c : Bool) (there later rest : List (List ℕ)) → there ≡ last_comma c ++ ((125 ∷ []) ∷ rest) → there ≡ (44 ∷ []) ∷ later → first_is 125 later ≡ false → X
not_final true there later rest e g y = no (sym y ∙ ap (first_is 125) (ap (drop 1) (sym g ∙ e)))
not_final false there later rest e g y = no (ap (first_is 44) (sym e ∙ g))

pub items_go : {scope : Scope} {part all : Part} {depth most : ℕ} {c : Bool} {rest from : List (List ℕ)} {r : Schema} → Items scope part all depth most c rest from r → (there later : List (List ℕ)) (item : Schema) → ItemRead scope part depth from there item → there ≡ (44 ∷ []) ∷ later → first_is 125 later ≡ false → LaterItems scope all depth most c later rest item r
items_go {c = c} {rest = rest} (final n h e) there later item f g y = not_final c there later rest (f _ _ _ n e (last_ends c rest) h).0 g y
items_go (further n m h k l d o e z) there later item f g y =
    let read = f _ _ _ n e (refl, refl) h in
    record {
      words = _;
      first = _;
      type = _;
      names = m;
      is = ap (drop 1) (sym g ∙ read.0);
      nests = k;
      few = l;
      apart = d;
      held = read.1;
      holds = z;
    }

either_held : {scope : Scope} {all : Part} {depth most : ℕ} {c : Bool} {x rest : List (List ℕ)} {item r : Schema} (i : LaterItems scope all depth most c x rest item r) (later : Schema) → ((k : List ℕ) → Holds later k → Holds i.type k) → (k : List ℕ) → Holds item k ⊎ Holds later k → Holds r k
either_held i later f k (inl h) = i.holds k (inl (i.held k h))
either_held i later f k (inr h) = i.holds k (inr (f k h))

pub items_held : {scope : Scope} {all : Part} {depth most : ℕ} {c : Bool} {x rest : List (List ℕ)} {item r : Schema} (i : LaterItems scope all depth most c x rest item r) (later both : Schema) → ((k : List ℕ) → Holds later k → Holds i.type k) → ((k : List ℕ) → Holds both k → Holds item k ⊎ Holds later k) → (k : List ℕ) → Holds both k → Holds r k
items_held i later both f g k h = either_held i later f k (g k h)

-- no name stands twice
pub never_twice : {X : Type 0} {scope : Scope} {all : Part} {depth most : ℕ} {c : Bool} {x rest : List (List ℕ)} {item r : Schema} (i : LaterItems scope all depth most c x rest item r) (later : Schema) → ((k : List ℕ) → Holds later k → Holds i.type k) → (k : List ℕ) × (Holds item k × Holds later k) → X
never_twice i later f h = absurd (i.apart h.0 (i.held h.0 h.1.0) (f h.0 h.1.1))

-- ---- structs

closed_apart : (t : List (List ℕ)) (c : Bool) (rest : List (List ℕ)) → (t ++ (last_comma c ++ marks (codes "}"))) ++ rest ≡ t ++ (last_comma c ++ ((125 ∷ []) ∷ rest))
closed_apart t c rest = append_assoc t (last_comma c ++ marks (codes "}")) rest ∙ ap (λ z. t ++ z) (append_assoc (last_comma c) (marks (codes "}")) rest)

pub body_object : {scope : Scope} {t : List (List ℕ)} {s : Schema} (n : NamesIn scope struct_body t s) (depth : ℕ) (rest : List (List ℕ)) (text : List ℕ) (next : ℕ) (r : Result (Schema × ℕ) Refused) → t ++ rest ≡ (123 ∷ []) ∷ tokens (drop next text) → NestsWithin depth n → ReadsObject scope depth text (tokens (drop next text)) r → Reaches r text rest
body_object nothing depth rest text next r e h f = no (ap (first_is 123) e)
body_object (places n g) depth rest text next r e h f = no (ap (first_is 123) e)
body_object (object {t} c n g) depth rest text next r e h f = f t rest c _ n (ap (drop 1) (sym e) ∙ closed_apart t c rest) h.1 h.0

pub body_places : {scope : Scope} {t : List (List ℕ)} {s : Schema} (n : NamesIn scope struct_body t s) (depth : ℕ) (rest : List (List ℕ)) (text : List ℕ) (next : ℕ) (r : Result (Schema × ℕ) Refused) → t ++ rest ≡ (40 ∷ []) ∷ tokens (drop next text) → NestsWithin depth n → ReadsPlaces scope depth text (tokens (drop next text)) r → Reaches r text rest
body_places nothing depth rest text next r e h f = no (ap (first_is 40) e)
body_places (places {t} n g) depth rest text next r e h f = f t rest _ n (ap (drop 1) (sym e) ∙ append_assoc t (marks (codes ");")) rest) h.1 h.0
body_places (object c n g) depth rest text next r e h f = no (ap (first_is 40) e)

pub body_nothing : {scope : Scope} {t : List (List ℕ)} {s : Schema} (n : NamesIn scope struct_body t s) (from rest : List (List ℕ)) → from ≡ t ++ rest → first_is 123 from ≡ false → first_is 40 from ≡ false → from ≡ (59 ∷ []) ∷ rest
body_nothing nothing from rest e f g = e
body_nothing (places n k) from rest e f g = no (sym g ∙ ap (first_is 40) e)
body_nothing (object c n k) from rest e f g = no (sym f ∙ ap (first_is 123) e)

-- ---- variants

-- a name was read, and `there` follows it
abbrev pub NameRead : List (List ℕ) → List ℕ → List (List ℕ) → Type 0
NameRead from word there = (w : List ℕ) (x : List (List ℕ)) → from ≡ w ∷ x → is_name w ≡ true → (word ≡ w) × (there ≡ x)

name_reaches : (r : Result (Schema × ℕ) Refused) (text : List ℕ) (rest : List (List ℕ)) (word name : List ℕ) (s : Schema) → word ≡ name → ((k : List ℕ) → name ≡ k → Holds s k) → ReachesName r text rest word → ReachesAs r text rest s
name_reaches (Ok read) text rest word name s e f h = (h.0, λ k z. f k (sym e ∙ h.1 k z))
name_reaches (Err why) text rest word name s e f h = h

pub case_fails : {X : Type 0} {scope : Scope} {t : List (List ℕ)} {s : Schema} (n : NamesIn scope a_case t s) (from rest : List (List ℕ)) → from ≡ t ++ rest → ((w : List ℕ) (x : List (List ℕ)) → from ≡ w ∷ x → is_name w ≡ true → ⊥) → X
case_fails (named {v} h) from rest e f = absurd (f v.items rest e h)
case_fails (valued {t} {s} {v} h n) from rest e f = absurd (f v.items (t ++ rest) e h)

pub case_opens : {scope : Scope} {t : List (List ℕ)} {s : Schema} (n : NamesIn scope a_case t s) (depth : ℕ) (from there inner rest : List (List ℕ)) (word text : List ℕ) (r : Result (Schema × ℕ) Refused) → from ≡ t ++ rest → EndsCase rest → NestsWithin depth n → NameRead from word there → there ≡ (40 ∷ []) ∷ inner → ReadsBareValue scope depth text word inner r → ReachesAs r text rest s
case_opens (named {v} h) depth from there inner rest word text r e a d p g f = no (sym a.0 ∙ ap (first_is 40) (sym (p v.items rest e h).1 ∙ g))
case_opens (valued {t} {s} {v} h (bare_value {t = u} n k)) depth from there inner rest word text r e a d p g f =
    let read = p v.items _ e h in
    name_reaches r text rest word v.items _ read.0 (λ i z. z) (f u rest _ n (ap (drop 1) (sym g ∙ read.1) ∙ append_assoc u (marks (codes ")")) rest) d.1 d.0)
case_opens (valued {t} {s} {v} h (named_value c n k)) depth from there inner rest word text r e a d p g f = no (ap (first_is 40) (sym (p v.items _ e h).1 ∙ g))

pub case_braces : {scope : Scope} {t : List (List ℕ)} {s : Schema} (n : NamesIn scope a_case t s) (depth : ℕ) (from there inner rest : List (List ℕ)) (word text : List ℕ) (r : Result (Schema × ℕ) Refused) → from ≡ t ++ rest → EndsCase rest → NestsWithin depth n → NameRead from word there → there ≡ (123 ∷ []) ∷ inner → ReadsNamedValue scope depth text word inner r → ReachesAs r text rest s
case_braces (named {v} h) depth from there inner rest word text r e a d p g f = no (sym a.1 ∙ ap (first_is 123) (sym (p v.items rest e h).1 ∙ g))
case_braces (valued {t} {s} {v} h (bare_value n k)) depth from there inner rest word text r e a d p g f = no (ap (first_is 123) (sym (p v.items _ e h).1 ∙ g))
case_braces (valued {t} {s} {v} h (named_value {t = u} c n k)) depth from there inner rest word text r e a d p g f =
    let read = p v.items _ e h in
    name_reaches r text rest word v.items _ read.0 (λ i z. z) (f u rest c _ n (ap (drop 1) (sym g ∙ read.1) ∙ closed_apart u c rest) d.1 d.0)

pub case_plain : {scope : Scope} {t : List (List ℕ)} {s : Schema} (n : NamesIn scope a_case t s) (from there rest : List (List ℕ)) (word : List ℕ) (item : Schema) → from ≡ t ++ rest → NameRead from word there → first_is 40 there ≡ false → first_is 123 there ≡ false → ((k : List ℕ) → Holds item k → word ≡ k) → (there ≡ rest) × ((k : List ℕ) → Holds item k → Holds s k)
case_plain (named {v} h) from there rest word item e p f g k =
    let read = p v.items rest e h in
    (read.1, λ i z. sym read.0 ∙ k i z)
case_plain (valued {t} {s} {v} h (bare_value n j)) from there rest word item e p f g k = no (sym f ∙ ap (first_is 40) (p v.items _ e h).1)
case_plain (valued {t} {s} {v} h (named_value c n j)) from there rest word item e p f g k = no (sym g ∙ ap (first_is 123) (p v.items _ e h).1)

-- ---- types that begin with a word

pub nests_some : {scope : Scope} {t : List (List ℕ)} {s : Schema} (n : NamesIn scope a_type t s) (depth : ℕ) → NestsWithin depth n → 1 ≤ depth
nests_some (leaf l) depth h = h
nests_some (boxed n) depth h = h.0
nests_some (optional n) depth h = h.0
nests_some (listed n) depth h = h.0
nests_some (numbered n) depth h = h.0
nests_some (fallible n m) depth h = h.0
nests_some (structure v k n) depth h = h.0
nests_some (sum v c k n) depth h = h.0
nests_some (solo n) depth h = h.0
nests_some (tuple n m) depth h = h.0
nests_some (array d w n) depth h = h.0
nests_some (repeated n) depth h = h.0
nests_some (recalled w l n) depth h = h.0
nests_some (declared after k u e n) depth h = h.0

-- the same depth
nests : {scope : Scope} {part : Part} {t : List (List ℕ)} {s : Schema} (n : NamesIn scope part t s) {one other : ℕ} → one ≡ other → NestsWithin one n → NestsWithin other n
nests n e h = subst (λ d. NestsWithin d n) e h

-- the word that begins a type, and what follows the word
pub data Shape (scope : Scope) (depth : ℕ) (rest : List (List ℕ)) : List ℕ → List (List ℕ) → Type 0 where
  plain : (l : Leaf) → Shape scope depth rest (leaf_name l) rest
  texts : (name : List ℕ) → (name ≡ codes "Strides") ⊎ (name ≡ codes "Unaries") → Shape scope depth rest (codes "Strings") ((60 ∷ []) ∷ (name ∷ ((62 ∷ []) ∷ rest)))
  part : (h : Head) {t : List (List ℕ)} {s : Schema} (n : NamesIn scope a_type t s) → NestsWithin depth n → Shape scope depth rest (head_name h) ((60 ∷ []) ∷ (t ++ ((62 ∷ []) ∷ rest)))
  parts : {t u : List (List ℕ)} {s e : Schema} (n : NamesIn scope a_type t s) (m : NamesIn scope a_type u e) → NestsWithin depth n → NestsWithin depth m → Shape scope depth rest (codes "Result") ((60 ∷ []) ∷ (t ++ ((44 ∷ []) ∷ (u ++ ((62 ∷ []) ∷ rest)))))
  lookbacks : {t : List (List ℕ)} {s : Schema} (n : NamesIn scope a_type t s) (w : List (List ℕ)) → IsLimit w → NestsWithin depth n → Shape scope depth rest (codes "Lookbacks") ((60 ∷ []) ∷ (t ++ (w ++ ((62 ∷ []) ∷ rest))))
  body : (name : List ℕ) {t : List (List ℕ)} {s : Schema} (n : NamesIn scope struct_body t s) → is_name name ≡ true → NestsWithin depth n → Shape scope depth rest (codes "struct") (name ∷ (t ++ rest))
  variants : (name : List ℕ) {t : List (List ℕ)} {s : Schema} (c : Bool) (n : NamesIn scope all_cases t s) → is_name name ≡ true → NestsWithin (depth - 3) n → parts_of n ≤ 256 → Shape scope depth rest (codes "enum") (name ∷ ((123 ∷ []) ∷ (t ++ (last_comma c ++ ((125 ∷ []) ∷ rest)))))
  elsewhere : (w : List ℕ) (after : List (List ℕ)) {t : List (List ℕ)} {s : Schema} (n : NamesIn scope a_type t s) → IsUnknown w → declared_in w scope.source ≡ t ++ after → NestsWithin depth n → Shape scope depth rest w rest

leaf_shape : (scope : Scope) (depth : ℕ) (l : Leaf) (rest : List (List ℕ)) → begins_word (first_token (tokens (leaf_name l) ++ rest)) ≡ true → Shape scope depth rest (first_token (tokens (leaf_name l) ++ rest)) (drop 1 (tokens (leaf_name l) ++ rest))
leaf_shape scope depth (Text Words) rest o = plain (Text Words)
leaf_shape scope depth (Text Strides) rest o = texts (codes "Strides") (inl refl)
leaf_shape scope depth (Text Unaries) rest o = texts (codes "Unaries") (inr refl)
leaf_shape scope depth Unit rest o = no o
leaf_shape scope depth l rest o = plain l

pub shape_of : {scope : Scope} {t : List (List ℕ)} {s : Schema} (n : NamesIn scope a_type t s) (most depth : ℕ) (rest : List (List ℕ)) → most - 1 ≡ depth → NestsWithin most n → begins_word (first_token (t ++ rest)) ≡ true → Shape scope depth rest (first_token (t ++ rest)) (drop 1 (t ++ rest))
shape_of {scope} (leaf l) most depth rest d h o = leaf_shape scope depth l rest o
shape_of (boxed {t} n) most depth rest d h o = rw (append_assoc t ((62 ∷ []) ∷ []) rest) (part Boxed n (nests n d h.1))
shape_of (optional {t} n) most depth rest d h o = rw (append_assoc t ((62 ∷ []) ∷ []) rest) (part Optional n (nests n d h.1))
shape_of (listed {t} n) most depth rest d h o = rw (append_assoc t ((62 ∷ []) ∷ []) rest) (part Vector n (nests n d h.1))
shape_of (numbered {t} n) most depth rest d h o = rw (append_assoc t ((62 ∷ []) ∷ []) rest) (part Small n (nests n d h.1))
shape_of (fallible {t} {u} n m) most depth rest d h o = rw (two_apart t u (62 ∷ []) rest) (parts n m (nests n d h.1.0) (nests m d h.1.1))
shape_of (structure v k n) most depth rest d h o = body v n k (nests n d h.1)
shape_of (sum v {t} c k n) most depth rest d h o = rw (closed_apart t c rest) (variants v c n k (nests n (omega (arith, d)) h.1.1) h.1.0)
shape_of (solo n) most depth rest d h o = no o
shape_of (tuple n m) most depth rest d h o = no o
shape_of (array v w n) most depth rest d h o = no o
shape_of (repeated {t} n) most depth rest d h o = rw (append_assoc t ((62 ∷ []) ∷ []) rest) (part Repeats n (nests n d h.1))
shape_of (recalled {t} w l n) most depth rest d h o = rw (append_assoc (t ++ w) ((62 ∷ []) ∷ []) rest, append_assoc t w ((62 ∷ []) ∷ rest)) (lookbacks n w l (nests n d h.1))
shape_of (declared {w} after k u e n) most depth rest d h o = elsewhere w after n u e (nests n d h.1)

-- the shape of what was read
pub shape_read : {scope : Scope} {t : List (List ℕ)} {s : Schema} (n : NamesIn scope a_type t s) (most depth : ℕ) (rest from : List (List ℕ)) (word : List ℕ) → word ≡ first_token (t ++ rest) → from ≡ drop 1 (t ++ rest) → begins_word word ≡ true → most - 1 ≡ depth → NestsWithin most n → Shape scope depth rest word from
shape_read {scope} {t} n most depth rest from word e f b d h = subst (λ (z : List ℕ). Shape scope depth rest z from) (sym e) (subst (λ (z : List (List ℕ)). Shape scope depth rest (first_token (t ++ rest)) z) (sym f) (shape_of n most depth rest d h (ap begins_word (sym e) ∙ b)))

-- ---- the words that are known

abbrev every_leaf : List Leaf
every_leaf = U8 ∷ U16 ∷ U32 ∷ U64 ∷ U128 ∷ Usize ∷ I8 ∷ I16 ∷ I32 ∷ I64 ∷ I128 ∷ Isize ∷ F32 ∷ F64 ∷ BoolLeaf ∷ Char ∷ Duration ∷ Text Words ∷ Text Strides ∷ Text Unaries ∷ Unit ∷ []

abbrev every_head : List Head
every_head = Boxed ∷ Optional ∷ Vector ∷ Small ∷ Repeats ∷ []

abbrev is_leaf_word : List ℕ → Bool
is_leaf_word w = list_any (λ l. bytes_eq w (leaf_name l)) every_leaf

abbrev is_head_word : List ℕ → Bool
is_head_word w = list_any (λ h. bytes_eq w (head_name h)) every_head

-- their kinds
abbrev kind_of : List ℕ → ℕ
kind_of w = cond (is_leaf_word w) 0 (cond (is_head_word w) 1 (cond (bytes_eq w (codes "Result")) 2 (cond (bytes_eq w (codes "Strings")) 3 (cond (bytes_eq w (codes "Lookbacks")) 4 (cond (bytes_eq w (codes "struct")) 5 (cond (bytes_eq w (codes "enum")) 6 7))))))

leaf_kind : (l : Leaf) → kind_of (leaf_name l) ≡ 0
leaf_kind (Text Words) = refl
leaf_kind (Text Strides) = refl
leaf_kind (Text Unaries) = refl
leaf_kind l = refl

head_kind : (h : Head) → kind_of (head_name h) ≡ 1
head_kind Boxed = refl
head_kind Optional = refl
head_kind Vector = refl
head_kind Small = refl
head_kind Repeats = refl

-- other words have another kind
never_so : {P : Type 0} (b : Bool) → (b ≡ true → P) → (P → ⊥) → b ≡ false
never_so true f h = absurd (h (f refl))
never_so false f h = refl

unequal_words : (w v : List ℕ) → w ≢ v → bytes_eq w v ≡ false
unequal_words w v f = never_so (bytes_eq w v) (bytes_eq-Decides w v).0 f

unknown_kind : (w : List ℕ) → IsUnknown w → kind_of w ≡ 7
unknown_kind w u =
    let leaves : is_leaf_word w ≡ false = list_any_none (λ l. bytes_eq w (leaf_name l)) every_leaf (λ k d l. unequal_words w _ (u.no_leaf (get_or every_leaf k d))) in
    let heads : is_head_word w ≡ false = list_any_none (λ h. bytes_eq w (head_name h)) every_head (λ k d l. unequal_words w _ (u.no_head (get_or every_head k d))) in
    rw (leaves, heads, unequal_words w _ u.no_result, unequal_words w _ u.no_texts, unequal_words w _ u.no_lookbacks, unequal_words w _ u.no_struct, unequal_words w _ u.no_enum) refl

abbrev kind : {scope : Scope} {depth : ℕ} {rest from : List (List ℕ)} {word : List ℕ} → Shape scope depth rest word from → ℕ
kind (plain l) = 0
kind (part h n k) = 1
kind (parts n m k j) = 2
kind (texts name k) = 3
kind (lookbacks n w l k) = 4
kind (body name n h k) = 5
kind (variants name c n h k l) = 6
kind (elsewhere w after n u e h) = 7

kind_is : {scope : Scope} {depth : ℕ} {rest from : List (List ℕ)} {word : List ℕ} (s : Shape scope depth rest word from) → kind_of word ≡ kind s
kind_is (plain l) = leaf_kind l
kind_is (part h n k) = head_kind h
kind_is (parts n m k j) = refl
kind_is (texts name k) = refl
kind_is (lookbacks n w l k) = refl
kind_is (body name n h k) = refl
kind_is (variants name c n h k l) = refl
kind_is (elsewhere w after n u e h) = unknown_kind w u

other_kind : {scope : Scope} {depth : ℕ} {rest from : List (List ℕ)} {word : List ℕ} (s : Shape scope depth rest word from) (name : List ℕ) (k : ℕ) → word ≡ name → kind_of name ≡ k → nat_eq (kind s) k ≡ nat_eq k k
other_kind s name k e f = ap (λ z. nat_eq z k) (sym (kind_is s) ∙ (ap kind_of e ∙ f))

pub leaf_done : {scope : Scope} {depth : ℕ} {rest from : List (List ℕ)} {word : List ℕ} (s : Shape scope depth rest word from) (l : Leaf) → word ≡ leaf_name l → from ≡ rest
leaf_done (plain k) l e = refl
leaf_done s l e = no (other_kind s (leaf_name l) 0 e (leaf_kind l))

pub part_done : {scope : Scope} {depth : ℕ} {rest from : List (List ℕ)} {word : List ℕ} (s : Shape scope depth rest word from) (h : Head) → word ≡ head_name h → (text : List ℕ) (r : Result (Schema × ℕ) Refused) → ReadsPart scope depth text from r → Reaches r text rest
part_done (part i {t} n k) h e text r g = g t _ _ n refl k
part_done s h e text r g = no (other_kind s (head_name h) 1 e (head_kind h))

pub parts_done : {scope : Scope} {depth : ℕ} {rest from : List (List ℕ)} {word : List ℕ} (s : Shape scope depth rest word from) → word ≡ codes "Result" → (text : List ℕ) (r : Result (Schema × ℕ) Refused) → ReadsParts scope depth text from r → Reaches r text rest
parts_done (parts {t} {u} n m k j) e text r g = g t u _ _ _ n m refl k j
parts_done s e text r g = no (other_kind s (codes "Result") 2 e refl)

pub texts_done : {scope : Scope} {depth : ℕ} {rest from : List (List ℕ)} {word : List ℕ} (s : Shape scope depth rest word from) → word ≡ codes "Strings" → (text : List ℕ) (r : Result (Schema × ℕ) Refused) → ReadsTexts text from r → Reaches r text rest
texts_done (texts name k) e text r g = g name _ k refl
texts_done s e text r g = no (other_kind s (codes "Strings") 3 e refl)

pub lookbacks_done : {scope : Scope} {depth : ℕ} {rest from : List (List ℕ)} {word : List ℕ} (s : Shape scope depth rest word from) → word ≡ codes "Lookbacks" → (text : List ℕ) (r : Result (Schema × ℕ) Refused) → ReadsRecalled scope depth text from r → Reaches r text rest
lookbacks_done (lookbacks {t} n w k j) e text r g = g t w _ _ n refl k j
lookbacks_done s e text r g = no (other_kind s (codes "Lookbacks") 4 e refl)

pub struct_done : {scope : Scope} {depth : ℕ} {rest from : List (List ℕ)} {word : List ℕ} (s : Shape scope depth rest word from) → word ≡ codes "struct" → (text : List ℕ) (r : Result (Schema × ℕ) Refused) → ReadsStruct scope depth text from r → Reaches r text rest
struct_done (body name {t} n h k) e text r g = g name t _ _ n refl h k
struct_done s e text r g = no (other_kind s (codes "struct") 5 e refl)

pub enum_done : {scope : Scope} {depth : ℕ} {rest from : List (List ℕ)} {word : List ℕ} (s : Shape scope depth rest word from) → word ≡ codes "enum" → (text : List ℕ) (r : Result (Schema × ℕ) Refused) (inner : ℕ) → inner ≡ depth - 3 → ReadsEnum scope inner text from r → Reaches r text rest
enum_done (variants name {t} c n h k l) e text r inner d g = g name t _ c _ n refl h (nests n (sym d) k) l
enum_done s e text r inner d g = no (other_kind s (codes "enum") 6 e refl)

-- a name that the parser does not know is no name of a type without parts
leaf_unnamed : (w : List ℕ) → is_name w ≡ true → NamesNone w unsigned_leaves × (NamesNone w signed_leaves × NamesNone w other_leaves) → (l : Leaf) → w ≢ leaf_name l
leaf_unnamed w n h U8 = h.0 0 U8 (omega arith)
leaf_unnamed w n h U16 = h.0 1 U16 (omega arith)
leaf_unnamed w n h U32 = h.0 2 U32 (omega arith)
leaf_unnamed w n h U64 = h.0 3 U64 (omega arith)
leaf_unnamed w n h U128 = h.0 4 U128 (omega arith)
leaf_unnamed w n h Usize = h.0 5 Usize (omega arith)
leaf_unnamed w n h I8 = h.1.0 0 I8 (omega arith)
leaf_unnamed w n h I16 = h.1.0 1 I16 (omega arith)
leaf_unnamed w n h I32 = h.1.0 2 I32 (omega arith)
leaf_unnamed w n h I64 = h.1.0 3 I64 (omega arith)
leaf_unnamed w n h I128 = h.1.0 4 I128 (omega arith)
leaf_unnamed w n h Isize = h.1.0 5 Isize (omega arith)
leaf_unnamed w n h F32 = h.1.1 0 F32 (omega arith)
leaf_unnamed w n h F64 = h.1.1 1 F64 (omega arith)
leaf_unnamed w n h BoolLeaf = h.1.1 2 BoolLeaf (omega arith)
leaf_unnamed w n h Char = h.1.1 3 Char (omega arith)
leaf_unnamed w n h Duration = h.1.1 4 Duration (omega arith)
leaf_unnamed w n h (Text Words) = h.1.1 5 (Text Words) (omega arith)
leaf_unnamed w n h (Text Strides) = λ e. no (ap is_name (sym e) ∙ n)
leaf_unnamed w n h (Text Unaries) = λ e. no (ap is_name (sym e) ∙ n)
leaf_unnamed w n h Unit = λ e. no (ap is_name (sym e) ∙ n)

-- nor any other that the grammar knows
pub others_unknown : (w : List ℕ) → is_name w ≡ true → NamesNone w unsigned_leaves × (NamesNone w signed_leaves × NamesNone w other_leaves) → ((h : Head) → w ≢ head_name h) → w ≢ codes "Result" → w ≢ codes "Strings" → w ≢ codes "struct" → w ≢ codes "Lookbacks" → w ≢ codes "enum" → IsUnknown w
others_unknown w n l h p t b u v = record {
  no_leaf = λ k. leaf_unnamed w n l k;
  no_head = h;
  no_result = p;
  no_texts = t;
  no_lookbacks = u;
  no_struct = b;
  no_enum = v;
}

-- so it stands for the type of its declaration
pub declared_done : {scope : Scope} {depth : ℕ} {rest from : List (List ℕ)} {word : List ℕ} (s : Shape scope depth rest word from) → IsUnknown word → (text : List ℕ) (r : Result (Schema × ℕ) Refused) → ReadsDeclared scope depth text word from r → Reaches r text rest
declared_done (elsewhere w after {t} n u e h) k text r g = g t after _ n e h
declared_done (plain l) k text r g = absurd (k.no_leaf l refl)
declared_done (texts name i) k text r g = absurd (k.no_texts refl)
declared_done (part h n i) k text r g = absurd (k.no_head h refl)
declared_done (parts n m i j) k text r g = absurd (k.no_result refl)
declared_done (lookbacks n w i j) k text r g = absurd (k.no_lookbacks refl)
declared_done (body name n i j) k text r g = absurd (k.no_struct refl)
declared_done (variants name c n i j l) k text r g = absurd (k.no_enum refl)
