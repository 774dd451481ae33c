-- The tokens of a type.
use Rattle.std.specs.Prelude.{ℕ, Bool, true, false, List, [], ◌∷◌, ◌++◌, ◌≡◌, ◌≢◌, ◌≤◌, ◌&&◌, cond, not, length, drop, codes, Vec}
use Rattle.std.specs.Global.{Global}
use Rattle.std.specs.Char.{is_ascii_digit}
use Rattle.std.specs.List.{list_all}
use Rattle.std.specs.Str.Parse.{IsNumeral, digits_value}
use Rattle.columnar_syntax.specs.declared.schema.Brackets.{Brackets}
use Rattle.columnar_syntax.specs.declared.schema.Brackets.TheVariants.{Square, Curly, Bare}
use Rattle.columnar_syntax.specs.declared.schema.Bounds.{Bounds}
use Rattle.columnar_syntax.specs.declared.schema.Bounds.TheVariants.{Words, Strides, Unaries}
use Rattle.columnar_syntax.specs.declared.schema.Leaf.{Leaf}
use Rattle.columnar_syntax.specs.declared.schema.Leaf.TheVariants.{U8, U16, U32, U64, U128, Usize, I8, I16, I32, I64, I128, Isize, F32, F64, Bool as BoolLeaf, Char, Unit, Duration, Text}
use Rattle.columnar_syntax.specs.Distinct.{AreApart}
use Rattle.columnar_syntax.specs.Gathered.{IsGathered, IsValue}
use Rattle.columnar_syntax.specs.Declarations.{declared_in}
use Rattle.columnar_syntax.specs.Tokens.{is_word_byte, marks, tokens}
use Rattle.columnar_syntax.specs.declared.text.Head.{Head}
use Rattle.columnar_syntax.specs.declared.text.Head.TheVariants.{Boxed, Optional, Vector, Small, Repeats}
use Rattle.columnar_syntax.specs.declared.text.Setting.{Setting}
use Rattle.columnar_syntax.specs.declared.schema.Schema.{Schema, Simple, Optional', Fallible', Lists', Solo', Tuple', Beside', Field', Array', Repeated', Recalled', Sum', Named, Case'}

-- the bytes do not begin with a digit
abbrev pub starts_name : List ℕ → Bool
starts_name [] = false
starts_name (n ∷ ns) = not (is_ascii_digit n)

-- a name of a struct, an enum, a field or a variant
abbrev pub is_name : List ℕ → Bool
is_name ns = starts_name ns && list_all is_word_byte ns

-- the names of types without parts
abbrev pub leaf_name : Leaf → List ℕ
leaf_name U8 = codes "u8"
leaf_name U16 = codes "u16"
leaf_name U32 = codes "u32"
leaf_name U64 = codes "u64"
leaf_name U128 = codes "u128"
leaf_name Usize = codes "usize"
leaf_name I8 = codes "i8"
leaf_name I16 = codes "i16"
leaf_name I32 = codes "i32"
leaf_name I64 = codes "i64"
leaf_name I128 = codes "i128"
leaf_name Isize = codes "isize"
leaf_name F32 = codes "f32"
leaf_name F64 = codes "f64"
leaf_name BoolLeaf = codes "bool"
leaf_name Char = codes "char"
leaf_name Unit = codes "()"
leaf_name Duration = codes "Duration"
leaf_name (Text Words) = codes "String"
leaf_name (Text Strides) = codes "Strings<Strides>"
leaf_name (Text Unaries) = codes "Strings<Unaries>"

-- the names of types of one part
abbrev pub head_name : Head → List ℕ
head_name Boxed = codes "Box"
head_name Optional = codes "Option"
head_name Vector = codes "Vec"
head_name Small = codes "SmallVec"
head_name Repeats = codes "Repeats"

-- The word is no name that the grammar knows.
pub record IsUnknown (w : List ℕ) : Type 0 where
  pub no_leaf : (l : Leaf) → w ≢ leaf_name l
  pub no_head : (h : Head) → w ≢ head_name h
  pub no_result : w ≢ codes "Result"
  pub no_texts : w ≢ codes "Strings"
  pub no_lookbacks : w ≢ codes "Lookbacks"
  pub no_struct : w ≢ codes "struct"
  pub no_enum : w ≢ codes "enum"

-- `name<t>`
abbrev pub inside : List ℕ → List (List ℕ) → List (List ℕ)
inside name t = name ∷ (marks (codes "<") ++ (t ++ marks (codes ">")))

-- two lists of tokens with a comma between them
abbrev pub with_comma : List (List ℕ) → List (List ℕ) → List (List ℕ)
with_comma t u = t ++ (marks (codes ",") ++ u)

-- a comma, or nothing
abbrev pub last_comma : Bool → List (List ℕ)
last_comma true = marks (codes ",")
last_comma false = []

-- the digits write the number
abbrev pub Writes : List ℕ → ℕ → Type 0
Writes ds n = IsNumeral 10 ds × (digits_value 10 ds ≡ n)

-- `[t; d]`
abbrev pub array_of : List (List ℕ) → List ℕ → List (List ℕ)
array_of t d = marks (codes "[") ++ (t ++ (marks (codes ";") ++ (d ∷ marks (codes "]"))))

-- nothing, or a comma and a number of at most 255: how many values a column of lookbacks looks back. Its bytes are the same.
pub data IsLimit : List (List ℕ) → Type 0 where
  unlimited : IsLimit []
  limited : {n : ℕ} (d : List ℕ) → Writes d n → n ≤ 255 → IsLimit (marks (codes ",") ++ (d ∷ []))

-- What tokens stand for: one type; the rest of the fields of a tuple, from the second on; what follows the name of a
-- struct; a field with its name; such fields; a variant; variants; the value of a variant, which JSON writes between these
-- brackets.
pub data Part : Type 0 where
  a_type : Part
  other_types : Part
  struct_body : Part
  a_field : Part
  all_fields : Part
  a_case : Part
  all_cases : Part
  case_value : Brackets → Part

-- What a type is read in: the bounds of `Vec<T>`, and the tokens of a source whose declarations it may name.
pub record Scope : Type 0 where
  pub bounds : Bounds
  pub source : List (List ℕ)

-- Tokens name a type, or a part of one. A struct has the columns of the tuple of its fields, an enum a column for the
-- values of each variant: that of its one field, the tuple of several, or that of `()`. The fields of a struct, of a
-- variant, and the variants of an enum have different names. A word that the grammar does not know stands for the type
-- that the source declares with this name.
pub data NamesIn (scope : Scope) : Part → List (List ℕ) → Schema → Type 0 where
  leaf : (l : Leaf) → NamesIn scope a_type (tokens (leaf_name l)) (Simple l)
  boxed : {t : List (List ℕ)} {s : Schema} → NamesIn scope a_type t s → NamesIn scope a_type (inside (codes "Box") t) s
  optional : {t : List (List ℕ)} {s : Schema} {p : _} → NamesIn scope a_type t s → NamesIn scope a_type (inside (codes "Option") t) (Optional' p s)
  listed : {t : List (List ℕ)} {s : Schema} {p : _} → NamesIn scope a_type t s → NamesIn scope a_type (inside (codes "Vec") t) (Lists' scope.bounds p s)
  numbered : {t : List (List ℕ)} {s : Schema} {p : _} → NamesIn scope a_type t s → NamesIn scope a_type (inside (codes "SmallVec") t) (Lists' Words p s)
  fallible : {t u : List (List ℕ)} {s e : Schema} {p q : _} → NamesIn scope a_type t s → NamesIn scope a_type u e → NamesIn scope a_type (inside (codes "Result") (with_comma t u)) (Fallible' p s q e)
  solo : {t : List (List ℕ)} {s : Schema} {p : _} → NamesIn scope a_type t s → NamesIn scope a_type (marks (codes "(") ++ (t ++ marks (codes ",)"))) (Solo' Square p s)
  tuple : {t u : List (List ℕ)} {s r : Schema} {p q : _} → NamesIn scope a_type t s → NamesIn scope other_types u r → NamesIn scope a_type (marks (codes "(") ++ (with_comma t u ++ marks (codes ")"))) (Tuple' Square p s q r)
  last : {t : List (List ℕ)} {s : Schema} → NamesIn scope a_type t s → NamesIn scope other_types t s
  more : {t u : List (List ℕ)} {s r : Schema} {p q : _} → NamesIn scope a_type t s → NamesIn scope other_types u r → NamesIn scope other_types (with_comma t u) (Beside' p s q r)
  array : {n : ℕ} {t : List (List ℕ)} {s : Schema} {p : _} (d : List ℕ) → Writes d n → NamesIn scope a_type t s → NamesIn scope a_type (array_of t d) (Array' n p s)
  repeated : {t : List (List ℕ)} {s : Schema} {p : _} → NamesIn scope a_type t s → NamesIn scope a_type (inside (codes "Repeats") t) (Repeated' p s)
  recalled : {t : List (List ℕ)} {s : Schema} {p : _} (w : List (List ℕ)) → IsLimit w → NamesIn scope a_type t s → NamesIn scope a_type (inside (codes "Lookbacks") (t ++ w)) (Recalled' p s)
  structure : (n : List ℕ) {t : List (List ℕ)} {s : Schema} → is_name n ≡ true → NamesIn scope struct_body t s → NamesIn scope a_type (codes "struct" ∷ (n ∷ t)) s
  nothing : NamesIn scope struct_body (marks (codes ";")) (Simple Unit)
  places : {t : List (List ℕ)} {a s : Schema} → NamesIn scope other_types t a → IsGathered Bare Square a s → NamesIn scope struct_body (marks (codes "(") ++ (t ++ marks (codes ");"))) s
  object : {t : List (List ℕ)} {a s : Schema} (c : Bool) → NamesIn scope all_fields t a → IsGathered Curly Curly a s → NamesIn scope struct_body (marks (codes "{") ++ (t ++ (last_comma c ++ marks (codes "}")))) s
  labelled : {t : List (List ℕ)} {s : Schema} {v : Vec ℕ Global} {p : _} → is_name v.items ≡ true → NamesIn scope a_type t s → NamesIn scope a_field (v.items ∷ (marks (codes ":") ++ t)) (Field' v p s)
  last_field : {t : List (List ℕ)} {s : Schema} → NamesIn scope a_field t s → NamesIn scope all_fields t s
  more_fields : {t u : List (List ℕ)} {s r : Schema} {p q : _} → NamesIn scope a_field t s → NamesIn scope all_fields u r → AreApart s r → NamesIn scope all_fields (with_comma t u) (Beside' p s q r)
  sum : (n : List ℕ) {t : List (List ℕ)} {s : Schema} {p : _} (c : Bool) → is_name n ≡ true → NamesIn scope all_cases t s → NamesIn scope a_type (codes "enum" ∷ (n ∷ (marks (codes "{") ++ (t ++ (last_comma c ++ marks (codes "}")))))) (Sum' p s)
  last_case : {t : List (List ℕ)} {s : Schema} → NamesIn scope a_case t s → NamesIn scope all_cases t s
  more_cases : {t u : List (List ℕ)} {s r : Schema} {p q : _} → NamesIn scope a_case t s → NamesIn scope all_cases u r → AreApart s r → NamesIn scope all_cases (with_comma t u) (Beside' p s q r)
  named : {v : Vec ℕ Global} → is_name v.items ≡ true → NamesIn scope a_case (v.items ∷ []) (Named v)
  valued : {t : List (List ℕ)} {s : Schema} {v : Vec ℕ Global} {k : Brackets} {p : _} → is_name v.items ≡ true → NamesIn scope (case_value k) t s → NamesIn scope a_case (v.items ∷ t) (Case' v k p s)
  bare_value : {t : List (List ℕ)} {a s : Schema} → NamesIn scope other_types t a → IsValue Square a s → NamesIn scope (case_value Bare) (marks (codes "(") ++ (t ++ marks (codes ")"))) s
  named_value : {t : List (List ℕ)} {a s : Schema} (c : Bool) → NamesIn scope all_fields t a → IsValue Bare a s → NamesIn scope (case_value Curly) (marks (codes "{") ++ (t ++ (last_comma c ++ marks (codes "}")))) s
  declared : {w : List ℕ} {t : List (List ℕ)} {s : Schema} (after : List (List ℕ)) → is_name w ≡ true → IsUnknown w → declared_in w scope.source ≡ t ++ after → NamesIn scope a_type t s → NamesIn scope a_type (w ∷ []) s

-- a text alone: it names no declaration
abbrev pub alone : Bounds → Scope
alone lists = record { bounds = lists; source = [] }

-- a text among its own declarations
abbrev pub among : Bounds → List ℕ → Scope
among lists source = record { bounds = lists; source = tokens source }

-- what the parser reads a text in
abbrev pub scope_of : Setting → List ℕ → Scope
scope_of set text = record { bounds = set.lists; source = cond set.by_name (tokens text) [] }

-- Tokens name a type, or a part of one, with these bounds of `Vec<T>` and no declaration.
abbrev pub Names : Bounds → Part → List (List ℕ) → Schema → Type 0
Names lists part t s = NamesIn (alone lists) part t s

-- The first declaration of the name is one of the type.
pub record Declares (scope : Scope) (name : List ℕ) (s : Schema) : Type 0 where
  pub words : List (List ℕ)
  pub after : List (List ℕ)
  pub is : declared_in name scope.source ≡ words ++ after
  pub names : NamesIn scope a_type words s

-- From one position to the other, the text continues `begun` so that it stands for the type or the part.
pub record GoesOn (scope : Scope) (part : Part) (begun : List (List ℕ)) (text : List ℕ) (from : ℕ) (s : Schema) (to : ℕ) : Type 0 where
  pub words : List (List ℕ)
  pub names : NamesIn scope part (begun ++ words) s
  pub stands : tokens (drop from text) ≡ words ++ tokens (drop to text)
  pub within : to ≤ length text

-- the text from one position to the other stands for it
abbrev pub Reads : Scope → Part → List ℕ → ℕ → Schema → ℕ → Type 0
Reads scope part text from s to = GoesOn scope part [] text from s to

-- The text begins with a number, and goes on as the rest.
abbrev pub StandsNumber : List ℕ → ℕ → List ℕ → Type 0
StandsNumber text n rest = (d : List ℕ) × (Writes d n × (tokens text ≡ d ∷ tokens rest))

-- The text begins with a limit, and goes on as the rest.
abbrev pub StandsLimit : List ℕ → List ℕ → Type 0
StandsLimit text rest = (w : List (List ℕ)) × (IsLimit w × (tokens text ≡ w ++ tokens rest))
