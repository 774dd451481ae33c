-- What the parser must read, and what it returns.
use Rattle.std.specs.Prelude.{ℕ, suc, Bool, true, false, List, [], ◌∷◌, ◌++◌, ◌≡◌, ◌≢◌, ◌⊎◌, ◌<◌, ◌≤◌, ◌-◌, ◌^◌, cond, drop, take, codes, nat_eq, Option, Some, None, Result, Ok, Err}
use Rattle.std.specs.List.{All}
use Rattle.columnar_syntax.specs.Declarations.{declared_in}
use Rattle.columnar_syntax.specs.Distinct.{Holds}
use Rattle.columnar_syntax.specs.Names.{NamesIn, Part, a_type, other_types, struct_body, all_fields, a_case, all_cases, leaf, last, boxed, optional, listed, numbered, fallible, solo, tuple, more, leaf_name, array, repeated, recalled, structure, nothing, places, object, labelled, last_field, more_fields, sum, last_case, more_cases, named, valued, bare_value, named_value, declared, IsLimit, Writes, is_name, last_comma, Scope}
use Rattle.columnar_syntax.specs.Tokens.{begins_word, is_blank, is_word_byte, tokens}
use Rattle.columnar_syntax.specs.declared.schema.Leaf.{Leaf}
use Rattle.columnar_syntax.specs.declared.schema.Leaf.TheVariants.{U8, U16, U32, U64, U128, Usize, I8, I16, I32, I64, I128, Isize, F32, F64, Bool as BoolLeaf, Char, Duration, Text}
use Rattle.columnar_syntax.specs.declared.schema.Bounds.TheVariants.{Words}
use Rattle.columnar_syntax.specs.declared.schema.Schema.{Schema}
use Rattle.columnar_syntax.specs.declared.text.Refused.{Refused}
use Rattle.columnar_syntax.specs.declared.text.Mistake.TheVariants.{Memory}

-- the number of letters, digits and `_` before any other byte
abbrev pub word_length : List ℕ → ℕ
word_length [] = 0
word_length (n ∷ ns) = cond (is_word_byte n) (suc (word_length ns)) 0

-- the number of fields or variants
abbrev pub parts_of : {scope : Scope} {part : Part} {t : List (List ℕ)} {s : Schema} → NamesIn scope part t s → ℕ
parts_of (more n m) = suc (parts_of m)
parts_of (more_fields n m d) = suc (parts_of m)
parts_of (more_cases n m d) = suc (parts_of m)
parts_of n = 1

-- Types nest at most this deep, where an enum counts as four, and a name as one more than its declaration: a type that
-- contains itself nests without end. A tuple and the value of a variant have at most ten fields, a struct ten without
-- names or a hundred with names, an enum at most 256 variants, an array at most 2^64 - 1 items.
abbrev pub NestsWithin : {scope : Scope} {part : Part} {t : List (List ℕ)} {s : Schema} → ℕ → NamesIn scope part t s → Type 0
NestsWithin depth (leaf l) = 1 ≤ depth
NestsWithin depth (boxed n) = (1 ≤ depth) × NestsWithin (depth - 1) n
NestsWithin depth (optional n) = (1 ≤ depth) × NestsWithin (depth - 1) n
NestsWithin depth (listed n) = (1 ≤ depth) × NestsWithin (depth - 1) n
NestsWithin depth (numbered n) = (1 ≤ depth) × NestsWithin (depth - 1) n
NestsWithin depth (fallible n m) = (1 ≤ depth) × (NestsWithin (depth - 1) n × NestsWithin (depth - 1) m)
NestsWithin depth (solo n) = (1 ≤ depth) × NestsWithin (depth - 1) n
NestsWithin depth (tuple n m) = (1 ≤ depth) × ((parts_of m ≤ 9) × (NestsWithin (depth - 1) n × NestsWithin (depth - 1) m))
NestsWithin depth (last n) = NestsWithin depth n
NestsWithin depth (more n m) = NestsWithin depth n × NestsWithin depth m
NestsWithin depth (array {n} d w m) = (1 ≤ depth) × ((n < 2 ^ 64) × NestsWithin (depth - 1) m)
NestsWithin depth (repeated n) = (1 ≤ depth) × NestsWithin (depth - 1) n
NestsWithin depth (recalled w l n) = (1 ≤ depth) × NestsWithin (depth - 1) n
NestsWithin depth (structure v h n) = (1 ≤ depth) × NestsWithin (depth - 1) n
NestsWithin depth nothing = Unit
NestsWithin depth (places n g) = (parts_of n ≤ 10) × NestsWithin depth n
NestsWithin depth (object c n g) = (parts_of n ≤ 100) × NestsWithin depth n
NestsWithin depth (labelled h n) = NestsWithin depth n
NestsWithin depth (last_field n) = NestsWithin depth n
NestsWithin depth (more_fields n m d) = NestsWithin depth n × NestsWithin depth m
NestsWithin depth (sum v c h n) = (1 ≤ depth) × ((parts_of n ≤ 256) × NestsWithin (depth - 4) n)
NestsWithin depth (last_case n) = NestsWithin depth n
NestsWithin depth (more_cases n m d) = NestsWithin depth n × NestsWithin depth m
NestsWithin depth (named h) = Unit
NestsWithin depth (valued h n) = NestsWithin depth n
NestsWithin depth (bare_value n g) = (parts_of n ≤ 10) × NestsWithin depth n
NestsWithin depth (named_value c n g) = (parts_of n ≤ 10) × NestsWithin depth n
NestsWithin depth (declared after h u e n) = (1 ≤ depth) × NestsWithin (depth - 1) n

-- the position was reached from which the rest of the tokens follow, unless there was no memory
abbrev pub Reaches : Result (Schema × ℕ) Refused → List ℕ → List (List ℕ) → Type 0
Reaches (Ok read) text rest = tokens (drop read.1 text) ≡ rest
Reaches (Err why) text rest = why.mistake ≡ Memory

-- the same, and what was read has no names but those of the fields or variants
abbrev pub ReachesAs : Result (Schema × ℕ) Refused → List ℕ → List (List ℕ) → Schema → Type 0
ReachesAs (Ok read) text rest s = (tokens (drop read.1 text) ≡ rest) × ((n : List ℕ) → Holds read.0 n → Holds s n)
ReachesAs (Err why) text rest s = why.mistake ≡ Memory

-- the same, and what was read has no name but this
abbrev pub ReachesName : Result (Schema × ℕ) Refused → List ℕ → List (List ℕ) → List ℕ → Type 0
ReachesName (Ok read) text rest name = (tokens (drop read.1 text) ≡ rest) × ((n : List ℕ) → Holds read.0 n → name ≡ n)
ReachesName (Err why) text rest name = why.mistake ≡ Memory

-- the position was reached from which the rest of the tokens follow
abbrev pub Passes : Result ℕ Refused → List ℕ → List (List ℕ) → Type 0
Passes (Ok next) text rest = tokens (drop next text) ≡ rest
Passes (Err why) text rest = ⊥

-- the same, if there is such a token
abbrev pub PassesSome : Option ℕ → List ℕ → List (List ℕ) → Type 0
PassesSome (Some next) text rest = tokens (drop next text) ≡ rest
PassesSome None text rest = ⊥

-- the same after a number
abbrev pub PassesNumber : Result (ℕ × ℕ) Refused → List ℕ → List (List ℕ) → Type 0
PassesNumber (Ok read) text rest = tokens (drop read.1 text) ≡ rest
PassesNumber (Err why) text rest = ⊥

-- the bytes between two positions
abbrev pub between : ℕ × ℕ → List ℕ → List ℕ
between p text = take (p.1 - p.0) (drop p.0 text)

-- the same after this word
abbrev pub PassesWord : Result (ℕ × ℕ) Refused → List ℕ → List ℕ → List (List ℕ) → Type 0
PassesWord (Ok p) text word rest = (between p text ≡ word) × (tokens (drop p.1 text) ≡ rest)
PassesWord (Err why) text word rest = ⊥

-- the first token begins with this byte
abbrev pub first_is : ℕ → List (List ℕ) → Bool
first_is k [] = false
first_is k ([] ∷ ws) = false
first_is k ((n ∷ ns) ∷ ws) = nat_eq n k

-- a blank comes first
abbrev pub begins_blank : List ℕ → Bool
begins_blank [] = false
begins_blank (n ∷ ns) = is_blank n

-- the first token
abbrev pub first_token : List (List ℕ) → List ℕ
first_token [] = []
first_token (w ∷ ws) = w

-- the types without parts whose names are words
abbrev pub unsigned_leaves : List Leaf
unsigned_leaves = U8 ∷ U16 ∷ U32 ∷ U64 ∷ U128 ∷ Usize ∷ []

abbrev pub signed_leaves : List Leaf
signed_leaves = I8 ∷ I16 ∷ I32 ∷ I64 ∷ I128 ∷ Isize ∷ []

abbrev pub other_leaves : List Leaf
other_leaves = F32 ∷ F64 ∷ BoolLeaf ∷ Char ∷ Duration ∷ Text Words ∷ []

-- the word names none of them
abbrev pub NamesNone : List ℕ → List Leaf → Type 0
NamesNone word ls = All (λ l. word ≢ leaf_name l) ls

-- The parser's result for tokens from which it reads a type: if they begin with the name of a type, the position after it
-- was reached, unless there was no memory.
abbrev pub ReadsType : Scope → ℕ → List ℕ → List (List ℕ) → Result (Schema × ℕ) Refused → Type 0
ReadsType scope depth text from result = (t rest : List (List ℕ)) (s : Schema) (n : NamesIn scope a_type t s) → from ≡ t ++ rest → NestsWithin depth n → Reaches result text rest

-- the same for a type of one part, after its name
abbrev pub ReadsPart : Scope → ℕ → List ℕ → List (List ℕ) → Result (Schema × ℕ) Refused → Type 0
ReadsPart scope depth text from result = (t rest : List (List ℕ)) (s : Schema) (n : NamesIn scope a_type t s) → from ≡ (60 ∷ []) ∷ (t ++ ((62 ∷ []) ∷ rest)) → NestsWithin depth n → Reaches result text rest

-- for a result, after its name
abbrev pub ReadsParts : Scope → ℕ → List ℕ → List (List ℕ) → Result (Schema × ℕ) Refused → Type 0
ReadsParts scope depth text from result = (t u rest : List (List ℕ)) (s e : Schema) (n : NamesIn scope a_type t s) (m : NamesIn scope a_type u e) → from ≡ (60 ∷ []) ∷ (t ++ ((44 ∷ []) ∷ (u ++ ((62 ∷ []) ∷ rest)))) → NestsWithin depth n → NestsWithin depth m → Reaches result text rest

-- for texts, after `Strings`
abbrev pub ReadsTexts : List ℕ → List (List ℕ) → Result (Schema × ℕ) Refused → Type 0
ReadsTexts text from result = (name : List ℕ) (rest : List (List ℕ)) → ((name ≡ codes "Strides") ⊎ (name ≡ codes "Unaries")) → from ≡ (60 ∷ []) ∷ (name ∷ ((62 ∷ []) ∷ rest)) → Reaches result text rest

-- for the fields of a tuple, at most so many, before `)`
abbrev pub ReadsFields : Scope → ℕ → ℕ → List ℕ → List (List ℕ) → Result (Schema × ℕ) Refused → Type 0
ReadsFields scope depth most text from result = (u rest : List (List ℕ)) (r : Schema) (m : NamesIn scope other_types u r) → from ≡ u ++ ((41 ∷ []) ∷ rest) → NestsWithin depth m → parts_of m ≤ most → Reaches result text ((41 ∷ []) ∷ rest)

-- for `()`, after `(`
abbrev pub ReadsUnit : List ℕ → List (List ℕ) → Result (Schema × ℕ) Refused → Type 0
ReadsUnit text from result = (rest : List (List ℕ)) → from ≡ (41 ∷ []) ∷ rest → Reaches result text rest

-- for a tuple of one field, after `(`
abbrev pub ReadsSolo : Scope → ℕ → List ℕ → List (List ℕ) → Result (Schema × ℕ) Refused → Type 0
ReadsSolo scope depth text from result = (t rest : List (List ℕ)) (s : Schema) (n : NamesIn scope a_type t s) → from ≡ t ++ ((44 ∷ []) ∷ ((41 ∷ []) ∷ rest)) → NestsWithin depth n → Reaches result text rest

-- for a tuple of several fields, after `(`
abbrev pub ReadsTuple : Scope → ℕ → List ℕ → List (List ℕ) → Result (Schema × ℕ) Refused → Type 0
ReadsTuple scope depth text from result = (t u rest : List (List ℕ)) (s r : Schema) (n : NamesIn scope a_type t s) (m : NamesIn scope other_types u r) → from ≡ t ++ ((44 ∷ []) ∷ (u ++ ((41 ∷ []) ∷ rest))) → NestsWithin depth n → NestsWithin depth m → parts_of m ≤ 9 → Reaches result text rest

-- for an array, after `[`
abbrev pub ReadsArray : Scope → ℕ → List ℕ → List (List ℕ) → Result (Schema × ℕ) Refused → Type 0
ReadsArray scope depth text from result = (t rest : List (List ℕ)) (d : List ℕ) (i : ℕ) (s : Schema) (n : NamesIn scope a_type t s) → from ≡ t ++ ((59 ∷ []) ∷ (d ∷ ((93 ∷ []) ∷ rest))) → Writes d i → i < 2 ^ 64 → NestsWithin depth n → Reaches result text rest

-- for lookbacks, after `Lookbacks`
abbrev pub ReadsRecalled : Scope → ℕ → List ℕ → List (List ℕ) → Result (Schema × ℕ) Refused → Type 0
ReadsRecalled scope depth text from result = (t w rest : List (List ℕ)) (s : Schema) (n : NamesIn scope a_type t s) → from ≡ (60 ∷ []) ∷ (t ++ (w ++ ((62 ∷ []) ∷ rest))) → IsLimit w → NestsWithin depth n → Reaches result text rest

-- for a field with its name
abbrev pub ReadsField : Scope → ℕ → List ℕ → List (List ℕ) → Result (Schema × ℕ) Refused → Type 0
ReadsField scope depth text from result = (name : List ℕ) (t rest : List (List ℕ)) (s : Schema) (n : NamesIn scope a_type t s) → from ≡ name ∷ ((58 ∷ []) ∷ (t ++ rest)) → is_name name ≡ true → NestsWithin depth n → ReachesName result text rest name

-- for fields with names, at most so many, before `}` or a comma and `}`
abbrev pub ReadsNamedFields : Scope → ℕ → ℕ → List ℕ → List (List ℕ) → Result (Schema × ℕ) Refused → Type 0
ReadsNamedFields scope depth most text from result = (u rest : List (List ℕ)) (c : Bool) (r : Schema) (m : NamesIn scope all_fields u r) → from ≡ u ++ (last_comma c ++ ((125 ∷ []) ∷ rest)) → NestsWithin depth m → parts_of m ≤ most → ReachesAs result text (last_comma c ++ ((125 ∷ []) ∷ rest)) r

-- for the fields of a struct, after `{`
abbrev pub ReadsObject : Scope → ℕ → List ℕ → List (List ℕ) → Result (Schema × ℕ) Refused → Type 0
ReadsObject scope depth text from result = (u rest : List (List ℕ)) (c : Bool) (r : Schema) (m : NamesIn scope all_fields u r) → from ≡ u ++ (last_comma c ++ ((125 ∷ []) ∷ rest)) → NestsWithin depth m → parts_of m ≤ 100 → Reaches result text rest

-- for the fields of a struct without names, after `(`
abbrev pub ReadsPlaces : Scope → ℕ → List ℕ → List (List ℕ) → Result (Schema × ℕ) Refused → Type 0
ReadsPlaces scope depth text from result = (u rest : List (List ℕ)) (r : Schema) (m : NamesIn scope other_types u r) → from ≡ u ++ ((41 ∷ []) ∷ ((59 ∷ []) ∷ rest)) → NestsWithin depth m → parts_of m ≤ 10 → Reaches result text rest

-- for what follows the name of a struct
abbrev pub ReadsBody : Scope → ℕ → List ℕ → List (List ℕ) → Result (Schema × ℕ) Refused → Type 0
ReadsBody scope depth text from result = (t rest : List (List ℕ)) (s : Schema) (n : NamesIn scope struct_body t s) → from ≡ t ++ rest → NestsWithin depth n → Reaches result text rest

-- for a struct, after `struct`
abbrev pub ReadsStruct : Scope → ℕ → List ℕ → List (List ℕ) → Result (Schema × ℕ) Refused → Type 0
ReadsStruct scope depth text from result = (name : List ℕ) (t rest : List (List ℕ)) (s : Schema) (n : NamesIn scope struct_body t s) → from ≡ name ∷ (t ++ rest) → is_name name ≡ true → NestsWithin depth n → Reaches result text rest

-- for the fields of a variant without names, after its name and `(`
abbrev pub ReadsBareValue : Scope → ℕ → List ℕ → List ℕ → List (List ℕ) → Result (Schema × ℕ) Refused → Type 0
ReadsBareValue scope depth text name from result = (u rest : List (List ℕ)) (r : Schema) (m : NamesIn scope other_types u r) → from ≡ u ++ ((41 ∷ []) ∷ rest) → NestsWithin depth m → parts_of m ≤ 10 → ReachesName result text rest name

-- for the fields of a variant with names, after its name and `{`
abbrev pub ReadsNamedValue : Scope → ℕ → List ℕ → List ℕ → List (List ℕ) → Result (Schema × ℕ) Refused → Type 0
ReadsNamedValue scope depth text name from result = (u rest : List (List ℕ)) (c : Bool) (r : Schema) (m : NamesIn scope all_fields u r) → from ≡ u ++ (last_comma c ++ ((125 ∷ []) ∷ rest)) → NestsWithin depth m → parts_of m ≤ 10 → ReachesName result text rest name

-- no value of a variant follows
abbrev pub EndsCase : List (List ℕ) → Type 0
EndsCase rest = (first_is 40 rest ≡ false) × (first_is 123 rest ≡ false)

-- for a variant
abbrev pub ReadsCase : Scope → ℕ → List ℕ → List (List ℕ) → Result (Schema × ℕ) Refused → Type 0
ReadsCase scope depth text from result = (t rest : List (List ℕ)) (s : Schema) (n : NamesIn scope a_case t s) → from ≡ t ++ rest → EndsCase rest → NestsWithin depth n → ReachesAs result text rest s

-- for variants, at most so many, before `}` or a comma and `}`
abbrev pub ReadsCases : Scope → ℕ → ℕ → List ℕ → List (List ℕ) → Result (Schema × ℕ) Refused → Type 0
ReadsCases scope depth most text from result = (u rest : List (List ℕ)) (c : Bool) (r : Schema) (m : NamesIn scope all_cases u r) → from ≡ u ++ (last_comma c ++ ((125 ∷ []) ∷ rest)) → NestsWithin depth m → parts_of m ≤ most → ReachesAs result text (last_comma c ++ ((125 ∷ []) ∷ rest)) r

-- for an enum, after `enum`
abbrev pub ReadsEnum : Scope → ℕ → List ℕ → List (List ℕ) → Result (Schema × ℕ) Refused → Type 0
ReadsEnum scope depth text from result = (name : List ℕ) (u rest : List (List ℕ)) (c : Bool) (r : Schema) (m : NamesIn scope all_cases u r) → from ≡ name ∷ ((123 ∷ []) ∷ (u ++ (last_comma c ++ ((125 ∷ []) ∷ rest)))) → is_name name ≡ true → NestsWithin depth m → parts_of m ≤ 256 → Reaches result text rest

-- for a word that stands for the type of its declaration, after this word
abbrev pub ReadsDeclared : Scope → ℕ → List ℕ → List ℕ → List (List ℕ) → Result (Schema × ℕ) Refused → Type 0
ReadsDeclared scope depth text word from result = (t after : List (List ℕ)) (s : Schema) (n : NamesIn scope a_type t s) → declared_in word scope.source ≡ t ++ after → NestsWithin depth n → Reaches result text from

-- for a type that begins with a word, after this word
abbrev pub ReadsNamed : Scope → ℕ → List ℕ → List ℕ → List (List ℕ) → Result (Schema × ℕ) Refused → Type 0
ReadsNamed scope depth text word from result = (t rest : List (List ℕ)) (s : Schema) (n : NamesIn scope a_type t s) → word ≡ first_token (t ++ rest) → from ≡ drop 1 (t ++ rest) → begins_word word ≡ true → (most : ℕ) → most - 1 ≡ depth → NestsWithin most n → Reaches result text rest
