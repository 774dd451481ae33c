-- Types in the text of a source file.
use Rattle.std.proofs.Common.{◌≡◌, ◌⊎◌, inl, inr, ℕ, ◌≤◌, Bool, true, false, List, [], ◌∷◌, ◌++◌, length, refl, sym, ◌∙◌, ap, subst, arith}
use Rattle.std.specs.Prelude.{Err, IfErr, IsErrAnd, Ok, Result, cond}
use Rattle.columnar_syntax.specs.Names.{Declares, Names, NamesIn, Scope, a_type, among, declared, structure, leaf, boxed, optional, listed, numbered, fallible, solo, tuple, leaf_name, array, repeated, recalled, sum}
use Rattle.columnar_syntax.specs.Plain.{ends_well, plain, type_tokens}
use Rattle.columnar_syntax.specs.Declarations.{declared_in}
use Rattle.columnar_syntax.specs.Reading.{NestsWithin}
use Rattle.columnar_syntax.specs.Sources.{in_source}
use Rattle.columnar_syntax.specs.Tokens.{tokens}
use Rattle.columnar_syntax.specs.declared.schema.Bounds.{Bounds}
use Rattle.columnar_syntax.specs.declared.schema.Bounds.TheVariants.{Words, Strides, Unaries}
use Rattle.columnar_syntax.specs.declared.schema.Leaf.{Leaf}
use Rattle.columnar_syntax.specs.declared.schema.Leaf.TheVariants.{Text}
use Rattle.columnar_syntax.specs.declared.schema.Schema.{Schema}
use Rattle.columnar_syntax.specs.declared.text.Mistake.{Mistake}
use Rattle.columnar_syntax.specs.declared.text.Mistake.TheVariants.{Memory, Unended}

leaf_some : (l : Leaf) → 1 ≤ length (tokens (leaf_name l))
leaf_some (Text Words) = omega arith
leaf_some (Text Strides) = omega arith
leaf_some (Text Unaries) = omega arith
leaf_some l = omega arith

-- a type has a token
type_some : {scope : Scope} {t : List (List ℕ)} {s : Schema} → NamesIn scope a_type t s → 1 ≤ length t
type_some (leaf l) = leaf_some l
type_some (boxed n) = omega arith
type_some (optional n) = omega arith
type_some (listed n) = omega arith
type_some (numbered n) = omega arith
type_some (fallible n m) = omega arith
type_some (solo n) = omega arith
type_some (tuple n m) = omega arith
type_some (array d w n) = omega arith
type_some (repeated n) = omega arith
type_some (recalled w l n) = omega arith
type_some (structure v h n) = omega arith
type_some (sum v c h n) = omega arith
type_some (declared a h u d n) = omega arith

nothing_named : {scope : Scope} {t : List (List ℕ)} {s : Schema} → NamesIn scope a_type t s → t ≡ [] → ⊥
nothing_named n e = omega (arith, type_some n, ap length e)

-- a text in which something has no end names no type
pub unended_names_none : (lists : Bounds) (text : List ℕ) (s : Schema) → ends_well text ≡ false → Names lists a_type (type_tokens text) s → ⊥
unended_names_none lists text s h n = nothing_named n (ap (λ c. cond c (tokens (plain text)) []) h)

-- another text has its own tokens
pub ended_tokens : (text shown : List ℕ) → ends_well text ≡ true → shown ≡ plain text → type_tokens text ≡ tokens shown
ended_tokens text shown h e = ap (λ c. cond c (tokens (plain text)) []) h ∙ ap tokens (sym e)

-- what it names, its plain text names
pub plainly_named : (lists : Bounds) (text shown : List ℕ) (s : Schema) (depth : ℕ) → ends_well text ≡ true → shown ≡ plain text → (n : Names lists a_type (type_tokens text) s) → NestsWithin depth n → (m : Names lists a_type (tokens shown) s) × NestsWithin depth m
plainly_named lists text shown s depth h e n d = subst (λ (z : List (List ℕ)). (m : Names lists a_type z s) × NestsWithin depth m) (ended_tokens text shown h e) (n, d)

-- ---- declarations

no_words : (t u : List (List ℕ)) → [] ≡ t ++ u → t ≡ []
no_words [] u e = refl
no_words (w ∷ t) u e = absurd (omega (arith, ap length e))

pub never_declared : {scope : Scope} {t : List (List ℕ)} {s : Schema} (after : List (List ℕ)) → [] ≡ t ++ after → NamesIn scope a_type t s → ⊥
never_declared {scope} {t} after e n = nothing_named n (no_words t after e)

-- no declaration stands in a text in which something has no end
pub unended_declares_none : (lists : Bounds) (source name : List ℕ) (s : Schema) → ends_well source ≡ false → Declares (in_source lists source) name s → ⊥
unended_declares_none lists source name s h d =
    let none : type_tokens source ≡ [] = ap (λ c. cond c (tokens (plain source)) []) h in
    never_declared d.after (sym (ap (declared_in name) none) ∙ d.is) d.names

pub unended_declared : (source name : List ℕ) → ends_well source ≡ false → declared_in name (type_tokens source) ≡ []
unended_declared source name h = ap (λ c. declared_in name (cond c (tokens (plain source)) [])) h

-- the declarations of a source are those of its plain text
pub plain_source : (lists : Bounds) (source shown : List ℕ) → ends_well source ≡ true → shown ≡ plain source → in_source lists source ≡ among lists shown
plain_source lists source shown h e = ap (λ (z : List (List ℕ)). record { bounds = lists; source = z }) (ended_tokens source shown h e)

pub plainly_declared : (lists : Bounds) (source shown name : List ℕ) (s : Schema) (depth : ℕ) → in_source lists source ≡ among lists shown → (d : Declares (in_source lists source) name s) → NestsWithin depth d.names → (m : Declares (among lists shown) name s) × NestsWithin depth m.names
plainly_declared lists source shown name s depth e d h = subst (λ (z : Scope). (m : Declares z name s) × NestsWithin depth m.names) e (d, h)

pub declared_plainly : (lists : Bounds) (source shown name : List ℕ) (s : Schema) → in_source lists source ≡ among lists shown → Declares (among lists shown) name s → Declares (in_source lists source) name s
declared_plainly lists source shown name s e d = subst (λ (z : Scope). Declares z name s) (sym e) d

-- so its refusal is one of memory
pub unended_refused : (lists : Bounds) (source name : List ℕ) (s : Schema) (mistake : Mistake) → (mistake ≡ Memory) ⊎ ((mistake ≡ Unended) × (ends_well source ≡ false)) → Declares (in_source lists source) name s → mistake ≡ Memory
unended_refused lists source name s mistake (inl e) d = e
unended_refused lists source name s mistake (inr p) d = absurd (unended_declares_none lists source name s p.1 d)

-- a result passed on is refused as it was
pub refused_on : {T E : Type 0} {e : E} (r : Result T E) (P : E → Type 0) → IsErrAnd r (λ y. y ≡ e) → P e → IfErr r P
refused_on (Ok v) P h p = absurd h
refused_on (Err x) P h p = subst P (sym h) p
