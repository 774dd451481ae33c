-- Composition of the tokens of enums.
use Rattle.std.proofs.Common.{◌≡◌, ℕ, ◌≤◌, Bool, true, false, List, [], ◌∷◌, ◌++◌, length, drop, sym, ◌∙◌, ap, subst, append_assoc}
use Rattle.std.specs.Prelude.{codes, Vec}
use Rattle.std.specs.Global.{Global}
use Rattle.columnar_syntax.specs.declared.schema.Brackets.{Brackets}
use Rattle.columnar_syntax.specs.declared.schema.Brackets.TheVariants.{Square, Curly, Bare}
use Rattle.columnar_syntax.specs.declared.schema.Schema.{Schema, Tuple', Beside', Sum', Named, Case'}
use Rattle.columnar_syntax.specs.Distinct.{AreApart}
use Rattle.columnar_syntax.specs.Gathered.{IsValue, is_beside, of_field, of_fields}
use Rattle.columnar_syntax.specs.NameLaws.{two_stand}
use Rattle.columnar_syntax.specs.Names.{NamesIn, GoesOn, Reads, a_case, a_type, all_cases, all_fields, bare_value, case_value, is_name, last_case, last_comma, more_cases, named, named_value, other_types, sum, valued, with_comma, Scope}
use Rattle.columnar_syntax.specs.Tokens.{marks, tokens}

-- the parts in boxes have their names
pub sum_named : (a b : Schema) {p : _} → b ≡ a → (scope : Scope) (n : List ℕ) (t : List (List ℕ)) (c : Bool) → is_name n ≡ true → NamesIn scope all_cases t a → NamesIn scope a_type (codes "enum" ∷ (n ∷ (marks (codes "{") ++ (t ++ (last_comma c ++ marks (codes "}")))))) (Sum' p b)
sum_named a b e scope n t c h k = rw e (sum n c h k)

pub cases_named : (a b c d : Schema) {p q : _} → b ≡ a → d ≡ c → (scope : Scope) (t u : List (List ℕ)) → NamesIn scope a_case t a → NamesIn scope all_cases u c → AreApart a c → NamesIn scope all_cases (with_comma t u) (Beside' p b q d)
cases_named a b c d e f scope t u n m g = rw (e, f) (more_cases n m g)

pub named_named : (name : List ℕ) {v : Vec ℕ Global} → v.items ≡ name → (scope : Scope) → is_name name ≡ true → NamesIn scope a_case (name ∷ []) (Named v)
named_named name {v} e scope h = subst (λ (n : List ℕ). NamesIn scope a_case (n ∷ []) (Named v)) e (named {v = v} (rw e h))

pub valued_named : (a b : Schema) (name : List ℕ) (k : Brackets) {v : Vec ℕ Global} {p : _} → v.items ≡ name → b ≡ a → (scope : Scope) (t : List (List ℕ)) → is_name name ≡ true → NamesIn scope (case_value k) t a → NamesIn scope a_case (name ∷ t) (Case' v k p b)
valued_named a b name k {v} {p} e f scope t h n = subst (λ (z : List ℕ). NamesIn scope a_case (z ∷ t) (Case' v k p b)) e (valued {v = v} (rw e h) (rw f n))

-- the value of a variant, by its fields
pub value_one : (k : Brackets) (a : Schema) → is_beside a ≡ false → IsValue k a a
value_one k a h = of_field h

pub value_several : (k : Brackets) (all : Schema) {p : _} {a : Schema} {q : _} {r : Schema} → all ≡ Beside' p a q r → IsValue k all (Tuple' k p a q r)
value_several k all e = rw e of_fields

-- the fields of a variant after its `(`
pub bare_goes_on : (scope : Scope) (text name : List ℕ) (at n m : ℕ) (a v s : Schema) → is_name name ≡ true → Reads scope other_types text at a n → tokens (drop n text) ≡ (41 ∷ []) ∷ tokens (drop m text) → m ≤ length text → IsValue Square a v → ((z : Scope) (t : List (List ℕ)) → is_name name ≡ true → NamesIn z (case_value Bare) t v → NamesIn z a_case (name ∷ t) s) → GoesOn scope a_case (name ∷ marks (codes "(")) text at s m
bare_goes_on scope text name at n m a v s h r e w g f = record {
  words = r.words ++ marks (codes ")");
  names = f scope (marks (codes "(") ++ (r.words ++ marks (codes ")"))) h (bare_value r.names g);
  stands = r.stands ∙ (ap (λ z. r.words ++ z) e ∙ sym (append_assoc r.words (marks (codes ")")) (tokens (drop m text))));
  within = w;
}

-- the fields with names of a variant after its `{`
pub named_goes_on : (scope : Scope) (text name : List ℕ) (at n m : ℕ) (a v s : Schema) (c : Bool) → is_name name ≡ true → Reads scope all_fields text at a n → tokens (drop n text) ≡ last_comma c ++ ((125 ∷ []) ∷ tokens (drop m text)) → m ≤ length text → IsValue Bare a v → ((z : Scope) (t : List (List ℕ)) → is_name name ≡ true → NamesIn z (case_value Curly) t v → NamesIn z a_case (name ∷ t) s) → GoesOn scope a_case (name ∷ marks (codes "{")) text at s m
named_goes_on scope text name at n m a v s c h r e w g f = record {
  words = r.words ++ (last_comma c ++ marks (codes "}"));
  names = f scope (marks (codes "{") ++ (r.words ++ (last_comma c ++ marks (codes "}")))) h (named_value c r.names g);
  stands = r.stands ∙ (ap (λ z. r.words ++ z) (e ∙ sym (append_assoc (last_comma c) (marks (codes "}")) (tokens (drop m text)))) ∙ sym (append_assoc r.words (last_comma c ++ marks (codes "}")) (tokens (drop m text))));
  within = w;
}

-- the name of a variant, and what continues it after a first mark
pub case_begun : (scope : Scope) (k : ℕ) (text name : List ℕ) (at end n m : ℕ) (s : Schema) → tokens (drop at text) ≡ name ∷ tokens (drop end text) → tokens (drop end text) ≡ (k ∷ []) ∷ tokens (drop n text) → GoesOn scope a_case (name ∷ ((k ∷ []) ∷ [])) text n s m → Reads scope a_case text at s m
case_begun scope k text name at end n m s e f g = record {
  words = name ∷ ((k ∷ []) ∷ g.words);
  names = g.names;
  stands = e ∙ ap (λ z. name ∷ z) (f ∙ ap (λ z. (k ∷ []) ∷ z) g.stands);
  within = g.within;
}

-- the name alone
pub case_bare : (scope : Scope) (text name : List ℕ) (at end : ℕ) (s : Schema) → is_name name ≡ true → tokens (drop at text) ≡ name ∷ tokens (drop end text) → end ≤ length text → ((z : Scope) → is_name name ≡ true → NamesIn z a_case (name ∷ []) s) → Reads scope a_case text at s end
case_bare scope text name at end s h e w f = record {
  words = name ∷ [];
  names = f scope h;
  stands = e;
  within = w;
}

-- the last variant, or one and those after it
pub last_case_reads : (scope : Scope) (text : List ℕ) (at : ℕ) (s : Schema) (n : ℕ) → Reads scope a_case text at s n → Reads scope all_cases text at s n
last_case_reads scope text at s n r = record {
  words = r.words;
  names = last_case r.names;
  stands = r.stands;
  within = r.within;
}

pub more_cases_read : (scope : Scope) (text : List ℕ) (at n m k : ℕ) (a b s : Schema) → Reads scope a_case text at a n → tokens (drop n text) ≡ (44 ∷ []) ∷ tokens (drop m text) → Reads scope all_cases text m b k → AreApart a b → ((z : Scope) (t u : List (List ℕ)) → NamesIn z a_case t a → NamesIn z all_cases u b → AreApart a b → NamesIn z all_cases (with_comma t u) s) → Reads scope all_cases text at s k
more_cases_read scope text at n m k a b s p e q d f = record {
  words = with_comma p.words q.words;
  names = f scope p.words q.words p.names q.names d;
  stands = two_stand p.words q.words (44 ∷ []) (tokens (drop at text)) (tokens (drop n text)) (tokens (drop m text)) (tokens (drop k text)) p.stands e q.stands;
  within = q.within;
}

-- the name of an enum, and its variants
pub enum_goes_on : (scope : Scope) (text name : List ℕ) (at end n m k : ℕ) (a s : Schema) (c : Bool) → is_name name ≡ true → tokens (drop at text) ≡ name ∷ tokens (drop end text) → tokens (drop end text) ≡ (123 ∷ []) ∷ tokens (drop n text) → Reads scope all_cases text n a m → tokens (drop m text) ≡ last_comma c ++ ((125 ∷ []) ∷ tokens (drop k text)) → k ≤ length text → ((z : Scope) (n : List ℕ) (t : List (List ℕ)) (c : Bool) → is_name n ≡ true → NamesIn z all_cases t a → NamesIn z a_type (codes "enum" ∷ (n ∷ (marks (codes "{") ++ (t ++ (last_comma c ++ marks (codes "}")))))) s) → GoesOn scope a_type (codes "enum" ∷ []) text at s k
enum_goes_on scope text name at end n m k a s c h e g r w l f =
    let rest = tokens (drop k text) in
    let closing : tokens (drop n text) ≡ (r.words ++ (last_comma c ++ marks (codes "}"))) ++ rest = r.stands ∙ (ap (λ z. r.words ++ z) (w ∙ sym (append_assoc (last_comma c) (marks (codes "}")) rest)) ∙ sym (append_assoc r.words (last_comma c ++ marks (codes "}")) rest)) in
    record {
      words = name ∷ (marks (codes "{") ++ (r.words ++ (last_comma c ++ marks (codes "}"))));
      names = f scope name r.words c h r.names;
      stands = e ∙ ap (λ z. name ∷ z) (g ∙ ap (λ z. (123 ∷ []) ∷ z) closing);
      within = l;
    }
