-- The names of fields and variants, part by part.
use Rattle.std.proofs.Common.{◌≡◌, ℕ, List, Bool, true, false, inl, inr, refl}
use Rattle.std.specs.Prelude.{◌↔◌, ◌⊎◌, Vec}
use Rattle.std.specs.Global.{Global}
use Rattle.columnar_syntax.specs.declared.schema.Brackets.{Brackets}
use Rattle.columnar_syntax.specs.declared.schema.Schema.{Schema, Beside', Field', Named, Case'}
use Rattle.columnar_syntax.specs.Distinct.{AreApart, Holds}

pub field_holds : (s : Schema) {v : Vec ℕ Global} {p : _} {t : Schema} (name : List ℕ) (b : Bool) → s ≡ Field' v p t → (b ≡ true) ↔ (v.items ≡ name) → (b ≡ true) ↔ Holds s name
field_holds s name b e h = rw e h

pub named_holds : (s : Schema) {v : Vec ℕ Global} (name : List ℕ) (b : Bool) → s ≡ Named v → (b ≡ true) ↔ (v.items ≡ name) → (b ≡ true) ↔ Holds s name
named_holds s name b e h = rw e h

pub case_holds : (s : Schema) {v : Vec ℕ Global} {k : Brackets} {p : _} {t : Schema} (name : List ℕ) (b : Bool) → s ≡ Case' v k p t → (b ≡ true) ↔ (v.items ≡ name) → (b ≡ true) ↔ Holds s name
case_holds s name b e h = rw e h

-- the first of two parts has the name
pub first_holds : (s : Schema) {p : _} {a : Schema} {q : _} {u : Schema} (name : List ℕ) (b c : Bool) → s ≡ Beside' p a q u → (b ≡ true) ↔ Holds a name → b ≡ true → c ≡ true → (c ≡ true) ↔ Holds s name
first_holds s name b c e h k l = rw e (λ z. inl (h.0 k), λ z. l)

later_of : (a u : Schema) (name : List ℕ) (b c : Bool) → (b ≡ true) ↔ Holds a name → b ≡ false → (c ≡ true) ↔ Holds u name → Holds a name ⊎ Holds u name → c ≡ true
later_of a u name b c h k l (inl z) = let t = h.1 z in cc
later_of a u name b c h k l (inr z) = l.1 z

-- the first of two parts has not the name
pub later_holds : (s : Schema) {p : _} {a : Schema} {q : _} {u : Schema} (name : List ℕ) (b c : Bool) → s ≡ Beside' p a q u → (b ≡ true) ↔ Holds a name → b ≡ false → (c ≡ true) ↔ Holds u name → (c ≡ true) ↔ Holds s name
later_holds s {p} {a} {q} {u} name b c e h k l = rw e (λ z. inr (l.0 z), λ z. later_of a u name b c h k l z)

not_both : (b : Bool) → b ≡ true → b ≡ false → ⊥
not_both true h k = absurd (cc (k))
not_both false h k = absurd (cc (h))

pub field_apart : (s : Schema) {v : Vec ℕ Global} {p : _} {t : Schema} (later : Schema) (b : Bool) → s ≡ Field' v p t → (b ≡ true) ↔ Holds later v.items → b ≡ false → AreApart s later
field_apart s later b e h k = rw e (λ name n l. not_both b (h.1 (rw n l)) k)

pub named_apart : (s : Schema) {v : Vec ℕ Global} (later : Schema) (b : Bool) → s ≡ Named v → (b ≡ true) ↔ Holds later v.items → b ≡ false → AreApart s later
named_apart s later b e h k = rw e (λ name n l. not_both b (h.1 (rw n l)) k)

pub case_apart : (s : Schema) {v : Vec ℕ Global} {k : Brackets} {p : _} {t : Schema} (later : Schema) (b : Bool) → s ≡ Case' v k p t → (b ≡ true) ↔ Holds later v.items → b ≡ false → AreApart s later
case_apart s later b e h k = rw e (λ name n l. not_both b (h.1 (rw n l)) k)

either_apart : (a u later : Schema) (name : List ℕ) → AreApart a later → AreApart u later → Holds a name ⊎ Holds u name → Holds later name → ⊥
either_apart a u later name f g (inl n) l = f name n l
either_apart a u later name f g (inr n) l = g name n l

-- two parts, each of which is apart
pub others_apart : (s : Schema) {p : _} {a : Schema} {q : _} {u : Schema} (later : Schema) → s ≡ Beside' p a q u → AreApart a later → AreApart u later → AreApart s later
others_apart s {p} {a} {q} {u} later e f g = rw e (λ name n l. either_apart a u later name f g n l)

-- ---- a name that both have

abbrev pub Shared : Schema → Schema → Type 0
Shared first later = (n : List ℕ) × (Holds first n × Holds later n)

pub field_shared : (s : Schema) {v : Vec ℕ Global} {p : _} {t : Schema} (later : Schema) (b : Bool) → s ≡ Field' v p t → (b ≡ true) ↔ (Holds later v.items) → b ≡ true → Shared s later
field_shared s {v} later b e h k = (v.items, (rw e refl, h.0 k))

pub named_shared : (s : Schema) {v : Vec ℕ Global} (later : Schema) (b : Bool) → s ≡ Named v → (b ≡ true) ↔ (Holds later v.items) → b ≡ true → Shared s later
named_shared s {v} later b e h k = (v.items, (rw e refl, h.0 k))

pub case_shared : (s : Schema) {v : Vec ℕ Global} {k : Brackets} {p : _} {t : Schema} (later : Schema) (b : Bool) → s ≡ Case' v k p t → (b ≡ true) ↔ (Holds later v.items) → b ≡ true → Shared s later
case_shared s {v} later b e h k = (v.items, (rw e refl, h.0 k))

-- one of two parts has it
pub first_shared : (s : Schema) {p : _} {a : Schema} {q : _} {u : Schema} (later : Schema) → s ≡ Beside' p a q u → Shared a later → Shared s later
first_shared s later e h = (h.0, (rw e (inl h.1.0), h.1.1))

pub later_shared : (s : Schema) {p : _} {a : Schema} {q : _} {u : Schema} (later : Schema) → s ≡ Beside' p a q u → Shared u later → Shared s later
later_shared s later e h = (h.0, (rw e (inr h.1.0), h.1.1))
