-- Columns of equal length whose rows have two or more fields: nested pairs of the first part and the rest. The only
-- rule beyond those of the parts is that all parts have the same number of rows. It is checked last, and reported at
-- the first slice of the whole.
use Rattle.std.specs.Prelude.{ℕ, Bool, true, false, List, [], ◌∷◌, length, ◌≡◌, ◌&&◌, nat_eq}
use Rattle.columnar_base.specs.Format.{Format, Content, slice, both, part, plain, Fault, two_broken, IsSound}
use Rattle.columnar_base.specs.Change.{Stayed, WasCut}
use Rattle.columnar_base.specs.Tuples.{pair_format}

-- the format f with other rules
abbrev pub under : (Content → List Fault) → Format → Format
under broken f = record {
  count = f.count;
  sizes = f.sizes;
  aligns = f.aligns;
  turns = f.turns;
  broken = broken;
  rows = f.rows;
  extent = f.extent;
  build = f.build;
  alike = f.alike;
  kin = f.kin;
  refuses = f.refuses;
}

-- one part, or the nested pair of the first part and the rest
abbrev pub nested : Format → List Format → Format
nested a [] = a
nested a (b ∷ fs) = pair_format a (nested b fs)

-- the same parts, of any lengths
abbrev pub sides : Format → List Format → Format
sides a [] = a
sides a (b ∷ fs) = under (two_broken a (sides b fs) (λ x y. true) 0) (nested a (b ∷ fs))

-- each part has n rows
abbrev pub are_level : Format → List Format → ℕ → Content → Bool
are_level a [] n c = nat_eq n (length (a.rows c))
are_level a (b ∷ fs) n (both x y) = nat_eq n (length (a.rows x)) && are_level b fs n y
are_level a (b ∷ fs) n (slice bs) = false
are_level a (b ∷ fs) n (part l u x) = false
are_level a (b ∷ fs) n (plain rs) = false

-- the other parts have as many rows as the first
abbrev pub tuple_level : Format → Format → List Format → Content → Content → Bool
tuple_level a b fs x y = are_level b fs (length (a.rows x)) y

-- two or more parts with equally many rows; for two parts it is the pair
abbrev pub tuple_format : Format → Format → List Format → Format
tuple_format a b fs = under (two_broken a (sides b fs) (tuple_level a b fs) 10) (nested a (b ∷ fs))

-- a sound part of n rows
pub record PartOf (f : Format) (c : Content) (n : ℕ) : Type 0 where
  pub sound : IsSound f c
  pub level : length (f.rows c) ≡ n

-- each part is sound and has n rows
abbrev pub Parts : Format → List Format → Content → ℕ → Type 0
Parts a [] c n = PartOf a c n
Parts a (b ∷ fs) (both x y) n = PartOf a x n × Parts b fs y n
Parts a (b ∷ fs) (slice bs) n = ⊥
Parts a (b ∷ fs) (part l u x) n = ⊥
Parts a (b ∷ fs) (plain rs) n = ⊥

-- each stayed
abbrev pub PartsStayed : Format → List Format → Content → Content → Type 0
PartsStayed a [] c d = Stayed a c d
PartsStayed a (b ∷ fs) (both x y) (both v w) = Stayed a x v × PartsStayed b fs y w
PartsStayed a (b ∷ fs) c d = ⊥

-- each was cut to n rows
abbrev pub PartsCut : Format → List Format → Content → Content → ℕ → Type 0
PartsCut a [] c d n = WasCut a c d n
PartsCut a (b ∷ fs) (both x y) (both v w) n = WasCut a x v n × PartsCut b fs y w n
PartsCut a (b ∷ fs) c d n = ⊥
