-- The rows of the parts of a tuple are the fields of its rows.
use Rattle.std.proofs.Common.{◌≡◌, List, [], ◌∷◌, refl, sym, subst}
use Rattle.columnar_base.specs.Row.{Row}
use Rattle.columnar_base.specs.Format.{Format, Content, slice, both, part, plain, IsSound}
use Rattle.columnar_base.specs.Tuples.{firsts, seconds}
use Rattle.columnar_base.specs.TupleLaws.{pair_parts, firsts-tuples, seconds-tuples}
use Rattle.columnar_base.specs.LongTuples.{nested, tuple_format}
use Rattle.columnar_base.specs.LongTupleLaws.{tuple_same}

-- a sound part with these rows
pub record FieldOf (f : Format) (c : Content) (rs : List Row) : Type 0 where
  pub sound : IsSound f c
  pub rows : f.rows c ≡ rs

-- the parts, each with its fields of the rows
abbrev pub AreFields : Format → List Format → Content → List Row → Type 0
AreFields a [] c rs = FieldOf a c rs
AreFields a (b ∷ fs) (both x y) rs = FieldOf a x (firsts rs) × AreFields b fs y (seconds rs)
AreFields a (b ∷ fs) (slice bs) rs = ⊥
AreFields a (b ∷ fs) (part l u x) rs = ⊥
AreFields a (b ∷ fs) (plain ss) rs = ⊥

pub nested_fields : (a : Format) (fs : List Format) (c : Content) → IsSound (nested a fs) c → AreFields a fs c ((nested a fs).rows c)
nested_fields a [] c s = record { sound = s; rows = refl }
nested_fields a (b ∷ fs) (both x y) s =
    let p = pair_parts a (nested b fs) s in
    let P : List Row → Type 0 = λ rs. AreFields b fs y rs in
    (record { sound = p.left; rows = sym (firsts-tuples (a.rows x) ((nested b fs).rows y) p.level) }, subst P (sym (seconds-tuples (a.rows x) ((nested b fs).rows y) p.level)) (nested_fields b fs y p.right))
nested_fields a (b ∷ fs) (slice bs) s = cc
nested_fields a (b ∷ fs) (part l u x) s = cc
nested_fields a (b ∷ fs) (plain rs) s = cc

pub tuple_fields : (a b : Format) (fs : List Format) (c : Content) → IsSound (tuple_format a b fs) c → AreFields a (b ∷ fs) c ((tuple_format a b fs).rows c)
tuple_fields a b fs c s = nested_fields a (b ∷ fs) c ((tuple_same a b fs).back c s)
