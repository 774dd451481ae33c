-- Earlier forms of tuples, built from those of their parts.
use Rattle.std.proofs.Common.{◌≡◌, ℕ, ◌+◌, ◌<◌, ◌≤◌, List, [], ◌∷◌, length, refl, sym, ◌∙◌, ap, arith, ⊎_elim, inl, inr}
use Rattle.std.specs.Prelude.{◌⊎◌}
use Rattle.std.proofs.lemmas.List.{nil_from_length}
use Rattle.columnar_base.specs.Row.{Row}
use Rattle.columnar_base.specs.Format.{Format, Content, both, IsSound}
use Rattle.columnar_base.specs.ChangeLaws.{true_from}
use Rattle.columnar_base.specs.Tuples.{tuples, pair_format}
use Rattle.columnar_base.specs.TupleLaws.{pair_two, pair_parts, pair_sound, length-pair, same_pair, pair_refuses_left, pair_refuses_right}
use Rattle.columnar_base.specs.TwoPartsLaws.{two_form}
use Rattle.columnar_base.specs.Solos.{solos, solo_format}
use Rattle.columnar_base.specs.SoloLaws.{solo_sound, solo_part, solo_length, onlies-solos, same_solo}
use Rattle.columnar_base.specs.LongTuples.{nested, tuple_format}
use Rattle.columnar_base.specs.LongTupleLaws.{tuple_same, same_parts, same_tuple}
use Rattle.columnar_base.specs.declared.fault.GrowError.{GrowError}
use Rattle.columnar_core.specs.Earlier.{IsEarlier, AreEarlier, counts, IsTrueOfNew, IsMadeOf}

-- a type that is its own earlier form
pub earlier_same : (f : Format) → IsEarlier f f
earlier_same f = inr refl

pub earlier_le : (a' a : Format) → IsEarlier a' a → a'.count ≤ a.count
earlier_le a' a h = ⊎_elim (λ (l : a'.count < a.count). omega arith) (λ (e : a' ≡ a). let k : a'.count ≡ a.count = ap (λ (f : Format). f.count) e in omega arith) h

-- If one of two parts has fewer slices and the other has no more, the whole has fewer; otherwise both parts are the
-- same formats.
pub earlier_two : (a' a b' b f' f : Format) → f'.count ≡ a'.count + b'.count → f.count ≡ a.count + b.count → (a' ≡ a → b' ≡ b → f' ≡ f) → IsEarlier a' a → IsEarlier b' b → IsEarlier f' f
earlier_two a' a b' b f' f p q same g h =
    let m = earlier_le a' a g in
    let n = earlier_le b' b h in
    ⊎_elim (λ (l : a'.count < a.count). inl (omega arith))
    (λ (e : a' ≡ a). ⊎_elim (λ (l : b'.count < b.count). inl (omega arith)) (λ (d : b' ≡ b). inr (same e d)) h)
    g

-- ---- tuples

pub earlier_solo : (a' a : Format) → IsEarlier a' a → IsEarlier (solo_format a') (solo_format a)
earlier_solo a' a h = ⊎_elim (λ (l : a'.count < a.count). inl (omega arith)) (λ (e : a' ≡ a). inr (same_solo e)) h

pub earlier_pair : (a' a b' b : Format) → IsEarlier a' a → IsEarlier b' b → IsEarlier (pair_format a' b') (pair_format a b)
earlier_pair a' a b' b g h = earlier_two a' a b' b (pair_format a' b') (pair_format a b) refl refl same_pair g h

pub no_more : AreEarlier [] []
no_more = inr refl

pub one_more : (a' a : Format) (fs' fs : List Format) → IsEarlier a' a → AreEarlier fs' fs → AreEarlier (a' ∷ fs') (a ∷ fs)
one_more a' a fs' fs g h =
    let m = earlier_le a' a g in
    ⊎_elim (λ (l : counts fs' < counts fs). inl (omega arith))
    (λ (e : fs' ≡ fs).
    let k : counts fs' ≡ counts fs = ap counts e in
    ⊎_elim (λ (l : a'.count < a.count). inl (omega arith)) (λ (d : a' ≡ a). inr (same_parts d e)) g)
    h

nested_count : (a : Format) (fs : List Format) → (nested a fs).count ≡ a.count + counts fs
nested_count a [] = omega arith
nested_count a (b ∷ fs) = ap (λ n. a.count + n) (nested_count b fs)

pub earlier_tuple : (a' a b' b : Format) (fs' fs : List Format) → IsEarlier a' a → AreEarlier (b' ∷ fs') (b ∷ fs) → IsEarlier (tuple_format a' b' fs') (tuple_format a b fs)
earlier_tuple a' a b' b fs' fs g h =
    let m = earlier_le a' a g in
    let p = nested_count b' fs' in
    let q = nested_count b fs in
    ⊎_elim (λ (l : counts (b' ∷ fs') < counts (b ∷ fs)). inl (omega arith))
    (λ (e : b' ∷ fs' ≡ b ∷ fs).
    let k : counts (b' ∷ fs') ≡ counts (b ∷ fs) = ap counts e in
    ⊎_elim (λ (l : a'.count < a.count). inl (omega arith)) (λ (d : a' ≡ a). inr (let u : b' ≡ b = cc in let v : fs' ≡ fs = cc in same_tuple d u v)) g)
    h

-- the column of one part
pub solo_made : (a' a : Format) {x' x : Content} → IsMadeOf a' a x' x → IsMadeOf (solo_format a') (solo_format a) x' x
solo_made a' a g = record { sound = solo_sound a g.sound; rows = ap solos g.rows }

pub solo_not : (a : Format) (rs : List Row) (error : GrowError) → IsTrueOfNew error a rs → IsTrueOfNew error (solo_format a) (solos rs)
solo_not a rs error h = λ c s e.
    let n : a.rows c ≡ [] = nil_from_length (a.rows c) (sym (solo_length a c) ∙ ap length e) in
    true_from a (solo_format a) c c rs (solos rs) error (λ k q. rw (solo_length a c, onlies-solos rs) q) (h c (solo_part a s) n)

-- a pair of both parts
pub pair_made : (a' a b' b : Format) {x' x y' y : Content} → IsSound (pair_format a' b') (both x' y') → IsMadeOf a' a x' x → IsMadeOf b' b y' y → IsMadeOf (pair_format a' b') (pair_format a b) (both x' y') (both x y)
pair_made a' a b' b {x'} {x} {y'} {y} s g h =
    let p = pair_parts a' b' s in
    record {
      sound = pair_sound a b (record { left = g.sound; right = h.sound; level = ap length g.rows ∙ p.level ∙ sym (ap length h.rows) });
      rows = rw (g.rows, h.rows) refl;
    }

-- a pair without rows has none in its parts
no_pairs : (a b : Format) {x y : Content} → IsSound (pair_format a b) (both x y) → tuples (a.rows x) (b.rows y) ≡ [] → (a.rows x ≡ []) × (b.rows y ≡ [])
no_pairs a b {x} {y} s e =
    let n : length (a.rows x) ≡ 0 = sym (length-pair a b s) ∙ ap length e in
    (nil_from_length (a.rows x) n, nil_from_length (b.rows y) (sym (pair_parts a b s).level ∙ n))

-- a true cause at a part is a true cause at the pair
pub pair_not_left : (a' a b' b : Format) {x' y' : Content} (error : GrowError) → IsSound (pair_format a' b') (both x' y') → IsTrueOfNew error a (a'.rows x') → IsTrueOfNew error (pair_format a b) (tuples (a'.rows x') (b'.rows y'))
pair_not_left a' a b' b {x'} {y'} error s h = λ c t e.
    let w = two_form (pair_two a b) c t in
    let u : IsSound (pair_format a b) (both w.left w.right) = rw w.is at t in
    let n = no_pairs a b u (rw w.is at e) in
    rw w.is (true_from a (pair_format a b) w.left (both w.left w.right) (a'.rows x') (tuples (a'.rows x') (b'.rows y')) error
    (λ k v. pair_refuses_left a b (a'.rows x') (b'.rows y') u (pair_parts a' b' s).level k v)
    (h w.left (pair_parts a b u).left n.0))

pub pair_not_right : (a' a b' b : Format) {x' y' : Content} (error : GrowError) → IsSound (pair_format a' b') (both x' y') → IsTrueOfNew error b (b'.rows y') → IsTrueOfNew error (pair_format a b) (tuples (a'.rows x') (b'.rows y'))
pair_not_right a' a b' b {x'} {y'} error s h = λ c t e.
    let w = two_form (pair_two a b) c t in
    let u : IsSound (pair_format a b) (both w.left w.right) = rw w.is at t in
    let n = no_pairs a b u (rw w.is at e) in
    rw w.is (true_from b (pair_format a b) w.right (both w.left w.right) (b'.rows y') (tuples (a'.rows x') (b'.rows y')) error
    (λ k v. pair_refuses_right a b (a'.rows x') (b'.rows y') u (pair_parts a' b' s).level k v)
    (h w.right (pair_parts a b u).right n.1))

-- a tuple, built as its nest
pub tuple_made : (a' a b' b : Format) (fs' fs : List Format) {c d : Content} → IsMadeOf (nested a' (b' ∷ fs')) (nested a (b ∷ fs)) c d → IsMadeOf (tuple_format a' b' fs') (tuple_format a b fs) c d
tuple_made a' a b' b fs' fs {c} {d} g = record { sound = (tuple_same a b fs).there d g.sound; rows = g.rows }

pub tuple_not : (a b : Format) (fs : List Format) (rs : List Row) (error : GrowError) → IsTrueOfNew error (nested a (b ∷ fs)) rs → IsTrueOfNew error (tuple_format a b fs) rs
tuple_not a b fs rs error h = λ c s e. true_from (nested a (b ∷ fs)) (tuple_format a b fs) c c rs rs error (λ k q. q) (h c ((tuple_same a b fs).back c s) e)
