-- Laws of lists that are built from an earlier form of their bounds and values.
use Rattle.std.proofs.Common.{◌≡◌, ℕ, ◌+◌, ◌-◌, ◌<◌, ◌≤◌, Bool, true, false, ◌||◌, List, [], ◌∷◌, length, take, drop, map, refl, sym, ◌∙◌, ap, arith}
use Rattle.std.proofs.Math.Seq.{take-length}
use Rattle.std.proofs.lemmas.List.{nil_from_length}
use Rattle.std.proofs.lemmas.Bool.{eqb-true, or_left, or_right}
use Rattle.columnar_base.specs.Row.{Row, number}
use Rattle.columnar_base.specs.Format.{Format, Content, both, IsSound, Excess, refuses_more}
use Rattle.columnar_base.specs.ChangeLaws.{true_from}
use Rattle.columnar_base.specs.TwoPartsLaws.{two_form}
use Rattle.columnar_base.specs.declared.fault.GrowError.{GrowError}
use Rattle.columnar_core.specs.Bounds.{rises, numbers, shifted, AreNumbers}
use Rattle.columnar_core.specs.Earlier.{IsEarlier, IsTrueOfNew, IsMadeOf}
use Rattle.columnar_core.specs.EarlierLaws.{earlier_two}
use Rattle.columnar_lists.specs.Lists.{lists_format, cut, joined, ends}
use Rattle.columnar_lists.specs.CutLaws.{joined-cut, ends_cut}
use Rattle.columnar_lists.specs.ListLaws.{lists_two, lists_parts, lists_sound, same_lists, length-lists}

pub earlier_lists : (b' b t' t : Format) → IsEarlier b' b → IsEarlier t' t → IsEarlier (lists_format b' t') (lists_format b t)
earlier_lists b' b t' t g h = earlier_two b' b t' t (lists_format b' t') (lists_format b t) refl refl same_lists g h

pub lists_made : (b' b t' t : Format) {x' x y' y : Content} → IsSound (lists_format b' t') (both x' y') → IsMadeOf b' b x' x → IsMadeOf t' t y' y → IsMadeOf (lists_format b' t') (lists_format b t) (both x' y') (both x y)
lists_made b' b t' t {x'} {x} {y'} {y} s g h =
    let p = lists_parts b' t' s in
    record {
      sound = lists_sound b t (record { bounds = g.sound; values = h.sound; rise = rw (g.rows, h.rows) p.rise });
      rows = rw (g.rows, h.rows) refl;
    }

-- the ends of lists, and their items
shifted_none : (ns : List ℕ) → shifted 0 0 ns ≡ map number ns
shifted_none [] = refl
shifted_none (n ∷ ns) = let e : 0 + (n - 0) ≡ n = omega arith in rw (e, shifted_none ns) refl

lists_ends : (b t : Format) {x y : Content} → AreNumbers b → IsSound (lists_format b t) (both x y) → ends 0 (cut 0 (numbers (b.rows x)) (t.rows y)) ≡ b.rows x
lists_ends b t {x} {y} m s =
    let p = lists_parts b t s in
    ends_cut 0 0 0 0 (numbers (b.rows x)) (length (t.rows y)) (t.rows y) (omega arith) (omega arith) p.rise (omega arith) ∙ shifted_none (numbers (b.rows x)) ∙ sym (m x p.bounds)

lists_items : (b t : Format) {x y : Content} → IsSound (lists_format b t) (both x y) → joined (cut 0 (numbers (b.rows x)) (t.rows y)) ≡ t.rows y
lists_items b t {x} {y} s =
    let p = lists_parts b t s in
    let e : length (t.rows y) - 0 ≡ length (t.rows y) = omega arith in
    joined-cut 0 (numbers (b.rows x)) (length (t.rows y)) (t.rows y) p.rise ∙ (rw e (take-length (t.rows y)))

-- a column without lists has no bounds and no values
no_parts : (b t : Format) {x y : Content} → IsSound (lists_format b t) (both x y) → cut 0 (numbers (b.rows x)) (t.rows y) ≡ [] → (b.rows x ≡ []) × (t.rows y ≡ [])
no_parts b t {x} {y} s e =
    let p = lists_parts b t s in
    let n : length (b.rows x) ≡ 0 = sym (length-lists b t x y) ∙ ap length e in
    let z : b.rows x ≡ [] = nil_from_length (b.rows x) n in
    let r : rises 0 (numbers []) (length (t.rows y)) ≡ true = rw z at p.rise in
    (z, nil_from_length (t.rows y) (sym (eqb-true 0 (length (t.rows y)) r)))

-- A true cause at the bounds is a true cause at the lists: their ends are the old bounds, which rise.
pub lists_not_bounds : (b' b t' t : Format) {x' y' : Content} (error : GrowError) → AreNumbers b' → IsSound (lists_format b' t') (both x' y') → IsTrueOfNew error b (b'.rows x') → IsTrueOfNew error (lists_format b t) (cut 0 (numbers (b'.rows x')) (t'.rows y'))
lists_not_bounds b' b t' t {x'} {y'} error m s h = λ c u e.
    let w = two_form (lists_two b t) c u in
    let v : IsSound (lists_format b t) (both w.left w.right) = rw w.is at u in
    let n = no_parts b t v (rw w.is at e) in
    rw w.is (true_from b (lists_format b t) w.left (both w.left w.right) (b'.rows x') (cut 0 (numbers (b'.rows x')) (t'.rows y')) error
    (λ k z. refused_empty k w.left w.right n.0 z)
    (h w.left (lists_parts b t v).bounds n.0))
  where
    refused_empty : (k : Excess) (x y : Content) → b.rows x ≡ [] → refuses_more b k x (b'.rows x') ≡ true → refuses_more (lists_format b t) k (both x y) (cut 0 (numbers (b'.rows x')) (t'.rows y')) ≡ true
    refused_empty k x y n z =
        let d : ends 0 (cut 0 (numbers (b'.rows x')) (t'.rows y')) ≡ b'.rows x' = lists_ends b' t' m s in
        let q : b.refuses k x 0 (b'.rows x') ≡ true = sym (ap (λ (l : List Row). b.refuses k x (length l) (b'.rows x')) n) ∙ z in
        rw (n, d) (or_left (b.refuses k x 0 (b'.rows x')) (t.refuses k y 0 (joined (cut 0 (numbers (b'.rows x')) (t'.rows y')))) q)

pub lists_not_values : (b' b t' t : Format) {x' y' : Content} (error : GrowError) → IsSound (lists_format b' t') (both x' y') → IsTrueOfNew error t (t'.rows y') → IsTrueOfNew error (lists_format b t) (cut 0 (numbers (b'.rows x')) (t'.rows y'))
lists_not_values b' b t' t {x'} {y'} error s h = λ c u e.
    let w = two_form (lists_two b t) c u in
    let v : IsSound (lists_format b t) (both w.left w.right) = rw w.is at u in
    let n = no_parts b t v (rw w.is at e) in
    rw w.is (true_from t (lists_format b t) w.right (both w.left w.right) (t'.rows y') (cut 0 (numbers (b'.rows x')) (t'.rows y')) error
    (λ k z. refused_empty k w.left w.right n.0 n.1 z)
    (h w.right (lists_parts b t v).values n.1))
  where
    refused_empty : (k : Excess) (x y : Content) → b.rows x ≡ [] → t.rows y ≡ [] → refuses_more t k y (t'.rows y') ≡ true → refuses_more (lists_format b t) k (both x y) (cut 0 (numbers (b'.rows x')) (t'.rows y')) ≡ true
    refused_empty k x y n l z =
        let d : joined (cut 0 (numbers (b'.rows x')) (t'.rows y')) ≡ t'.rows y' = lists_items b' t' s in
        let q : t.refuses k y 0 (t'.rows y') ≡ true = sym (ap (λ (u : List Row). t.refuses k y (length u) (t'.rows y')) l) ∙ z in
        rw (n, d) (or_right (b.refuses k x 0 (ends 0 (cut 0 (numbers (b'.rows x')) (t'.rows y')))) (t.refuses k y 0 (t'.rows y')) q)
