-- A column of two variants that is made from an earlier form.
use Rattle.std.proofs.Common.{◌≡◌, ℕ, zero, suc, ◌+◌, ◌<◌, ◌≤◌, Bool, true, ◌||◌, List, [], ◌∷◌, length, take, refl, sym, ◌∙◌, ap, arith, ⊎_elim, inl, inr}
use Rattle.std.specs.Prelude.{slice_index_or}
use Rattle.std.proofs.Math.Seq.{take-length}
use Rattle.std.proofs.lemmas.Bool.{or_left, or_right}
use Rattle.std.proofs.lemmas.List.{nil_from_length}
use Rattle.columnar_core.specs.Row.{Row, unit}
use Rattle.columnar_core.specs.Format.{Format, Content, both, IsSound, Excess, refuses_more}
use Rattle.columnar_core.specs.ChangeLaws.{true_from}
use Rattle.columnar_core.specs.TwoPartsLaws.{two_form}
use Rattle.columnar_core.specs.Elements.{past_count}
use Rattle.columnar_core.specs.Earlier.{IsEarlier, IsTrueOfNew, IsMadeOf}
use Rattle.columnar_core.specs.EarlierLaws.{earlier_le}
use Rattle.columnar_core.specs.declared.fault.GrowError.{GrowError}
use Rattle.columnar_sums.specs.Discriminants.{times, variants_of}
use Rattle.columnar_sums.specs.DiscriminantLaws.{times_most}
use Rattle.columnar_variants.specs.Variants.{of_case, chosen}
use Rattle.columnar_variants.specs.VariantLaws.{variants_parts, variants_sound, variants_number, length-chosen, chosen-same}
use Rattle.columnar_variants.specs.VariantRowLaws.{beside_sound}
use Rattle.columnar_variants.specs.VariantCopyLaws.{of_chosen}
use Rattle.columnar_variants.specs.LawfulVariantLaws.{variants_form}
use Rattle.columnar_variants.specs.Duals.{dual_bank, dual_content, dual_format}
use Rattle.columnar_variants.specs.DualLaws.{dual_law, same_duals, firsts_sound, seconds_sound}
use Rattle.columnar_sums.specs.ResultLaws.{beside_two}

pub earlier_dual : (a' a b' b : Format) → IsEarlier a' a → IsEarlier b' b → IsEarlier (dual_format a' b') (dual_format a b)
earlier_dual a' a b' b g h = ⊎_elim (λ (l : a'.count < a.count). inl (let m = earlier_le b' b h in omega arith))
    (λ (e : a' ≡ a). ⊎_elim (λ (l : b'.count < b.count). inl (let m = earlier_le a' a g in omega arith)) (λ (d : b' ≡ b). inr (same_duals e d)) h)
    g

tables_made : (a' a b' b : Format) {x' x y' y : Content} → a.rows x ≡ a'.rows x' → b.rows y ≡ b'.rows y' → (v : ℕ) → (dual_bank a b).table (both x y) v ≡ (dual_bank a' b').table (both x' y') v
tables_made a' a b' b p q zero = p
tables_made a' a b' b p q (suc zero) = q
tables_made a' a b' b p q (suc (suc v)) = refl

-- the same variants over columns of the same rows
pub dual_made : (a' a b' b : Format) {x' x y' y z : Content} → IsSound (dual_format a' b') (dual_content x' y' z) → IsMadeOf a' a x' x → IsMadeOf b' b y' y → IsMadeOf (dual_format a' b') (dual_format a b) (dual_content x' y' z) (dual_content x y z)
dual_made a' a b' b {x'} {x} {y'} {y} {z} s g h =
    let p = variants_parts (dual_bank a' b') s in
    let vs = variants_of z in
    let t : (v : ℕ) → (dual_bank a b).table (both x y) v ≡ (dual_bank a' b').table (both x' y') v = tables_made a' a b' b g.rows h.rows in
    let k = beside_sound a b g.sound h.sound in
    record {
      sound = variants_sound (dual_bank a b) (record { parts = k; forms = p.forms; below = p.below; told = (dual_law a b).tells_back (both x y) (λ v. times v vs) k (λ v l. ap length (t v) ∙ variants_number (dual_bank a' b') (dual_law a' b') s v l) });
      rows = chosen-same ((dual_bank a b).table (both x y)) ((dual_bank a' b').table (both x' y')) [] vs (λ v o l. ap (λ rs. slice_index_or rs o unit) (t v));
    }

-- the values of the rows of a variant are those of its column
dual_values : (a b : Format) {x y z : Content} → IsSound (dual_format a b) (dual_content x y z) → (v : ℕ) → v < 2 → of_case v ((dual_format a b).rows (dual_content x y z)) ≡ (dual_bank a b).table (both x y) v
dual_values a b {x} {y} {z} s v l =
    let u = (dual_bank a b).table (both x y) in
    let e : length (u v) ≡ times v (variants_of z) = variants_number (dual_bank a b) (dual_law a b) s v l in
    of_chosen u v [] (variants_of z) (omega (arith, e)) ∙ (ap (λ n. take n (u v)) (sym e) ∙ take-length (u v))

-- all rows of a variant
times_held : (a b : Format) {x y z : Content} → IsSound (dual_format a b) (dual_content x y z) → (v : ℕ) → v < 2 → times v (take (length ((dual_format a b).rows (dual_content x y z))) (variants_of z)) ≡ length ((dual_bank a b).table (both x y) v)
times_held a b {x} {y} {z} s v l =
    let vs = variants_of z in
    let n : length (chosen ((dual_bank a b).table (both x y)) [] vs) ≡ length vs = length-chosen ((dual_bank a b).table (both x y)) [] vs in
    let all : take (length (chosen ((dual_bank a b).table (both x y)) [] vs)) vs ≡ vs = ap (λ k. take k vs) n ∙ take-length vs in
    ap (times v) all ∙ sym (variants_number (dual_bank a b) (dual_law a b) s v l)

-- rows that a column refuses, the whole refuses
refuses_first : (a b : Format) {x y z : Content} → IsSound (dual_format a b) (dual_content x y z) → (k : Excess) (rs : List Row) → refuses_more a k x (of_case 0 rs) ≡ true → refuses_more (dual_format a b) k (dual_content x y z) rs ≡ true
refuses_first a b {x} {y} {z} s k rs q =
    let g = ap (λ n. a.refuses k x n (of_case 0 rs)) (times_held a b s 0 (omega arith)) ∙ q in
    or_right _ _ (or_left _ _ g)

refuses_second : (a b : Format) {x y z : Content} → IsSound (dual_format a b) (dual_content x y z) → (k : Excess) (rs : List Row) → refuses_more b k y (of_case 1 rs) ≡ true → refuses_more (dual_format a b) k (dual_content x y z) rs ≡ true
refuses_second a b {x} {y} {z} s k rs q =
    let g = ap (λ n. b.refuses k y n (of_case 1 rs)) (times_held a b s 1 (omega arith)) ∙ q in
    or_right _ _ (or_right _ _ g)

-- without rows no column has any
no_table : (a b : Format) {x y z : Content} → IsSound (dual_format a b) (dual_content x y z) → (dual_format a b).rows (dual_content x y z) ≡ [] → (v : ℕ) → v < 2 → (dual_bank a b).table (both x y) v ≡ []
no_table a b {x} {y} {z} s e v l =
    let vs = variants_of z in
    let n : length (chosen ((dual_bank a b).table (both x y)) [] vs) ≡ length vs = length-chosen ((dual_bank a b).table (both x y)) [] vs in
    let m = ap length e in
    let k = times_most v vs in
    let i = variants_number (dual_bank a b) (dual_law a b) s v l in
    nil_from_length ((dual_bank a b).table (both x y) v) (omega (arith, n, m, k, i))

-- a sound content has both columns and the variants
record DualForm (c : Content) : Type 0 where
  first : Content
  second : Content
  forms : Content
  is : c ≡ dual_content first second forms

dual_form : (a b : Format) (c : Content) → IsSound (dual_format a b) c → DualForm c
dual_form a b c s =
    let f = variants_form (dual_bank a b) c s in
    let p = variants_parts (dual_bank a b) (rw f.is at s) in
    let g = two_form (beside_two a b) f.left p.parts in
    record { first = g.left; second = g.right; forms = f.right; is = f.is ∙ ap (λ d. both d f.right) g.is }

pub dual_not_firsts : (a' a b' b : Format) {x' y' z : Content} (error : GrowError) → IsSound (dual_format a' b') (dual_content x' y' z) → IsTrueOfNew error a (a'.rows x') → IsTrueOfNew error (dual_format a b) ((dual_format a' b').rows (dual_content x' y' z))
dual_not_firsts a' a b' b {x'} {y'} {z} error s h = λ c u e.
    let f = dual_form a b c u in
    let v : IsSound (dual_format a b) (dual_content f.first f.second f.forms) = rw f.is at u in
    let n : a.rows f.first ≡ [] = no_table a b v (rw f.is at e) 0 (omega arith) in
    let rs : List Row = (dual_format a' b').rows (dual_content x' y' z) in
    let d : of_case 0 rs ≡ a'.rows x' = dual_values a' b' s 0 (omega arith) in
    rw f.is (true_from a (dual_format a b) f.first (dual_content f.first f.second f.forms) (a'.rows x') rs error (λ k q. refuses_first a b v k rs (rw d q)) (h f.first (firsts_sound a b v) n))

pub dual_not_seconds : (a' a b' b : Format) {x' y' z : Content} (error : GrowError) → IsSound (dual_format a' b') (dual_content x' y' z) → IsTrueOfNew error b (b'.rows y') → IsTrueOfNew error (dual_format a b) ((dual_format a' b').rows (dual_content x' y' z))
dual_not_seconds a' a b' b {x'} {y'} {z} error s h = λ c u e.
    let f = dual_form a b c u in
    let v : IsSound (dual_format a b) (dual_content f.first f.second f.forms) = rw f.is at u in
    let n : b.rows f.second ≡ [] = no_table a b v (rw f.is at e) 1 (omega arith) in
    let rs : List Row = (dual_format a' b').rows (dual_content x' y' z) in
    let d : of_case 1 rs ≡ b'.rows y' = dual_values a' b' s 1 (omega arith) in
    rw f.is (true_from b (dual_format a b) f.second (dual_content f.first f.second f.forms) (b'.rows y') rs error (λ k q. refuses_second a b v k rs (rw d q)) (h f.second (seconds_sound a b v) n))
