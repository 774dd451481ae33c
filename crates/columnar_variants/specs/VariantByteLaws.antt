-- Tests of a column of variants, from the tests of its parts.
use Rattle.std.proofs.Common.{◌≡◌, ℕ, suc, ◌+◌, ◌*◌, ◌≤◌, Bool, true, false, ◌&&◌, List, [], ◌∷◌, ◌++◌, length, drop, refl, sym, ◌∙◌, ap, arith, append_assoc, subst}
use Rattle.std.specs.Prelude.{Option, Some, None, nat_eq}
use Rattle.std.proofs.lemmas.List.{drop-drop, map-append}
use Rattle.columnar_base.specs.Format.{Format, Content, both, Fault, fault, moved, moved_one, first, unless, Fits, bytes_held, representable, two_broken}
use Rattle.columnar_base.specs.FaultLaws.{first_found, first_none}
use Rattle.columnar_base.specs.TwoParts.{both_broken}
use Rattle.columnar_base.specs.TwoPartsLaws.{two_moved, two_turns, both_left, both_right, both_none, judged_part, judged_fine, representable_left, two_fits_left, two_fits_right}
use Rattle.columnar_sums.specs.Discriminants.{times, variants_of, discriminant_format}
use Rattle.columnar_variants.specs.Variants.{Bank, leaf, join, variants_format, are_below, is_below}
use Rattle.columnar_variants.specs.VariantLaws.{inner_two, variants_parts, variants_len}
use Rattle.columnar_variants.specs.VariantCounts.{are_told}
use Rattle.columnar_variants.specs.VariantBytes.{own_broken}
use Rattle.columnar_sums.specs.Results.{beside_format}
use Rattle.columnar_sums.specs.ResultLaws.{beside_two}

pub own_parts : (o : ℕ) (below told : Bool) → below ≡ true → told ≡ false → Some (fault 10 o) ≡ first (moved o (own_broken below told))
own_parts o below told p q = let k : o + 0 ≡ o = omega arith in rw (p, q, k) refl

pub own_fine : (o : ℕ) (below told : Bool) → below ≡ true → told ≡ true → None ≡ first (moved o (own_broken below told))
own_fine o below told p q = rw (p, q) refl

-- the rules of the parts come first
pub variants_after : (b : Bank) (x y : Content) (o : ℕ) → moved o ((variants_format b).broken (both x y)) ≡ both_broken b.sides discriminant_format x y o ++ moved o (own_broken (are_below b.size (variants_of y)) (b.told x (λ v. times v (variants_of y))))
variants_after b x y o =
    let p = unless (are_below b.size (variants_of y)) (fault 17 0) in
    let q = unless (b.told x (λ v. times v (variants_of y))) (fault 10 0) in
    let m = map-append (moved_one o) (two_broken b.sides discriminant_format (is_below b) 17 (both x y)) q in
    let t : moved o (two_broken b.sides discriminant_format (is_below b) 17 (both x y)) ≡ both_broken b.sides discriminant_format x y o ++ moved o p = two_moved (inner_two b) x y o ∙ sym (append_assoc (moved o (b.sides.broken x)) (moved (o + b.sides.count) (discriminant_format.broken y)) (moved o p)) in
    let n = map-append (moved_one o) p q in
    m ∙ (ap (λ fs. fs ++ moved o q) t ∙ (append_assoc (both_broken b.sides discriminant_format x y o) (moved o p) (moved o q) ∙ ap (λ fs. both_broken b.sides discriminant_format x y o ++ fs) (sym n)))

-- a part breaks a rule
pub variants_sides : (b : Bank) (x y : Content) (o : ℕ) (z : Fault) → Some z ≡ first (moved o (b.sides.broken x)) → Some z ≡ first (moved o ((variants_format b).broken (both x y)))
variants_sides b x y o z h =
    let k = both_left b.sides discriminant_format x y o z h in
    sym (ap first (variants_after b x y o) ∙ first_found (both_broken b.sides discriminant_format x y o) (moved o (own_broken (are_below b.size (variants_of y)) (b.told x (λ v. times v (variants_of y))))) z (sym k))

pub variants_forms : (b : Bank) (x y : Content) (o : ℕ) (z : Fault) → None ≡ first (moved o (b.sides.broken x)) → Some z ≡ first (moved (o + b.sides.count) (discriminant_format.broken y)) → Some z ≡ first (moved o ((variants_format b).broken (both x y)))
variants_forms b x y o z n h =
    let k = both_right b.sides discriminant_format x y o (Some z) n h in
    sym (ap first (variants_after b x y o) ∙ first_found (both_broken b.sides discriminant_format x y o) (moved o (own_broken (are_below b.size (variants_of y)) (b.told x (λ v. times v (variants_of y))))) z (sym k))

-- no part breaks a rule
pub variants_own : (b : Bank) (x y : Content) (o : ℕ) (below told : Bool) (v : Option Fault) → None ≡ first (moved o (b.sides.broken x)) → None ≡ first (moved (o + b.sides.count) (discriminant_format.broken y)) → below ≡ are_below b.size (variants_of y) → told ≡ b.told x (λ v. times v (variants_of y)) → v ≡ first (moved o (own_broken below told)) → v ≡ first (moved o ((variants_format b).broken (both x y)))
variants_own b x y o below told v n m p q h =
    let k = first_none (both_broken b.sides discriminant_format x y o) (sym (both_none b.sides discriminant_format x y o n m)) in
    let e : first (moved o ((variants_format b).broken (both x y))) ≡ first (moved o (own_broken (are_below b.size (variants_of y)) (b.told x (λ v. times v (variants_of y))))) = ap first (variants_after b x y o) ∙ ap (λ fs. first (fs ++ moved o (own_broken (are_below b.size (variants_of y)) (b.told x (λ v. times v (variants_of y)))))) k in
    h ∙ (rw (p, q) (sym e))

-- two parts one after the other
pub beside_fault : (a b : Format) (x y : Content) (o : ℕ) (z : Fault) → Some z ≡ first (both_broken a b x y o) → Some z ≡ first (moved o ((beside_format a b).broken (both x y)))
beside_fault a b x y o z h = judged_part (beside_two a b) x y o z h

pub beside_fine : (a b : Format) (x y : Content) (o : ℕ) → None ≡ first (both_broken a b x y o) → None ≡ first (moved o ((beside_format a b).broken (both x y)))
beside_fine a b x y o h = judged_fine (beside_two a b) x y o h refl

-- over the slices of a store
pub variants_built : (b : Bank) (ss : List (List ℕ)) (o : ℕ) → (variants_format b).build (drop o ss) ≡ both (b.sides.build (drop o ss)) (discriminant_format.build (drop (o + b.sides.count) ss))
variants_built b ss o = rw (drop-drop b.sides.count o ss) refl

pub beside_built : (a b : Format) (ss : List (List ℕ)) (o : ℕ) → (beside_format a b).build (drop o ss) ≡ both (a.build (drop o ss)) (b.build (drop (o + a.count) ss))
beside_built a b ss o = rw (drop-drop a.count o ss) refl

-- the parts of a representable type
pub sides_representable : (b : Bank) → representable (variants_format b) ≡ true → representable b.sides ≡ true
sides_representable b h = representable_left (inner_two b) h

-- 5 steps for each byte of the variants, and those of the parts
pub variants_turns : (ra rb old mid later new m n o : ℕ) → mid ≤ old + (ra * n + rb * o) → later ≤ mid + 4 * m → new ≤ later + m → ra ≤ 16 → rb ≤ 16 → new ≤ old + 16 * ((n + o) + m)
variants_turns ra rb old mid later new m n o p q r k l =
    let t = two_turns 16 ra rb n o k l in
    omega arith

two_contents : {x x' y y' : Content} → x ≡ x' → y ≡ y' → both x y ≡ both x' y'
two_contents p q = rw (p, q) refl

pub from_built : (f : Format) (o : ℕ) (v : Option Fault) {c d : Content} → c ≡ d → v ≡ first (moved o (f.broken d)) → v ≡ first (moved o (f.broken c))
from_built f o v e h = rw e h

pub variants_sides_at : (b : Bank) (ss : List (List ℕ)) (o : ℕ) (z : Fault) → Some z ≡ first (moved o (b.sides.broken (b.sides.build (drop o ss)))) → Some z ≡ first (moved o ((variants_format b).broken ((variants_format b).build (drop o ss))))
variants_sides_at b ss o z h = from_built (variants_format b) o (Some z) (variants_built b ss o) (variants_sides b (b.sides.build (drop o ss)) (discriminant_format.build (drop (o + b.sides.count) ss)) o z h)

pub variants_forms_at : (b : Bank) (ss : List (List ℕ)) (o m : ℕ) (z : Fault) → m ≡ o + b.sides.count → None ≡ first (moved o (b.sides.broken (b.sides.build (drop o ss)))) → Some z ≡ first (moved m (discriminant_format.broken (discriminant_format.build (drop m ss)))) → Some z ≡ first (moved o ((variants_format b).broken ((variants_format b).build (drop o ss))))
variants_forms_at b ss o m z e n h = from_built (variants_format b) o (Some z) (variants_built b ss o) (variants_forms b (b.sides.build (drop o ss)) (discriminant_format.build (drop (o + b.sides.count) ss)) o z n (subst (λ k. Some z ≡ first (moved k (discriminant_format.broken (discriminant_format.build (drop k ss))))) e h))

pub variants_own_at : (b : Bank) (ss : List (List ℕ)) (o m : ℕ) (y : Content) (below told : Bool) (v : Option Fault) → m ≡ o + b.sides.count → y ≡ discriminant_format.build (drop m ss) → None ≡ first (moved o (b.sides.broken (b.sides.build (drop o ss)))) → None ≡ first (moved m (discriminant_format.broken (discriminant_format.build (drop m ss)))) → below ≡ are_below b.size (variants_of y) → told ≡ b.told (b.sides.build (drop o ss)) (λ k. times k (variants_of y)) → v ≡ first (moved o (own_broken below told)) → v ≡ first (moved o ((variants_format b).broken ((variants_format b).build (drop o ss))))
variants_own_at b ss o m y below told v e w n f p q h =
    let u : y ≡ discriminant_format.build (drop (o + b.sides.count) ss) = subst (λ k. y ≡ discriminant_format.build (drop k ss)) e w in
    from_built (variants_format b) o v (variants_built b ss o ∙ two_contents refl (sym u)) (variants_own b (b.sides.build (drop o ss)) y o below told v n
    (subst (λ k. None ≡ first (moved (o + b.sides.count) (discriminant_format.broken k))) (sym u) (subst (λ k. None ≡ first (moved k (discriminant_format.broken (discriminant_format.build (drop k ss))))) e f))
    p q h)

pub beside_fault_at : (a b : Format) (ss : List (List ℕ)) (o : ℕ) (z : Fault) → Some z ≡ first (both_broken a b (a.build (drop o ss)) (b.build (drop (o + a.count) ss)) o) → Some z ≡ first (moved o ((beside_format a b).broken ((beside_format a b).build (drop o ss))))
beside_fault_at a b ss o z h = from_built (beside_format a b) o (Some z) (beside_built a b ss o) (beside_fault a b (a.build (drop o ss)) (b.build (drop (o + a.count) ss)) o z h)

pub beside_fine_at : (a b : Format) (ss : List (List ℕ)) (o : ℕ) → None ≡ first (both_broken a b (a.build (drop o ss)) (b.build (drop (o + a.count) ss)) o) → None ≡ first (moved o ((beside_format a b).broken ((beside_format a b).build (drop o ss))))
beside_fine_at a b ss o h = from_built (beside_format a b) o None (beside_built a b ss o) (beside_fine a b (a.build (drop o ss)) (b.build (drop (o + a.count) ss)) o h)

ap2_and : (p p' q q' : Bool) → p ≡ p' → q ≡ q' → (p && q) ≡ (p' && q')
ap2_and p p' q q' e f = rw (e, f) refl

and_nothing : (p : Bool) → (p && true) ≡ p
and_nothing true = refl
and_nothing false = refl

-- numbers of rows, for each column
pub leaf_told : (a : Format) (x : Content) (n : ℕ → ℕ) (r : ℕ) → r ≡ length (a.rows x) → are_told (r ∷ []) n ≡ (leaf a).told x n
leaf_told a x n r h = rw h (and_nothing (nat_eq (length (a.rows x)) (n 0)))

pub join_told_at : (a : Format) (b : Bank) (ss : List (List ℕ)) (o r : ℕ) (ls : List ℕ) (n : ℕ → ℕ) → r ≡ length (a.rows (a.build (drop o ss))) → are_told ls (λ v. n (suc v)) ≡ b.told (b.sides.build (drop (o + a.count) ss)) (λ v. n (suc v)) → are_told (r ∷ ls) n ≡ (join a b).told ((join a b).sides.build (drop o ss)) n
join_told_at a b ss o r ls n h k = ap2_and (nat_eq r (n 0)) (nat_eq (length (a.rows (a.build (drop o ss)))) (n 0)) _ _ (ap (λ m. nat_eq m (n 0)) h) k ∙ ap (λ c. (join a b).told c n) (sym (beside_built a b.sides ss o))

-- the slices of the parts fit if those of the whole do
pub sides_fit : (b : Bank) (o : ℕ) (ss : List (List ℕ)) → Fits (variants_format b) o ss → Fits b.sides o ss
sides_fit b o ss h = record {
  room = let r = h.room in omega (arith, r);
  sound = (variants_parts b (rw (variants_built b ss o) at h.sound)).parts;
}

pub forms_fit : (b : Bank) (o m : ℕ) (ss : List (List ℕ)) → m ≡ o + b.sides.count → Fits (variants_format b) o ss → Fits discriminant_format m ss
forms_fit b o m ss e h = rw e (record {
  room = let r = h.room in omega (arith, r);
  sound = (variants_parts b (rw (variants_built b ss o) at h.sound)).forms;
})

pub beside_first : (a b : Format) (o : ℕ) (ss : List (List ℕ)) → Fits (beside_format a b) o ss → Fits a o ss
beside_first a b o ss h = two_fits_left (beside_two a b) o ss h

pub beside_second : (a b : Format) (o : ℕ) (ss : List (List ℕ)) → Fits (beside_format a b) o ss → Fits b (o + a.count) ss
beside_second a b o ss h = two_fits_right (beside_two a b) o ss h

-- as many rows as variants
pub variants_rows_at : (b : Bank) (ss : List (List ℕ)) (o m : ℕ) → m ≡ o + b.sides.count → length (discriminant_format.rows (discriminant_format.build (drop m ss))) ≡ length ((variants_format b).rows ((variants_format b).build (drop o ss)))
variants_rows_at b ss o m e = ap (λ k. length (discriminant_format.rows (discriminant_format.build (drop k ss)))) e ∙ (variants_len b (b.sides.build (drop o ss)) (discriminant_format.build (drop (o + b.sides.count) ss)) ∙ ap (λ c. length ((variants_format b).rows c)) (sym (variants_built b ss o)))

-- the content of the parts
pub variants_content : (b : Bank) (ss : List (List ℕ)) (o m : ℕ) {x y : Content} → x ≡ b.sides.build (drop o ss) → y ≡ discriminant_format.build (drop m ss) → m ≡ o + b.sides.count → both x y ≡ (variants_format b).build (drop o ss)
variants_content b ss o m {x} {y} p q e =
    let k : y ≡ discriminant_format.build (drop (o + b.sides.count) ss) = subst (λ i. y ≡ discriminant_format.build (drop i ss)) e q in
    two_contents p k ∙ sym (variants_built b ss o)

pub beside_content : (a b : Format) (ss : List (List ℕ)) (o m : ℕ) {x y : Content} → x ≡ a.build (drop o ss) → y ≡ b.build (drop m ss) → m ≡ o + a.count → both x y ≡ (beside_format a b).build (drop o ss)
beside_content a b ss o m {x} {y} p q e =
    let k : y ≡ b.build (drop (o + a.count) ss) = subst (λ i. y ≡ b.build (drop i ss)) e q in
    two_contents p k ∙ sym (beside_built a b ss o)

-- the number of bytes of the parts
pub variants_held : (b : Bank) (ss : List (List ℕ)) (o m : ℕ) → m ≡ o + b.sides.count → bytes_held ((variants_format b).build (drop o ss)) ≡ bytes_held (b.sides.build (drop o ss)) + bytes_held (discriminant_format.build (drop m ss))
variants_held b ss o m e = ap bytes_held (variants_built b ss o) ∙ ap (λ k. bytes_held (b.sides.build (drop o ss)) + bytes_held (discriminant_format.build (drop k ss))) (sym e)

pub beside_held : (a b : Format) (ss : List (List ℕ)) (o : ℕ) → bytes_held ((beside_format a b).build (drop o ss)) ≡ bytes_held (a.build (drop o ss)) + bytes_held (b.build (drop (o + a.count) ss))
beside_held a b ss o = ap bytes_held (beside_built a b ss o)
