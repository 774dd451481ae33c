-- Which rule of trees is broken first, and how many steps validation takes.
use Rattle.std.proofs.Common.{◌≡◌, ℕ, ◌+◌, ◌*◌, ◌-◌, ◌≤◌, true, false, List, [], ◌∷◌, ◌++◌, length, drop, refl, sym, ◌∙◌, ap, subst, arith, append_assoc, append-nil}
use Rattle.std.specs.Prelude.{Some, None, slice_index_or}
use Rattle.std.proofs.lemmas.List.{drop-drop}
use Rattle.std.proofs.Math.Nat.{mul-le-mul_right}
use Rattle.columnar_base.specs.Format.{Format, Content, slice, both, IsSound, IsStorable, Fits, Fault, fault, moved, first, unless, bytes_held}
use Rattle.columnar_base.specs.FaultLaws.{first_found, first_none}
use Rattle.columnar_base.specs.TwoParts.{both_broken}
use Rattle.columnar_base.specs.TwoPartsLaws.{two_moved, two_fits_left, two_fits_right}
use Rattle.columnar_base.specs.Elements.{words_format, first_slice}
use Rattle.columnar_base.specs.WordViews.{words_in}
use Rattle.columnar_base.specs.WordViewLaws.{length-words_in}
use Rattle.columnar_core.specs.StoreLaws.{first_at}
use Rattle.columnar_nested.specs.Pass.{accepts}
use Rattle.columnar_nested.specs.Trees.{nodes_format, trees_keep, trees_format}
use Rattle.columnar_nested.specs.TreesLaws.{nodes_two, trees_two, len_trees}

-- the rules of the words, then those of the values, then the own one, with slices counted from `o`
trees_split : (v : Format) (x y z : Content) (o : ℕ) → moved o ((trees_format v).broken (both x (both y z)))
    ≡ both_broken words_format words_format x y o ++ (moved (o + 2) (v.broken z) ++ moved o (unless (trees_keep v x (both y z)) (fault 18 0)))
trees_split v x y z o =
    let p = two_moved (trees_two v) x (both y z) o in
    let q = two_moved (nodes_two v) y z (o + 1) in
    let t : (o + 1) + 1 ≡ o + 2 = omega arith in
    let r : moved (o + 1) ((nodes_format v).broken (both y z)) ≡ moved (o + 1) (words_format.broken y) ++ moved (o + 2) (v.broken z) =
    q ∙ (ap (λ i. moved (o + 1) (words_format.broken y) ++ (moved i (v.broken z) ++ [])) t ∙ ap (λ xs. moved (o + 1) (words_format.broken y) ++ xs) (append-nil (moved (o + 2) (v.broken z)))) in
    p ∙ (ap (λ xs. moved o (words_format.broken x) ++ (xs ++ moved o (unless (trees_keep v x (both y z)) (fault 18 0)))) r
    ∙ (ap (λ xs. moved o (words_format.broken x) ++ xs) (append_assoc (moved (o + 1) (words_format.broken y)) (moved (o + 2) (v.broken z)) (moved o (unless (trees_keep v x (both y z)) (fault 18 0))))
    ∙ sym (append_assoc (moved o (words_format.broken x)) (moved (o + 1) (words_format.broken y)) (moved (o + 2) (v.broken z) ++ moved o (unless (trees_keep v x (both y z)) (fault 18 0))))))

-- the words break a rule
pub words_judged : (v : Format) (x y z : Content) (o : ℕ) (f : Fault) → Some f ≡ first (both_broken words_format words_format x y o) → Some f ≡ first (moved o ((trees_format v).broken (both x (both y z))))
words_judged v x y z o f h = sym (ap first (trees_split v x y z o) ∙ first_found (both_broken words_format words_format x y o) (moved (o + 2) (v.broken z) ++ moved o (unless (trees_keep v x (both y z)) (fault 18 0))) f (sym h))

-- the words break no rule: the remaining rules
after_words : (v : Format) (x y z : Content) (o : ℕ) → None ≡ first (both_broken words_format words_format x y o) → moved o ((trees_format v).broken (both x (both y z))) ≡ moved (o + 2) (v.broken z) ++ moved o (unless (trees_keep v x (both y z)) (fault 18 0))
after_words v x y z o h = trees_split v x y z o ∙ ap (λ xs. xs ++ (moved (o + 2) (v.broken z) ++ moved o (unless (trees_keep v x (both y z)) (fault 18 0)))) (first_none (both_broken words_format words_format x y o) (sym h))

-- the values break a rule
pub values_judged : (v : Format) (x y z : Content) (o : ℕ) (f : Fault) → None ≡ first (both_broken words_format words_format x y o) → Some f ≡ first (moved (o + 2) (v.broken z)) → Some f ≡ first (moved o ((trees_format v).broken (both x (both y z))))
values_judged v x y z o f n h = sym (ap first (after_words v x y z o n) ∙ first_found (moved (o + 2) (v.broken z)) (moved o (unless (trees_keep v x (both y z)) (fault 18 0))) f (sym h))

after_values : (v : Format) (x y z : Content) (o : ℕ) → None ≡ first (both_broken words_format words_format x y o) → None ≡ first (moved (o + 2) (v.broken z)) → moved o ((trees_format v).broken (both x (both y z))) ≡ moved o (unless (trees_keep v x (both y z)) (fault 18 0))
after_values v x y z o n m = after_words v x y z o n ∙ ap (λ xs. xs ++ moved o (unless (trees_keep v x (both y z)) (fault 18 0))) (first_none (moved (o + 2) (v.broken z)) (sym m))

-- no part breaks a rule, and the rule of trees is satisfied or not
pub rule_kept : (v : Format) (x y z : Content) (o : ℕ) → None ≡ first (both_broken words_format words_format x y o) → None ≡ first (moved (o + 2) (v.broken z)) → trees_keep v x (both y z) ≡ true → None ≡ first (moved o ((trees_format v).broken (both x (both y z))))
rule_kept v x y z o n m h = sym (ap first (after_values v x y z o n m) ∙ ap (λ b. first (moved o (unless b (fault 18 0)))) h)

pub rule_broken : (v : Format) (x y z : Content) (o : ℕ) → None ≡ first (both_broken words_format words_format x y o) → None ≡ first (moved (o + 2) (v.broken z)) → trees_keep v x (both y z) ≡ false → Some (fault 18 o) ≡ first (moved o ((trees_format v).broken (both x (both y z))))
rule_broken v x y z o n m h =
    let k : o + 0 ≡ o = omega arith in
    sym (ap first (after_values v x y z o n m) ∙ (ap (λ b. first (moved o (unless b (fault 18 0)))) h ∙ ap (λ i. Some (fault 18 i)) k))

-- the same for the slices of a store
pub trees_built : (v : Format) (ss : List (List ℕ)) (o : ℕ) (gs bs : List ℕ) → o + (2 + v.count) ≤ length ss → gs ≡ slice_index_or ss o [] → bs ≡ slice_index_or ss (o + 1) [] → (trees_format v).build (drop o ss) ≡ both (slice gs) (both (slice bs) (v.build (drop (o + 2) ss)))
trees_built v ss o gs bs l g b =
    let d : drop 1 (drop o ss) ≡ drop (o + 1) ss = drop-drop 1 o ss in
    let e : drop 1 (drop (o + 1) ss) ≡ drop ((o + 1) + 1) ss = drop-drop 1 (o + 1) ss in
    let t : (o + 1) + 1 ≡ o + 2 = omega arith in
    let p = first_at ss o gs (omega (arith, l)) g in
    let q = first_at ss (o + 1) bs (omega (arith, l)) b in
    ap (λ x. both x ((nodes_format v).build (drop 1 (drop o ss)))) p
    ∙ (ap (λ ts. both (slice gs) (both (first_slice ts) (v.build (drop 1 ts)))) d
    ∙ (ap (λ x. both (slice gs) (both x (v.build (drop 1 (drop (o + 1) ss))))) q
    ∙ ap (λ ts. both (slice gs) (both (slice bs) (v.build ts))) (e ∙ ap (λ i. drop i ss) t)))

-- the slices of the parts fit if those of the whole do
pub trees_fit : (v : Format) (o : ℕ) (ss : List (List ℕ)) → Fits (trees_format v) o ss → Fits words_format o ss × (Fits words_format (o + 1) ss × Fits v (o + 2) ss)
trees_fit v o ss f =
    let r = two_fits_right (trees_two v) o ss f in
    let t : (o + 1) + 1 ≡ o + 2 = omega arith in
    let w : Fits v ((o + 1) + 1) ss = two_fits_right (nodes_two v) (o + 1) ss r in
    (two_fits_left (trees_two v) o ss f, (two_fits_left (nodes_two v) (o + 1) ss r, rw t at w))

-- there are no more bounds than bytes
pub bounds_few : (bs : List ℕ) → length (words_in bs) ≤ length bs
bounds_few bs = let l = length-words_in bs in omega (arith, l)

-- the steps for the values and for the bounds
pub turns_both : (v : Format) (gs bs : List ℕ) (z : Content) (t0 t1 t2 : ℕ) → IsStorable v → t1 ≤ t0 + v.turns * bytes_held z → t2 ≤ t1 + length (words_in bs) → t2 ≤ t0 + 16 * bytes_held (both (slice gs) (both (slice bs) z))
turns_both v gs bs z t0 t1 t2 s a b = omega (arith, a, b, bounds_few bs, mul-le-mul_right (bytes_held z) s.swift)

-- the content of the slices of a store
pub record ReadAt (v : Format) (ss : List (List ℕ)) (o : ℕ) (gs bs : List ℕ) : Type 0 where
  pub room : o + (2 + v.count) ≤ length ss
  pub groups : gs ≡ slice_index_or ss o []
  pub bounds : bs ≡ slice_index_or ss (o + 1) []

built_of : (v : Format) (ss : List (List ℕ)) (o : ℕ) (gs bs : List ℕ) → ReadAt v ss o gs bs → (trees_format v).build (drop o ss) ≡ both (slice gs) (both (slice bs) (v.build (drop (o + 2) ss)))
built_of v ss o gs bs r = trees_built v ss o gs bs r.room r.groups r.bounds

pub values_judged_at : (v : Format) (ss : List (List ℕ)) (o : ℕ) (gs bs : List ℕ) (f : Fault) → ReadAt v ss o gs bs → None ≡ first (both_broken words_format words_format (slice gs) (slice bs) o) → Some f ≡ first (moved (o + 2) (v.broken (v.build (drop (o + 2) ss)))) → Some f ≡ first (moved o ((trees_format v).broken ((trees_format v).build (drop o ss))))
values_judged_at v ss o gs bs f r n h = values_judged v (slice gs) (slice bs) (v.build (drop (o + 2) ss)) o f n h ∙ sym (ap (λ c. first (moved o ((trees_format v).broken c))) (built_of v ss o gs bs r))

pub words_judged_at : (v : Format) (ss : List (List ℕ)) (o : ℕ) (gs bs : List ℕ) (f : Fault) → ReadAt v ss o gs bs → Some f ≡ first (both_broken words_format words_format (slice gs) (slice bs) o) → Some f ≡ first (moved o ((trees_format v).broken ((trees_format v).build (drop o ss))))
words_judged_at v ss o gs bs f r h = words_judged v (slice gs) (slice bs) (v.build (drop (o + 2) ss)) o f h ∙ sym (ap (λ c. first (moved o ((trees_format v).broken c))) (built_of v ss o gs bs r))

pub rule_kept_at : (v : Format) (ss : List (List ℕ)) (o : ℕ) (gs bs : List ℕ) {n : ℕ} → ReadAt v ss o gs bs → None ≡ first (both_broken words_format words_format (slice gs) (slice bs) o) → None ≡ first (moved (o + 2) (v.broken (v.build (drop (o + 2) ss)))) → n ≡ length (v.rows (v.build (drop (o + 2) ss))) → accepts (words_in gs) (words_in bs) n ≡ true → None ≡ first (moved o ((trees_format v).broken ((trees_format v).build (drop o ss))))
rule_kept_at v ss o gs bs r n m e h =
    rule_kept v (slice gs) (slice bs) (v.build (drop (o + 2) ss)) o n m (ap (accepts (words_in gs) (words_in bs)) (sym e) ∙ h) ∙ sym (ap (λ c. first (moved o ((trees_format v).broken c))) (built_of v ss o gs bs r))

pub rule_broken_at : (v : Format) (ss : List (List ℕ)) (o : ℕ) (gs bs : List ℕ) {n : ℕ} → ReadAt v ss o gs bs → None ≡ first (both_broken words_format words_format (slice gs) (slice bs) o) → None ≡ first (moved (o + 2) (v.broken (v.build (drop (o + 2) ss)))) → n ≡ length (v.rows (v.build (drop (o + 2) ss))) → accepts (words_in gs) (words_in bs) n ≡ false → Some (fault 18 o) ≡ first (moved o ((trees_format v).broken ((trees_format v).build (drop o ss))))
rule_broken_at v ss o gs bs r n m e h =
    rule_broken v (slice gs) (slice bs) (v.build (drop (o + 2) ss)) o n m (ap (accepts (words_in gs) (words_in bs)) (sym e) ∙ h) ∙ sym (ap (λ c. first (moved o ((trees_format v).broken c))) (built_of v ss o gs bs r))

pub turns_both_at : (v : Format) (ss : List (List ℕ)) (o : ℕ) (gs bs : List ℕ) (t0 t1 t2 : ℕ) → ReadAt v ss o gs bs → IsStorable v → t1 ≤ t0 + v.turns * bytes_held (v.build (drop (o + 2) ss)) → t2 ≤ t1 + length (words_in bs) → t2 ≤ t0 + 16 * bytes_held ((trees_format v).build (drop o ss))
turns_both_at v ss o gs bs t0 t1 t2 r s a b =
    let e = ap bytes_held (built_of v ss o gs bs r) in
    let h = turns_both v gs bs (v.build (drop (o + 2) ss)) t0 t1 t2 s a b in
    omega (arith, e, h)

-- the number of trees in accepted slices
pub trees_in : (v : Format) (ss : List (List ℕ)) (o : ℕ) (gs : List ℕ) {n : ℕ} → Fits (trees_format v) o ss → gs ≡ slice_index_or ss o [] → n ≡ length (words_in gs) → n - 1 ≡ length ((trees_format v).rows ((trees_format v).build (drop o ss)))
trees_in v ss o gs f g e =
    let b = trees_built v ss o gs (slice_index_or ss (o + 1) []) f.room g refl in
    let s : IsSound (trees_format v) (both (slice gs) (both (slice (slice_index_or ss (o + 1) [])) (v.build (drop (o + 2) ss)))) = subst (λ c. IsSound (trees_format v) c) b f.sound in
    len_trees v (slice gs) (slice (slice_index_or ss (o + 1) [])) (v.build (drop (o + 2) ss)) s e ∙ ap (λ c. length ((trees_format v).rows c)) (sym b)

-- a view of three parts, each of its slices
pub trees_viewed : (v : Format) (ss : List (List ℕ)) (o a b : ℕ) {x y z : Content} → a ≡ o + 1 → b ≡ a + 1 → x ≡ first_slice (drop o ss) → y ≡ first_slice (drop a ss) → z ≡ v.build (drop b ss) → both x (both y z) ≡ (trees_format v).build (drop o ss)
trees_viewed v ss o a b e f p q r =
    let d : drop 1 (drop o ss) ≡ drop (o + 1) ss = drop-drop 1 o ss in
    let g : drop 1 (drop (o + 1) ss) ≡ drop ((o + 1) + 1) ss = drop-drop 1 (o + 1) ss in
    rw (p, q, r, f, e, d, g) refl
