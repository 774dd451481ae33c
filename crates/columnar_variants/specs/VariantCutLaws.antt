-- Truncated variants have the first rows; each part has the values of its variant among them.
use Rattle.std.proofs.Common.{◌≡◌, ℕ, zero, suc, ◌+◌, ◌<◌, ◌≤◌, ◌||◌, cond, [], ◌++◌, length, take, drop, refl, ◌∙◌, ap, arith, length-take, ⊎_elim}
use Rattle.std.specs.Prelude.{nat_eq}
use Rattle.std.proofs.lemmas.Bool.{cases_lt}
use Rattle.std.proofs.lemmas.List.{take-append-drop}
use Rattle.std.proofs.lemmas.List.Sums.{sum_by-append}
use Rattle.columnar_core.specs.Format.{Format, Content, both, IsSound, lengths}
use Rattle.columnar_core.specs.TwoPartsLaws.{two_parts, two_sound}
use Rattle.columnar_core.specs.Change.{WasCut}
use Rattle.columnar_core.specs.Elements.{past_count}
use Rattle.columnar_sums.specs.Discriminants.{times, variants_of, discriminant_format, form_lengths}
use Rattle.columnar_variants.specs.Variants.{Bank, IsBank, BankCut, leaf, join, leaf_table, join_table, variants_format, of_case}
use Rattle.columnar_variants.specs.VariantLaws.{variants_parts, variants_sound, chosen-take, chosen-same}
use Rattle.columnar_variants.specs.VariantListLaws.{take_less, fewer, below-take, none_beyond, index_take}
use Rattle.columnar_sums.specs.ResultLaws.{beside_two}

leaf_front : (a : Format) (x x' : Content) (k : ℕ) (n : ℕ → ℕ) → n 0 ≡ k → a.rows x' ≡ take k (a.rows x) → (v : ℕ) → v < 1 → leaf_table a x' v ≡ take (n v) (leaf_table a x v)
leaf_front a x x' k n e h zero l = rw e h
leaf_front a x x' k n e h (suc v) l = absurd (omega arith)

pub leaf_cut : (a : Format) {x x' : Content} (k : ℕ) (n : ℕ → ℕ) → n 0 ≡ k → WasCut a x x' k → BankCut (leaf a) x x' n
leaf_cut a {x} {x'} k n e t = record {
  front = leaf_front a x x' k n e t.rows;
  lengths_cut = rw e t.lengths_cut;
  rooms = λ m h. t.kept.extents (m 0) (let l = h 0 (omega arith) in omega (arith, l, e));
  limits = λ m h w f. t.kept.limits (m 0) (let l = h 0 (omega arith) in omega (arith, l, e)) w (f 0);
  sound = λ s. t.sound;
}

join_front : (a : Format) (b : Bank) (x x' y y' : Content) (k : ℕ) (n : ℕ → ℕ) → n 0 ≡ k → a.rows x' ≡ take k (a.rows x) → ((v : ℕ) → v < b.size → b.table y' v ≡ take (n (suc v)) (b.table y v)) → (v : ℕ) → v < suc b.size → join_table a b (both x' y') v ≡ take (n v) (join_table a b (both x y) v)
join_front a b x x' y y' k n e h g zero l = rw e h
join_front a b x x' y y' k n e h g (suc v) l = g v (omega arith)

pub join_cut : (a : Format) (b : Bank) {x x' y y' : Content} (k : ℕ) (n : ℕ → ℕ) → n 0 ≡ k → WasCut a x x' k → BankCut b y y' (λ v. n (suc v)) → BankCut (join a b) (both x y) (both x' y') n
join_cut a b {x} {x'} {y} {y'} k n e t u = record {
  front = join_front a b x x' y y' k n e t.rows u.front;
  lengths_cut = rw e (let p = t.lengths_cut in let q = u.lengths_cut in rw (p, q) refl);
  rooms = λ m h. let p : a.extent x' (m 0) ≡ a.extent x (m 0) = t.kept.extents (m 0) (let l = h 0 (omega arith) in omega (arith, l, e)) in let q = u.rooms (λ v. m (suc v)) (λ v l. h (suc v) (omega arith)) in rw (p, q) refl;
  limits = λ m h w f. let p : a.refuses w x' (m 0) (f 0) ≡ a.refuses w x (m 0) (f 0) = t.kept.limits (m 0) (let l = h 0 (omega arith) in omega (arith, l, e)) w (f 0) in let q = u.limits (λ v. m (suc v)) (λ v l. h (suc v) (omega arith)) w (λ v. f (suc v)) in rw (p, q) refl;
  sound = λ s. let p = two_parts (beside_two a b.sides) x y s in two_sound (beside_two a b.sides) x' y' (record { left = t.sound; right = u.sound p.right; own = refl });
}

-- The whole is truncated to m rows if each column is truncated to those of its variant among them, and the variants to
-- m.
pub variants_cut : (b : Bank) → IsBank b → {x x' y y' : Content} (m : ℕ) → IsSound (variants_format b) (both x y) → BankCut b x x' (λ v. times v (take m (variants_of y))) → IsSound discriminant_format y' → variants_of y' ≡ take m (variants_of y) → lengths y' ≡ form_lengths (take m (variants_of y)) → WasCut (variants_format b) (both x y) (both x' y') m
variants_cut b law {x} {x'} {y} {y'} m s t f e g =
    let p = variants_parts b s in
    let vs = variants_of y in
    let all : (v : ℕ) → v < b.size → length (b.table x v) ≡ times v vs = law.tells x (λ w. times w vs) p.told in
    let most : (v : ℕ) → v < b.size → times v (take m vs) ≤ length (b.table x v) = λ v l.
    let i = all v l in
    let c : times v (take m vs ++ drop m vs) ≡ times v (take m vs) + times v (drop m vs) = sum_by-append (λ x. cond (nat_eq v x) 1 0) (take m vs) (drop m vs) in
    let d : times v (take m vs ++ drop m vs) ≡ times v vs = ap (times v) (take-append-drop m vs) in
    omega (arith, i, c, d) in
    record {
      sound = variants_sound b (record {
        parts = t.sound p.parts;
        forms = f;
        below = rw e (below-take b.size m vs p.below);
        told = rw e (law.tells_back x' (λ v. times v (take m vs)) (t.sound p.parts) (λ v l. let u = most v l in rw (t.front v l, length-take) (omega (arith, u))));
      });
      rows = rw e (chosen-same (b.table x') (b.table x) [] (take m vs) (λ v o l. ⊎_elim (λ (k : v < b.size). let u = t.front v k in rw u (index_take (b.table x v) (times v (take m vs)) o l)) (λ (k : b.size ≤ v). let z = none_beyond b.size v (take m vs) (below-take b.size m vs p.below) k in absurd (omega (arith, z, l))) (cases_lt v b.size)) ∙ chosen-take m (b.table x) [] vs);
      lengths_cut = let h = t.lengths_cut in rw (h, g) refl;
      kept = record {
        extents = λ i l. let q : take i (variants_of y') ≡ take i vs = ap (take i) e ∙ take_less i m vs l in rw q (ap (λ ls. ls ++ form_lengths (take i vs)) (t.rooms (λ v. times v (take i vs)) (λ v k. fewer v i m vs l)));
        limits = λ i l w rs. let q : take i (variants_of y') ≡ take i vs = ap (take i) e ∙ take_less i m vs l in rw q (ap (λ z. past_count w (i + length rs) || z) (t.limits (λ v. times v (take i vs)) (λ v k. fewer v i m vs l) w (λ v. of_case v rs)));
      };
    }
