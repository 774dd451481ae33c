-- The rows of variants, their soundness, and the effect of a push.
use Rattle.std.proofs.Common.{◌≡◌, ℕ, zero, suc, ◌+◌, ◌<◌, ◌≤◌, Bool, true, false, List, [], ◌∷◌, ◌++◌, length, take, drop, refl, sym, ◌∙◌, ap, arith, append-nil, append_assoc, length-append, ⊎_elim}
use Rattle.std.specs.Prelude.{slice_get, Some, slice_index_or, nat_eq, ◌||◌}
use Rattle.std.proofs.lemmas.Bool.{and_parts, and_from, or_left, or_right, eqb-true, eq-eqb, cases_eq}
use Rattle.columnar_core.specs.Row.{Row, unit, tuple, number, row_eq}
use Rattle.columnar_core.specs.Format.{Format, Content, slice, both, part, plain, IsSound, fault, two_broken, all_alike, Excess, lengths}
use Rattle.columnar_core.specs.FaultLaws.{nothing_left, nothing_both, unless_true, true_unless}
use Rattle.columnar_base.specs.RowLaws.{row_eq-refl}
use Rattle.columnar_core.specs.TwoParts.{TwoParts}
use Rattle.columnar_core.specs.TwoPartsLaws.{two_parts, two_sound}
use Rattle.columnar_core.specs.LongTuples.{under}
use Rattle.columnar_core.specs.Change.{Stayed, Took, Refused, IsTrueOf}
use Rattle.columnar_core.specs.ChangeLaws.{true_from}
use Rattle.columnar_core.specs.TupleLaws.{or_both}
use Rattle.std.proofs.Math.Seq.{take-length}
use Rattle.std.proofs.lemmas.List.{take-append-le, take-append-drop}
use Rattle.columnar_core.specs.Elements.{past_count}
use Rattle.columnar_base.specs.declared.fault.GrowError.{GrowError}
use Rattle.columnar_sums.specs.Discriminants.{times, variants_of, discriminant_format, form_lengths, variant_rows}
use Rattle.columnar_variants.specs.Variants.{case, cell, chosen, Bank, leaf, join, leaf_table, join_table, variants_format, is_below, are_below, level_broken, of_case, IsBank, BankTook, BankStayed, BankRefused}
use Rattle.columnar_variants.specs.VariantListLaws.{times_before, times_within, times_last, times_other_last, below_get, below-append, index_read, index_last, index_front, of_case_here, of_case_other}
use Rattle.columnar_sums.specs.DiscriminantLaws.{times-append, length-variant_rows}
use Rattle.columnar_sums.specs.Results.{beside_format}
use Rattle.columnar_sums.specs.ResultLaws.{beside_two}

-- numbers and lists

pub length-chosen : (t : ℕ → List Row) (before vs : List ℕ) → length (chosen t before vs) ≡ length vs
length-chosen t before [] = refl
length-chosen t before (v ∷ vs) = ap suc (length-chosen t (before ++ v ∷ []) vs)

pub chosen_get : (t : ℕ → List Row) (before vs : List ℕ) (i v : ℕ) → slice_get vs i ≡ Some v → slice_get (chosen t before vs) i ≡ Some (cell t v (times v (before ++ take i vs)))
chosen_get t before [] i v h = cc
chosen_get t before (w ∷ vs) zero v h = let e : w ≡ v = cc in rw (e, append-nil) refl
chosen_get t before (w ∷ vs) (suc i) v h = chosen_get t (before ++ w ∷ []) vs i v h ∙ (rw (append_assoc before (w ∷ []) (take i vs)) refl)

pub chosen-append : (t : ℕ → List Row) (before vs ws : List ℕ) → chosen t before (vs ++ ws) ≡ chosen t before vs ++ chosen t (before ++ vs) ws
chosen-append t before [] ws = rw (append-nil) refl
chosen-append t before (v ∷ vs) ws = ap (λ rs. cell t v (times v before) ∷ rs) (chosen-append t (before ++ v ∷ []) vs ws ∙ (rw (append_assoc before (v ∷ []) vs) refl))

pub chosen-take : (n : ℕ) (t : ℕ → List Row) (before vs : List ℕ) → chosen t before (take n vs) ≡ take n (chosen t before vs)
chosen-take zero t before vs = refl
chosen-take (suc n) t before [] = refl
chosen-take (suc n) t before (v ∷ vs) = ap (λ rs. cell t v (times v before) ∷ rs) (chosen-take n t (before ++ v ∷ []) vs)

-- Tables with equal first rows, as far as the variants reach, give the same rows.
pub chosen-same : (t u : ℕ → List Row) (before vs : List ℕ) → ((v o : ℕ) → o < times v (before ++ vs) → slice_index_or (t v) o unit ≡ slice_index_or (u v) o unit) → chosen t before vs ≡ chosen u before vs
chosen-same t u before [] h = refl
chosen-same t u before (v ∷ vs) h =
    let l : times v before < times v (before ++ v ∷ vs) = times_before v before vs in
    let e : cell t v (times v before) ≡ cell u v (times v before) = ap (case v) (h v (times v before) l) in
    let a : (before ++ v ∷ []) ++ vs ≡ before ++ v ∷ vs = append_assoc before (v ∷ []) vs in
    let r : chosen t (before ++ v ∷ []) vs ≡ chosen u (before ++ v ∷ []) vs = chosen-same t u (before ++ v ∷ []) vs (λ w o k. h w o (rw a at k)) in
    rw (e, r) refl

-- what the soundness consists of

pub record SoundVariants (b : Bank) (x y : Content) : Type 0 where
  pub parts : IsSound b.sides x
  pub forms : IsSound discriminant_format y
  pub below : are_below b.size (variants_of y) ≡ true
  pub told : b.told x (λ v. times v (variants_of y)) ≡ true

abbrev pub inner : Bank → Format
inner b = under (two_broken b.sides discriminant_format (is_below b) 17) (variants_format b)

pub inner_two : (b : Bank) → TwoParts (inner b) b.sides discriminant_format (is_below b) 17
inner_two b = record { count = refl; sizes = refl; aligns = refl; build = λ ss. refl; broken = λ c. refl }

pub variants_parts : (b : Bank) {x y : Content} → IsSound (variants_format b) (both x y) → SoundVariants b x y
variants_parts b {x} {y} s =
    let p = nothing_left (two_broken b.sides discriminant_format (is_below b) 17 (both x y)) (level_broken b (both x y)) s.accepted in
    let q = two_parts (inner_two b) x y (record { accepted = p.0 }) in
    record { parts = q.left; forms = q.right; below = q.own; told = unless_true (b.told x (λ v. times v (variants_of y))) (fault 10 0) p.1 }

pub variants_sound : (b : Bank) {x y : Content} → SoundVariants b x y → IsSound (variants_format b) (both x y)
variants_sound b {x} {y} s =
    let q = two_sound (inner_two b) x y (record { left = s.parts; right = s.forms; own = s.below }) in
    record { accepted = nothing_both (two_broken b.sides discriminant_format (is_below b) 17 (both x y)) (level_broken b (both x y)) q.accepted (true_unless (b.told x (λ v. times v (variants_of y))) (fault 10 0) s.told) }

-- reads

pub variants_count : (b : Bank) (x y : Content) → length ((variants_format b).rows (both x y)) ≡ length (variants_of y)
variants_count b x y = length-chosen (b.table x) [] (variants_of y)

pub variants_within : (b : Bank) → IsBank b → {x y : Content} → IsSound (variants_format b) (both x y) → (i v o : ℕ) → slice_get (variants_of y) i ≡ Some v → o ≡ times v (take i (variants_of y)) → (v < b.size) × (o < length (b.table x v))
variants_within b law {x} {y} s i v o h e =
    let p = variants_parts b s in
    let l = below_get b.size (variants_of y) i v p.below h in
    let t : length (b.table x v) ≡ times v (variants_of y) = law.tells x (λ w. times w (variants_of y)) p.told v l in
    let w : times v (take i (variants_of y)) < times v (variants_of y) = times_within v i [] (variants_of y) h in
    (l, omega (arith, t, w, e))

pub variants_read : (b : Bank) (x y : Content) (i v o : ℕ) (r : Row) → slice_get (variants_of y) i ≡ Some v → o ≡ times v (take i (variants_of y)) → slice_get (b.table x v) o ≡ Some r → slice_get ((variants_format b).rows (both x y)) i ≡ Some (case v r)
variants_read b x y i v o r h e g =
    chosen_get (b.table x) [] (variants_of y) i v h ∙ (rw (← e, index_read (b.table x v) o r g) refl)

-- banks

leaf_tells : (a : Format) (c : Content) (n : ℕ → ℕ) → (leaf a).told c n ≡ true → (v : ℕ) → v < 1 → length (leaf_table a c v) ≡ n v
leaf_tells a c n h zero l = eqb-true _ _ h
leaf_tells a c n h (suc v) l = absurd (omega arith)

pub leaf_bank : (a : Format) → IsBank (leaf a)
leaf_bank a = record {
  tells = leaf_tells a;
  agrees = λ e c n m f g h k. rw (h 0 (omega arith), k 0 (omega arith)) refl;
  tells_back = λ c n s h. eq-eqb _ _ (h 0 (omega arith));
}

join_tells : (a : Format) (b : Bank) → IsBank b → (c : Content) (n : ℕ → ℕ) → (join a b).told c n ≡ true → (v : ℕ) → v < suc b.size → length (join_table a b c v) ≡ n v
join_tells a b law (both x y) n h zero l = eqb-true _ _ (and_parts (nat_eq (length (a.rows x)) (n 0)) (b.told y (λ v. n (suc v))) h).0
join_tells a b law (both x y) n h (suc v) l = law.tells y (λ v. n (suc v)) (and_parts (nat_eq (length (a.rows x)) (n 0)) (b.told y (λ v. n (suc v))) h).1 v (omega arith)
join_tells a b law (slice bs) n h v l = cc
join_tells a b law (part i u x) n h v l = cc
join_tells a b law (plain rs) n h v l = cc

join_agrees : (a : Format) (b : Bank) → IsBank b → (e : Excess) (c : Content) (n m : ℕ → ℕ) (f g : ℕ → List Row) → ((v : ℕ) → v < suc b.size → n v ≡ m v) → ((v : ℕ) → v < suc b.size → f v ≡ g v) → (join a b).refuses e c n f ≡ (join a b).refuses e c m g
join_agrees a b law e (both x y) n m f g h k =
    let p = law.agrees e y (λ v. n (suc v)) (λ v. m (suc v)) (λ v. f (suc v)) (λ v. g (suc v)) (λ v l. h (suc v) (omega arith)) (λ v l. k (suc v) (omega arith)) in
    rw (h 0 (omega arith), k 0 (omega arith), p) refl
join_agrees a b law e (slice bs) n m f g h k = refl
join_agrees a b law e (part i u x) n m f g h k = refl
join_agrees a b law e (plain rs) n m f g h k = refl

join_back : (a : Format) (b : Bank) → IsBank b → (c : Content) (n : ℕ → ℕ) → IsSound (beside_format a b.sides) c → ((v : ℕ) → v < suc b.size → length (join_table a b c v) ≡ n v) → (join a b).told c n ≡ true
join_back a b law (both x y) n s h =
    let p = two_parts (beside_two a b.sides) x y s in
    and_from _ _ (eq-eqb _ _ (h 0 (omega arith))) (law.tells_back y (λ v. n (suc v)) p.right (λ v l. h (suc v) (omega arith)))
join_back a b law (slice bs) n s h = let k = s.accepted in cc
join_back a b law (part i u x) n s h = let k = s.accepted in cc
join_back a b law (plain rs) n s h = let k = s.accepted in cc

pub join_bank : (a : Format) (b : Bank) → IsBank b → IsBank (join a b)
join_bank a b law = record { tells = join_tells a b law; agrees = join_agrees a b law; tells_back = join_back a b law }

-- the column of one variant accepted a row

pub record Single (same : Row → Row → Bool) (rs : List Row) (r : Row) : Type 0 where
  pub row : Row
  pub is : rs ≡ row ∷ []
  pub near : same row r ≡ true

single : (same : Row → Row → Bool) (rs : List Row) (r : Row) → all_alike same rs (r ∷ []) ≡ true → Single same rs r
single same [] r h = cc
single same (f ∷ []) r h = record { row = f; is = refl; near = (and_parts (same f r) true h).0 }
single same (f ∷ (g ∷ gs)) r h = let k = (and_parts (same f r) false h).1 in cc

leaf_others : (a : Format) (x x' : Content) (v : ℕ) → (v ≡ 0 → ⊥) → leaf_table a x' v ≡ leaf_table a x v
leaf_others a x x' zero h = absurd (h refl)
leaf_others a x x' (suc v) h = refl

pub leaf_took : (a : Format) {x x' : Content} {r : Row} → Took a x x' (r ∷ []) → BankTook (leaf a) x x' 0 r
leaf_took a {x} {x'} {r} t =
    let q = single a.alike t.fresh r t.alike in
    record {
      fresh = q.row;
      near = q.near;
      here = t.grew.rows ∙ ap (λ rs. a.rows x ++ rs) q.is;
      others = leaf_others a x x';
      rooms = λ n h. t.grew.kept.extents (n 0) (h 0 (omega arith));
      limits = λ n h e f. t.grew.kept.limits (n 0) (h 0 (omega arith)) e (f 0);
      adds = λ n' n h' h e f g k o w. rw (h 0 (omega arith), k) (t.adds e (f 0) (rw (h' 0 (omega arith)) at w));
      sound = λ s. t.grew.sound;
    }

first_others : (a : Format) (b : Bank) (x x' y : Content) (v : ℕ) → (v ≡ 0 → ⊥) → join_table a b (both x' y) v ≡ join_table a b (both x y) v
first_others a b x x' y zero h = absurd (h refl)
first_others a b x x' y (suc v) h = refl

pub first_took : (a : Format) (b : Bank) → IsBank b → {x x' y : Content} {r : Row} → Took a x x' (r ∷ []) → BankTook (join a b) (both x y) (both x' y) 0 r
first_took a b law {x} {x'} {y} {r} t =
    let q = single a.alike t.fresh r t.alike in
    record {
      fresh = q.row;
      near = q.near;
      here = t.grew.rows ∙ ap (λ rs. a.rows x ++ rs) q.is;
      others = first_others a b x x' y;
      rooms = λ n h. ap (λ ls. ls ++ b.room y (λ v. n (suc v))) (t.grew.kept.extents (n 0) (h 0 (omega arith)));
      limits = λ n h e f. ap (λ w. w || b.refuses e y (λ v. n (suc v)) (λ v. f (suc v))) (t.grew.kept.limits (n 0) (h 0 (omega arith)) e (f 0));
      adds = λ n' n h' h e f g k o w. or_both (a.refuses e x' (n' 0) (f 0)) (b.refuses e y (λ v. n' (suc v)) (λ v. f (suc v))) (a.refuses e x (n 0) (g 0)) (b.refuses e y (λ v. n (suc v)) (λ v. g (suc v)))
          (λ i. rw (h 0 (omega arith), k) (t.adds e (f 0) (rw (h' 0 (omega arith)) at i)))
          (λ i. law.agrees e y (λ v. n (suc v)) (λ v. n' (suc v)) (λ v. g (suc v)) (λ v. f (suc v)) (λ v l. h (suc v) (omega arith) ∙ sym (h' (suc v) (omega arith))) (λ v l. o (suc v) (λ e. cc)) ∙ i) w;
      sound = λ s. let p = two_parts (beside_two a b.sides) x y s in two_sound (beside_two a b.sides) x' y (record { left = t.grew.sound; right = p.right; own = refl });
    }

later_others : (a : Format) (b : Bank) (x y y' : Content) (k v : ℕ) → ((w : ℕ) → (w ≡ k → ⊥) → b.table y' w ≡ b.table y w) → (v ≡ suc k → ⊥) → join_table a b (both x y') v ≡ join_table a b (both x y) v
later_others a b x y y' k zero h o = refl
later_others a b x y y' k (suc v) h o = h v (λ e. o (ap suc e))

pub later_took : (a : Format) (b : Bank) {x y y' : Content} {k : ℕ} {r : Row} → BankTook b y y' k r → BankTook (join a b) (both x y) (both x y') (suc k) r
later_took a b {x} {y} {y'} {k} {r} t = record {
  fresh = t.fresh;
  near = t.near;
  here = t.here;
  others = λ v. later_others a b x y y' k v t.others;
  rooms = λ n h. ap (λ ls. a.extent x (n 0) ++ ls) (t.rooms (λ v. n (suc v)) (λ v l. h (suc v) (omega arith)));
  limits = λ n h e f. ap (λ w. a.refuses e x (n 0) (f 0) || w) (t.limits (λ v. n (suc v)) (λ v l. h (suc v) (omega arith)) e (λ v. f (suc v)));
  adds = λ n' n h' h e f g j o w. or_both (a.refuses e x (n' 0) (f 0)) (b.refuses e y' (λ v. n' (suc v)) (λ v. f (suc v))) (a.refuses e x (n 0) (g 0)) (b.refuses e y (λ v. n (suc v)) (λ v. g (suc v)))
      (λ i. rw (h 0 (omega arith), ← h' 0 (omega arith), o 0 (λ z. cc)) i)
      (λ i. t.adds (λ v. n' (suc v)) (λ v. n (suc v)) (λ v l. h' (suc v) (omega arith)) (λ v l. h (suc v) (omega arith)) e (λ v. f (suc v)) (λ v. g (suc v)) j (λ v z. o (suc v) (λ u. z (cc))) i) w;
  sound = λ s. let p = two_parts (beside_two a b.sides) x y s in two_sound (beside_two a b.sides) x y' (record { left = p.left; right = t.sound p.right; own = refl });
}

-- the whole accepted a row

told_after : (b : Bank) → IsBank b → {x x' : Content} {k : ℕ} {r : Row} (vs : List ℕ) → IsSound b.sides x → b.told x (λ v. times v vs) ≡ true → BankTook b x x' k r → (v : ℕ) → v < b.size → length (b.table x' v) ≡ times v (vs ++ k ∷ [])
told_after b law {x} {x'} {k} {r} vs s h t v l =
    let e : length (b.table x v) ≡ times v vs = law.tells x (λ w. times w vs) h v l in
    ⊎_elim (λ (i : v ≡ k).
    let j : b.table x' v ≡ b.table x k ++ t.fresh ∷ [] = ap (b.table x') i ∙ t.here in
    let m : length (b.table x' v) ≡ length (b.table x k) + 1 = ap length j ∙ length-append (b.table x k) (t.fresh ∷ []) in
    let q : times v (vs ++ k ∷ []) ≡ times v vs + 1 = rw i (times_last k vs) in
    let u : length (b.table x v) ≡ length (b.table x k) = ap (λ w. length (b.table x w)) i in
    omega (arith, m, q, u, e))
    (λ (o : v ≡ k → ⊥). rw (t.others v o, times_other_last v k vs o) e) (cases_eq v k)

front_same : (b : Bank) → IsBank b → {x x' : Content} {k : ℕ} {r : Row} (vs : List ℕ) → b.told x (λ v. times v vs) ≡ true → k < b.size → BankTook b x x' k r → (v o : ℕ) → o < times v vs → slice_index_or (b.table x' v) o unit ≡ slice_index_or (b.table x v) o unit
front_same b law {x} {x'} {k} {r} vs h lk t v o l =
    ⊎_elim (λ (i : v ≡ k).
    let j : b.table x' v ≡ b.table x v ++ t.fresh ∷ [] = rw i t.here in
    let e : length (b.table x v) ≡ times v vs = law.tells x (λ w. times w vs) h v (rw i lk) in
    rw j (index_front (b.table x v) (t.fresh ∷ []) o (omega (arith, e, l))))
    (λ (q : v ≡ k → ⊥). ap (λ rs. slice_index_or rs o unit) (t.others v q)) (cases_eq v k)

-- all rows of the variants before the n-th exist in the columns
pub counts_within : (b : Bank) → IsBank b → (x : Content) (vs : List ℕ) (n : ℕ) → b.told x (λ v. times v vs) ≡ true → (v : ℕ) → v < b.size → times v (take n vs) ≤ length (b.table x v)
counts_within b law x vs n h v l =
    let e : length (b.table x v) ≡ times v vs = law.tells x (λ w. times w vs) h v l in
    let s : take n vs ++ drop n vs ≡ vs = take-append-drop n vs in
    let a : times v (take n vs ++ drop n vs) ≡ times v (take n vs) + times v (drop n vs) = times-append v (take n vs) (drop n vs) in
    let c : times v (take n vs ++ drop n vs) ≡ times v vs = ap (times v) s in
    omega (arith, e, a, c)

-- The whole accepted a row of variant k if its column accepted the value and the variants accepted k.
pub variants_took : (b : Bank) → IsBank b → {x x' y y' : Content} (k : ℕ) {r : Row} → k < b.size → IsSound (variants_format b) (both x y) → BankTook b x x' k r → IsSound discriminant_format y' → variants_of y' ≡ variants_of y ++ k ∷ [] → Took (variants_format b) (both x y) (both x' y') (case k r ∷ [])
variants_took b law {x} {x'} {y} {y'} k {r} lk s t f e =
    let p = variants_parts b s in
    let vs = variants_of y in
    let told : (v : ℕ) → v < b.size → length (b.table x' v) ≡ times v (vs ++ k ∷ []) = told_after b law vs p.parts p.told t in
    let here : length (b.table x k) ≡ times k vs = law.tells x (λ w. times w vs) p.told k lk in
    let n : length (chosen (b.table x) [] vs) ≡ length vs = length-chosen (b.table x) [] vs in
    let front : (m : ℕ) → m ≤ length (chosen (b.table x) [] vs) → take m (variants_of y') ≡ take m vs = λ m l. rw e (take-append-le m vs (k ∷ []) (omega (arith, n, l))) in
    record {
      fresh = case k t.fresh ∷ [];
      grew = record {
        sound = variants_sound b (record { parts = t.sound p.parts; forms = f; below = rw e (below-append b.size vs k p.below lk); told = rw e (law.tells_back x' (λ v. times v (vs ++ k ∷ [])) (t.sound p.parts) told) });
        rows = rw e (chosen-append (b.table x') [] vs (k ∷ [])
            ∙ (rw (chosen-same (b.table x') (b.table x) [] vs (front_same b law vs p.told lk t))
            (ap (λ w. chosen (b.table x) [] vs ++ case k w ∷ []) (ap (λ rs. slice_index_or rs (times k vs) unit) t.here ∙ index_last (b.table x k) t.fresh (times k vs) here))));
        kept = record {
          extents = λ m l. rw (front m l) (ap (λ ls. ls ++ form_lengths (take m vs)) (t.rooms (λ v. times v (take m vs)) (counts_within b law x vs m p.told)));
          limits = λ m l w rs. rw (front m l) (ap (λ z. past_count w (m + length rs) || z) (t.limits (λ v. times v (take m vs)) (counts_within b law x vs m p.told) w (λ v. of_case v rs)));
        };
      };
      alike = and_from _ true (and_from (row_eq (tuple (number k) unit) (tuple (number k) unit)) (b.alike k t.fresh r) (row_eq-refl (tuple (number k) unit)) t.near) refl;
      adds = λ w rs h.
          let c : length (chosen (b.table x') [] (variants_of y')) ≡ length (variants_of y') = length-chosen (b.table x') [] (variants_of y') in
          let d : length (variants_of y') ≡ length vs + 1 = ap length e ∙ length-append vs (k ∷ []) in
          let all' : take (length (chosen (b.table x') [] (variants_of y'))) (variants_of y') ≡ variants_of y' = ap (λ z. take z (variants_of y')) c ∙ take-length (variants_of y') in
          let all : take (length (chosen (b.table x) [] vs)) vs ≡ vs = ap (λ z. take z vs) n ∙ take-length vs in
          or_both (past_count w (length (chosen (b.table x') [] (variants_of y')) + length rs)) (b.refuses w x' (λ v. times v (take (length (chosen (b.table x') [] (variants_of y'))) (variants_of y'))) (λ v. of_case v rs))
          (past_count w (length (chosen (b.table x) [] vs) + length (case k r ∷ rs))) (b.refuses w x (λ v. times v (take (length (chosen (b.table x) [] vs)) vs)) (λ v. of_case v (case k r ∷ rs)))
          (λ i. let m : length (chosen (b.table x) [] vs) + length (case k r ∷ rs) ≡ length (chosen (b.table x') [] (variants_of y')) + length rs = omega (arith, c, d, n) in rw m i)
          (λ i. t.adds (λ v. times v (take (length (chosen (b.table x') [] (variants_of y'))) (variants_of y'))) (λ v. times v (take (length (chosen (b.table x) [] vs)) vs))
          (λ v l. ap (times v) (all' ∙ e) ∙ sym (told v l))
          (λ v l. ap (times v) all ∙ sym (law.tells x (λ u. times u vs) p.told v l))
          w (λ v. of_case v rs) (λ v. of_case v (case k r ∷ rs)) (of_case_here k r rs) (λ v o. of_case_other v k r rs o) i) h;
    }

-- nothing changed

pub leaf_stayed : (a : Format) {x x' : Content} → Stayed a x x' → BankStayed (leaf a) x x'
leaf_stayed a {x} {x'} t = record {
  same = leaf_same a x x' t.rows;
  lengths_same = t.lengths_same;
  rooms = λ n h. t.kept.extents (n 0) (h 0 (omega arith));
  limits = λ n h e f. t.kept.limits (n 0) (h 0 (omega arith)) e (f 0);
  sound = λ s. t.sound;
}
  where
    leaf_same : (a : Format) (x x' : Content) → a.rows x' ≡ a.rows x → (v : ℕ) → leaf_table a x' v ≡ leaf_table a x v
    leaf_same a x x' h zero = h
    leaf_same a x x' h (suc v) = refl

pub first_stayed : (a : Format) (b : Bank) {x x' y : Content} → Stayed a x x' → BankStayed (join a b) (both x y) (both x' y)
first_stayed a b {x} {x'} {y} t = record {
  same = first_same a b x x' y t.rows;
  lengths_same = ap (λ ls. ls ++ lengths y) t.lengths_same;
  rooms = λ n h. ap (λ ls. ls ++ b.room y (λ v. n (suc v))) (t.kept.extents (n 0) (h 0 (omega arith)));
  limits = λ n h e f. ap (λ w. w || b.refuses e y (λ v. n (suc v)) (λ v. f (suc v))) (t.kept.limits (n 0) (h 0 (omega arith)) e (f 0));
  sound = λ s. let p = two_parts (beside_two a b.sides) x y s in two_sound (beside_two a b.sides) x' y (record { left = t.sound; right = p.right; own = refl });
}
  where
    first_same : (a : Format) (b : Bank) (x x' y : Content) → a.rows x' ≡ a.rows x → (v : ℕ) → join_table a b (both x' y) v ≡ join_table a b (both x y) v
    first_same a b x x' y h zero = h
    first_same a b x x' y h (suc v) = refl

pub later_stayed : (a : Format) (b : Bank) {x y y' : Content} → BankStayed b y y' → BankStayed (join a b) (both x y) (both x y')
later_stayed a b {x} {y} {y'} t = record {
  same = later_same a b x y y' t.same;
  lengths_same = ap (λ ls. lengths x ++ ls) t.lengths_same;
  rooms = λ n h. ap (λ ls. a.extent x (n 0) ++ ls) (t.rooms (λ v. n (suc v)) (λ v l. h (suc v) (omega arith)));
  limits = λ n h e f. ap (λ w. a.refuses e x (n 0) (f 0) || w) (t.limits (λ v. n (suc v)) (λ v l. h (suc v) (omega arith)) e (λ v. f (suc v)));
  sound = λ s. let p = two_parts (beside_two a b.sides) x y s in two_sound (beside_two a b.sides) x y' (record { left = p.left; right = t.sound p.right; own = refl });
}
  where
    later_same : (a : Format) (b : Bank) (x y y' : Content) → ((v : ℕ) → b.table y' v ≡ b.table y v) → (v : ℕ) → join_table a b (both x y') v ≡ join_table a b (both x y) v
    later_same a b x y y' h zero = refl
    later_same a b x y y' h (suc v) = h v

pub variants_stayed : (b : Bank) → IsBank b → {x x' y : Content} → IsSound (variants_format b) (both x y) → BankStayed b x x' → Stayed (variants_format b) (both x y) (both x' y)
variants_stayed b law {x} {x'} {y} s t =
    let p = variants_parts b s in
    let vs = variants_of y in
    let n : length (chosen (b.table x) [] vs) ≡ length vs = length-chosen (b.table x) [] vs in
    record {
      sound = variants_sound b (record { parts = t.sound p.parts; forms = p.forms; below = p.below; told = law.tells_back x' (λ v. times v vs) (t.sound p.parts) (λ v l. ap length (t.same v) ∙ law.tells x (λ w. times w vs) p.told v l) });
      rows = chosen-same (b.table x') (b.table x) [] vs (λ v o l. ap (λ rs. slice_index_or rs o unit) (t.same v));
      lengths_same = ap (λ ls. ls ++ lengths y) t.lengths_same;
      kept = record {
        extents = λ m l. ap (λ ls. ls ++ form_lengths (take m vs)) (t.rooms (λ v. times v (take m vs)) (counts_within b law x vs m p.told));
        limits = λ m l w rs. ap (λ z. past_count w (m + length rs) || z) (t.limits (λ v. times v (take m vs)) (counts_within b law x vs m p.told) w (λ v. of_case v rs));
      };
    }

-- a refused push

pub leaf_refused : (a : Format) {x x' : Content} {r : Row} {error : GrowError} → Refused a x x' (r ∷ []) error → BankRefused (leaf a) x x' 0 r error
leaf_refused a {x} {x'} {r} t = record { stayed = leaf_stayed a t.stayed; format = a; content = x; cause = t.cause; passes = λ e n f h k w. rw (h 0 (omega arith), k) w }

pub first_refused : (a : Format) (b : Bank) {x x' y : Content} {r : Row} {error : GrowError} → Refused a x x' (r ∷ []) error → BankRefused (join a b) (both x y) (both x' y) 0 r error
first_refused a b {x} {x'} {y} {r} t = record { stayed = first_stayed a b t.stayed; format = a; content = x; cause = t.cause; passes = λ e n f h k w. let g : a.refuses e x (n 0) (f 0) ≡ true = rw (h 0 (omega arith), k) w in or_left _ _ g }

pub later_refused : (a : Format) (b : Bank) {x y y' : Content} {k : ℕ} {r : Row} {error : GrowError} → BankRefused b y y' k r error → BankRefused (join a b) (both x y) (both x y') (suc k) r error
later_refused a b t = record { stayed = later_stayed a b t.stayed; format = t.format; content = t.content; cause = t.cause; passes = λ e n f h k w. or_right _ _ (t.passes e (λ v. n (suc v)) (λ v. f (suc v)) (λ v l. h (suc v) (omega arith)) k w) }

-- The column of the value refused it.
pub variants_refused : (b : Bank) → IsBank b → {x x' y : Content} (k : ℕ) {r : Row} {error : GrowError} → IsSound (variants_format b) (both x y) → BankRefused b x x' k r error → Refused (variants_format b) (both x y) (both x' y) (case k r ∷ []) error
variants_refused b law {x} {x'} {y} k {r} {error} s t =
    let p = variants_parts b s in
    let vs = variants_of y in
    let n : length (chosen (b.table x) [] vs) ≡ length vs = length-chosen (b.table x) [] vs in
    let all : take (length (chosen (b.table x) [] vs)) vs ≡ vs = ap (λ z. take z vs) n ∙ take-length vs in
    record {
      stayed = variants_stayed b law s t.stayed;
      cause = true_from t.format (variants_format b) t.content (both x y) (r ∷ []) (case k r ∷ []) error (λ e w. or_right _ _ (t.passes e (λ v. times v (take (length (chosen (b.table x) [] vs)) vs)) (λ v. of_case v (case k r ∷ [])) (λ v l. ap (times v) all ∙ sym (law.tells x (λ u. times u vs) p.told v l)) (of_case_here k r []) w)) t.cause;
    }

-- The variants refused their row, and the value was removed again.
pub variants_full : (b : Bank) → IsBank b → {x x' y : Content} (k : ℕ) {r : Row} (q : Row) {error : GrowError} → IsSound (variants_format b) (both x y) → BankStayed b x x' → IsTrueOf error discriminant_format y (q ∷ []) → Refused (variants_format b) (both x y) (both x' y) (case k r ∷ []) error
variants_full b law {x} {x'} {y} k {r} q {error} s t w =
    let n : length (chosen (b.table x) [] (variants_of y)) ≡ length (variants_of y) = length-chosen (b.table x) [] (variants_of y) in
    record {
      stayed = variants_stayed b law s t;
      cause = true_from discriminant_format (variants_format b) y (both x y) (q ∷ []) (case k r ∷ []) error (λ e h.
          let m : length (variant_rows [] (variants_of y)) ≡ length (variants_of y) = length-variant_rows (variants_of y) in
          let i : length (chosen (b.table x) [] (variants_of y)) ≡ length (variant_rows [] (variants_of y)) = omega (arith, n, m) in
          let g : past_count e (length (chosen (b.table x) [] (variants_of y)) + 1) ≡ true = rw i h in
          or_left _ _ g) w;
    }

-- preconditions of a container of variants

pub beside_parts : (a b : Format) {x y : Content} → IsSound (beside_format a b) (both x y) → IsSound a x × IsSound b y
beside_parts a b {x} {y} s = let p = two_parts (beside_two a b) x y s in (p.left, p.right)

pub variants_len : (b : Bank) (x y : Content) → length (variant_rows [] (variants_of y)) ≡ length ((variants_format b).rows (both x y))
variants_len b x y = length-variant_rows (variants_of y) ∙ sym (variants_count b x y)

pub variants_in_range : (b : Bank) (x y : Content) (i : ℕ) → i < length ((variants_format b).rows (both x y)) → i < length (variant_rows [] (variants_of y))
variants_in_range b x y i l = rw (variants_len b x y) l

pub variants_number : (b : Bank) → IsBank b → {x y : Content} → IsSound (variants_format b) (both x y) → (k : ℕ) → k < b.size → length (b.table x k) ≡ times k (variants_of y)
variants_number b law {x} {y} s k l = law.tells x (λ w. times w (variants_of y)) (variants_parts b s).told k l

pub variants_place : (b : Bank) → IsBank b → {x y : Content} → IsSound (variants_format b) (both x y) → (i v o w : ℕ) → v ≡ w → slice_get (variants_of y) i ≡ Some v → o ≡ times v (take i (variants_of y)) → o < length (b.table x w)
variants_place b law {x} {y} s i v o w q h e = rw (← q) ((variants_within b law s i v o h e).1)

pub variants_row : (b : Bank) (x y : Content) (i v o w : ℕ) (r : Row) → v ≡ w → slice_get (variants_of y) i ≡ Some v → o ≡ times v (take i (variants_of y)) → slice_get (b.table x w) o ≡ Some r → slice_get ((variants_format b).rows (both x y)) i ≡ Some (case w r)
variants_row b x y i v o w r q h e g = variants_read b x y i w o r (h ∙ ap Some q) (e ∙ ap (λ u. times u (take i (variants_of y))) q) g
