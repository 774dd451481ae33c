-- A copy of a range of variants is a copy of a range of each part.
use Rattle.std.proofs.Common.{◌≡◌, ℕ, zero, suc, ◌+◌, ◌-◌, ◌<◌, ◌≤◌, Bool, true, ◌||◌, cond, List, [], ◌∷◌, ◌++◌, length, take, drop, refl, sym, ◌∙◌, ap, arith, append-nil, append_assoc, length-append, ⊎_elim}
use Rattle.std.specs.Prelude.{nat_eq, slice_index_or}
use Rattle.std.proofs.lemmas.Bool.{and_from, or_left, or_right, eq-eqb, ne_eqb, cases_lt, cases_eq}
use Rattle.std.proofs.lemmas.List.{take-append-le, take-append-drop}
use Rattle.std.proofs.lemmas.List.Sums.{sum_by-cons}
use Rattle.std.proofs.Math.Seq.{take-length}
use Rattle.columnar_core.specs.Row.{Row, unit, tuple, number}
use Rattle.columnar_base.specs.RowLaws.{row_eq-refl}
use Rattle.columnar_core.specs.Format.{Format, Content, both, IsSound, all_alike}
use Rattle.columnar_core.specs.AlikeLaws.{alike_length}
use Rattle.columnar_core.specs.TwoPartsLaws.{two_parts, two_sound}
use Rattle.columnar_core.specs.TupleLaws.{or_both}
use Rattle.columnar_core.specs.Change.{Took, Copied, Stayed, Refused, IsTrueOf}
use Rattle.columnar_core.specs.ChangeLaws.{true_from}
use Rattle.columnar_base.specs.declared.fault.GrowError.{GrowError}
use Rattle.columnar_core.specs.Elements.{past_count}
use Rattle.columnar_sums.specs.Discriminants.{times, variants_of, discriminant_format, form_lengths}
use Rattle.columnar_variants.specs.Variants.{Bank, IsBank, BankStayed, leaf, join, leaf_table, join_table, variants_format, of_case, chosen, are_below, variants_alike}
use Rattle.columnar_variants.specs.VariantLaws.{counts_within, variants_parts, variants_sound, length-chosen, chosen-take, chosen-same, chosen-append, variants_stayed}
use Rattle.columnar_variants.specs.VariantListLaws.{times_next, range_length, below-take, below-drop, below_both, none_beyond, index_front, index_past, index_take, index_drop, alike_at, take_next, of_case-append, past_grows}
use Rattle.columnar_sums.specs.DiscriminantLaws.{times-append, length-variant_rows}
use Rattle.std.proofs.lemmas.List.{nil_from_length}
use Rattle.columnar_variants.specs.VariantCopies.{BankCopied, headed, range_of, HasRange, BankDenied}
use Rattle.columnar_sums.specs.ResultLaws.{beside_two}

leaf_here : (a : Format) (x x' : Content) (rs : List Row) → a.rows x' ≡ a.rows x ++ rs → (v : ℕ) → v < 1 → leaf_table a x' v ≡ leaf_table a x v ++ rs
leaf_here a x x' rs h zero l = h
leaf_here a x x' rs h (suc v) l = absurd (omega arith)

leaf_start : (a : Format) (x x' : Content) (s : ℕ → ℕ) (f : ℕ → List Row) → (a.rows x ≡ [] → s 0 ≡ 0 → a.rows x' ≡ f 0) → (v : ℕ) → v < 1 → leaf_table a x v ≡ [] → s v ≡ 0 → leaf_table a x' v ≡ f v
leaf_start a x x' s f h zero l = h
leaf_start a x x' s f h (suc v) l = absurd (omega arith)

leaf_near : (a : Format) (rs : List Row) (f : ℕ → List Row) → all_alike a.alike rs (f 0) ≡ true → (v : ℕ) → v < 1 → all_alike a.alike rs (f v) ≡ true
leaf_near a rs f h zero l = h
leaf_near a rs f h (suc v) l = absurd (omega arith)

pub leaf_copied : (a : Format) {x x' : Content} (s : ℕ → ℕ) (f : ℕ → List Row) → Copied a x x' (s 0) (f 0) → BankCopied (leaf a) x x' s f
leaf_copied a {x} {x'} s f c =
    let t = c.took in
    record {
      fresh = λ v. t.fresh;
      near = leaf_near a t.fresh f t.alike;
      here = leaf_here a x x' t.fresh t.grew.rows;
      front = leaf_start a x x' s f c.front;
      rooms = λ n h. t.grew.kept.extents (n 0) (h 0 (omega arith));
      limits = λ n h e g. t.grew.kept.limits (n 0) (h 0 (omega arith)) e (g 0);
      adds = λ m n h k e g w. rw (k 0 (omega arith)) (t.adds e (g 0) (rw (h 0 (omega arith)) at w));
      sound = λ q. t.grew.sound;
    }

join_near : (a : Format) (b : Bank) (rs : List Row) (g f : ℕ → List Row) → all_alike a.alike rs (f 0) ≡ true → ((v : ℕ) → v < b.size → all_alike (b.alike v) (g v) (f (suc v)) ≡ true) → (v : ℕ) → v < suc b.size → all_alike ((join a b).alike v) (headed rs g v) (f v) ≡ true
join_near a b rs g f h k zero l = h
join_near a b rs g f h k (suc v) l = k v (omega arith)

join_here : (a : Format) (b : Bank) (x x' y y' : Content) (rs : List Row) (g : ℕ → List Row) → a.rows x' ≡ a.rows x ++ rs → ((v : ℕ) → v < b.size → b.table y' v ≡ b.table y v ++ g v) → (v : ℕ) → v < suc b.size → join_table a b (both x' y') v ≡ join_table a b (both x y) v ++ headed rs g v
join_here a b x x' y y' rs g h k zero l = h
join_here a b x x' y y' rs g h k (suc v) l = k v (omega arith)

join_start : (a : Format) (b : Bank) (x x' y y' : Content) (s : ℕ → ℕ) (f : ℕ → List Row) → (a.rows x ≡ [] → s 0 ≡ 0 → a.rows x' ≡ f 0) → ((v : ℕ) → v < b.size → b.table y v ≡ [] → s (suc v) ≡ 0 → b.table y' v ≡ f (suc v)) → (v : ℕ) → v < suc b.size → join_table a b (both x y) v ≡ [] → s v ≡ 0 → join_table a b (both x' y') v ≡ f v
join_start a b x x' y y' s f h k zero l = h
join_start a b x x' y y' s f h k (suc v) l = k v (omega arith)

pub join_copied : (a : Format) (b : Bank) {x x' y y' : Content} (s : ℕ → ℕ) (f : ℕ → List Row) → Copied a x x' (s 0) (f 0) → BankCopied b y y' (λ v. s (suc v)) (λ v. f (suc v)) → BankCopied (join a b) (both x y) (both x' y') s f
join_copied a b {x} {x'} {y} {y'} s f c u =
    let t = c.took in
    record {
      fresh = headed t.fresh u.fresh;
      near = join_near a b t.fresh u.fresh f t.alike u.near;
      here = join_here a b x x' y y' t.fresh u.fresh t.grew.rows u.here;
      front = join_start a b x x' y y' s f c.front u.front;
      rooms = λ n h. let p : a.extent x' (n 0) ≡ a.extent x (n 0) = t.grew.kept.extents (n 0) (h 0 (omega arith)) in let q = u.rooms (λ v. n (suc v)) (λ v l. h (suc v) (omega arith)) in rw (p, q) refl;
      limits = λ n h e g. let p : a.refuses e x' (n 0) (g 0) ≡ a.refuses e x (n 0) (g 0) = t.grew.kept.limits (n 0) (h 0 (omega arith)) e (g 0) in let q = u.limits (λ v. n (suc v)) (λ v l. h (suc v) (omega arith)) e (λ v. g (suc v)) in rw (p, q) refl;
      adds = λ m n h k e g w. or_both (a.refuses e x' (m 0) (g 0)) (b.refuses e y' (λ v. m (suc v)) (λ v. g (suc v))) (a.refuses e x (n 0) (f 0 ++ g 0)) (b.refuses e y (λ v. n (suc v)) (λ v. f (suc v) ++ g (suc v)))
          (λ i. rw (k 0 (omega arith)) (t.adds e (g 0) (rw (h 0 (omega arith)) at i)))
          (λ i. u.adds (λ v. m (suc v)) (λ v. n (suc v)) (λ v l. h (suc v) (omega arith)) (λ v l. k (suc v) (omega arith)) e (λ v. g (suc v)) i) w;
      sound = λ q. let p = two_parts (beside_two a b.sides) x y q in two_sound (beside_two a b.sides) x' y' (record { left = t.grew.sound; right = u.sound p.right; own = refl });
    }

-- lists

-- rows whose values represent each other, by variant, represent each other
pub chosen_alike : (q : ℕ → Row → Row → Bool) (t u : ℕ → List Row) (p1 p2 mid : List ℕ) → ((v i : ℕ) → i < times v mid → q v (slice_index_or (t v) (times v p1 + i) unit) (slice_index_or (u v) (times v p2 + i) unit) ≡ true) → all_alike (variants_alike q) (chosen t p1 mid) (chosen u p2 mid) ≡ true
chosen_alike q t u p1 p2 [] h = refl
chosen_alike q t u p1 p2 (w ∷ rest) h =
    let more : (v : ℕ) → times v (w ∷ rest) ≡ times v (w ∷ []) + times v rest = λ v. times-append v (w ∷ []) rest in
    let one : times w (w ∷ []) ≡ 1 = sum_by-cons (λ y. cond {A = ℕ} (nat_eq w y) 1 0) w [] ∙ ap (λ (c : Bool). cond {A = ℕ} c 1 0 + 0) (eq-eqb w w refl) in
    let l : 0 < times w (w ∷ rest) = let m = more w in omega (arith, m, one) in
    let e1 : times w p1 + 0 ≡ times w p1 = omega arith in
    let e2 : times w p2 + 0 ≡ times w p2 = omega arith in
    let hd : q w (slice_index_or (t w) (times w p1) unit) (slice_index_or (u w) (times w p2) unit) ≡ true = rw (e1, e2) at (h w 0 l) in
    let tl : all_alike (variants_alike q) (chosen t (p1 ++ w ∷ []) rest) (chosen u (p2 ++ w ∷ []) rest) ≡ true = chosen_alike q t u (p1 ++ w ∷ []) (p2 ++ w ∷ []) rest (λ v i k.
    rw (times_next v w p1 i, times_next v w p2 i) (h v (times v (w ∷ []) + i) (let m = more v in omega (arith, m, k)))) in
    and_from _ _ (and_from _ _ (row_eq-refl (tuple (number w) unit)) hd) tl

-- the values of variant v among them
pub of_chosen : (u : ℕ → List Row) (v : ℕ) (before mid : List ℕ) → times v before + times v mid ≤ length (u v) → of_case v (chosen u before mid) ≡ take (times v mid) (drop (times v before) (u v))
of_chosen u v before [] h = refl
of_chosen u v before (w ∷ rest) h = ⊎_elim
    (λ (e : v ≡ w).
    let one : times v (w ∷ []) ≡ 1 = sum_by-cons (λ y. cond {A = ℕ} (nat_eq v y) 1 0) w [] ∙ ap (λ (c : Bool). cond {A = ℕ} c 1 0 + 0) (eq-eqb v w e) in
    let more : times v (w ∷ rest) ≡ suc (times v rest) = let m = times-append v (w ∷ []) rest in omega (arith, m, one) in
    let next : times v (before ++ w ∷ []) ≡ suc (times v before) = let m = times-append v before (w ∷ []) in omega (arith, m, one) in
    let r = of_chosen u v (before ++ w ∷ []) rest (omega (arith, h, more, next)) in
    let hit : of_case v (chosen u before (w ∷ rest)) ≡ slice_index_or (u w) (times w before) unit ∷ of_case v (chosen u (before ++ w ∷ []) rest) = rw (eq-eqb v w e) refl in
    let same : slice_index_or (u w) (times w before) unit ≡ slice_index_or (u v) (times v before) unit = ap (λ k. slice_index_or (u k) (times k before) unit) (sym e) in
    hit ∙ (rw (same, r, next, more) (sym (take_next (u v) (times v before) (times v rest) (omega (arith, h, more))))))
    (λ (o : v ≡ w → ⊥).
    let one : times v (w ∷ []) ≡ 0 = sum_by-cons (λ y. cond {A = ℕ} (nat_eq v y) 1 0) w [] ∙ ap (λ (c : Bool). cond {A = ℕ} c 1 0 + 0) (ne_eqb v w o) in
    let more : times v (w ∷ rest) ≡ times v rest = let m = times-append v (w ∷ []) rest in omega (arith, m, one) in
    let next : times v (before ++ w ∷ []) ≡ times v before = let m = times-append v before (w ∷ []) in omega (arith, m, one) in
    let r = of_chosen u v (before ++ w ∷ []) rest (omega (arith, h, more, next)) in
    let miss : of_case v (chosen u before (w ∷ rest)) ≡ of_case v (chosen u (before ++ w ∷ []) rest) = rw (ne_eqb v w o) refl in
    miss ∙ (rw (r, next, more) refl))
    (cases_eq v w)

told_copied : (b : Bank) → IsBank b → {x x' : Content} (u : ℕ → List Row) (before mid vs : List ℕ) → HasRange b.size u before mid → b.told x (λ v. times v vs) ≡ true → BankCopied b x x' (λ v. times v before) (range_of u before mid) → (v : ℕ) → v < b.size → length (b.table x' v) ≡ times v (vs ++ mid)
told_copied b law {x} {x'} u before mid vs r h t v l =
    let e : length (b.table x v) ≡ times v vs = law.tells x (λ w. times w vs) h v l in
    let n : length (t.fresh v) ≡ length (range_of u before mid v) = alike_length (b.alike v) (t.fresh v) (range_of u before mid v) (t.near v l) in
    let k : length (range_of u before mid v) ≡ times v mid = range_length (u v) (times v before) (times v mid) (r.room v l) in
    let j : length (b.table x' v) ≡ length (b.table x v) + length (t.fresh v) = ap length (t.here v l) ∙ length-append (b.table x v) (t.fresh v) in
    let q = times-append v vs mid in
    omega (arith, e, n, k, j, q)

same_front : (b : Bank) → IsBank b → {x x' : Content} (u : ℕ → List Row) (before mid vs : List ℕ) → are_below b.size vs ≡ true → b.told x (λ v. times v vs) ≡ true → BankCopied b x x' (λ v. times v before) (range_of u before mid) → (v o : ℕ) → o < times v vs → slice_index_or (b.table x' v) o unit ≡ slice_index_or (b.table x v) o unit
same_front b law {x} {x'} u before mid vs below h t v o l = ⊎_elim
    (λ (k : v < b.size).
    let e : length (b.table x v) ≡ times v vs = law.tells x (λ w. times w vs) h v k in
    ap (λ rs. slice_index_or rs o unit) (t.here v k) ∙ index_front (b.table x v) (t.fresh v) o (omega (arith, e, l)))
    (λ (k : b.size ≤ v). let z = none_beyond b.size v vs below k in absurd (omega (arith, z, l)))
    (cases_lt v b.size)

near_range : (b : Bank) → IsBank b → {x x' : Content} (u : ℕ → List Row) (before mid vs : List ℕ) → HasRange b.size u before mid → b.told x (λ v. times v vs) ≡ true → BankCopied b x x' (λ v. times v before) (range_of u before mid) → (v i : ℕ) → i < times v mid → b.alike v (slice_index_or (b.table x' v) (times v vs + i) unit) (slice_index_or (u v) (times v before + i) unit) ≡ true
near_range b law {x} {x'} u before mid vs r h t v i l = ⊎_elim
    (λ (k : v < b.size).
    let e : length (b.table x v) ≡ times v vs = law.tells x (λ w. times w vs) h v k in
    let p : slice_index_or (b.table x' v) (times v vs + i) unit ≡ slice_index_or (t.fresh v) i unit = ap (λ rs. slice_index_or rs (times v vs + i) unit) (t.here v k) ∙ index_past (b.table x v) (t.fresh v) (times v vs + i) i (omega (arith, e)) in
    let q : slice_index_or (range_of u before mid v) i unit ≡ slice_index_or (u v) (times v before + i) unit = index_take (drop (times v before) (u v)) (times v mid) i l ∙ index_drop (u v) (times v before) (times v before + i) i refl in
    let n : length (range_of u before mid v) ≡ times v mid = range_length (u v) (times v before) (times v mid) (r.room v k) in
    rw (p, ← q) (alike_at (b.alike v) (t.fresh v) (range_of u before mid v) i (t.near v k) (omega (arith, n, l))))
    (λ (k : b.size ≤ v). let z = none_beyond b.size v mid r.below k in absurd (omega (arith, z, l)))
    (cases_lt v b.size)

-- The whole accepted the rows of a range if each column accepted those of its variant, and the variants theirs.
pub variants_copied : (b : Bank) → IsBank b → {x x' y y' : Content} (u : ℕ → List Row) (before mid : List ℕ) → IsSound (variants_format b) (both x y) → HasRange b.size u before mid → BankCopied b x x' (λ v. times v before) (range_of u before mid) → IsSound discriminant_format y' → variants_of y' ≡ variants_of y ++ mid → Took (variants_format b) (both x y) (both x' y') (chosen u before mid)
variants_copied b law {x} {x'} {y} {y'} u before mid s r t f e =
    let p = variants_parts b s in
    let vs = variants_of y in
    let told : (v : ℕ) → v < b.size → length (b.table x' v) ≡ times v (vs ++ mid) = told_copied b law u before mid vs r p.told t in
    let n : length (chosen (b.table x) [] vs) ≡ length vs = length-chosen (b.table x) [] vs in
    let front : (m : ℕ) → m ≤ length (chosen (b.table x) [] vs) → take m (variants_of y') ≡ take m vs = λ m l. ap (take m) e ∙ take-append-le m vs mid (omega (arith, n, l)) in
    record {
      fresh = chosen (b.table x') vs mid;
      grew = record {
        sound = variants_sound b (record { parts = t.sound p.parts; forms = f; below = ap (are_below b.size) e ∙ below_both b.size vs mid p.below r.below; told = ap (λ ws. b.told x' (λ v. times v ws)) e ∙ law.tells_back x' (λ v. times v (vs ++ mid)) (t.sound p.parts) told });
        rows = ap (chosen (b.table x') []) e ∙ (chosen-append (b.table x') [] vs mid ∙ ap (λ rs. rs ++ chosen (b.table x') vs mid) (chosen-same (b.table x') (b.table x) [] vs (same_front b law u before mid vs p.below p.told t)));
        kept = record {
          extents = λ m l. rw (front m l) (ap (λ ls. ls ++ form_lengths (take m vs)) (t.rooms (λ v. times v (take m vs)) (counts_within b law x vs m p.told)));
          limits = λ m l w rs. rw (front m l) (ap (λ z. past_count w (m + length rs) || z) (t.limits (λ v. times v (take m vs)) (counts_within b law x vs m p.told) w (λ v. of_case v rs)));
        };
      };
      alike = chosen_alike b.alike (b.table x') u vs before mid (near_range b law u before mid vs r p.told t);
      adds = λ w rs h.
          let c : length (chosen (b.table x') [] (variants_of y')) ≡ length (variants_of y') = length-chosen (b.table x') [] (variants_of y') in
          let d : length (variants_of y') ≡ length vs + length mid = ap length e ∙ length-append vs mid in
          let g : length (chosen u before mid ++ rs) ≡ length mid + length rs = length-append (chosen u before mid) rs ∙ ap (λ k. k + length rs) (length-chosen u before mid) in
          let all' : take (length (chosen (b.table x') [] (variants_of y'))) (variants_of y') ≡ variants_of y' = ap (λ z. take z (variants_of y')) c ∙ take-length (variants_of y') in
          let all : take (length (chosen (b.table x) [] vs)) vs ≡ vs = ap (λ z. take z vs) n ∙ take-length vs in
          or_both (past_count w (length (chosen (b.table x') [] (variants_of y')) + length rs)) (b.refuses w x' (λ v. times v (take (length (chosen (b.table x') [] (variants_of y'))) (variants_of y'))) (λ v. of_case v rs))
          (past_count w (length (chosen (b.table x) [] vs) + length (chosen u before mid ++ rs))) (b.refuses w x (λ v. times v (take (length (chosen (b.table x) [] vs)) vs)) (λ v. of_case v (chosen u before mid ++ rs)))
          (λ i. let m : length (chosen (b.table x) [] vs) + length (chosen u before mid ++ rs) ≡ length (chosen (b.table x') [] (variants_of y')) + length rs = omega (arith, c, d, n, g) in rw m i)
          (λ i.
          let k = t.adds (λ v. times v (take (length (chosen (b.table x') [] (variants_of y'))) (variants_of y'))) (λ v. times v (take (length (chosen (b.table x) [] vs)) vs))
          (λ v l. ap (times v) (all' ∙ e) ∙ sym (told v l))
          (λ v l. ap (times v) all ∙ sym (law.tells x (λ z. times z vs) p.told v l))
          w (λ v. of_case v rs) i in
          law.agrees w x (λ v. times v (take (length (chosen (b.table x) [] vs)) vs)) (λ v. times v (take (length (chosen (b.table x) [] vs)) vs)) (λ v. of_case v (chosen u before mid ++ rs)) (λ v. range_of u before mid v ++ of_case v rs) (λ v l. refl)
          (λ v l. of_case-append v (chosen u before mid) rs ∙ ap (λ z. z ++ of_case v rs) (of_chosen u v before mid (r.room v l))) ∙ k) h;
    }

-- A range from row 0 that is copied into an empty column is unchanged.
pub variants_front : (b : Bank) → IsBank b → {x x' y : Content} (y' : Content) (u : ℕ → List Row) (mid : List ℕ) → IsSound (variants_format b) (both x y) → HasRange b.size u [] mid → BankCopied b x x' (λ v. times v []) (range_of u [] mid) → variants_of y' ≡ variants_of y ++ mid → (variants_format b).rows (both x y) ≡ [] → (variants_format b).rows (both x' y') ≡ chosen u [] mid
variants_front b law {x} {x'} {y} y' u mid s r t e h =
    let p = variants_parts b s in
    let n : length (chosen (b.table x) [] (variants_of y)) ≡ length (variants_of y) = length-chosen (b.table x) [] (variants_of y) in
    let z : variants_of y ≡ [] = nil_from_length (variants_of y) (sym n ∙ ap length h) in
    let w : variants_of y' ≡ mid = e ∙ ap (λ vs. vs ++ mid) z in
    ap (chosen (b.table x') []) w ∙ chosen-same (b.table x') u [] mid (λ v o l. ⊎_elim
    (λ (k : v < b.size).
    let i : length (b.table x v) ≡ times v (variants_of y) = law.tells x (λ c. times c (variants_of y)) p.told v k in
    let j : b.table x v ≡ [] = nil_from_length (b.table x v) (i ∙ ap (times v) z) in
    let q : b.table x' v ≡ range_of u [] mid v = t.front v k j refl in
    ap (λ rs. slice_index_or rs o unit) q ∙ (index_take (drop 0 (u v)) (times v mid) o l ∙ index_drop (u v) 0 o o (omega arith)))
    (λ (k : b.size ≤ v). let c = none_beyond b.size v mid r.below k in absurd (omega (arith, c, l)))
    (cases_lt v b.size))

-- a range of the rows of a sound column

chosen_drop : (u : ℕ → List Row) (p : List ℕ) (m : ℕ) (ws : List ℕ) → drop m (chosen u p ws) ≡ chosen u (p ++ take m ws) (drop m ws)
chosen_drop u p zero ws = ap (λ q. chosen u q ws) (sym (append-nil p))
chosen_drop u p (suc m) [] = refl
chosen_drop u p (suc m) (w ∷ ws) = chosen_drop u (p ++ w ∷ []) m ws ∙ ap (λ q. chosen u q (drop m ws)) (append_assoc p (w ∷ []) (take m ws))

pub chosen_range : (u : ℕ → List Row) (m k : ℕ) (ws : List ℕ) → chosen u (take m ws) (take (k - m) (drop m ws)) ≡ take (k - m) (drop m (chosen u [] ws))
chosen_range u m k ws = chosen-take (k - m) u (take m ws) (drop m ws) ∙ ap (take (k - m)) (sym (chosen_drop u [] m ws))

pub has_range : (d : Bank) → IsBank d → {z w : Content} (m k : ℕ) → IsSound (variants_format d) (both z w) → HasRange d.size (d.table z) (take m (variants_of w)) (take (k - m) (drop m (variants_of w)))
has_range d law {z} {w} m k s =
    let p = variants_parts d s in
    let ws = variants_of w in
    record {
      room = λ v l.
          let e : length (d.table z v) ≡ times v ws = law.tells z (λ c. times c ws) p.told v l in
          let a = times-append v (take m ws) (drop m ws) in
          let c : times v (take m ws ++ drop m ws) ≡ times v ws = ap (times v) (take-append-drop m ws) in
          let f = times-append v (take (k - m) (drop m ws)) (drop (k - m) (drop m ws)) in
          let g : times v (take (k - m) (drop m ws) ++ drop (k - m) (drop m ws)) ≡ times v (drop m ws) = ap (times v) (take-append-drop (k - m) (drop m ws)) in
          omega (arith, e, a, c, f, g);
      below = below-take d.size (k - m) (drop m ws) (below-drop d.size m ws p.below);
    }

-- refusals

pub join_stayed : (a : Format) (b : Bank) {x x' y y' : Content} → Stayed a x x' → BankStayed b y y' → BankStayed (join a b) (both x y) (both x' y')
join_stayed a b {x} {x'} {y} {y'} t u = record {
  same = both_same a b x x' y y' t.rows u.same;
  lengths_same = let p = t.lengths_same in let q = u.lengths_same in rw (p, q) refl;
  rooms = λ n h. let p : a.extent x' (n 0) ≡ a.extent x (n 0) = t.kept.extents (n 0) (h 0 (omega arith)) in let q = u.rooms (λ v. n (suc v)) (λ v l. h (suc v) (omega arith)) in rw (p, q) refl;
  limits = λ n h e f. let p : a.refuses e x' (n 0) (f 0) ≡ a.refuses e x (n 0) (f 0) = t.kept.limits (n 0) (h 0 (omega arith)) e (f 0) in let q = u.limits (λ v. n (suc v)) (λ v l. h (suc v) (omega arith)) e (λ v. f (suc v)) in rw (p, q) refl;
  sound = λ s. let p = two_parts (beside_two a b.sides) x y s in two_sound (beside_two a b.sides) x' y' (record { left = t.sound; right = u.sound p.right; own = refl });
}
  where
    both_same : (a : Format) (b : Bank) (x x' y y' : Content) → a.rows x' ≡ a.rows x → ((v : ℕ) → b.table y' v ≡ b.table y v) → (v : ℕ) → join_table a b (both x' y') v ≡ join_table a b (both x y) v
    both_same a b x x' y y' h k zero = h
    both_same a b x x' y y' h k (suc v) = k v

pub leaf_denied : (a : Format) {x x' : Content} (f : ℕ → List Row) {error : GrowError} → BankStayed (leaf a) x x' → Refused a x x' (f 0) error → BankDenied (leaf a) x x' f error
leaf_denied a {x} {x'} f q t = record { stayed = q; format = a; content = x; asked = f 0; cause = t.cause; passes = λ e n h w. rw (h 0 (omega arith)) w }

pub first_denied : (a : Format) (b : Bank) {x x' y y' : Content} (f : ℕ → List Row) {error : GrowError} → Refused a x x' (f 0) error → BankStayed b y y' → BankDenied (join a b) (both x y) (both x' y') f error
first_denied a b {x} {x'} {y} {y'} f t u = record {
  stayed = join_stayed a b t.stayed u;
  format = a;
  content = x;
  asked = f 0;
  cause = t.cause;
  passes = λ e n h w. or_left (a.refuses e x (n 0) (f 0)) (b.refuses e y (λ v. n (suc v)) (λ v. f (suc v))) (rw (h 0 (omega arith)) w);
}

pub later_denied : (a : Format) (b : Bank) {x x' y y' : Content} (f : ℕ → List Row) {error : GrowError} → Stayed a x x' → BankDenied b y y' (λ v. f (suc v)) error → BankDenied (join a b) (both x y) (both x' y') f error
later_denied a b {x} {x'} {y} {y'} f t u = record {
  stayed = join_stayed a b t u.stayed;
  format = u.format;
  content = u.content;
  asked = u.asked;
  cause = u.cause;
  passes = λ e n h w. or_right (a.refuses e x (n 0) (f 0)) (b.refuses e y (λ v. n (suc v)) (λ v. f (suc v))) (u.passes e (λ v. n (suc v)) (λ v l. h (suc v) (omega arith)) w);
}

pub variants_denied : (b : Bank) → IsBank b → {x x' y : Content} (u : ℕ → List Row) (before mid : List ℕ) {error : GrowError} → IsSound (variants_format b) (both x y) → HasRange b.size u before mid → BankDenied b x x' (range_of u before mid) error → Refused (variants_format b) (both x y) (both x' y) (chosen u before mid) error
variants_denied b law {x} {x'} {y} u before mid {error} s r t =
    let p = variants_parts b s in
    let vs = variants_of y in
    let n : length (chosen (b.table x) [] vs) ≡ length vs = length-chosen (b.table x) [] vs in
    let all : take (length (chosen (b.table x) [] vs)) vs ≡ vs = ap (λ z. take z vs) n ∙ take-length vs in
    record {
      stayed = variants_stayed b law s t.stayed;
      cause = true_from t.format (variants_format b) t.content (both x y) t.asked (chosen u before mid) error (λ e k. or_right (past_count e (length (chosen (b.table x) [] vs) + length (chosen u before mid))) (b.refuses e x (λ v. times v (take (length (chosen (b.table x) [] vs)) vs)) (λ v. of_case v (chosen u before mid)))
          (law.agrees e x (λ v. times v (take (length (chosen (b.table x) [] vs)) vs)) (λ v. times v (take (length (chosen (b.table x) [] vs)) vs)) (λ v. of_case v (chosen u before mid)) (range_of u before mid) (λ v l. refl) (λ v l. of_chosen u v before mid (r.room v l))
          ∙ t.passes e (λ v. times v (take (length (chosen (b.table x) [] vs)) vs)) (λ v l. ap (times v) all ∙ sym (law.tells x (λ z. times z vs) p.told v l)) k)) t.cause;
    }

-- The variants refused and are unchanged, and so are the columns.
pub variants_overfull : (b : Bank) → IsBank b → {x x' y y' : Content} (u : ℕ → List Row) (before mid : List ℕ) {error : GrowError} → IsSound (variants_format b) (both x y) → BankStayed b x x' → Stayed discriminant_format y y' → variants_of y' ≡ variants_of y → ((rs : List Row) → length rs ≡ length mid → IsTrueOf error discriminant_format y rs) → Refused (variants_format b) (both x y) (both x' y') (chosen u before mid) error
variants_overfull b law {x} {x'} {y} {y'} u before mid {error} s t f e h =
    let q = variants_stayed b law s t in
    let p = variants_parts b q.sound in
    let n : length (chosen (b.table x) [] (variants_of y)) ≡ length (variants_of y) = length-chosen (b.table x) [] (variants_of y) in
    let j : length (discriminant_format.rows y) ≡ length (variants_of y) = length-variant_rows (variants_of y) in
    record {
      stayed = record {
        sound = variants_sound b (record { parts = p.parts; forms = f.sound; below = ap (are_below b.size) e ∙ p.below; told = ap (λ ws. b.told x' (λ v. times v ws)) e ∙ p.told });
        rows = ap (chosen (b.table x') []) e ∙ q.rows;
        lengths_same = let i = f.lengths_same in let k = t.lengths_same in rw (i, k) refl;
        kept = record {
          extents = λ m l. ap (λ ws. b.room x' (λ v. times v (take m ws)) ++ form_lengths (take m ws)) e ∙ q.kept.extents m l;
          limits = λ m l w rs. ap (λ ws. past_count w (m + length rs) || b.refuses w x' (λ v. times v (take m ws)) (λ v. of_case v rs)) e ∙ q.kept.limits m l w rs;
        };
      };
      cause = true_from discriminant_format (variants_format b) y (both x y) (chosen u before mid) (chosen u before mid) error (λ w k. or_left (past_count w (length (chosen (b.table x) [] (variants_of y)) + length (chosen u before mid))) (b.refuses w x (λ v. times v (take (length (chosen (b.table x) [] (variants_of y))) (variants_of y))) (λ v. of_case v (chosen u before mid)))
          (let i : length (discriminant_format.rows y) + length (chosen u before mid) ≡ length (chosen (b.table x) [] (variants_of y)) + length (chosen u before mid) = omega (arith, n, j) in rw i at k)) (h (chosen u before mid) (length-chosen u before mid));
    }

-- the variants of a range, one by one

-- a refusal of one of the rows is a refusal of all
pub variants_cause : (x y : Content) (r : Row) (rs : List Row) (n : ℕ) (error : GrowError) → length (variants_of y) ≡ length (variants_of x) + n → n < length rs → IsTrueOf error discriminant_format y (r ∷ []) → IsTrueOf error discriminant_format x rs
variants_cause x y r rs n error e l h = true_from discriminant_format discriminant_format y x (r ∷ []) rs error (λ w k.
    let i = length-variant_rows (variants_of x) in
    let j = length-variant_rows (variants_of y) in
    past_grows w (length (discriminant_format.rows y) + 1) (length (discriminant_format.rows x) + length rs) (omega (arith, e, l, i, j)) k) h

-- the column of a variant has the values of its rows, in order
pub variants_values : (b : Bank) → IsBank b → {x y : Content} → IsSound (variants_format b) (both x y) → (v : ℕ) → v < b.size → b.table x v ≡ of_case v ((variants_format b).rows (both x y))
variants_values b law {x} {y} s v l =
    let n : length (b.table x v) ≡ times v (variants_of y) = law.tells x (λ w. times w (variants_of y)) (variants_parts b s).told v l in
    sym (of_chosen (b.table x) v [] (variants_of y) (omega (arith, n)) ∙ (rw (← n) (take-length (b.table x v))))
