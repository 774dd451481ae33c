-- Columns of variants are lawful and storable if their parts are.
use Rattle.std.proofs.Common.{◌≡◌, ℕ, zero, suc, ◌+◌, ◌<◌, Bool, true, List, [], ◌++◌, length, take, refl, sym, ◌∙◌, ap, arith}
use Rattle.std.proofs.lemmas.Bool.{and_parts, and_from}
use Rattle.std.proofs.Math.Seq.{take-length}
use Rattle.columnar_core.specs.Row.{Row, tuple, row_eq, first_of, second_of, number_of}
use Rattle.columnar_base.specs.RowLaws.{row_eq-refl, row_eq-is, is-row_eq}
use Rattle.columnar_core.specs.Format.{Format, Content, slice, both, part, plain, IsSound, IsLawful, IsStorable, IsSame, Excess, lengths, two_broken}
use Rattle.columnar_core.specs.FaultLaws.{nothing_left}
use Rattle.columnar_core.specs.TwoParts.{IsBoth}
use Rattle.columnar_core.specs.TwoPartsLaws.{two_form, two_storable}
use Rattle.columnar_core.specs.TupleLaws.{or_both}
use Rattle.columnar_core.specs.Elements.{past_count}
use Rattle.columnar_sums.specs.Discriminants.{times, variants_of, discriminant_format, form_lengths, variant_rows}
use Rattle.columnar_variants.specs.Variants.{Bank, IsBank, IsLawfulBank, leaf, join, join_table, by_variant, variants_format, variants_alike, variants_rows, variants_refuses, variants_extent, bare_case, of_case, chosen, is_below, level_broken}
use Rattle.columnar_variants.specs.VariantLaws.{variants_parts, variants_len, length-chosen, beside_parts, inner, inner_two}
use Rattle.columnar_variants.specs.VariantListLaws.{of_case-append}
use Rattle.columnar_sums.specs.Results.{beside_format}
use Rattle.columnar_sums.specs.ResultLaws.{beside_two}

pub leaf_lawful : (a : Format) → IsLawful a → IsLawfulBank (leaf a)
leaf_lawful a law = record {
  full = λ c n s h. rw (h 0 (omega arith)) (law.full c s);
  same = λ v. law.same;
  kindred = λ v. law.kindred;
  related = λ v r s h. law.related r s h;
  more = λ e c n f g h k w. rw (k 0) (law.more e c (n 0) (f 0) (g 0) w);
}

join_full : (a : Format) (b : Bank) → IsLawful a → IsLawfulBank b → (c : Content) (n : ℕ → ℕ) → IsSound (beside_format a b.sides) c → ((v : ℕ) → v < suc b.size → n v ≡ length (join_table a b c v)) → (join a b).room c n ≡ lengths c
join_full a b la lb (both x y) n s h =
    let p = beside_parts a b.sides s in
    let e : a.extent x (n 0) ≡ lengths x = rw (h 0 (omega arith)) (la.full x p.0) in
    let f : b.room y (λ v. n (suc v)) ≡ lengths y = lb.full y (λ v. n (suc v)) p.1 (λ v l. h (suc v) (omega arith)) in
    rw (e, f) refl
join_full a b la lb (slice bs) n s h = let k = s.accepted in cc
join_full a b la lb (part l u x) n s h = let k = s.accepted in cc
join_full a b la lb (plain rs) n s h = let k = s.accepted in cc

by_same : (p : Row → Row → Bool) (q : ℕ → Row → Row → Bool) → IsSame p → ((v : ℕ) → IsSame (q v)) → (v : ℕ) → IsSame (by_variant p q v)
by_same p q e f zero = e
by_same p q e f (suc v) = f v

by_related : (p p' : Row → Row → Bool) (q q' : ℕ → Row → Row → Bool) → ((r s : Row) → p r s ≡ true → p' r s ≡ true) → ((v : ℕ) (r s : Row) → q v r s ≡ true → q' v r s ≡ true) → (v : ℕ) (r s : Row) → by_variant p q v r s ≡ true → by_variant p' q' v r s ≡ true
by_related p p' q q' e f zero r s h = e r s h
by_related p p' q q' e f (suc v) r s h = f v r s h

join_more : (a : Format) (b : Bank) → IsLawful a → IsLawfulBank b → (e : Excess) (c : Content) (n : ℕ → ℕ) (f g h : ℕ → List Row) → ((v : ℕ) → h v ≡ f v ++ g v) → (join a b).refuses e c n f ≡ true → (join a b).refuses e c n h ≡ true
join_more a b la lb e (both x y) n f g h k w =
    or_both (a.refuses e x (n 0) (f 0)) (b.refuses e y (λ v. n (suc v)) (λ v. f (suc v))) (a.refuses e x (n 0) (h 0)) (b.refuses e y (λ v. n (suc v)) (λ v. h (suc v)))
    (λ i. rw (k 0) (la.more e x (n 0) (f 0) (g 0) i)) (λ i. lb.more e y (λ v. n (suc v)) (λ v. f (suc v)) (λ v. g (suc v)) (λ v. h (suc v)) (λ v. k (suc v)) i) w
join_more a b la lb e (slice bs) n f g h k w = w
join_more a b la lb e (part l u x) n f g h k w = w
join_more a b la lb e (plain rs) n f g h k w = w

pub join_lawful : (a : Format) (b : Bank) → IsLawful a → IsLawfulBank b → IsLawfulBank (join a b)
join_lawful a b la lb = record {
  full = join_full a b la lb;
  same = by_same a.alike b.alike la.same lb.same;
  kindred = by_same a.kin b.kin la.kindred lb.kindred;
  related = by_related a.alike a.kin b.alike b.kin la.related lb.related;
  more = join_more a b la lb;
}

-- rows of one variant, by its own relation

first_bare : (r : Row) → first_of (bare_case r) ≡ first_of r
first_bare r = elim_row r
  where
    elim_row : (r : Row) → first_of (bare_case r) ≡ first_of r
    elim_row (tuple r s) = refl
    elim_row _ = refl

same_number : (r s : Row) → row_eq (bare_case r) (bare_case s) ≡ true → number_of (first_of r) ≡ number_of (first_of s)
same_number r s h =
    let e : bare_case r ≡ bare_case s = row_eq-is (bare_case r) (bare_case s) h in
    ap number_of (sym (first_bare r) ∙ (ap first_of e ∙ first_bare s))

pub case_same : (q : ℕ → Row → Row → Bool) → ((v : ℕ) → IsSame (q v)) → IsSame (variants_alike q)
case_same q e = record {
  reflexive = λ r. and_from _ _ (row_eq-refl (bare_case r)) ((e (number_of (first_of r))).reflexive (second_of r));
  symmetric = λ r s h.
      let p = and_parts (row_eq (bare_case r) (bare_case s)) (q (number_of (first_of r)) (second_of r) (second_of s)) h in
      let n : number_of (first_of r) ≡ number_of (first_of s) = same_number r s p.0 in
      let t : q (number_of (first_of s)) (second_of s) (second_of r) ≡ true = (e (number_of (first_of s))).symmetric (second_of r) (second_of s) (rw n at p.1) in
      and_from _ _ (is-row_eq (bare_case s) (bare_case r) (sym (row_eq-is (bare_case r) (bare_case s) p.0))) t;
  transitive = λ r s t h k.
      let p = and_parts (row_eq (bare_case r) (bare_case s)) (q (number_of (first_of r)) (second_of r) (second_of s)) h in
      let u = and_parts (row_eq (bare_case s) (bare_case t)) (q (number_of (first_of s)) (second_of s) (second_of t)) k in
      let n : number_of (first_of s) ≡ number_of (first_of r) = sym (same_number r s p.0) in
      and_from _ _ (is-row_eq (bare_case r) (bare_case t) (row_eq-is (bare_case r) (bare_case s) p.0 ∙ row_eq-is (bare_case s) (bare_case t) u.0))
      ((e (number_of (first_of r))).transitive (second_of r) (second_of s) (second_of t) p.1 (rw n at u.1));
}

variants_more : (b : Bank) → IsLawfulBank b → IsLawful discriminant_format → (e : Excess) (c : Content) (n : ℕ) (rs ss : List Row) → variants_refuses b e c n rs ≡ true → variants_refuses b e c n (rs ++ ss) ≡ true
variants_more b law dl e (both x y) n rs ss h =
    or_both (past_count e (n + length rs)) (b.refuses e x (λ v. times v (take n (variants_of y))) (λ v. of_case v rs)) (past_count e (n + length (rs ++ ss))) (b.refuses e x (λ v. times v (take n (variants_of y))) (λ v. of_case v (rs ++ ss)))
    (λ i. dl.more e y n rs ss i) (λ i. law.more e x (λ v. times v (take n (variants_of y))) (λ v. of_case v rs) (λ v. of_case v ss) (λ v. of_case v (rs ++ ss)) (λ v. of_case-append v rs ss) i) h
variants_more b law dl e (slice bs) n rs ss h = h
variants_more b law dl e (part l u x) n rs ss h = h
variants_more b law dl e (plain ts) n rs ss h = h

variants_full_at : (b : Bank) → IsBank b → IsLawfulBank b → IsLawful discriminant_format → (x y : Content) → IsSound (variants_format b) (both x y) → variants_extent b (both x y) (length (variants_rows b (both x y))) ≡ lengths (both x y)
variants_full_at b bank law dl x y s =
    let p = variants_parts b s in
    let vs = variants_of y in
    let n : length (chosen (b.table x) [] vs) ≡ length vs = length-chosen (b.table x) [] vs in
    let all : take (length (chosen (b.table x) [] vs)) vs ≡ vs = ap (λ z. take z vs) n ∙ take-length vs in
    let e : b.room x (λ v. times v (take (length (chosen (b.table x) [] vs)) vs)) ≡ lengths x = law.full x (λ v. times v (take (length (chosen (b.table x) [] vs)) vs)) p.parts (λ v l. ap (times v) all ∙ sym (bank.tells x (λ u. times u vs) p.told v l)) in
    let m : length (variant_rows [] vs) ≡ length (chosen (b.table x) [] vs) = variants_len b x y in
    let f : form_lengths (take (length (chosen (b.table x) [] vs)) vs) ≡ lengths y = rw m at (dl.full y p.forms) in
    rw (e, f) refl

-- a sound content has the columns and the variants
pub variants_form : (b : Bank) (c : Content) → IsSound (variants_format b) c → IsBoth c
variants_form b c s =
    let p = nothing_left (two_broken b.sides discriminant_format (is_below b) 17 c) (level_broken b c) s.accepted in
    two_form (inner_two b) c (record { accepted = p.0 })

variants_full_all : (b : Bank) → IsBank b → IsLawfulBank b → IsLawful discriminant_format → (c : Content) → IsSound (variants_format b) c → (variants_format b).extent c (length ((variants_format b).rows c)) ≡ lengths c
variants_full_all b bank law dl c s =
    let f = variants_form b c s in
    rw f.is (variants_full_at b bank law dl f.left f.right (rw f.is at s))

pub variants_lawful : (b : Bank) → IsBank b → IsLawfulBank b → IsLawful discriminant_format → IsLawful (variants_format b)
variants_lawful b bank law dl = record {
  full = variants_full_all b bank law dl;
  same = case_same b.alike law.same;
  kindred = case_same b.kin law.kindred;
  related = λ r s h. let p = and_parts (row_eq (bare_case r) (bare_case s)) (b.alike (number_of (first_of r)) (second_of r) (second_of s)) h in and_from _ _ p.0 (law.related (number_of (first_of r)) (second_of r) (second_of s) p.1);
  more = variants_more b law dl;
}

pub join_storable : (a : Format) (b : Bank) → IsStorable a → IsStorable b.sides → IsStorable (join a b).sides
join_storable a b p q = two_storable (beside_two a b.sides) (omega arith) p q

pub variants_storable : (b : Bank) → IsStorable b.sides → IsStorable discriminant_format → IsStorable (variants_format b)
variants_storable b p d =
    let q = two_storable (inner_two b) (omega arith) p d in
    let inside : (c : Content) → IsSound (variants_format b) c → IsSound (inner b) c = λ c s. record { accepted = (nothing_left (two_broken b.sides discriminant_format (is_below b) 17 c) (level_broken b c) s.accepted).0 } in
    record {
      swift = q.swift;
      sized = q.sized;
      aligned = q.aligned;
      counted = λ c s. q.counted c (inside c s);
      rebuilt = λ c rest s. q.rebuilt c rest (inside c s);
      built = q.built;
    }
