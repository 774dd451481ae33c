-- Multiples, and offsets in unary, deny the ends of lists also with more lists.
use Rattle.std.proofs.Common.{◌≡◌, ℕ, zero, suc, ◌+◌, ◌-◌, ◌*◌, Bool, true, false, not, ◌||◌, List, [], ◌∷◌, length, map, refl, sym, ◌∙◌, ap, arith, inl, ⊎_elim, length-append}
use Rattle.std.specs.Prelude.{nat_eq, nat_lt, ◌&&◌}
use Rattle.std.proofs.lemmas.Bool.{or_cases, or_left, or_right, or_from, and_parts, eq-eqb, ne_eqb, cases_eq, false≢true, le-ltb}
use Rattle.std.proofs.lemmas.List.{length-map}
use Rattle.columnar_base.specs.Row.{Row, truth, items_of}
use Rattle.columnar_base.specs.Format.{Excess, too_many, misplaced}
use Rattle.columnar_base.specs.May.{AreAmong, count_limit}
use Rattle.columnar_base.specs.MayLaws.{among_length, past_more}
use Rattle.columnar_core.specs.Bounds.{numbers}
use Rattle.columnar_lists.specs.CutLaws.{length-ends}
use Rattle.columnar_lists.specs.Lists.{ends, joined}
use Rattle.columnar_lists.specs.MayListLaws.{IsSteadyOnEnds, among_joined}
use Rattle.columnar_primitive.specs.Fixed.{strays}
use Rattle.columnar_primitive.specs.FixedLaws.{passes-more}
use Rattle.columnar_primitive.specs.MayMultiples.{multiples_limit}
use Rattle.columnar_sums.specs.MaySums.{unary_limit}
use Rattle.columnar_sums.specs.Unary.{runs, falls, all_false, is_misplaced}

-- multiples: a list has another number of items

abbrev odd : ℕ → List Row → Bool
odd k [] = false
odd k (r ∷ rs) = not (nat_eq (length (items_of r)) k) || odd k rs

-- after lists of k items each, an end is misplaced if the list has another number of items
same_test : (k n m : ℕ) → nat_eq (k * n + m) (k * suc n) ≡ nat_eq m k
same_test k n m = ⊎_elim
    (λ (e : m ≡ k). let h : k * n + m ≡ k * suc n = omega (arith, e) in eq-eqb (k * n + m) (k * suc n) h ∙ sym (eq-eqb m k e))
    (λ (o : m ≡ k → ⊥). ne_eqb (k * n + m) (k * suc n) (λ h. o (omega (arith, h))) ∙ sym (ne_eqb m k o))
    (cases_eq m k)

strays_odd : (k n : ℕ) (rs : List Row) → strays k n (ends (k * n) rs) ≡ odd k rs
strays_odd k n [] = refl
strays_odd k n (r ∷ rs) =
    let m : ℕ = length (items_of r) in
    ⊎_elim
    (λ (e : m ≡ k).
    let h : k * n + m ≡ k * suc n = omega (arith, e) in
    let s : strays k (suc n) (ends (k * n + m) rs) ≡ odd k rs = ap (λ i. strays k (suc n) (ends i rs)) h ∙ strays_odd k (suc n) rs in
    ap (λ b. not b || strays k (suc n) (ends (k * n + m) rs)) (same_test k n m) ∙ ap (λ c. not (nat_eq m k) || c) s)
    (λ (o : m ≡ k → ⊥).
    let f : nat_eq m k ≡ false = ne_eqb m k o in
    ap (λ b. not b || strays k (suc n) (ends (k * n + m) rs)) (same_test k n m ∙ f) ∙ ap (λ b. not b || odd k rs) (sym f))
    (cases_eq m k)

odd_more : (k : ℕ) (rs ss : List Row) → AreAmong rs ss → odd k rs ≡ true → odd k ss ≡ true
odd_more k [] ss h o = absurd (false≢true o)
odd_more k (r ∷ rs) [] h o = absurd h
odd_more k (r ∷ rs) (s ∷ ss) h o = ⊎_elim
    (λ (w : (r ≡ s) × AreAmong rs ss). ⊎_elim
    (λ (i : not (nat_eq (length (items_of r)) k) ≡ true). or_left (not (nat_eq (length (items_of s)) k)) (odd k ss) (ap (λ t. not (nat_eq (length (items_of t)) k)) (sym w.0) ∙ i))
    (λ (i : odd k rs ≡ true). or_right (not (nat_eq (length (items_of s)) k)) (odd k ss) (odd_more k rs ss w.1 i))
    (or_cases (not (nat_eq (length (items_of r)) k)) (odd k rs) o))
    (λ (w : AreAmong (r ∷ rs) ss). or_right (not (nat_eq (length (items_of s)) k)) (odd k ss) (odd_more k (r ∷ rs) ss w o))
    h

multiples_more : (k : ℕ) (e : Excess) (rs ss : List Row) → AreAmong rs ss → multiples_limit k e (ends 0 rs) → multiples_limit k e (ends 0 ss)
multiples_more k too_many rs ss h i =
    let a = length-ends 0 rs in
    let b = length-ends 0 ss in
    let c = among_length rs ss h in
    passes-more k (0 + length (ends 0 rs)) (0 + length (ends 0 ss)) (omega (arith, a, b, c)) i
multiples_more k misplaced rs ss h i =
    let z : k * 0 ≡ 0 = omega arith in
    let f = ap (λ n. strays k 0 (ends n rs)) (sym z) ∙ strays_odd k 0 rs in
    let g = ap (λ n. strays k 0 (ends n ss)) (sym z) ∙ strays_odd k 0 ss in
    g ∙ odd_more k rs ss h (sym f ∙ i)

pub multiples_on_ends : (k : ℕ) → IsSteadyOnEnds (multiples_limit k)
multiples_on_ends k = record { more = multiples_more k }

-- offsets in unary: a bit for each list and one for each item

length-zeros : (n : ℕ) → length (all_false n) ≡ n
length-zeros zero = refl
length-zeros (suc n) = ap suc (length-zeros n)

length-runs : (n : ℕ) (rs : List Row) → length (runs n (numbers (ends n rs))) ≡ length rs + length (joined rs)
length-runs n [] = omega arith
length-runs n (r ∷ rs) =
    let m : ℕ = length (items_of r) in
    let a = length-append (all_false (n + m - n)) (true ∷ runs (n + m) (numbers (ends (n + m) rs))) in
    let b = length-zeros (n + m - n) in
    let c = length-runs (n + m) rs in
    let d = length-append (items_of r) (joined rs) in
    omega (arith, a, b, c, d)

never_fall : (n : ℕ) (rs : List Row) → falls n (numbers (ends n rs)) ≡ false
never_fall n [] = refl
never_fall n (r ∷ rs) = or_from (nat_lt (n + length (items_of r)) n) (falls (n + length (items_of r)) (numbers (ends (n + length (items_of r)) rs))) (le-ltb (n + length (items_of r)) n (omega arith)) (never_fall (n + length (items_of r)) rs)

bits_of_ends : (rs : List Row) → length (map truth (runs 0 (numbers (ends 0 rs)))) ≡ length rs + length (joined rs)
bits_of_ends rs = length-map (runs 0 (numbers (ends 0 rs))) truth ∙ length-runs 0 rs

pub unary_on_ends : IsSteadyOnEnds unary_limit
unary_on_ends = record {
  more = λ e rs ss h k. ⊎_elim
      (λ (i : count_limit e (map truth (runs 0 (numbers (ends 0 rs))))).
      let a = bits_of_ends rs in
      let b = bits_of_ends ss in
      let c = among_length rs ss h in
      let d = among_length (joined rs) (joined ss) (among_joined rs ss h) in
      inl (past_more e (length (map truth (runs 0 (numbers (ends 0 rs))))) (length (map truth (runs 0 (numbers (ends 0 ss))))) (omega (arith, a, b, c, d)) i))
      (λ (i : (is_misplaced e && falls 0 (numbers (ends 0 rs))) ≡ true).
      let p = and_parts (is_misplaced e) (falls 0 (numbers (ends 0 rs))) i in
      absurd (false≢true (sym (never_fall 0 rs) ∙ p.1))) k;
}
