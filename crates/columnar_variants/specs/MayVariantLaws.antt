-- Limits of columns of sum types: they deny what the columns refuse.
use Rattle.std.proofs.Common.{refl, ◌≡◌, ℕ, suc, ◌+◌, ◌<◌, true, List, [], ◌++◌, length, take, sym, ◌∙◌, ap, subst, arith, inl, inr, ⊎_elim, length-append}
use Rattle.std.proofs.Math.Seq.{take-length}
use Rattle.std.proofs.lemmas.Bool.{or_cases, false≢true}
use Rattle.columnar_core.specs.Row.{Row}
use Rattle.columnar_core.specs.Format.{Format, Content, slice, both, part, plain, IsSound, Excess, refuses_more}
use Rattle.columnar_core.specs.TwoPartsLaws.{two_parts}
use Rattle.columnar_core.specs.Elements.{past_count}
use Rattle.columnar_core.specs.May.{Limit, IsLimited, no_limit}
use Rattle.columnar_core.specs.MayLaws.{nothing_limited}
use Rattle.columnar_sums.specs.Discriminants.{times, variants_of}
use Rattle.columnar_variants.specs.Duals.{dual_format}
use Rattle.columnar_variants.specs.MayVariants.{BankLimit, IsLimitedBank, leaf_limit, join_limit, variants_limit}
use Rattle.columnar_variants.specs.VariantCopyLaws.{of_chosen}
use Rattle.columnar_variants.specs.VariantLaws.{variants_parts, variants_count, variants_number, leaf_bank, join_bank}
use Rattle.columnar_variants.specs.VariantListLaws.{times_of_all, of_case-append}
use Rattle.columnar_variants.specs.Variants.{Bank, IsBank, leaf, join, join_table, chosen, of_case, variants_format, variants_rows}
use Rattle.columnar_sums.specs.Results.{beside_format}
use Rattle.columnar_sums.specs.ResultLaws.{beside_two}

-- banks

pub leaf_limited : (a : Format) {m : Limit} → IsLimited a m → IsLimitedBank (leaf a) (leaf_limit m)
leaf_limited a {m} l = record {
  agrees = λ e f g h k. subst (λ us. m e us) (h 0 (omega arith)) k;
  denied = λ e c n f s h k. l.denied e c (f 0) s (ap (λ i. a.refuses e c i (f 0)) (sym (h 0 (omega arith))) ∙ k);
}

join_denied : (a : Format) (b : Bank) {m : Limit} {p : BankLimit} → IsLimited a m → IsLimitedBank b p → (e : Excess) (c : Content) (n : ℕ → ℕ) (f : ℕ → List Row) → IsSound (beside_format a b.sides) c → ((v : ℕ) → v < suc b.size → n v ≡ length (join_table a b c v)) → (join a b).refuses e c n f ≡ true → join_limit m p e (λ v. join_table a b c v ++ f v)
join_denied a b {m} {p} l lb e (both x y) n f s h k =
    let q = two_parts (beside_two a b.sides) x y s in
    ⊎_elim
    (λ (i : a.refuses e x (n 0) (f 0) ≡ true). inl (l.denied e x (f 0) q.left (ap (λ j. a.refuses e x j (f 0)) (sym (h 0 (omega arith))) ∙ i)))
    (λ (i : b.refuses e y (λ v. n (suc v)) (λ v. f (suc v)) ≡ true). inr (lb.denied e y (λ v. n (suc v)) (λ v. f (suc v)) q.right (λ v j. h (suc v) (omega arith)) i))
    (or_cases (a.refuses e x (n 0) (f 0)) (b.refuses e y (λ v. n (suc v)) (λ v. f (suc v))) k)
join_denied a b l lb e (slice bs) n f s h k = absurd (false≢true k)
join_denied a b l lb e (part i u x) n f s h k = absurd (false≢true k)
join_denied a b l lb e (plain us) n f s h k = absurd (false≢true k)

pub join_limited : (a : Format) (b : Bank) {m : Limit} {p : BankLimit} → IsLimited a m → IsLimitedBank b p → IsLimitedBank (join a b) (join_limit m p)
join_limited a b {m} {p} l lb = record {
  agrees = λ e f g h k. ⊎_elim
      (λ (i : m e (f 0)). inl (subst (λ us. m e us) (h 0 (omega arith)) i))
      (λ (i : p e (λ v. f (suc v))). inr (lb.agrees e (λ v. f (suc v)) (λ v. g (suc v)) (λ v j. h (suc v) (omega arith)) i)) k;
  denied = join_denied a b l lb;
}

-- the values of the rows of a variant are those of its column, and then those of the others
of_case_all : (b : Bank) → IsBank b → {x y : Content} → IsSound (variants_format b) (both x y) → (rs : List Row) (v : ℕ) → v < b.size → b.table x v ++ of_case v rs ≡ of_case v (chosen (b.table x) [] (variants_of y) ++ rs)
of_case_all b law {x} {y} s rs v l =
    let n = variants_number b law s v l in
    let e : of_case v (chosen (b.table x) [] (variants_of y)) ≡ b.table x v = of_chosen (b.table x) v [] (variants_of y) (omega (arith, n)) ∙ (ap (λ k. take k (b.table x v)) (sym n) ∙ take-length (b.table x v)) in
    sym (of_case-append v (chosen (b.table x) [] (variants_of y)) rs ∙ ap (λ us. us ++ of_case v rs) e)

variants_denied_by : (b : Bank) {p : BankLimit} → IsBank b → IsLimitedBank b p → (e : Excess) (c : Content) (rs : List Row) → IsSound (variants_format b) c → refuses_more (variants_format b) e c rs ≡ true → variants_limit p e (variants_rows b c ++ rs)
variants_denied_by b {p} law l e (both x y) rs s h =
    let q = variants_parts b s in
    let old : List Row = chosen (b.table x) [] (variants_of y) in
    ⊎_elim
    (λ (k : past_count e (length old + length rs) ≡ true). inl (ap (past_count e) (length-append old rs) ∙ k))
    (λ (k : b.refuses e x (λ v. times v (take (length old) (variants_of y))) (λ v. of_case v rs) ≡ true).
    inr (l.agrees e (λ v. b.table x v ++ of_case v rs) (λ v. of_case v (old ++ rs)) (of_case_all b law s rs)
    (l.denied e x (λ v. times v (take (length old) (variants_of y))) (λ v. of_case v rs) q.parts (λ v i. times_of_all v (length old) (variants_of y) (variants_count b x y) ∙ sym (variants_number b law s v i)) k)))
    (or_cases (past_count e (length old + length rs)) (b.refuses e x (λ v. times v (take (length old) (variants_of y))) (λ v. of_case v rs)) h)
variants_denied_by b law l e (slice bs) rs s h = absurd (false≢true h)
variants_denied_by b law l e (part i u x) rs s h = absurd (false≢true h)
variants_denied_by b law l e (plain us) rs s h = absurd (false≢true h)

pub variants_limited : (b : Bank) {p : BankLimit} → IsBank b → IsLimitedBank b p → IsLimited (variants_format b) (variants_limit p)
variants_limited b law l = record { denied = variants_denied_by b law l }

pub dual_limited : (a b : Format) {m n : Limit} → IsLimited a m → IsLimited b n → IsLimited (dual_format a b) (variants_limit (join_limit m (leaf_limit n)))
dual_limited a b la lb = variants_limited (join a (leaf b)) (join_bank a (leaf b) (leaf_bank b)) (join_limited a (leaf b) la (leaf_limited b lb))
