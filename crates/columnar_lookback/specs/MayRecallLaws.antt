-- Limits of columns in which a row may refer to an earlier one: they deny what the columns refuse.
use Rattle.std.proofs.Common.{◌≡◌, ℕ, suc, ◌+◌, ◌≤◌, Bool, true, List, [], ◌∷◌, ◌++◌, length, refl, sym, ◌∙◌, ap, subst, arith, ◌⊎◌, inl, inr, ⊎_elim, length-append, append_assoc}
use Rattle.std.proofs.lemmas.Bool.{or_cases, false≢true}
use Rattle.columnar_base.specs.Row.{Row, none, some, ok, err, number}
use Rattle.columnar_base.specs.Format.{Format, Excess, refuses_more}
use Rattle.columnar_base.specs.Elements.{past_count}
use Rattle.columnar_base.specs.May.{Limit, IsLimited, AreAmong, IsSteady, count_limit}
use Rattle.columnar_base.specs.MayLaws.{among_after, among_both, among_some, past_more, count_steady}
use Rattle.columnar_sums.specs.MaySums.{options_limit, results_limit}
use Rattle.columnar_sums.specs.MaySumLaws.{options_limited, results_limited}
use Rattle.columnar_sums.specs.Options.{value_of, somes, options_format}
use Rattle.columnar_sums.specs.Results.{ok_part, err_part, oks, errs, results_format}
use Rattle.columnar_lookback.specs.Lookbacks.{lookbacks_code, lookbacks_format}
use Rattle.columnar_lookback.specs.MayRecall.{recall_limit}
use Rattle.columnar_lookback.specs.Recall.{Code, recent, recall, any_row, some_storing, recalled}
use Rattle.columnar_lookback.specs.RecallLaws.{Among, IsStoring, length-recall, recall_parts}
use Rattle.columnar_lookback.specs.Repeats.{repeats_code, repeats_format}

-- A row is stored as itself or as no value, and an inner row that adds a value reads as it.
pub record IsPlainCode (k : Code) : Type 0 where
  pub kept : (r u : Row) → Among u (k.forms r) → AreAmong (k.value u) (r ∷ [])
  pub here : (u : Row) → (k.value u ≡ []) ⊎ ((v : Row) × ((k.value u ≡ v ∷ []) × (k.back u ≡ 0)))

-- the values that inner rows add
abbrev pub brought : Code → List Row → List Row
brought k [] = []
brought k (u ∷ us) = k.value u ++ brought k us

brought-append : (k : Code) (us ws : List Row) → brought k (us ++ ws) ≡ brought k us ++ brought k ws
brought-append k [] ws = refl
brought-append k (u ∷ us) ws = ap (λ t. k.value u ++ t) (brought-append k us ws) ∙ sym (append_assoc (k.value u) (brought k us) (brought k ws))

-- some way of storing the rows satisfies p

some_where : (p : Row → Bool) (us : List Row) → any_row p us ≡ true → (u : Row) × (Among u us × (p u ≡ true))
some_where p [] h = absurd (false≢true h)
some_where p (u ∷ us) h = ⊎_elim
    (λ (i : p u ≡ true). (u, (inl refl, i)))
    (λ (i : any_row p us ≡ true). let w = some_where p us i in (w.0, (inr w.1.0, w.1.1)))
    (or_cases (p u) (any_row p us) h)

storing_found : (k : Code) (p : List Row → Bool) (rs : List Row) → some_storing k p rs ≡ true → (us : List Row) × (IsStoring k us rs × (p us ≡ true))
storing_found k p [] h = ([], (tt, h))
storing_found k p (r ∷ rs) h =
    let w = some_where (λ u. some_storing k (λ us. p (u ∷ us)) rs) (k.forms r) h in
    let z = storing_found k (λ us. p (w.0 ∷ us)) rs w.1.1 in
    (w.0 ∷ z.0, ((w.1.0, z.1.0), z.1.1))

length-storing : (k : Code) (us rs : List Row) → IsStoring k us rs → length us ≡ length rs
length-storing k [] [] s = refl
length-storing k [] (r ∷ rs) s = absurd s
length-storing k (u ∷ us) [] s = absurd s
length-storing k (u ∷ us) (r ∷ rs) s = ap suc (length-storing k us rs s.1)

-- the values are some of the rows

storing_brought : (k : Code) → IsPlainCode k → (us rs : List Row) → IsStoring k us rs → AreAmong (brought k us) rs
storing_brought k law [] [] s = tt
storing_brought k law [] (r ∷ rs) s = absurd s
storing_brought k law (u ∷ us) [] s = absurd s
storing_brought k law (u ∷ us) (r ∷ rs) s = among_both (k.value u) (r ∷ []) (brought k us) rs (law.kept r u s.0) (storing_brought k law us rs s.1)

recall_brought : (k : Code) → IsPlainCode k → (vs us : List Row) → AreAmong (brought k us) (recall k vs us)
recall_brought k law vs [] = tt
recall_brought k law vs (u ∷ us) = ⊎_elim
    (λ (e : k.value u ≡ []).
    subst (λ xs. AreAmong (xs ++ brought k us) (recent (xs ++ vs) (k.back u) ∷ recall k (xs ++ vs) us)) (sym e)
    (among_after (brought k us) (recent vs (k.back u) ∷ []) (recall k vs us) (recall_brought k law vs us)))
    (λ (w : (v : Row) × ((k.value u ≡ v ∷ []) × (k.back u ≡ 0))).
    subst (λ xs. AreAmong (xs ++ brought k us) (recent (xs ++ vs) (k.back u) ∷ recall k (xs ++ vs) us)) (sym w.1.0)
    (subst (λ b. AreAmong (w.0 ∷ brought k us) (recent (w.0 ∷ vs) b ∷ recall k (w.0 ∷ vs) us)) (sym w.1.1) (inl (refl, recall_brought k law (w.0 ∷ vs) us))))
    (law.here u)

-- The inner column denies only that there are too many rows, or what is denied of the values.
pub recalled_limited : (k : Code) (kin : Row → Row → Bool) (o : Format) {inner t : Limit} → IsPlainCode k → IsLimited o inner → ((e : Excess) (ws : List Row) → inner e ws → count_limit e ws ⊎ t e (brought k ws)) → IsLimited (recalled k kin o) (recall_limit t)
recalled_limited k kin o {inner} {t} law l from = record {
  denied = λ e c rs s h.
      let p = recall_parts k kin o s in
      let w = storing_found k (o.refuses e c (length (recall k [] (o.rows c)))) rs h in
      let q : refuses_more o e c w.0 ≡ true = ap (λ n. o.refuses e c n w.0) (sym (length-recall k [] (o.rows c))) ∙ w.1.1 in
      let n : length (recall k [] (o.rows c) ++ rs) ≡ length (o.rows c ++ w.0) =
      length-append (recall k [] (o.rows c)) rs ∙ (ap (λ (i : ℕ). i + length rs) (length-recall k [] (o.rows c)) ∙ (ap (λ (i : ℕ). length (o.rows c) + i) (sym (length-storing k w.0 rs w.1.0)) ∙ sym (length-append (o.rows c) w.0))) in
      let a : AreAmong (brought k (o.rows c ++ w.0)) (recall k [] (o.rows c) ++ rs) =
      subst (λ us. AreAmong us (recall k [] (o.rows c) ++ rs)) (sym (brought-append k (o.rows c) w.0))
      (among_both (brought k (o.rows c)) (recall k [] (o.rows c)) (brought k w.0) rs (recall_brought k law [] (o.rows c)) (storing_brought k law w.0 rs w.1.0)) in
      ⊎_elim
      (λ (i : count_limit e (o.rows c ++ w.0)). inl (ap (past_count e) n ∙ i))
      (λ (i : t e (brought k (o.rows c ++ w.0))). inr (brought k (o.rows c ++ w.0), (a, i)))
      (from e (o.rows c ++ w.0) (l.denied e c w.0 p.inner q));
}

-- repeats

option_here : (u : Row) → (value_of u ≡ []) ⊎ ((v : Row) × ((value_of u ≡ v ∷ []) × (repeats_code.back u ≡ 0)))
option_here (some r) = inr (r, (refl, refl))
option_here _ = inl refl

option_kept : (r u : Row) → Among u (some r ∷ none ∷ []) → AreAmong (value_of u) (r ∷ [])
option_kept r u h = ⊎_elim
    (λ (e : u ≡ some r). subst (λ w. AreAmong (value_of w) (r ∷ [])) (sym e) (inl (refl, tt)))
    (λ (o : Among u (none ∷ [])). ⊎_elim (λ (e : u ≡ none). subst (λ w. AreAmong (value_of w) (r ∷ [])) (sym e) tt) (λ (i : ⊥). absurd i) o) h

repeats_plain : IsPlainCode repeats_code
repeats_plain = record { kept = option_kept; here = option_here }

brought_somes : (us : List Row) → brought repeats_code us ≡ somes us
brought_somes [] = refl
brought_somes (u ∷ us) = ap (λ t. value_of u ++ t) (brought_somes us)

pub repeats_limited : (t : Format) {m : Limit} → IsLimited t m → IsLimited (repeats_format t) (recall_limit m)
repeats_limited t {m} l = recalled_limited repeats_code t.kin (options_format t) {inner = options_limit m} {t = m} repeats_plain (options_limited t l) (λ e ws h. ⊎_elim
    (λ (i : count_limit e ws). inl i)
    (λ (i : m e (somes ws)). inr (subst (λ us. m e us) (sym (brought_somes ws)) i)) h)

-- lookbacks

result_here : (u : Row) → (lookbacks_code.value u ≡ []) ⊎ ((v : Row) × ((lookbacks_code.value u ≡ v ∷ []) × (lookbacks_code.back u ≡ 0)))
result_here (ok r) = inr (r, (refl, refl))
result_here _ = inl refl

result_kept : (r u : Row) → Among u (ok r ∷ err (number 0) ∷ []) → AreAmong (lookbacks_code.value u) (r ∷ [])
result_kept r u h = ⊎_elim
    (λ (e : u ≡ ok r). subst (λ w. AreAmong (lookbacks_code.value w) (r ∷ [])) (sym e) (inl (refl, tt)))
    (λ (o : Among u (err (number 0) ∷ [])). ⊎_elim (λ (e : u ≡ err (number 0)). subst (λ w. AreAmong (lookbacks_code.value w) (r ∷ [])) (sym e) tt) (λ (i : ⊥). absurd i) o) h

lookbacks_plain : IsPlainCode lookbacks_code
lookbacks_plain = record { kept = result_kept; here = result_here }

brought_oks : (us : List Row) → brought lookbacks_code us ≡ oks us
brought_oks [] = refl
brought_oks (u ∷ us) = ap (λ t. value_of (ok_part u) ++ t) (brought_oks us)

one_value : (u : Row) → length (value_of u) ≤ 1
one_value (some r) = omega arith
one_value _ = omega arith

length-errs : (us : List Row) → length (errs us) ≤ length us
length-errs [] = omega arith
length-errs (u ∷ us) = let a = length-append (value_of (err_part u)) (errs us) in let b = one_value (err_part u) in let c = length-errs us in omega (arith, a, b, c)

-- The limit of the distances depends only on their number.
pub lookbacks_limited : (t d : Format) {m : Limit} → IsLimited t m → IsLimited d count_limit → IsLimited (lookbacks_format t d) (recall_limit m)
lookbacks_limited t d {m} l k = recalled_limited lookbacks_code t.kin (results_format t d) {inner = results_limit m count_limit} {t = m} lookbacks_plain (results_limited t d l k) (λ e ws h. ⊎_elim
    (λ (i : count_limit e ws). inl i)
    (λ (w : m e (oks ws) ⊎ count_limit e (errs ws)). ⊎_elim
    (λ (i : m e (oks ws)). inr (subst (λ us. m e us) (sym (brought_oks ws)) i))
    (λ (i : count_limit e (errs ws)). inl (past_more e (length (errs ws)) (length ws) (length-errs ws) i)) w) h)

-- the rows themselves

pub recall_denies : {t : Limit} → IsSteady t → (e : Excess) (rs : List Row) → recall_limit t e rs → count_limit e rs ⊎ t e rs
recall_denies {t} p e rs h = ⊎_elim
    (λ (i : count_limit e rs). inl i)
    (λ (w : (vs : List Row) × (AreAmong vs rs × t e vs)). inr (p.more e w.0 rs w.1.0 w.1.1)) h

pub recall_steady : (t : Limit) → IsSteady (recall_limit t)
recall_steady t = record {
  more = λ e rs ss h k. ⊎_elim
      (λ (i : count_limit e rs). inl (count_steady.more e rs ss h i))
      (λ (w : (vs : List Row) × (AreAmong vs rs × t e vs)). inr (w.0, (among_some w.0 rs ss w.1.0 h, w.1.1))) k;
}
