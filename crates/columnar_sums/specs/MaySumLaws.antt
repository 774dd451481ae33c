-- Limits of counted bits, options, results, variants and offsets in unary: they deny what the columns refuse.
use Rattle.std.proofs.Common.{◌≡◌, ℕ, ◌+◌, Bool, true, ◌||◌, List, [], ◌∷◌, ◌++◌, length, map, refl, sym, ◌∙◌, ap, subst, arith, ◌⊎◌, inl, inr, ⊎_elim, length-append}
use Rattle.std.specs.Prelude.{◌&&◌}
use Rattle.std.proofs.lemmas.Bool.{or_cases, or_right, and_parts, and_from, false≢true}
use Rattle.std.proofs.lemmas.List.{map-append}
use Rattle.columnar_core.specs.Row.{Row, truth, number, number_of}
use Rattle.columnar_core.specs.Format.{Format, Content, slice, both, part, plain, IsSound, Excess, refuses_more}
use Rattle.columnar_core.specs.Bounds.{AreNumbers, numbers, last_or}
use Rattle.columnar_core.specs.Elements.{past_count}
use Rattle.columnar_core.specs.May.{Limit, IsLimited, AreAmong, IsSteady, no_limit, count_limit}
use Rattle.columnar_core.specs.MayLaws.{nothing_limited, count_limited, count_steady, among_made, among_map}
use Rattle.columnar_sums.specs.Discriminants.{discriminant_format}
use Rattle.columnar_sums.specs.MaySums.{options_limit, results_limit, unary_limit}
use Rattle.columnar_sums.specs.OptionLaws.{options_parts, options_refuses_more, length-options}
use Rattle.columnar_sums.specs.Options.{weave, somes, value_of, options_format, options_rows}
use Rattle.columnar_sums.specs.RankColumns.{ranks_bits, ranks_format}
use Rattle.columnar_sums.specs.ResultLaws.{results_parts, results_refuses_more, results_form, length-results}
use Rattle.columnar_sums.specs.Results.{weave_results, oks, errs, ok_part, err_part, beside_format, results_format}
use Rattle.columnar_sums.specs.Unary.{unary_bits, ends_of, falses, runs, falls, is_misplaced}
use Rattle.columnar_sums.specs.UnaryColumns.{unaries_format}
use Rattle.columnar_sums.specs.UnaryLaws.{unary_parts, unary_refuse_more, unary_bounds}
use Rattle.columnar_sums.specs.UnaryListLaws.{set_truths, last-falses, runs-append, falls-append}
use Rattle.columnar_sums.specs.UnaryRangeLaws.{runs_back}
use Rattle.columnar_sums.specs.WeaveLaws.{somes-append, somes-weave}
use Rattle.columnar_sums.specs.WeaveBothLaws.{oks-append, errs-append, oks-woven, errs-woven}

pub ranks_limited : IsLimited ranks_format count_limit
ranks_limited = count_limited {f = ranks_format} (λ e c s n rs. refl)

pub discriminant_limited : IsLimited discriminant_format count_limit
discriminant_limited = count_limited {f = discriminant_format} (λ e c s n rs. refl)

-- it has no rows of its own
pub beside_limited : (a b : Format) → IsLimited (beside_format a b) no_limit
beside_limited a b = nothing_limited {f = beside_format a b} (λ e c n rs. refl)

-- options

options_denied : (t : Format) {m : Limit} → IsLimited t m → (e : Excess) (c : Content) (rs : List Row) → IsSound (options_format t) c → refuses_more (options_format t) e c rs ≡ true → options_limit m e (options_rows t c ++ rs)
options_denied t {m} l e (both x y) rs s h =
    let p = options_parts t s in
    let n : length (weave (ranks_bits x) (t.rows y) ++ rs) ≡ length (ranks_bits x) + length rs = length-append (weave (ranks_bits x) (t.rows y)) rs ∙ ap (λ (k : ℕ). k + length rs) (length-options t x y) in
    let f : somes (weave (ranks_bits x) (t.rows y) ++ rs) ≡ t.rows y ++ somes rs = somes-append (weave (ranks_bits x) (t.rows y)) rs ∙ ap (λ us. us ++ somes rs) (somes-weave (ranks_bits x) (t.rows y) p.level) in
    ⊎_elim
    (λ (k : past_count e (length (ranks_bits x) + length rs) ≡ true). inl (ap (past_count e) n ∙ k))
    (λ (k : refuses_more t e y (somes rs) ≡ true). inr (subst (λ us. m e us) (sym f) (l.denied e y (somes rs) p.values k)))
    (or_cases (past_count e (length (ranks_bits x) + length rs)) (refuses_more t e y (somes rs)) (sym (options_refuses_more t s e rs) ∙ h))
options_denied t l e (slice bs) rs s h = absurd (false≢true h)
options_denied t l e (part i u x) rs s h = absurd (false≢true h)
options_denied t l e (plain us) rs s h = absurd (false≢true h)

pub options_limited : (t : Format) {m : Limit} → IsLimited t m → IsLimited (options_format t) (options_limit m)
options_limited t l = record { denied = options_denied t l }

-- results

results_denied : (a b : Format) {m n : Limit} → IsLimited a m → IsLimited b n → (e : Excess) (x y z : Content) (rs : List Row) → IsSound (results_format a b) (both x (both y z)) → refuses_more (results_format a b) e (both x (both y z)) rs ≡ true → results_limit m n e (weave_results (ranks_bits x) (a.rows y) (b.rows z) ++ rs)
results_denied a b {m} {n} la lb e x y z rs s h =
    let p = results_parts a b s in
    let old : List Row = weave_results (ranks_bits x) (a.rows y) (b.rows z) in
    let c : length (old ++ rs) ≡ length (ranks_bits x) + length rs = length-append old rs ∙ ap (λ (k : ℕ). k + length rs) (length-results a b x y z) in
    let f : oks (old ++ rs) ≡ a.rows y ++ oks rs = oks-append old rs ∙ ap (λ us. us ++ oks rs) (oks-woven (ranks_bits x) (a.rows y) (b.rows z) p.ok_level) in
    let g : errs (old ++ rs) ≡ b.rows z ++ errs rs = errs-append old rs ∙ ap (λ us. us ++ errs rs) (errs-woven (ranks_bits x) (a.rows y) (b.rows z) p.err_level) in
    ⊎_elim
    (λ (k : past_count e (length (ranks_bits x) + length rs) ≡ true). inl (ap (past_count e) c ∙ k))
    (λ (w : (refuses_more a e y (oks rs) || refuses_more b e z (errs rs)) ≡ true). inr (⊎_elim
    (λ (k : refuses_more a e y (oks rs) ≡ true). inl (subst (λ us. m e us) (sym f) (la.denied e y (oks rs) p.oks k)))
    (λ (k : refuses_more b e z (errs rs) ≡ true). inr (subst (λ us. n e us) (sym g) (lb.denied e z (errs rs) p.errs k)))
    (or_cases (refuses_more a e y (oks rs)) (refuses_more b e z (errs rs)) w)))
    (or_cases (past_count e (length (ranks_bits x) + length rs)) (refuses_more a e y (oks rs) || refuses_more b e z (errs rs)) (sym (results_refuses_more a b s e rs) ∙ h))

pub results_limited : (a b : Format) {m n : Limit} → IsLimited a m → IsLimited b n → IsLimited (results_format a b) (results_limit m n)
results_limited a b {m} {n} la lb = record {
  denied = λ e c rs s h.
      let f = results_form a b c s in
      subst (λ d. results_limit m n e ((results_format a b).rows d ++ rs)) (sym f.is)
      (results_denied a b la lb e f.bits f.oks f.errs rs (subst (λ d. IsSound (results_format a b) d) f.is s) (subst (λ d. refuses_more (results_format a b) e d rs ≡ true) f.is h));
}

-- offsets in unary

falls_on : (e : Excess) (from : ℕ) (ns ms : List ℕ) → (is_misplaced e && falls (last_or from ns) ms) ≡ true → (is_misplaced e && falls from (ns ++ ms)) ≡ true
falls_on e from ns ms h =
    let p = and_parts (is_misplaced e) (falls (last_or from ns) ms) h in
    and_from (is_misplaced e) (falls from (ns ++ ms)) p.0 (falls-append from ns ms ∙ or_right (falls from ns) (falls (last_or from ns) ms) p.1)

numbers_of : (ns : List ℕ) → numbers (map number ns) ≡ ns
numbers_of [] = refl
numbers_of (n ∷ ns) = ap (λ ms. n ∷ ms) (numbers_of ns)

unaries_denied : (e : Excess) (c : Content) (rs : List Row) → IsSound unaries_format c → refuses_more unaries_format e c rs ≡ true → unary_limit e (unaries_format.rows c ++ rs)
unaries_denied e c rs s h =
    let p = unary_parts ranks_format s in
    let b : List Bool = unary_bits ranks_format c in
    let old : List ℕ = ends_of 0 b in
    let w : numbers (map number old ++ rs) ≡ old ++ numbers rs = map-append number_of (map number old) rs ∙ ap (λ us. us ++ numbers rs) (numbers_of old) in
    let l : last_or 0 old ≡ falses 0 b = last-falses true 0 0 b (λ i. refl) p.ended in
    let r : runs 0 (old ++ numbers rs) ≡ b ++ runs (falses 0 b) (numbers rs) = runs-append 0 old (numbers rs) ∙ (ap (λ us. us ++ runs (last_or 0 old) (numbers rs)) (runs_back 0 b p.ended) ∙ ap (λ k. b ++ runs k (numbers rs)) l) in
    let t : b ≡ ranks_bits c = set_truths (ranks_bits c) in
    let f : map truth (runs 0 (numbers (map number old ++ rs))) ≡ map truth (ranks_bits c) ++ map truth (runs (falses 0 b) (numbers rs)) =
    ap (λ us. map truth (runs 0 us)) w ∙ (ap (map truth) r ∙ (map-append truth b (runs (falses 0 b) (numbers rs)) ∙ ap (λ us. map truth us ++ map truth (runs (falses 0 b) (numbers rs))) t)) in
    ⊎_elim
    (λ (k : refuses_more ranks_format e c (map truth (runs (falses 0 b) (numbers rs))) ≡ true). inl (subst (λ us. count_limit e us) (sym f) (ranks_limited.denied e c (map truth (runs (falses 0 b) (numbers rs))) p.bits k)))
    (λ (k : (is_misplaced e && falls (falses 0 b) (numbers rs)) ≡ true). inr (subst (λ us. (is_misplaced e && falls 0 us) ≡ true) (sym w) (falls_on e 0 old (numbers rs) (subst (λ i. (is_misplaced e && falls i (numbers rs)) ≡ true) (sym l) k))))
    (or_cases (refuses_more ranks_format e c (map truth (runs (falses 0 b) (numbers rs)))) (is_misplaced e && falls (falses 0 b) (numbers rs)) (sym (unary_refuse_more ranks_format e p rs) ∙ h))

pub unaries_limited : IsLimited unaries_format unary_limit
unaries_limited = record { denied = unaries_denied }

-- also with more rows

pub among_somes : (rs ss : List Row) → AreAmong rs ss → AreAmong (somes rs) (somes ss)
among_somes = among_made value_of somes (λ r rs. refl) refl

pub options_steady : {t : Limit} → IsSteady t → IsSteady (options_limit t)
options_steady {t} p = record {
  more = λ e rs ss h k. ⊎_elim
      (λ (i : count_limit e rs). inl (count_steady.more e rs ss h i))
      (λ (i : t e (somes rs)). inr (p.more e (somes rs) (somes ss) (among_somes rs ss h) i)) k;
}

pub among_oks : (rs ss : List Row) → AreAmong rs ss → AreAmong (oks rs) (oks ss)
among_oks rs ss h = among_somes (map ok_part rs) (map ok_part ss) (among_map ok_part rs ss h)

pub among_errs : (rs ss : List Row) → AreAmong rs ss → AreAmong (errs rs) (errs ss)
among_errs rs ss h = among_somes (map err_part rs) (map err_part ss) (among_map err_part rs ss h)

pub results_steady : {a b : Limit} → IsSteady a → IsSteady b → IsSteady (results_limit a b)
results_steady {a} {b} p q = record {
  more = λ e rs ss h k. ⊎_elim
      (λ (i : count_limit e rs). inl (count_steady.more e rs ss h i))
      (λ (w : a e (oks rs) ⊎ b e (errs rs)). inr (⊎_elim
      (λ (i : a e (oks rs)). inl (p.more e (oks rs) (oks ss) (among_oks rs ss h) i))
      (λ (i : b e (errs rs)). inr (q.more e (errs rs) (errs ss) (among_errs rs ss h) i)) w)) k;
}

-- the precondition of lists over these: their rows are numbers
pub unaries_numbered : AreNumbers unaries_format
unaries_numbered = (unary_bounds ranks_format (omega arith)).are_numbers
