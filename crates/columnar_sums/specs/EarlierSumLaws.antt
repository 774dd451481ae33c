-- Offsets in unary, options and results that are made from an earlier form.
use Rattle.std.proofs.Common.{◌≡◌, ◌+◌, ◌<◌, true, ◌||◌, List, [], length, refl, sym, ◌∙◌, ap, arith, ⊎_elim, inl, inr}
use Rattle.std.proofs.lemmas.List.{nil_from_length}
use Rattle.std.proofs.lemmas.Bool.{or_left, or_right}
use Rattle.columnar_core.specs.Row.{Row}
use Rattle.columnar_core.specs.Format.{Format, Content, both, IsSound, Excess, refuses_more}
use Rattle.columnar_core.specs.ChangeLaws.{true_from}
use Rattle.columnar_core.specs.TwoPartsLaws.{two_form}
use Rattle.columnar_core.specs.Elements.{words_format, past_count}
use Rattle.columnar_core.specs.Earlier.{IsEarlier, IsTrueOfNew, IsMadeOf}
use Rattle.columnar_core.specs.EarlierLaws.{earlier_le}
use Rattle.columnar_core.specs.declared.fault.GrowError.{GrowError}
use Rattle.columnar_sums.specs.RankColumns.{ranks_bits}
use Rattle.columnar_sums.specs.Options.{options_format, weave, somes}
use Rattle.columnar_sums.specs.OptionLaws.{options_two, options_parts, options_sound, same_options, length-options, no_values, options_somes, options_refuses_more}
use Rattle.columnar_sums.specs.Results.{results_format, weave_results, oks, errs}
use Rattle.columnar_sums.specs.ResultLaws.{results_form, results_parts, results_sound, same_results, results_oks, results_errs, results_refuses_more}
use Rattle.columnar_sums.specs.UnaryColumns.{unaries_format}

-- ---- offsets in unary

pub unary_fewer : IsEarlier words_format unaries_format
unary_fewer = inl (omega arith)

-- ---- options

pub earlier_options : (t' t : Format) → IsEarlier t' t → IsEarlier (options_format t') (options_format t)
earlier_options t' t h = ⊎_elim (λ (l : t'.count < t.count). inl (omega arith)) (λ (e : t' ≡ t). inr (same_options e)) h

pub options_made : (t' t : Format) {x y' y : Content} → IsSound (options_format t') (both x y') → IsMadeOf t' t y' y → IsMadeOf (options_format t') (options_format t) (both x y') (both x y)
options_made t' t {x} {y'} {y} s g =
    let p = options_parts t' s in
    record {
      sound = options_sound t (record { bits = p.bits; values = g.sound; level = p.level ∙ sym (ap length g.rows) });
      rows = rw g.rows refl;
    }

pub options_not : (t' t : Format) {x y' : Content} (error : GrowError) → IsSound (options_format t') (both x y') → IsTrueOfNew error t (t'.rows y') → IsTrueOfNew error (options_format t) (weave (ranks_bits x) (t'.rows y'))
options_not t' t {x} {y'} error s h = λ c u e.
    let w = two_form (options_two t) c u in
    let v : IsSound (options_format t) (both w.left w.right) = rw w.is at u in
    let n : weave (ranks_bits w.left) (t.rows w.right) ≡ [] = rw w.is at e in
    let b : ranks_bits w.left ≡ [] = nil_from_length (ranks_bits w.left) (sym (length-options t w.left w.right) ∙ ap length n) in
    let z : t.rows w.right ≡ [] = no_values (ranks_bits w.left) (t.rows w.right) b (options_parts t v).level in
    rw w.is (true_from t (options_format t) w.right (both w.left w.right) (t'.rows y') (weave (ranks_bits x) (t'.rows y')) error
    (λ k q. refused_so k w.left w.right v q)
    (h w.right (options_parts t v).values z))
  where
    refused_so : (k : Excess) (a b : Content) → IsSound (options_format t) (both a b) → refuses_more t k b (t'.rows y') ≡ true → refuses_more (options_format t) k (both a b) (weave (ranks_bits x) (t'.rows y')) ≡ true
    refused_so k a b v q =
        let d : somes (weave (ranks_bits x) (t'.rows y')) ≡ t'.rows y' = options_somes t' s in
        options_refuses_more t v k (weave (ranks_bits x) (t'.rows y')) ∙ (rw d (or_right (past_count k (length (ranks_bits a) + length (weave (ranks_bits x) (t'.rows y')))) (refuses_more t k b (t'.rows y')) q))

-- ---- results

pub earlier_results : (a' a b' b : Format) → IsEarlier a' a → IsEarlier b' b → IsEarlier (results_format a' b') (results_format a b)
earlier_results a' a b' b g h = ⊎_elim (λ (l : a'.count < a.count). inl (let m = earlier_le b' b h in omega arith))
    (λ (e : a' ≡ a). ⊎_elim (λ (l : b'.count < b.count). inl (let m = earlier_le a' a g in omega arith)) (λ (d : b' ≡ b). inr (same_results e d)) h)
    g

pub results_made : (a' a b' b : Format) {x y' y z' z : Content} → IsSound (results_format a' b') (both x (both y' z')) → IsMadeOf a' a y' y → IsMadeOf b' b z' z → IsMadeOf (results_format a' b') (results_format a b) (both x (both y' z')) (both x (both y z))
results_made a' a b' b {x} {y'} {y} {z'} {z} s g h =
    let p = results_parts a' b' s in
    record {
      sound = results_sound a b (record { bits = p.bits; oks = g.sound; errs = h.sound; ok_level = p.ok_level ∙ sym (ap length g.rows); err_level = p.err_level ∙ sym (ap length h.rows) });
      rows = rw (g.rows, h.rows) refl;
    }

-- results without rows have parts without rows
no_results : (a b : Format) {x y z : Content} → IsSound (results_format a b) (both x (both y z)) → weave_results (ranks_bits x) (a.rows y) (b.rows z) ≡ [] → (a.rows y ≡ []) × (b.rows z ≡ [])
no_results a b {x} {y} {z} s e =
    let p = ap oks e in
    let q = ap errs e in
    (sym (results_oks a b s) ∙ p, sym (results_errs a b s) ∙ q)

pub results_not_oks : (a' a b' b : Format) {x y' z' : Content} (error : GrowError) → IsSound (results_format a' b') (both x (both y' z')) → IsTrueOfNew error a (a'.rows y') → IsTrueOfNew error (results_format a b) (weave_results (ranks_bits x) (a'.rows y') (b'.rows z'))
results_not_oks a' a b' b {x} {y'} {z'} error s h = λ c u e.
    let w = results_form a b c u in
    let v : IsSound (results_format a b) (both w.bits (both w.oks w.errs)) = rw w.is at u in
    let n = no_results a b v (rw w.is at e) in
    let rs : List Row = weave_results (ranks_bits x) (a'.rows y') (b'.rows z') in
    rw w.is (true_from a (results_format a b) w.oks (both w.bits (both w.oks w.errs)) (a'.rows y') rs error
    (λ k q. results_refuses_more a b v k rs ∙ or_right (past_count k (length (ranks_bits w.bits) + length rs)) (refuses_more a k w.oks (oks rs) || refuses_more b k w.errs (errs rs)) (or_left (refuses_more a k w.oks (oks rs)) (refuses_more b k w.errs (errs rs)) (rw (results_oks a' b' s) q)))
    (h w.oks (results_parts a b v).oks n.0))

pub results_not_errs : (a' a b' b : Format) {x y' z' : Content} (error : GrowError) → IsSound (results_format a' b') (both x (both y' z')) → IsTrueOfNew error b (b'.rows z') → IsTrueOfNew error (results_format a b) (weave_results (ranks_bits x) (a'.rows y') (b'.rows z'))
results_not_errs a' a b' b {x} {y'} {z'} error s h = λ c u e.
    let w = results_form a b c u in
    let v : IsSound (results_format a b) (both w.bits (both w.oks w.errs)) = rw w.is at u in
    let n = no_results a b v (rw w.is at e) in
    let rs : List Row = weave_results (ranks_bits x) (a'.rows y') (b'.rows z') in
    rw w.is (true_from b (results_format a b) w.errs (both w.bits (both w.oks w.errs)) (b'.rows z') rs error
    (λ k q. results_refuses_more a b v k rs ∙ or_right (past_count k (length (ranks_bits w.bits) + length rs)) (refuses_more a k w.oks (oks rs) || refuses_more b k w.errs (errs rs)) (or_right (refuses_more a k w.oks (oks rs)) (refuses_more b k w.errs (errs rs)) (rw (results_errs a' b' s) q)))
    (h w.errs (results_parts a b v).errs n.1))
