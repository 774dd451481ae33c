use Rattle.std.proofs.Common.{ℕ, ◌≡◌, ◌<◌, ◌^◌, sym, ◌∙◌, arith}
use Rattle.std.specs.Prelude.{Some, None}
use Rattle.std.specs.Int.{w8}
use Rattle.std.proofs.lemmas.Result.{on_ok_weaker, IfErr-weaker}
use Rattle.columnar_base.specs.ElementLaws.{elements_lawful}
use Rattle.columnar_base.specs.Row.{ok, err}
use Rattle.columnar_base.specs.Numbers.{unsigned_row, unsigned_row_of}
use Rattle.columnar_sums.specs.MarkedLaws.{on_ok_both}
use Rattle.columnar_sums.specs.ResultLaws.{results_took_ok, results_took_err, results_refused_ok, results_refused_err}
use Rattle.columnar_base.specs.Elements.{bytes_format}
use Rattle.columnar_lookback.specs.LookbackLaws.{elements_plain, lookbacks_results, values_pushed, byte_pushed, lookbacks_values, nearest_below, lookbacks_took_value, lookbacks_took_byte, lookbacks_refused_value, lookbacks_refused_byte}
use Rattle.columnar_lookback.specs.KeptLaws.{pushed_value, pushed_byte}
use Rattle.columnar_lookback.proofs.lookbacks.grow.LookbacksVecU8VecU64VecU64ArrayU642PushRef.push_ref.Goals as goal

pub push_ref_marked-requires-clause-values : goal.push_ref_marked-requires-clause-values
push_ref_marked-requires-clause-values g c = lookbacks_values g.TC.Column.format bytes_format c.requires.sound

pub returns-in-Some-clause-ok : goal.returns-in-Some-clause-ok
returns-in-Some-clause-ok g c = on_ok_both c.push_marked.result (λ h k. lookbacks_took_byte g.TC.Column.format bytes_format g.row.N c.in-Some.back (omega (arith, nearest_below g.TC.Column.format.kin g.row.N _ _ c.in-Some.back (sym c.distance_to.ensures ∙ c.in-Some.is), g.N.fits)) g.met.TC.Truncate.lawful (elements_plain 1 1 (unsigned_row_of w8)) c.requires.sound (sym c.distance_to.ensures ∙ c.in-Some.is) (results_took_err g.TC.Column.format bytes_format g.met.TC.Truncate.lawful.same ((elements_lawful 1 1 (unsigned_row_of w8)).same) (lookbacks_results g.TC.Column.format bytes_format c.requires.sound) h k)) c.push_marked.ensures.value c.push_marked.ensures.bit

pub returns-in-Some-clause-err : goal.returns-in-Some-clause-err
returns-in-Some-clause-err g c = IfErr-weaker c.push_marked.result _ _ (λ e h. lookbacks_refused_byte g.TC.Column.format bytes_format c.in-Some.back (omega (arith, nearest_below g.TC.Column.format.kin g.row.N _ _ c.in-Some.back (sym c.distance_to.ensures ∙ c.in-Some.is), g.N.fits)) (elements_plain 1 1 (unsigned_row_of w8)) c.requires.sound (results_refused_err g.TC.Column.format bytes_format (unsigned_row w8 c.in-Some.back) (lookbacks_results g.TC.Column.format bytes_format c.requires.sound) h)) c.push_marked.ensures.err

pub returns-in-None-clause-ok : goal.returns-in-None-clause-ok
returns-in-None-clause-ok g c = on_ok_both c.push_ref_marked.result (λ h k. lookbacks_took_value g.TC.Column.format bytes_format g.met.TC.Truncate.lawful (elements_plain 1 1 (unsigned_row_of w8)) c.requires.sound (results_took_ok g.TC.Column.format bytes_format g.met.TC.Truncate.lawful.same ((elements_lawful 1 1 (unsigned_row_of w8)).same) (lookbacks_results g.TC.Column.format bytes_format c.requires.sound) h k)) c.push_ref_marked.ensures.value c.push_ref_marked.ensures.bit

pub returns-in-None-clause-err : goal.returns-in-None-clause-err
returns-in-None-clause-err g c = IfErr-weaker c.push_ref_marked.result _ _ (λ e h. lookbacks_refused_value g.TC.Column.format bytes_format c.requires.sound (results_refused_ok g.TC.Column.format bytes_format (g.T.Item.meaning c.args.item.now) (lookbacks_results g.TC.Column.format bytes_format c.requires.sound) h)) c.push_ref_marked.ensures.err

pub returns-in-Some-clause-stored : goal.returns-in-Some-clause-stored
returns-in-Some-clause-stored g c = let e = (sym c.distance_to.ensures ∙ c.in-Some.is) in on_ok_both c.push_marked.result (λ h k. rw e (values_pushed g.TC.Column.format bytes_format (err (unsigned_row w8 c.in-Some.back)) g.met.TC.Truncate.lawful (elements_plain 1 1 (unsigned_row_of w8)) (lookbacks_results g.TC.Column.format bytes_format c.requires.sound) (results_took_err g.TC.Column.format bytes_format g.met.TC.Truncate.lawful.same ((elements_lawful 1 1 (unsigned_row_of w8)).same) (lookbacks_results g.TC.Column.format bytes_format c.requires.sound) h k))) c.push_marked.ensures.value c.push_marked.ensures.bit

pub returns-in-Some-clause-distance : goal.returns-in-Some-clause-distance
returns-in-Some-clause-distance g c = let e = (sym c.distance_to.ensures ∙ c.in-Some.is) in let l = nearest_below g.TC.Column.format.kin g.row.N _ _ c.in-Some.back e in let b : c.in-Some.back < 2 ^ 8 = omega (arith, l, g.N.fits) in on_ok_both c.push_marked.result (λ h k. rw e (byte_pushed g.TC.Column.format bytes_format c.in-Some.back b (elements_plain 1 1 (unsigned_row_of w8)) (lookbacks_results g.TC.Column.format bytes_format c.requires.sound) (results_took_err g.TC.Column.format bytes_format g.met.TC.Truncate.lawful.same ((elements_lawful 1 1 (unsigned_row_of w8)).same) (lookbacks_results g.TC.Column.format bytes_format c.requires.sound) h k))) c.push_marked.ensures.value c.push_marked.ensures.bit

pub returns-in-None-clause-stored : goal.returns-in-None-clause-stored
returns-in-None-clause-stored g c = let e = sym c.distance_to.ensures ∙ c.in-None.is in on_ok_both c.push_ref_marked.result (λ h k. rw e (values_pushed g.TC.Column.format bytes_format (ok (g.T.Item.meaning c.args.item.now)) g.met.TC.Truncate.lawful (elements_plain 1 1 (unsigned_row_of w8)) (lookbacks_results g.TC.Column.format bytes_format c.requires.sound) (results_took_ok g.TC.Column.format bytes_format g.met.TC.Truncate.lawful.same ((elements_lawful 1 1 (unsigned_row_of w8)).same) (lookbacks_results g.TC.Column.format bytes_format c.requires.sound) h k))) c.push_ref_marked.ensures.value c.push_ref_marked.ensures.bit

pub returns-in-None-clause-distance : goal.returns-in-None-clause-distance
returns-in-None-clause-distance g c = let e = sym c.distance_to.ensures ∙ c.in-None.is in on_ok_both c.push_ref_marked.result (λ h k. rw e tt) c.push_ref_marked.ensures.value c.push_ref_marked.ensures.bit

pub returns-in-Some-clause-kept : goal.returns-in-Some-clause-kept
returns-in-Some-clause-kept g c = let e = (sym c.distance_to.ensures ∙ c.in-Some.is) in let l = nearest_below g.TC.Column.format.kin g.row.N _ _ c.in-Some.back e in let b : c.in-Some.back < 2 ^ 8 = omega (arith, l, g.N.fits) in on_ok_both c.push_marked.result (λ h k. pushed_byte g.TC.Column.format g.row.N (g.T.Item.meaning c.args.item.now) c.in-Some.back b e (results_took_err g.TC.Column.format bytes_format g.met.TC.Truncate.lawful.same ((elements_lawful 1 1 (unsigned_row_of w8)).same) (lookbacks_results g.TC.Column.format bytes_format c.requires.sound) h k)) c.push_marked.ensures.value c.push_marked.ensures.bit

pub returns-in-None-clause-kept : goal.returns-in-None-clause-kept
returns-in-None-clause-kept g c = let e = sym c.distance_to.ensures ∙ c.in-None.is in on_ok_both c.push_ref_marked.result (λ h k. pushed_value g.TC.Column.format g.row.N (g.T.Item.meaning c.args.item.now) e (results_took_ok g.TC.Column.format bytes_format g.met.TC.Truncate.lawful.same ((elements_lawful 1 1 (unsigned_row_of w8)).same) (lookbacks_results g.TC.Column.format bytes_format c.requires.sound) h k)) c.push_ref_marked.ensures.value c.push_ref_marked.ensures.bit

pub returns-in-Some-clause-value : goal.returns-in-Some-clause-value
returns-in-Some-clause-value g c = on_ok_weaker c.push_marked.result (λ h f. absurd (apart c.in-Some.back (sym (sym c.distance_to.ensures ∙ c.in-Some.is) ∙ f))) c.push_marked.ensures.value
  where
    apart : (n : ℕ) → Some n ≡ None → ⊥
    apart n h = cc

pub returns-in-None-clause-value : goal.returns-in-None-clause-value
returns-in-None-clause-value g c = on_ok_weaker c.push_ref_marked.result (λ h f. h) c.push_ref_marked.ensures.value
