-- Repeats: their column is that of options, with one more rule.
use Rattle.std.proofs.Common.{◌≡◌, ℕ, suc, ◌+◌, ◌*◌, ◌≤◌, List, [], length, drop, refl, sym, ◌∙◌}
use Rattle.std.specs.Prelude.{Some, None, Option, false, true}
use Rattle.columnar_base.specs.Format.{Format, Fault, Fits, bytes_held, fault, first, moved}
use Rattle.columnar_sums.specs.RankColumns.{ranks_bits, ranks_format}
use Rattle.columnar_sums.specs.Options.{options_format}
use Rattle.columnar_sums.specs.OptionLaws.{options_two}
use Rattle.columnar_base.specs.TwoPartsLaws.{two_built, two_right_at}
use Rattle.columnar_lookback.specs.Recall.{recall}
use Rattle.columnar_lookback.specs.RecallLaws.{length-recall, recall_fault, recall_fine, recall_own}
use Rattle.columnar_lookback.specs.RepeatLaws.{repeats_fine, starts_reaches}
use Rattle.columnar_lookback.specs.Repeats.{repeats_code, repeats_format, starts_set}
use Rattle.columnar_syntax.specs.declared.schema.Schema.{Schema, Optional', Repeated'}
use Rattle.columnar_schema.specs.Formats.{format_of}
use Rattle.columnar_schema.specs.JudgeLaws.{left_refused, right_fits, first_fits}
use Rattle.columnar_schema.specs.TurnLaws.{optional_turns, parts_turns}
use Rattle.columnar_schema.specs.TypeLaws.{optional_rows}

pub repeated_rows : (s : Schema) {p : _} {t : Schema} (o : ℕ) (ss : List (List ℕ)) (n : ℕ) → s ≡ Repeated' p t → n ≡ length (ranks_format.rows (ranks_format.build (drop o ss))) → n ≡ length ((format_of s).rows ((format_of s).build (drop o ss)))
repeated_rows s {p} {t} o ss n e h =
    let us = (options_format (format_of t)).rows ((options_format (format_of t)).build (drop o ss)) in
    rw e (optional_rows (Optional' p t) o ss n refl h ∙ sym (length-recall repeats_code [] us))

-- a fault of the options is the fault of the repeats
pub options_fault : (t : Format) (o : ℕ) (ss : List (List ℕ)) (z : Fault) → Some z ≡ first (moved o ((options_format t).broken ((options_format t).build (drop o ss)))) → Some z ≡ first (moved o ((repeats_format t).broken ((repeats_format t).build (drop o ss))))
options_fault t o ss z h = recall_fault repeats_code t.kin (options_format t) ((options_format t).build (drop o ss)) o z h

pub repeated_bits_refused : (s : Schema) {p : _} {t : Schema} (o : ℕ) (ss : List (List ℕ)) (z : Fault) → s ≡ Repeated' p t → Some z ≡ first (moved o (ranks_format.broken (ranks_format.build (drop o ss)))) → Some z ≡ first (moved o ((format_of s).broken ((format_of s).build (drop o ss))))
repeated_bits_refused s {p} {t} o ss z e h = rw e (options_fault (format_of t) o ss z (left_refused (options_two (format_of t)) ss o z h))

pub repeated_values_refused : (s : Schema) {p : _} {t : Schema} (o : ℕ) (ss : List (List ℕ)) (z : Fault) → s ≡ Repeated' p t → None ≡ first (moved o (ranks_format.broken (ranks_format.build (drop o ss)))) → Some z ≡ first (moved (o + 3) ((format_of t).broken ((format_of t).build (drop (o + 3) ss)))) → Some z ≡ first (moved o ((format_of s).broken ((format_of s).build (drop o ss))))
repeated_values_refused s {p} {t} o ss z e h k = rw e (options_fault (format_of t) o ss z (two_right_at (options_two (format_of t)) ss o z h k))

-- the parts fit
pub repeated_bits_fit : (s : Schema) {p : _} {t : Schema} (o : ℕ) (ss : List (List ℕ)) → s ≡ Repeated' p t → o + (format_of s).count ≤ length ss → None ≡ first (moved o (ranks_format.broken (ranks_format.build (drop o ss)))) → Fits ranks_format o ss
repeated_bits_fit s {p} {t} o ss e r h = first_fits (options_two (format_of t)) ss o (rw e at r) h

pub repeated_values_fit : (s : Schema) {p : _} {t : Schema} (o : ℕ) (ss : List (List ℕ)) → s ≡ Repeated' p t → o + (format_of s).count ≤ length ss → None ≡ first (moved (o + 3) ((format_of t).broken ((format_of t).build (drop (o + 3) ss)))) → Fits (format_of t) (o + 3) ss
repeated_values_fit s {p} {t} o ss e r h = right_fits (options_two (format_of t)) ss o (rw e at r) h

-- the verdict on repeats whose options are fine
pub repeats_started : (t : Format) (o : ℕ) (ss : List (List ℕ)) → None ≡ first (moved o ((options_format t).broken ((options_format t).build (drop o ss)))) → true ≡ starts_set (ranks_bits (ranks_format.build (drop o ss))) → None ≡ first (moved o ((repeats_format t).broken ((repeats_format t).build (drop o ss))))
repeats_started t o ss h e = repeats_fine t (ranks_format.build (drop o ss)) (t.build (drop 3 (drop o ss))) o h (sym e)

pub repeats_unstarted : (t : Format) (o : ℕ) (ss : List (List ℕ)) → None ≡ first (moved o ((options_format t).broken ((options_format t).build (drop o ss)))) → false ≡ starts_set (ranks_bits (ranks_format.build (drop o ss))) → Some (fault 15 o) ≡ first (moved o ((repeats_format t).broken ((repeats_format t).build (drop o ss))))
repeats_unstarted t o ss h e =
    let x = ranks_format.build (drop o ss) in
    recall_own repeats_code t.kin (options_format t) ((options_format t).build (drop o ss)) o h (starts_reaches (ranks_bits x) (t.rows (t.build (drop 3 (drop o ss)))) ∙ sym e)

pub repeated_verdict : (s : Schema) {p : _} {t : Schema} (o : ℕ) (ss : List (List ℕ)) (v : Option Fault) → s ≡ Repeated' p t → v ≡ first (moved o ((repeats_format (format_of t)).broken ((repeats_format (format_of t)).build (drop o ss)))) → v ≡ first (moved o ((format_of s).broken ((format_of s).build (drop o ss))))
repeated_verdict s {p} {t} o ss v e h = rw e h

-- the steps
pub repeated_part_turns : (s : Schema) {p : _} {t : Schema} (o : ℕ) (ss : List (List ℕ)) (old mid new : ℕ) → s ≡ Repeated' p t → mid ≤ old + 16 * bytes_held (ranks_format.build (drop o ss)) → new ≤ mid + 16 * bytes_held ((format_of t).build (drop (o + 3) ss)) → new ≤ old + 16 * bytes_held ((format_of s).build (drop o ss))
repeated_part_turns s {p} {t} o ss old mid new e u v = rw e (parts_turns (options_two (format_of t)) ss o old mid new u v)

pub repeated_turns : (s : Schema) {p : _} {t : Schema} (o : ℕ) (ss : List (List ℕ)) (old mid later new : ℕ) → s ≡ Repeated' p t → Fits ranks_format o ss → mid ≤ old + 4 * bytes_held (ranks_format.build (drop o ss)) → later ≤ mid + 16 * bytes_held ((format_of t).build (drop (o + 3) ss)) → new ≤ later + 16 → new ≤ old + 16 * bytes_held ((format_of s).build (drop o ss))
repeated_turns s {p} {t} o ss old mid later new e f u v w = rw e (optional_turns (Optional' p t) o ss old mid later new refl f u v w)
