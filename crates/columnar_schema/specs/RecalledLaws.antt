-- Lookbacks: their column is that of results of values and bytes, with one more rule.
use Rattle.std.proofs.Common.{◌≡◌, ℕ, ◌+◌, ◌*◌, ◌≤◌, Bool, true, false, List, [], length, drop, refl, sym, ◌∙◌, arith, Result}
use Rattle.std.specs.Prelude.{Some, None, Option}
use Rattle.columnar_base.specs.Elements.{bytes_format}
use Rattle.columnar_base.specs.Format.{Format, Content, Fault, Fits, bytes_held, fault, first, moved}
use Rattle.columnar_base.specs.Row.{Row}
use Rattle.columnar_sums.specs.Counting.{ones}
use Rattle.columnar_sums.specs.RankColumns.{ranks_bits, ranks_format}
use Rattle.columnar_sums.specs.Results.{results_format, weave_results, zeros}
use Rattle.columnar_sums.specs.OptionLaws.{ranks_bytes}
use Rattle.columnar_sums.specs.ResultLaws.{results_held, results_parts, results_two, SoundResults}
use Rattle.columnar_lookback.specs.Recall.{reaches, recall}
use Rattle.columnar_lookback.specs.RecallLaws.{length-recall, recall_fault}
use Rattle.columnar_lookback.specs.Lookbacks.{lookbacks_code, lookbacks_format}
use Rattle.columnar_lookback.specs.LookbackByteLaws.{distances_at, level_at, lookbacks_fine, lookbacks_own, reached_at, results_judged, rows_of_bytes, turns_at}
use Rattle.columnar_syntax.specs.declared.schema.Leaf.TheVariants.{U8}
use Rattle.columnar_syntax.specs.declared.schema.Schema.{Schema, Simple, Fallible', Recalled'}
use Rattle.columnar_schema.specs.Formats.{format_of}
use Rattle.columnar_schema.specs.JudgeLaws.{errors_fit, errors_refused, first_fits, left_refused, values_fit, values_refused}
use Rattle.columnar_syntax.specs.Names.{recalled}
use Rattle.columnar_schema.specs.TurnLaws.{errors_turns, values_turns}
use Rattle.columnar_schema.specs.TypeLaws.{fallible_rows}

-- ---- the column: that of `Fallible' p t p (Simple U8)`

pub recalled_rows : (s : Schema) {p : _} {t : Schema} (o : ℕ) (ss : List (List ℕ)) (n : ℕ) → s ≡ Recalled' p t → n ≡ length (ranks_format.rows (ranks_format.build (drop o ss))) → n ≡ length ((format_of s).rows ((format_of s).build (drop o ss)))
recalled_rows s {p} {t} o ss n e h =
    let f = results_format (format_of t) bytes_format in
    rw e (fallible_rows (Fallible' p t p (Simple U8)) o ss n refl h ∙ sym (length-recall lookbacks_code [] (f.rows (f.build (drop o ss)))))

-- a fault of the results is the fault of the lookbacks
pub results_fault : (t : Format) (o : ℕ) (ss : List (List ℕ)) (z : Fault) → Some z ≡ first (moved o ((results_format t bytes_format).broken ((results_format t bytes_format).build (drop o ss)))) → Some z ≡ first (moved o ((lookbacks_format t bytes_format).broken ((lookbacks_format t bytes_format).build (drop o ss))))
results_fault t o ss z h = recall_fault lookbacks_code t.kin (results_format t bytes_format) ((results_format t bytes_format).build (drop o ss)) o z h

pub recalled_bits_refused : (s : Schema) {p : _} {t : Schema} (o : ℕ) (ss : List (List ℕ)) (z : Fault) → s ≡ Recalled' p t → Some z ≡ first (moved o (ranks_format.broken (ranks_format.build (drop o ss)))) → Some z ≡ first (moved o ((format_of s).broken ((format_of s).build (drop o ss))))
recalled_bits_refused s {p} {t} o ss z e h = rw e (results_fault (format_of t) o ss z (left_refused (results_two (format_of t) bytes_format) ss o z h))

pub recalled_values_refused : (s : Schema) {p : _} {t : Schema} (o : ℕ) (ss : List (List ℕ)) (z : Fault) → s ≡ Recalled' p t → None ≡ first (moved o (ranks_format.broken (ranks_format.build (drop o ss)))) → Some z ≡ first (moved (o + 3) ((format_of t).broken ((format_of t).build (drop (o + 3) ss)))) → Some z ≡ first (moved o ((format_of s).broken ((format_of s).build (drop o ss))))
recalled_values_refused s {p} {t} o ss z e h k = rw e (results_fault (format_of t) o ss z (values_refused (Fallible' p t p (Simple U8)) o ss z refl h k))

pub distances_refused : (s : Schema) {p : _} {t : Schema} (o : ℕ) (ss : List (List ℕ)) (z : Fault) → s ≡ Recalled' p t → None ≡ first (moved o (ranks_format.broken (ranks_format.build (drop o ss)))) → None ≡ first (moved (o + 3) ((format_of t).broken ((format_of t).build (drop (o + 3) ss)))) → Some z ≡ first (moved (o + 3 + (format_of t).count) (bytes_format.broken (bytes_format.build (drop (o + 3 + (format_of t).count) ss)))) → Some z ≡ first (moved o ((format_of s).broken ((format_of s).build (drop o ss))))
distances_refused s {p} {t} o ss z e h k l = rw e (results_fault (format_of t) o ss z (errors_refused (Fallible' p t p (Simple U8)) o ss z refl h k l))

-- the parts fit
pub recalled_bits_fit : (s : Schema) {p : _} {t : Schema} (o : ℕ) (ss : List (List ℕ)) → s ≡ Recalled' p t → o + (format_of s).count ≤ length ss → None ≡ first (moved o (ranks_format.broken (ranks_format.build (drop o ss)))) → Fits ranks_format o ss
recalled_bits_fit s {p} {t} o ss e r h = first_fits (results_two (format_of t) bytes_format) ss o (rw e at r) h

pub recalled_values_fit : (s : Schema) {p : _} {t : Schema} (o : ℕ) (ss : List (List ℕ)) → s ≡ Recalled' p t → o + (format_of s).count ≤ length ss → None ≡ first (moved (o + 3) ((format_of t).broken ((format_of t).build (drop (o + 3) ss)))) → Fits (format_of t) (o + 3) ss
recalled_values_fit s {p} {t} o ss e r h = values_fit (Fallible' p t p (Simple U8)) o ss refl (rw e at r) h

pub distances_fit : (s : Schema) {p : _} {t : Schema} (o : ℕ) (ss : List (List ℕ)) → s ≡ Recalled' p t → o + (format_of s).count ≤ length ss → None ≡ first (moved (o + 3 + (format_of t).count) (bytes_format.broken (bytes_format.build (drop (o + 3 + (format_of t).count) ss)))) → Fits bytes_format (o + 3 + (format_of t).count) ss
distances_fit s {p} {t} o ss e r h = errors_fit (Fallible' p t p (Simple U8)) o ss refl (rw e at r) h

pub distances_room : (s : Schema) {p : _} {t : Schema} (o : ℕ) (ss : List (List ℕ)) → s ≡ Recalled' p t → o + (format_of s).count ≤ length ss → o + 3 + (format_of t).count + 1 ≤ length ss
distances_room s {p} {t} o ss e r =
    let k : o + (3 + ((format_of t).count + 1)) ≤ length ss = rw e at r in
    omega (arith, k)

-- the results are sound, so each distance can be tested
pub recalled_parts : (t : Format) (o : ℕ) (ss : List (List ℕ)) → o + (3 + (t.count + 1)) ≤ length ss → None ≡ first (moved o ((results_format t bytes_format).broken ((results_format t bytes_format).build (drop o ss)))) → SoundResults t bytes_format (ranks_format.build (drop o ss)) (t.build (drop 3 (drop o ss))) (bytes_format.build (drop t.count (drop 3 (drop o ss))))
recalled_parts t o ss l h = results_parts t bytes_format (results_judged t bytes_format o ss l h).sound

-- the bits and the distances as they were read from the store
pub distances_level : (t : Format) (o a : ℕ) (ss : List (List ℕ)) {x : Content} {ws : List Row} → a ≡ o + 3 + t.count → x ≡ ranks_format.build (drop o ss) → ws ≡ bytes_format.rows (bytes_format.build (drop a ss)) → o + (3 + (t.count + 1)) ≤ length ss → None ≡ first (moved o ((results_format t bytes_format).broken ((results_format t bytes_format).build (drop o ss)))) → zeros (ranks_bits x) (length (ranks_bits x)) ≡ length ws
distances_level t o a ss {x} {ws} k e f l h = level_at e (rw k at f ∙ distances_at t bytes_format o ss) (recalled_parts t o ss l h).err_level

distances_reach : (t : Format) (o a : ℕ) (ss : List (List ℕ)) {x : Content} {ws : List Row} (z : Bool) → a ≡ o + 3 + t.count → x ≡ ranks_format.build (drop o ss) → ws ≡ bytes_format.rows (bytes_format.build (drop a ss)) → ((vs : List Row) → ones (ranks_bits x) (length (ranks_bits x)) ≡ length vs → z ≡ reaches lookbacks_code [] (weave_results (ranks_bits x) vs ws)) → o + (3 + (t.count + 1)) ≤ length ss → None ≡ first (moved o ((results_format t bytes_format).broken ((results_format t bytes_format).build (drop o ss)))) → z ≡ reaches lookbacks_code [] (weave_results (ranks_bits (ranks_format.build (drop o ss))) (t.rows (t.build (drop 3 (drop o ss)))) (bytes_format.rows (bytes_format.build (drop t.count (drop 3 (drop o ss))))))
distances_reach t o a ss {x} {ws} z k e f g l h = reached_at z e (rw k at f ∙ distances_at t bytes_format o ss) g (t.rows (t.build (drop 3 (drop o ss)))) (recalled_parts t o ss l h).ok_level

pub lookbacks_reach : (t : Format) (o a : ℕ) (ss : List (List ℕ)) {x : Content} {ws : List Row} → a ≡ o + 3 + t.count → x ≡ ranks_format.build (drop o ss) → ws ≡ bytes_format.rows (bytes_format.build (drop a ss)) → ((vs : List Row) → ones (ranks_bits x) (length (ranks_bits x)) ≡ length vs → true ≡ reaches lookbacks_code [] (weave_results (ranks_bits x) vs ws)) → o + (3 + (t.count + 1)) ≤ length ss → None ≡ first (moved o ((results_format t bytes_format).broken ((results_format t bytes_format).build (drop o ss)))) → None ≡ first (moved o ((lookbacks_format t bytes_format).broken ((lookbacks_format t bytes_format).build (drop o ss))))
lookbacks_reach t o a ss k e f g l h = lookbacks_fine t bytes_format (ranks_format.build (drop o ss)) (t.build (drop 3 (drop o ss))) (bytes_format.build (drop t.count (drop 3 (drop o ss)))) o h (sym (distances_reach t o a ss true k e f g l h))

pub lookbacks_stop : (t : Format) (o a : ℕ) (ss : List (List ℕ)) {x : Content} {ws : List Row} → a ≡ o + 3 + t.count → x ≡ ranks_format.build (drop o ss) → ws ≡ bytes_format.rows (bytes_format.build (drop a ss)) → ((vs : List Row) → ones (ranks_bits x) (length (ranks_bits x)) ≡ length vs → false ≡ reaches lookbacks_code [] (weave_results (ranks_bits x) vs ws)) → o + (3 + (t.count + 1)) ≤ length ss → None ≡ first (moved o ((results_format t bytes_format).broken ((results_format t bytes_format).build (drop o ss)))) → Some (fault 15 o) ≡ first (moved o ((lookbacks_format t bytes_format).broken ((lookbacks_format t bytes_format).build (drop o ss))))
lookbacks_stop t o a ss k e f g l h = lookbacks_own t bytes_format (ranks_format.build (drop o ss)) (t.build (drop 3 (drop o ss))) (bytes_format.build (drop t.count (drop 3 (drop o ss)))) o h (sym (distances_reach t o a ss false k e f g l h))

pub recalled_verdict : (s : Schema) {p : _} {t : Schema} (o : ℕ) (ss : List (List ℕ)) (v : Option Fault) → s ≡ Recalled' p t → v ≡ first (moved o ((lookbacks_format (format_of t) bytes_format).broken ((lookbacks_format (format_of t) bytes_format).build (drop o ss)))) → v ≡ first (moved o ((format_of s).broken ((format_of s).build (drop o ss))))
recalled_verdict s {p} {t} o ss v e h = rw e h

-- ---- the steps

pub close_turns : (o : ℕ) (ss : List (List ℕ)) {x : Content} (old mid new : ℕ) → x ≡ ranks_format.build (drop o ss) → Fits ranks_format o ss → mid ≤ old + 16 → new ≤ mid + length (ranks_bits x) → new ≤ old + (16 + 8 * bytes_held (ranks_format.build (drop o ss)))
close_turns o ss old mid new e f u v =
    let n = turns_at new mid e v in
    let r = rows_of_bytes (ranks_format.build (drop o ss)) f.sound in
    omega (arith, u, n, r)

pub recalled_values_turns : (s : Schema) {p : _} {t : Schema} (o : ℕ) (ss : List (List ℕ)) (old mid new : ℕ) → s ≡ Recalled' p t → mid ≤ old + 4 * bytes_held (ranks_format.build (drop o ss)) → new ≤ mid + 16 * bytes_held ((format_of t).build (drop (o + 3) ss)) → new ≤ old + 16 * bytes_held ((format_of s).build (drop o ss))
recalled_values_turns s {p} {t} o ss old mid new e u v = rw e (values_turns (Fallible' p t p (Simple U8)) o ss old mid new refl u v)

pub distances_turns : (s : Schema) {p : _} {t : Schema} (o : ℕ) (ss : List (List ℕ)) (old mid later new : ℕ) → s ≡ Recalled' p t → mid ≤ old + 4 * bytes_held (ranks_format.build (drop o ss)) → later ≤ mid + 16 * bytes_held ((format_of t).build (drop (o + 3) ss)) → new ≤ later + 16 * bytes_held (bytes_format.build (drop (o + 3 + (format_of t).count) ss)) → new ≤ old + 16 * bytes_held ((format_of s).build (drop o ss))
distances_turns s {p} {t} o ss old mid later new e u v w = rw e (errors_turns (Fallible' p t p (Simple U8)) o ss old mid later new refl u v w)

pub recalled_turns : (s : Schema) {p : _} {t : Schema} (o : ℕ) (ss : List (List ℕ)) (old mid later last new : ℕ) → s ≡ Recalled' p t → Fits ranks_format o ss → mid ≤ old + 4 * bytes_held (ranks_format.build (drop o ss)) → later ≤ mid + 16 * bytes_held ((format_of t).build (drop (o + 3) ss)) → last ≤ later + 16 * bytes_held (bytes_format.build (drop (o + 3 + (format_of t).count) ss)) → new ≤ last + (16 + 8 * bytes_held (ranks_format.build (drop o ss))) → new ≤ old + 16 * bytes_held ((format_of s).build (drop o ss))
recalled_turns s {p} {t} o ss old mid later last new e f u v w z =
    let h : bytes_held ((format_of s).build (drop o ss)) ≡ bytes_held (ranks_format.build (drop o ss)) + (bytes_held ((format_of t).build (drop (o + 3) ss)) + bytes_held (bytes_format.build (drop (o + 3 + (format_of t).count) ss))) = rw e (results_held (format_of t) bytes_format o ss) in
    let b : 16 ≤ bytes_held (ranks_format.build (drop o ss)) = ranks_bytes (ranks_format.build (drop o ss)) f.sound in
    rw h (omega (arith, u, v, w, z, b))
