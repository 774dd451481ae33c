use Rattle.std.proofs.Common.{◌≡◌, ◌+◌, ◌%◌, [], ◌∷◌, ◌++◌, true, ℕ, List, Bool, take, refl, sym, arith}
use Rattle.columnar_core.specs.Bounds.{numbers}
use Rattle.columnar_core.specs.Elements.{words_format}
use Rattle.columnar_core.specs.Format.{slice}
use Rattle.columnar_core.specs.Row.{Row}
use Rattle.columnar_core.specs.WordViews.{le_bytes}
use Rattle.columnar_bits.specs.Bits.{bit, truths}
use Rattle.columnar_bits.specs.BoolColumns.{owned_bits}
use Rattle.columnar_sums.specs.Unary.{all_false, runs}
use Rattle.columnar_sums.specs.PackedLaws.{no_truths, taken_next, runs_next, last_next, run_gathered, run_apart}
use Rattle.columnar_sums.proofs.unaries.packed.push_runs.Goals as goal
use Rattle.columnar_sums.proofs.unaries.packed.push_runs.Goals.{then-run-count, else-run-count+in_ok-push_word+in_ok-push_falses}

pub loop-i-init : goal.loop-i-init
loop-i-init c = record { sound = c.requires.bits; bits = rw (no_truths 0) refl; last = refl; few = omega arith; below = omega arith }

pub loop-i-preserved : goal.loop-i-preserved
loop-i-preserved c =
    let i = c.loop-i.invariant in
    let rs : List Row = words_format.rows (slice (le_bytes c.args.offsets.now.items)) in
    let e : take (c.loop-i.i + 1) (numbers rs) ≡ take c.loop-i.i (numbers rs) ++ c.get-end.result ∷ [] = taken_next rs c.loop-i.i c.get-end.result c.get-end.type_inv c.get-end.ensures.row in
    let run : ℕ = c.saturating_sub-run.result in
    let more = rw (sym c.saturating_sub-run.ensures) at (runs_next (numbers rs) c.loop-i.i c.get-end.result c.loop-i.last e i.last) in
    let last = last_next (numbers rs) c.loop-i.i c.get-end.result e in
    let done : List Bool = runs 0 (take c.loop-i.i (numbers rs)) in
    let old : List Bool = owned_bits c.args.bits.now in
    let now : List Bool = owned_bits c.loop-i.bits in
    let word : List Bool = truths (bit c.loop-i.word) c.loop-i.count in
    elim c.if-run-count.branch [
      | then-run-count w ↦
          let many : c.loop-i.count + (run + 1) ≡ c.loop-i.count + run + 1 = omega arith in
          record {
            sound = rw w.bits-is i.sound;
            bits = rw (w.bits-is, w.word-is, w.count-is, many, more) (run_gathered old now done word (truths (bit w.with_run-word.result) (c.loop-i.count + run + 1)) (all_false run ++ true ∷ []) i.bits w.with_run-word.ensures.bits);
            last = last;
            few = omega (arith, w.count-is, w.if-run-count.true);
            below = rw (w.word-is, w.count-is, many) w.with_run-word.ensures.below;
          }
      | else-run-count+in_ok-push_word+in_ok-push_falses w ↦
          let many : 0 + run % 64 + 1 ≡ run % 64 + 1 = omega arith in
          let after : ℕ = w.with_run-word-else-run-count.result in
          let begun : truths (bit after) (run % 64 + 1) ≡ all_false (run % 64) ++ true ∷ [] = rw (many, no_truths 0) at w.with_run-word-else-run-count.ensures.bits in
          record {
            sound = rw w.bits-is w.push_falses.ensures.sound;
            bits = rw (w.bits-is, w.word-is, w.count-is, more) (run_apart old now (owned_bits w.push_word.new.values) (owned_bits w.push_falses.new.values) done word (truths (bit after) (run % 64 + 1)) run i.bits w.in_ok-push_word.ensures.ok w.in_ok-push_falses.ensures.ok begun);
            last = last;
            few = omega (arith, w.count-is);
            below = rw (w.word-is, w.count-is, sym many) w.with_run-word-else-run-count.ensures.below;
          }
    ]
