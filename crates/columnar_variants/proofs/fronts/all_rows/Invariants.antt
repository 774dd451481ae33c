use Rattle.std.proofs.Common.{◌≡◌, ◌<◌, ◌≤◌, ℕ, length}
use Rattle.std.specs.Prelude.{slice_index}
use Rattle.columnar_sums.specs.Discriminants.{times, variants_of, forms_content}
use Rattle.columnar_variants.proofs.fronts.all_rows.Given as goal

abbrev pub invariant-loop-variant : goal.invariant-loop-variant
invariant-loop-variant g l =
    record {
      size : length l.fronts ≡ 256;
      done : (v : ℕ) → v < l.variant → slice_index l.fronts v ≡ times v (variants_of (forms_content g.CVar.Variants.bytes g.COff.Words.bytes l.indexes));
      left : (v : ℕ) → l.variant ≤ v → slice_index l.fronts v ≡ 0;
    }
