use Rattle.std.proofs.Common.{◌≡◌, length, take}
use Rattle.columnar_base.specs.Format.{IsSound}
use Rattle.columnar_sums.specs.Discriminants.{discriminant_format, owned_forms, variants_of}
use Rattle.columnar_sums.specs.FormLaws.{AreCounted}
use Rattle.bench.proofs.work.push_variants.Given as goal

abbrev pub invariant-loop-variant : goal.invariant-loop-variant
invariant-loop-variant l =
    record {
      sound : IsSound discriminant_format (owned_forms l.column.variant.items l.column.offset.items);
      pushed : variants_of (owned_forms l.column.variant.items l.column.offset.items) ≡ take l.variant-index l.variants;
      size : length l.counts ≡ 256;
      counted : AreCounted l.variants l.counts l.variant-index;
    }
