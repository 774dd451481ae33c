use Rattle.std.proofs.Common.{◌≡◌, ◌++◌, List, replicate}
use Rattle.columnar_core.specs.Row.{Row}
use Rattle.columnar_core.specs.Format.{IsSound}
use Rattle.columnar_core.specs.Change.{Took}
use Rattle.columnar_sums.specs.Discriminants.{discriminant_format, owned_forms, variants_of}
use Rattle.columnar_variants.proofs.run.push_each.Given as goal

abbrev pub invariant-loop-at : goal.invariant-loop-at
invariant-loop-at l =
    record {
      sound : IsSound discriminant_format (owned_forms l.indexes.variant.items l.indexes.offset.items);
      variants : variants_of (owned_forms l.indexes.variant.items l.indexes.offset.items) ≡ variants_of (owned_forms l.fn.indexes.variant.items l.fn.indexes.offset.items) ++ replicate l.at l.variant;
      took : (rs : List Row) × Took discriminant_format (owned_forms l.fn.indexes.variant.items l.fn.indexes.offset.items) (owned_forms l.indexes.variant.items l.indexes.offset.items) rs;
    }
