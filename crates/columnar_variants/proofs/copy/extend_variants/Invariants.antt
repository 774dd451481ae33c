use Rattle.std.proofs.Common.{◌≡◌, ◌-◌, ◌++◌, List, take, drop}
use Rattle.columnar_core.specs.Row.{Row}
use Rattle.columnar_core.specs.Format.{IsSound}
use Rattle.columnar_core.specs.Change.{Took}
use Rattle.columnar_sums.specs.Discriminants.{discriminant_format, forms_content, owned_forms, variants_of}
use Rattle.columnar_variants.proofs.copy.extend_variants.Given as goal

abbrev pub invariant-loop-index : goal.invariant-loop-index
invariant-loop-index g l =
    record {
      sound : IsSound discriminant_format (owned_forms l.indexes.variant.items l.indexes.offset.items);
      variants : variants_of (owned_forms l.indexes.variant.items l.indexes.offset.items) ≡ variants_of (owned_forms l.fn.indexes.variant.items l.fn.indexes.offset.items) ++ take (l.index - l.start) (drop l.start (variants_of (forms_content g.CVar.Variants.bytes g.COff.Words.bytes l.view)));
      took : (rs : List Row) × Took discriminant_format (owned_forms l.fn.indexes.variant.items l.fn.indexes.offset.items) (owned_forms l.indexes.variant.items l.indexes.offset.items) rs;
    }
