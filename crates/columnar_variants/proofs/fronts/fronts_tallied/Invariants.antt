use Rattle.std.proofs.Common.{◌≡◌, ◌+◌}
use Rattle.columnar_sums.specs.Discriminants.{variants_of, forms_content}
use Rattle.columnar_variants.specs.FrontTotalLaws.{Fronts}
use Rattle.columnar_variants.proofs.fronts.fronts_tallied.Given as goal

abbrev pub invariant-loop-index : goal.invariant-loop-index
invariant-loop-index g l =
    record {
      fronts : Fronts l.n l.index l.left (variants_of (forms_content g.CVar.Variants.bytes g.COff.Words.bytes l.indexes)) l.fronts;
      turns : l.tally.turns + l.n ≡ l.fn.tally.turns + l.index;
    }
