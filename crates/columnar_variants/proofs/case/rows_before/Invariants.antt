use Rattle.std.proofs.Common.{◌≡◌, take}
use Rattle.columnar_sums.specs.Discriminants.{times, variants_of, forms_content}
use Rattle.columnar_variants.proofs.case.rows_before.Given as goal

abbrev pub invariant-loop-index : goal.invariant-loop-index
invariant-loop-index g l = times l.variant (take l.index (variants_of (forms_content g.CVar.Variants.bytes g.COff.Words.bytes l.indexes))) ≡ times l.variant (take l.n (variants_of (forms_content g.CVar.Variants.bytes g.COff.Words.bytes l.indexes)))
