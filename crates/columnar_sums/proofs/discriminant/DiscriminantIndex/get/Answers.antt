use Rattle.columnar_sums.specs.Discriminants.{variants_of, forms_content}
use Rattle.columnar_sums.specs.FormLaws.{row_of}
use Rattle.columnar_sums.proofs.discriminant.DiscriminantIndex.get.Goals as goal

pub returns-clause-row : goal.returns-clause-row
returns-clause-row g c = row_of {ks = variants_of (forms_content g.CVar.Variants.bytes g.COff.Words.bytes c.args.self.now)} {i = c.args.index} {v = c.get.result.0} {m = c.get.result.1} (record { variant = c.get.ensures.variant; before = c.get.ensures.earlier })
