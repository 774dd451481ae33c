use Rattle.std.proofs.Common.{arith}
use Rattle.columnar_variants.specs.VariantRunLaws.{rows_set}
use Rattle.columnar_variants.proofs.run.set_rows.Goals as goal

pub index_mut-requires : goal.index_mut-requires
index_mut-requires c =
    let t = rows_set c.args.indexes.now.variant.items c.args.indexes.now.offset.items c.args.rows c.requires.sound c.requires.some c.requires.alone c.requires.left (omega (arith, c.ranges.rows)) in
    omega (arith, t.0)

pub returns-clause-sound : goal.returns-clause-sound
returns-clause-sound c = (rows_set c.args.indexes.now.variant.items c.args.indexes.now.offset.items c.args.rows c.requires.sound c.requires.some c.requires.alone c.requires.left (omega (arith, c.ranges.rows))).1.0

pub returns-clause-variants : goal.returns-clause-variants
returns-clause-variants c = (rows_set c.args.indexes.now.variant.items c.args.indexes.now.offset.items c.args.rows c.requires.sound c.requires.some c.requires.alone c.requires.left (omega (arith, c.ranges.rows))).1.1
