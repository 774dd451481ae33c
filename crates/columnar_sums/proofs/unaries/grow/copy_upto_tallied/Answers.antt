use Rattle.std.proofs.Common.{◌≡◌, ◌<◌, arith}
use Rattle.columnar_core.specs.WordViews.{view_bytes}
use Rattle.columnar_bits.specs.BoolColumns.{bits_in}
use Rattle.columnar_sums.specs.UnaryListLaws.{upto-within}
use Rattle.columnar_sums.proofs.unaries.grow.copy_upto_tallied.Goals as goal

pub copy_bits-requires-clause-ordered : goal.copy_bits-requires-clause-ordered
copy_bits-requires-clause-ordered g c = omega (arith, c.cut_end_tallied-to.ensures.value, c.requires.ordered)

pub copy_bits-requires-clause-in_range : goal.copy_bits-requires-clause-in_range
copy_bits-requires-clause-in_range g c = omega (arith, c.cut_end_tallied-to.ensures.value, upto-within (bits_in (view_bytes c.args.view.now.bits.values.values) (view_bytes c.args.view.now.bits.values.tail)) c.args.n)

pub returns-clause-ok : goal.returns-clause-ok
returns-clause-ok g c = rw (← c.cut_end_tallied-to.ensures.value) c.copy_bits.ensures.ok

pub returns-clause-length : goal.returns-clause-length
returns-clause-length g c = rw (← c.cut_end_tallied-to.ensures.value) c.copy_bits.ensures.length

pub returns-clause-wanted : goal.returns-clause-wanted
returns-clause-wanted g c = rw (← c.cut_end_tallied-to.ensures.value) c.copy_bits.ensures.wanted
