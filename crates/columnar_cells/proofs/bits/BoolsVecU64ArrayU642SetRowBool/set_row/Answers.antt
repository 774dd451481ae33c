use Rattle.std.proofs.Common.{rules, ◌<◌, ◌/◌, length, arith, refl, sym}
use Rattle.std.proofs.lemmas.Option.{slice_get_read, get_or_from_slice_get}
use Rattle.columnar_cells.specs.BitLaws.{whole_bit, tail_bit}
use Rattle.columnar_cells.proofs.bits.BoolsVecU64ArrayU642SetRowBool.set_row.Goals as goal

pub returns-then-word-len : goal.returns-then-word-len
returns-then-word-len c =
    let xs = c.args.self.now.values.items in
    let w = c.index.result.now in
    let l : c.args.index / 64 < length xs = omega (arith, c.len.ensures, c.if-word-len.true) in
    whole_bit xs c.args.self.now.tail c.args.index w c.with_bit.result c.args.item c.requires.sound c.requires.in_range l (sym (get_or_from_slice_get xs (c.args.index / 64) w 0 (slice_get_read xs (length xs) (c.args.index / 64) w refl l c.index.ensures))) (search rules) c.with_bit.type_inv c.with_bit.ensures.bit

pub returns-else-word-len : goal.returns-else-word-len
returns-else-word-len c = tail_bit c.args.self.now.values.items c.args.self.now.tail c.args.index _ c.with_bit-else-word-len.result c.args.item c.requires.sound c.requires.in_range (omega (arith, c.len.ensures, c.if-word-len.false)) refl (search rules) c.with_bit-else-word-len.type_inv c.with_bit-else-word-len.ensures.bit c.with_bit-else-word-len.ensures.below
