use Rattle.std.proofs.Common.{arith}
use Rattle.columnar_tool.specs.TableLaws.{is_there}
use Rattle.columnar_tool.proofs.table.slice_at.Goals as goal

pub round_up-begin-requires : goal.round_up-begin-requires
round_up-begin-requires c =
    let r = is_there c.args.bytes.now c.args.i c.requires.store c.requires.in_range in
    omega (arith, c.word_in_bytes.ensures)
