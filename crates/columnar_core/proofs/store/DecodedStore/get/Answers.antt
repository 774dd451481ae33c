use Rattle.std.proofs.Common.{arith, sym}
use Rattle.columnar_core.specs.FrameLaws.{read_slice}
use Rattle.columnar_core.proofs.store.DecodedStore.get.Goals as goal

pub round_up-start-requires : goal.round_up-start-requires
round_up-start-requires c =
    let r = read_slice c.args.self.now.bytes.now c.args.index c.args.self.now.legal c.requires in
    omega (arith, c.word_in_bytes.ensures)

pub returns : goal.returns
returns c =
    let r = read_slice c.args.self.now.bytes.now c.args.index c.args.self.now.legal c.requires in
    rw (c.word_in_bytes-end.ensures, c.round_up-start.ensures, c.word_in_bytes.ensures) (sym r.is)
