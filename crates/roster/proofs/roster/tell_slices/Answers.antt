use Rattle.std.proofs.Common.{string_bytes}
use Rattle.columnar.specs.Format.{slices_of}
use Rattle.columnar.specs.Slices.{bytes_in}
use Rattle.roster.proofs.Lines.{lines_step}
use Rattle.roster.proofs.roster.tell_slices.Goals as goal

pub loop-index-preserved : goal.loop-index-preserved
loop-index-preserved g c =
    let slice = c.get_byte_slice-align.result in
    let read = c.get_byte_slice-align.ensures in
    lines_step g.V.Column.format.aligns (slices_of (g.V.Column.content c.args.view.now)) c.loop-index.index slice.0 c.len.result (bytes_in slice.1)
    (string_bytes c.loop-index.text) (string_bytes c.writeln.new.self) read.aligned read.slice c.len.ensures c.loop-index.invariant c.in_ok-writeln.ensures.bytes
