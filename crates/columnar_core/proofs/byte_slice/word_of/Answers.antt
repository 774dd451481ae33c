use Rattle.std.proofs.Common.{add-zero}
use Rattle.std.proofs.lemmas.List.{get_or-drop}
use Rattle.columnar_core.specs.Bytes.{word}
use Rattle.columnar_core.proofs.byte_slice.word_of.Goals as goal

pub returns : goal.returns
unfolding word
returns g c = rw (c.from_le_bytes.ensures, c.byte_of.ensures, c.byte_of-2.ensures, c.byte_of-3.ensures, c.byte_of-4.ensures, c.byte_of-5.ensures, c.byte_of-6.ensures, c.byte_of-7.ensures, c.byte_of-8.ensures) (simp (get_or-drop, add-zero))
