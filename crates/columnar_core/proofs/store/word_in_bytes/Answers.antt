use Rattle.std.proofs.Common.{add-zero}
use Rattle.std.proofs.lemmas.List.{get_or-drop}
use Rattle.columnar_core.specs.Bytes.{word}
use Rattle.columnar_core.proofs.store.word_in_bytes.Goals as goal

pub returns : goal.returns
unfolding word
returns c = simp (get_or-drop, add-zero) c.from_le_bytes.ensures
