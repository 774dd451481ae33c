use Rattle.columnar_core.specs.Bytes.{word_bytes}
use Rattle.columnar_bytes.proofs.indexed.writing.write_word.Goals as goal

pub returns-clause-ok : goal.returns-clause-ok
unfolding word_bytes
returns-clause-ok g c = rw (← c.to_le_bytes.ensures) c.write_all.ensures.ok

pub returns-clause-err : goal.returns-clause-err
unfolding word_bytes
returns-clause-err g c = rw (← c.to_le_bytes.ensures) c.write_all.ensures.err
