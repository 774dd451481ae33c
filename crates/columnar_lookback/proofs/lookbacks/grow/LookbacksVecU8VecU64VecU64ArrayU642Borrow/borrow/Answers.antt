use Rattle.std.proofs.Common.{rules}
use Rattle.columnar_base.specs.Elements.{bytes_format}
use Rattle.columnar_lookback.specs.LookbackLaws.{same_lookbacks}
use Rattle.columnar_lookback.proofs.lookbacks.grow.LookbacksVecU8VecU64VecU64ArrayU642Borrow.borrow.Goals as goal

pub returns-clause-sound : goal.returns-clause-sound
returns-clause-sound g c = λ s. let k : g.claim c.lifetimes = search rules in rw (same_lookbacks bytes_format (g.met.TC.Borrow c.lifetimes k).same_format, c.borrow-inner.ensures.content) s
