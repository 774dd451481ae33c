use Rattle.std.proofs.Common.{map}
use Rattle.columnar_base.specs.ExtendLaws.{refused_whole}
use Rattle.columnar_lists.proofs.vector.push.take_items.Goals as goal

pub returns-in-Err-clause-err : goal.returns-in-Err-clause-err
returns-in-Err-clause-err g c =
    let p = c.in-Err.ensures.err in
    (p.0, p.1, (p.2.0, refused_whole (map g.I.Item.Item.meaning p.0) g.met.TC.Truncate.lawful c.requires.sound p.2.1 (rw c.len-before.ensures at c.truncate.ensures.cut)))

pub returns-in-Err-clause-wanted : goal.returns-in-Err-clause-wanted
returns-in-Err-clause-wanted g c = λ k.
    let p = c.in-Err.ensures.wanted k in
    (p.0, p.1, (p.2.0, (refused_whole (map g.I.Item.Item.meaning p.0) g.met.TC.Truncate.lawful c.requires.sound p.2.1.0 (rw c.len-before.ensures at c.truncate.ensures.cut), p.2.1.1)))
