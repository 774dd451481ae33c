-- Made by .ci/widths.py: change .ci/widths/answers.template, and not this file.
use Rattle.std.proofs.Common.{rules, [], ◌∷◌, sym, ap}
use Rattle.columnar_base.specs.LongTupleLaws.{same_parts, same_tuple}
use Rattle.columnar_core.specs.LentLaws.{same_contents, same_sound}
use Rattle.columnar_core.proofs.tuple.ten.Tuple10Borrow.borrow.Goals as goal

pub returns-clause-sound : goal.returns-clause-sound
returns-clause-sound g c = λ s. let k : g.claim c.lifetimes = search rules in same_sound (sym (same_tuple (g.met.A.Borrow c.lifetimes k).same_format (g.met.B.Borrow c.lifetimes k).same_format (same_parts (g.met.C.Borrow c.lifetimes k).same_format (same_parts (g.met.D.Borrow c.lifetimes k).same_format (same_parts (g.met.E.Borrow c.lifetimes k).same_format (same_parts (g.met.F.Borrow c.lifetimes k).same_format (same_parts (g.met.G.Borrow c.lifetimes k).same_format (same_parts (g.met.H.Borrow c.lifetimes k).same_format (same_parts (g.met.I.Borrow c.lifetimes k).same_format (ap (λ f. f ∷ []) (g.met.J.Borrow c.lifetimes k).same_format)))))))))) (sym (same_contents c.borrow-first.ensures.content (same_contents c.borrow-second.ensures.content (same_contents c.borrow-third.ensures.content (same_contents c.borrow-fourth.ensures.content (same_contents c.borrow-fifth.ensures.content (same_contents c.borrow-sixth.ensures.content (same_contents c.borrow-seventh.ensures.content (same_contents c.borrow-eighth.ensures.content (same_contents c.borrow-ninth.ensures.content c.borrow-tenth.ensures.content)))))))))) s
