use Rattle.std.proofs.Common.{[], ◌∷◌, refl, ◌∙◌, arith}
use Rattle.columnar_core.specs.Bytes.{le_bytes}
use Rattle.columnar_primitive.specs.HeldLaws.{count-word}
use Rattle.columnar_primitive.specs.TriedLaws.{tried_ok, tried_err}
use Rattle.columnar_primitive.proofs.offsets.fixeds.FixedsU64TryFromStridesVecU64ArrayU642.try_from.Goals as goal

pub word-requires : goal.word-requires
word-requires g c = let h = c.all_follow.ensures.yes c.if-all_follow.true in omega (arith, h.0)

pub returns-then-all_follow : goal.returns-then-all_follow
returns-then-all_follow g c =
    let h = c.all_follow.ensures.yes c.if-all_follow.true in
    tried_ok g.row.K (le_bytes c.args.item.head) (le_bytes c.args.item.bounds.items) (le_bytes (c.word.result ∷ [])) h.1.0 h.1.1 refl (count-word c.word.result (omega arith) ∙ c.word.ensures)

pub returns-else-all_follow : goal.returns-else-all_follow
returns-else-all_follow g c = (refl, tried_err g.row.K (le_bytes c.args.item.head) (le_bytes c.args.item.bounds.items) (c.all_follow.ensures.no c.if-all_follow.false))
