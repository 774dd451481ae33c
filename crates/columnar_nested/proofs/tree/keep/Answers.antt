use Rattle.std.proofs.Common.{◌≡◌, ◌∙◌, sym, ap, ◌∷◌, ◌++◌, []}
use Rattle.columnar_nested.specs.Weights.{total}
use Rattle.columnar_nested.specs.WeightLaws.{total-push}
use Rattle.columnar_nested.proofs.tree.keep.Goals as goal

pub returns-else-is_empty-clause-kept : goal.returns-else-is_empty-clause-kept
returns-else-is_empty-clause-kept c = λ e h z.
    let i : c.push.new.self.items ≡ c.args.waiting.now.items ++ c.args.later ∷ [] = rw (sym c.is_ok.ensures.value ∙ e) at c.push.ensures.items in
    ap (total (λ ts. h ts.now)) i ∙ total-push (λ ts. h ts.now) c.args.waiting.now.items c.args.later
