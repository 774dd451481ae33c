use Rattle.std.proofs.Common.{◌∙◌, ap, [], ◌∷◌, ◌++◌}
use Rattle.columnar_nested.specs.PushedLaws.{none_sound, none_rows}
use Rattle.columnar_nested.proofs.trees.grow.Trees+TC+Vec+u64.new.Goals as goal

pub returns-clause-sound : goal.returns-clause-sound
returns-clause-sound g c =
    none_sound g.TC.Column.format c.push.new.self.items c.push-2.new.self.items (g.TC.Column.content c.empty-values.result)
    (c.in_ok-push.ensures.items ∙ ap (λ xs. xs ++ 0 ∷ []) c.new-groups.ensures.items) (c.in_ok-push-2.ensures.items ∙ ap (λ xs. xs ++ 0 ∷ []) c.new-bounds.ensures.items)
    c.empty-values.ensures.sound c.empty-values.ensures.rows

pub returns-clause-rows : goal.returns-clause-rows
returns-clause-rows g c =
    none_rows g.TC.Column.format c.push.new.self.items c.push-2.new.self.items (g.TC.Column.content c.empty-values.result)
    (c.in_ok-push-2.ensures.items ∙ ap (λ xs. xs ++ 0 ∷ []) c.new-bounds.ensures.items)
