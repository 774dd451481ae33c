use Rattle.std.proofs.Common.{◌≡◌, ◌∷◌, ◌++◌, ◌∙◌, ℕ, Bool, List, [], Result, Ok, Err, IfOk, ap, drop, true}
use Rattle.columnar_syntax.specs.Names.{last_comma}
use Rattle.columnar_syntax.specs.Tokens.{tokens}
use Rattle.columnar_syntax.specs.declared.text.Refused.{Refused}
use Rattle.columnar_syntax.proofs.text.after_fields.Goals as goal

comma_stands : (r : Result ℕ Refused) (text : List ℕ) (at next : ℕ) → tokens (drop at text) ≡ (44 ∷ []) ∷ tokens (drop next text) → IfOk r (λ n. tokens (drop next text) ≡ (125 ∷ []) ∷ tokens (drop n text)) → IfOk r (λ n. (c : Bool) × (tokens (drop at text) ≡ last_comma c ++ ((125 ∷ []) ∷ tokens (drop n text))))
comma_stands (Ok n) text at next e f = (true, e ∙ ap (λ z. (44 ∷ []) ∷ z) f)
comma_stands (Err why) text at next e f = tt

pub returns-in-Some-clause-stands : goal.returns-in-Some-clause-stands
returns-in-Some-clause-stands c = comma_stands c.after.result c.args.text.now c.args.at c.in-Some.next c.in-Some.ensures.some c.after.ensures.stands
