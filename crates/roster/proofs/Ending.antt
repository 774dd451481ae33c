-- The outcome of a command whose answer is written to an output.
use Rattle.std.proofs.Common.{ℕ, List, ◌≡◌, ◌≢◌, Option, Some, Result, Ok, Err, string_bytes, inl, inr, sym, subst}
use Rattle.columnar.specs.Format.{Format}
use Rattle.roster.specs.Uses.{Use, shows, begins, writes, checks, misuses, AnswersUse, Answered, Given, Ends}
use Rattle.roster.specs.declared.told.Answer.{Answer}
use Rattle.roster.specs.declared.told.Failure.{Failure}
use Rattle.roster.specs.declared.told.Outcome.TheVariants.{Done, Failed}

-- an answer belongs to a command
asked_for : (f old : Format) (stored : Type 0) (asked : Use) (status : ℕ) (text : List ℕ) → AnswersUse f old stored asked status text → asked ≢ misuses
asked_for f old stored shows status text a e = cc
asked_for f old stored begins status text a e = cc
asked_for f old stored writes status text a e = cc
asked_for f old stored checks status text a e = cc
asked_for f old stored misuses status text a e = a

pub ends_done : (f old : Format) (stored : Type 0) (asked : Use) (answer : Result Answer Failure) (status : ℕ) (before after : Option (List ℕ))
    → Answered f old stored asked (Some answer) → Given answer (Ok status) before after → Ends f old stored asked (Done status) before after
ends_done f old stored asked (Ok a) status before after h g = (string_bytes a.text, (subst (λ n. AnswersUse f old stored asked n (string_bytes a.text)) (sym g.0) h, g.1))
ends_done f old stored asked (Err e) status before after h g = absurd g

pub ends_failed : (f old : Format) (stored : Type 0) (asked : Use) (answer : Result Answer Failure) (failure : Failure) (before after : Option (List ℕ))
    → Answered f old stored asked (Some answer) → Given answer (Err failure) before after → Ends f old stored asked (Failed failure) before after
ends_failed f old stored asked (Ok a) failure before after h g = (asked_for f old stored asked a.status (string_bytes a.text) h, inr (a.status, (string_bytes a.text, (h, g))))
ends_failed f old stored asked (Err e) failure before after h g = (h, inl g)
