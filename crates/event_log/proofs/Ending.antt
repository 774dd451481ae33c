-- The outcome of a command whose answer is written to an output.
use Rattle.std.proofs.Common.{ℕ, List, ◌≡◌, ◌≢◌, Option, Some, Result, Ok, Err, string_bytes, inl, inr, sym, subst}
use Rattle.columnar_core.specs.Format.{Format}
use Rattle.event_log.specs.Uses.{Use, appends, sums, repairs, misuses, AnswersUse, Answered, Given, Ends}
use Rattle.event_log.specs.declared.told.Answer.{Answer}
use Rattle.event_log.specs.declared.told.Failure.{Failure}
use Rattle.event_log.specs.declared.told.Outcome.TheVariants.{Done, Failed}

-- an answer belongs to a command
asked_for : (f : Format) (sent : List ℕ → Type 0) (asked : Use) (status : ℕ) (text : List ℕ) → AnswersUse f sent asked status text → asked ≢ misuses
asked_for f sent appends status text a e = cc
asked_for f sent sums status text a e = cc
asked_for f sent repairs status text a e = cc
asked_for f sent misuses status text a e = a

pub ends_done : (f : Format) (sent : List ℕ → Type 0) (asked : Use) (answer : Result Answer Failure) (status : ℕ) (before after : Option (List ℕ))
    → Answered f sent asked (Some answer) → Given answer (Ok status) before after → Ends f sent asked (Done status) before after
ends_done f sent asked (Ok a) status before after h g = (string_bytes a.text, (subst (λ n. AnswersUse f sent asked n (string_bytes a.text)) (sym g.0) h, g.1))
ends_done f sent asked (Err e) status before after h g = absurd g

pub ends_failed : (f : Format) (sent : List ℕ → Type 0) (asked : Use) (answer : Result Answer Failure) (failure : Failure) (before after : Option (List ℕ))
    → Answered f sent asked (Some answer) → Given answer (Err failure) before after → Ends f sent asked (Failed failure) before after
ends_failed f sent asked (Ok a) failure before after h g = (asked_for f sent asked a.status (string_bytes a.text) h, inr (a.status, (string_bytes a.text, (h, g))))
ends_failed f sent asked (Err e) failure before after h g = (h, inl g)
