-- The answer to an append, from the results of its parts.
use Rattle.std.proofs.Common.{ℕ, List, [], ◌≡◌, Option, Some, None, string_bytes, inl, inr, refl}
use Rattle.columnar_core.specs.Format.{Format}
use Rattle.columnar_bytes.specs.Streams.{IsOneStore}
use Rattle.event_log.specs.Batches.{IsBatchOf}
use Rattle.event_log.specs.Lines.{IsRefused}
use Rattle.event_log.specs.Told.{refused_line}
use Rattle.event_log.specs.Uses.{AnswersBatch, AnswersUse, IsWhole, MayAppend, appends}
use Rattle.event_log.specs.declared.lines.Reason.{Reason}
use Rattle.event_log.specs.declared.told.Answer.{Answer}
use Rattle.event_log.proofs.Surveying.{found_behind}

-- an objection to the batch is the answer
pub batch_out : (f : Format) (sent : List ℕ → Type 0) (old batch : List ℕ) (o : Option Answer) (a : Answer) → o ≡ Some a → MayAppend f old o → (x : List ℕ) × AnswersBatch f sent x batch a.status (string_bytes a.text)
batch_out f sent old batch o a e h = (old, inr (rw e at h))

-- without an objection the batch is the last store
pub batch_in : (f : Format) (sent : List ℕ → Type 0) (old batch text : List ℕ) (o : Option Answer) → o ≡ None → MayAppend f old o → IsOneStore batch → sent batch → text ≡ [] → (x : List ℕ) × AnswersBatch f sent x batch 0 text
batch_in f sent old batch text o e h one received none =
    let whole : IsWhole f old = rw e at h in
    (old, inl ((received, (whole, found_behind old batch whole.1 one)), (refl, none)))

-- the lines form a batch, whose bytes were passed on with this result
pub append_done : (f : Format) (sent : List ℕ → Type 0) (input batch bytes : List ℕ) → bytes ≡ batch → IsBatchOf f input batch → (a : Answer) → ((old : List ℕ) × AnswersBatch f sent old bytes a.status (string_bytes a.text)) → AnswersUse f sent appends a.status (string_bytes a.text)
append_done f sent input batch bytes same h a t = (input, (t.0, inl (bytes, (rw same h, t.1))))

-- a line is not an event
pub append_refused : (f : Format) (sent : List ℕ → Type 0) (input : List ℕ) (count : ℕ) (reason : Reason) → IsRefused input count → (a : Answer) → (a.status ≡ 1) × (string_bytes a.text ≡ refused_line count reason) → AnswersUse f sent appends a.status (string_bytes a.text)
append_refused f sent input count reason h a t = (input, ([], inr (count, (reason, (h, t)))))
