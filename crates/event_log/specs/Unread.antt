-- Why lines do not form a batch.
use Rattle.std.specs.Prelude.{ℕ, Result, Ok, Err}
use Rattle.event_log.specs.declared.reading.Unread.{Unread}
use Rattle.event_log.specs.declared.reading.Unread.TheVariants.{Line, Failed}

-- if a line is the reason, P holds for its number
abbrev pub IfNumber : Unread → (ℕ → Type 0) → Type 0
IfNumber (Line count reason) P = P count
IfNumber (Failed failure) P = Unit {0}

-- the same for the result of reading a batch
abbrev pub IfLine : {T : Type 0} → Result T Unread → (ℕ → Type 0) → Type 0
IfLine (Ok x) P = Unit {0}
IfLine (Err e) P = IfNumber e P
