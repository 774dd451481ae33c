-- The list machine: the meaning of commands, and what replies state about them.
use Rattle.std.specs.Prelude.{ℕ, Bool, true, false, List, [], ◌∷◌, ◌++◌, take, drop, ◌-◌, ◌*◌, ◌^◌, ◌<◌, ◌≤◌, ◌≡◌, ◌≢◌, length, ◌&&◌, nat_le}
use Rattle.columnar_core.specs.Row.{Row}
use Rattle.columnar_core.specs.Format.{Format, Content, IsSound, all_alike, slices_of}
use Rattle.columnar_core.specs.Change.{Took, Copied, WasCut, Stayed, IsTrueOf}
use Rattle.columnar_core.specs.Frame.{framed_slices}
use Rattle.columnar_core.specs.Words.{words, store_bytes}
use Rattle.columnar_core.specs.declared.fault.GrowError.{GrowError}
use Rattle.columnar_core.specs.declared.fault.GrowError.TheVariants.{Memory}
use Rattle.columnar_core.specs.declared.fault.EncodeError.{EncodeError}
use Rattle.columnar_core.specs.declared.fault.EncodeError.TheVariants.{Memory as NoMemory, Length as TooLong}
use Rattle.columnar_bytes.specs.declared.stash.commands.Command.{Command}
use Rattle.columnar_bytes.specs.declared.stash.commands.Command.TheVariants.{Push, Clear, Copy, Truncate, MakeTyped, MakeAligned, Reopen}
use Rattle.columnar_bytes.specs.declared.stash.commands.Refusal.TheVariants.{Grow, Range, Encode}
use Rattle.columnar_bytes.specs.declared.stash.commands.Reply.{Reply}
use Rattle.columnar_bytes.specs.declared.stash.commands.Reply.TheVariants.{Done, Refused}
use Rattle.columnar_bytes.specs.Stashes.{Variant, typed, bytes, aligned}

-- a pushed item is valid
abbrev pub IsValid : {T : Type 0} → (T → Type 0) → Command T → Type 0
IsValid valid (Push t) = valid t
IsValid valid Clear = Unit {0}
IsValid valid (Copy from to) = Unit {0}
IsValid valid (Truncate n) = Unit {0}
IsValid valid MakeTyped = Unit {0}
IsValid valid MakeAligned = Unit {0}
IsValid valid Reopen = Unit {0}

-- a command, with the row of a pushed item
pub data Order : Type 0 where
  push : Row → Order
  clear : Order
  copy : ℕ → ℕ → Order
  truncate : ℕ → Order
  make_typed : Order
  make_aligned : Order
  reopen : Order

abbrev pub order_of : {T : Type 0} → (T → Row) → Command T → Order
order_of meaning (Push t) = push (meaning t)
order_of meaning Clear = clear
order_of meaning (Copy from to) = copy from to
order_of meaning (Truncate n) = truncate n
order_of meaning MakeTyped = make_typed
order_of meaning MakeAligned = make_aligned
order_of meaning Reopen = reopen

-- A copy is in range if its start is at most its end, and its end is within the source; a cut if there are at least as
-- many rows.
abbrev pub in_range : ℕ → ℕ → Order → Bool
in_range source rows (copy from to) = nat_le from to && nat_le to source
in_range source rows (truncate n) = nat_le n rows
in_range source rows _ = true

-- the rows that an order appends
abbrev pub added : List Row → Order → List Row
added source (push r) = r ∷ []
added source (copy from to) = take (to - from) (drop from source)
added source _ = []

-- the rows after an order
abbrev pub act : List Row → List Row → Order → List Row
act source rows (push r) = rows ++ r ∷ []
act source rows clear = []
act source rows (copy from to) = rows ++ take (to - from) (drop from source)
act source rows (truncate n) = take n rows
act source rows _ = rows

-- the variant after an order
abbrev pub variant_after : Order → Variant
variant_after make_aligned = aligned
variant_after reopen = bytes
variant_after _ = typed

-- Whether the order can be refused as growth. A clear cannot; at a column, neither can a cut nor a conversion to a
-- column.
abbrev pub can_refuse : Variant → Order → Bool
can_refuse v (push r) = true
can_refuse v clear = false
can_refuse v (copy from to) = true
can_refuse typed (truncate n) = false
can_refuse bytes (truncate n) = true
can_refuse aligned (truncate n) = true
can_refuse typed make_typed = false
can_refuse bytes make_typed = true
can_refuse aligned make_typed = true
can_refuse v make_aligned = false
can_refuse v reopen = false

-- the order appends rows
abbrev pub adds : Order → Bool
adds (push r) = true
adds (copy from to) = true
adds _ = false

-- the order makes an encoding; aligned bytes already are one
abbrev pub encodes : Variant → Order → Bool
encodes v reopen = true
encodes typed make_aligned = true
encodes bytes make_aligned = true
encodes aligned make_aligned = false
encodes v _ = false

-- the variant of a stash, its content, and the bytes that it writes
pub record State : Type 0 where
  pub variant : Variant
  pub content : Content
  pub written : List ℕ

-- The stash holds a sound content. The content of bytes is that of their slices; a column and aligned bytes write the
-- encoding.
pub record IsHeld (f : Format) (s : State) : Type 0 where
  pub sound : IsSound f s.content
  pub framed : s.variant ≢ typed → s.content ≡ f.build (framed_slices s.written)
  pub encoded : s.variant ≢ bytes → s.written ≡ store_bytes (slices_of s.content)

-- how an order changes a content
abbrev pub IsChange : Format → List Row → Content → Content → Order → Type 0
IsChange f source old new (push r) = Took f old new (r ∷ [])
IsChange f source old new clear = f.rows new ≡ []
IsChange f source old new (copy from to) = Copied f old new from (take (to - from) (drop from source))
IsChange f source old new (truncate n) = WasCut f old new n
IsChange f source old new _ = new ≡ old

-- 64 bits can count the bytes of the content's encoding.
abbrev pub CanBeCounted : Content → Type 0
CanBeCounted c = 8 * length (words (slices_of c)) < 2 ^ 64

-- The order was in range and carried out. The rows represent those of the machine, the content changed by the order,
-- the variant is the order's, and the bytes to write are the encoding.
pub record IsStep (f : Format) (source : List Row) (old new : State) (order : Order) : Type 0 where
  pub within : in_range (length source) (length (f.rows old.content)) order ≡ true
  pub alike : all_alike f.alike (f.rows new.content) (act source (f.rows old.content) order) ≡ true
  pub change : IsChange f source old.content new.content order
  pub variant : new.variant ≡ variant_after order
  pub written : new.written ≡ store_bytes (slices_of new.content)
  pub counted : encodes old.variant order ≡ true → CanBeCounted old.content

-- The rows, the lengths of all parts and the variant stay; bytes are unchanged.
pub record IsUnchanged (f : Format) (old new : State) : Type 0 where
  pub stayed : Stayed f old.content new.content
  pub variant : new.variant ≡ old.variant
  pub bytes : old.variant ≢ typed → new ≡ old

-- The order was in range, it grows or loads a column, and the error has a true cause. An order that appends no rows is
-- refused only with Memory, and nothing changed.
pub record IsRefusedGrowth (f : Format) (source : List Row) (old new : State) (order : Order) (error : GrowError) : Type 0 where
  pub within : in_range (length source) (length (f.rows old.content)) order ≡ true
  pub unchanged : IsUnchanged f old new
  pub can : can_refuse old.variant order ≡ true
  pub cause : IsTrueOf error f old.content (added source order)
  pub loads : adds order ≡ false → (error ≡ Memory) × (new ≡ old)

-- Length means that the encoding exceeds 2^64 - 1 bytes, Memory that 64 bits can count it.
abbrev pub IsCauseOf : EncodeError → Content → Type 0
IsCauseOf NoMemory c = CanBeCounted c
IsCauseOf TooLong c = 2 ^ 64 ≤ 8 * length (words (slices_of c))

-- The order makes an encoding, the error has a true cause, and nothing changed.
pub record IsRefusedEncoding (f : Format) (old new : State) (order : Order) (error : EncodeError) : Type 0 where
  pub same : new ≡ old
  pub can : encodes old.variant order ≡ true
  pub cause : IsCauseOf error old.content

-- The order was out of range, and nothing changed.
pub record IsOutOfRange (f : Format) (source : List Row) (old new : State) (order : Order) : Type 0 where
  pub without : in_range (length source) (length (f.rows old.content)) order ≡ false
  pub same : new ≡ old

-- what a reply states about an order
abbrev pub Answers : Format → List Row → State → State → Order → Reply → Type 0
Answers f source old new order Done = IsStep f source old new order
Answers f source old new order (Refused (Grow e)) = IsRefusedGrowth f source old new order e
Answers f source old new order (Refused Range) = IsOutOfRange f source old new order
Answers f source old new order (Refused (Encode e)) = IsRefusedEncoding f old new order e

-- One reply for each order, in order, each true of the sound column at that time.
abbrev pub Ran : Format → List Row → State → List Order → List Reply → State → Type 0
Ran f source old [] [] new = new ≡ old
Ran f source old (o ∷ os) (r ∷ rs) new = (mid : State) × (IsHeld f mid × Answers f source old mid o r × Ran f source mid os rs new)
Ran f source old [] (r ∷ rs) new = ⊥
Ran f source old (o ∷ os) [] new = ⊥
