-- Written bytes are accepted.
use Rattle.std.proofs.Common.{◌≡◌, ◌≢◌, ℕ, ◌*◌, ◌^◌, ◌<◌, List, [], length, append-nil, refl, sym, ap, ◌∙◌, arith}
use Rattle.std.specs.Prelude.{Option, Result, OnOk, IfErr}
use Rattle.std.proofs.lemmas.Result.{on_ok_weaker, IfErr-weaker}
use Rattle.columnar_core.specs.Format.{Format, Content, IsSound, IsStorable, slices_of}
use Rattle.columnar_core.specs.Frame.{framed_slices}
use Rattle.columnar_core.specs.Words.{words, store_bytes}
use Rattle.columnar_core.specs.WordLaws.{length-store_bytes}
use Rattle.columnar_core.specs.ByteLaws.{slices-store_bytes, store-store_bytes}
use Rattle.columnar_core.specs.declared.fault.WriteFault.{WriteFault}
use Rattle.columnar_core.specs.declared.fault.WriteFault.TheVariants.{Length, Writer}
use Rattle.columnar_bytes.specs.Accepted.{Accepts, Accepted}
use Rattle.columnar_bytes.specs.AcceptedLaws.{accepts_from}
use Rattle.columnar_bytes.specs.Written.{IsLeftBy, IsLeftOf}
use Rattle.columnar_bytes.specs.FramedContentLaws.{framed_slices_are}
use Rattle.columnar_bytes.specs.Stashes.{stash_content, checked_bytes, written_bytes, variant_of, typed, bytes, aligned, HoldsBytes}
use Rattle.columnar_bytes.specs.States.{state_of}
use Rattle.columnar_bytes.specs.Machine.{IsHeld}
use Rattle.columnar_core.specs.declared.traits.Column.{Ghosts as ColumnOf}
use Rattle.columnar_bytes.specs.declared.stash.ByteStore.{Ghosts as BytesOf}
use Rattle.columnar_bytes.specs.declared.stash.Stash.{Stash}
use Rattle.columnar_bytes.specs.declared.stash.Stash.TheVariants.{Typed, Bytes, Align}

-- the slices of a sound content build it again
pub built_again : (f : Format) (c : Content) → IsStorable f → IsSound f c → f.build (slices_of c) ≡ c
built_again f c law s = rw (append-nil (slices_of c)) at (law.rebuilt c [] s)

-- the bytes of the words are accepted
pub written_accepted : (f : Format) (c : Content) → IsStorable f → length (slices_of c) ≡ f.count → 8 * length (words (slices_of c)) < 2 ^ 64 → IsSound f c → Accepts f (store_bytes (slices_of c))
written_accepted f c law n l s =
    let e = slices-store_bytes (slices_of c) l in
    accepts_from f (store_bytes (slices_of c)) (record { store = store-store_bytes (slices_of c) l; count = rw e n; sound = rw (e, built_again f c law s) s })

-- and they have the same content
pub written_again : (f : Format) (c : Content) → IsStorable f → 8 * length (words (slices_of c)) < 2 ^ 64 → IsSound f c → f.build (framed_slices (store_bytes (slices_of c))) ≡ c
written_again f c law l s = rw (slices-store_bytes (slices_of c) l) (built_again f c law s)

pub left_by : {E : Type 0} (old new : Option (List ℕ)) (slices : List (List ℕ)) (fault : WriteFault E) → IsLeftBy old new slices fault → IsLeftOf old new (store_bytes slices) fault
left_by old new slices Length h = (rw (length-store_bytes slices) h.0, h.1)
left_by old new slices (Writer e) h = (rw (length-store_bytes slices) h.0, h.1)

-- the same for the result of a write
pub counted_on_ok : {T E : Type 0} (r : Result T E) (slices : List (List ℕ)) → OnOk r (8 * length (words slices) < 2 ^ 64) → OnOk r (length (store_bytes slices) < 2 ^ 64)
counted_on_ok r slices h = on_ok_weaker {P = 8 * length (words slices) < 2 ^ 64} {Q = length (store_bytes slices) < 2 ^ 64} r (λ l. rw (length-store_bytes slices) l) h

pub accepted_on_ok : {T E : Type 0} (r : Result T E) (f : Format) (c : Content) → IsStorable f → length (slices_of c) ≡ f.count → OnOk r (8 * length (words (slices_of c)) < 2 ^ 64) → OnOk r (IsSound f c → Accepts f (store_bytes (slices_of c)))
accepted_on_ok r f c law n h = on_ok_weaker {P = 8 * length (words (slices_of c)) < 2 ^ 64} {Q = IsSound f c → Accepts f (store_bytes (slices_of c))} r (λ l s. written_accepted f c law n l s) h

pub again_on_ok : {T E : Type 0} (r : Result T E) (f : Format) (c : Content) → IsStorable f → OnOk r (8 * length (words (slices_of c)) < 2 ^ 64) → OnOk r (IsSound f c → f.build (framed_slices (store_bytes (slices_of c))) ≡ c)
again_on_ok r f c law h = on_ok_weaker {P = 8 * length (words (slices_of c)) < 2 ^ 64} {Q = IsSound f c → f.build (framed_slices (store_bytes (slices_of c))) ≡ c} r (λ l s. written_again f c law l s) h

pub left_if_err : {T E : Type 0} (r : Result T (WriteFault E)) (old new : Option (List ℕ)) (slices : List (List ℕ)) → IfErr r (IsLeftBy old new slices) → IfErr r (IsLeftOf old new (store_bytes slices))
left_if_err r old new slices h = IfErr-weaker r (IsLeftBy old new slices) (IsLeftOf old new (store_bytes slices)) (λ fault k. left_by old new slices fault k) h

-- a stash has as many slices as the type
pub stash_counted : {C B : Type 0} {column : ColumnOf C} {store : BytesOf B} → IsStorable column.format → ((c : C) → length (slices_of (column.content c)) ≡ column.format.count) → (s : Stash C B column store) → length (slices_of (stash_content s)) ≡ column.format.count
stash_counted {C} {B} {column} {store} law counted (Typed c) = counted c
stash_counted {C} {B} {column} {store} law counted (Bytes k) = rw (framed_slices_are column.format (framed_slices (checked_bytes k)) law k.accepted.count) k.accepted.count
stash_counted {C} {B} {column} {store} law counted (Align k) = rw (framed_slices_are column.format (framed_slices (checked_bytes k)) law k.accepted.count) k.accepted.count

-- the bytes of the words, if they are these
pub encoding_accepted : (f : Format) (c : Content) (bs : List ℕ) → IsStorable f → length (slices_of c) ≡ f.count → 8 * length (words (slices_of c)) < 2 ^ 64 → IsSound f c → bs ≡ store_bytes (slices_of c) → Accepted f bs
encoding_accepted f c bs law n l s e =
    let d = slices-store_bytes (slices_of c) l in
    rw e (record { store = store-store_bytes (slices_of c) l; count = rw d n; sound = rw (d, built_again f c law s) s })

pub encoding_again : (f : Format) (c : Content) (bs : List ℕ) → IsStorable f → 8 * length (words (slices_of c)) < 2 ^ 64 → IsSound f c → bs ≡ store_bytes (slices_of c) → f.build (framed_slices bs) ≡ c
encoding_again f c bs law l s e = rw e (written_again f c law l s)

-- a column and aligned bytes write the encoding
pub stash_encoded : {C B : Type 0} {column : ColumnOf C} {store : BytesOf B} → IsStorable column.format → (s : Stash C B column store) → variant_of s ≢ bytes → written_bytes s ≡ store_bytes (slices_of (stash_content s))
stash_encoded {C} {B} {column} {store} law (Typed c) n = refl
stash_encoded {C} {B} {column} {store} law (Bytes k) n = absurd (n refl)
stash_encoded {C} {B} {column} {store} law (Align k) n = rw (framed_slices_are column.format (framed_slices (checked_bytes k)) law k.accepted.count) k.store.tight

-- 64 bits can count aligned bytes
pub stash_counts : {C B : Type 0} {column : ColumnOf C} {store : BytesOf B} → IsStorable column.format → (s : Stash C B column store) → variant_of s ≡ aligned → 8 * length (words (slices_of (stash_content s))) < 2 ^ 64
stash_counts {C} {B} {column} {store} law (Typed c) e = cc
stash_counts {C} {B} {column} {store} law (Bytes k) e = cc
stash_counts {C} {B} {column} {store} law (Align k) e =
    let ss = framed_slices (checked_bytes k) in
    let l : length (checked_bytes k) ≡ 8 * length (words ss) = ap length k.store.tight ∙ length-store_bytes ss in
    rw (framed_slices_are column.format ss law k.accepted.count) (omega (arith, l, k.store.counted))

-- a sound stash holds its content as its variant says
pub stash_held : {C B : Type 0} {column : ColumnOf C} {store : BytesOf B} → IsStorable column.format → (s : Stash C B column store) → IsSound column.format (stash_content s) → IsHeld column.format (state_of s)
stash_held {C} {B} {column} {store} law (Typed c) h = record { sound = h; framed = λ n. absurd (n refl); encoded = stash_encoded {column = column} {store = store} law (Typed c) }
stash_held {C} {B} {column} {store} law (Bytes k) h = record { sound = h; framed = λ _. refl; encoded = stash_encoded {column = column} {store = store} law (Bytes k) }
stash_held {C} {B} {column} {store} law (Align k) h = record { sound = h; framed = λ _. refl; encoded = stash_encoded {column = column} {store = store} law (Align k) }

-- the bytes of the words are those of the slices that they frame, and 64 bits can count them
pub encoding_tight : (slices : List (List ℕ)) (bs : List ℕ) → 8 * length (words slices) < 2 ^ 64 → bs ≡ store_bytes slices → bs ≡ store_bytes (framed_slices bs)
encoding_tight slices bs l e = e ∙ ap store_bytes (sym (ap framed_slices e ∙ slices-store_bytes slices l))

pub encoding_short : (slices : List (List ℕ)) (bs : List ℕ) → 8 * length (words slices) < 2 ^ 64 → bs ≡ store_bytes slices → length bs < 2 ^ 64
encoding_short slices bs l e = rw (e, length-store_bytes slices) l

-- the bytes of a stash are those that it writes
pub holds_written : {C B : Type 0} {column : ColumnOf C} {store : BytesOf B} (s : Stash C B column store) (bs : List ℕ) → HoldsBytes s bs → written_bytes s ≡ bs
holds_written (Typed c) bs h = absurd h
holds_written (Bytes k) bs h = h
holds_written (Align k) bs h = h

-- a column, and aligned bytes, write the encoding
pub typed_encoded : {C B : Type 0} {column : ColumnOf C} {store : BytesOf B} → IsStorable column.format → (s : Stash C B column store) → variant_of s ≡ typed → written_bytes s ≡ store_bytes (slices_of (stash_content s))
typed_encoded law s e = stash_encoded law s (λ h. cc)

pub aligned_encoded : {C B : Type 0} {column : ColumnOf C} {store : BytesOf B} → IsStorable column.format → (s : Stash C B column store) → variant_of s ≡ aligned → written_bytes s ≡ store_bytes (slices_of (stash_content s))
aligned_encoded law s e = stash_encoded law s (λ h. cc)
