use Rattle.std.proofs.Common.{◌≡◌, ℕ, ◌≤◌, ◌-◌, List, [], ◌∷◌, length, take, drop, refl, sym, ◌∙◌}
use Rattle.std.specs.Prelude.{Result, Ok, Err, OnOk, IfErr}
use Rattle.columnar_base.specs.Row.{Row}
use Rattle.columnar_base.specs.Format.{Format, Content, slice, both, part, plain, IsSound, IsLawful}
use Rattle.columnar_base.specs.Change.{Took, Copied, Refused, WasCut}
use Rattle.columnar_base.specs.ChangeLaws.{undone, unchanged}
use Rattle.columnar_base.specs.declared.fault.GrowError.{GrowError}
use Rattle.columnar_base.specs.Tuples.{tuples}
use Rattle.columnar_base.specs.TupleLaws.{length-tuples, length-piece, tuples-drop, tuples-take, pair_parts, pair_copied, pair_refused_left, pair_refused_right}
use Rattle.columnar_base.specs.LongTuples.{nested, tuple_format, PartOf, Parts}
use Rattle.columnar_base.specs.LongTupleLaws.{tuple_same, tuple_parts, under_took, under_copied, under_refused, up_to}
use Rattle.columnar_base.specs.Room.{WasFull, Leaves, Frees, AddsRoom, pair_room}
use Rattle.columnar_base.specs.RoomLaws.{pair_leaves, pair_full_left, pair_full_right}
use Rattle.columnar_base.specs.Entries.{Entry, pushed, piece, entry_pieces, HasPiece, HavePieces, Level, joined_entry, Entered}

-- one item, pushed

-- A pushed item is not the front of a view.
pub entered_pushed : {f : Format} {old new : Content} {r : Row} → Took f old new (r ∷ []) → Entered f old new (pushed r)
entered_pushed t = record { took = t; front = λ n z. cc }

pub pushed_on_ok : {T : Type 0} (f : Format) (old new : Content) (r : Row) (o : Result T GrowError) → OnOk o (Took f old new (r ∷ [])) → OnOk o (Entered f old new (pushed r))
pushed_on_ok f old new r (Ok u) h = entered_pushed h
pushed_on_ok f old new r (Err e) h = tt

-- one part, then the others

length-joined : (p : Entry) (qs : List Entry) → Level p qs → length (joined_entry p qs).rows ≡ length p.rows
length-joined p [] h = refl
length-joined p (q ∷ qs) h = length-tuples p.rows (joined_entry q qs).rows (h.0 ∙ sym (length-joined q qs h.2))

-- the first part receives as many rows as the others
level_rows : (p q : Entry) (qs : List Entry) → Level p (q ∷ qs) → length p.rows ≡ length (joined_entry q qs).rows
level_rows p q qs h = h.0 ∙ sym (length-joined q qs h.2)

joined_start : (q : Entry) (qs : List Entry) → (joined_entry q qs).start ≡ q.start
joined_start q [] = refl
joined_start q (r ∷ qs) = refl

pub first_sound : (a b : Format) (fs : List Format) {x y : Content} → IsSound (nested a (b ∷ fs)) (both x y) → IsSound a x
first_sound a b fs s = (pair_parts a (nested b fs) s).left

pub others_sound : (a b : Format) (fs : List Format) {x y : Content} → IsSound (nested a (b ∷ fs)) (both x y) → IsSound (nested b fs) y
others_sound a b fs s = (pair_parts a (nested b fs) s).right

pub next_entered : (a b : Format) (fs : List Format) {x y v w : Content} (p q : Entry) (qs : List Entry) → IsSound (nested a (b ∷ fs)) (both x y) → Level p (q ∷ qs) → Entered a x v p → Entered (nested b fs) y w (joined_entry q qs) → Entered (nested a (b ∷ fs)) (both x y) (both v w) (joined_entry p (q ∷ qs))
next_entered a b fs {x} {y} {v} {w} p q qs s l g h =
    let e : (joined_entry q qs).start ≡ p.start = joined_start q qs ∙ sym l.1 in
    pair_copied a (nested b fs) p.start s (level_rows p q qs l) g (rw e at h)

-- The first part refused, and the others are unchanged.
pub first_refused : (a b : Format) (fs : List Format) {x y v : Content} (p q : Entry) (qs : List Entry) {error : GrowError} → IsSound (nested a (b ∷ fs)) (both x y) → Level p (q ∷ qs) → Refused a x v p.rows error → Refused (nested a (b ∷ fs)) (both x y) (both v y) (joined_entry p (q ∷ qs)).rows error
first_refused a b fs p q qs s l g = pair_refused_left a (nested b fs) p.rows (joined_entry q qs).rows s (level_rows p q qs l) g (unchanged (others_sound a b fs s))

-- The others refused, and the first part was cut back.
pub others_refused : (a b : Format) (fs : List Format) {x y m v w : Content} (p q : Entry) (qs : List Entry) {error : GrowError} → IsLawful a → IsSound (nested a (b ∷ fs)) (both x y) → Level p (q ∷ qs) → Entered a x m p → WasCut a m v (length (a.rows x)) → Refused (nested b fs) y w (joined_entry q qs).rows error → Refused (nested a (b ∷ fs)) (both x y) (both v w) (joined_entry p (q ∷ qs)).rows error
others_refused a b fs p q qs law s l g k h = pair_refused_right a (nested b fs) p.rows (joined_entry q qs).rows s (level_rows p q qs l) (undone law (first_sound a b fs s) g.took.grew k) h

-- the same of room
pub next_leaves : {a b a' b' : List Row → Type 0} (p q : Entry) (qs : List Entry) → Level p (q ∷ qs) → Leaves a a' p.rows → Leaves b b' (joined_entry q qs).rows → Leaves (pair_room a b) (pair_room a' b') (joined_entry p (q ∷ qs)).rows
next_leaves p q qs l g h = pair_leaves p.rows (joined_entry q qs).rows (level_rows p q qs l) g h

pub first_full : {a : List Row → Type 0} (b : List Row → Type 0) {error : GrowError} (p q : Entry) (qs : List Entry) → Level p (q ∷ qs) → WasFull a p.rows error → WasFull (pair_room a b) (joined_entry p (q ∷ qs)).rows error
first_full b p q qs l g = pair_full_left b p.rows (joined_entry q qs).rows (level_rows p q qs l) g

pub others_full : (a : List Row → Type 0) {b : List Row → Type 0} {error : GrowError} (p q : Entry) (qs : List Entry) → Level p (q ∷ qs) → WasFull b (joined_entry q qs).rows error → WasFull (pair_room a b) (joined_entry p (q ∷ qs)).rows error
others_full a p q qs l g = pair_full_right a p.rows (joined_entry q qs).rows (level_rows p q qs l) g

-- the result of a push of all parts, stated for the tuple
pub took_on_ok : {T : Type 0} (a b : Format) (fs : List Format) (x y : Content) (p : Entry) (r : Result T GrowError) → OnOk r (Entered (nested a (b ∷ fs)) x y p) → OnOk r (Took (tuple_format a b fs) x y p.rows)
took_on_ok a b fs x y p (Ok u) h = under_took (tuple_same a b fs) h.took
took_on_ok a b fs x y p (Err e) h = tt

-- rows copied from the views of the parts

has_piece : {f : Format} {c : Content} {n start stop : ℕ} → PartOf f c n → start ≤ stop → stop ≤ n → HasPiece f c start stop
has_piece p o l = record { sound = p.sound; ordered = o; in_range = up_to p l }

have_pieces : (a : Format) (fs : List Format) (c : Content) (n start stop : ℕ) → Parts a fs c n → start ≤ stop → stop ≤ n → HavePieces a fs c start stop
have_pieces a [] c n start stop p o l = has_piece p o l
have_pieces a (b ∷ fs) (both x y) n start stop p o l = (has_piece p.0 o l, have_pieces b fs y n start stop p.1 o l)
have_pieces a (b ∷ fs) (slice bs) n start stop p o l = absurd p
have_pieces a (b ∷ fs) (part k u y) n start stop p o l = absurd p
have_pieces a (b ∷ fs) (plain rs) n start stop p o l = absurd p

-- a range of a view of a tuple is a range of each part
pub tuple_pieces : (a b : Format) (fs : List Format) {x y : Content} (start stop : ℕ) → IsSound (tuple_format a b fs) (both x y) → start ≤ stop → stop ≤ length (tuples (a.rows x) ((nested b fs).rows y)) → HavePieces a (b ∷ fs) (both x y) start stop
tuple_pieces a b fs {x} {y} start stop s o l = have_pieces a (b ∷ fs) (both x y) (length (tuples (a.rows x) ((nested b fs).rows y))) start stop (tuple_parts a b fs s) o l

pieces_level : (a : Format) (x : Content) (b : Format) (fs : List Format) (c : Content) (n start stop : ℕ) → PartOf a x n → Parts b fs c n → Level (piece a x start stop) (entry_pieces b fs c start stop)
pieces_level a x b [] c n start stop g h = (length-piece (a.rows x) (b.rows c) start (stop - start) (g.level ∙ sym h.level), refl, tt)
pieces_level a x b (d ∷ fs) (both y z) n start stop g h = (length-piece (a.rows x) (b.rows y) start (stop - start) (g.level ∙ sym h.0.level), refl, pieces_level b y d fs z n start stop h.0 h.1)
pieces_level a x b (d ∷ fs) (slice bs) n start stop g h = absurd h
pieces_level a x b (d ∷ fs) (part l u y) n start stop g h = absurd h
pieces_level a x b (d ∷ fs) (plain rs) n start stop g h = absurd h

pieces_joined : (a : Format) (x : Content) (b : Format) (fs : List Format) (c : Content) (n start stop : ℕ) → Parts b fs c n → (joined_entry (piece a x start stop) (entry_pieces b fs c start stop)).rows ≡ take (stop - start) (drop start (tuples (a.rows x) ((nested b fs).rows c)))
pieces_joined a x b [] c n start stop h = rw (tuples-drop, tuples-take) refl
pieces_joined a x b (d ∷ fs) (both y z) n start stop h = rw (tuples-drop start (a.rows x), tuples-take (stop - start) (drop start (a.rows x)), pieces_joined b y d fs z n start stop h.1) refl
pieces_joined a x b (d ∷ fs) (slice bs) n start stop h = absurd h
pieces_joined a x b (d ∷ fs) (part l u y) n start stop h = absurd h
pieces_joined a x b (d ∷ fs) (plain rs) n start stop h = absurd h

-- the views of the parts of a well-formed view have equally many rows
pub views_level : (a b : Format) (fs : List Format) {x y : Content} (start stop : ℕ) → IsSound (tuple_format a b fs) (both x y) → Level (piece a x start stop) (entry_pieces b fs y start stop)
views_level a b fs {x} {y} start stop s =
    let p = tuple_parts a b fs s in
    pieces_level a x b fs y (length (tuples (a.rows x) ((nested b fs).rows y))) start stop p.0 p.1

views_rows : (a b : Format) (fs : List Format) {x y : Content} (start stop : ℕ) → IsSound (tuple_format a b fs) (both x y) → (joined_entry (piece a x start stop) (entry_pieces b fs y start stop)).rows ≡ take (stop - start) (drop start (tuples (a.rows x) ((nested b fs).rows y)))
views_rows a b fs {x} {y} start stop s = pieces_joined a x b fs y (length (tuples (a.rows x) ((nested b fs).rows y))) start stop (tuple_parts a b fs s).1

-- the result of a copy of all parts, stated for the tuple
pub copied_on_ok : {T : Type 0} (a b : Format) (fs : List Format) (c d : Content) (a' b' : Format) (fs' : List Format) {v w : Content} (start stop : ℕ) → IsSound (tuple_format a' b' fs') (both v w) → (r : Result T GrowError) → OnOk r (Entered (nested a (b ∷ fs)) c d (joined_entry (piece a' v start stop) (entry_pieces b' fs' w start stop))) → OnOk r (Copied (tuple_format a b fs) c d start (take (stop - start) (drop start (tuples (a'.rows v) ((nested b' fs').rows w)))))
copied_on_ok a b fs c d a' b' fs' {v} {w} start stop s (Ok u) h =
    rw (joined_start (piece a' v start stop) (entry_pieces b' fs' w start stop), views_rows a' b' fs' start stop s) at (under_copied (tuple_same a b fs) h)
copied_on_ok a b fs c d a' b' fs' start stop s (Err e) h = tt

pub copy_refused : {T : Type 0} (a b : Format) (fs : List Format) (c d : Content) (a' b' : Format) (fs' : List Format) {v w : Content} (start stop : ℕ) → IsSound (tuple_format a' b' fs') (both v w) → (r : Result T GrowError) → IfErr r (λ e. Refused (nested a (b ∷ fs)) c d (joined_entry (piece a' v start stop) (entry_pieces b' fs' w start stop)).rows e) → IfErr r (λ e. Refused (tuple_format a b fs) c d (take (stop - start) (drop start (tuples (a'.rows v) ((nested b' fs').rows w)))) e)
copy_refused a b fs c d a' b' fs' start stop s (Ok u) h = tt
copy_refused a b fs c d a' b' fs' start stop s (Err e) h = rw (views_rows a' b' fs' start stop s) at (under_refused (tuple_same a b fs) h)

-- room for what a copy of all parts adds, said of the tuple
pub copied_leaves : {T : Type 0} (x y : List Row → Type 0) (a' b' : Format) (fs' : List Format) {v w : Content} (start stop : ℕ) → IsSound (tuple_format a' b' fs') (both v w) → (r : Result T GrowError) → OnOk r (Leaves x y (joined_entry (piece a' v start stop) (entry_pieces b' fs' w start stop)).rows) → OnOk r (Leaves x y (take (stop - start) (drop start (tuples (a'.rows v) ((nested b' fs').rows w)))))
copied_leaves x y a' b' fs' start stop s (Ok u) h = rw (views_rows a' b' fs' start stop s) at h
copied_leaves x y a' b' fs' start stop s (Err e) h = tt

pub copied_full : {T : Type 0} (x : List Row → Type 0) (a' b' : Format) (fs' : List Format) {v w : Content} (start stop : ℕ) → IsSound (tuple_format a' b' fs') (both v w) → (r : Result T GrowError) → IfErr r (WasFull x (joined_entry (piece a' v start stop) (entry_pieces b' fs' w start stop)).rows) → IfErr r (WasFull x (take (stop - start) (drop start (tuples (a'.rows v) ((nested b' fs').rows w)))))
copied_full x a' b' fs' start stop s (Ok u) h = tt
copied_full x a' b' fs' start stop s (Err e) h = rw (views_rows a' b' fs' start stop s) at h

pub tuple_adds_room : (a b : Format) (fs : List Format) {c : Content} {x y : List Row → Type 0} → AddsRoom (nested a (b ∷ fs)) c x y → AddsRoom (tuple_format a b fs) c x y
tuple_adds_room a b fs {c} p = record { adds = λ s rs h. p.adds ((tuple_same a b fs).back c s) rs h }

pub tuple_frees : (a b : Format) (fs : List Format) {c : Content} {x y : List Row → Type 0} (n : ℕ) → Frees (nested a (b ∷ fs)) c n x y → Frees (tuple_format a b fs) c n x y
tuple_frees a b fs {c} n p = record { frees = λ s rs h. p.frees ((tuple_same a b fs).back c s) rs h }
