-- What an iterator gives that determines its items, and what a push of these items leaves.
use Rattle.std.proofs.Common.{◌≡◌, ℕ, suc, ◌+◌, ◌-◌, List, [], ◌∷◌, ◌++◌, ◌⊎◌, inl, inr, length, map, refl, ◌∙◌, ap, arith, append-nil}
use Rattle.std.proofs.lemmas.List.{length-map}
use Rattle.std.proofs.lemmas.List.Elements.{All-head, All-tail, All-cons}
use Rattle.std.specs.Prelude.{⊤, Option, Some, None, Result, Ok, Err, OnOk, IfErr, IfSome, All}
use Rattle.std.specs.Iterator.{Yields, Drains, HoldsAlong, YieldsFirstBy}
use Rattle.std.specs.Range.{range_steps}
use Rattle.std.specs.Slice.Iter.{iter_rest, iter_steps}
use Rattle.std.specs.declared.ops.Range.{Range}
use Rattle.std.specs.declared.slice.Iter.{Iter}
use Rattle.std.specs.Borrow.{Bor}
use Rattle.columnar_base.specs.Row.{Row, list, number}
use Rattle.columnar_base.specs.Format.{Format, Content, both, IsSound, IsLawful}
use Rattle.columnar_base.specs.Change.{Took, Refused, IsTrueOf}
use Rattle.columnar_base.specs.ChangeLaws.{true_from, unchanged}
use Rattle.columnar_base.specs.Room.{WasFull, Leaves}
use Rattle.columnar_base.specs.RoomLaws.{full_front}
use Rattle.columnar_base.specs.RowsLeft.{GivesRow}
use Rattle.columnar_base.specs.declared.fault.GrowError.{GrowError}
use Rattle.columnar_lists.specs.Each.{range_rows}
use Rattle.columnar_lists.specs.Lists.{lists_format, ends}
use Rattle.columnar_lists.specs.ListLaws.{lists_parts, list_refused_values, lists_refused_bounds, one_ends}
use Rattle.columnar_lists.specs.RoomLaws.{list_full_values}
use Rattle.columnar_lists.specs.Rooms.{lists_room}

-- a range of numbers gives the first of the numbers that are left
pub range_gives : (row : ℕ → Row) (s : Range ℕ) (r : Option ℕ) (t : Range ℕ) → range_steps (λ (x : ℕ) (y : ℕ). y - x) (λ x y. y ≡ x + 1) s r t → YieldsFirstBy row (range_rows row) s r t
range_gives row s None t h =
    let e : s.end - s.start ≡ 0 = h.1.0 in
    let f : t.end - t.start ≡ 0 = omega (arith, h.0, h.1.1, e) in
    (rw e refl, rw f refl)
range_gives row s (Some x) t h =
    let e : s.end - s.start ≡ suc (t.end - t.start) = omega (arith, h.0, h.1.0, h.1.2) in
    rw (e, h.1.1, h.1.2) refl

none_left : {A : Type 0} (xs : List A) → length xs ≡ 0 → xs ≡ []
none_left [] e = refl
none_left (x ∷ xs) e = cc

-- a slice's iterator gives the first of the items that are left
pub slice_gives : {A : Type 0} (row : A → Row) (s : Iter A) (r : Option (Bor A)) (t : Iter A) → iter_steps s r t → YieldsFirstBy (λ (x : Bor A). row x.now) (λ (u : Iter A). map row (iter_rest u)) s r t
slice_gives row s None t h =
    let e : iter_rest s ≡ [] = none_left (iter_rest s) h.0 in
    let f : iter_rest t ≡ [] = ap iter_rest h.1 ∙ e in
    (rw e refl, rw f refl)
slice_gives row s (Some x) t h = rw h refl

-- items that are always valid
pub none_needed : {A : Type 0} (r : Option A) → IfSome r (λ x. ⊤ × ⊤)
none_needed None = tt
none_needed (Some x) = (tt, tt)

-- the items of a slice are valid
pub slice_sound : {A : Type 0} (valid : A → Type 0) (s : Iter A) (r : Option (Bor A)) (t : Iter A) → iter_steps s r t → All valid (iter_rest s) → IfSome r (λ (x : Bor A). valid x.now × All valid (iter_rest t))
slice_sound valid s None t h k = tt
slice_sound valid s (Some x) t h k =
    let all : All valid (x.now ∷ iter_rest t) = rw h at k in
    (All-head valid x.now (iter_rest t) all, All-tail valid x.now (iter_rest t) all)

-- an iterator that gives valid items
pub all_sound : {S A : Type 0} (rows : S → List Row) (meaning : A → Row) (valid : A → Type 0) (s : S) (r : Option A) (t : S) → GivesRow rows meaning valid s r t → ⊤ → IfSome r (λ x. valid x × ⊤)
all_sound rows meaning valid s None t h k = tt
all_sound rows meaning valid s (Some x) t h k = (h.1, tt)

-- the items that a sound iterator gives are valid
pub run_sound : {S A : Type 0} (steps : S → Option A → S → Type 0) (valid : A → Type 0) (sound : S → Type 0) → ((s : S) (r : Option A) (t : S) → steps s r t → sound s → IfSome r (λ x. valid x × sound t)) → (s : S) → sound s → HoldsAlong steps s (All valid)
run_sound {S} {A} steps valid sound keeps s k xs t h = go xs s k h
  where
    go : (xs : List A) (s : S) → sound s → Yields steps s xs t → All valid xs
    go [] s k h = λ i d l. absurd (omega (arith, l))
    go (x ∷ xs) s k h =
        let p = keeps s (Some x) h.0 h.1 k in
        All-cons valid x xs p.0 (go xs h.0 p.1 h.2)

module _ {S A : Type 0} (steps : S → Option A → S → Type 0) (meaning : A → Row) (rows : S → List Row) (gives : (s : S) (r : Option A) (t : S) → steps s r t → YieldsFirstBy meaning rows s r t) where
  -- the items that came, then those that are left
  pub rows_of_run : (xs : List A) (s t : S) → Yields steps s xs t → rows s ≡ map meaning xs ++ rows t
  rows_of_run [] s t h = ap rows h
  rows_of_run (x ∷ xs) s t h = gives s (Some x) h.0 h.1 ∙ ap (λ (rs : List Row). meaning x ∷ rs) (rows_of_run xs h.0 t h.2)

  -- all items
  pub rows_of_all : (xs : List A) (s : S) → Drains steps s xs → rows s ≡ map meaning xs
  rows_of_all xs s h = rows_of_run xs s h.1.0 h.1.1 ∙ (rw ((gives h.1.0 None h.0 h.1.2).0) (append-nil (map meaning xs)))

  -- a column took the list of all items
  pub each_taken : {R : Type 0} (result : Result R GrowError) (f : Format) (old new : Content) (s : S) → OnOk result ((xs : List A) × (Drains steps s xs × Took f old new (list (map meaning xs) ∷ []))) → OnOk result (Took f old new (list (rows s) ∷ []))
  each_taken (Ok v) f old new s h = rw (rows_of_all h.0 s h.1.0) h.1.1
  each_taken (Err e) f old new s h = h

  -- the room that it left
  pub each_leaves : {R : Type 0} (result : Result R GrowError) (f : Format) (x y : Content) (old new : List Row → Type 0) (s : S) → OnOk result ((xs : List A) × (Drains steps s xs × (Took f x y (list (map meaning xs) ∷ []) × Leaves old new (list (map meaning xs) ∷ [])))) → OnOk result (Leaves old new (list (rows s) ∷ []))
  each_leaves (Ok v) f x y old new s h = rw (rows_of_all h.0 s h.1.0) h.1.1.1
  each_leaves (Err e) f x y old new s h = h

  -- the values had no room for the first items, so there is none for all; or there was no room for the list of all
  pub each_full : {R : Type 0} (result : Result R GrowError) (b t : List Row → Type 0) (n : ℕ) (s : S) → IfErr result (λ e. (xs : List A) × (((rest : S) × (Yields steps s xs rest × WasFull t (map meaning xs) e)) ⊎ (Drains steps s xs × WasFull (lists_room b t n) (list (map meaning xs) ∷ []) e))) → IfErr result (WasFull (lists_room b t n) (list (rows s) ∷ []))
  each_full (Ok v) b t n s h = h
  each_full (Err error) b t n s h =
      elim h.1 [
        | inl k ↦ rw (rows_of_run h.0 s k.0 k.1.0) (list_full_values b n (map meaning h.0 ++ rows k.0) (full_front (map meaning h.0) (rows k.0) k.1.1))
        | inr k ↦ rw (rows_of_all h.0 s k.0) k.1
      ]

  -- the values refused the items up to one of them, so they refuse all; or the bounds refused the end of all
  each_cause : (b t : Format) {x y : Content} (error : GrowError) → IsLawful t → IsSound (lists_format b t) (both x y) → (s : S) → (xs : List A) × (((rest : S) × (Yields steps s xs rest × IsTrueOf error t y (map meaning xs))) ⊎ (Drains steps s xs × IsTrueOf error b x (number (length (t.rows y) + length xs) ∷ []))) → IsTrueOf error (lists_format b t) (both x y) (list (rows s) ∷ [])
  each_cause b t {x} {y} error law sound s h =
      let p = lists_parts b t sound in
      elim h.1 [
        | inl k ↦
            let c : IsTrueOf error t y (rows s) = true_from t t y y (map meaning h.0) (rows s) error (λ e m. rw (rows_of_run h.0 s k.0 k.1.0) (law.more e y (length (t.rows y)) (map meaning h.0) (rows k.0) m)) k.1.1 in
            let r : Refused t y y (rows s) error = record { stayed = unchanged p.values; cause = c } in
            (list_refused_values b t sound (unchanged p.bounds) r).cause
        | inr k ↦
            let n : length (t.rows y) + length h.0 ≡ length (t.rows y) + length (rows s) = rw (rows_of_all h.0 s k.0, length-map h.0 meaning) refl in
            let r : Refused b x x (ends (length (t.rows y)) (list (rows s) ∷ [])) error = record { stayed = unchanged p.bounds; cause = rw (one_ends (length (t.rows y)) (length (t.rows y) + length h.0) (rows s) n) k.1 } in
            (lists_refused_bounds b t (list (rows s) ∷ []) sound r (unchanged p.values)).cause
      ]

  -- a column refused the list of all items
  pub each_refused : {R : Type 0} (result : Result R GrowError) (b t : Format) {x y : Content} (new : Content) (s : S) → IsLawful t → IsSound (lists_format b t) (both x y) → IfErr result (λ e. (xs : List A) × (rest : S) × (Yields steps s xs rest × Refused (lists_format b t) (both x y) new (list (map meaning xs) ∷ []) e)) → IfErr result (λ e. (xs : List A) × (((rest : S) × (Yields steps s xs rest × IsTrueOf e t y (map meaning xs))) ⊎ (Drains steps s xs × IsTrueOf e b x (number (length (t.rows y) + length xs) ∷ [])))) → IfErr result (λ e. Refused (lists_format b t) (both x y) new (list (rows s) ∷ []) e)
  each_refused (Ok v) b t new s law sound h k = h
  each_refused (Err error) b t new s law sound h k = record { stayed = h.2.1.stayed; cause = each_cause b t error law sound s k }
