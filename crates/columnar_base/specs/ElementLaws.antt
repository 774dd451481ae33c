use Rattle.std.proofs.Common.{◌≡◌, ℕ, zero, suc, ◌+◌, ◌-◌, ◌*◌, ◌/◌, ◌%◌, ◌^◌, ◌<◌, ◌≤◌, true, List, [], ◌∷◌, ◌++◌, length, take, drop, map, refl, sym, ◌∙◌, ap, arith, length-append, length-take}
use Rattle.std.specs.Prelude.{slice_get, Some, None, nat_eq}
use Rattle.std.specs.List.{flat_map}
use Rattle.std.specs.Int.{to_le_bytes, from_le_bytes, w64}
use Rattle.std.proofs.lemmas.Grind.{flat_map-append}
use Rattle.std.proofs.lemmas.List.{append-nil, map-append, length-map, take-map, drop-drop}
use Rattle.std.proofs.lemmas.Bool.{eqb-true, eq-eqb, ltb-true, lt-ltb}
use Rattle.std.proofs.Math.Seq.{take-append_seam, drop-append_seam}
use Rattle.std.proofs.lemmas.Option.{slice_get-map}
use Rattle.std.proofs.Math.Nat.{mul-div_cancel_left, mul-mod_right, div-add-mod, mul-div-le, mul-le-mul_left}
use Rattle.columnar_base.specs.Row.{Row, number, row_eq}
use Rattle.columnar_base.specs.AlikeLaws.{row_eq_same, alike_all}
use Rattle.columnar_base.specs.FaultLaws.{unless_true, true_unless}
use Rattle.columnar_base.specs.Format.{Content, slice, both, part, plain, IsSound, IsLawful, IsStorable, Excess, too_many, misplaced, fault, slices_of, lengths, first, moved}
use Rattle.columnar_base.specs.Change.{Keeps, Grew, WasCut, Took, Copied}
use Rattle.columnar_base.specs.Elements.{pieces, past_count, elements_broken, elements_rows, elements_format, elements, first_slice, word_row, word_row_of, IsElement}

-- a content that breaks no rule of elements is a slice
pub elements_form : (size : ℕ) (c : Content) → elements_broken size c ≡ [] → (bs : List ℕ) × (c ≡ slice bs)
elements_form size (slice bs) h = (bs, refl)
elements_form size (both x y) h = cc
elements_form size (part l u x) h = cc
elements_form size (plain rs) h = cc

pub length-pieces : (size n : ℕ) (bs : List ℕ) → length (pieces size n bs) ≡ n
length-pieces size zero bs = refl
length-pieces size (suc n) bs = ap suc (length-pieces size n (drop size bs))

pub pieces_get : (size n i : ℕ) (bs : List ℕ) → i < n → slice_get (pieces size n bs) i ≡ Some (take size (drop (size * i) bs))
pieces_get size zero i bs l = absurd (omega arith)
pieces_get size (suc n) zero bs l = let e : size * 0 ≡ 0 = omega arith in rw e refl
pieces_get size (suc n) (suc i) bs l =
    let e : size * suc i ≡ size + size * i = omega arith in
    let d : drop (size * i) (drop size bs) ≡ drop (size + size * i) bs = drop-drop (size * i) size bs in
    rw (e, ← d) (pieces_get size n i (drop size bs) (omega arith))

pub length-flat : {T : Type 0} (size : ℕ) (bytes : T → List ℕ) → ((x : T) → length (bytes x) ≡ size) → (xs : List T) → length (flat_map bytes xs) ≡ size * length xs
length-flat size bytes h [] = omega arith
length-flat size bytes h (x ∷ xs) = length-append (bytes x) (flat_map bytes xs) ∙ omega (arith, h x, length-flat size bytes h xs)

pub pieces-flat : {T : Type 0} (size : ℕ) (bytes : T → List ℕ) → ((x : T) → length (bytes x) ≡ size) → (xs : List T) → pieces size (length xs) (flat_map bytes xs) ≡ map bytes xs
pieces-flat size bytes h [] = refl
pieces-flat size bytes h (x ∷ xs) =
    let t : take size (bytes x ++ flat_map bytes xs) ≡ bytes x = rw (← (h x)) (take-append_seam (bytes x) (flat_map bytes xs)) in
    let d : drop size (bytes x ++ flat_map bytes xs) ≡ flat_map bytes xs = rw (← (h x)) (drop-append_seam (bytes x) (flat_map bytes xs)) in
    rw (t, d, pieces-flat size bytes h xs) refl

count_of : (size n : ℕ) → 1 ≤ size → size * n / size ≡ n
count_of size n l = mul-div_cancel_left n {n = size} (omega arith)

pub map_back : {T : Type 0} {size : ℕ} {bytes : T → List ℕ} {row_of : List ℕ → Row} {meaning : T → Row} → IsElement size bytes row_of meaning → (xs : List T) → map row_of (map bytes xs) ≡ map meaning xs
map_back e [] = refl
map_back e (x ∷ xs) = rw (e.read_back x, map_back e xs) refl

-- the rows of the slice of xs
pub rows_typed : {T : Type 0} {size : ℕ} {bytes : T → List ℕ} {row_of : List ℕ → Row} {meaning : T → Row} → IsElement size bytes row_of meaning → (xs : List T) → elements_rows size row_of (elements bytes xs) ≡ map meaning xs
rows_typed {T} {size} {bytes} {row_of} {meaning} e xs =
    let l : length (flat_map bytes xs) ≡ size * length xs = length-flat size bytes e.sized xs in
    let n : length (flat_map bytes xs) / size ≡ length xs = rw l (count_of size (length xs) e.positive) in
    rw (n, pieces-flat size bytes e.sized xs) (map_back e xs)

whole_times : (size n : ℕ) → n % size ≡ 0 → size * (n / size) ≡ n
whole_times size n h = omega (arith, div-add-mod n size)

word_value : (n : ℕ) → from_le_bytes w64 (to_le_bytes w64 n) ≡ n % 2 ^ 64
word_value n = omega arith

pub elements_sound : {align : ℕ} {T : Type 0} {size : ℕ} {bytes : T → List ℕ} (row_of : List ℕ → Row) {meaning : T → Row} → IsElement size bytes row_of meaning → (xs : List T) → IsSound (elements_format size align row_of) (elements bytes xs)
elements_sound {T} {size} {bytes} row_of e xs =
    let l : length (flat_map bytes xs) ≡ size * length xs = length-flat size bytes e.sized xs in
    let m : length (flat_map bytes xs) % size ≡ 0 = rw l (mul-mod_right size (length xs)) in
    record { accepted = true_unless (nat_eq (length (flat_map bytes xs) % size) 0) (fault 8 0) (eq-eqb _ _ m) }

-- a whole number of elements
pub whole_slice : {align : ℕ} (size : ℕ) (row_of : List ℕ → Row) (bs : List ℕ) → IsSound (elements_format size align row_of) (slice bs) → length bs % size ≡ 0
whole_slice size row_of bs s = eqb-true _ _ (unless_true (nat_eq (length bs % size) 0) (fault 8 0) s.accepted)

pub length-elements : (size : ℕ) (row_of : List ℕ → Row) (bs : List ℕ) → length (elements_rows size row_of (slice bs)) ≡ length bs / size
length-elements size row_of bs = length-map (pieces size (length bs / size) bs) row_of ∙ length-pieces size (length bs / size) bs

pub length-typed : {T : Type 0} {size : ℕ} {bytes : T → List ℕ} {row_of : List ℕ → Row} {meaning : T → Row} → IsElement size bytes row_of meaning → (xs : List T) → length (elements_rows size row_of (elements bytes xs)) ≡ length xs
length-typed {T} {size} {bytes} {row_of} {meaning} e xs = rw (rows_typed e xs) (length-map xs meaning)

-- row i of a slice of bytes
pub element_row_at : (size : ℕ) (row_of : List ℕ → Row) (bs : List ℕ) (i : ℕ) → i < length (elements_rows size row_of (slice bs)) → slice_get (elements_rows size row_of (slice bs)) i ≡ Some (row_of (take size (drop (size * i) bs)))
element_row_at size row_of bs i l =
    let k : i < length bs / size = rw (length-elements size row_of bs) at l in
    rw (slice_get-map, pieces_get size (length bs / size) i bs k) refl

-- row i of a list of elements
pub row_typed : {T : Type 0} {size : ℕ} {bytes : T → List ℕ} {row_of : List ℕ → Row} {meaning : T → Row} → IsElement size bytes row_of meaning → (xs : List T) (i : ℕ) (x : T) → slice_get xs i ≡ Some x → slice_get (elements_rows size row_of (elements bytes xs)) i ≡ Some (meaning x)
row_typed e xs i x h = rw (rows_typed e xs, slice_get-map, h) refl

pub past_more : (e : Excess) (m n : ℕ) → m ≤ n → past_count e m ≡ true → past_count e n ≡ true
past_more too_many m n l h = lt-ltb (2 ^ 64 - 1) n (omega (arith, ltb-true (2 ^ 64 - 1) m h))
past_more misplaced m n l h = h

elements_full : {align : ℕ} (size : ℕ) (row_of : List ℕ → Row) → (c : Content) → IsSound (elements_format size align row_of) c → (elements_format size align row_of).extent c (length (elements_rows size row_of c)) ≡ lengths c
elements_full size row_of (slice bs) s =
    let m = whole_slice size row_of bs s in
    let d : size * (length bs / size) ≡ length bs = whole_times size (length bs) m in
    rw (length-elements size row_of bs, d) refl
elements_full size row_of (both x y) s = cc
elements_full size row_of (part l u x) s = cc
elements_full size row_of (plain rs) s = cc

elements_rebuilt : {align : ℕ} (size : ℕ) (row_of : List ℕ → Row) → (c : Content) (rest : List (List ℕ)) → IsSound (elements_format size align row_of) c → first_slice (slices_of c ++ rest) ≡ c
elements_rebuilt size row_of (slice bs) rest s = refl
elements_rebuilt size row_of (both x y) rest s = cc
elements_rebuilt size row_of (part l u x) rest s = cc
elements_rebuilt size row_of (plain rs) rest s = cc

pub first_built : (ss : List (List ℕ)) → 1 ≤ length ss → slices_of (first_slice ss) ≡ take 1 ss
first_built [] l = absurd (omega arith)
first_built (bs ∷ rest) l = refl

elements_counted : {align : ℕ} (size : ℕ) (row_of : List ℕ → Row) → (c : Content) → IsSound (elements_format size align row_of) c → length (slices_of c) ≡ 1
elements_counted size row_of (slice bs) s = refl
elements_counted size row_of (both x y) s = cc
elements_counted size row_of (part l u x) s = cc
elements_counted size row_of (plain rs) s = cc

pub elements_lawful : (size align : ℕ) (row_of : List ℕ → Row) → IsLawful (elements_format size align row_of)
elements_lawful size align row_of = record {
  full = elements_full size row_of;
  same = row_eq_same;
  kindred = row_eq_same;
  related = λ r s h. h;
  more = λ e c n rs ss h. past_more e (n + length rs) (n + length (rs ++ ss)) (omega (arith, length-append rs ss)) h;
}

pub elements_storable : (size align : ℕ) (row_of : List ℕ → Row) → IsStorable (elements_format size align row_of)
elements_storable size align row_of = record {
  swift = omega arith;
  sized = refl;
  aligned = refl;
  counted = elements_counted size row_of;
  rebuilt = elements_rebuilt size row_of;
  built = first_built;
}

elements_keeps : {align : ℕ} (size : ℕ) (row_of : List ℕ → Row) (old new : Content) (n : ℕ) → Keeps (elements_format size align row_of) old new n
elements_keeps size row_of old new n = record { extents = λ k l. refl; limits = λ k l e rs. refl }

-- the elements ys follow the elements xs
pub elements_grew : {align : ℕ} {T : Type 0} {size : ℕ} {bytes : T → List ℕ} {row_of : List ℕ → Row} {meaning : T → Row} → IsElement size bytes row_of meaning → (xs ys : List T) → Grew (elements_format size align row_of) (elements bytes xs) (elements bytes (xs ++ ys)) (map meaning ys)
elements_grew {T} {size} {bytes} {row_of} {meaning} e xs ys = record {
  sound = elements_sound row_of e (xs ++ ys);
  rows = rw (rows_typed e (xs ++ ys), rows_typed e xs) (map-append meaning xs ys);
  kept = elements_keeps size row_of (elements bytes xs) (elements bytes (xs ++ ys)) (length (elements_rows size row_of (elements bytes xs)));
}

pub elements_took : {align : ℕ} {T : Type 0} {size : ℕ} {bytes : T → List ℕ} {row_of : List ℕ → Row} {meaning : T → Row} → IsElement size bytes row_of meaning → (xs ys : List T) → Took (elements_format size align row_of) (elements bytes xs) (elements bytes (xs ++ ys)) (map meaning ys)
elements_took {T} {size} {bytes} {row_of} {meaning} e xs ys = record {
  fresh = map meaning ys;
  grew = elements_grew e xs ys;
  alike = alike_all row_eq row_eq_same (map meaning ys);
  adds = λ x rs h.
      let a = length-typed e (xs ++ ys) in
      let b = length-typed e xs in
      past_more x (length (elements_rows size row_of (elements bytes (xs ++ ys))) + length rs) (length (elements_rows size row_of (elements bytes xs)) + length (map meaning ys ++ rs)) (omega (arith, a, b, length-append xs ys, length-append (map meaning ys) rs, length-map ys meaning)) h;
}

-- one element was pushed
pub elements_pushed : {align : ℕ} {T : Type 0} {size : ℕ} {bytes : T → List ℕ} {row_of : List ℕ → Row} {meaning : T → Row} → IsElement size bytes row_of meaning → (xs : List T) (x : T) → Took (elements_format size align row_of) (elements bytes xs) (elements bytes (xs ++ x ∷ [])) (meaning x ∷ [])
elements_pushed e xs x = elements_took e xs (x ∷ [])

-- the rows of a range were copied after the elements xs
pub elements_copied : {align : ℕ} {T : Type 0} {size : ℕ} {bytes : T → List ℕ} {row_of : List ℕ → Row} {meaning : T → Row} → IsElement size bytes row_of meaning → (xs ys : List T) (start : ℕ) (rs : List Row) → map meaning ys ≡ rs → Copied (elements_format size align row_of) (elements bytes xs) (elements bytes (xs ++ ys)) start rs
elements_copied {align} {T} {size} {bytes} {row_of} {meaning} e xs ys start rs h = record {
  took = rw h at (elements_took {align = align} e xs ys);
  front = λ n z. rw (rows_typed e (xs ++ ys), map-append) (let k : map meaning xs ≡ [] = sym (rows_typed e xs) ∙ n in rw (k, h) refl);
}

pub elements_cut : {align : ℕ} {T : Type 0} {size : ℕ} {bytes : T → List ℕ} {row_of : List ℕ → Row} {meaning : T → Row} → IsElement size bytes row_of meaning → (xs : List T) (n : ℕ) → n ≤ length xs → WasCut (elements_format size align row_of) (elements bytes xs) (elements bytes (take n xs)) n
elements_cut {T} {size} {bytes} {row_of} {meaning} e xs n l = record {
  sound = elements_sound row_of e (take n xs);
  rows = rw (rows_typed e (take n xs), rows_typed e xs) (sym (take-map meaning n xs));
  lengths_cut = let k = length-flat size bytes e.sized (take n xs) in let m : length (take n xs) ≡ n = length-take n xs ∙ omega arith in rw (k, m) refl;
  kept = elements_keeps size row_of (elements bytes xs) (elements bytes (take n xs)) n;
}

-- no elements, no rows
pub elements_none : {T : Type 0} {size : ℕ} {bytes : T → List ℕ} {row_of : List ℕ → Row} {meaning : T → Row} → IsElement size bytes row_of meaning → elements_rows size row_of (elements bytes []) ≡ []
elements_none e = rows_typed e []

-- a 64-bit number is read back from its bytes
pub word_back : (n : ℕ) → word_row_of (to_le_bytes w64 n) ≡ word_row n
word_back n = ap number (word_value n)

pub word_element : IsElement 8 (to_le_bytes w64) word_row_of word_row
word_element = record { positive = omega arith; sized = λ n. refl; read_back = word_back }

-- the bytes contain row i
pub within_bytes : (size : ℕ) (row_of : List ℕ → Row) (bs : List ℕ) (i : ℕ) → i < length (elements_rows size row_of (slice bs)) → size * i + size ≤ length bs
within_bytes size row_of bs i l =
    let k : i < length bs / size = rw (length-elements size row_of bs) at l in
    let h : i + 1 ≤ length bs / size = omega arith in
    let m = mul-le-mul_left size h in
    let d = mul-div-le (length bs) size in
    omega (arith, m, d)

-- a slice of elements breaks no rule
pub typed_fine : {T : Type 0} {size : ℕ} {bytes : T → List ℕ} (row_of : List ℕ → Row) {meaning : T → Row} → IsElement size bytes row_of meaning → (xs : List T) (o : ℕ) → None ≡ first (moved o (elements_broken size (elements bytes xs)))
typed_fine {T} {size} {bytes} row_of e xs o = rw (elements_sound {align = 1} row_of e xs).accepted refl

-- row i of a slice of bytes, if the element that was read has its bytes
pub row_read : {T : Type 0} {size : ℕ} {bytes : T → List ℕ} {row_of : List ℕ → Row} {meaning : T → Row} → IsElement size bytes row_of meaning → (bs : List ℕ) (i : ℕ) (x : T) → i < length (elements_rows size row_of (slice bs)) → bytes x ≡ take size (drop (size * i) bs) → slice_get (elements_rows size row_of (slice bs)) i ≡ Some (meaning x)
row_read {T} {size} {bytes} {row_of} {meaning} e bs i x l h =
    let m : row_of (take size (drop (size * i) bs)) ≡ meaning x = rw (← h) (e.read_back x) in
    rw (element_row_at size row_of bs i l, m) refl

take_none : (n : ℕ) → take {A = ℕ} n [] ≡ []
take_none zero = refl
take_none (suc n) = refl

-- the first n bytes, then m more
pub take_next : (n m : ℕ) (bs : List ℕ) → take n bs ++ take m (drop n bs) ≡ take (n + m) bs
take_next zero m bs = let e : zero + m ≡ m = omega arith in rw e refl
take_next (suc n) m [] = take_none m ∙ sym (take_none (suc n + m))
take_next (suc n) m (b ∷ bs) = let e : suc n + m ≡ suc (n + m) = omega arith in rw e (ap (λ t. b ∷ t) (take_next n m bs))

-- one more element read
pub read_more : {T : Type 0} (bytes : T → List ℕ) (size i : ℕ) (xs ys : List T) (x : T) (bs : List ℕ) → flat_map bytes xs ≡ take (size * i) bs → bytes x ≡ take size (drop (size * i) bs) → ys ≡ xs ++ x ∷ [] → flat_map bytes ys ≡ take (size * (i + 1)) bs
read_more {T} bytes size i xs ys x bs p q r =
    let a : flat_map bytes (xs ++ x ∷ []) ≡ flat_map bytes xs ++ flat_map bytes (x ∷ []) = flat_map-append bytes xs (x ∷ []) in
    let b : flat_map bytes (x ∷ []) ≡ bytes x = append-nil (bytes x) in
    let e : size * (i + 1) ≡ size * i + size = omega arith in
    rw (r, a, b, p, q, e) (take_next (size * i) size bs)
