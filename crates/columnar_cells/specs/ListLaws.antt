-- Writes of an item of a list.
use Rattle.std.proofs.Common.{ℕ, zero, suc, ◌≡◌, ◌<◌, Bool, true, false, List, [], ◌∷◌, ◌++◌, length, map, ap, sym, ◌∙◌, refl, ◌+◌, ◌-◌, ◌≤◌, take, drop, arith, length-take, length-drop}
use Rattle.std.specs.Prelude.{slice_set, slice_get, Some, nat_le, IsTrue, ◌↔◌}
use Rattle.std.proofs.lemmas.List.{length-set, drop-set-add, drop-set-lt, take-set-le}
use Rattle.std.proofs.Math.Seq.{take-set-lt}
use Rattle.std.proofs.lemmas.Bool.{and_parts, leb-true}
use Rattle.columnar_base.specs.Row.{Row, list, items_of, number, number_of}
use Rattle.columnar_base.specs.RowLaws.{items_of-list}
use Rattle.columnar_base.specs.Format.{Format, Content, both, IsSound, lengths}
use Rattle.columnar_base.specs.PartLaws.{piece_parts}
use Rattle.columnar_core.specs.Bounds.{rises, numbers}
use Rattle.columnar_lists.specs.Lists.{cut, lists_format}
use Rattle.columnar_core.specs.BoundLaws.{number_get}
use Rattle.columnar_lists.specs.CutLaws.{cut_get, rises_get}
use Rattle.columnar_lists.specs.ListLaws.{lists_parts, lists_sound, piece_sound}
use Rattle.columnar_cells.specs.Wrote.{Wrote, row_at, item_fits, with_item}
use Rattle.columnar_cells.specs.RowAtLaws.{row_at_get, row_at-take, row_at-drop, never}

rises_at : (from e i l : ℕ) (ns : List ℕ) → rises from ns e ≡ true → slice_get (from ∷ ns) i ≡ Some l → from ≤ l
rises_at from e zero l ns h p = let q : from ≡ l = cc in omega (arith, q)
rises_at from e (suc i) l [] h p = cc
rises_at from e (suc i) l (n ∷ ns) h p =
    let a = and_parts (nat_le from n) (rises n ns e) h in
    let b : from ≤ n = leb-true from n a.0 in
    let c = rises_at n e i l ns a.1 p in
    omega (arith, b, c)

-- lists after the written item stay the same
cut_same : (from e : ℕ) (ns : List ℕ) (vs : List Row) (j : ℕ) (r : Row) → j < from → rises from ns e ≡ true → cut from ns (slice_set vs j r) ≡ cut from ns vs
cut_same from e [] vs j r l h = refl
cut_same from e (n ∷ ns) vs j r l h =
    let a = and_parts (nat_le from n) (rises n ns e) h in
    let b : from ≤ n = leb-true from n a.0 in
    rw (drop-set-lt from vs j r l, cut_same n e ns vs j r (omega (arith, l, b)) a.1) refl

cut_set : (from e i : ℕ) (ns : List ℕ) (vs : List Row) (l u k : ℕ) (r : Row) → rises from ns e ≡ true → slice_get (from ∷ ns) i ≡ Some l → slice_get ns i ≡ Some u → l + k < u → cut from ns (slice_set vs (l + k) r) ≡ slice_set (cut from ns vs) i (list (slice_set (take (u - l) (drop l vs)) k r))
cut_set from e i [] vs l u k r h p q b = cc
cut_set from e zero (n ∷ ns) vs l u k r h p q b =
    let a = and_parts (nat_le from n) (rises n ns e) h in
    let f : from ≡ l = cc in
    let g : n ≡ u = cc in
    let b' : l + k < n = rw g b in
    rw (f, ← g, drop-set-add l vs k r, take-set-lt (n - l) (drop l vs) k r (omega (arith, b')), cut_same n e ns vs (l + k) r b' a.1) refl
cut_set from e (suc i) (n ∷ ns) vs l u k r h p q b =
    let a = and_parts (nat_le from n) (rises n ns e) h in
    let f : from ≤ n = leb-true from n a.0 in
    let m : n ≤ l = rises_at n e i l ns a.1 p in
    let j : l + k ≡ from + (l + k - from) = omega (arith, f, m) in
    let d : drop from (slice_set vs (l + k) r) ≡ slice_set (drop from vs) (l + k - from) r = ap (λ m. drop from (slice_set vs m r)) j ∙ drop-set-add from vs (l + k - from) r in
    let t : take (n - from) (slice_set (drop from vs) (l + k - from) r) ≡ take (n - from) (drop from vs) = take-set-le (n - from) (drop from vs) (l + k - from) r (omega (arith, f, m)) in
    rw (d, t, cut_set n e i ns vs l u k r a.1 p q b) refl

-- List i, which starts at l and ends at u.
pub list_row : (b t : Format) (x y : Content) (i l u : ℕ) → slice_get (0 ∷ numbers (b.rows x)) i ≡ Some l → slice_get (b.rows x) i ≡ Some (number u) → row_at (cut 0 (numbers (b.rows x)) (t.rows y)) i ≡ list (take (u - l) (drop l (t.rows y)))
list_row b t x y i l u p q = row_at_get _ i _ (cut_get i 0 (numbers (b.rows x)) (t.rows y) l u p (number_get (b.rows x) i u q))

-- its items
pub list_items : (b t : Format) (x y : Content) (i l u : ℕ) → slice_get (0 ∷ numbers (b.rows x)) i ≡ Some l → slice_get (b.rows x) i ≡ Some (number u) → items_of (row_at (cut 0 (numbers (b.rows x)) (t.rows y)) i) ≡ take (u - l) (drop l (t.rows y))
list_items b t x y i l u p q = ap items_of (list_row b t x y i l u p q) ∙ items_of-list (take (u - l) (drop l (t.rows y)))

pub list_count : (b t : Format) {x y : Content} (i l u : ℕ) → IsSound (lists_format b t) (both x y) → slice_get (0 ∷ numbers (b.rows x)) i ≡ Some l → slice_get (b.rows x) i ≡ Some (number u) → length (items_of (row_at (cut 0 (numbers (b.rows x)) (t.rows y)) i)) ≡ u - l
list_count b t {x} {y} i l u s p q =
    let w = (piece_parts t (piece_sound b t i s p q)).within in
    rw (list_items b t x y i l u p q) (omega (arith, length-take (u - l) (drop l (t.rows y)), length-drop l (t.rows y), w))

-- its item k
pub list_item : (b t : Format) (x y : Content) (i l u k : ℕ) → slice_get (0 ∷ numbers (b.rows x)) i ≡ Some l → slice_get (b.rows x) i ≡ Some (number u) → l + k < u → row_at (items_of (row_at (cut 0 (numbers (b.rows x)) (t.rows y)) i)) k ≡ row_at (t.rows y) (l + k)
list_item b t x y i l u k p q m = ap (λ rs. row_at rs k) (list_items b t x y i l u p q) ∙ (row_at-take (u - l) (drop l (t.rows y)) k (omega (arith, m)) ∙ row_at-drop l (t.rows y) k)

-- an existing item implies that its list's bounds rise
pub list_rises : (b t : Format) {x y : Content} (i l u : ℕ) → IsSound (lists_format b t) (both x y) → slice_get (0 ∷ numbers (b.rows x)) i ≡ Some l → slice_get (b.rows x) i ≡ Some (number u) → l ≤ u
list_rises b t {x} {y} i l u s p q = (rises_get i 0 (numbers (b.rows x)) (length (t.rows y)) l u (lists_parts b t s).rise p (number_get (b.rows x) i u q)).0

pub item_inside : (b t : Format) {x y : Content} (i l u k : ℕ) → IsSound (lists_format b t) (both x y) → slice_get (0 ∷ numbers (b.rows x)) i ≡ Some l → slice_get (b.rows x) i ≡ Some (number u) → k < length (items_of (row_at (cut 0 (numbers (b.rows x)) (t.rows y)) i)) → l + k < u
item_inside b t i l u k s p q h = omega (arith, list_count b t i l u s p q, h)

pub list_wrote : (b t : Format) {x y y' : Content} (i l u k : ℕ) (r : Row) → IsSound (lists_format b t) (both x y) → slice_get (0 ∷ numbers (b.rows x)) i ≡ Some l → slice_get (b.rows x) i ≡ Some (number u) → l + k < u → Wrote t y y' (l + k) r → Wrote (lists_format b t) (both x y) (both x y') i (with_item (row_at (cut 0 (numbers (b.rows x)) (t.rows y)) i) k r)
list_wrote b t {x} {y} {y'} i l u k r s p q m w =
    let h = lists_parts b t s in
    let n : length (t.rows y') ≡ length (t.rows y) = ap length w.rows ∙ length-set (t.rows y) (l + k) r in
    rw (list_items b t x y i l u p q) (record {
      sound = lists_sound b t (record { bounds = h.bounds; values = w.sound; rise = rw n h.rise });
      rows = ap (cut 0 (numbers (b.rows x))) w.rows ∙ cut_set 0 (length (t.rows y)) i (numbers (b.rows x)) (t.rows y) l u k r h.rise p (number_get (b.rows x) i u q) m;
      lengths_same = ap (λ ns. lengths x ++ ns) w.lengths_same;
    })

pub item_before : (b t : Format) {x y : Content} (i l u k : ℕ) → IsSound (lists_format b t) (both x y) → slice_get (0 ∷ numbers (b.rows x)) i ≡ Some l → slice_get (b.rows x) i ≡ Some (number u) → l + k < u → l + k < length (t.rows y)
item_before b t {x} {y} i l u k s p q m =
    let w = (piece_parts t (piece_sound b t i s p q)).within in
    omega (arith, m, w)

-- the answer of a test of an item
pub item_tested : {T : Type 0} (fits : Row → T → Type 0) (b t : Format) {x y : Content} (i l u k : ℕ) (v : T) (answer : Bool) → IsSound (lists_format b t) (both x y) → slice_get (0 ∷ numbers (b.rows x)) i ≡ Some l → slice_get (b.rows x) i ≡ Some (number u) → k < u - l → (IsTrue answer ↔ fits (row_at (t.rows y) (l + k)) v) → IsTrue answer ↔ item_fits fits (row_at (cut 0 (numbers (b.rows x)) (t.rows y)) i) k v
item_tested fits b t {x} {y} i l u k v answer s p q m h =
    let n = list_count b t i l u s p q in
    rw (list_item b t x y i l u k p q (omega (arith, m))) (λ g. (omega (arith, n, m), h.0 g), λ g. h.1 g.1)

pub no_item : {T : Type 0} (fits : Row → T → Type 0) (b t : Format) {x y : Content} (i l u k : ℕ) (v : T) → IsSound (lists_format b t) (both x y) → slice_get (0 ∷ numbers (b.rows x)) i ≡ Some l → slice_get (b.rows x) i ≡ Some (number u) → u - l ≤ k → IsTrue false ↔ item_fits fits (row_at (cut 0 (numbers (b.rows x)) (t.rows y)) i) k v
no_item fits b t i l u k v s p q m = let n = list_count b t i l u s p q in never (λ g. let h = g.0 in omega (arith, n, h, m))
