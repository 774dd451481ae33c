-- Copies of ranges of offsets, as pushes in order.
use Rattle.std.proofs.Common.{◌≡◌, ℕ, suc, ◌+◌, ◌-◌, ◌^◌, ◌<◌, ◌≤◌, true, List, [], ◌∷◌, ◌++◌, length, take, drop, refl, ◌∙◌, ap, arith, length-append, append_assoc}
use Rattle.std.specs.Prelude.{slice_get, Some}
use Rattle.std.proofs.lemmas.Bool.{and_parts}
use Rattle.std.proofs.lemmas.List.{map-append, length-map, length-take-le, length-drop}
use Rattle.columnar_core.specs.Row.{Row, number, number_of}
use Rattle.columnar_core.specs.Format.{Content}
use Rattle.columnar_core.specs.AlikeLaws.{row_eq_exact}
use Rattle.columnar_core.specs.Bounds.{numbers, shifted}
use Rattle.columnar_core.specs.BoundLaws.{word_is, shifted_get}
use Rattle.columnar_core.specs.Change.{Took}
use Rattle.columnar_core.specs.ChangeLaws.{grew_exactly, slice_get-drop, take-suc_get, take-front}
use Rattle.columnar_core.specs.Elements.{word_row}
use Rattle.columnar_primitive.specs.HeldLaws.{word_number}
use Rattle.columnar_primitive.specs.Stride.{strides_format, strides_rows, head_pushed, bounds_pushed, head_extended, bounds_extended, joins, all_join}
use Rattle.columnar_primitive.specs.StrideLaws.{strides_both, length-strides}

-- one more push
head-more : (head bounds xs : List ℕ) (x : ℕ) → head_extended head bounds (xs ++ x ∷ []) ≡ head_pushed (head_extended head bounds xs) (bounds_extended head bounds xs) x
head-more head bounds [] x = refl
head-more head bounds (y ∷ xs) x = head-more (head_pushed head bounds y) (bounds_pushed head bounds y) xs x

bounds-more : (head bounds xs : List ℕ) (x : ℕ) → bounds_extended head bounds (xs ++ x ∷ []) ≡ bounds_pushed (head_extended head bounds xs) (bounds_extended head bounds xs) x
bounds-more head bounds [] x = refl
bounds-more head bounds (y ∷ xs) x = bounds-more (head_pushed head bounds y) (bounds_pushed head bounds y) xs x

-- if all offsets join, so does each after those before it
join-within : (head bounds xs : List ℕ) (x : ℕ) (ys : List ℕ) → all_join head bounds (xs ++ x ∷ ys) ≡ true → joins (head_extended head bounds xs) (bounds_extended head bounds xs) x ≡ true
join-within head bounds [] x ys h = (and_parts (joins head bounds x) (all_join (head_pushed head bounds x) (bounds_pushed head bounds x) ys) h).0
join-within head bounds (y ∷ xs) x ys h = join-within (head_pushed head bounds y) (bounds_pushed head bounds y) xs x ys (and_parts (joins head bounds y) (all_join (head_pushed head bounds y) (bounds_pushed head bounds y) (xs ++ x ∷ ys)) h).1

-- the rows of a range, up to one of its offsets
numbers-more : (rs : List Row) (n x : ℕ) → x < 2 ^ 64 → slice_get rs n ≡ Some (word_row x) → numbers (take (suc n) rs) ≡ numbers (take n rs) ++ x ∷ []
numbers-more rs n x l h =
    let e : number_of (word_row x) ≡ x = ap number_of (word_number x l) in
    rw (take-suc_get n rs (word_row x) h, map-append, e) refl

-- the offsets of a range of rows, up to one of them
range-more : (rs : List Row) (from i x : ℕ) → from ≤ i → x < 2 ^ 64 → slice_get rs i ≡ Some (word_row x) → numbers (take (i + 1 - from) (drop from rs)) ≡ numbers (take (i - from) (drop from rs)) ++ x ∷ []
range-more rs from i x l h g =
    let e : i + 1 - from ≡ suc (i - from) = omega arith in
    rw e (numbers-more (drop from rs) (i - from) x h (slice_get-drop from rs i (i - from) (word_row x) (omega arith) g))

range-front : (rs : List Row) (from i to x : ℕ) → from ≤ i → i < to → x < 2 ^ 64 → slice_get rs i ≡ Some (word_row x) → (ys : List ℕ) × (numbers (take (to - from) (drop from rs)) ≡ numbers (take (i - from) (drop from rs)) ++ x ∷ ys)
range-front rs from i to x l m h g =
    let q = take-front (suc (i - from)) (to - from) (drop from rs) (omega arith) in
    let w = numbers-more (drop from rs) (i - from) x h (slice_get-drop from rs i (i - from) (word_row x) (omega arith) g) in
    let a : numbers (take (to - from) (drop from rs)) ≡ numbers (take (suc (i - from)) (drop from rs)) ++ numbers q.0 = ap numbers q.1 ∙ map-append number_of (take (suc (i - from)) (drop from rs)) q.0 in
    (numbers q.0, a ∙ ap (λ t. t ++ numbers q.0) w ∙ append_assoc (numbers (take (i - from) (drop from rs))) (x ∷ []) (numbers q.0))

-- nothing has been copied yet
pub extended_none : (rs : List Row) (head bounds : List ℕ) (from : ℕ) → (head ≡ head_extended head bounds (numbers (take (from - from) (drop from rs)))) × (bounds ≡ bounds_extended head bounds (numbers (take (from - from) (drop from rs))))
extended_none rs head bounds from = let z : from - from ≡ 0 = omega arith in rw z (refl, refl)

-- one more offset was copied
pub extended_more : (rs : List Row) (head bounds : List ℕ) {h b h' b' : List ℕ} (from i x : ℕ) → from ≤ i → x < 2 ^ 64 → slice_get rs i ≡ Some (word_row x) → h ≡ head_extended head bounds (numbers (take (i - from) (drop from rs))) → b ≡ bounds_extended head bounds (numbers (take (i - from) (drop from rs))) → h' ≡ head_pushed h b x → b' ≡ bounds_pushed h b x → (h' ≡ head_extended head bounds (numbers (take (i + 1 - from) (drop from rs)))) × (b' ≡ bounds_extended head bounds (numbers (take (i + 1 - from) (drop from rs))))
extended_more rs head bounds from i x l m g p q r s =
    let e = range-more rs from i x l m g in
    (rw (e, head-more, ← p, ← q) r, rw (e, bounds-more, ← p, ← q) s)

-- an offset of a range whose offsets all join
pub joins_in : (rs : List Row) (head bounds : List ℕ) {h b : List ℕ} (from i to x : ℕ) → from ≤ i → i < to → x < 2 ^ 64 → slice_get rs i ≡ Some (word_row x) → h ≡ head_extended head bounds (numbers (take (i - from) (drop from rs))) → b ≡ bounds_extended head bounds (numbers (take (i - from) (drop from rs))) → all_join head bounds (numbers (take (to - from) (drop from rs))) ≡ true → joins h b x ≡ true
joins_in rs head bounds from i to x l m k g p q all =
    let w = range-front rs from i to x l m k g in
    rw (p, q) (join-within head bounds (numbers (take (i - from) (drop from rs))) x w.0 (rw w.1 at all))

-- a shifted offset, if it fits a word
pub shifted_word : (lower start : ℕ) (ws : List Row) (i n : ℕ) → slice_get ws i ≡ Some (number n) → start + (n - lower) < 2 ^ 64 → slice_get (shifted lower start (numbers ws)) i ≡ Some (word_row (start + (n - lower)))
shifted_word lower start ws i n h l = rw (word_is (start + (n - lower)) l) (shifted_get lower start ws i n h)

pub length-shifted : (lower start : ℕ) (ws : List Row) → length (shifted lower start (numbers ws)) ≡ length ws
length-shifted lower start ws = length-map (numbers ws) (λ n. number (start + (n - lower))) ∙ length-map ws number_of

-- the number of offsets after a copy
pub length-copied : {x y : Content} (rs : List Row) (from i : ℕ) → from ≤ i → i ≤ length rs → Took strides_format x y (take (i - from) (drop from rs)) → length (strides_rows y) ≡ length (strides_rows x) + (i - from)
length-copied {x} {y} rs from i l m t =
    let n : length (take (i - from) (drop from rs)) ≡ i - from = length-take-le (i - from) (drop from rs) (omega (arith, length-drop from rs)) in
    ap length (grew_exactly row_eq_exact t).rows ∙ length-append (strides_rows x) (take (i - from) (drop from rs)) ∙ ap (λ k. length (strides_rows x) + k) n

-- there are never more offsets than a word can count
pub strides_few : {x y : Content} {added : List Row} → Took strides_format x y added → length (strides_rows y) ≤ 2 ^ 64 - 1
strides_few {x} {y} t =
    let p = strides_both y t.grew.sound in
    rw p.is (omega (arith, length-strides p.head p.bounds, p.sound.few))
