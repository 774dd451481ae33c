use Rattle.std.proofs.Common.{◌≡◌, ℕ, zero, suc, ◌+◌, ◌-◌, ◌*◌, ◌/◌, ◌%◌, ◌≤◌, List, ◌∷◌, length, map, take, drop, refl, arith, sym, ◌∙◌, ap, length-drop}
use Rattle.std.specs.Prelude.{nat_eq}
use Rattle.std.proofs.Math.Nat.{mul-div-le, mul-le-mul_left, mul-mod_right, mul-div_cancel_left, mul-add}
use Rattle.std.proofs.lemmas.Bool.{eq-eqb}
use Rattle.std.proofs.lemmas.List.{drop-drop, drop-take, take-take, take-map, drop-map, length-take-le}
use Rattle.columnar_base.specs.Row.{Row}
use Rattle.columnar_base.specs.Elements.{pieces, elements, elements_rows, elements_format, IsElement}
use Rattle.columnar_base.specs.ElementLaws.{length-elements, rows_typed}
use Rattle.columnar_base.specs.FaultLaws.{true_unless}
use Rattle.columnar_base.specs.declared.view.Items.{Items}
use Rattle.columnar_base.specs.declared.view.Items.TheVariants.{Typed, Bytes}
use Rattle.columnar_base.specs.Format.{slice, slices_of, IsSound, fault}
use Rattle.columnar_base.specs.Views.{items_content}

pub items_counted : {T : Type 0} (bytes : T → List ℕ) (i : Items T) → length (slices_of (items_content bytes i)) ≡ 1
items_counted bytes (Typed xs) = refl
items_counted bytes (Bytes bs) = refl

-- the pieces after the first l
pieces_drop : (size k l : ℕ) (bs : List ℕ) → drop l (pieces size (l + k) bs) ≡ pieces size k (drop (size * l) bs)
pieces_drop size k zero bs = let z : size * 0 ≡ 0 = omega arith in let y : 0 + k ≡ k = omega arith in rw (z, y) refl
pieces_drop size k (suc l) bs =
    let z : size + size * l ≡ size * suc l = omega arith in
    let y : suc l + k ≡ suc (l + k) = omega arith in
    rw y (pieces_drop size k l (drop size bs) ∙ ap (pieces size k) (drop-drop (size * l) size bs ∙ ap (λ n. drop n bs) z))

-- the first n pieces
pieces_take : (size k n : ℕ) (bs : List ℕ) → take n (pieces size (n + k) bs) ≡ pieces size n (take (size * n) bs)
pieces_take size k zero bs = refl
pieces_take size k (suc n) bs =
    let z : size * suc n ≡ size + size * n = omega arith in
    let a : take size (take (size * suc n) bs) ≡ take size bs = take-take size (size * suc n) bs (omega (arith, z)) in
    let b : drop size (take (size * suc n) bs) ≡ take (size * n) (drop size bs) = rw z (drop-take size (size * n) bs) in
    let y : suc n + k ≡ suc (n + k) = omega arith in
    rw (y, a, b) (ap (λ t. take size bs ∷ t) (pieces_take size k n (drop size bs)))

-- the bytes contain a range of rows
pub part_within : (size : ℕ) (row_of : List ℕ → Row) (bs : List ℕ) (upper : ℕ) → upper ≤ length (elements_rows size row_of (slice bs)) → size * upper ≤ length bs
part_within size row_of bs upper l =
    let m = mul-le-mul_left size (rw (length-elements size row_of bs) at l) in
    omega (arith, m, mul-div-le (length bs) size)

part_length : (size : ℕ) (row_of : List ℕ → Row) (bs : List ℕ) (lower upper : ℕ) → lower ≤ upper → upper ≤ length (elements_rows size row_of (slice bs)) → length (take (size * (upper - lower)) (drop (size * lower) bs)) ≡ size * (upper - lower)
part_length size row_of bs lower upper o l =
    let e : size * upper ≡ size * lower + size * (upper - lower) = ap (λ n. size * n) (omega arith) ∙ mul-add size lower (upper - lower) in
    length-take-le (size * (upper - lower)) (drop (size * lower) bs) (omega (arith, e, length-drop (size * lower) bs, part_within size row_of bs upper l))

-- the rows of the bytes of a range
pub view_part_rows : (size : ℕ) (row_of : List ℕ → Row) (bs : List ℕ) (lower upper : ℕ) → 1 ≤ size → lower ≤ upper → upper ≤ length (elements_rows size row_of (slice bs)) → elements_rows size row_of (slice (take (size * (upper - lower)) (drop (size * lower) bs))) ≡ take (upper - lower) (drop lower (elements_rows size row_of (slice bs)))
view_part_rows size row_of bs lower upper p o l =
    let n = upper - lower in
    let k = length bs / size - upper in
    let m : upper ≤ length bs / size = rw (length-elements size row_of bs) at l in
    let c : size * n / size ≡ n = mul-div_cancel_left n {n = size} (omega (arith, p)) in
    let a : length bs / size ≡ lower + (n + k) = omega (arith, m) in
    let d : drop lower (map row_of (pieces size (lower + (n + k)) bs)) ≡ map row_of (pieces size (n + k) (drop (size * lower) bs)) = drop-map row_of lower (pieces size (lower + (n + k)) bs) ∙ ap (map row_of) (pieces_drop size (n + k) lower bs) in
    rw (part_length size row_of bs lower upper o l, c, a, d)
    (ap (map row_of) (sym (pieces_take size k n (drop (size * lower) bs))) ∙ sym (take-map row_of n (pieces size (n + k) (drop (size * lower) bs))))

pub part_sound : {align : ℕ} (size : ℕ) (row_of : List ℕ → Row) (bs : List ℕ) (lower upper : ℕ) → lower ≤ upper → upper ≤ length (elements_rows size row_of (slice bs)) → IsSound (elements_format size align row_of) (slice (take (size * (upper - lower)) (drop (size * lower) bs)))
part_sound size row_of bs lower upper o l =
    let m : length (take (size * (upper - lower)) (drop (size * lower) bs)) % size ≡ 0 = rw (part_length size row_of bs lower upper o l) (mul-mod_right size (upper - lower)) in
    record { accepted = true_unless (nat_eq _ 0) (fault 8 0) (eq-eqb _ _ m) }

-- the rows of a range of elements
pub part_typed : {T : Type 0} {size : ℕ} {bytes : T → List ℕ} {row_of : List ℕ → Row} {meaning : T → Row} → IsElement size bytes row_of meaning → (xs ys : List T) (n lower : ℕ) → ys ≡ take n (drop lower xs) → elements_rows size row_of (elements bytes ys) ≡ take n (drop lower (elements_rows size row_of (elements bytes xs)))
part_typed {T} {size} {bytes} {row_of} {meaning} e xs ys n lower h =
    rw (rows_typed e ys, rows_typed e xs, h) (sym (ap (take n) (drop-map meaning lower xs) ∙ take-map meaning n (drop lower xs)))
