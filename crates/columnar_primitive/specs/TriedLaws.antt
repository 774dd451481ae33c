use Rattle.std.proofs.Common.{◌≡◌, ℕ, ◌/◌, ◌%◌, true, false, List, [], ◌∷◌, length, take, drop, refl, sym, ◌∙◌, ap, arith, append-nil, ⊎_elim}
use Rattle.std.specs.Prelude.{Some, None, nat_eq, slice_get}
use Rattle.std.proofs.lemmas.Bool.{eq-eqb, ne_eqb, cases_eq}
use Rattle.std.proofs.lemmas.List.{length-take, length-drop}
use Rattle.std.proofs.Math.Nat.{div-add-mod}
use Rattle.columnar_core.specs.Row.{Row, number}
use Rattle.columnar_core.specs.Format.{slice, both, fault, IsSound}
use Rattle.columnar_core.specs.FaultLaws.{true_unless}
use Rattle.columnar_core.specs.Elements.{word_row_of, words_format}
use Rattle.columnar_core.specs.ElementLaws.{whole_slice}
use Rattle.columnar_core.specs.Bytes.{word}
use Rattle.columnar_primitive.specs.Multiples.{multiples}
use Rattle.columnar_primitive.specs.Fixed.{fixed_format, fixed_rows}
use Rattle.columnar_primitive.specs.FixedLaws.{fixed_sound}
use Rattle.columnar_primitive.specs.Stride.{strides_format, strides_rows, strided, bounds_rows}
use Rattle.columnar_primitive.specs.StrideLaws.{strides_parts, length-bounds, bound_is}

pub no_bounds : (bs : List ℕ) → length bs ≡ 0 → bounds_rows (slice bs) ≡ []
no_bounds [] e = refl
no_bounds (b ∷ bs) e = absurd (omega arith)

pub tried_ok : (k : ℕ) (hs bs cs : List ℕ) → length bs ≡ 0 → word hs 0 ≡ k → length cs ≡ 8 → word cs 0 ≡ word hs 1 → (strided (both (slice hs) (slice bs)) ≡ Some k) × ((fixed_rows k (slice cs) ≡ strides_rows (both (slice hs) (slice bs))) × (IsSound strides_format (both (slice hs) (slice bs)) → IsSound (fixed_format k) (slice cs)))
tried_ok k hs bs cs e s l w =
    let n = no_bounds bs e in (
      rw (n, s) refl,
      (
        rw (w, n, s) (sym (append-nil (multiples k 0 (word hs 1)))),
        λ sound.
            let p = strides_parts sound in
            fixed_sound k (record { size = l; fits = rw (w, ← s) p.fits }),
      ),
    )

-- a whole number of words that is zero
no_words : (m : ℕ) → m % 8 ≡ 0 → m / 8 ≡ 0 → m ≡ 0
no_words m a b = omega (arith, div-add-mod m 8)

pub tried_err : (k : ℕ) (hs bs : List ℕ) → (length hs ≡ 16 → length bs ≡ 0 → word hs 0 ≡ k → ⊥) → IsSound strides_format (both (slice hs) (slice bs)) → strided (both (slice hs) (slice bs)) ≡ Some k → ⊥
tried_err k hs bs h sound e =
    let p = strides_parts sound in
    let n = length-bounds bs in
    ⊎_elim
    (λ (z : length (bounds_rows (slice bs)) ≡ 0).
    let t : nat_eq (length (bounds_rows (slice bs))) 0 ≡ true = eq-eqb (length (bounds_rows (slice bs))) 0 z in
    let f : Some (word hs 0) ≡ Some k = rw t at e in
    h p.size (no_words (length bs) p.whole (omega (arith, n))) (let g : word hs 0 ≡ k = cc in g))
    (λ (z : length (bounds_rows (slice bs)) ≡ 0 → ⊥).
    let t : nat_eq (length (bounds_rows (slice bs))) 0 ≡ false = ne_eqb (length (bounds_rows (slice bs))) 0 z in
    let f : None ≡ Some k = rw t at e in
    cc)
    (cases_eq (length (bounds_rows (slice bs))) 0)

-- a head of two words is sound as words
pub head_sound : (hs : List ℕ) → length hs ≡ 16 → IsSound words_format (slice hs)
head_sound hs l = record { accepted = true_unless (nat_eq (length hs % 8) 0) (fault 8 0) (eq-eqb (length hs % 8) 0 (omega arith)) }

pub head_rows : (hs : List ℕ) → length hs ≡ 16 → length (bounds_rows (slice hs)) ≡ 2
head_rows hs l = omega (arith, length-bounds hs)

second_row : (rs : List Row) → slice_get (take 1 (drop 1 rs)) 0 ≡ slice_get rs 1
second_row [] = refl
second_row (r ∷ []) = refl
second_row (r ∷ s ∷ rs) = refl

-- the part of a head with its second word
pub second-word : (hs cs : List ℕ) → length hs ≡ 16 → IsSound words_format (slice cs) → bounds_rows (slice cs) ≡ take 1 (drop 1 (bounds_rows (slice hs))) → (length cs ≡ 8) × (word cs 0 ≡ word hs 1)
second-word hs cs l s e =
    let rows = bounds_rows (slice hs) in
    let n : length cs / 8 ≡ 1 = omega (arith, length-bounds cs, ap length e, length-take 1 (drop 1 rows), length-drop 1 rows, head_rows hs l) in
    let m : length cs ≡ 8 = omega (arith, n, whole_slice 8 word_row_of cs s, div-add-mod (length cs) 8) in
    let f : Some (number (word cs 0)) ≡ Some (number (word hs 1)) = sym (bound_is cs 0 (omega arith)) ∙ ap (λ (rs : List Row). slice_get rs 0) e ∙ second_row rows ∙ bound_is hs 1 (omega arith) in
    (m, cc)
