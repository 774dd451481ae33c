-- Columns of 64-bit numbers as offsets.
use Rattle.std.proofs.Common.{◌≡◌, ℕ, zero, suc, ◌+◌, ◌-◌, ◌/◌, ◌%◌, ◌^◌, ◌<◌, ◌≤◌, Bool, false, ◌&&◌, List, [], ◌∷◌, length, take, drop, map, refl, sym, ◌∙◌, ap, arith}
use Rattle.std.specs.Prelude.{slice_get, Some, nat_le}
use Rattle.std.proofs.lemmas.Option.{slice_get-map}
use Rattle.std.proofs.lemmas.Bool.{le-leb, lt-leb}
use Rattle.std.proofs.Math.Nat.{mul-div-le}
use Rattle.columnar_base.specs.Row.{Row, number}
use Rattle.columnar_base.specs.Format.{Content, slice, both, part, plain, bytes_held}
use Rattle.columnar_base.specs.AlikeLaws.{row_eq_exact}
use Rattle.columnar_base.specs.Elements.{elements_rows, word_row, word_row_of, words_format, pieces}
use Rattle.columnar_base.specs.ElementLaws.{length-elements}
use Rattle.columnar_core.specs.Bounds.{rises, numbers, last_or, shifted, IsBounds}

pub words_numbers : (c : Content) → elements_rows 8 word_row_of c ≡ map number (numbers (elements_rows 8 word_row_of c))
words_numbers (slice bs) = are_numbers (pieces 8 (length bs / 8) bs)
  where
    are_numbers : (ps : List (List ℕ)) → map word_row_of ps ≡ map number (numbers (map word_row_of ps))
    are_numbers [] = refl
    are_numbers (p ∷ ps) = ap (λ (t : List Row). word_row_of p ∷ t) (are_numbers ps)
words_numbers (both x y) = refl
words_numbers (part l u x) = refl
words_numbers (plain rs) = refl

pub words_bounds : IsBounds words_format
words_bounds = record { exact = row_eq_exact; swift = omega arith; are_numbers = λ c s. words_numbers c }

-- the row of a 64-bit number
pub word_is : (n : ℕ) → n < 2 ^ 64 → word_row n ≡ number n
word_is n l = let e : n % 2 ^ 64 ≡ n = omega arith in ap number e

-- there are no more words than bytes
pub words_few : (c : Content) → length (elements_rows 8 word_row_of c) ≤ bytes_held c
words_few (slice bs) = rw length-elements (let h = mul-div-le (length bs) 8 in omega (arith, h))
words_few (both x y) = omega arith
words_few (part l u x) = omega arith
words_few (plain rs) = omega arith

-- one more offset
pub rises_step : (ns : List ℕ) (i last n end : ℕ) → slice_get ns i ≡ Some n → rises last (drop i ns) end ≡ (nat_le last n && rises n (drop (i + 1) ns) end)
rises_step [] i last n end h = cc
rises_step (m ∷ ns) zero last n end h = let e : m ≡ n = cc in rw e refl
rises_step (m ∷ ns) (suc i) last n end h = let e : suc i + 1 ≡ suc (i + 1) = omega arith in rw e (rises_step ns i last n end h)

number_at : (rs : List Row) (i n : ℕ) → slice_get rs i ≡ Some (word_row n) → n < 2 ^ 64 → slice_get (numbers rs) i ≡ Some n
number_at rs i n h l =
    let k : slice_get rs i ≡ Some (number n) = rw (word_is n l) at h in
    rw (slice_get-map, k) refl

-- the offset that was read is below the last one
pub rises_falls : (rs : List Row) (i last n end : ℕ) (all : Bool) → all ≡ rises last (drop i (numbers rs)) end → slice_get rs i ≡ Some (word_row n) → n < 2 ^ 64 → n < last → false ≡ all
rises_falls rs i last n end all p h w l =
    let q = rises_step (numbers rs) i last n end (number_at rs i n h w) in
    let k = lt-leb last n l in
    sym (p ∙ (rw k at q))

-- the offset that was read is not below the last one
pub rises_on : (rs : List Row) (i last n end : ℕ) (all : Bool) → all ≡ rises last (drop i (numbers rs)) end → slice_get rs i ≡ Some (word_row n) → n < 2 ^ 64 → last ≤ n → all ≡ rises n (drop (i + 1) (numbers rs)) end
rises_on rs i last n end all p h w l =
    let q = rises_step (numbers rs) i last n end (number_at rs i n h w) in
    let k = le-leb last n l in
    p ∙ (rw k at q)

-- ---- offsets by their index

pub number_get : (rs : List Row) (i n : ℕ) → slice_get rs i ≡ Some (number n) → slice_get (numbers rs) i ≡ Some n
number_get rs i n h = rw (slice_get-map, h) refl

pub number_before : (rs : List Row) (i n : ℕ) → 0 < i → slice_get rs (i - 1) ≡ Some (number n) → slice_get (0 ∷ numbers rs) i ≡ Some n
number_before rs zero n l h = absurd (omega arith)
number_before rs (suc i) n l h = let e : suc i - 1 ≡ i = omega arith in number_get rs i n (rw e at h)

pub number_after : (rs : List Row) (i n : ℕ) → slice_get rs i ≡ Some (number n) → slice_get (0 ∷ numbers rs) (i + 1) ≡ Some n
number_after rs i n h = let e : i + 1 ≡ suc i = omega arith in rw e (number_get rs i n h)

pub shifted_get : (lower start : ℕ) (rs : List Row) (i n : ℕ) → slice_get rs i ≡ Some (number n) → slice_get (shifted lower start (numbers rs)) i ≡ Some (number (start + (n - lower)))
shifted_get lower start rs i n h = rw (slice_get-map, number_get rs i n h) refl

-- the last of the first n offsets is offset n - 1
pub last_at : (n from : ℕ) (ns : List ℕ) (e : ℕ) → slice_get (from ∷ ns) n ≡ Some e → last_or from (take n ns) ≡ e
last_at zero from ns e p = cc
last_at (suc n) from [] e p = cc
last_at (suc n) from (m ∷ ns) e p = last_at n m ns e p
