-- Consecutive multiples: their number, their ranges, and that they increase.
use Rattle.std.proofs.Common.{◌≡◌, ℕ, zero, suc, ◌+◌, ◌-◌, ◌*◌, ◌<◌, ◌≤◌, true, List, [], ◌∷◌, ◌++◌, length, take, drop, map, refl, ◌∙◌, ap, arith, append-nil}
use Rattle.std.specs.Prelude.{slice_get, Some, nat_eq, nat_le}
use Rattle.std.proofs.lemmas.Bool.{le-leb}
use Rattle.columnar_core.specs.Row.{Row, number}
use Rattle.columnar_core.specs.Bounds.{rises, numbers}
use Rattle.columnar_primitive.specs.Multiples.{multiples}

pub multiples-none : (k from : ℕ) → multiples k from 0 ≡ []
unfolding multiples
multiples-none k from = refl

pub multiples-more : (k from n : ℕ) → multiples k from (suc n) ≡ number (k * suc from) ∷ multiples k (suc from) n
unfolding multiples
multiples-more k from n = refl

pub length-multiples : (k from n : ℕ) → length (multiples k from n) ≡ n
unfolding multiples
length-multiples k from zero = refl
length-multiples k from (suc n) = ap suc (length-multiples k (suc from) n)

-- multiples are numbers
pub multiples_numbers : (k from n : ℕ) → multiples k from n ≡ map number (numbers (multiples k from n))
unfolding multiples
multiples_numbers k from zero = refl
multiples_numbers k from (suc n) = ap (λ (t : List Row). number (k * suc from) ∷ t) (multiples_numbers k (suc from) n)

pub multiples-append : (k from m n : ℕ) → multiples k from (m + n) ≡ multiples k from m ++ multiples k (from + m) n
unfolding multiples
multiples-append k from zero n = let a : zero + n ≡ n = omega arith in let b : from + zero ≡ from = omega arith in rw (a, b) refl
multiples-append k from (suc m) n =
    let a : suc m + n ≡ suc (m + n) = omega arith in
    let b : from + suc m ≡ suc from + m = omega arith in
    rw (a, b) (ap (λ t. number (k * suc from) ∷ t) (multiples-append k (suc from) m n))

pub multiples-take : (k from m n : ℕ) → m ≤ n → take m (multiples k from n) ≡ multiples k from m
unfolding multiples
multiples-take k from zero n l = refl
multiples-take k from (suc m) zero l = absurd (omega arith)
multiples-take k from (suc m) (suc n) l = ap (λ t. number (k * suc from) ∷ t) (multiples-take k (suc from) m n (omega arith))

pub multiples-drop : (k from m n r : ℕ) → m + r ≡ n → drop m (multiples k from n) ≡ multiples k (from + m) r
unfolding multiples
multiples-drop k from zero n r e = let a : n ≡ r = omega arith in let b : from + zero ≡ from = omega arith in rw (a, b) refl
multiples-drop k from (suc m) zero r e = absurd (omega arith)
multiples-drop k from (suc m) (suc n) r e = let b : from + suc m ≡ suc from + m = omega arith in rw b (multiples-drop k (suc from) m n r (omega arith))

-- a range of the first n multiples
pub multiples-piece : (k m r n : ℕ) → m + r ≤ n → take r (drop m (multiples k 0 n)) ≡ multiples k m r
multiples-piece k m r n l =
    let d : drop m (multiples k 0 n) ≡ multiples k (0 + m) (n - m) = multiples-drop k 0 m n (n - m) (omega arith) in
    let z : 0 + m ≡ m = omega arith in
    ap (take r) d ∙ (rw z (multiples-take k m r (n - m) (omega arith)))

pub multiples_get : (k from i n : ℕ) → i < n → slice_get (multiples k from n) i ≡ Some (number (k * suc (from + i)))
unfolding multiples
multiples_get k from i zero l = absurd (omega arith)
multiples_get k from zero (suc n) l = let a : from + zero ≡ from = omega arith in rw a refl
multiples_get k from (suc i) (suc n) l = let b : from + suc i ≡ suc from + i = omega arith in rw b (multiples_get k (suc from) i n (omega arith))

-- if one multiple is at its place, so are all after it
pub multiples-shift : (k m n r : ℕ) → k * suc m ≡ k * suc n → multiples k m r ≡ multiples k n r
unfolding multiples
multiples-shift k m n zero e = refl
multiples-shift k m n (suc r) e =
    let a : k * suc (suc m) ≡ k * suc (suc n) = omega arith in
    let t = multiples-shift k (suc m) (suc n) r a in
    rw (e, t) refl

-- multiples never decrease
pub multiples-rise : (k from n : ℕ) (rest : List Row) (end : ℕ) → rises (k * from) (numbers (multiples k from n ++ rest)) end ≡ rises (k * (from + n)) (numbers rest) end
unfolding multiples
multiples-rise k from zero rest end = let a : from + zero ≡ from = omega arith in rw a refl
multiples-rise k from (suc n) rest end =
    let a : from + suc n ≡ suc from + n = omega arith in
    let b : nat_le (k * from) (k * suc from) ≡ true = le-leb (k * from) (k * suc from) (omega arith) in
    rw (a, b) (multiples-rise k (suc from) n rest end)

-- multiples end at the last of them
pub multiples_end : (k n end : ℕ) → rises 0 (numbers (multiples k 0 n)) end ≡ nat_eq (k * n) end
multiples_end k n end =
    let z : k * 0 ≡ 0 = omega arith in
    let e : 0 + n ≡ n = omega arith in
    let h : rises (k * 0) (numbers (multiples k 0 n ++ [])) end ≡ rises (k * (0 + n)) (numbers []) end = multiples-rise k 0 n [] end in
    rw (z, append-nil, e) at h
