-- What follows of how many binary digits a number has.
use Rattle.std.proofs.Common.{◌≡◌, ℕ, zero, suc, ◌+◌, ◌*◌, ◌/◌, ◌^◌, ◌<◌, ◌≤◌, ap, ⊎_elim, arith}
use Rattle.std.proofs.lemmas.Bool.{cases_lt}
use Rattle.std.proofs.lemmas.Nat.{leading_length, pow-add, pow_below}
use Rattle.columnar_base.specs.Digits.{digits}

pow_le : (i j : ℕ) → i ≤ j → 2 ^ i ≤ 2 ^ j
pow_le i j h = ⊎_elim (λ (p : i < j). let l = pow_below i j p in omega arith) (λ (p : j ≤ i). let e : i ≡ j = omega arith in let d = ap (λ (x : ℕ). 2 ^ x) e in omega arith) (cases_lt i j)

pub digits_from : (r n : ℕ) → n < 2 ^ 64 → 2 ^ r ≤ 2 * n + 1 → r ≤ digits n
digits_from r n h l =
    let m = leading_length 64 n h in
    let d = pow-add 2 m.0 1 in
    let below : n < 2 ^ m.0 = m.2 in
    let c : r ≤ m.0 = ⊎_elim (λ (p : m.0 < r). let q : 2 ^ (m.0 + 1) ≤ 2 ^ r = pow_le (m.0 + 1) r (omega arith) in absurd (omega arith)) (λ (p : r ≤ m.0). p) (cases_lt m.0 r) in
    omega (arith, m.1)

-- a number of d binary digits is at least half of 2^d
pub digits_reach : (n : ℕ) → n < 2 ^ 64 → 2 ^ digits n ≤ 2 * n + 1
digits_reach n h =
    let m = leading_length 64 n h in
    let e : digits n ≡ m.0 = omega arith in
    let d = ap (λ (x : ℕ). 2 ^ x) e in
    omega arith

-- a smaller number has no more digits
pub digits_le : (m n : ℕ) → n < 2 ^ 64 → m ≤ n → digits m ≤ digits n
digits_le m n h l = let r = digits_reach m (omega arith) in digits_from (digits m) n h (omega arith)

-- half of a number has one digit less
pub digits_half : (m n : ℕ) → n < 2 ^ 64 → 0 < n → m ≤ n / 2 → digits m + 1 ≤ digits n
digits_half m n h p l = digits_from (digits m + 1) n h (go (digits m) (digits_reach m (omega arith)))
  where
    go : (d : ℕ) → 2 ^ d ≤ 2 * m + 1 → 2 ^ (d + 1) ≤ 2 * n + 1
    go zero r = omega arith
    go (suc d) r =
        let e = pow-add 2 d 1 in
        let q = pow-add 2 (suc d) 1 in
        let t : suc d ≡ d + 1 = omega arith in
        let u = ap (λ (x : ℕ). 2 ^ x) t in
        omega arith
