-- The places of the columns of a bank.
use Rattle.std.proofs.Common.{◌≡◌, ℕ, zero, suc, ◌<◌, refl, arith}

pub only_known : 0 < 1
only_known = omega arith

pub first_known : (n : ℕ) → 0 < suc n
first_known n = omega arith

pub later_known : {k n : ℕ} → k < n → suc k < suc n
later_known l = omega (arith, l)
