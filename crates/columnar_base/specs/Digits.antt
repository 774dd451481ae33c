-- How many binary digits a number has: the bound of a search by halves.
use Rattle.std.proofs.Common.{ℕ, ◌-◌}
use Rattle.std.specs.Int.{w64, leading_zeros}

-- the binary digits of a number below 2^64; none for 0
abbrev pub digits : ℕ → ℕ
digits n = 64 - leading_zeros w64 n
