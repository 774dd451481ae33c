-- The bytes of slices of arrays.
use Rattle.std.proofs.Common.{◌≡◌, ℕ, ◌<◌, List, [], length, get_or}

-- each of the first k lists has n items
abbrev pub AreArrays : {T : Type 0} → ℕ → List (List T) → ℕ → Type 0
AreArrays {T} n xss k = (i : ℕ) → i < k → length (get_or xss i []) ≡ n
