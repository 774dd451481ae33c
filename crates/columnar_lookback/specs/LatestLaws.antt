-- The values of woven rows, the last one first.
use Rattle.std.proofs.Common.{◌≡◌, ℕ, zero, suc, ◌+◌, ◌-◌, ◌<◌, List, [], ◌∷◌, length, take, refl, ◌∙◌, arith}
use Rattle.std.specs.Prelude.{slice_get, Some}
use Rattle.columnar_base.specs.Row.{Row}
use Rattle.columnar_lookback.specs.Recall.{recent}

-- the rows of vs, the last one first, and then ws
abbrev pub onto : List Row → List Row → List Row
onto [] ws = ws
onto (v ∷ vs) ws = onto vs (v ∷ ws)

pub length-onto : (vs ws : List Row) → length (onto vs ws) ≡ length vs + length ws
length-onto [] ws = omega arith
length-onto (v ∷ vs) ws = let e = length-onto vs (v ∷ ws) in omega (arith, e)

recent_after : (vs ws : List Row) (m k : ℕ) → k ≡ length vs + m → recent (onto vs ws) k ≡ recent ws m
recent_after [] ws m k e = let f : k ≡ m = omega arith in rw f refl
recent_after (v ∷ vs) ws m k e = recent_after vs (v ∷ ws) (suc m) k (omega arith)

-- the value that is m before the last
pub recent_onto : (vs ws : List Row) (i m : ℕ) (v : Row) → slice_get vs i ≡ Some v → i + suc m ≡ length vs → recent (onto vs ws) m ≡ v
recent_onto [] ws i m v h e = cc
recent_onto (w ∷ vs) ws zero m v h e = let q : w ≡ v = cc in recent_after vs (w ∷ ws) 0 m (omega arith) ∙ q
recent_onto (w ∷ vs) ws (suc i) m v h e = recent_onto vs (w ∷ ws) i m v h (omega arith)

-- row i of the first n
pub taken_at : (n i : ℕ) (vs : List Row) (v : Row) → i < n → slice_get vs i ≡ Some v → slice_get (take n vs) i ≡ Some v
taken_at zero i vs v l h = absurd (omega arith)
taken_at (suc n) i [] v l h = cc
taken_at (suc n) zero (w ∷ vs) v l h = h
taken_at (suc n) (suc i) (w ∷ vs) v l h = taken_at n i vs v (omega arith) h
