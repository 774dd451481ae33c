-- A list that others are added to begins with what it began with.
use Rattle.std.proofs.Common.{List, [], ◌∷◌, ◌++◌, ◌≡◌, length, take, refl}
use Rattle.columnar_names.specs.Kept.{BeginsWith}

pub begins_longer : {A : Type 0} (xs ys zs : List A) → BeginsWith xs ys → BeginsWith xs (ys ++ zs)
begins_longer [] ys zs h = refl
begins_longer (x ∷ xs) [] zs h = cc
begins_longer (x ∷ xs) (y ∷ ys) zs h =
    let rest : take (length xs) ys ≡ xs = cc in
    let longer : take (length xs) (ys ++ zs) ≡ xs = begins_longer xs ys zs rest in
    cc
