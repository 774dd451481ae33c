-- The number of bytes of a content, computed from its slices.
use Rattle.std.proofs.Common.{◌≡◌, ℕ, zero, suc, ◌+◌, ◌*◌, ◌≤◌, List, [], ◌∷◌, ◌++◌, length, take, refl, ◌∙◌, ap, arith}
use Rattle.std.proofs.Math.Nat.{mul-le-mul_right}
use Rattle.columnar_base.specs.Format.{Format, Content, slice, both, part, plain, IsStorable, slices_of, bytes_held, bytes_of_all}

bytes-append : (xs ys : List (List ℕ)) → bytes_of_all (xs ++ ys) ≡ bytes_of_all xs + bytes_of_all ys
bytes-append [] ys = omega arith
bytes-append (x ∷ xs) ys = let h = bytes-append xs ys in omega (arith, h)

-- the bytes of the content's slices
pub held_slices : (c : Content) → bytes_held c ≡ bytes_of_all (slices_of c)
held_slices (slice bs) = omega arith
held_slices (both x y) = let h = bytes-append (slices_of x) (slices_of y) in omega (arith, h, held_slices x, held_slices y)
held_slices (part l u x) = refl
held_slices (plain rs) = refl

-- A content that slices build has exactly their bytes, well-formed or not.
pub held_built : (f : Format) (ss : List (List ℕ)) → IsStorable f → f.count ≤ length ss → bytes_held (f.build ss) ≡ bytes_of_all (take f.count ss)
held_built f ss law l = held_slices (f.build ss) ∙ ap bytes_of_all (law.built ss l)

-- a test of a content that slices build takes at most 16 steps for each of their bytes
pub turns_held : (f : Format) (ss : List (List ℕ)) (old new : ℕ) → IsStorable f → f.count ≤ length ss → new ≤ old + f.turns * bytes_held (f.build ss) → new ≤ old + 16 * bytes_of_all (take f.count ss)
turns_held f ss old new law l t = omega (arith, held_built f ss law l, mul-le-mul_right (bytes_held (f.build ss)) law.swift, t)

-- some of the slices have no more bytes than all of them
pub bytes_of_some : (n : ℕ) (ss : List (List ℕ)) → bytes_of_all (take n ss) ≤ bytes_of_all ss
bytes_of_some zero ss = omega arith
bytes_of_some (suc n) [] = omega arith
bytes_of_some (suc n) (s ∷ ss) = let h = bytes_of_some n ss in omega (arith, h)
