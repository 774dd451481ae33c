-- How the tests of two parts test the whole.
use Rattle.std.proofs.Common.{◌≡◌, ℕ, zero, suc, ◌+◌, ◌*◌, ◌≤◌, ◌^◌, Bool, true, false, ◌&&◌, List, [], ◌∷◌, ◌++◌, length, take, drop, refl, sym, ◌∙◌, ap, arith, append_assoc, length-append, length-drop}
use Rattle.std.specs.Prelude.{slice_get, Option, Some, None, nat_le, nat_lt}
use Rattle.std.proofs.lemmas.List.{drop-drop, map-append}
use Rattle.std.proofs.lemmas.Bool.{and_parts, and_from, leb-true, le-leb}
use Rattle.std.proofs.Math.Nat.{mul-le-mul_right}
use Rattle.columnar_base.specs.Format.{Format, Content, slice, both, part, plain, Fits, IsSound, IsStorable, Fault, fault, moved, moved_one, first, unless, slices_of, representable, are_sizes}
use Rattle.columnar_base.specs.FaultLaws.{moved_twice, first_found, first_none, nothing_left, nothing_both, nothing_moved, moved_nothing, unless_true, true_unless}
use Rattle.std.proofs.Math.Seq.{drop-append_seam}
use Rattle.columnar_base.specs.TwoParts.{IsBoth, TwoParts, SoundTwo, no_slices, both_broken}

-- a sound content has both parts
pub two_form : {f a b : Format} {test : Content → Content → Bool} {rule : ℕ} → TwoParts f a b test rule → (c : Content) → IsSound f c → IsBoth c
two_form t (both x y) s = record { left = x; right = y; is = refl }
two_form t (slice bs) s = let e = t.broken (slice bs) in let h = s.accepted in cc
two_form t (part l u x) s = let e = t.broken (part l u x) in let h = s.accepted in cc
two_form t (plain rs) s = let e = t.broken (plain rs) in let h = s.accepted in cc

pub two_parts : {f a b : Format} {test : Content → Content → Bool} {rule : ℕ} → TwoParts f a b test rule → (x y : Content) → IsSound f (both x y) → SoundTwo a b x y (test x y)
two_parts {f} {a} {b} {test} {rule} t x y s =
    let p = nothing_left (a.broken x) (moved a.count (b.broken y) ++ unless (test x y) (fault rule 0)) (sym (t.broken (both x y)) ∙ s.accepted) in
    let q = nothing_left (moved a.count (b.broken y)) (unless (test x y) (fault rule 0)) p.1 in
    record {
      left = record { accepted = p.0 };
      right = record { accepted = nothing_moved a.count (b.broken y) q.0 };
      own = unless_true (test x y) (fault rule 0) q.1;
    }

pub two_sound : {f a b : Format} {test : Content → Content → Bool} {rule : ℕ} → TwoParts f a b test rule → (x y : Content) → SoundTwo a b x y (test x y) → IsSound f (both x y)
two_sound {f} {a} {b} {test} {rule} t x y s = record {
  accepted = t.broken (both x y)
      ∙ nothing_both (a.broken x) (moved a.count (b.broken y) ++ unless (test x y) (fault rule 0)) s.left.accepted
      (nothing_both (moved a.count (b.broken y)) (unless (test x y) (fault rule 0)) (moved_nothing a.count (b.broken y) s.right.accepted) (true_unless (test x y) (fault rule 0) s.own));
}

-- the faults of both parts, then the own one, counted from `o`
pub two_moved : {f a b : Format} {test : Content → Content → Bool} {rule : ℕ} → TwoParts f a b test rule → (x y : Content) (o : ℕ) → moved o (f.broken (both x y)) ≡ moved o (a.broken x) ++ (moved (o + a.count) (b.broken y) ++ moved o (unless (test x y) (fault rule 0)))
two_moved {f} {a} {b} {test} {rule} t x y o =
    let e = t.broken (both x y) in
    let m1 : moved o (a.broken x ++ (moved a.count (b.broken y) ++ unless (test x y) (fault rule 0))) ≡ moved o (a.broken x) ++ moved o (moved a.count (b.broken y) ++ unless (test x y) (fault rule 0)) = map-append (moved_one o) (a.broken x) (moved a.count (b.broken y) ++ unless (test x y) (fault rule 0)) in
    let m2 : moved o (moved a.count (b.broken y) ++ unless (test x y) (fault rule 0)) ≡ moved o (moved a.count (b.broken y)) ++ moved o (unless (test x y) (fault rule 0)) = map-append (moved_one o) (moved a.count (b.broken y)) (unless (test x y) (fault rule 0)) in
    let m3 = moved_twice o a.count (b.broken y) in
    rw e (m1 ∙ (rw (m2, m3) refl))

-- the slices of two parts
pub two_built : {f a b : Format} {test : Content → Content → Bool} {rule : ℕ} → TwoParts f a b test rule → (ss : List (List ℕ)) (o : ℕ) → f.build (drop o ss) ≡ both (a.build (drop o ss)) (b.build (drop (o + a.count) ss))
two_built {f} {a} {b} t ss o =
    let d : drop a.count (drop o ss) ≡ drop (o + a.count) ss = drop-drop a.count o ss in
    rw (t.build, d) refl

-- the first part breaks a rule
pub two_left : {f a b : Format} {test : Content → Content → Bool} {rule : ℕ} → TwoParts f a b test rule → (x y : Content) (o : ℕ) (z : Fault) → Some z ≡ first (moved o (a.broken x)) → Some z ≡ first (moved o (f.broken (both x y)))
two_left {f} {a} {b} {test} {rule} t x y o z h =
    rw (two_moved t x y o) (sym (first_found (moved o (a.broken x)) (moved (o + a.count) (b.broken y) ++ moved o (unless (test x y) (fault rule 0))) z (sym h)))

pub two_right : {f a b : Format} {test : Content → Content → Bool} {rule : ℕ} → TwoParts f a b test rule → (x y : Content) (o : ℕ) (z : Fault) → None ≡ first (moved o (a.broken x)) → Some z ≡ first (moved (o + a.count) (b.broken y)) → Some z ≡ first (moved o (f.broken (both x y)))
two_right {f} {a} {b} {test} {rule} t x y o z n h =
    let e : moved o (a.broken x) ≡ [] = first_none (moved o (a.broken x)) (sym n) in
    rw (two_moved t x y o, e) (sym (first_found (moved (o + a.count) (b.broken y)) (moved o (unless (test x y) (fault rule 0))) z (sym h)))

pub two_own : {f a b : Format} {test : Content → Content → Bool} {rule : ℕ} → TwoParts f a b test rule → (x y : Content) (o : ℕ) → None ≡ first (moved o (a.broken x)) → None ≡ first (moved (o + a.count) (b.broken y)) → test x y ≡ false → Some (fault rule o) ≡ first (moved o (f.broken (both x y)))
two_own {f} {a} {b} {test} {rule} t x y o n m h =
    let e : moved o (a.broken x) ≡ [] = first_none (moved o (a.broken x)) (sym n) in
    let g : moved (o + a.count) (b.broken y) ≡ [] = first_none (moved (o + a.count) (b.broken y)) (sym m) in
    let k : o + 0 ≡ o = omega arith in
    rw (two_moved t x y o, e, g, h, k) refl

pub two_fine : {f a b : Format} {test : Content → Content → Bool} {rule : ℕ} → TwoParts f a b test rule → (x y : Content) (o : ℕ) → None ≡ first (moved o (a.broken x)) → None ≡ first (moved (o + a.count) (b.broken y)) → test x y ≡ true → None ≡ first (moved o (f.broken (both x y)))
two_fine {f} {a} {b} {test} {rule} t x y o n m h =
    let e : moved o (a.broken x) ≡ [] = first_none (moved o (a.broken x)) (sym n) in
    let g : moved (o + a.count) (b.broken y) ≡ [] = first_none (moved (o + a.count) (b.broken y)) (sym m) in
    rw (two_moved t x y o, e, g, h) refl

pub two_counted : {m n : ℕ} (xs ys : List (List ℕ)) → length xs ≡ m → length ys ≡ n → length (xs ++ ys) ≡ m + n
two_counted {m} {n} xs ys p q = length-append xs ys ∙ omega (arith, p, q)

-- slice i of two parts
pub flat_left : (xs ys : List (List ℕ)) (i : ℕ) (b : List ℕ) → slice_get xs i ≡ Some b → slice_get (xs ++ ys) i ≡ Some b
flat_left [] ys i b h = cc
flat_left (x ∷ xs) ys zero b h = h
flat_left (x ∷ xs) ys (suc i) b h = flat_left xs ys i b h

pub flat_right : (xs ys : List (List ℕ)) (i k : ℕ) (b : List ℕ) → i ≡ length xs + k → slice_get ys k ≡ Some b → slice_get (xs ++ ys) i ≡ Some b
flat_right [] ys i k b e h = let f : i ≡ k = omega arith in rw f h
flat_right (x ∷ xs) ys zero k b e h = absurd (omega arith)
flat_right (x ∷ xs) ys (suc i) k b e h = flat_right xs ys i k b (omega arith) h

-- the same for the slices of a store
pub two_right_at : {f a b : Format} {test : Content → Content → Bool} {rule : ℕ} → TwoParts f a b test rule → (ss : List (List ℕ)) (o : ℕ) (z : Fault) → None ≡ first (moved o (a.broken (a.build (drop o ss)))) → Some z ≡ first (moved (o + a.count) (b.broken (b.build (drop (o + a.count) ss)))) → Some z ≡ first (moved o (f.broken (f.build (drop o ss))))
two_right_at {f} {a} {b} t ss o z n h = rw (two_built t ss o) (two_right t (a.build (drop o ss)) (b.build (drop (o + a.count) ss)) o z n h)

pub two_fine_at : {f a b : Format} {test : Content → Content → Bool} {rule : ℕ} → TwoParts f a b test rule → (ss : List (List ℕ)) (o : ℕ) → None ≡ first (moved o (a.broken (a.build (drop o ss)))) → None ≡ first (moved (o + a.count) (b.broken (b.build (drop (o + a.count) ss)))) → test (a.build (drop o ss)) (b.build (drop (o + a.count) ss)) ≡ true → None ≡ first (moved o (f.broken (f.build (drop o ss))))
two_fine_at {f} {a} {b} t ss o n m h = rw (two_built t ss o) (two_fine t (a.build (drop o ss)) (b.build (drop (o + a.count) ss)) o n m h)

pub two_own_at : {f a b : Format} {test : Content → Content → Bool} {rule : ℕ} → TwoParts f a b test rule → (ss : List (List ℕ)) (o : ℕ) → None ≡ first (moved o (a.broken (a.build (drop o ss)))) → None ≡ first (moved (o + a.count) (b.broken (b.build (drop (o + a.count) ss)))) → test (a.build (drop o ss)) (b.build (drop (o + a.count) ss)) ≡ false → Some (fault rule o) ≡ first (moved o (f.broken (f.build (drop o ss))))
two_own_at {f} {a} {b} t ss o n m h = rw (two_built t ss o) (two_own t (a.build (drop o ss)) (b.build (drop (o + a.count) ss)) o n m h)

sizes_left : (xs ys : List ℕ) → are_sizes (xs ++ ys) ≡ true → are_sizes xs ≡ true
sizes_left [] ys h = refl
sizes_left (x ∷ xs) ys h =
    let p = and_parts (nat_le 1 x) (nat_lt x (2 ^ 63) && are_sizes (xs ++ ys)) h in
    let q = and_parts (nat_lt x (2 ^ 63)) (are_sizes (xs ++ ys)) p.1 in
    and_from _ _ p.0 (and_from _ _ q.0 (sizes_left xs ys q.1))

sizes_right : (xs ys : List ℕ) → are_sizes (xs ++ ys) ≡ true → are_sizes ys ≡ true
sizes_right [] ys h = h
sizes_right (x ∷ xs) ys h =
    let p = and_parts (nat_le 1 x) (nat_lt x (2 ^ 63) && are_sizes (xs ++ ys)) h in
    sizes_right xs ys (and_parts (nat_lt x (2 ^ 63)) (are_sizes (xs ++ ys)) p.1).1

-- the parts of a representable type are representable
pub representable_left : {f a b : Format} {test : Content → Content → Bool} {rule : ℕ} → TwoParts f a b test rule → representable f ≡ true → representable a ≡ true
representable_left {f} {a} {b} t h =
    let p = and_parts (nat_le f.count (2 ^ 60)) (are_sizes f.sizes) h in
    let c : f.count ≤ 2 ^ 60 = leb-true f.count (2 ^ 60) p.0 in
    and_from _ _ (le-leb a.count (2 ^ 60) (omega (arith, c, t.count))) (sizes_left a.sizes b.sizes (rw t.sizes at p.1))

pub representable_right : {f a b : Format} {test : Content → Content → Bool} {rule : ℕ} → TwoParts f a b test rule → representable f ≡ true → representable b ≡ true
representable_right {f} {a} {b} t h =
    let p = and_parts (nat_le f.count (2 ^ 60)) (are_sizes f.sizes) h in
    let c : f.count ≤ 2 ^ 60 = leb-true f.count (2 ^ 60) p.0 in
    and_from _ _ (le-leb b.count (2 ^ 60) (omega (arith, c, t.count))) (sizes_right a.sizes b.sizes (rw t.sizes at p.1))

-- both parts together have at most 2^60 slices
pub representable_count : {f a b : Format} {test : Content → Content → Bool} {rule : ℕ} → TwoParts f a b test rule → representable f ≡ true → a.count + b.count ≤ 2 ^ 60
representable_count {f} {a} {b} t h =
    let p = and_parts (nat_le f.count (2 ^ 60)) (are_sizes f.sizes) h in
    let c : f.count ≤ 2 ^ 60 = leb-true f.count (2 ^ 60) p.0 in
    omega (arith, c, t.count)

-- the steps of both parts are bounded by those of the whole
pub two_turns : (r a b m n : ℕ) → a ≤ r → b ≤ r → a * m + b * n ≤ r * (m + n)
two_turns r a b m n p q =
    let u = mul-le-mul_right m p in
    let v = mul-le-mul_right n q in
    omega (arith, u, v)

take_none : (n : ℕ) → take n no_slices ≡ no_slices
take_none zero = refl
take_none (suc n) = refl

-- the slices of both parts are the slices of the whole
take_both : (m n : ℕ) (ss : List (List ℕ)) → take m ss ++ take n (drop m ss) ≡ take (m + n) ss
take_both zero n ss = let e : zero + n ≡ n = omega arith in rw e refl
take_both (suc m) n [] = take_none n ∙ sym (take_none (suc m + n))
take_both (suc m) n (s ∷ ss) = let e : suc m + n ≡ suc (m + n) = omega arith in rw e (ap (λ t. s ∷ t) (take_both m n ss))

pub two_slices : {f a b : Format} {test : Content → Content → Bool} {rule : ℕ} → TwoParts f a b test rule → (ss : List (List ℕ)) → f.count ≤ length ss → (a.count ≤ length ss → slices_of (a.build ss) ≡ take a.count ss) → (b.count ≤ length (drop a.count ss) → slices_of (b.build (drop a.count ss)) ≡ take b.count (drop a.count ss)) → slices_of (f.build ss) ≡ take f.count ss
two_slices {f} {a} {b} t ss l p q =
    let x = p (omega (arith, l, t.count)) in
    let y = q (rw length-drop (omega (arith, l, t.count))) in
    rw (t.build ss, t.count, x, y) (take_both a.count b.count ss)

-- both parts of a sound content are sound
pub two_sound_left : {f a b : Format} {test : Content → Content → Bool} {rule : ℕ} → TwoParts f a b test rule → (x y : Content) → IsSound f (both x y) → IsSound a x
two_sound_left t x y s = (two_parts t x y s).left

pub two_sound_right : {f a b : Format} {test : Content → Content → Bool} {rule : ℕ} → TwoParts f a b test rule → (x y : Content) → IsSound f (both x y) → IsSound b y
two_sound_right t x y s = (two_parts t x y s).right

-- the number of slices of both parts together
two_all : {f a b : Format} {test : Content → Content → Bool} {rule : ℕ} → TwoParts f a b test rule → IsStorable a → IsStorable b → (x y : Content) → IsSound f (both x y) → length (slices_of x ++ slices_of y) ≡ f.count
two_all {f} {a} {b} t p q x y s =
    length-append (slices_of x) (slices_of y) ∙ omega (arith, p.counted x (two_sound_left t x y s), q.counted y (two_sound_right t x y s), t.count)

-- the slices of both parts build them again
two_again : {f a b : Format} {test : Content → Content → Bool} {rule : ℕ} → TwoParts f a b test rule → IsStorable a → IsStorable b → (x y : Content) (rest : List (List ℕ)) → IsSound f (both x y) → f.build ((slices_of x ++ slices_of y) ++ rest) ≡ both x y
two_again {f} {a} {b} t p q x y rest s =
    let n = p.counted x (two_sound_left t x y s) in
    let e : (slices_of x ++ slices_of y) ++ rest ≡ slices_of x ++ (slices_of y ++ rest) = append_assoc (slices_of x) (slices_of y) rest in
    let d : drop a.count (slices_of x ++ (slices_of y ++ rest)) ≡ slices_of y ++ rest = rw (← n) (drop-append_seam (slices_of x) (slices_of y ++ rest)) in
    let u = p.rebuilt x (slices_of y ++ rest) (two_sound_left t x y s) in
    let v = q.rebuilt y rest (two_sound_right t x y s) in
    rw (t.build ((slices_of x ++ slices_of y) ++ rest), e, u, d, v) refl

-- The whole is storable if both parts are.
pub two_storable : {f a b : Format} {test : Content → Content → Bool} {rule : ℕ} → TwoParts f a b test rule → f.turns ≤ 16 → IsStorable a → IsStorable b → IsStorable f
two_storable {f} {a} {b} t l p q = record {
  swift = l;
  sized = rw t.sizes (length-append a.sizes b.sizes ∙ omega (arith, p.sized, q.sized, t.count));
  aligned = rw t.aligns (length-append a.aligns b.aligns ∙ omega (arith, p.aligned, q.aligned, t.count));
  counted = λ c s. let w = two_form t c s in rw w.is (two_all t p q w.left w.right (rw w.is at s));
  rebuilt = λ c rest s. let w = two_form t c s in rw w.is (two_again t p q w.left w.right rest (rw w.is at s));
  built = λ ss r. two_slices t ss r (λ k. p.built ss k) (λ k. q.built (drop a.count ss) k);
}

-- the alignment of slice i
pub align_left : (xs ys : List ℕ) (i n : ℕ) → slice_get xs i ≡ Some n → slice_get (xs ++ ys) i ≡ Some n
align_left [] ys i n h = cc
align_left (x ∷ xs) ys zero n h = h
align_left (x ∷ xs) ys (suc i) n h = align_left xs ys i n h

pub align_right : (xs ys : List ℕ) (i k n : ℕ) → i ≡ length xs + k → slice_get ys k ≡ Some n → slice_get (xs ++ ys) i ≡ Some n
align_right [] ys i k n e h = let f : i ≡ k = omega arith in rw f h
align_right (x ∷ xs) ys zero k n e h = absurd (omega arith)
align_right (x ∷ xs) ys (suc i) k n e h = align_right xs ys i k n (omega arith) h

-- the faults of the parts precede the own one
two_after : {f a b : Format} {test : Content → Content → Bool} {rule : ℕ} → TwoParts f a b test rule → (x y : Content) (o : ℕ) → moved o (f.broken (both x y)) ≡ both_broken a b x y o ++ moved o (unless (test x y) (fault rule 0))
two_after {f} {a} {b} {test} {rule} t x y o = two_moved t x y o ∙ sym (append_assoc (moved o (a.broken x)) (moved (o + a.count) (b.broken y)) (moved o (unless (test x y) (fault rule 0))))

pub judged_part : {f a b : Format} {test : Content → Content → Bool} {rule : ℕ} → TwoParts f a b test rule → (x y : Content) (o : ℕ) (z : Fault) → Some z ≡ first (both_broken a b x y o) → Some z ≡ first (moved o (f.broken (both x y)))
judged_part {f} {a} {b} {test} {rule} t x y o z h = rw (two_after t x y o) (sym (first_found (both_broken a b x y o) (moved o (unless (test x y) (fault rule 0))) z (sym h)))

pub judged_own : {f a b : Format} {test : Content → Content → Bool} {rule : ℕ} → TwoParts f a b test rule → (x y : Content) (o : ℕ) → None ≡ first (both_broken a b x y o) → test x y ≡ false → Some (fault rule o) ≡ first (moved o (f.broken (both x y)))
judged_own {f} {a} {b} {test} {rule} t x y o n h =
    let e : both_broken a b x y o ≡ [] = first_none (both_broken a b x y o) (sym n) in
    let k : o + 0 ≡ o = omega arith in
    rw (two_after t x y o, e, h, k) refl

pub judged_fine : {f a b : Format} {test : Content → Content → Bool} {rule : ℕ} → TwoParts f a b test rule → (x y : Content) (o : ℕ) → None ≡ first (both_broken a b x y o) → test x y ≡ true → None ≡ first (moved o (f.broken (both x y)))
judged_fine {f} {a} {b} {test} {rule} t x y o n h =
    let e : both_broken a b x y o ≡ [] = first_none (both_broken a b x y o) (sym n) in
    rw (two_after t x y o, e, h) refl

-- the same for the slices of a store
pub judged_part_at : {f a b : Format} {test : Content → Content → Bool} {rule : ℕ} → TwoParts f a b test rule → (ss : List (List ℕ)) (o : ℕ) (z : Fault) → Some z ≡ first (both_broken a b (a.build (drop o ss)) (b.build (drop (o + a.count) ss)) o) → Some z ≡ first (moved o (f.broken (f.build (drop o ss))))
judged_part_at {f} {a} {b} t ss o z h = rw (two_built t ss o) (judged_part t (a.build (drop o ss)) (b.build (drop (o + a.count) ss)) o z h)

pub judged_own_at : {f a b : Format} {test : Content → Content → Bool} {rule : ℕ} → TwoParts f a b test rule → (ss : List (List ℕ)) (o : ℕ) → None ≡ first (both_broken a b (a.build (drop o ss)) (b.build (drop (o + a.count) ss)) o) → test (a.build (drop o ss)) (b.build (drop (o + a.count) ss)) ≡ false → Some (fault rule o) ≡ first (moved o (f.broken (f.build (drop o ss))))
judged_own_at {f} {a} {b} t ss o n h = rw (two_built t ss o) (judged_own t (a.build (drop o ss)) (b.build (drop (o + a.count) ss)) o n h)

pub judged_fine_at : {f a b : Format} {test : Content → Content → Bool} {rule : ℕ} → TwoParts f a b test rule → (ss : List (List ℕ)) (o : ℕ) → None ≡ first (both_broken a b (a.build (drop o ss)) (b.build (drop (o + a.count) ss)) o) → test (a.build (drop o ss)) (b.build (drop (o + a.count) ss)) ≡ true → None ≡ first (moved o (f.broken (f.build (drop o ss))))
judged_fine_at {f} {a} {b} t ss o n h = rw (two_built t ss o) (judged_fine t (a.build (drop o ss)) (b.build (drop (o + a.count) ss)) o n h)

-- no fault of both parts: no fault of either
pub both_none : (a b : Format) (x y : Content) (o : ℕ) → None ≡ first (moved o (a.broken x)) → None ≡ first (moved (o + a.count) (b.broken y)) → None ≡ first (both_broken a b x y o)
both_none a b x y o p q = rw (first_none (moved o (a.broken x)) (sym p), first_none (moved (o + a.count) (b.broken y)) (sym q)) refl

pub both_left : (a b : Format) (x y : Content) (o : ℕ) (z : Fault) → Some z ≡ first (moved o (a.broken x)) → Some z ≡ first (both_broken a b x y o)
both_left a b x y o z h = sym (first_found (moved o (a.broken x)) (moved (o + a.count) (b.broken y)) z (sym h))

pub both_right : (a b : Format) (x y : Content) (o : ℕ) (v : Option Fault) → None ≡ first (moved o (a.broken x)) → v ≡ first (moved (o + a.count) (b.broken y)) → v ≡ first (both_broken a b x y o)
both_right a b x y o v n h = rw (first_none (moved o (a.broken x)) (sym n)) h

-- the slices of both parts fit if those of the whole do
pub two_fits_left : {f a b : Format} {test : Content → Content → Bool} {rule : ℕ} → TwoParts f a b test rule → (o : ℕ) (ss : List (List ℕ)) → Fits f o ss → Fits a o ss
two_fits_left {f} {a} {b} t o ss h = record {
  room = let r = h.room in omega (arith, r, t.count);
  sound = two_sound_left t (a.build (drop o ss)) (b.build (drop (o + a.count) ss)) (rw (two_built t ss o) at h.sound);
}

pub two_fits_right : {f a b : Format} {test : Content → Content → Bool} {rule : ℕ} → TwoParts f a b test rule → (o : ℕ) (ss : List (List ℕ)) → Fits f o ss → Fits b (o + a.count) ss
two_fits_right {f} {a} {b} t o ss h = record {
  room = let r = h.room in omega (arith, r, t.count);
  sound = two_sound_right t (a.build (drop o ss)) (b.build (drop (o + a.count) ss)) (rw (two_built t ss o) at h.sound);
}
