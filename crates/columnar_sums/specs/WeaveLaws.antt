-- Bits and the values of the set ones.
use Rattle.std.proofs.Common.{◌≡◌, ℕ, zero, suc, ◌+◌, ◌-◌, ◌<◌, ◌≤◌, Bool, true, false, List, [], ◌∷◌, ◌++◌, length, take, drop, map, refl, sym, ◌∙◌, ap, arith, pred, append_assoc, subst, length-take, length-drop}
use Rattle.std.specs.Prelude.{slice_get, Some}
use Rattle.std.proofs.lemmas.Bool.{and_parts, and_from}
use Rattle.columnar_core.specs.Row.{Row, truth, unit, none, some}
use Rattle.columnar_core.specs.Format.{IsSame, all_alike}
use Rattle.columnar_sums.specs.Counting.{ones}
use Rattle.columnar_sums.specs.CountLaws.{ones_zero, ones_true, ones_false}
use Rattle.columnar_sums.specs.Options.{weave, value_of, somes, option_alike}

-- counting

pub ones_nil : (n : ℕ) → ones [] n ≡ 0
unfolding ones
ones_nil zero = refl
ones_nil (suc n) = refl

-- the set bits among the first k, and those among the m after them
pub ones_over : (b : List Bool) (k m : ℕ) → ones b (k + m) ≡ ones b k + ones (drop k b) m
ones_over b zero m = let z = ones_zero b in let e : zero + m ≡ m = omega arith in rw (e, z) (let f : zero + ones b m ≡ ones b m = omega arith in sym f)
ones_over [] (suc k) m = rw (ones_nil (suc k + m), ones_nil (suc k), ones_nil m) refl
ones_over (true ∷ b) (suc k) m =
    let e : suc k + m ≡ suc (k + m) = omega arith in
    ap (ones (true ∷ b)) e ∙ ones_true b (k + m) ∙ omega (arith, ones_over b k m, ones_true b k)
ones_over (false ∷ b) (suc k) m =
    let e : suc k + m ≡ suc (k + m) = omega arith in
    ap (ones (false ∷ b)) e ∙ ones_false b (k + m) ∙ omega (arith, ones_over b k m, ones_false b k)

pub ones_grows : (b : List Bool) (m n : ℕ) → m ≤ n → ones b m ≤ ones b n
ones_grows b m n l =
    let d = ones_over b m (n - m) in
    let e : m + (n - m) ≡ n = omega arith in
    let f : ones b n ≡ ones b m + ones (drop m b) (n - m) = ap (ones b) (sym e) ∙ d in
    omega arith

-- from the end on, the count is that of all bits
pub ones_past : (b : List Bool) (n : ℕ) → length b ≤ n → ones b n ≡ ones b (length b)
ones_past [] n l = rw (ones_nil n, ones_nil 0) refl
ones_past (x ∷ b) zero l = absurd (omega arith)
ones_past (true ∷ b) (suc n) l = ones_true b n ∙ (ap suc (ones_past b n (omega arith)) ∙ sym (ones_true b (length b)))
ones_past (false ∷ b) (suc n) l = ones_false b n ∙ (ones_past b n (omega arith) ∙ sym (ones_false b (length b)))

pub ones_most : (b : List Bool) (n : ℕ) → n ≤ length b → ones b n ≤ ones b (length b)
ones_most b n l = ones_grows b n (length b) l

-- the set bits of two lists, one after the other
pub ones_both : (b c : List Bool) → ones (b ++ c) (length (b ++ c)) ≡ ones b (length b) + ones c (length c)
ones_both [] c = let z = ones_nil 0 in rw z (let f : zero + ones c (length c) ≡ ones c (length c) = omega arith in sym f)
ones_both (true ∷ b) c = omega (arith, ones_true (b ++ c) (length (b ++ c)), ones_both b c, ones_true b (length b))
ones_both (false ∷ b) c = omega (arith, ones_false (b ++ c) (length (b ++ c)), ones_both b c, ones_false b (length b))

pub ones_taken : (n : ℕ) (b : List Bool) → ones (take n b) (length (take n b)) ≡ ones b n
ones_taken zero b = rw (ones_nil 0, ones_zero b) refl
ones_taken (suc n) [] = rw (ones_nil 0, ones_nil (suc n)) refl
ones_taken (suc n) (true ∷ b) = omega (arith, ones_true (take n b) (length (take n b)), ones_taken n b, ones_true b n)
ones_taken (suc n) (false ∷ b) = omega (arith, ones_false (take n b) (length (take n b)), ones_taken n b, ones_false b n)

-- the first bits of a longer list
pub ones_first : (b c : List Bool) (n : ℕ) → n ≤ length b → ones (b ++ c) n ≡ ones b n
ones_first b c zero l = rw (ones_zero (b ++ c), ones_zero b) refl
ones_first [] c (suc n) l = absurd (omega arith)
ones_first (true ∷ b) c (suc n) l = ones_true (b ++ c) n ∙ (ap suc (ones_first b c n (omega arith)) ∙ sym (ones_true b n))
ones_first (false ∷ b) c (suc n) l = ones_false (b ++ c) n ∙ (ones_first b c n (omega arith) ∙ sym (ones_false b n))

pub ones_cut : (b : List Bool) (n k : ℕ) → k ≤ n → ones (take n b) k ≡ ones b k
ones_cut b n zero l = rw (ones_zero (take n b), ones_zero b) refl
ones_cut b zero (suc k) l = absurd (omega arith)
ones_cut [] (suc n) (suc k) l = refl
ones_cut (true ∷ b) (suc n) (suc k) l = ones_true (take n b) k ∙ (ap suc (ones_cut b n k (omega arith)) ∙ sym (ones_true b k))
ones_cut (false ∷ b) (suc n) (suc k) l = ones_false (take n b) k ∙ (ones_cut b n k (omega arith) ∙ sym (ones_false b k))

-- a set bit has fewer set bits before it than there are
pub ones_before : (b : List Bool) (i : ℕ) → slice_get b i ≡ Some true → ones b i < ones b (length b)
ones_before [] i h = cc
ones_before (true ∷ b) zero h = omega (arith, ones_zero (true ∷ b), ones_true b (length b))
ones_before (false ∷ b) zero h = cc
ones_before (true ∷ b) (suc i) h = omega (arith, ones_true b i, ones_before b i h, ones_true b (length b))
ones_before (false ∷ b) (suc i) h = omega (arith, ones_false b i, ones_before b i h, ones_false b (length b))

-- A range of bits has as many set bits as there are values between the ranks of its ends.
pub ones_range : (b : List Bool) (vs : List Row) (start end : ℕ) → ones b (length b) ≡ length vs → start ≤ end → end ≤ length b → ones (take (end - start) (drop start b)) (length (take (end - start) (drop start b))) ≡ length (take (ones b end - ones b start) (drop (ones b start) vs))
ones_range b vs start end e l m =
    let d : start + (end - start) ≡ end = omega arith in
    let o : ones b end ≡ ones b start + ones (drop start b) (end - start) = ap (ones b) (sym d) ∙ ones_over b start (end - start) in
    let h = ones_most b end m in
    ones_taken (end - start) (drop start b) ∙ sym (rw (length-take, length-drop) (omega (arith, o, h, e)))

-- bits as rows

pub bit_of_row : (b : List Bool) (i : ℕ) (x : Bool) → slice_get (map truth b) i ≡ Some (truth x) → slice_get b i ≡ Some x
bit_of_row [] i x h = cc
bit_of_row (y ∷ b) zero x h = let e : y ≡ x = cc in rw e refl
bit_of_row (y ∷ b) (suc i) x h = bit_of_row b i x h

-- weaving

pub length-weave : (b : List Bool) (vs : List Row) → length (weave b vs) ≡ length b
length-weave [] vs = refl
length-weave (false ∷ b) vs = ap suc (length-weave b vs)
length-weave (true ∷ b) (v ∷ vs) = ap suc (length-weave b vs)
length-weave (true ∷ b) [] = ap suc (length-weave b [])

pub weave-append : (b c : List Bool) (vs ws : List Row) → ones b (length b) ≡ length vs → weave (b ++ c) (vs ++ ws) ≡ weave b vs ++ weave c ws
weave-append [] c [] ws e = refl
weave-append [] c (v ∷ vs) ws e = absurd (omega (arith, ones_nil 0))
weave-append (false ∷ b) c vs ws e = ap (λ t. none ∷ t) (weave-append b c vs ws (sym (ones_false b (length b)) ∙ e))
weave-append (true ∷ b) c (v ∷ vs) ws e = ap (λ t. some v ∷ t) (weave-append b c vs ws (ap pred (sym (ones_true b (length b)) ∙ e)))
weave-append (true ∷ b) c [] ws e = absurd (omega (arith, ones_true b (length b)))

take-none : (n : ℕ) (xs : List Row) → xs ≡ [] → take n xs ≡ []
take-none zero xs e = refl
take-none (suc n) xs e = rw e refl

drop-none : (n : ℕ) (xs : List Row) → xs ≡ [] → drop n xs ≡ []
drop-none zero xs e = e
drop-none (suc n) xs e = rw e refl

pub weave-take : (n : ℕ) (b : List Bool) (vs : List Row) → weave (take n b) (take (ones b n) vs) ≡ take n (weave b vs)
weave-take zero b vs = refl
weave-take (suc n) [] vs = refl
weave-take (suc n) (false ∷ b) vs = rw (ones_false b n) (ap (λ t. none ∷ t) (weave-take n b vs))
weave-take (suc n) (true ∷ b) (v ∷ vs) = rw (ones_true b n) (ap (λ t. some v ∷ t) (weave-take n b vs))
weave-take (suc n) (true ∷ b) [] =
    let k = weave-take n b [] in
    let e : take (ones b n) [] ≡ [] = take-none (ones b n) [] refl in
    rw (ones_true b n) (ap (λ t. some unit ∷ t) (rw e at k))

pub weave-drop : (n : ℕ) (b : List Bool) (vs : List Row) → weave (drop n b) (drop (ones b n) vs) ≡ drop n (weave b vs)
weave-drop zero b vs = rw (ones_zero b) refl
weave-drop (suc n) [] vs = refl
weave-drop (suc n) (false ∷ b) vs = rw (ones_false b n) (weave-drop n b vs)
weave-drop (suc n) (true ∷ b) (v ∷ vs) = rw (ones_true b n) (weave-drop n b vs)
weave-drop (suc n) (true ∷ b) [] =
    let k = weave-drop n b [] in
    let e : drop (ones b n) [] ≡ [] = drop-none (ones b n) [] refl in
    rw (ones_true b n) (rw e at k)

-- a range of woven rows is woven from the range of bits and the values of its set bits
pub weave-range : (b : List Bool) (vs : List Row) (k m lo hi : ℕ) → lo ≡ ones b k → hi ≡ ones b (k + m) → weave (take m (drop k b)) (take (hi - lo) (drop lo vs)) ≡ take m (drop k (weave b vs))
weave-range b vs k m lo hi p q =
    let e : hi - lo ≡ ones (drop k b) m = omega (arith, ones_over b k m) in
    rw (e, p) (weave-take m (drop k b) (drop (ones b k) vs)) ∙ ap (take m) (weave-drop k b vs)

pub somes-append : (rs ss : List Row) → somes (rs ++ ss) ≡ somes rs ++ somes ss
somes-append [] ss = refl
somes-append (r ∷ rs) ss = ap (λ t. value_of r ++ t) (somes-append rs ss) ∙ sym (append_assoc (value_of r) (somes rs) (somes ss))

pub somes-weave : (b : List Bool) (vs : List Row) → ones b (length b) ≡ length vs → somes (weave b vs) ≡ vs
somes-weave [] [] e = refl
somes-weave [] (v ∷ vs) e = absurd (omega (arith, ones_nil 0))
somes-weave (false ∷ b) vs e = somes-weave b vs (sym (ones_false b (length b)) ∙ e)
somes-weave (true ∷ b) (v ∷ vs) e = ap (λ t. v ∷ t) (somes-weave b vs (ap pred (sym (ones_true b (length b)) ∙ e)))
somes-weave (true ∷ b) [] e = absurd (omega (arith, ones_true b (length b)))

-- the values of the first n rows
pub length-somes : (n : ℕ) (b : List Bool) (vs : List Row) → length (somes (take n (weave b vs))) ≡ ones b n
length-somes zero b vs = sym (ones_zero b)
length-somes (suc n) [] vs = sym (ones_nil (suc n))
length-somes (suc n) (false ∷ b) vs = length-somes n b vs ∙ sym (ones_false b n)
length-somes (suc n) (true ∷ b) (v ∷ vs) = ap suc (length-somes n b vs) ∙ sym (ones_true b n)
length-somes (suc n) (true ∷ b) [] = ap suc (length-somes n b []) ∙ sym (ones_true b n)

-- row i

pub weave_some : (i : ℕ) (b : List Bool) (vs : List Row) (v : Row) → slice_get b i ≡ Some true → slice_get vs (ones b i) ≡ Some v → slice_get (weave b vs) i ≡ Some (some v)
weave_some i [] vs v p q = cc
weave_some zero (true ∷ b) (w ∷ vs) v p q = let h : slice_get (w ∷ vs) 0 ≡ Some v = subst (λ (n : ℕ). slice_get (w ∷ vs) n ≡ Some v) (ones_zero (true ∷ b)) q in let e : w ≡ v = cc in rw e refl
weave_some zero (true ∷ b) [] v p q = cc
weave_some zero (false ∷ b) vs v p q = cc
weave_some (suc i) (true ∷ b) (w ∷ vs) v p q = weave_some i b vs v p (subst (λ (n : ℕ). slice_get (w ∷ vs) n ≡ Some v) (ones_true b i) q)
weave_some (suc i) (true ∷ b) [] v p q = cc
weave_some (suc i) (false ∷ b) vs v p q = weave_some i b vs v p (subst (λ (n : ℕ). slice_get vs n ≡ Some v) (ones_false b i) q)

pub weave_none : (i : ℕ) (b : List Bool) (vs : List Row) → slice_get b i ≡ Some false → slice_get (weave b vs) i ≡ Some none
weave_none i [] vs p = cc
weave_none zero (true ∷ b) vs p = cc
weave_none zero (false ∷ b) vs p = refl
weave_none (suc i) (true ∷ b) (w ∷ vs) p = weave_none i b vs p
weave_none (suc i) (true ∷ b) [] p = weave_none i b [] p
weave_none (suc i) (false ∷ b) vs p = weave_none i b vs p

-- rows woven from values that represent others represent the rows woven from those
pub weave_alike : (same : Row → Row → Bool) → IsSame same → (b : List Bool) (us vs : List Row) → ones b (length b) ≡ length vs → all_alike same us vs ≡ true → all_alike (option_alike same) (weave b us) (weave b vs) ≡ true
weave_alike same s [] us vs e h = refl
weave_alike same s (true ∷ b) [] [] e h = absurd (omega (arith, ones_true b (length b)))
weave_alike same s (true ∷ b) [] (v ∷ vs) e h = cc
weave_alike same s (true ∷ b) (u ∷ us) [] e h = cc
weave_alike same s (true ∷ b) (u ∷ us) (v ∷ vs) e h =
    let p = and_parts (same u v) (all_alike same us vs) h in
    and_from _ _ (and_from _ _ refl p.0) (weave_alike same s b us vs (ap pred (sym (ones_true b (length b)) ∙ e)) p.1)
weave_alike same s (false ∷ b) us vs e h = and_from _ _ (and_from _ _ refl (s.reflexive unit)) (weave_alike same s b us vs (sym (ones_false b (length b)) ∙ e) h)

-- one bit
pub ones_of_true : ones (true ∷ []) 1 ≡ 1
unfolding ones
ones_of_true = refl

pub ones_of_false : ones (false ∷ []) 1 ≡ 0
unfolding ones
ones_of_false = refl
