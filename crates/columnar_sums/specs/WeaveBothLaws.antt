-- Bits, the values of the set ones and the errors of the clear ones: two weaves, one by the bits and one by the
-- inverted bits.
use Rattle.std.proofs.Common.{◌≡◌, ℕ, zero, suc, ◌+◌, ◌-◌, ◌≤◌, Bool, true, false, not, List, [], ◌∷◌, ◌++◌, length, take, drop, map, refl, sym, ◌∙◌, ap, arith}
use Rattle.std.specs.Prelude.{slice_get, Some, option_map}
use Rattle.std.proofs.lemmas.Bool.{and_parts, and_from}
use Rattle.std.proofs.lemmas.List.{map-append, length-map, take-map, drop-map}
use Rattle.std.proofs.lemmas.Option.{slice_get-map}
use Rattle.columnar_core.specs.Row.{Row, unit, none, some, tuple, ok, err}
use Rattle.columnar_core.specs.Format.{IsSame, all_alike}
use Rattle.columnar_base.specs.Tuples.{tuples}
use Rattle.columnar_base.specs.TupleLaws.{tuples-append, length-tuples, tuples-take, tuples-drop, slice_get-tuples}
use Rattle.columnar_sums.specs.Counting.{ones}
use Rattle.columnar_sums.specs.CountLaws.{ones_zero, ones_true, ones_false}
use Rattle.columnar_sums.specs.Options.{weave, somes}
use Rattle.columnar_sums.specs.Results.{turned, zeros, weave_results, ok_part, err_part, oks, errs, result_alike}
use Rattle.columnar_sums.specs.WeaveLaws.{ones_first, ones_cut, ones_both, ones_taken, ones_range, length-weave, weave-append, weave-take, weave-range, weave_some, weave_none, somes-append, somes-weave}

-- counting

-- each of the first n is set or clear
pub ones_zeros : (b : List Bool) (n : ℕ) → n ≤ length b → ones b n + zeros b n ≡ n
ones_zeros b zero l = omega (arith, ones_zero b, ones_zero (turned b))
ones_zeros [] (suc n) l = absurd (omega arith)
ones_zeros (true ∷ b) (suc n) l = omega (arith, ones_true b n, ones_false (turned b) n, ones_zeros b n (omega arith))
ones_zeros (false ∷ b) (suc n) l = omega (arith, ones_false b n, ones_true (turned b) n, ones_zeros b n (omega arith))

-- the clear bits are the set bits of the inverted bits
pub zeros_all : (b : List Bool) → ones (turned b) (length (turned b)) ≡ zeros b (length b)
zeros_all b = ap (ones (turned b)) (length-map b not)

pub turned_range : (b : List Bool) (start n : ℕ) → take n (drop start (turned b)) ≡ turned (take n (drop start b))
turned_range b start n = ap (take n) (drop-map not start b) ∙ take-map not n (drop start b)

pub zeros_both : (b c : List Bool) → zeros (b ++ c) (length (b ++ c)) ≡ zeros b (length b) + zeros c (length c)
zeros_both b c =
    let e : ones (turned (b ++ c)) (length (turned (b ++ c))) ≡ ones (turned b ++ turned c) (length (turned b ++ turned c)) = ap (λ (d : List Bool). ones d (length d)) (map-append not b c) in
    omega (arith, e, zeros_all (b ++ c), ones_both (turned b) (turned c), zeros_all b, zeros_all c)

pub zeros_taken : (n : ℕ) (b : List Bool) → zeros (take n b) (length (take n b)) ≡ zeros b n
zeros_taken n b = sym (zeros_all (take n b)) ∙ (ap (λ (d : List Bool). ones d (length d)) (sym (take-map not n b)) ∙ ones_taken n (turned b))

pub zeros_first : (b c : List Bool) (n : ℕ) → n ≤ length b → zeros (b ++ c) n ≡ zeros b n
zeros_first b c n l = ap (λ (d : List Bool). ones d n) (map-append not b c) ∙ ones_first (turned b) (turned c) n (omega (arith, length-map b not))

pub zeros_cut : (b : List Bool) (n k : ℕ) → k ≤ n → zeros (take n b) k ≡ zeros b k
zeros_cut b n k l = ap (λ (d : List Bool). ones d k) (sym (take-map not n b)) ∙ ones_cut (turned b) n k l

pub zeros_range : (b : List Bool) (ws : List Row) (start end : ℕ) → zeros b (length b) ≡ length ws → start ≤ end → end ≤ length b → zeros (take (end - start) (drop start b)) (length (take (end - start) (drop start b))) ≡ length (take (zeros b end - zeros b start) (drop (zeros b start) ws))
zeros_range b ws start end e l m =
    sym (zeros_all (take (end - start) (drop start b)))
    ∙ (ap (λ (d : List Bool). ones d (length d)) (sym (turned_range b start (end - start)))
    ∙ ones_range (turned b) ws start end (zeros_all b ∙ e) l (omega (arith, length-map b not)))

-- the two weaves

-- the result of the option that has a value
abbrev either : Row → Row
either (tuple (some v) s) = ok v
either (tuple none (some w)) = err w
either r = r

weave_sides : (b : List Bool) (vs ws : List Row) → weave_results b vs ws ≡ map either (tuples (weave b vs) (weave (turned b) ws))
weave_sides [] vs ws = refl
weave_sides (true ∷ b) (v ∷ vs) ws = ap (λ t. ok v ∷ t) (weave_sides b vs ws)
weave_sides (true ∷ b) [] ws = ap (λ t. ok unit ∷ t) (weave_sides b [] ws)
weave_sides (false ∷ b) vs (w ∷ ws) = ap (λ t. err w ∷ t) (weave_sides b vs ws)
weave_sides (false ∷ b) vs [] = ap (λ t. err unit ∷ t) (weave_sides b vs [])

same_lengths : (b : List Bool) (vs ws : List Row) → length (weave b vs) ≡ length (weave (turned b) ws)
same_lengths b vs ws = length-weave b vs ∙ sym (length-weave (turned b) ws ∙ length-map b not)

pub length-weave_results : (b : List Bool) (vs ws : List Row) → length (weave_results b vs ws) ≡ length b
length-weave_results b vs ws =
    ap length (weave_sides b vs ws)
    ∙ (length-map (tuples (weave b vs) (weave (turned b) ws)) either ∙ (length-tuples (weave b vs) (weave (turned b) ws) (same_lengths b vs ws) ∙ length-weave b vs))

pub weave_results-append : (b c : List Bool) (vs us ws xs : List Row) → ones b (length b) ≡ length vs → zeros b (length b) ≡ length ws → weave_results (b ++ c) (vs ++ us) (ws ++ xs) ≡ weave_results b vs ws ++ weave_results c us xs
weave_results-append b c vs us ws xs p q =
    let e = weave-append b c vs us p in
    let t : turned (b ++ c) ≡ turned b ++ turned c = map-append not b c in
    let f = weave-append (turned b) (turned c) ws xs (zeros_all b ∙ q) in
    let g = tuples-append (weave b vs) (weave (turned b) ws) (weave c us) (weave (turned c) xs) (same_lengths b vs ws) in
    weave_sides (b ++ c) (vs ++ us) (ws ++ xs)
    ∙ (rw (e, t, f, g) (map-append either (tuples (weave b vs) (weave (turned b) ws)) (tuples (weave c us) (weave (turned c) xs))
    ∙ rw (weave_sides b vs ws, weave_sides c us xs) refl))

pub weave_results-take : (n : ℕ) (b : List Bool) (vs ws : List Row) → weave_results (take n b) (take (ones b n) vs) (take (zeros b n) ws) ≡ take n (weave_results b vs ws)
weave_results-take n b vs ws =
    let t : turned (take n b) ≡ take n (turned b) = sym (take-map not n b) in
    weave_sides (take n b) (take (ones b n) vs) (take (zeros b n) ws)
    ∙ (rw (t, weave-take n b vs, weave-take n (turned b) ws) (sym (ap (take n) (weave_sides b vs ws)
    ∙ (take-map either n (tuples (weave b vs) (weave (turned b) ws)) ∙ ap (map either) (tuples-take n (weave b vs) (weave (turned b) ws))))))

-- a range of woven rows is woven from the range of bits and the rows of its set and of its clear bits
pub weave_results-range : (b : List Bool) (vs ws : List Row) (k m : ℕ) → weave_results (take m (drop k b)) (take (ones b (k + m) - ones b k) (drop (ones b k) vs)) (take (zeros b (k + m) - zeros b k) (drop (zeros b k) ws)) ≡ take m (drop k (weave_results b vs ws))
weave_results-range b vs ws k m =
    let t : turned (take m (drop k b)) ≡ take m (drop k (turned b)) = sym (turned_range b k m) in
    let e = weave-range b vs k m (ones b k) (ones b (k + m)) refl refl in
    let f = weave-range (turned b) ws k m (zeros b k) (zeros b (k + m)) refl refl in
    let both_of : List Row = tuples (weave b vs) (weave (turned b) ws) in
    weave_sides (take m (drop k b)) (take (ones b (k + m) - ones b k) (drop (ones b k) vs)) (take (zeros b (k + m) - zeros b k) (drop (zeros b k) ws))
    ∙ (rw (t, e, f) (sym (ap (λ rs. take m (drop k rs)) (weave_sides b vs ws)
    ∙ (ap (take m) (drop-map either k both_of) ∙ (take-map either m (drop k both_of)
    ∙ ap (map either) (ap (take m) (tuples-drop k (weave b vs) (weave (turned b) ws)) ∙ tuples-take m (drop k (weave b vs)) (drop k (weave (turned b) ws))))))))

-- the rows they were woven from

ok_parts : (b : List Bool) (vs ws : List Row) → map ok_part (weave_results b vs ws) ≡ weave b vs
ok_parts [] vs ws = refl
ok_parts (true ∷ b) (v ∷ vs) ws = ap (λ t. some v ∷ t) (ok_parts b vs ws)
ok_parts (true ∷ b) [] ws = ap (λ t. some unit ∷ t) (ok_parts b [] ws)
ok_parts (false ∷ b) vs (w ∷ ws) = ap (λ t. none ∷ t) (ok_parts b vs ws)
ok_parts (false ∷ b) vs [] = ap (λ t. none ∷ t) (ok_parts b vs [])

err_parts : (b : List Bool) (vs ws : List Row) → map err_part (weave_results b vs ws) ≡ weave (turned b) ws
err_parts [] vs ws = refl
err_parts (true ∷ b) (v ∷ vs) ws = ap (λ t. none ∷ t) (err_parts b vs ws)
err_parts (true ∷ b) [] ws = ap (λ t. none ∷ t) (err_parts b [] ws)
err_parts (false ∷ b) vs (w ∷ ws) = ap (λ t. some w ∷ t) (err_parts b vs ws)
err_parts (false ∷ b) vs [] = ap (λ t. some unit ∷ t) (err_parts b vs [])

pub oks-woven : (b : List Bool) (vs ws : List Row) → ones b (length b) ≡ length vs → oks (weave_results b vs ws) ≡ vs
oks-woven b vs ws e = ap somes (ok_parts b vs ws) ∙ somes-weave b vs e

pub errs-woven : (b : List Bool) (vs ws : List Row) → zeros b (length b) ≡ length ws → errs (weave_results b vs ws) ≡ ws
errs-woven b vs ws e = ap somes (err_parts b vs ws) ∙ somes-weave (turned b) ws (zeros_all b ∙ e)

pub oks-append : (rs ss : List Row) → oks (rs ++ ss) ≡ oks rs ++ oks ss
oks-append rs ss = ap somes (map-append ok_part rs ss) ∙ somes-append (map ok_part rs) (map ok_part ss)

pub errs-append : (rs ss : List Row) → errs (rs ++ ss) ≡ errs rs ++ errs ss
errs-append rs ss = ap somes (map-append err_part rs ss) ∙ somes-append (map err_part rs) (map err_part ss)

-- row i

pub turned_at : (b : List Bool) (i : ℕ) (x : Bool) → slice_get b i ≡ Some x → slice_get (turned b) i ≡ Some (not x)
turned_at b i x h = slice_get-map not b i ∙ ap (option_map not) h

side_row : (b : List Bool) (vs ws : List Row) (i : ℕ) (r s : Row) → slice_get (weave b vs) i ≡ Some r → slice_get (weave (turned b) ws) i ≡ Some s → slice_get (weave_results b vs ws) i ≡ Some (either (tuple r s))
side_row b vs ws i r s p q =
    ap (λ rs. slice_get rs i) (weave_sides b vs ws)
    ∙ (slice_get-map either (tuples (weave b vs) (weave (turned b) ws)) i
    ∙ ap (option_map either) (slice_get-tuples i (weave b vs) (weave (turned b) ws) r s p q))

pub weave_ok : (i : ℕ) (b : List Bool) (vs ws : List Row) (v : Row) → slice_get b i ≡ Some true → slice_get vs (ones b i) ≡ Some v → slice_get (weave_results b vs ws) i ≡ Some (ok v)
weave_ok i b vs ws v p q = side_row b vs ws i (some v) none (weave_some i b vs v p q) (weave_none i (turned b) ws (turned_at b i true p))

pub weave_err : (i : ℕ) (b : List Bool) (vs ws : List Row) (w : Row) → slice_get b i ≡ Some false → slice_get ws (zeros b i) ≡ Some w → slice_get (weave_results b vs ws) i ≡ Some (err w)
weave_err i b vs ws w p q = side_row b vs ws i none (some w) (weave_none i b vs p) (weave_some i (turned b) ws w (turned_at b i false p) q)

-- rows woven from values that represent others represent the rows woven from those
pub weave_results_alike : (p q : Row → Row → Bool) → IsSame p → IsSame q → (b : List Bool) (us vs ws xs : List Row) → all_alike p us vs ≡ true → all_alike q ws xs ≡ true → all_alike (result_alike p q) (weave_results b us ws) (weave_results b vs xs) ≡ true
weave_results_alike p q sp sq [] us vs ws xs h k = refl
weave_results_alike p q sp sq (true ∷ b) [] [] ws xs h k =
    and_from _ _ (and_from _ _ refl (and_from _ _ (and_from _ _ refl (sp.reflexive unit)) (and_from _ _ refl (sq.reflexive unit)))) (weave_results_alike p q sp sq b [] [] ws xs h k)
weave_results_alike p q sp sq (true ∷ b) [] (v ∷ vs) ws xs h k = cc
weave_results_alike p q sp sq (true ∷ b) (u ∷ us) [] ws xs h k = cc
weave_results_alike p q sp sq (true ∷ b) (u ∷ us) (v ∷ vs) ws xs h k =
    let e = and_parts (p u v) (all_alike p us vs) h in
    and_from _ _ (and_from _ _ refl (and_from _ _ (and_from _ _ refl e.0) (and_from _ _ refl (sq.reflexive unit)))) (weave_results_alike p q sp sq b us vs ws xs e.1 k)
weave_results_alike p q sp sq (false ∷ b) us vs [] [] h k =
    and_from _ _ (and_from _ _ refl (and_from _ _ (and_from _ _ refl (sp.reflexive unit)) (and_from _ _ refl (sq.reflexive unit)))) (weave_results_alike p q sp sq b us vs [] [] h k)
weave_results_alike p q sp sq (false ∷ b) us vs [] (x ∷ xs) h k = cc
weave_results_alike p q sp sq (false ∷ b) us vs (w ∷ ws) [] h k = cc
weave_results_alike p q sp sq (false ∷ b) us vs (w ∷ ws) (x ∷ xs) h k =
    let e = and_parts (q w x) (all_alike q ws xs) k in
    and_from _ _ (and_from _ _ refl (and_from _ _ (and_from _ _ refl (sp.reflexive unit)) (and_from _ _ refl e.0))) (weave_results_alike p q sp sq b us vs ws xs h e.1)

-- all rows of one kind

all_ok : (b : List Bool) (vs : List Row) → ones b (length b) ≡ length vs → zeros b (length b) ≡ 0 → weave_results b vs [] ≡ map ok vs
all_ok [] [] e z = refl
all_ok [] (v ∷ vs) e z = absurd (omega (arith, ones_zero []))
all_ok (true ∷ b) (v ∷ vs) e z = ap (λ t. ok v ∷ t) (all_ok b vs (omega (arith, ones_true b (length b))) (omega (arith, ones_false (turned b) (length b))))
all_ok (true ∷ b) [] e z = absurd (omega (arith, ones_true b (length b)))
all_ok (false ∷ b) vs e z = absurd (omega (arith, ones_true (turned b) (length b)))

all_err : (b : List Bool) (ws : List Row) → zeros b (length b) ≡ length ws → ones b (length b) ≡ 0 → weave_results b [] ws ≡ map err ws
all_err [] [] e z = refl
all_err [] (w ∷ ws) e z = absurd (omega (arith, ones_zero []))
all_err (true ∷ b) ws e z = absurd (omega (arith, ones_true b (length b)))
all_err (false ∷ b) (w ∷ ws) e z = ap (λ t. err w ∷ t) (all_err b ws (omega (arith, ones_true (turned b) (length b))) (omega (arith, ones_false b (length b))))
all_err (false ∷ b) [] e z = absurd (omega (arith, ones_true (turned b) (length b)))

pub weave_all_ok : (b : List Bool) (vs ws : List Row) → ones b (length b) ≡ length vs → zeros b (length b) ≡ length ws → length ws ≡ 0 → weave_results b vs ws ≡ map ok vs
weave_all_ok b vs [] e z n = all_ok b vs e z
weave_all_ok b vs (w ∷ ws) e z n = absurd (omega arith)

pub weave_all_err : (b : List Bool) (vs ws : List Row) → ones b (length b) ≡ length vs → zeros b (length b) ≡ length ws → length vs ≡ 0 → weave_results b vs ws ≡ map err ws
weave_all_err b [] ws e z n = all_err b ws z e
weave_all_err b (v ∷ vs) ws e z n = absurd (omega arith)

-- oks have no errs, errs have no oks
pub errs-oks : (vs : List Row) → errs (map ok vs) ≡ []
errs-oks [] = refl
errs-oks (v ∷ vs) = errs-oks vs

pub oks-errs : (ws : List Row) → oks (map err ws) ≡ []
oks-errs [] = refl
oks-errs (w ∷ ws) = oks-errs ws
