-- The lists into which bounds divide values.
use Rattle.std.proofs.Common.{◌≡◌, ℕ, zero, suc, ◌+◌, ◌-◌, ◌<◌, ◌≤◌, Bool, true, ◌&&◌, List, [], ◌∷◌, ◌++◌, length, take, drop, map, refl, sym, ◌∙◌, ap, arith, length-append, length-take, append_assoc, length-drop}
use Rattle.std.proofs.Math.Seq.{take-append_seam, drop-append_seam, take-add}
use Rattle.std.specs.Prelude.{slice_get, Some, nat_le}
use Rattle.std.proofs.lemmas.List.{take-append-le, drop-append-le, take-map, drop-drop}
use Rattle.std.proofs.lemmas.Option.{slice_get-map}
use Rattle.std.proofs.lemmas.Bool.{and_parts, and_from, eqb-true, eq-eqb, leb-true, le-leb}
use Rattle.columnar_base.specs.Row.{Row, list, number, items_of, list_end, empty, row_eq}
use Rattle.columnar_base.specs.RowLaws.{row_eq-is, is-row_eq, same_items, items_of-list, end_of-list}
use Rattle.columnar_base.specs.Format.{IsSame, IsExact, all_alike}
use Rattle.columnar_base.specs.AlikeLaws.{alike_is, alike_all, same_pulled, same_both, row_eq_same, row_eq_exact, alike_back, alike_on, alike_take, alike_drop}
use Rattle.columnar_core.specs.Bounds.{rises, numbers, last_or, shifted}
use Rattle.columnar_core.specs.BoundLaws.{last_at}
use Rattle.columnar_lists.specs.Lists.{list_alike, joined, cut, ends}

pub rises-last : (from : ℕ) (ns : List ℕ) (end : ℕ) → rises from ns end ≡ true → last_or from ns ≡ end
rises-last from [] end h = eqb-true from end h
rises-last from (n ∷ ns) end h = rises-last n ns end (and_parts _ _ h).1

pub rises-from : (from : ℕ) (ns : List ℕ) (end : ℕ) → rises from ns end ≡ true → from ≤ end
rises-from from [] end h = let e = eqb-true from end h in omega arith
rises-from from (n ∷ ns) end h =
    let p = and_parts (nat_le from n) (rises n ns end) h in
    let a : from ≤ n = leb-true from n p.0 in
    let b = rises-from n ns end p.1 in
    omega arith

-- bounds that rise to `mid`, then others from there to `end`
pub rises-append : (from : ℕ) (ns ms : List ℕ) (mid end : ℕ) → rises from ns mid ≡ true → rises mid ms end ≡ true → rises from (ns ++ ms) end ≡ true
rises-append from [] ms mid end h k =
    let e = eqb-true from mid h in
    rw e k
rises-append from (n ∷ ns) ms mid end h k =
    let p = and_parts _ _ h in
    and_from _ _ p.0 (rises-append n ns ms mid end p.1 k)

pub rises-take : (n from : ℕ) (ns : List ℕ) (end : ℕ) → rises from ns end ≡ true → rises from (take n ns) (last_or from (take n ns)) ≡ true
rises-take zero from ns end h = eq-eqb from from refl
rises-take (suc n) from [] end h = eq-eqb from from refl
rises-take (suc n) from (m ∷ ns) end h =
    let p = and_parts _ _ h in
    and_from _ _ p.0 (rises-take n m ns end p.1)

-- the bounds after the first n rise from the last of these n
pub rises-drop : (n from : ℕ) (ns : List ℕ) (end : ℕ) → rises from ns end ≡ true → rises (last_or from (take n ns)) (drop n ns) end ≡ true
rises-drop zero from ns end h = h
rises-drop (suc n) from [] end h = h
rises-drop (suc n) from (m ∷ ns) end h = rises-drop n m ns end (and_parts _ _ h).1

pub last-take : (n from : ℕ) (ns : List ℕ) (end : ℕ) → rises from ns end ≡ true → last_or from (take n ns) ≤ end
last-take zero from ns end h = rises-from from ns end h
last-take (suc n) from [] end h = rises-from from [] end h
last-take (suc n) from (m ∷ ns) end h = last-take n m ns end (and_parts _ _ h).1

pub length-cut : (from : ℕ) (ns : List ℕ) (vs : List Row) → length (cut from ns vs) ≡ length ns
length-cut from [] vs = refl
length-cut from (n ∷ ns) vs = ap suc (length-cut n ns vs)

pub cut-take : (n from : ℕ) (ns : List ℕ) (vs : List Row) → cut from (take n ns) vs ≡ take n (cut from ns vs)
cut-take zero from ns vs = refl
cut-take (suc n) from [] vs = refl
cut-take (suc n) from (m ∷ ns) vs = ap (λ t. list (take (m - from) (drop from vs)) ∷ t) (cut-take n m ns vs)

pub cut-drop : (n from : ℕ) (ns : List ℕ) (vs : List Row) → cut (last_or from (take n ns)) (drop n ns) vs ≡ drop n (cut from ns vs)
cut-drop zero from ns vs = refl
cut-drop (suc n) from [] vs = refl
cut-drop (suc n) from (m ∷ ns) vs = cut-drop n m ns vs

pub cut-append : (from : ℕ) (ns ms : List ℕ) (vs : List Row) → cut from (ns ++ ms) vs ≡ cut from ns vs ++ cut (last_or from ns) ms vs
cut-append from [] ms vs = refl
cut-append from (n ∷ ns) ms vs = ap (λ t. list (take (n - from) (drop from vs)) ∷ t) (cut-append n ns ms vs)

-- a piece that ends within the values stays if more values follow
pub piece-append : (from n : ℕ) (vs ws : List Row) → from ≤ n → n ≤ length vs → take (n - from) (drop from (vs ++ ws)) ≡ take (n - from) (drop from vs)
piece-append from n vs ws a b =
    rw (drop-append-le from vs ws (omega arith)) (take-append-le (n - from) (drop from vs) ws (rw length-drop (omega arith)))

pub cut-more : (from : ℕ) (ns : List ℕ) (vs ws : List Row) → rises from ns (length vs) ≡ true → cut from ns (vs ++ ws) ≡ cut from ns vs
cut-more from [] vs ws h = refl
cut-more from (n ∷ ns) vs ws h =
    let p = and_parts (nat_le from n) (rises n ns (length vs)) h in
    let a : from ≤ n = leb-true from n p.0 in
    let b = rises-from n ns (length vs) p.1 in
    let e : take (n - from) (drop from (vs ++ ws)) ≡ take (n - from) (drop from vs) = piece-append from n vs ws a b in
    let r = cut-more n ns vs ws p.1 in
    cc

-- each row is a list
abbrev pub are_lists : List Row → Bool
are_lists [] = true
are_lists (r ∷ rs) = row_eq (list_end r) empty && are_lists rs

pub cut_lists : (from : ℕ) (ns : List ℕ) (vs : List Row) → are_lists (cut from ns vs) ≡ true
cut_lists from [] vs = refl
cut_lists from (n ∷ ns) vs = and_from _ _ (is-row_eq (list_end (list (take (n - from) (drop from vs)))) empty (end_of-list (take (n - from) (drop from vs)))) (cut_lists n ns vs)

-- a piece, and the next piece
pub pieces_joined : (m k l : ℕ) (vs : List Row) → m ≤ k → k ≤ l → take (k - m) (drop m vs) ++ take (l - k) (drop k vs) ≡ take (l - m) (drop m vs)
pieces_joined m k l vs p q =
    let d : drop (k - m) (drop m vs) ≡ drop (m + (k - m)) vs = drop-drop (k - m) m vs in
    let e : m + (k - m) ≡ k = omega arith in
    let f : drop k vs ≡ drop (k - m) (drop m vs) = rw e at (sym d) in
    let n : (k - m) + (l - k) ≡ l - m = omega arith in
    rw (f, ← n) (sym (take-add (k - m) (l - k) (drop m vs)))

-- the items of the lists of bounds are the values up to the last bound
pub joined-cut : (from : ℕ) (ns : List ℕ) (end : ℕ) (vs : List Row) → rises from ns end ≡ true → joined (cut from ns vs) ≡ take (end - from) (drop from vs)
joined-cut from [] end vs h =
    let e : from ≡ end = eqb-true from end h in
    let z : end - from ≡ 0 = omega arith in
    rw z refl
joined-cut from (n ∷ ns) end vs h =
    let p = and_parts (nat_le from n) (rises n ns end) h in
    let a : from ≤ n = leb-true from n p.0 in
    let b = rises-from n ns end p.1 in
    let k = joined-cut n ns end vs p.1 in
    let i = items_of-list (take (n - from) (drop from vs)) in
    rw (i, k) (pieces_joined from n end vs a b)

pub joined-append : (rs ss : List Row) → joined (rs ++ ss) ≡ joined rs ++ joined ss
joined-append [] ss = refl
joined-append (r ∷ rs) ss = rw (joined-append rs ss) (sym (append_assoc (items_of r) (joined rs) (joined ss)))

pub ends-append : (from : ℕ) (rs ss : List Row) → ends from (rs ++ ss) ≡ ends from rs ++ ends (from + length (joined rs)) ss
ends-append from [] ss = let e : from + 0 ≡ from = omega arith in rw e refl
ends-append from (r ∷ rs) ss =
    let e : from + length (items_of r ++ joined rs) ≡ from + length (items_of r) + length (joined rs) = omega (arith, length-append (items_of r) (joined rs)) in
    rw e (ap (λ t. number (from + length (items_of r)) ∷ t) (ends-append (from + length (items_of r)) rs ss))

pub length-ends : (from : ℕ) (rs : List Row) → length (ends from rs) ≡ length rs
length-ends from [] = refl
length-ends from (r ∷ rs) = ap suc (length-ends (from + length (items_of r)) rs)

-- the ends of lists rise to the number of their items
pub ends_rise : (from : ℕ) (rs : List Row) (end : ℕ) → end ≡ from + length (joined rs) → rises from (numbers (ends from rs)) end ≡ true
ends_rise from [] end e = eq-eqb from end (omega arith)
ends_rise from (r ∷ rs) end e =
    and_from _ _ (le-leb from (from + length (items_of r)) (omega arith)) (ends_rise (from + length (items_of r)) rs end (omega (arith, e, length-append (items_of r) (joined rs))))

-- rows that are alike to the items of a list make an alike list
pub list_alike-items : (same : Row → Row → Bool) (us : List Row) (r : Row) → row_eq (list_end r) empty ≡ true → all_alike same us (items_of r) ≡ true → list_alike same (list us) r ≡ true
list_alike-items same us r h k =
    let e : list_end (list us) ≡ list_end r = end_of-list us ∙ sym (row_eq-is (list_end r) empty h) in
    let i : all_alike same (items_of (list us)) (items_of r) ≡ true = rw (items_of-list us) k in
    and_from _ _ (is-row_eq (list_end (list us)) (list_end r) e) i

-- values that are alike to the items of lists, divided at the ends of these lists, make alike lists
pub cut_alike : (same : Row → Row → Bool) (from : ℕ) (vs rs : List Row) → are_lists rs ≡ true → all_alike same (drop from vs) (joined rs) ≡ true → all_alike (list_alike same) (cut from (numbers (ends from rs)) vs) rs ≡ true
cut_alike same from vs [] l h = refl
cut_alike same from vs (r ∷ rs) l h =
    let p = and_parts (row_eq (list_end r) empty) (are_lists rs) l in
    let n : ℕ = length (items_of r) in
    let a : from + length (items_of r) - from ≡ length (items_of r) = omega arith in
    let t : take (length (items_of r)) (items_of r ++ joined rs) ≡ items_of r = take-append_seam (items_of r) (joined rs) in
    let d : drop (length (items_of r)) (items_of r ++ joined rs) ≡ joined rs = drop-append_seam (items_of r) (joined rs) in
    let u : all_alike same (take (length (items_of r)) (drop from vs)) (items_of r) ≡ true = rw t at (alike_take same (length (items_of r)) (drop from vs) (items_of r ++ joined rs) h) in
    let v : all_alike same (drop (length (items_of r)) (drop from vs)) (joined rs) ≡ true = rw d at (alike_drop same (length (items_of r)) (drop from vs) (items_of r ++ joined rs) h) in
    let w : all_alike same (drop (from + length (items_of r)) vs) (joined rs) ≡ true = rw (drop-drop (length (items_of r)) from vs) at v in
    and_from _ _ (rw a (list_alike-items same (take (length (items_of r)) (drop from vs)) r p.0 u)) (cut_alike same (from + length (items_of r)) vs rs p.1 w)

all_same : (same : Row → Row → Bool) → IsSame same → IsSame (λ r s. all_alike same (items_of r) (items_of s))
all_same same e = record {
  reflexive = λ r. alike_all same e (items_of r);
  symmetric = λ r s h. alike_back same e (items_of r) (items_of s) h;
  transitive = λ r s t h k. alike_on same e (items_of r) (items_of s) (items_of t) h k;
}

pub lists_same : (same : Row → Row → Bool) → IsSame same → IsSame (list_alike same)
lists_same same e = same_both (λ r s. row_eq (list_end r) (list_end s)) (λ r s. all_alike same (items_of r) (items_of s)) (same_pulled row_eq list_end row_eq_same) (all_same same e)

-- pairwise alike rows are pairwise kin
all_related : (alike kin : Row → Row → Bool) → ((r s : Row) → alike r s ≡ true → kin r s ≡ true) → (rs ss : List Row) → all_alike alike rs ss ≡ true → all_alike kin rs ss ≡ true
all_related alike kin e [] [] h = refl
all_related alike kin e [] (s ∷ ss) h = cc
all_related alike kin e (r ∷ rs) [] h = cc
all_related alike kin e (r ∷ rs) (s ∷ ss) h =
    let p = and_parts (alike r s) (all_alike alike rs ss) h in
    and_from _ _ (e r s p.0) (all_related alike kin e rs ss p.1)

pub lists_related : (alike kin : Row → Row → Bool) → ((r s : Row) → alike r s ≡ true → kin r s ≡ true) → (r s : Row) → list_alike alike r s ≡ true → list_alike kin r s ≡ true
lists_related alike kin e r s h =
    let p = and_parts (row_eq (list_end r) (list_end s)) (all_alike alike (items_of r) (items_of s)) h in
    and_from _ _ p.0 (all_related alike kin e (items_of r) (items_of s) p.1)

pub list_exact : (same : Row → Row → Bool) → IsExact same → IsExact (list_alike same)
list_exact same p = record {
  exact = λ r s h.
      let u = and_parts (row_eq (list_end r) (list_end s)) (all_alike same (items_of r) (items_of s)) h in
      same_items r s (alike_is same p (items_of r) (items_of s) u.1) (row_eq-is (list_end r) (list_end s) u.0);
}

-- values that are the items of lists, divided at the ends of these lists, are these lists
pub cut_exactly : (from : ℕ) (vs rs : List Row) → are_lists rs ≡ true → drop from vs ≡ joined rs → cut from (numbers (ends from rs)) vs ≡ rs
cut_exactly from vs rs l h =
    let a : all_alike row_eq (drop from vs) (joined rs) ≡ true = rw h (alike_all row_eq row_eq_same (joined rs)) in
    alike_is (list_alike row_eq) (list_exact row_eq row_eq_exact) (cut from (numbers (ends from rs)) vs) rs (cut_alike row_eq from vs rs l a)

-- the ends of the lists of bounds are the bounds, shifted
pub ends_cut : (lower start from here : ℕ) (ns : List ℕ) (end : ℕ) (vs : List Row) → here ≡ start + (from - lower) → lower ≤ from → rises from ns end ≡ true → end ≤ length vs → ends here (cut from ns vs) ≡ shifted lower start ns
ends_cut lower start from here [] end vs e l h w = refl
ends_cut lower start from here (n ∷ ns) end vs e l h w =
    let p = and_parts (nat_le from n) (rises n ns end) h in
    let a : from ≤ n = leb-true from n p.0 in
    let b = rises-from n ns end p.1 in
    let i : length (items_of (list (take (n - from) (drop from vs)))) ≡ n - from = ap length (items_of-list (take (n - from) (drop from vs))) ∙ (length-take (n - from) (drop from vs) ∙ omega (arith, length-drop from vs)) in
    let k : here + (n - from) ≡ start + (n - lower) = omega arith in
    rw (i, k) (ap (λ t. number (start + (n - lower)) ∷ t) (ends_cut lower start n (start + (n - lower)) ns end vs refl (omega arith) p.1 w))

last-append : (from : ℕ) (ns ms : List ℕ) → last_or from (ns ++ ms) ≡ last_or (last_or from ns) ms
last-append from [] ms = refl
last-append from (n ∷ ns) ms = last-append n ns ms

-- the last of the bounds m..n
pub last-range : (m n from : ℕ) (ns : List ℕ) → m ≤ n → last_or (last_or from (take m ns)) (take (n - m) (drop m ns)) ≡ last_or from (take n ns)
last-range m n from ns l =
    let e : m + (n - m) ≡ n = omega arith in
    let t : take n ns ≡ take m ns ++ take (n - m) (drop m ns) = rw e at (take-add m (n - m) ns) in
    rw t (sym (last-append from (take m ns) (take (n - m) (drop m ns))))

-- the bounds m..n rise from the end of list m - 1 to the end of list n - 1
pub rises-range : (m n from : ℕ) (ns : List ℕ) (end : ℕ) → m ≤ n → rises from ns end ≡ true → rises (last_or from (take m ns)) (take (n - m) (drop m ns)) (last_or from (take n ns)) ≡ true
rises-range m n from ns end l h = rw (last-range m n from ns l) at (rises-take (n - m) (last_or from (take m ns)) (drop m ns) end (rises-drop m from ns end h))

-- bound i, one of the bounds m..n, lies between the end of list m - 1 and the end of list n - 1
pub bound_between : (m n i k : ℕ) (ns : List ℕ) (end : ℕ) → m ≤ i → i < n → slice_get ns i ≡ Some k → rises 0 ns end ≡ true → (last_or 0 (take m ns) ≤ k) × (k ≤ last_or 0 (take n ns))
bound_between m n i k ns end l u h r =
    let e : last_or 0 (take (suc i) ns) ≡ k = last_at (suc i) 0 ns k h in
    let a = rises-from (last_or 0 (take m ns)) (take (suc i - m) (drop m ns)) (last_or 0 (take (suc i) ns)) (rises-range m (suc i) 0 ns end (omega arith) r) in
    let b = rises-from (last_or 0 (take (suc i) ns)) (take (n - suc i) (drop (suc i) ns)) (last_or 0 (take n ns)) (rises-range (suc i) n 0 ns end (omega arith) r) in
    (omega arith, omega arith)

-- the bounds m..n give the lists m..n
pub cut-range : (m n from : ℕ) (ns : List ℕ) (vs : List Row) → cut (last_or from (take m ns)) (take n (drop m ns)) vs ≡ take n (drop m (cut from ns vs))
cut-range m n from ns vs = rw (cut-take, cut-drop) refl

map_drop : {A B : Type 0} (f : A → B) (n : ℕ) (xs : List A) → drop n (map f xs) ≡ map f (drop n xs)
map_drop f zero xs = refl
map_drop f (suc n) [] = refl
map_drop f (suc n) (x ∷ xs) = map_drop f n xs

pub shifted-range : (lower start m n : ℕ) (ns : List ℕ) → take n (drop m (shifted lower start ns)) ≡ shifted lower start (take n (drop m ns))
shifted-range lower start m n ns = rw map_drop (take-map (λ k. number (start + (k - lower))) n (drop m ns))

-- list i goes from the bound before it to its own bound
pub cut_get : (i from : ℕ) (ns : List ℕ) (vs : List Row) (l u : ℕ) → slice_get (from ∷ ns) i ≡ Some l → slice_get ns i ≡ Some u → slice_get (cut from ns vs) i ≡ Some (list (take (u - l) (drop l vs)))
cut_get i from [] vs l u p q = cc
cut_get zero from (n ∷ ns) vs l u p q = let e : from ≡ l = cc in let f : n ≡ u = cc in rw (e, f) refl
cut_get (suc i) from (n ∷ ns) vs l u p q = cut_get i n ns vs l u p q

pub rises_get : (i from : ℕ) (ns : List ℕ) (end l u : ℕ) → rises from ns end ≡ true → slice_get (from ∷ ns) i ≡ Some l → slice_get ns i ≡ Some u → (l ≤ u) × (u ≤ end)
rises_get i from [] end l u h p q = cc
rises_get zero from (n ∷ ns) end l u h p q =
    let e : from ≡ l = cc in
    let f : n ≡ u = cc in
    let r = and_parts (nat_le from n) (rises n ns end) h in
    let a : from ≤ n = leb-true from n r.0 in
    let b = rises-from n ns end r.1 in
    (omega arith, omega arith)
rises_get (suc i) from (n ∷ ns) end l u h p q =
    let r = and_parts (nat_le from n) (rises n ns end) h in
    rises_get i n ns end l u r.1 p q
