-- Sums over the first variants, and counts that are right because their sum is.
use Rattle.std.proofs.Common.{◌≡◌, ℕ, zero, suc, ◌+◌, ◌<◌, ◌≤◌, true, List, [], ◌∷◌, length, take, refl, sym, ◌∙◌, ap, arith, ⊎_elim, inl, inr}
use Rattle.std.specs.Prelude.{◌⊎◌, slice_get, slice_index, slice_set, nat_lt, Some}
use Rattle.std.proofs.lemmas.Bool.{and_parts, ltb-true, cases_eq, cases_lt}
use Rattle.std.proofs.lemmas.List.{get_or-set_same, get_or-set_other}
use Rattle.columnar_sums.specs.Discriminants.{times}
use Rattle.columnar_sums.specs.DiscriminantLaws.{times_one, times_other}
use Rattle.columnar_variants.specs.Variants.{are_below}
use Rattle.columnar_variants.specs.VariantListLaws.{times_more, times_of_all, times_within, fewer, none_beyond, below-take, below_get}
use Rattle.columnar_variants.specs.VariantCountLaws.{front_sole, front_other}
use Rattle.columnar_variants.specs.FrontLaws.{none_at}

-- the sum of the first m numbers
pub total : (ℕ → ℕ) → ℕ → ℕ
total f zero = 0
total f (suc m) = f 0 + total (λ v. f (suc v)) m

total_same : (f g : ℕ → ℕ) (m : ℕ) → ((v : ℕ) → v < m → f v ≡ g v) → total f m ≡ total g m
unfolding total
total_same f g zero h = refl
total_same f g (suc m) h =
    let a = h 0 (omega arith) in
    let b = total_same (λ v. f (suc v)) (λ v. g (suc v)) m (λ v l. h (suc v) (omega (arith, l))) in
    omega (arith, a, b)

total_most : (f g : ℕ → ℕ) (m : ℕ) → ((v : ℕ) → v < m → f v ≤ g v) → total f m ≤ total g m
unfolding total
total_most f g zero h = omega arith
total_most f g (suc m) h =
    let a = h 0 (omega arith) in
    let b = total_most (λ v. f (suc v)) (λ v. g (suc v)) m (λ v l. h (suc v) (omega (arith, l))) in
    omega (arith, a, b)

-- all numbers are the same but that at k
total_but : (f g : ℕ → ℕ) (m k : ℕ) → k < m → ((v : ℕ) → (v ≡ k → ⊥) → f v ≡ g v) → total f m + g k ≡ total g m + f k
unfolding total
total_but f g zero k l h = absurd (omega (arith, l))
total_but f g (suc m) zero l h =
    let a = total_same (λ v. f (suc v)) (λ v. g (suc v)) m (λ v i. h (suc v) (λ e. absurd (omega (arith, e)))) in
    omega (arith, a)
total_but f g (suc m) (suc k) l h =
    let a = h 0 (λ e. absurd (omega (arith, e))) in
    let b = total_but (λ v. f (suc v)) (λ v. g (suc v)) m k (omega (arith, l)) (λ v o. h (suc v) (λ e. o (omega (arith, e)))) in
    omega (arith, a, b)

-- numbers that are at least others, with the same sum, are the same
total_level : (f g : ℕ → ℕ) (m : ℕ) → ((v : ℕ) → v < m → f v ≤ g v) → total g m ≤ total f m → (v : ℕ) → v < m → g v ≡ f v
unfolding total
total_level f g zero h e v l = absurd (omega (arith, l))
total_level f g (suc m) h e zero l =
    let a = h 0 (omega arith) in
    let b = total_most (λ v. f (suc v)) (λ v. g (suc v)) m (λ v i. h (suc v) (omega (arith, i))) in
    omega (arith, a, b, e)
total_level f g (suc m) h e (suc v) l =
    let a = h 0 (omega arith) in
    total_level (λ v. f (suc v)) (λ v. g (suc v)) m (λ v i. h (suc v) (omega (arith, i))) (omega (arith, a, e)) v (omega (arith, l))

total_none : (m : ℕ) → total (λ v. 0) m ≡ 0
unfolding total
total_none zero = refl
total_none (suc m) = let a = total_none m in omega (arith, a)

-- each row has one variant
total_times : (m : ℕ) (vs : List ℕ) → are_below m vs ≡ true → total (λ v. times v vs) m ≡ length vs
total_times m [] h = total_none m
total_times m (w ∷ vs) h =
    let p = and_parts (nat_lt w m) (are_below m vs) h in
    let a = total_times m vs p.1 in
    let b = total_but (λ v. times v (w ∷ vs)) (λ v. times v vs) m w (ltb-true w m p.0) (λ v o. times_other v w vs o) in
    let c = times_one w vs in
    omega (arith, a, b, c)

-- The number of a variant is right, or still that of all rows, and no row from row n up to row i has it.
abbrev pub IsFront : ℕ → ℕ → List ℕ → ℕ → ℕ → Type 0
IsFront n i vs v front = (front ≡ times v (take n vs)) ⊎ ((front ≡ times v vs) × (times v (take i vs) ≡ times v (take n vs)))

pub record Fronts (n i left : ℕ) (vs fronts : List ℕ) : Type 0 where
  pub size : length fronts ≡ 256
  pub sum : total (slice_index fronts) 256 ≡ n + left
  pub each : (v : ℕ) → v < 256 → IsFront n i vs v (slice_index fronts v)

-- at the first row
pub fronts_begin : (n left : ℕ) (vs fronts : List ℕ) → length fronts ≡ 256 → length vs ≡ n + left → are_below 256 vs ≡ true → ((v : ℕ) → slice_index fronts v ≡ times v vs) → Fronts n n left vs fronts
fronts_begin n left vs fronts m l b h = record {
  size = m;
  sum = total_same (slice_index fronts) (λ v. times v vs) 256 (λ v i. h v) ∙ (total_times 256 vs b ∙ l);
  each = λ v i. inr (h v, refl);
}

front_most : (n i v front : ℕ) (vs : List ℕ) → IsFront n i vs v front → times v (take n vs) ≤ front
front_most n i v front vs h = ⊎_elim
    (λ (e : front ≡ times v (take n vs)). omega (arith, e))
    (λ (e : (front ≡ times v vs) × (times v (take i vs) ≡ times v (take n vs))). ⊎_elim
    (λ (l : n < length vs). let a = fewer v n (length vs) vs (omega (arith, l)) in let b = times_of_all v (length vs) vs refl in let q = e.0 in omega (arith, a, b, q))
    (λ (l : length vs ≤ n). let a = fewer v (length vs) n vs l in let k = e.0 in let b = taken_all v n vs l in omega (arith, b, k))
    (cases_lt n (length vs)))
    h
  where
    taken_whole : {A : Type 0} (n : ℕ) (xs : List A) → length xs ≤ n → take n xs ≡ xs
    taken_whole zero [] l = refl
    taken_whole zero (x ∷ xs) l = absurd (omega (arith, l))
    taken_whole (suc n) [] l = refl
    taken_whole (suc n) (x ∷ xs) l = ap (λ t. x ∷ t) (taken_whole n xs (omega (arith, l)))

    taken_all : (v n : ℕ) (vs : List ℕ) → length vs ≤ n → times v (take n vs) ≡ times v vs
    taken_all v n vs l = ap (times v) (taken_whole n vs l)

-- one more row, of another variant
front_next : (n i v kind front : ℕ) (vs : List ℕ) → slice_get vs i ≡ Some kind → (kind ≡ v → ⊥) → IsFront n i vs v front → IsFront n (i + 1) vs v front
front_next n i v kind front vs h o = ⊎_elim
    (λ (e : front ≡ times v (take n vs)). inl e)
    (λ (e : (front ≡ times v vs) × (times v (take i vs) ≡ times v (take n vs))). inr (e.0, times_more v kind i vs h o ∙ e.1))

-- The first row of its variant from row n on says how many there are before row n.
pub front_found : (n i left kind earlier : ℕ) (vs fronts : List ℕ) → n ≤ i → slice_get vs i ≡ Some kind → kind < 256 → earlier ≡ times kind (take i vs) → earlier < slice_index fronts kind → Fronts n i left vs fronts → earlier ≡ times kind (take n vs)
front_found n i left kind earlier vs fronts l h k e m f = ⊎_elim
    (λ (q : slice_index fronts kind ≡ times kind (take n vs)). let a = fewer kind n i vs l in absurd (omega (arith, a, q, e, m)))
    (λ (q : (slice_index fronts kind ≡ times kind vs) × (times kind (take i vs) ≡ times kind (take n vs))). e ∙ q.1)
    (f.each kind k)

set_most : (n i kind earlier : ℕ) (vs fronts : List ℕ) → length fronts ≡ 256 → kind < 256 → earlier ≡ times kind (take n vs) → ((v : ℕ) → v < 256 → IsFront n i vs v (slice_index fronts v)) → (v : ℕ) → v < 256 → times v (take n vs) ≤ slice_index (slice_set fronts kind earlier) v
set_most n i kind earlier vs fronts m k e h v l = ⊎_elim
    (λ (q : v ≡ kind). let a : slice_index (slice_set fronts kind earlier) v ≡ earlier = rw q (get_or-set_same fronts kind earlier 0 (omega (arith, m, k))) in let b : times v (take n vs) ≡ earlier = rw q (sym e) in omega (arith, a, b))
    (λ (o : v ≡ kind → ⊥). let a = get_or-set_other fronts kind v earlier 0 o in let b = front_most n i v (slice_index fronts v) vs (h v l) in omega (arith, a, b))
    (cases_eq v kind)

total_set : (kind earlier : ℕ) (fronts : List ℕ) → length fronts ≡ 256 → kind < 256 → total (slice_index (slice_set fronts kind earlier)) 256 + slice_index fronts kind ≡ total (slice_index fronts) 256 + earlier
total_set kind earlier fronts m k =
    let a = total_but (slice_index (slice_set fronts kind earlier)) (slice_index fronts) 256 kind k (λ v o. get_or-set_other fronts kind v earlier 0 o) in
    let b : slice_index (slice_set fronts kind earlier) kind ≡ earlier = get_or-set_same fronts kind earlier 0 (omega (arith, m, k)) in
    omega (arith, a, b)

-- no more rows are left than are known to be left
pub found_left : (n i left kind earlier : ℕ) (vs fronts : List ℕ) → n ≤ i → n ≤ length vs → are_below 256 vs ≡ true → slice_get vs i ≡ Some kind → earlier ≡ times kind (take i vs) → earlier < slice_index fronts kind → Fronts n i left vs fronts → slice_index fronts kind ≤ left + earlier
found_left n i left kind earlier vs fronts l q b h e m f =
    let k = below_get 256 vs i kind b h in
    let s = total_set kind earlier fronts f.size k in
    let t = total_most (λ v. times v (take n vs)) (slice_index (slice_set fronts kind earlier)) 256 (set_most n i kind earlier vs fronts f.size k (front_found n i left kind earlier vs fronts l h k e m f) f.each) in
    let u = total_times 256 (take n vs) (below-take 256 n vs b) in
    let w = length_front n vs q in
    let z = f.sum in
    omega (arith, s, t, u, w, z)
  where
    length_front : (n : ℕ) (vs : List ℕ) → n ≤ length vs → length (take n vs) ≡ n
    length_front zero vs l = refl
    length_front (suc n) [] l = absurd (omega (arith, l))
    length_front (suc n) (v ∷ vs) l = ap suc (length_front n vs (omega (arith, l)))

-- the first row of its variant
pub fronts_found : (n i left kind earlier : ℕ) (vs fronts : List ℕ) → n ≤ i → n ≤ length vs → are_below 256 vs ≡ true → slice_get vs i ≡ Some kind → earlier ≡ times kind (take i vs) → earlier < slice_index fronts kind → Fronts n i left vs fronts → (left' : ℕ) → left' + (slice_index fronts kind) ≡ left + earlier → Fronts n (i + 1) left' vs (slice_set fronts kind earlier)
fronts_found n i left kind earlier vs fronts l q b h e m f left' d =
    let k = below_get 256 vs i kind b h in
    let s = total_set kind earlier fronts f.size k in
    let z = f.sum in
    let r = front_found n i left kind earlier vs fronts l h k e m f in
    record {
      size = length_set fronts kind earlier ∙ f.size;
      sum = omega (arith, s, z, d);
      each = λ v p. ⊎_elim
          (λ (w : v ≡ kind). inl (rw w (get_or-set_same fronts kind earlier 0 (let u = f.size in omega (arith, u, k)) ∙ r)))
          (λ (o : v ≡ kind → ⊥). rw (get_or-set_other fronts kind v earlier 0 o) (front_next n i v kind (slice_index fronts v) vs h (λ w. o (sym w)) (f.each v p)))
          (cases_eq v kind);
    }
  where
    length_set : (xs : List ℕ) (i x : ℕ) → length (slice_set xs i x) ≡ length xs
    length_set [] i x = refl
    length_set (y ∷ xs) zero x = refl
    length_set (y ∷ xs) (suc i) x = ap suc (length_set xs i x)

-- a later row of its variant
pub fronts_later : (n i left kind earlier : ℕ) (vs fronts : List ℕ) → slice_get vs i ≡ Some kind → earlier ≡ times kind (take i vs) → slice_index fronts kind ≤ earlier → Fronts n i left vs fronts → Fronts n (i + 1) left vs fronts
fronts_later n i left kind earlier vs fronts h e m f = record {
  size = f.size;
  sum = f.sum;
  each = λ v p. ⊎_elim
      (λ (w : v ≡ kind). ⊎_elim
      (λ (x : slice_index fronts v ≡ times v (take n vs)). inl x)
      (λ (x : (slice_index fronts v ≡ times v vs) × (times v (take i vs) ≡ times v (take n vs))).
      let a : times v (take i vs) < times v vs = times_within v i [] vs (h ∙ ap Some (sym w)) in
      let c : times kind (take i vs) ≡ times v (take i vs) = ap (λ u. times u (take i vs)) (sym w) in
      let d : slice_index fronts kind ≡ slice_index fronts v = ap (slice_index fronts) (sym w) in
      let y = x.0 in
      absurd (omega (arith, a, c, d, y, e, m)))
      (f.each v p))
      (λ (o : v ≡ kind → ⊥). front_next n i v kind (slice_index fronts v) vs h (λ w. o (sym w)) (f.each v p))
      (cases_eq v kind);
}

-- numbers below 256 are all
fronts_beyond : (n : ℕ) (vs fronts : List ℕ) → length fronts ≡ 256 → are_below 256 vs ≡ true → ((v : ℕ) → v < 256 → slice_index fronts v ≡ times v (take n vs)) → (v : ℕ) → slice_index fronts v ≡ times v (take n vs)
fronts_beyond n vs fronts m b h v = ⊎_elim
    (λ (l : v < 256). h v l)
    (λ (l : 256 ≤ v). none_at fronts v (omega (arith, m, l)) ∙ sym (none_beyond 256 v (take n vs) (below-take 256 n vs b) l))
    (cases_lt v 256)

-- no row is left
pub fronts_none_left : (n i left : ℕ) (vs fronts : List ℕ) → n ≤ length vs → left ≡ 0 → are_below 256 vs ≡ true → Fronts n i left vs fronts → (v : ℕ) → slice_index fronts v ≡ times v (take n vs)
fronts_none_left n i left vs fronts q z b f =
    let u = total_times 256 (take n vs) (below-take 256 n vs b) in
    let w = length_front n vs q in
    let s = f.sum in
    fronts_beyond n vs fronts f.size b (total_level (λ v. times v (take n vs)) (slice_index fronts) 256 (λ v l. front_most n i v (slice_index fronts v) vs (f.each v l)) (omega (arith, u, w, s, z)))
  where
    length_front : (n : ℕ) (vs : List ℕ) → n ≤ length vs → length (take n vs) ≡ n
    length_front zero vs l = refl
    length_front (suc n) [] l = absurd (omega (arith, l))
    length_front (suc n) (v ∷ vs) l = ap suc (length_front n vs (omega (arith, l)))

-- all rows have one variant
pub fronts_sole : (kind n : ℕ) (vs fronts : List ℕ) → n ≤ length vs → kind < 256 → length fronts ≡ 256 → times kind vs ≡ length vs → ((v : ℕ) → slice_index fronts v ≡ times v vs) → (v : ℕ) → slice_index (slice_set fronts kind n) v ≡ times v (take n vs)
fronts_sole kind n vs fronts q k m h all v = ⊎_elim
    (λ (e : v ≡ kind). rw e (get_or-set_same fronts kind n 0 (omega (arith, m, k)) ∙ sym (front_sole kind n vs q h)))
    (λ (o : v ≡ kind → ⊥).
    let a : times v vs ≡ 0 = sym (times_of_all v (length vs) vs refl) ∙ front_other kind v (length vs) vs (omega arith) h o in
    get_or-set_other fronts kind v n 0 o ∙ (all v ∙ (a ∙ sym (front_other kind v n vs q h o))))
    (cases_eq v kind)

-- at the end
pub fronts_at_end : (n i left : ℕ) (vs fronts : List ℕ) → i ≡ length vs → are_below 256 vs ≡ true → Fronts n i left vs fronts → (v : ℕ) → slice_index fronts v ≡ times v (take n vs)
fronts_at_end n i left vs fronts e b f = fronts_beyond n vs fronts f.size b (λ v l. ⊎_elim
    (λ (x : slice_index fronts v ≡ times v (take n vs)). x)
    (λ (x : (slice_index fronts v ≡ times v vs) × (times v (take i vs) ≡ times v (take n vs))). x.0 ∙ (sym (times_of_all v i vs e) ∙ x.1))
    (f.each v l))
