-- The facts that the parts of a column of variants imply, and the parts after a change.
use Rattle.std.proofs.Common.{◌≡◌, ℕ, zero, suc, ◌+◌, ◌-◌, ◌*◌, ◌%◌, ◌^◌, ◌<◌, ◌≤◌, Bool, true, false, ◌&&◌, List, [], ◌∷◌, ◌++◌, length, take, drop, map, replicate, refl, sym, ◌∙◌, ap, arith, ⊎_elim}
use Rattle.columnar_core.specs.StoreLaws.{drop_at}
use Rattle.std.specs.Prelude.{slice_get, slice_index, slice_index_or, slice_set, Option, Some, None, IfSome, nat_eq, nat_lt}
use Rattle.std.specs.Int.{w8, w64, to_le_bytes, from_le_bytes}
use Rattle.std.specs.List.{range_with_len}
use Rattle.std.proofs.Math.Path.{ap₂}
use Rattle.std.proofs.lemmas.Bool.{cond-true, cond-false, lt-ltb, le-ltb, eq-eqb, ne_eqb, and_from, and_left, and_right, cases_lt, cases_eq}
use Rattle.std.proofs.lemmas.List.Sums.{count_by_more_yes, count_by_more_no}
use Rattle.std.proofs.lemmas.List.{nil_from_length, replicate_more, length-replicate, take-replicate, take_all, length-take, get_or-replicate, get_or-set_same, get_or-set_other, get_or_default, same_lists}
use Rattle.std.proofs.lemmas.Option.{slice_get-get_or, get_or_from_slice_get, same_Some, none-some}
use Rattle.columnar_core.specs.Row.{tuple}
use Rattle.columnar_sums.specs.Agree.{numbers_eq}
use Rattle.columnar_core.specs.Format.{both, slice, IsSound}
use Rattle.columnar_core.specs.Change.{Took, WasCut}
use Rattle.columnar_core.specs.ChangeLaws.{take-suc_get}
use Rattle.columnar_core.specs.Elements.{word_row}
use Rattle.columnar_base.specs.Numbers.{unsigned_row}
use Rattle.columnar_core.specs.WordViews.{word, words_in, le_bytes}
use Rattle.columnar_core.specs.WordViewLaws.{length-words_in, length-le_bytes, word_back, words_back, words_pushed, words_cut, word_is}
use Rattle.columnar_sums.specs.Discriminants.{times, earlier, is_mixed, has_form, variants_in, variants_of, variant_rows, discriminant_format, owned_forms, sole}
use Rattle.columnar_sums.specs.RankLaws.{same_numbers, numbers_same}
use Rattle.columnar_sums.specs.DiscriminantLaws.{times_most, times_one, times-replicate, times_absent, times_all, mixed_from, mixed_less, same_from, mixed_more, mixed_two, same_replicate, same_last, length-earlier, earlier-append, earlier-take, earlier-get, earlier-replicate, length-variant_rows, variant_row_at, Form, nothing, common, mixed, has_common, has_mixed, SoundForms, forms_parts, forms_sound, forms_took, forms_cut}

-- reads

-- no variants and two offsets: one variant for all rows
pub record IsCommon (vs bs : List ℕ) : Type 0 where
  pub least : 1 ≤ word bs 0
  pub most : word bs 0 ≤ 256
  pub some : 1 ≤ word bs 1
  pub all : variants_in vs (words_in bs) ≡ replicate (word bs 1) (word bs 0 - 1)

two_of : (bs os : List ℕ) (tag count : ℕ) → 16 ≤ length bs → words_in bs ≡ tag ∷ count ∷ [] → (word bs 0 ≡ tag) × (word bs 1 ≡ count)
two_of bs os tag count l e = (sym (word_is bs 0 (omega arith)) ∙ ap (λ ws. slice_index ws 0) e, sym (word_is bs 1 (omega arith)) ∙ ap (λ ws. slice_index ws 1) e)

pub is_common_form : {vs bs : List ℕ} → SoundForms vs bs → length vs ≡ 0 → length bs ≡ 16 → IsCommon vs bs
is_common_form {vs} {bs} s n m = elim_form s.form
  where
    elim_form : Form vs (words_in bs) → IsCommon vs bs
    elim_form (nothing p q) = absurd (omega (arith, m, length-words_in bs, ap length q))
    elim_form (common tag count p q l k o) =
        let t = two_of bs [] tag count (omega arith) q in
        record { least = rw (t.0) l; most = rw (t.0) k; some = rw (t.1) o; all = rw (p, q, t.0, t.1) refl }
    elim_form (mixed v rest p k q) = absurd (omega (arith, n, ap length p))

-- otherwise the variants are the stored ones
pub stand_alone : {vs bs : List ℕ} → SoundForms vs bs → (length vs ≡ 0 → length bs ≡ 16 → ⊥) → variants_in vs (words_in bs) ≡ vs
stand_alone {vs} {bs} s h = elim_form s.form
  where
    elim_form : Form vs (words_in bs) → variants_in vs (words_in bs) ≡ vs
    elim_form (nothing p q) = rw (p, q) refl
    elim_form (common tag count p q l k o) =
        let w = s.whole in
        absurd (h (ap length p) (omega (arith, w, length-words_in bs, ap length q)))
    elim_form (mixed v rest p k q) = rw p refl

-- there are variants: at least two differ, and each has its number of earlier ones
pub record IsNumbered (vs bs : List ℕ) : Type 0 where
  pub all : variants_in vs (words_in bs) ≡ vs
  pub mixed : is_mixed vs ≡ true
  pub numbers : words_in bs ≡ earlier [] vs

pub is_numbered_form : {vs bs : List ℕ} → SoundForms vs bs → 0 < length vs → IsNumbered vs bs
is_numbered_form {vs} {bs} s n = elim_form s.form
  where
    elim_form : Form vs (words_in bs) → IsNumbered vs bs
    elim_form (nothing p q) = absurd (omega (arith, n, ap length p))
    elim_form (common tag count p q l k o) = absurd (omega (arith, n, ap length p))
    elim_form (mixed v rest p k q) = record { all = rw p refl; mixed = rw p k; numbers = rw p q }

-- the number of rows
pub count_common : {vs bs : List ℕ} → SoundForms vs bs → length vs ≡ 0 → length bs ≡ 16 → slice_index (words_in bs) 1 ≡ length (variants_in vs (words_in bs))
count_common {vs} {bs} s n m =
    let c = is_common_form s n m in
    word_is bs 1 (omega arith) ∙ sym (ap length c.all ∙ length-replicate (word bs 1) (word bs 0 - 1))

-- the one variant of all rows
pub sole_common : {vs bs : List ℕ} → SoundForms vs bs → length vs ≡ 0 → length bs ≡ 16 → Some (word bs 0 - 1) ≡ sole (variants_in vs (words_in bs))
sole_common {vs} {bs} s n m =
    let c = is_common_form s n m in
    sym (ap sole c.all ∙ of_many (word bs 1) c.some)
  where
    of_many : (k : ℕ) → 1 ≤ k → sole (replicate k (word bs 0 - 1)) ≡ Some (word bs 0 - 1)
    of_many zero l = absurd (omega arith)
    of_many (suc k) l = cond-false (is_mixed (replicate (suc k) (word bs 0 - 1))) None (Some (word bs 0 - 1)) (same_replicate (word bs 0 - 1) (suc k))

sole_mixed : (vs : List ℕ) → is_mixed vs ≡ true → None ≡ sole vs
sole_mixed [] h = refl
sole_mixed (v ∷ vs) h = sym (cond-true (is_mixed (v ∷ vs)) None (Some v) h)

pub sole_none : {vs bs : List ℕ} → SoundForms vs bs → (length vs ≡ 0 → length bs ≡ 16 → ⊥) → None ≡ sole (variants_in vs (words_in bs))
sole_none {vs} {bs} s h = elim_form s.form
  where
    elim_form : Form vs (words_in bs) → None ≡ sole (variants_in vs (words_in bs))
    elim_form (nothing p q) = rw (p, q) refl
    elim_form (common tag count p q l k o) =
        let w = s.whole in
        absurd (h (ap length p) (omega (arith, w, length-words_in bs, ap length q)))
    elim_form (mixed v rest p k q) = rw p (sole_mixed (v ∷ rest) k)

-- there are stored variants if and only if two rows differ
pub mixed_where : {vs bs : List ℕ} → SoundForms vs bs → nat_lt 0 (length vs) ≡ is_mixed (variants_in vs (words_in bs))
mixed_where {vs} {bs} s = elim_form s.form
  where
    elim_form : Form vs (words_in bs) → nat_lt 0 (length vs) ≡ is_mixed (variants_in vs (words_in bs))
    elim_form (nothing p q) = rw (p, q) refl
    elim_form (common tag count p q l k o) = rw (p, q) (sym (same_replicate (tag - 1) count))
    elim_form (mixed v rest p k q) = rw p (lt-ltb 0 (length (v ∷ rest)) (omega arith) ∙ sym k)

-- row i
pub common_size : {vs bs : List ℕ} (i : ℕ) → SoundForms vs bs → length vs ≡ 0 → i < length (variant_rows [] (variants_in vs (words_in bs))) → length bs ≡ 16
common_size {vs} {bs} i s n l = elim_form s.form
  where
    elim_form : Form vs (words_in bs) → length bs ≡ 16
    elim_form (nothing p q) = let e : variants_in vs (words_in bs) ≡ [] = rw (p, q) refl in absurd (omega (arith, l, length-variant_rows (variants_in vs (words_in bs)), ap length e))
    elim_form (common tag count p q u k o) = let w = s.whole in omega (arith, w, length-words_in bs, ap length q)
    elim_form (mixed v rest p k q) = absurd (omega (arith, n, ap length p))

get_of_many : (n k i : ℕ) → i < n → slice_get (replicate n k) i ≡ Some k
get_of_many zero k i l = absurd (omega arith)
get_of_many (suc n) k zero l = refl
get_of_many (suc n) k (suc i) l = get_of_many n k i (omega arith)

-- row i has variant v, and m earlier rows have it
pub record IsRowOf (ks : List ℕ) (i v m : ℕ) : Type 0 where
  pub variant : slice_get ks i ≡ Some v
  pub before : m ≡ times v (take i ks)

pub row_of : {ks : List ℕ} {i v m : ℕ} → IsRowOf ks i v m → slice_get (variant_rows [] ks) i ≡ Some (tuple (unsigned_row w8 v) (word_row m))
row_of {ks} {i} {v} {m} r = rw r.before (variant_row_at i ks v r.variant)

pub common_row : {vs bs : List ℕ} (i : ℕ) → SoundForms vs bs → length vs ≡ 0 → i < length (variant_rows [] (variants_in vs (words_in bs))) → IsRowOf (variants_in vs (words_in bs)) i (word bs 0 - 1) i
common_row {vs} {bs} i s n l =
    let c = is_common_form s n (common_size i s n l) in
    let m : i < word bs 1 = omega (arith, l, length-variant_rows (variants_in vs (words_in bs)), ap length c.all, length-replicate (word bs 1) (word bs 0 - 1)) in
    let t : times (word bs 0 - 1) (take i (replicate (word bs 1) (word bs 0 - 1))) ≡ i = ap (times (word bs 0 - 1)) (take-replicate i (word bs 1) (word bs 0 - 1) (omega arith)) ∙ times-replicate (word bs 0 - 1) i in
    rw c.all (record { variant = get_of_many (word bs 1) (word bs 0 - 1) i m; before = sym t })

pub numbered_within : {vs bs : List ℕ} (i : ℕ) → SoundForms vs bs → 0 < length vs → i < length (variant_rows [] (variants_in vs (words_in bs))) → (i < length vs) × (8 * i + 8 ≤ length bs)
numbered_within {vs} {bs} i s n l =
    let c = is_numbered_form s n in
    let m : i < length vs = omega (arith, l, length-variant_rows (variants_in vs (words_in bs)), ap length c.all) in
    (m, omega (arith, m, length-words_in bs, ap length c.numbers, length-earlier [] vs))

pub numbered_row : {vs bs : List ℕ} (i : ℕ) → SoundForms vs bs → 0 < length vs → i < length (variant_rows [] (variants_in vs (words_in bs))) → IsRowOf (variants_in vs (words_in bs)) i (slice_index vs i) (word bs i)
numbered_row {vs} {bs} i s n l =
    let c = is_numbered_form s n in
    let w = numbered_within i s n l in
    let g = slice_get-get_or vs i 0 w.0 in
    let e : word bs i ≡ times (slice_index vs i) (take i vs) = sym (word_is bs i w.1) ∙ (ap (λ ws. slice_index ws i) c.numbers ∙ get_or_from_slice_get (earlier [] vs) i (times (slice_index vs i) (take i vs)) 0 (earlier-get i [] vs (slice_index vs i) g)) in
    rw c.all (record { variant = g; before = e })

-- the stored parts if all rows have one variant
pub record IsSoleForm (vs bs : List ℕ) (v : ℕ) : Type 0 where
  pub next : times v (variants_in vs (words_in bs)) ≡ length (variants_in vs (words_in bs))
  pub bare : vs ≡ []
  pub words : words_in bs ≡ (v + 1) ∷ length (variants_in vs (words_in bs)) ∷ []

pub sole_form : {vs bs : List ℕ} (v : ℕ) → SoundForms vs bs → sole (variants_in vs (words_in bs)) ≡ Some v → IsSoleForm vs bs v
sole_form {vs} {bs} v s h = elim_form s.form
  where
    of_many : (k x : ℕ) → sole (replicate k x) ≡ Some v → x ≡ v
    of_many zero x e = cc
    of_many (suc k) x e = same_Some x v (sym (cond-false (is_mixed (replicate (suc k) x)) None (Some x) (same_replicate x (suc k))) ∙ e)

    elim_form : Form vs (words_in bs) → IsSoleForm vs bs v
    elim_form (nothing p q) = let e : sole (variants_in vs (words_in bs)) ≡ None = rw (p, q) refl in absurd (none-some v (sym e ∙ h))
    elim_form (common tag count p q l k o) =
        let a : variants_in vs (words_in bs) ≡ replicate count (tag - 1) = rw (p, q) refl in
        let x : tag - 1 ≡ v = of_many count (tag - 1) (ap sole (sym a) ∙ h) in
        let t : tag ≡ v + 1 = omega (arith, x, l) in
        let n : count ≡ length (variants_in vs (words_in bs)) = sym (ap length a ∙ length-replicate count (tag - 1)) in
        record { next = rw (a, x) (times-replicate v count ∙ sym (length-replicate count v)); bare = p; words = q ∙ ap₂ (λ (y z : ℕ). y ∷ z ∷ []) t n }
    elim_form (mixed u rest p k q) = let e : variants_in vs (words_in bs) ≡ u ∷ rest = rw p refl in absurd (none-some v (sole_mixed (u ∷ rest) k ∙ (ap sole (sym e) ∙ h)))

-- changes

pub forms_empty : IsSound discriminant_format (owned_forms [] [])
forms_empty = forms_sound refl (let e : words_in [] ≡ [] = words_back [] in rw e refl)

pub forms_no_variants : variants_of (owned_forms [] []) ≡ []
forms_no_variants = let e : words_in [] ≡ [] = words_back [] in rw e refl

pub forms_no_rows : discriminant_format.rows (owned_forms [] []) ≡ []
forms_no_rows = ap (variant_rows []) forms_no_variants

-- the bytes of words are whole words
whole_words : (os : List ℕ) → length (le_bytes os) % 8 ≡ 0
whole_words os = omega (arith, length-le_bytes os)

-- An owned column of these parts is well-formed, and has these variants.
pub record Holds (vs os ks : List ℕ) : Type 0 where
  pub sound : IsSound discriminant_format (owned_forms vs os)
  pub variants : variants_of (owned_forms vs os) ≡ ks

pub holds_common : (os : List ℕ) (tag count : ℕ) → words_in (le_bytes os) ≡ tag ∷ count ∷ [] → 1 ≤ tag → tag ≤ 256 → 1 ≤ count → Holds [] os (replicate count (tag - 1))
holds_common os tag count e p q r = record { sound = forms_sound (whole_words os) (rw e (has_common tag count p q r)); variants = rw e refl }

pub holds_mixed : (vs os : List ℕ) → words_in (le_bytes os) ≡ earlier [] vs → is_mixed vs ≡ true → Holds vs os vs
holds_mixed [] os e m = cc
holds_mixed (v ∷ vs) os e m = record { sound = forms_sound (whole_words os) (rw e (has_mixed (v ∷ vs) m)); variants = refl }

words_of_two : (a b : ℕ) → a < 2 ^ 64 → b < 2 ^ 64 → words_in (le_bytes (a ∷ b ∷ [])) ≡ a ∷ b ∷ []
words_of_two a b p q = words_back (a ∷ b ∷ []) ∙ ap₂ (λ (x y : ℕ). x ∷ y ∷ []) (word_back a p) (word_back b q)

-- n rows of one variant, and one of another
pub holds_two : (k v n : ℕ) → 1 ≤ n → n < 2 ^ 64 → (k ≡ v → ⊥) → Holds (replicate n k ++ v ∷ []) (range_with_len 0 n ++ 0 ∷ []) (replicate n k ++ v ∷ [])
holds_two k v n l m h =
    let e : earlier [] (replicate n k ++ v ∷ []) ≡ range_with_len 0 n ++ 0 ∷ [] = earlier-append [] (replicate n k) (v ∷ []) ∙ ap₂ (λ (xs : List ℕ) (x : ℕ). xs ++ x ∷ []) (earlier-replicate k n 0) (times_absent v k n (λ q. h (sym q))) in
    holds_mixed (replicate n k ++ v ∷ []) (range_with_len 0 n ++ 0 ∷ []) (words_pushed (range_with_len 0 n) 0 (omega arith) ∙ (ap (λ ws. ws ++ 0 ∷ []) (words_of_range n 0 (omega arith)) ∙ sym e)) (mixed_two k v n l h)
  where
    words_of_range : (n s : ℕ) → s + n ≤ 2 ^ 64 → words_in (le_bytes (range_with_len s n)) ≡ range_with_len s n
    words_of_range n s l = words_back (range_with_len s n) ∙ each n s l
      where
        each : (n s : ℕ) → s + n ≤ 2 ^ 64 → map (λ k. from_le_bytes w64 (to_le_bytes w64 k)) (range_with_len s n) ≡ range_with_len s n
        each zero s l = refl
        each (suc n) s l = ap₂ (λ (x : ℕ) (xs : List ℕ). x ∷ xs) (word_back s (omega arith)) (each n (s + 1) (omega arith))

-- the two words of a column of one variant
pub record TwoWords (vs os : List ℕ) : Type 0 where
  pub none : vs ≡ []
  pub two : length os ≡ 2
  pub least : 1 ≤ word (le_bytes os) 0
  pub most : word (le_bytes os) 0 ≤ 256
  pub all : variants_of (owned_forms vs os) ≡ replicate (length (variants_of (owned_forms vs os))) (word (le_bytes os) 0 - 1)

pub two_words_of : {vs os : List ℕ} → IsSound discriminant_format (owned_forms vs os) → length vs ≡ 0 → 0 < length (variants_of (owned_forms vs os)) → TwoWords vs os
two_words_of {vs} {os} s z n =
    let p = forms_parts s in
    let size : length (le_bytes os) ≡ 16 = common_size 0 p z (omega (arith, n, length-variant_rows (variants_of (owned_forms vs os)))) in
    let c = is_common_form p z size in
    let m : length (variants_of (owned_forms vs os)) ≡ word (le_bytes os) 1 = ap length c.all ∙ length-replicate (word (le_bytes os) 1) (word (le_bytes os) 0 - 1) in
    record {
      none = nil_from_length vs z;
      two = omega (arith, size, length-le_bytes os);
      least = c.least;
      most = c.most;
      all = c.all ∙ ap (λ (k : ℕ). replicate k (word (le_bytes os) 0 - 1)) (sym m);
    }

-- the two words with the count replaced
words_counted : (os : List ℕ) (n : ℕ) → length os ≡ 2 → n < 2 ^ 64 → words_in (le_bytes (slice_set os 1 n)) ≡ word (le_bytes os) 0 ∷ n ∷ []
words_counted [] n l m = absurd (omega arith)
words_counted (a ∷ []) n l m = absurd (omega arith)
words_counted (a ∷ b ∷ []) n l m =
    let e : word (le_bytes (a ∷ b ∷ [])) 0 ≡ from_le_bytes w64 (to_le_bytes w64 a) = sym (word_is (le_bytes (a ∷ b ∷ [])) 0 (omega (arith, length-le_bytes (a ∷ b ∷ [])))) ∙ ap (λ ws. slice_index ws 0) (words_back (a ∷ b ∷ [])) in
    words_back (a ∷ n ∷ []) ∙ ap₂ (λ (x y : ℕ). x ∷ y ∷ []) (sym e) (word_back n m)
words_counted (a ∷ b ∷ c ∷ os) n l m = absurd (omega arith)

pub holds_counted : (os : List ℕ) (n : ℕ) → length os ≡ 2 → 1 ≤ n → n < 2 ^ 64 → 1 ≤ word (le_bytes os) 0 → word (le_bytes os) 0 ≤ 256 → Holds [] (slice_set os 1 n) (replicate n (word (le_bytes os) 0 - 1))
holds_counted os n l p m q r = holds_common (slice_set os 1 n) (word (le_bytes os) 0) n (words_counted os n l m) q r p

-- number i of the earlier ones
earlier_at : (vs : List ℕ) (i : ℕ) → i < length vs → slice_index (earlier [] vs) i ≡ times (slice_index vs i) (take i vs)
earlier_at vs i l = get_or_from_slice_get (earlier [] vs) i (times (slice_index vs i) (take i vs)) 0 (earlier-get i [] vs (slice_index vs i) (slice_get-get_or vs i 0 l))

-- ---- pushes

-- the first row
pub holds_first : (vs os os' : List ℕ) (v : ℕ) → IsSound discriminant_format (owned_forms vs os) → length vs ≡ 0 → length (variants_of (owned_forms vs os)) ≡ 0 → v < 256 → os' ≡ os ++ (v + 1) ∷ 1 ∷ [] → Holds vs os' (variants_of (owned_forms vs os) ++ v ∷ [])
holds_first vs os os' v s z n l e =
    let p = forms_parts s in
    let f : vs ≡ [] = nil_from_length vs z in
    let k : variants_of (owned_forms vs os) ≡ [] = nil_from_length (variants_of (owned_forms vs os)) n in
    let o : os ≡ [] = nil_from_length os (none_held p.form) in
    let h = holds_common ((v + 1) ∷ 1 ∷ []) (v + 1) 1 (words_of_two (v + 1) 1 (omega arith) (omega arith)) (omega arith) (omega arith) (omega arith) in
    let w : os' ≡ (v + 1) ∷ 1 ∷ [] = rw o at e in
    let d : v + 1 - 1 ≡ v = omega arith in
    rw (k, f, w) (record { sound = h.sound; variants = h.variants ∙ ap (λ (x : ℕ). x ∷ []) d })
  where
    none_held : Form vs (words_in (le_bytes os)) → length os ≡ 0
    none_held (nothing a b) = omega (arith, ap length b, length-words_in (le_bytes os), length-le_bytes os)
    none_held (common tag count a b x y c) =
        let g : variants_of (owned_forms vs os) ≡ replicate count (tag - 1) = rw (a, b) refl in
        absurd (omega (arith, n, ap length g, length-replicate count (tag - 1), c))
    none_held (mixed u rest a b c) = absurd (omega (arith, z, ap length a))

-- one more row, if the variants are stored for each row
pub holds_more : (vs os : List ℕ) (v o : ℕ) → IsSound discriminant_format (owned_forms vs os) → 0 < length vs → o < 2 ^ 64 → o ≡ times v (variants_of (owned_forms vs os)) → Holds (vs ++ v ∷ []) (os ++ o ∷ []) (variants_of (owned_forms vs os) ++ v ∷ [])
holds_more vs os v o s n l q =
    let c = is_numbered_form (forms_parts s) n in
    let e : variants_of (owned_forms vs os) ≡ vs = c.all in
    let t : o ≡ times v vs = q ∙ ap (times v) e in
    let w : words_in (le_bytes (os ++ o ∷ [])) ≡ earlier [] (vs ++ v ∷ []) = words_pushed os o l ∙ (ap₂ (λ (ws : List ℕ) (x : ℕ). ws ++ x ∷ []) c.numbers t ∙ sym (earlier-append [] vs (v ∷ []))) in
    rw e (holds_mixed (vs ++ v ∷ []) (os ++ o ∷ []) w (mixed_more vs v c.mixed))

-- one more row of the variant of all rows
pub holds_same : (vs os : List ℕ) (v rows : ℕ) → IsSound discriminant_format (owned_forms vs os) → length vs ≡ 0 → rows ≡ length (variants_of (owned_forms vs os)) → 0 < rows → rows + 1 < 2 ^ 64 → v ≡ word (le_bytes os) 0 - 1 → Holds vs (slice_set os 1 (rows + 1)) (variants_of (owned_forms vs os) ++ v ∷ [])
holds_same vs os v rows s z e n l q =
    let t = two_words_of s z (omega arith) in
    let a : variants_of (owned_forms vs os) ≡ replicate rows (word (le_bytes os) 0 - 1) = t.all ∙ ap (λ (k : ℕ). replicate k (word (le_bytes os) 0 - 1)) (sym e) in
    let f : vs ≡ [] = t.none in
    rw (a, f, q, replicate_more rows (word (le_bytes os) 0 - 1)) (holds_counted os (rows + 1) t.two (omega arith) l t.least t.most)

-- the first row of another variant
pub holds_other : (vs os : List ℕ) (kind v rows : ℕ) → IsSound discriminant_format (owned_forms vs os) → length vs ≡ 0 → rows ≡ length (variants_of (owned_forms vs os)) → 0 < rows → rows < 2 ^ 64 → kind ≡ word (le_bytes os) 0 - 1 → (kind ≡ v → ⊥) → Holds (replicate rows kind ++ v ∷ []) (range_with_len 0 rows ++ 0 ∷ []) (variants_of (owned_forms vs os) ++ v ∷ [])
holds_other vs os kind v rows s z e n l q h =
    let t = two_words_of s z (omega arith) in
    let a : variants_of (owned_forms vs os) ≡ replicate rows kind = t.all ∙ ap₂ (λ (k x : ℕ). replicate k x) (sym e) (sym q) in
    rw a (holds_two kind v rows n l h)

pub took_held : (vs os vs' os' : List ℕ) (v o : ℕ) → o ≡ times v (variants_of (owned_forms vs os)) → Holds vs' os' (variants_of (owned_forms vs os) ++ v ∷ []) → Took discriminant_format (owned_forms vs os) (owned_forms vs' os') (tuple (unsigned_row w8 v) (word_row o) ∷ [])
took_held vs os vs' os' v o q h = forms_took v o h.sound h.variants q

-- the variant of all rows, from its stored word
pub sole_of_two : (vs os : List ℕ) (v : ℕ) → IsSound discriminant_format (owned_forms vs os) → length vs ≡ 0 → 0 < length (variants_of (owned_forms vs os)) → sole (variants_of (owned_forms vs os)) ≡ Some v → word (le_bytes os) 0 - 1 ≡ v
sole_of_two vs os v s z n h =
    let p = forms_parts s in
    let e = sole_common p z (common_size 0 p z (omega (arith, n, length-variant_rows (variants_of (owned_forms vs os))))) in
    same_Some (word (le_bytes os) 0 - 1) v (e ∙ h)

-- as many offsets as variants, and at least two
pub long_offsets : (vs os : List ℕ) → IsSound discriminant_format (owned_forms vs os) → 0 < length vs → (length os ≡ length vs) × (2 ≤ length os)
long_offsets vs os s z =
    let c = is_numbered_form (forms_parts s) z in
    let m : length os ≡ length vs = omega (arith, ap length c.numbers, length-earlier [] vs, length-words_in (le_bytes os), length-le_bytes os) in
    (m, omega (arith, m, two_at_least vs c.mixed))
  where
    two_at_least : (ks : List ℕ) → is_mixed ks ≡ true → 2 ≤ length ks
    two_at_least [] b = cc
    two_at_least (i ∷ ks) b = omega (arith, mixed_less i ks b)

-- ---- cuts

-- no rows remain
pub holds_none : (ks : List ℕ) (n : ℕ) → n ≡ 0 → Holds [] [] (take n ks)
holds_none ks n z = rw z (record { sound = forms_empty; variants = forms_no_variants })

-- one variant, as before
pub holds_fewer : (vs os : List ℕ) (n : ℕ) → IsSound discriminant_format (owned_forms vs os) → length vs ≡ 0 → 1 ≤ n → n < 2 ^ 64 → n ≤ length (variants_of (owned_forms vs os)) → Holds vs (slice_set os 1 n) (take n (variants_of (owned_forms vs os)))
holds_fewer vs os n s z p l m =
    let t = two_words_of s z (omega arith) in
    let a : take n (variants_of (owned_forms vs os)) ≡ replicate n (word (le_bytes os) 0 - 1) = ap (take n) t.all ∙ take-replicate n (length (variants_of (owned_forms vs os))) (word (le_bytes os) 0 - 1) m in
    let f : vs ≡ [] = t.none in
    rw (a, f) (holds_counted os n t.two p l t.least t.most)

-- the offset of the last of the first n rows
last_number : (vs os : List ℕ) (n : ℕ) → IsSound discriminant_format (owned_forms vs os) → 0 < length vs → 1 ≤ n → n ≤ length vs → word (le_bytes os) (n - 1) ≡ times (slice_index vs (n - 1)) (take (n - 1) vs)
last_number vs os n s z p l =
    let c = is_numbered_form (forms_parts s) z in
    let m = long_offsets vs os s z in
    sym (word_is (le_bytes os) (n - 1) (omega (arith, m.0, length-le_bytes os))) ∙ (ap (λ ws. slice_index ws (n - 1)) c.numbers ∙ earlier_at vs (n - 1) (omega arith))

front_and_last : (vs : List ℕ) (n : ℕ) → 1 ≤ n → n ≤ length vs → take n vs ≡ take (n - 1) vs ++ slice_index vs (n - 1) ∷ []
front_and_last vs n p l =
    let e : suc (n - 1) ≡ n = omega arith in
    ap (λ (k : ℕ). take k vs) (sym e) ∙ take-suc_get (n - 1) vs (slice_index vs (n - 1)) (slice_get-get_or vs (n - 1) 0 (omega arith))

-- one variant remains, of several
pub holds_one_left : (vs os os' : List ℕ) (n kind : ℕ) → IsSound discriminant_format (owned_forms vs os) → 0 < length vs → 1 ≤ n → n < 2 ^ 64 → n ≤ length vs → kind < 256 → kind ≡ slice_index vs (n - 1) → word (le_bytes os) (n - 1) ≡ n - 1 → os' ≡ take 2 (slice_set (slice_set os 0 (kind + 1)) 1 n) → Holds [] os' (take n (variants_of (owned_forms vs os)))
holds_one_left vs os os' n kind s z p l m k q h e =
    let c = is_numbered_form (forms_parts s) z in
    let a : variants_of (owned_forms vs os) ≡ vs = c.all in
    let w : os' ≡ (kind + 1) ∷ n ∷ [] = e ∙ two_set os (kind + 1) n (long_offsets vs os s z).1 in
    let o : times (slice_index vs (n - 1)) (take (n - 1) vs) ≡ length (take (n - 1) vs) = omega (arith, last_number vs os n s z p m, h, length-take (n - 1) vs) in
    let r : take (n - 1) vs ≡ replicate (n - 1) kind = times_all (slice_index vs (n - 1)) (take (n - 1) vs) o ∙ ap₂ (λ (i x : ℕ). replicate i x) (length-take (n - 1) vs ∙ omega arith) (sym q) in
    let d : n - 1 + 1 ≡ n = omega arith in
    let t : take n vs ≡ replicate n kind = front_and_last vs n p m ∙ (ap₂ (λ (xs : List ℕ) (x : ℕ). xs ++ x ∷ []) r (sym q) ∙ (replicate_more (n - 1) kind ∙ ap (λ (i : ℕ). replicate i kind) d)) in
    let g = holds_common ((kind + 1) ∷ n ∷ []) (kind + 1) n (words_of_two (kind + 1) n (omega arith) l) (omega arith) (omega arith) p in
    let u : kind + 1 - 1 ≡ kind = omega arith in
    rw (a, t, w) (record { sound = g.sound; variants = g.variants ∙ ap (replicate n) u })
  where
    two_set : (os : List ℕ) (x y : ℕ) → 2 ≤ length os → take 2 (slice_set (slice_set os 0 x) 1 y) ≡ x ∷ y ∷ []
    two_set [] x y b = absurd (omega arith)
    two_set (i ∷ []) x y b = absurd (omega arith)
    two_set (i ∷ j ∷ os) x y b = refl

-- at least two variants remain
pub holds_front : (vs os : List ℕ) (n : ℕ) → IsSound discriminant_format (owned_forms vs os) → 0 < length vs → 1 ≤ n → n ≤ length vs → (word (le_bytes os) (n - 1) ≡ n - 1 → ⊥) → Holds (take n vs) (take n os) (take n (variants_of (owned_forms vs os)))
holds_front vs os n s z p m h =
    let c = is_numbered_form (forms_parts s) z in
    let a : variants_of (owned_forms vs os) ≡ vs = c.all in
    let w : words_in (le_bytes (take n os)) ≡ earlier [] (take n vs) = words_cut os n ∙ (ap (take n) c.numbers ∙ earlier-take n [] vs) in
    rw a (holds_mixed (take n vs) (take n os) w (still_mixed (is_mixed (take n vs)) refl))
  where
    still_mixed : (b : Bool) → is_mixed (take n vs) ≡ b → is_mixed (take n vs) ≡ true
    still_mixed true e = e
    still_mixed false e =
        let t = same_last (take (n - 1) vs) (slice_index vs (n - 1)) (sym (ap is_mixed (front_and_last vs n p m)) ∙ e) in
        absurd (h (last_number vs os n s z p m ∙ (t ∙ (length-take (n - 1) vs ∙ omega arith))))

pub cut_held : (vs os vs' os' : List ℕ) (n : ℕ) → n ≤ length (variant_rows [] (variants_of (owned_forms vs os))) → Holds vs' os' (take n (variants_of (owned_forms vs os))) → WasCut discriminant_format (owned_forms vs os) (owned_forms vs' os') n
cut_held vs os vs' os' n l h = forms_cut n h.sound (omega (arith, l, length-variant_rows (variants_of (owned_forms vs os)))) h.variants

-- the first n rows, if they have one variant
pub cut_to_one : (vs os vs' os' : List ℕ) (n : ℕ) → n ≤ length (variant_rows [] (variants_of (owned_forms vs os))) → Holds vs' os' (take n (variants_of (owned_forms vs os))) → IfSome (sole (take n (variants_of (owned_forms vs os)))) (λ v. (vs' ≡ []) × (words_in (le_bytes os') ≡ (v + 1) ∷ n ∷ []))
cut_to_one vs os vs' os' n l h = if_some (sole (take n ks)) (λ v e.
    let f = sole_form v (forms_parts h.sound) (ap sole h.variants ∙ e) in
    (f.bare, f.words ∙ ap (λ (m : ℕ). (v + 1) ∷ m ∷ []) (ap length h.variants ∙ (length-take n ks ∙ omega (arith, l, length-variant_rows ks)))))
  where
    ks : List ℕ
    ks = variants_of (owned_forms vs os)

    if_some : {P : ℕ → Type 0} (o : Option ℕ) → ((v : ℕ) → o ≡ Some v → P v) → IfSome o P
    if_some None h = tt
    if_some (Some v) h = h v refl

-- tests

-- how often each variant occurs among the first rows
abbrev pub AreCounted : List ℕ → List ℕ → ℕ → Type 0
AreCounted vs counts at = (k : ℕ) → k < 256 → slice_index counts k ≡ times k (take at vs)

-- the first offsets are the numbers of earlier rows
abbrev pub ArePlaced : List ℕ → List ℕ → ℕ → Type 0
ArePlaced vs os at = (i : ℕ) → i < at → slice_index os i ≡ times (slice_index vs i) (take i vs)

pub counted_none : (vs : List ℕ) → AreCounted vs (replicate 256 0) 0
counted_none vs = λ k l. get_or-replicate 256 k 0 0 l

pub counted_more : (vs counts : List ℕ) (at : ℕ) → length counts ≡ 256 → at < length vs → slice_index vs at < 256 → AreCounted vs counts at → AreCounted vs (slice_set counts (slice_index vs at) (slice_index counts (slice_index vs at) + 1)) (at + 1)
counted_more vs counts at n l m h = λ k o.
    ⊎_elim
    (λ (e : k ≡ slice_index vs at).
    rw e (get_or-set_same counts (slice_index vs at) (slice_index counts (slice_index vs at) + 1) 0 (omega arith)
    ∙ (ap (λ (x : ℕ). x + 1) (h (slice_index vs at) m) ∙ sym (count_by_more_yes (nat_eq (slice_index vs at)) vs at 0 l (eq-eqb (slice_index vs at) (slice_index vs at) refl)))))
    (λ (e : k ≡ slice_index vs at → ⊥).
    get_or-set_other counts (slice_index vs at) k (slice_index counts (slice_index vs at) + 1) 0 e
    ∙ (h k o ∙ sym (count_by_more_no (nat_eq k) vs at 0 l (ne_eqb k (slice_index vs at) e))))
    (cases_eq k (slice_index vs at))

pub counted_few : (vs counts : List ℕ) (at k : ℕ) → k < 256 → AreCounted vs counts at → slice_index counts k ≤ at
counted_few vs counts at k l h = omega (arith, h k l, times_most k (take at vs), length-take at vs)

pub placed_more : (vs os : List ℕ) (at : ℕ) → ArePlaced vs os at → slice_index os at ≡ times (slice_index vs at) (take at vs) → ArePlaced vs os (at + 1)
placed_more vs os at h e = λ i l. ⊎_elim (λ (p : i < at). h i p) (λ (p : at ≤ i). let q : at ≡ i = omega arith in rw (← q) e) (cases_lt i at)

all_placed : (vs os : List ℕ) → length vs ≡ length os → ArePlaced vs os (length os) → os ≡ earlier [] vs
all_placed vs os n h = same_lists os (earlier [] vs) (sym n ∙ sym (length-earlier [] vs)) (λ k d l. get_or_default os k d 0 l ∙ (h k l ∙ (sym (earlier_at vs k (omega arith)) ∙ get_or_default (earlier [] vs) k 0 d (omega (arith, length-earlier [] vs)))))

pub placed_test : (vs os counts : List ℕ) (first : ℕ) → 0 < length vs → length vs ≡ length os → ArePlaced vs os (length os) → AreCounted vs counts (length os) → slice_index vs 0 < 256 → first ≡ slice_index counts (slice_index vs 0) → nat_lt first (length os) ≡ (is_mixed vs && numbers_eq os (earlier [] vs))
placed_test [] os counts first l n h c m e = absurd (omega arith)
placed_test (v ∷ vs) os counts first l n h c m e =
    let q : os ≡ earlier [] (v ∷ vs) = all_placed (v ∷ vs) os n h in
    let t : numbers_eq os (earlier [] (v ∷ vs)) ≡ true = rw (← q) (numbers_same os) in
    let a : take (length os) (v ∷ vs) ≡ v ∷ vs = take_all (length os) (v ∷ vs) (omega arith) in
    let f : first ≡ 1 + times v vs = e ∙ (c v m ∙ (ap (times v) a ∙ times_one v vs)) in
    ⊎_elim
    (λ (p : times v vs < length vs). lt-ltb first (length os) (omega arith) ∙ sym (and_from _ _ (mixed_from v vs p) t))
    (λ (p : length vs ≤ times v vs). le-ltb first (length os) (omega arith) ∙ sym (and_left (is_mixed (v ∷ vs)) (numbers_eq os (earlier [] (v ∷ vs))) (same_from v vs (omega (arith, times_most v vs)))))
    (cases_lt (times v vs) (length vs))

pub misplaced_test : (vs os counts : List ℕ) (at : ℕ) → at < length vs → AreCounted vs counts at → slice_index vs at < 256 → (slice_index os at ≡ slice_index counts (slice_index vs at) → ⊥) → false ≡ (is_mixed vs && numbers_eq os (earlier [] vs))
misplaced_test vs os counts at l c m h = sym (and_right (is_mixed vs) (numbers_eq os (earlier [] vs)) (unequal (numbers_eq os (earlier [] vs)) refl))
  where
    unequal : (b : Bool) → numbers_eq os (earlier [] vs) ≡ b → numbers_eq os (earlier [] vs) ≡ false
    unequal false e = e
    unequal true e = absurd (h (ap (λ ws. slice_index ws at) (same_numbers os (earlier [] vs) e) ∙ (earlier_at vs at l ∙ sym (c (slice_index vs at) m))))

range_from : (s n : ℕ) → range_with_len s (n + 1) ≡ range_with_len s n ++ (s + n) ∷ []
range_from s zero = let e : s + 0 ≡ s = omega arith in rw e refl
range_from s (suc n) =
    let e : suc n + 1 ≡ suc (n + 1) = omega arith in
    let f : s + suc n ≡ s + 1 + n = omega arith in
    rw (e, f) (ap (λ t. s ∷ t) (range_from (s + 1) n))

pub range_more : (n : ℕ) → range_with_len 0 (n + 1) ≡ range_with_len 0 n ++ n ∷ []
range_more n = range_from 0 n ∙ ap (λ (k : ℕ). range_with_len 0 n ++ k ∷ []) (let e : 0 + n ≡ n = omega arith in e)

-- the numbers of offsets and of variants differ
pub not_level : (vs os : List ℕ) → 0 < length vs → (length os ≡ length vs → ⊥) → has_form vs os ≡ false
not_level [] os l h = absurd (omega arith)
not_level (v ∷ vs) os l h = and_right (is_mixed (v ∷ vs)) (numbers_eq os (earlier [] (v ∷ vs))) (unequal (numbers_eq os (earlier [] (v ∷ vs))) refl)
  where
    unequal : (b : Bool) → numbers_eq os (earlier [] (v ∷ vs)) ≡ b → numbers_eq os (earlier [] (v ∷ vs)) ≡ false
    unequal false e = e
    unequal true e = absurd (h (ap length (same_numbers os (earlier [] (v ∷ vs)) e) ∙ length-earlier [] (v ∷ vs)))

-- the two slices at an offset
pub forms_at : (ss : List (List ℕ)) (o : ℕ) (a b : List ℕ) → o + 2 ≤ length ss → a ≡ slice_index_or ss o [] → b ≡ slice_index_or ss (o + 1) [] → discriminant_format.build (drop o ss) ≡ both (slice a) (slice b)
forms_at ss o a b l p q =
    let d = drop_at ss o a (omega arith) p in
    let e = drop_at ss (o + 1) b (omega arith) q in
    let g : suc o ≡ o + 1 = omega arith in
    rw (d, g, e) refl
