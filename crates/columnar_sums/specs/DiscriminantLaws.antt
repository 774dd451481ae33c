use Rattle.std.proofs.Common.{◌≡◌, ℕ, zero, suc, ◌+◌, ◌-◌, ◌*◌, ◌%◌, ◌^◌, ◌<◌, ◌≤◌, Bool, true, false, ◌&&◌, cond, List, [], ◌∷◌, ◌++◌, length, take, map, replicate, refl, sym, ◌∙◌, ap, arith, append-nil, append_assoc, length-append, length-take, ⊎_elim}
use Rattle.std.specs.Prelude.{slice_get, Some, nat_eq, nat_le}
use Rattle.std.specs.Int.{w8}
use Rattle.std.specs.List.{range_with_len}
use Rattle.std.proofs.Math.Path.{ap₂}
use Rattle.std.proofs.lemmas.Bool.{and_parts, and_from, leb-true, le-leb, ltb-true, ltb-false, lt-ltb, le-ltb, eqb-true, eq-eqb, ne_eqb, cond-true, cond-false, cases_Bool}
use Rattle.std.proofs.lemmas.List.{map-append, length-map, take-map, take_all, length-replicate, replicate_more}
use Rattle.std.proofs.lemmas.List.Sums.{sum_by-append, sum_by-cons, count_by-le-length}
use Rattle.std.proofs.lemmas.Option.{slice_get-map}
use Rattle.columnar_core.specs.Row.{Row, tuple}
use Rattle.columnar_sums.specs.Agree.{numbers_eq}
use Rattle.columnar_core.specs.Format.{Content, slice, both, IsSound, IsLawful, IsStorable, lengths, fault, Excess, too_many, misplaced}
use Rattle.columnar_core.specs.FaultLaws.{unless_true, true_unless}
use Rattle.columnar_core.specs.AlikeLaws.{row_eq_same}
use Rattle.columnar_base.specs.RowLaws.{row_eq-refl}
use Rattle.columnar_core.specs.Change.{Took, WasCut, Refused}
use Rattle.columnar_core.specs.ChangeLaws.{unchanged}
use Rattle.columnar_core.specs.TwoParts.{TwoParts}
use Rattle.columnar_core.specs.TwoPartsLaws.{two_form, two_parts, two_sound, two_storable}
use Rattle.columnar_core.specs.Elements.{word_row, word_row_of, words_format, past_count}
use Rattle.columnar_core.specs.ElementLaws.{elements_form, elements_storable}
use Rattle.columnar_base.specs.Numbers.{unsigned_row, unsigned_row_of}
use Rattle.columnar_base.specs.TupleLaws.{tuples-append, length-tuples, tuples-take, slice_get-tuples}
use Rattle.columnar_core.specs.WordViews.{words_in}
use Rattle.columnar_core.specs.WordViewLaws.{length-words_in}
use Rattle.columnar_core.specs.declared.fault.GrowError.TheVariants.{Memory, Length}
use Rattle.columnar_sums.specs.RankLaws.{same_numbers, numbers_same}
use Rattle.columnar_sums.specs.Discriminants.{times, earlier, is_mixed, has_form, variants_in, variants_of, variant_rows, form_test, form_lengths, discriminant_format}
use Rattle.columnar_base.specs.Elements.{bytes_format}

-- how often a variant occurs

pub times-append : (v : ℕ) (xs ys : List ℕ) → times v (xs ++ ys) ≡ times v xs + times v ys
times-append v xs ys = sum_by-append (λ x. cond (nat_eq v x) 1 0) xs ys

pub times_most : (v : ℕ) (xs : List ℕ) → times v xs ≤ length xs
times_most v xs = count_by-le-length (nat_eq v) xs

times_first : (v x : ℕ) (xs : List ℕ) (b : Bool) → nat_eq v x ≡ b → times v (x ∷ xs) ≡ cond b 1 0 + times v xs
times_first v x xs b h = sum_by-cons (λ y. cond {A = ℕ} (nat_eq v y) 1 0) x xs ∙ ap (λ (c : Bool). cond {A = ℕ} c 1 0 + times v xs) h

pub times_one : (v : ℕ) (xs : List ℕ) → times v (v ∷ xs) ≡ 1 + times v xs
times_one v xs = times_first v v xs true (eq-eqb v v refl)

pub times_other : (v x : ℕ) (xs : List ℕ) → (v ≡ x → ⊥) → times v (x ∷ xs) ≡ times v xs
times_other v x xs h = omega (arith, times_first v x xs false (ne_eqb v x h))

pub times-replicate : (v n : ℕ) → times v (replicate n v) ≡ n
times-replicate v zero = refl
times-replicate v (suc n) = omega (arith, times_one v (replicate n v), times-replicate v n)

pub times_absent : (v k n : ℕ) → (v ≡ k → ⊥) → times v (replicate n k) ≡ 0
times_absent v k zero h = refl
times_absent v k (suc n) h = times_other v k (replicate n k) h ∙ times_absent v k n h

-- as often as there are rows: all are equal to it
pub times_all : (v : ℕ) (xs : List ℕ) → times v xs ≡ length xs → xs ≡ replicate (length xs) v
times_all v [] h = refl
times_all v (x ∷ xs) h = ⊎_elim
    (λ (e : nat_eq v x ≡ true).
    let q : v ≡ x = eqb-true v x e in
    let t : times v (x ∷ xs) ≡ 1 + times v xs = times_first v x xs true e in
    ap₂ (λ (y : ℕ) (ys : List ℕ). y ∷ ys) (sym q) (times_all v xs (omega arith)))
    (λ (e : nat_eq v x ≡ false).
    let t : times v (x ∷ xs) ≡ 0 + times v xs = times_first v x xs false e in
    absurd (omega (arith, times_most v xs, t, h)))
    (cases_Bool (nat_eq v x))

-- two different ones

pub mixed_from : (v : ℕ) (vs : List ℕ) → times v vs < length vs → is_mixed (v ∷ vs) ≡ true
mixed_from v vs h = lt-ltb (times v vs) (length vs) h

pub same_from : (v : ℕ) (vs : List ℕ) → times v vs ≡ length vs → is_mixed (v ∷ vs) ≡ false
same_from v vs h = le-ltb (times v vs) (length vs) (omega arith)

pub mixed_less : (v : ℕ) (vs : List ℕ) → is_mixed (v ∷ vs) ≡ true → times v vs < length vs
mixed_less v vs h = ltb-true (times v vs) (length vs) h

pub same_all : (v : ℕ) (vs : List ℕ) → is_mixed (v ∷ vs) ≡ false → times v vs ≡ length vs
same_all v vs h = omega (arith, ltb-false (times v vs) (length vs) h, times_most v vs)

pub mixed_more : (vs : List ℕ) (x : ℕ) → is_mixed vs ≡ true → is_mixed (vs ++ x ∷ []) ≡ true
mixed_more [] x h = cc
mixed_more (v ∷ vs) x h =
    let n = length-append vs (x ∷ []) in
    mixed_from v (vs ++ x ∷ []) (omega (arith, mixed_less v vs h, times-append v vs (x ∷ []), times_most v (x ∷ []), n))

pub mixed_two : (k x n : ℕ) → 1 ≤ n → (k ≡ x → ⊥) → is_mixed (replicate n k ++ x ∷ []) ≡ true
mixed_two k x zero l h = absurd (omega arith)
mixed_two k x (suc n) l h =
    let e : times k (x ∷ []) ≡ 0 = times_other k x [] h in
    mixed_from k (replicate n k ++ x ∷ []) (omega (arith, times-append k (replicate n k) (x ∷ []), times_most k (replicate n k), e, length-append (replicate n k) (x ∷ []), length-replicate n k))

pub same_replicate : (k n : ℕ) → is_mixed (replicate n k) ≡ false
same_replicate k zero = refl
same_replicate k (suc n) = same_from k (replicate n k) (times-replicate k n ∙ sym (length-replicate n k))

-- if all are equal, the last one is equal to those before it
pub same_last : (xs : List ℕ) (k : ℕ) → is_mixed (xs ++ k ∷ []) ≡ false → times k xs ≡ length xs
same_last [] k h = refl
same_last (v ∷ vs) k h =
    let t = same_all v (vs ++ k ∷ []) h in
    let n = length-append vs (k ∷ []) in
    let p = times-append v vs (k ∷ []) in
    let one = times_most v (k ∷ []) in
    let all = times_most v vs in
    let e : v ≡ k = eqb-true v k (elim_bool (nat_eq v k) (λ z. absurd (omega (arith, t, n, p, all, absent v k z)))) in
    let q : times v vs ≡ length vs = omega arith in
    ap (λ (x : ℕ). times x (v ∷ vs)) (sym e) ∙ (times_one v vs ∙ (let r : 1 + times v vs ≡ suc (length vs) = omega arith in r))
  where
    elim_bool : (b : Bool) → (b ≡ false → ⊥) → b ≡ true
    elim_bool true f = refl
    elim_bool false f = absurd (f refl)

    absent : (a b : ℕ) → nat_eq a b ≡ false → times a (b ∷ []) ≡ 0
    absent a b z = times_first a b [] false z

-- earlier ones

pub length-earlier : (before vs : List ℕ) → length (earlier before vs) ≡ length vs
length-earlier before [] = refl
length-earlier before (v ∷ vs) = ap suc (length-earlier (before ++ v ∷ []) vs)

pub earlier-append : (before xs ys : List ℕ) → earlier before (xs ++ ys) ≡ earlier before xs ++ earlier (before ++ xs) ys
earlier-append before [] ys = ap (λ (b : List ℕ). earlier b ys) (sym (append-nil before))
earlier-append before (x ∷ xs) ys =
    ap (λ t. times x before ∷ t) (earlier-append (before ++ x ∷ []) xs ys ∙ ap (λ (b : List ℕ). earlier (before ++ x ∷ []) xs ++ earlier b ys) (append_assoc before (x ∷ []) xs))

pub earlier-take : (n : ℕ) (before vs : List ℕ) → take n (earlier before vs) ≡ earlier before (take n vs)
earlier-take zero before vs = refl
earlier-take (suc n) before [] = refl
earlier-take (suc n) before (v ∷ vs) = ap (λ t. times v before ∷ t) (earlier-take n (before ++ v ∷ []) vs)

pub earlier-get : (i : ℕ) (before vs : List ℕ) (v : ℕ) → slice_get vs i ≡ Some v → slice_get (earlier before vs) i ≡ Some (times v (before ++ take i vs))
earlier-get i before [] v h = cc
earlier-get zero before (x ∷ xs) v h = let e : x ≡ v = cc in rw (e, append-nil before) refl
earlier-get (suc i) before (x ∷ xs) v h = earlier-get i (before ++ x ∷ []) xs v h ∙ ap (λ (b : List ℕ). Some (times v b)) (append_assoc before (x ∷ []) (take i xs))

-- equal variants are numbered from 0
pub earlier-replicate : (k n m : ℕ) → earlier (replicate m k) (replicate n k) ≡ range_with_len m n
earlier-replicate k zero m = refl
earlier-replicate k (suc n) m =
    ap₂ (λ (x : ℕ) (xs : List ℕ). x ∷ xs) (times-replicate k m) (ap (λ (b : List ℕ). earlier b (replicate n k)) (replicate_more m k) ∙ earlier-replicate k n (m + 1))

-- rows

pub length-variant_rows : (vs : List ℕ) → length (variant_rows [] vs) ≡ length vs
length-variant_rows vs =
    let e = length-map vs (unsigned_row w8) in
    length-tuples (map (unsigned_row w8) vs) (map word_row (earlier [] vs)) (e ∙ sym (length-map (earlier [] vs) word_row ∙ length-earlier [] vs)) ∙ e

pub rows_more : (vs : List ℕ) (v : ℕ) → variant_rows [] (vs ++ v ∷ []) ≡ variant_rows [] vs ++ tuple (unsigned_row w8 v) (word_row (times v vs)) ∷ []
rows_more vs v =
    let p = map-append (unsigned_row w8) vs (v ∷ []) in
    let q : earlier [] (vs ++ v ∷ []) ≡ earlier [] vs ++ times v vs ∷ [] = earlier-append [] vs (v ∷ []) in
    let r = map-append word_row (earlier [] vs) (times v vs ∷ []) in
    let l : length (map (unsigned_row w8) vs) ≡ length (map word_row (earlier [] vs)) = length-map vs (unsigned_row w8) ∙ sym (length-map (earlier [] vs) word_row ∙ length-earlier [] vs) in
    rw (p, q, r) (tuples-append (map (unsigned_row w8) vs) (map word_row (earlier [] vs)) (unsigned_row w8 v ∷ []) (word_row (times v vs) ∷ []) l)

pub rows_cut : (n : ℕ) (vs : List ℕ) → variant_rows [] (take n vs) ≡ take n (variant_rows [] vs)
rows_cut n vs =
    let p = take-map (unsigned_row w8) n vs in
    let q = take-map word_row n (earlier [] vs) in
    let r = earlier-take n [] vs in
    sym (tuples-take n (map (unsigned_row w8) vs) (map word_row (earlier [] vs)) ∙ rw (p, q, r) refl)

pub variant_row_at : (i : ℕ) (vs : List ℕ) (v : ℕ) → slice_get vs i ≡ Some v → slice_get (variant_rows [] vs) i ≡ Some (tuple (unsigned_row w8 v) (word_row (times v (take i vs))))
variant_row_at i vs v h =
    slice_get-tuples i (map (unsigned_row w8) vs) (map word_row (earlier [] vs)) _ _
    (slice_get-map (unsigned_row w8) vs i ∙ rw h refl)
    (slice_get-map word_row (earlier [] vs) i ∙ rw (earlier-get i [] vs v h) refl)

-- the three forms

pub data Form (vs os : List ℕ) : Type 0 where
  nothing : vs ≡ [] → os ≡ [] → Form vs os
  common : (tag count : ℕ) → vs ≡ [] → os ≡ tag ∷ count ∷ [] → 1 ≤ tag → tag ≤ 256 → 1 ≤ count → Form vs os
  mixed : (v : ℕ) (rest : List ℕ) → vs ≡ v ∷ rest → is_mixed (v ∷ rest) ≡ true → os ≡ earlier [] (v ∷ rest) → Form vs os

pub form_of : (vs os : List ℕ) → has_form vs os ≡ true → Form vs os
form_of [] [] h = nothing refl refl
form_of [] (tag ∷ []) h = cc
form_of [] (tag ∷ count ∷ []) h =
    let p = and_parts (nat_le 1 tag) (nat_le tag 256 && nat_le 1 count) h in
    let q = and_parts (nat_le tag 256) (nat_le 1 count) p.1 in
    common tag count refl refl (leb-true 1 tag p.0) (leb-true tag 256 q.0) (leb-true 1 count q.1)
form_of [] (tag ∷ count ∷ o ∷ os) h = cc
form_of (v ∷ vs) os h =
    let p = and_parts (is_mixed (v ∷ vs)) (numbers_eq os (earlier [] (v ∷ vs))) h in
    mixed v vs refl p.0 (same_numbers os (earlier [] (v ∷ vs)) p.1)

pub has_common : (tag count : ℕ) → 1 ≤ tag → tag ≤ 256 → 1 ≤ count → has_form [] (tag ∷ count ∷ []) ≡ true
has_common tag count p q r = and_from _ _ (le-leb 1 tag p) (and_from _ _ (le-leb tag 256 q) (le-leb 1 count r))

pub has_mixed : (vs : List ℕ) → is_mixed vs ≡ true → has_form vs (earlier [] vs) ≡ true
has_mixed [] h = cc
has_mixed (v ∷ vs) h = and_from _ _ h (numbers_same (earlier [] (v ∷ vs)))

-- what the soundness of variants and offsets consists of
pub record SoundForms (vs bs : List ℕ) : Type 0 where
  pub whole : length bs % 8 ≡ 0
  pub form : Form vs (words_in bs)

-- variants, and then offsets
pub discriminant_two : TwoParts discriminant_format bytes_format words_format form_test 17
discriminant_two = record { count = refl; sizes = refl; aligns = refl; build = λ ss. refl; broken = λ c. refl }

pub forms_parts : {vs bs : List ℕ} → IsSound discriminant_format (both (slice vs) (slice bs)) → SoundForms vs bs
forms_parts {vs} {bs} s =
    let p = two_parts discriminant_two (slice vs) (slice bs) s in
    record {
      whole = eqb-true _ _ (unless_true (nat_eq (length bs % 8) 0) (fault 8 0) p.right.accepted);
      form = form_of vs (words_in bs) p.own;
    }

pub forms_sound : {vs bs : List ℕ} → length bs % 8 ≡ 0 → has_form vs (words_in bs) ≡ true → IsSound discriminant_format (both (slice vs) (slice bs))
forms_sound {vs} {bs} w h =
    let z : length vs % 1 ≡ 0 = omega arith in
    two_sound discriminant_two (slice vs) (slice bs) (record {
      left = record { accepted = true_unless (nat_eq (length vs % 1) 0) (fault 8 0) (eq-eqb _ _ z) };
      right = record { accepted = true_unless (nat_eq (length bs % 8) 0) (fault 8 0) (eq-eqb _ _ w) };
      own = h;
    })

-- a sound content has two slices
pub record FormSlices (c : Content) : Type 0 where
  pub variants : List ℕ
  pub offsets : List ℕ
  pub is : c ≡ both (slice variants) (slice offsets)

pub forms_form : (c : Content) → IsSound discriminant_format c → FormSlices c
forms_form c s =
    let w = two_form discriminant_two c s in
    let h = two_parts discriminant_two w.left w.right (rw w.is at s) in
    let p = elements_form 1 w.left h.left.accepted in
    let q = elements_form 8 w.right h.right.accepted in
    record { variants = p.0; offsets = q.0; is = w.is ∙ ap₂ (λ (u v : Content). both u v) p.1 q.1 }

pub discriminant_storable : IsStorable discriminant_format
discriminant_storable = two_storable discriminant_two (omega arith) (elements_storable 1 1 (unsigned_row_of w8)) (elements_storable 8 8 word_row_of)

-- the lengths of both parts
filled : (vs bs : List ℕ) → length bs % 8 ≡ 0 → Form vs (words_in bs) → form_lengths (variants_in vs (words_in bs)) ≡ length vs ∷ length bs ∷ []
filled vs bs w (nothing p q) =
    let n : length bs ≡ 0 = omega (arith, w, length-words_in bs, ap length q) in
    rw (p, q, n) refl
filled vs bs w (common tag zero p q l m k) = absurd (omega arith)
filled vs bs w (common tag (suc n) p q l m k) =
    let o : length bs ≡ 16 = omega (arith, w, length-words_in bs, ap length q) in
    rw (p, q, o) (cond-false (is_mixed (replicate (suc n) (tag - 1))) _ _ (same_replicate (tag - 1) (suc n)))
filled vs bs w (mixed v rest p m q) =
    let o : length bs ≡ 8 * length (v ∷ rest) = omega (arith, w, length-words_in bs, ap length q, length-earlier [] (v ∷ rest)) in
    rw (p, o) (cond-true (is_mixed (v ∷ rest)) _ _ m)

forms_full : (c : Content) → IsSound discriminant_format c → discriminant_format.extent c (length (discriminant_format.rows c)) ≡ lengths c
forms_full c s =
    let f = forms_form c s in
    let t : IsSound discriminant_format (both (slice f.variants) (slice f.offsets)) = rw f.is at s in
    rw f.is (full_of t)
  where
    full_of : {vs bs : List ℕ} → IsSound discriminant_format (both (slice vs) (slice bs)) → form_lengths (take (length (variant_rows [] (variants_in vs (words_in bs)))) (variants_in vs (words_in bs))) ≡ length vs ∷ length bs ∷ []
    full_of {vs} {bs} t =
        let p = forms_parts t in
        let ks : List ℕ = variants_in vs (words_in bs) in
        ap form_lengths (take_all (length (variant_rows [] ks)) ks (omega (arith, length-variant_rows ks))) ∙ filled vs bs p.whole p.form

pub discriminant_lawful : IsLawful discriminant_format
discriminant_lawful = record {
  full = forms_full;
  same = row_eq_same;
  kindred = row_eq_same;
  related = λ r s h. h;
  more = more;
}
  where
    more : (e : Excess) (c : Content) (n : ℕ) (rs ss : List Row) → past_count e (n + length rs) ≡ true → past_count e (n + length (rs ++ ss)) ≡ true
    more too_many c n rs ss h = lt-ltb (2 ^ 64 - 1) (n + length (rs ++ ss)) (omega (arith, ltb-true (2 ^ 64 - 1) (n + length rs) h, length-append rs ss))
    more misplaced c n rs ss h = h

-- changes

-- one more row
pub forms_took : {old new : Content} (v offset : ℕ) → IsSound discriminant_format new → variants_of new ≡ variants_of old ++ v ∷ [] → offset ≡ times v (variants_of old) → Took discriminant_format old new (tuple (unsigned_row w8 v) (word_row offset) ∷ [])
forms_took {old} {new} v offset s e o =
    let ks : List ℕ = variants_of old in
    let r : variant_rows [] (variants_of new) ≡ variant_rows [] ks ++ tuple (unsigned_row w8 v) (word_row offset) ∷ [] = rw (e, o) (rows_more ks v) in
    let n : length (variant_rows [] (variants_of new)) ≡ length (variant_rows [] ks) + 1 = ap length r ∙ length-append (variant_rows [] ks) _ in
    record {
      fresh = tuple (unsigned_row w8 v) (word_row offset) ∷ [];
      grew = record {
        sound = s;
        rows = r;
        kept = record {
          extents = λ i l. let t : take i (variants_of new) ≡ take i ks = ap (take i) e ∙ take_front ks v i (omega (arith, length-variant_rows ks)) in ap form_lengths t;
          limits = λ i l x rs. refl;
        };
      };
      alike = and_from _ _ (row_eq-refl (tuple (unsigned_row w8 v) (word_row offset))) refl;
      adds = λ x rs h. let m : length (variant_rows [] (variants_of new)) + length rs ≡ length (variant_rows [] ks) + suc (length rs) = omega arith in rw m at h;
    }
  where
    take_front : (ks : List ℕ) (v i : ℕ) → i ≤ length ks → take i (ks ++ v ∷ []) ≡ take i ks
    take_front ks v zero l = refl
    take_front [] v (suc i) l = absurd (omega arith)
    take_front (k ∷ ks) v (suc i) l = ap (λ t. k ∷ t) (take_front ks v i (omega arith))

-- the first n rows
pub forms_cut : {old new : Content} (n : ℕ) → IsSound discriminant_format new → n ≤ length (variants_of old) → variants_of new ≡ take n (variants_of old) → WasCut discriminant_format old new n
forms_cut {old} {new} n s l e =
    let ks : List ℕ = variants_of old in
    let f : discriminant_format.extent new (length (variant_rows [] (variants_of new))) ≡ lengths new = forms_full new s in
    let m : length (variant_rows [] (variants_of new)) ≡ n = length-variant_rows (variants_of new) ∙ (ap length e ∙ (length-take n ks ∙ omega arith)) in
    let t : take n (variants_of new) ≡ take n ks = rw e (take_twice ks n n (omega arith)) in
    record {
      sound = s;
      rows = ap (variant_rows []) e ∙ rows_cut n ks;
      lengths_cut = sym f ∙ (ap (λ (k : ℕ). form_lengths (take k (variants_of new))) m ∙ ap form_lengths t);
      kept = record {
        extents = λ i k. let u : take i (variants_of new) ≡ take i ks = ap (take i) e ∙ take_twice ks n i k in ap form_lengths u;
        limits = λ i k x rs. refl;
      };
    }
  where
    take_twice : (ks : List ℕ) (n i : ℕ) → i ≤ n → take i (take n ks) ≡ take i ks
    take_twice ks n zero k = refl
    take_twice ks zero (suc i) k = absurd (omega arith)
    take_twice [] (suc n) (suc i) k = refl
    take_twice (x ∷ ks) (suc n) (suc i) k = ap (λ t. x ∷ t) (take_twice ks n i (omega arith))

-- there is the maximum number of rows
pub forms_refused_length : {c : Content} (r : Row) → IsSound discriminant_format c → length (discriminant_format.rows c) ≡ 2 ^ 64 - 1 → Refused discriminant_format c c (r ∷ []) Length
forms_refused_length {c} r s n = record { stayed = unchanged s; cause = lt-ltb (2 ^ 64 - 1) (length (discriminant_format.rows c) + 1) (omega arith) }

pub forms_refused_memory : {c : Content} (r : Row) → IsSound discriminant_format c → Refused discriminant_format c c (r ∷ []) Memory
forms_refused_memory r s = record { stayed = unchanged s; cause = tt }
