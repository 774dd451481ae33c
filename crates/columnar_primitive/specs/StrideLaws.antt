use Rattle.std.proofs.Common.{◌≡◌, ℕ, zero, suc, ◌+◌, ◌-◌, ◌*◌, ◌/◌, ◌%◌, ◌^◌, ◌<◌, ◌≤◌, Bool, true, false, ◌&&◌, List, [], ◌∷◌, ◌++◌, length, take, drop, map, refl, sym, ◌∙◌, ap, arith, length-append, append-nil, append_assoc, subst, ⊎_elim}
use Rattle.std.specs.Prelude.{slice_get, Some, None, nat_eq, nat_le, slice_index, slice_index_or}
use Rattle.std.proofs.lemmas.Bool.{eqb-true, eq-eqb, ne_eqb, leb-true, le-leb, lt-leb, lt-ltb, cases_eq, cond_both}
use Rattle.std.proofs.Math.Seq.{take-append-add}
use Rattle.std.proofs.Math.Nat.{mul-le-mul_left, div-add-mod}
use Rattle.std.proofs.lemmas.List.{length-map, map-append, take-map, take-append-le, length-take, length-take-le, take_all, take-append-drop, length-drop}
use Rattle.std.proofs.lemmas.Option.{slice_get-map}
use Rattle.columnar_core.specs.Row.{Row, number, number_of, row_eq}
use Rattle.columnar_core.specs.Format.{Content, slice, both, part, plain, IsSound, IsLawful, IsStorable, lengths, slices_of, Fault, fault, unless, first, moved}
use Rattle.columnar_core.specs.FaultLaws.{nothing_left, nothing_both, nothing_moved, moved_nothing, unless_true, true_unless}
use Rattle.columnar_core.specs.AlikeLaws.{row_eq_same, row_eq_exact, alike_all}
use Rattle.columnar_core.specs.Change.{Keeps, WasCut, Took, Copied, IsTrueOf, Refused}
use Rattle.columnar_core.specs.ChangeLaws.{unchanged, grew_exactly, refused_more, took_none}
use Rattle.columnar_core.specs.Elements.{elements_broken, first_slice, word_row, word_row_of}
use Rattle.columnar_core.specs.ElementLaws.{length-elements, past_more, element_row_at, rows_typed, word_element}
use Rattle.columnar_core.specs.Bounds.{IsBounds, AreNumbers, rises, numbers}
use Rattle.columnar_core.specs.BoundLaws.{words_numbers}
use Rattle.columnar_core.specs.Bytes.{word, word_bytes, le_bytes, AreBytes}
use Rattle.columnar_core.specs.ByteLaws.{bytes-word}
use Rattle.columnar_core.specs.StoreLaws.{drop_at, first_at}
use Rattle.columnar_core.specs.WordLaws.{word-le_bytes}
use Rattle.columnar_core.specs.WordViewLaws.{length-le_bytes, front_number}
use Rattle.columnar_core.specs.declared.fault.GrowError.{GrowError}
use Rattle.columnar_core.specs.declared.fault.GrowError.TheVariants.{Length}
use Rattle.columnar_primitive.specs.HeldLaws.{word_number}
use Rattle.columnar_primitive.specs.Multiples.{multiples}
use Rattle.columnar_primitive.specs.MultipleLaws.{multiples_numbers, multiples-none, multiples-more, length-multiples, multiples-append, multiples-take, multiples_get, multiples-rise}
use Rattle.columnar_primitive.specs.Stride.{head_broken, stride_of, length_of, bounds_rows, stride_fits, length_fits, strides_broken, strides_rows, strides_extent, strides_format, head_and_bounds, follows, joins, grown, bounds_pushed}

-- the soundness of a head and bounds
pub record SoundStrides (hs bs : List ℕ) : Type 0 where
  pub size : length hs ≡ 16
  pub whole : length bs % 8 ≡ 0
  pub fits : word hs 0 * word hs 1 ≤ 2 ^ 64 - 1
  pub few : word hs 1 + length bs / 8 ≤ 2 ^ 64 - 1

pub length-bounds : (bs : List ℕ) → length (bounds_rows (slice bs)) ≡ length bs / 8
length-bounds bs = length-elements 8 word_row_of bs

pub strides_parts : {hs bs : List ℕ} → IsSound strides_format (both (slice hs) (slice bs)) → SoundStrides hs bs
strides_parts {hs} {bs} s =
    let p = nothing_left (head_broken (slice hs)) (moved 1 (elements_broken 8 (slice bs)) ++ (unless (stride_fits (slice hs)) (fault 16 0) ++ unless (length_fits (slice hs) (slice bs)) (fault 19 0))) s.accepted in
    let q = nothing_left (moved 1 (elements_broken 8 (slice bs))) (unless (stride_fits (slice hs)) (fault 16 0) ++ unless (length_fits (slice hs) (slice bs)) (fault 19 0)) p.1 in
    let r = nothing_left (unless (stride_fits (slice hs)) (fault 16 0)) (unless (length_fits (slice hs) (slice bs)) (fault 19 0)) q.1 in
    record {
      size = eqb-true (length hs) 16 (unless_true (nat_eq (length hs) 16) (fault 9 0) p.0);
      whole = eqb-true (length bs % 8) 0 (unless_true (nat_eq (length bs % 8) 0) (fault 8 0) (nothing_moved 1 (elements_broken 8 (slice bs)) q.0));
      fits = leb-true (word hs 0 * word hs 1) (2 ^ 64 - 1) (unless_true (stride_fits (slice hs)) (fault 16 0) r.0);
      few = rw (length-bounds bs) at (leb-true (word hs 1 + length (bounds_rows (slice bs))) (2 ^ 64 - 1) (unless_true (length_fits (slice hs) (slice bs)) (fault 19 0) r.1));
    }

pub strides_sound : {hs bs : List ℕ} → SoundStrides hs bs → IsSound strides_format (both (slice hs) (slice bs))
strides_sound {hs} {bs} s = record {
  accepted = nothing_both (head_broken (slice hs)) (moved 1 (elements_broken 8 (slice bs)) ++ (unless (stride_fits (slice hs)) (fault 16 0) ++ unless (length_fits (slice hs) (slice bs)) (fault 19 0)))
      (true_unless (nat_eq (length hs) 16) (fault 9 0) (eq-eqb (length hs) 16 s.size))
      (nothing_both (moved 1 (elements_broken 8 (slice bs))) (unless (stride_fits (slice hs)) (fault 16 0) ++ unless (length_fits (slice hs) (slice bs)) (fault 19 0))
      (moved_nothing 1 (elements_broken 8 (slice bs)) (true_unless (nat_eq (length bs % 8) 0) (fault 8 0) (eq-eqb (length bs % 8) 0 s.whole)))
      (nothing_both (unless (stride_fits (slice hs)) (fault 16 0)) (unless (length_fits (slice hs) (slice bs)) (fault 19 0))
      (true_unless (stride_fits (slice hs)) (fault 16 0) (le-leb (word hs 0 * word hs 1) (2 ^ 64 - 1) s.fits))
      (true_unless (length_fits (slice hs) (slice bs)) (fault 19 0) (le-leb (word hs 1 + length (bounds_rows (slice bs))) (2 ^ 64 - 1) (rw (length-bounds bs) s.few)))));
}

pub length-strides : (hs bs : List ℕ) → length (strides_rows (both (slice hs) (slice bs))) ≡ word hs 1 + length bs / 8
length-strides hs bs = length-append (multiples (word hs 0) 0 (word hs 1)) (bounds_rows (slice bs)) ∙ (rw (length-multiples (word hs 0) 0 (word hs 1), length-bounds bs) refl)

-- the result of its test

pub strides_fine : (hs bs : List ℕ) (o : ℕ) → SoundStrides hs bs → None ≡ first (moved o (strides_broken (both (slice hs) (slice bs))))
strides_fine hs bs o h = let s : IsSound strides_format (both (slice hs) (slice bs)) = strides_sound h in rw s.accepted refl

pub strides_head_wrong : (hs bs : List ℕ) (o : ℕ) → (length hs ≡ 16 → ⊥) → Some (fault 9 o) ≡ first (moved o (strides_broken (both (slice hs) (slice bs))))
strides_head_wrong hs bs o l =
    let e : nat_eq (length hs) 16 ≡ false = ne_eqb (length hs) 16 l in
    let z : o + 0 ≡ o = omega arith in
    rw (e, z) refl

pub strides_size_wrong : (hs bs : List ℕ) (o : ℕ) → length hs ≡ 16 → (length bs % 8 ≡ 0 → ⊥) → Some (fault 8 (o + 1)) ≡ first (moved o (strides_broken (both (slice hs) (slice bs))))
strides_size_wrong hs bs o l m =
    let e : nat_eq (length hs) 16 ≡ true = eq-eqb (length hs) 16 l in
    let f : nat_eq (length bs % 8) 0 ≡ false = ne_eqb (length bs % 8) 0 m in
    let z : o + (1 + 0) ≡ o + 1 = omega arith in
    rw (e, f, z) refl

pub strides_too_long : (hs bs : List ℕ) (o : ℕ) → length hs ≡ 16 → length bs % 8 ≡ 0 → 2 ^ 64 - 1 < word hs 0 * word hs 1 → Some (fault 16 o) ≡ first (moved o (strides_broken (both (slice hs) (slice bs))))
strides_too_long hs bs o l m h =
    let e : nat_eq (length hs) 16 ≡ true = eq-eqb (length hs) 16 l in
    let f : nat_eq (length bs % 8) 0 ≡ true = eq-eqb (length bs % 8) 0 m in
    let g : nat_le (word hs 0 * word hs 1) (2 ^ 64 - 1) ≡ false = lt-leb (word hs 0 * word hs 1) (2 ^ 64 - 1) h in
    let z : o + 0 ≡ o = omega arith in
    rw (e, f, g, z) refl

pub strides_too_many : (hs bs : List ℕ) (o : ℕ) → length hs ≡ 16 → length bs % 8 ≡ 0 → word hs 0 * word hs 1 ≤ 2 ^ 64 - 1 → 2 ^ 64 - 1 < word hs 1 + length bs / 8 → Some (fault 19 o) ≡ first (moved o (strides_broken (both (slice hs) (slice bs))))
strides_too_many hs bs o l m h k =
    let e : nat_eq (length hs) 16 ≡ true = eq-eqb (length hs) 16 l in
    let f : nat_eq (length bs % 8) 0 ≡ true = eq-eqb (length bs % 8) 0 m in
    let g : nat_le (word hs 0 * word hs 1) (2 ^ 64 - 1) ≡ true = le-leb (word hs 0 * word hs 1) (2 ^ 64 - 1) h in
    let b : nat_le (word hs 1 + length (bounds_rows (slice bs))) (2 ^ 64 - 1) ≡ false = rw (length-bounds bs) (lt-leb (word hs 1 + length bs / 8) (2 ^ 64 - 1) k) in
    let z : o + 0 ≡ o = omega arith in
    rw (e, f, g, b, z) refl

-- the laws

-- a sound content has a head and bounds
pub record HasBoth (c : Content) : Type 0 where
  pub head : List ℕ
  pub bounds : List ℕ
  pub is : c ≡ both (slice head) (slice bounds)
  pub sound : SoundStrides head bounds

second_none : (xs ys zs : List Fault) → xs ++ (ys ++ zs) ≡ [] → ys ≡ []
second_none xs ys zs h = (nothing_left ys zs (nothing_left xs (ys ++ zs) h).1).0

pub strides_both : (c : Content) → IsSound strides_format c → HasBoth c
strides_both (both (slice hs) (slice bs)) s = record { head = hs; bounds = bs; is = refl; sound = strides_parts s }
strides_both (both (slice hs) (both x y)) s = let e = second_none (head_broken (slice hs)) (moved 1 (elements_broken 8 (both x y))) (unless (stride_fits (slice hs)) (fault 16 0) ++ unless (length_fits (slice hs) (both x y)) (fault 19 0)) s.accepted in cc
strides_both (both (slice hs) (part l u x)) s = let e = second_none (head_broken (slice hs)) (moved 1 (elements_broken 8 (part l u x))) (unless (stride_fits (slice hs)) (fault 16 0) ++ unless (length_fits (slice hs) (part l u x)) (fault 19 0)) s.accepted in cc
strides_both (both (slice hs) (plain rs)) s = let e = second_none (head_broken (slice hs)) (moved 1 (elements_broken 8 (plain rs))) (unless (stride_fits (slice hs)) (fault 16 0) ++ unless (length_fits (slice hs) (plain rs)) (fault 19 0)) s.accepted in cc
strides_both (both (both x y) z) s = cc
strides_both (both (part l u x) z) s = cc
strides_both (both (plain rs) z) s = cc
strides_both (slice bs) s = cc
strides_both (part l u x) s = cc
strides_both (plain rs) s = cc

strides_full : (hs bs : List ℕ) → SoundStrides hs bs → strides_extent (both (slice hs) (slice bs)) (length (strides_rows (both (slice hs) (slice bs)))) ≡ lengths (both (slice hs) (slice bs))
strides_full hs bs s =
    let n = length-strides hs bs in
    let d = div-add-mod (length bs) 8 in
    let e : 8 * ((word hs 1 + length bs / 8) - word hs 1) ≡ length bs = omega (arith, s.whole) in
    rw (n, e, s.size) refl

strides_built : (ss : List (List ℕ)) → 2 ≤ length ss → slices_of (both (first_slice ss) (first_slice (drop 1 ss))) ≡ take 2 ss
strides_built [] l = absurd (omega arith)
strides_built (x ∷ []) l = absurd (omega arith)
strides_built (x ∷ y ∷ rest) l = refl

pub strides_lawful : IsLawful strides_format
strides_lawful = record {
  full = λ c s. let p = strides_both c s in rw p.is (strides_full p.head p.bounds p.sound);
  same = row_eq_same;
  kindred = row_eq_same;
  related = λ r s h. h;
  more = λ e c n rs ss h. past_more e (n + length rs) (n + length (rs ++ ss)) (omega (arith, length-append rs ss)) h;
}

pub strides_storable : IsStorable strides_format
strides_storable = record {
  swift = omega arith;
  sized = refl;
  aligned = refl;
  counted = λ c s. let p = strides_both c s in rw p.is refl;
  rebuilt = λ c rest s. let p = strides_both c s in rw p.is refl;
  built = strides_built;
}

strides_numbers : AreNumbers strides_format
strides_numbers (both x y) s =
    let m : List Row = multiples (stride_of x) 0 (length_of x) in
    let b : List Row = bounds_rows y in
    sym (ap (map number) (map-append number_of m b) ∙ map-append number (numbers m) (numbers b) ∙ ap (λ (t : List Row). t ++ map number (numbers b)) (sym (multiples_numbers (stride_of x) 0 (length_of x))) ∙ ap (λ (t : List Row). m ++ t) (sym (words_numbers y)))
strides_numbers (slice bs) s = refl
strides_numbers (part l u x) s = refl
strides_numbers (plain rs) s = refl

pub strides_bounds : IsBounds strides_format
strides_bounds = record { exact = row_eq_exact; swift = omega arith; are_numbers = strides_numbers }

-- heads, and explicit offsets

-- the bytes of a head with this stride and length
pub record IsHead (hs : List ℕ) (s n : ℕ) : Type 0 where
  pub size : length hs ≡ 16
  pub stride : word hs 0 ≡ s
  pub length : word hs 1 ≡ n

words-word : (xs : List ℕ) (i : ℕ) → i < length xs → slice_index xs i < 2 ^ 64 → word (le_bytes xs) i ≡ slice_index xs i
words-word xs i l h = rw append-nil at (word-le_bytes xs [] i l h)

pub head_of : (head : List ℕ) → length head ≡ 2 → slice_index head 0 < 2 ^ 64 → slice_index head 1 < 2 ^ 64 → IsHead (le_bytes head) (slice_index head 0) (slice_index head 1)
head_of head e p q = record {
  size = length-le_bytes head ∙ omega (arith, e);
  stride = words-word head 0 (omega arith) p;
  length = words-word head 1 (omega arith) q;
}

pub length-words : (xs : List ℕ) → length (le_bytes xs) / 8 ≡ length xs
length-words xs = omega (arith, length-le_bytes xs)

pub owned_rows : {hs : List ℕ} (s n : ℕ) (xs : List ℕ) → IsHead hs s n → strides_rows (both (slice hs) (slice (le_bytes xs))) ≡ multiples s 0 n ++ map word_row xs
owned_rows s n xs h = rw (h.stride, h.length, rows_typed word_element xs) refl

pub length-owned : (s n : ℕ) (xs : List ℕ) → length (multiples s 0 n ++ map word_row xs) ≡ n + length xs
length-owned s n xs = length-append (multiples s 0 n) (map word_row xs) ∙ (rw (length-multiples s 0 n, length-map xs word_row) refl)

pub length-held : {hs : List ℕ} (s n : ℕ) (xs : List ℕ) → IsHead hs s n → length (strides_rows (both (slice hs) (slice (le_bytes xs)))) ≡ n + length xs
length-held s n xs h = ap length (owned_rows s n xs h) ∙ length-owned s n xs

pub owned_sound : {hs : List ℕ} (s n : ℕ) (xs : List ℕ) → IsHead hs s n → s * n ≤ 2 ^ 64 - 1 → n + length xs ≤ 2 ^ 64 - 1 → SoundStrides hs (le_bytes xs)
owned_sound s n xs h p q = record {
  size = h.size;
  whole = omega (arith, length-le_bytes xs);
  fits = rw (h.stride, h.length) p;
  few = rw (h.length, length-words xs) q;
}

-- the limits of a sound owned column
pub record Limits (s n m : ℕ) : Type 0 where
  pub fits : s * n ≤ 2 ^ 64 - 1
  pub few : n + m ≤ 2 ^ 64 - 1

pub owned_limits : {hs : List ℕ} (s n : ℕ) (xs : List ℕ) → IsHead hs s n → IsSound strides_format (both (slice hs) (slice (le_bytes xs))) → Limits s n (length xs)
owned_limits s n xs h sound =
    let p = strides_parts sound in
    record { fits = rw (h.stride, h.length) at p.fits; few = rw (h.length, length-words xs) at p.few }

-- changes

strides_keeps : {hs hs' : List ℕ} (bs bs' : List ℕ) (n n' top : ℕ) → word hs 1 ≡ n → word hs' 1 ≡ n' → ((k : ℕ) → k ≤ top → k - n' ≡ k - n) → Keeps strides_format (both (slice hs) (slice bs)) (both (slice hs') (slice bs')) top
strides_keeps bs bs' n n' top p q h = record {
  extents = λ k l. let e = h k l in rw (p, q, e) refl;
  limits = λ k l e rs. refl;
}

-- an owned column grew by these rows
pub strides_took : {hs hs' : List ℕ} (s n : ℕ) (xs : List ℕ) (s' n' : ℕ) (ys : List ℕ) (added : List Row) → IsHead hs s n → IsHead hs' s' n' → s' * n' ≤ 2 ^ 64 - 1 → n' + length ys ≤ 2 ^ 64 - 1 → multiples s' 0 n' ++ map word_row ys ≡ (multiples s 0 n ++ map word_row xs) ++ added → ((k : ℕ) → k ≤ n + length xs → k - n' ≡ k - n) → Took strides_format (both (slice hs) (slice (le_bytes xs))) (both (slice hs') (slice (le_bytes ys))) added
strides_took {hs} {hs'} s n xs s' n' ys added a b fits few rows ext =
    let old = owned_rows s n xs a in
    let new = owned_rows s' n' ys b in
    let l = length-owned s n xs in
    let m = length-owned s' n' ys in
    let t : n' + length ys ≡ (n + length xs) + length added = sym m ∙ (ap length rows ∙ (length-append (multiples s 0 n ++ map word_row xs) added ∙ ap (λ i. i + length added) l)) in
    record {
      fresh = added;
      grew = record {
        sound = strides_sound (owned_sound s' n' ys b fits few);
        rows = rw (old, new) rows;
        kept = strides_keeps {hs = hs} {hs' = hs'} (le_bytes xs) (le_bytes ys) n n' (length (strides_rows (both (slice hs) (slice (le_bytes xs))))) a.length b.length (λ k h. ext k (rw (old, l) at h));
      };
      alike = alike_all row_eq row_eq_same added;
      adds = λ e rs h. rw (old, l) (past_more e ((n' + length ys) + length rs) ((n + length xs) + length (added ++ rs)) (omega (arith, t, length-append added rs)) (rw (new, m) at h));
    }

pub strides_copied : {x y : Content} {added : List Row} (start : ℕ) → Took strides_format x y added → Copied strides_format x y start added
strides_copied {x} {y} {added} start t = record { took = t; front = λ none z. (grew_exactly row_eq_exact t).rows ∙ ap (λ rs. rs ++ added) none }

-- x becomes an explicit offset, after the others
pub took_bound : {hs : List ℕ} (s n : ℕ) (xs : List ℕ) (x : ℕ) → IsHead hs s n → Limits s n (length xs) → n + length xs < 2 ^ 64 - 1 → Took strides_format (both (slice hs) (slice (le_bytes xs))) (both (slice hs) (slice (le_bytes (xs ++ x ∷ [])))) (word_row x ∷ [])
took_bound s n xs x h p l =
    strides_took s n xs s n (xs ++ x ∷ []) (word_row x ∷ []) h h p.fits (rw length-append (omega arith))
    (rw map-append (sym (append_assoc (multiples s 0 n) (map word_row xs) (word_row x ∷ []))))
    (λ k m. refl)

-- x is the next offset of the stride
pub took_next : {hs hs' : List ℕ} (s n x : ℕ) → IsHead hs s n → IsHead hs' s (n + 1) → x ≡ s * (n + 1) → x < 2 ^ 64 → n + 1 ≤ 2 ^ 64 - 1 → Took strides_format (both (slice hs) (slice (le_bytes []))) (both (slice hs') (slice (le_bytes []))) (word_row x ∷ [])
took_next s n x h k e f l =
    let r : s * suc n ≡ x = omega (arith, e) in
    let a : multiples s 0 (n + 1) ≡ multiples s 0 n ++ multiples s (0 + n) 1 = multiples-append s 0 n 1 in
    let z : 0 + n ≡ n = omega arith in
    let b : multiples s n 1 ≡ word_row x ∷ [] = multiples-more s n 0 ∙ (rw (multiples-none s (suc n), r, word_number x f) refl) in
    strides_took s n [] s (n + 1) [] (word_row x ∷ []) h k (omega (arith, e)) (omega arith)
    (append-nil (multiples s 0 (n + 1)) ∙ a ∙ (rw (z, b, append-nil) refl))
    (λ i m. omega arith)

-- x is the first offset, and becomes the stride
pub took_first : {hs hs' : List ℕ} (s x : ℕ) → IsHead hs s 0 → IsHead hs' x 1 → x < 2 ^ 64 → Took strides_format (both (slice hs) (slice (le_bytes []))) (both (slice hs') (slice (le_bytes []))) (word_row x ∷ [])
took_first s x h k f =
    let r : x * suc 0 ≡ x = omega arith in
    let b : multiples x 0 1 ≡ word_row x ∷ [] = multiples-more x 0 0 ∙ (rw (multiples-none x 1, r, word_number x f) refl) in
    strides_took s 0 [] x 1 [] (word_row x ∷ []) h k (omega arith) (omega arith)
    (append-nil (multiples x 0 1) ∙ b ∙ (rw (multiples-none s 0) refl))
    (λ i m. omega arith)

-- a head of these two words
pub head_words : (s n : ℕ) → s < 2 ^ 64 → n < 2 ^ 64 → IsHead (le_bytes (s ∷ n ∷ [])) s n
head_words s n p q = head_of (s ∷ n ∷ []) refl p q

took_same : {hs hs' : List ℕ} (s n s' n' : ℕ) (xs : List ℕ) {added : List Row} → length xs ≡ 0 → Took strides_format (both (slice hs) (slice (le_bytes []))) (both (slice hs') (slice (le_bytes []))) added → Took strides_format (both (slice hs) (slice (le_bytes xs))) (both (slice hs') (slice (le_bytes xs))) added
took_same s n s' n' [] e t = t
took_same s n s' n' (x ∷ xs) e t = absurd (omega arith)

-- x joins the multiples
pub took_grown : {hs : List ℕ} (s n : ℕ) (xs : List ℕ) (x : ℕ) → IsHead hs s n → length xs ≡ 0 → follows s n x ≡ true → s < 2 ^ 64 → x < 2 ^ 64 → n < 2 ^ 64 - 1 → Took strides_format (both (slice hs) (slice (le_bytes xs))) (both (slice (le_bytes (grown s n x))) (slice (le_bytes xs))) (word_row x ∷ [])
took_grown {hs} s n xs x h e f p q l = ⊎_elim
    (λ (z : n ≡ 0).
    let t : nat_eq n 0 ≡ true = eq-eqb n 0 z in
    rw t (took_same s 0 x 1 xs e (took_first s x (rw z at h) (head_words x 1 q (omega arith)) q)))
    (λ (z : n ≡ 0 → ⊥).
    let t : nat_eq n 0 ≡ false = ne_eqb n 0 z in
    let g : x ≡ s * (n + 1) = eqb-true x (s * (n + 1)) (rw t at f) in
    rw t (took_same s n s (n + 1) xs e (took_next s n x h (head_words s (n + 1) p (omega arith)) g q (omega arith))))
    (cases_eq n 0)

-- one more row is too many
pub strides_full_up : {hs : List ℕ} (s n : ℕ) (xs : List ℕ) (r : Row) → IsHead hs s n → IsSound strides_format (both (slice hs) (slice (le_bytes xs))) → 2 ^ 64 - 1 ≤ n + length xs → Refused strides_format (both (slice hs) (slice (le_bytes xs))) (both (slice hs) (slice (le_bytes xs))) (r ∷ []) Length
strides_full_up s n xs r h sound l = record {
  stayed = unchanged sound;
  cause = rw (owned_rows s n xs h, length-owned s n xs) (lt-ltb (2 ^ 64 - 1) ((n + length xs) + 1) (omega arith));
}

-- cuts

take-append-past : (xs ys : List Row) (n m : ℕ) → length xs ≡ n → take (n + m) (xs ++ ys) ≡ xs ++ take m ys
take-append-past xs ys n m e = rw (← e) (take-append-add xs ys m)

pub cut_bounds : {hs : List ℕ} (s n : ℕ) (xs : List ℕ) (m : ℕ) → IsHead hs s n → n ≤ m → m ≤ n + length xs → IsSound strides_format (both (slice hs) (slice (le_bytes xs))) → WasCut strides_format (both (slice hs) (slice (le_bytes xs))) (both (slice hs) (slice (le_bytes (take (m - n) xs)))) m
cut_bounds {hs} s n xs m h l t sound =
    let p = owned_limits s n xs h sound in
    let d : length (take (m - n) xs) ≡ m - n = length-take-le (m - n) xs (omega arith) in
    let e : n + (m - n) ≡ m = omega arith in
    record {
      sound = strides_sound (owned_sound s n (take (m - n) xs) h p.fits (rw d (omega (arith, p.few))));
      rows = rw (owned_rows s n xs h, owned_rows s n (take (m - n) xs) h) (
          let f : take (n + (m - n)) (multiples s 0 n ++ map word_row xs) ≡ multiples s 0 n ++ take (m - n) (map word_row xs) = take-append-past (multiples s 0 n) (map word_row xs) n (m - n) (length-multiples s 0 n) in
          sym ((rw e at f) ∙ ap (λ t. multiples s 0 n ++ t) (take-map word_row (m - n) xs)));
      lengths_cut = rw (length-le_bytes (take (m - n) xs), d, h.size, h.length) refl;
      kept = strides_keeps {hs = hs} {hs' = hs} (le_bytes xs) (le_bytes (take (m - n) xs)) n n m h.length h.length (λ k i. refl);
    }

pub cut_length : {hs hs' : List ℕ} (s n : ℕ) (xs : List ℕ) (m : ℕ) → IsHead hs s n → IsHead hs' s m → m ≤ n → IsSound strides_format (both (slice hs) (slice (le_bytes xs))) → WasCut strides_format (both (slice hs) (slice (le_bytes xs))) (both (slice hs') (slice (le_bytes []))) m
cut_length {hs} {hs'} s n xs m h k l sound =
    let p = owned_limits s n xs h sound in
    let t : s * m ≤ s * n = mul-le-mul_left s l in
    record {
      sound = strides_sound (owned_sound s m [] k (omega (arith, p.fits)) (omega (arith, p.few)));
      rows = rw (owned_rows s n xs h, owned_rows s m [] k) (
          let f : take m (multiples s 0 n ++ map word_row xs) ≡ take m (multiples s 0 n) = take-append-le m (multiples s 0 n) (map word_row xs) (omega (arith, length-multiples s 0 n)) in
          append-nil (multiples s 0 m) ∙ sym (f ∙ multiples-take s 0 m n l));
      lengths_cut = (let e : 8 * (m - n) ≡ 0 = omega arith in rw (k.size, h.length, e) refl);
      kept = strides_keeps {hs = hs} {hs' = hs'} (le_bytes xs) (le_bytes []) n m m h.length k.length (λ i j. omega arith);
    }

-- reads

get-front : (xs ys : List Row) (i : ℕ) (r : Row) → slice_get xs i ≡ Some r → slice_get (xs ++ ys) i ≡ Some r
get-front [] ys i r h = cc
get-front (x ∷ xs) ys zero r h = h
get-front (x ∷ xs) ys (suc i) r h = get-front xs ys i r h

get-after : (xs ys : List Row) (i k : ℕ) (r : Row) → i ≡ length xs + k → slice_get ys k ≡ Some r → slice_get (xs ++ ys) i ≡ Some r
get-after [] ys i k r e h = let f : i ≡ k = omega arith in rw f h
get-after (x ∷ xs) ys zero k r e h = absurd (omega arith)
get-after (x ∷ xs) ys (suc i) k r e h = get-after xs ys i k r (omega arith) h

-- the explicit offset at index k
pub bound_is : (bs : List ℕ) (k : ℕ) → k < length bs / 8 → slice_get (bounds_rows (slice bs)) k ≡ Some (number (word bs k))
unfolding word
bound_is bs k l = element_row_at 8 word_row_of bs k (rw (length-bounds bs) l) ∙ ap (λ n. Some (number n)) (front_number (drop (8 * k) bs))

stride_row : (hs bs : List ℕ) (i : ℕ) → SoundStrides hs bs → i < word hs 1 → (word hs 0 * i + word hs 0 < 2 ^ 64) × (slice_get (strides_rows (both (slice hs) (slice bs))) i ≡ Some (number (word hs 0 * i + word hs 0)))
stride_row hs bs i s l =
    let t : word hs 0 * (i + 1) ≤ word hs 0 * word hs 1 = mul-le-mul_left (word hs 0) (omega arith) in
    let e : word hs 0 * suc (0 + i) ≡ word hs 0 * i + word hs 0 = omega arith in
    (omega (arith, s.fits), get-front (multiples (word hs 0) 0 (word hs 1)) (bounds_rows (slice bs)) i (number (word hs 0 * i + word hs 0)) (rw e at (multiples_get (word hs 0) 0 i (word hs 1) l)))

bound_row : (hs bs : List ℕ) (i k : ℕ) → i ≡ word hs 1 + k → k < length bs / 8 → slice_get (strides_rows (both (slice hs) (slice bs))) i ≡ Some (number (word bs k))
bound_row hs bs i k e l = get-after (multiples (word hs 0) 0 (word hs 1)) (bounds_rows (slice bs)) i k (number (word bs k)) (e ∙ ap (λ n. n + k) (sym (length-multiples (word hs 0) 0 (word hs 1)))) (bound_is bs k l)

pub whole_words : (bs : List ℕ) (k : ℕ) → length bs % 8 ≡ 0 → k < length bs / 8 → 8 * k + 8 ≤ length bs
whole_words bs k m l = omega (arith, div-add-mod (length bs) 8)

-- the result of reading a multiple, or an explicit offset
pub stride_at : (hs bs : List ℕ) (i s n : ℕ) → IsSound strides_format (both (slice hs) (slice bs)) → s ≡ word hs 0 → n ≡ word hs 1 → i < n → (s * i + s < 2 ^ 64) × (slice_get (strides_rows (both (slice hs) (slice bs))) i ≡ Some (word_row (s * i + s)))
stride_at hs bs i s n sound p q l =
    let r = stride_row hs bs i (strides_parts sound) (rw q at l) in
    let a : s * i + s < 2 ^ 64 = rw p r.0 in
    (a, rw (word_number (s * i + s) a) (rw p r.1))

pub bound_within : (hs bs : List ℕ) (i n : ℕ) → IsSound strides_format (both (slice hs) (slice bs)) → n ≡ word hs 1 → n ≤ i → i < length (strides_rows (both (slice hs) (slice bs))) → 8 * (i - n) + 8 ≤ length bs
bound_within hs bs i n sound q m l = whole_words bs (i - n) (strides_parts sound).whole (omega (arith, length-strides hs bs))

pub bound_at : (hs bs : List ℕ) (i n x : ℕ) → n ≡ word hs 1 → n ≤ i → i < length (strides_rows (both (slice hs) (slice bs))) → x ≡ word bs (i - n) → x < 2 ^ 64 → slice_get (strides_rows (both (slice hs) (slice bs))) i ≡ Some (word_row x)
bound_at hs bs i n x q m l e h =
    let r = bound_row hs bs i (i - n) (omega arith) (omega (arith, length-strides hs bs)) in
    r ∙ ap Some (ap number (sym e) ∙ sym (word_number x h))

-- how the offsets rise

pub strides_rise : (hs bs : List ℕ) (end : ℕ) → rises 0 (numbers (strides_rows (both (slice hs) (slice bs)))) end ≡ rises (word hs 0 * word hs 1) (numbers (bounds_rows (slice bs))) end
strides_rise hs bs end =
    let z : word hs 0 * 0 ≡ 0 = omega arith in
    let e : 0 + word hs 1 ≡ word hs 1 = omega arith in
    rw (z, e) at (multiples-rise (word hs 0) 0 (word hs 1) (bounds_rows (slice bs)) end)

rises_step : (ns : List ℕ) (i last n end : ℕ) → slice_get ns i ≡ Some n → rises last (drop i ns) end ≡ (nat_le last n && rises n (drop (i + 1) ns) end)
rises_step [] i last n end h = cc
rises_step (m ∷ ns) zero last n end h = let e : m ≡ n = cc in rw e refl
rises_step (m ∷ ns) (suc i) last n end h = let e : suc i + 1 ≡ suc (i + 1) = omega arith in rw e (rises_step ns i last n end h)

bound_number : (bs : List ℕ) (i : ℕ) → i < length bs / 8 → slice_get (numbers (bounds_rows (slice bs))) i ≡ Some (word bs i)
bound_number bs i l = rw (slice_get-map, bound_is bs i l) refl

-- the offset that was read is below the last one
pub bounds_fall : (bs : List ℕ) (i last end : ℕ) (all : Bool) → all ≡ rises last (drop i (numbers (bounds_rows (slice bs)))) end → i < length bs / 8 → word bs i < last → false ≡ all
bounds_fall bs i last end all p l h =
    let q = rises_step (numbers (bounds_rows (slice bs))) i last (word bs i) end (bound_number bs i l) in
    let k = lt-leb last (word bs i) h in
    sym (p ∙ (rw k at q))

-- the offset that was read is not below the last one
pub bounds_on : (bs : List ℕ) (i last end : ℕ) (all : Bool) → all ≡ rises last (drop i (numbers (bounds_rows (slice bs)))) end → i < length bs / 8 → last ≤ word bs i → all ≡ rises (word bs i) (drop (i + 1) (numbers (bounds_rows (slice bs)))) end
bounds_on bs i last end all p l h =
    let q = rises_step (numbers (bounds_rows (slice bs))) i last (word bs i) end (bound_number bs i l) in
    let k = le-leb last (word bs i) h in
    p ∙ (rw k at q)

drop_all : (n : ℕ) (ns : List ℕ) → length ns ≡ n → drop n ns ≡ []
drop_all zero [] e = refl
drop_all zero (m ∷ ns) e = absurd (omega arith)
drop_all (suc n) [] e = refl
drop_all (suc n) (m ∷ ns) e = drop_all n ns (omega arith)

-- no offset remains
pub bounds_done : (bs : List ℕ) (last end : ℕ) (all : Bool) → all ≡ rises last (drop (length bs / 8) (numbers (bounds_rows (slice bs)))) end → nat_eq last end ≡ all
bounds_done bs last end all p =
    let e : length (numbers (bounds_rows (slice bs))) ≡ length bs / 8 = length-map (bounds_rows (slice bs)) number_of ∙ length-bounds bs in
    let d : drop (length bs / 8) (numbers (bounds_rows (slice bs))) ≡ [] = drop_all (length bs / 8) (numbers (bounds_rows (slice bs))) e in
    sym (rw d at p)

-- calls

pub strides_no_rows : strides_rows (head_and_bounds (0 ∷ 0 ∷ []) []) ≡ []
strides_no_rows = owned_rows 0 0 [] (head_words 0 0 (omega arith) (omega arith)) ∙ (rw (multiples-none 0 0) refl)

-- the initial bounds of a column stay in front
pub front_kept : (n : ℕ) (old bs head : List ℕ) (x : ℕ) → n ≡ length old → take n bs ≡ old → take n (bounds_pushed head bs x) ≡ old
front_kept n old bs head x e h =
    let l : n ≤ length bs = omega (arith, length-take n bs, ap length h) in
    cond_both (joins head bs x) bs (bs ++ x ∷ []) (λ (ys : List ℕ). take n ys ≡ old)
    (λ t. h)
    (λ t. take-append-le n bs (x ∷ []) l ∙ h)

-- nothing has been copied yet
pub copy_begun : (head bounds : List ℕ) (rs : List Row) (start n : ℕ) → IsSound strides_format (head_and_bounds head bounds) → n ≡ length bounds → Took strides_format (head_and_bounds head bounds) (head_and_bounds head bounds) (take (start - start) (drop start rs)) × (take n bounds ≡ bounds)
copy_begun head bounds rs start n s e =
    let z : start - start ≡ 0 = omega arith in
    (rw z (took_none s), take_all n bounds (omega arith))

-- a copy that was refused and rolled back
pub strides_undone : (rs : List Row) {error : GrowError} (head bounds : List ℕ) (head' bounds' : List ℕ) (y : Content) (from i to : ℕ) (r : Row) → IsSound strides_format (head_and_bounds head bounds) → head' ≡ head → bounds' ≡ bounds → from ≤ i → i < to → slice_get rs i ≡ Some r → Took strides_format (head_and_bounds head bounds) y (take (i - from) (drop from rs)) → IsTrueOf error strides_format y (r ∷ []) → Refused strides_format (head_and_bounds head bounds) (head_and_bounds head' bounds') (take (to - from) (drop from rs)) error
strides_undone rs head bounds head' bounds' y from i to r s p q l m h t cause = rw (p, q) (refused_more rs from i to r strides_lawful l m h t cause (unchanged s))

-- bytes

-- sixteen bytes are those of their two words
pub head-back : (hs : List ℕ) (s n : ℕ) → length hs ≡ 16 → AreBytes hs → s ≡ word hs 0 → n ≡ word hs 1 → le_bytes (s ∷ n ∷ []) ≡ hs
unfolding word_bytes
head-back hs s n l h p q =
    let a : word_bytes (word hs 0) ≡ take 8 hs = bytes-word hs 0 h (omega arith) in
    let b : word_bytes (word hs 1) ≡ take 8 (drop 8 hs) = bytes-word hs 1 h (omega arith) in
    let c : take 8 (drop 8 hs) ≡ drop 8 hs = take_all 8 (drop 8 hs) (omega (arith, length-drop 8 hs)) in
    let d : word_bytes s ≡ take 8 hs = ap word_bytes p ∙ a in
    let e : word_bytes n ≡ drop 8 hs = ap word_bytes q ∙ b ∙ c in
    ap (λ t. t ++ (word_bytes n ++ [])) d ∙ ap (λ t. take 8 hs ++ t) (append-nil (word_bytes n) ∙ e) ∙ take-append-drop 8 hs

-- the slices of a store there
pub strides_at : (ss : List (List ℕ)) (o : ℕ) (hs bs : List ℕ) → o + 2 ≤ length ss → hs ≡ slice_index_or ss o [] → bs ≡ slice_index_or ss (o + 1) [] → strides_format.build (drop o ss) ≡ both (slice hs) (slice bs)
strides_at ss o hs bs l p q =
    let a = drop_at ss o hs (omega arith) p in
    let e : suc o ≡ o + 1 = omega arith in
    let b : drop (o + 1) ss ≡ bs ∷ drop (suc (o + 1)) ss = drop_at ss (o + 1) bs (omega arith) q in
    rw (a, e, b) refl

pub length-stored : (hs bs : List ℕ) (n : ℕ) → n ≡ word hs 1 → n + length bs / 8 ≡ length (strides_rows (both (slice hs) (slice bs)))
length-stored hs bs n e = rw e (sym (length-strides hs bs))

-- what was loaded there
pub strides_loaded : (ss : List (List ℕ)) (o : ℕ) (hs : List ℕ) (s n : ℕ) (y : Content) → o + 2 ≤ length ss → hs ≡ slice_index_or ss o [] → IsSound strides_format (strides_format.build (drop o ss)) → AreBytes hs → s ≡ word hs 0 → n ≡ word hs 1 → y ≡ first_slice (drop (o + 1) ss) → both (slice (le_bytes (s ∷ n ∷ []))) y ≡ strides_format.build (drop o ss)
strides_loaded ss o hs s n y l h sound bytes p q e =
    let bs = slice_index_or ss (o + 1) [] in
    let w : strides_format.build (drop o ss) ≡ both (slice hs) (slice bs) = strides_at ss o hs bs l h refl in
    let size = (strides_parts {hs = hs} {bs = bs} (subst (λ (c : Content). IsSound strides_format c) w sound)).size in
    let x : le_bytes (s ∷ n ∷ []) ≡ hs = head-back hs s n size bytes p q in
    let z : y ≡ slice bs = e ∙ first_at ss (o + 1) bs (omega arith) refl in
    ap (λ t. both (slice t) y) x ∙ ap (λ t. both (slice hs) t) z ∙ sym w

-- tests and reads, from the numbers that were read

pub sound_at : (hs bs : List ℕ) (s n m : ℕ) → length hs ≡ 16 → length bs % 8 ≡ 0 → s ≡ word hs 0 → n ≡ word hs 1 → m ≡ length bs / 8 → s * n < 2 ^ 64 → n + m < 2 ^ 64 → SoundStrides hs bs
sound_at hs bs s n m a b p q r f g = record { size = a; whole = b; fits = rw (p, q) at (let h : s * n ≤ 2 ^ 64 - 1 = omega arith in h); few = omega arith }

pub rise_at : (hs bs : List ℕ) (end s n : ℕ) (b : Bool) → b ≡ rises (s * n) (numbers (bounds_rows (slice bs))) end → s ≡ word hs 0 → n ≡ word hs 1 → b ≡ rises 0 (numbers (strides_rows (both (slice hs) (slice bs)))) end
rise_at hs bs end s n b h p q = (rw (p, q) at h) ∙ sym (strides_rise hs bs end)

pub stride_product : (hs bs : List ℕ) (s n : ℕ) → IsSound strides_format (both (slice hs) (slice bs)) → s ≡ word hs 0 → n ≡ word hs 1 → s * n < 2 ^ 64
stride_product hs bs s n sound p q = rw (p, q) (omega (arith, (strides_parts sound).fits))

pub too_many_at : (hs bs : List ℕ) (o s n m : ℕ) → length hs ≡ 16 → length bs % 8 ≡ 0 → s ≡ word hs 0 → n ≡ word hs 1 → m ≡ length bs / 8 → s * n < 2 ^ 64 → (n + m < 2 ^ 64 → ⊥) → Some (fault 19 o) ≡ first (moved o (strides_broken (both (slice hs) (slice bs))))
too_many_at hs bs o s n m a b p q r f g =
    let h : s * n ≤ 2 ^ 64 - 1 = omega arith in
    strides_too_many hs bs o a b (rw (p, q) at h) (omega arith)
