use Rattle.std.proofs.Common.{◌≡◌, ℕ, zero, suc, ◌+◌, ◌-◌, ◌*◌, ◌^◌, ◌<◌, ◌≤◌, Bool, true, false, List, [], ◌∷◌, ◌++◌, length, take, drop, refl, sym, ◌∙◌, ap, arith, length-append, append-nil, ◌⊎◌, ⊎_elim}
use Rattle.std.specs.Prelude.{slice_get, Some, None, not, cond, nat_eq, nat_lt, nat_le}
use Rattle.std.proofs.lemmas.Bool.{eqb-true, eq-eqb, ne_eqb, leb-true, le-leb, lt-leb, lt-ltb, le-ltb, ltb-true, or_cases, or_left, or_right, not_from_true, not_from_false}
use Rattle.std.proofs.Math.Nat.{mul-le-mul_left}
use Rattle.columnar_core.specs.Row.{Row, number, row_eq}
use Rattle.columnar_core.specs.Format.{Content, slice, both, part, plain, IsSound, IsLawful, IsStorable, lengths, slices_of, Fault, fault, unless, first, moved, Excess, too_many, misplaced}
use Rattle.columnar_core.specs.FaultLaws.{unless_true, true_unless}
use Rattle.columnar_core.specs.AlikeLaws.{row_eq_same, row_eq_exact, alike_all}
use Rattle.columnar_core.specs.Change.{Keeps, Grew, WasCut, Took, Copied, IsTrueOf, Refused}
use Rattle.columnar_core.specs.ChangeLaws.{unchanged}
use Rattle.columnar_core.specs.Elements.{first_slice, word_row}
use Rattle.columnar_core.specs.ElementLaws.{first_built}
use Rattle.columnar_core.specs.Bounds.{IsBounds, AreNumbers, rises, numbers}
use Rattle.columnar_core.specs.Bytes.{word, le_bytes}
use Rattle.columnar_core.specs.declared.fault.GrowError.{GrowError}
use Rattle.columnar_core.specs.declared.fault.GrowError.TheVariants.{Memory, Length, Offset, Format as FormatError}
use Rattle.columnar_primitive.specs.Held.{counted}
use Rattle.columnar_primitive.specs.HeldLaws.{count-word, word_number}
use Rattle.columnar_primitive.specs.Multiples.{multiples}
use Rattle.columnar_primitive.specs.MultipleLaws.{multiples_numbers, multiples-none, multiples-more, length-multiples, multiples-append, multiples-take, multiples-piece, multiples_get, multiples-shift, multiples_end}
use Rattle.columnar_primitive.specs.Fixed.{fixed_broken, fixed_rows, strays, passes, fixed_refuses, fixed_format, IsFixedCause}

-- the soundness of a column of multiples
pub record SoundFixed (k : ℕ) (bs : List ℕ) : Type 0 where
  pub size : length bs ≡ 8
  pub fits : k * word bs 0 ≤ 2 ^ 64 - 1

-- a test of two rules, the second only if the first is satisfied
pub both_kept : (b : Bool) (xs : List Fault) (x : Fault) → cond b xs (x ∷ []) ≡ [] → (b ≡ true) × (xs ≡ [])
both_kept true xs x h = (refl, h)
both_kept false xs x h = cc

pub kept_both : (b : Bool) (xs : List Fault) (x : Fault) → b ≡ true → xs ≡ [] → cond b xs (x ∷ []) ≡ []
kept_both b xs x h e = rw (h, e) refl

pub fixed_parts : (k : ℕ) {bs : List ℕ} → IsSound (fixed_format k) (slice bs) → SoundFixed k bs
fixed_parts k {bs} s =
    let p = both_kept (nat_eq (length bs) 8) (unless (nat_le (k * word bs 0) (2 ^ 64 - 1)) (fault 16 0)) (fault 9 0) s.accepted in
    record {
      size = eqb-true (length bs) 8 p.0;
      fits = leb-true (k * word bs 0) (2 ^ 64 - 1) (unless_true (nat_le (k * word bs 0) (2 ^ 64 - 1)) (fault 16 0) p.1);
    }

pub fixed_sound : (k : ℕ) {bs : List ℕ} → SoundFixed k bs → IsSound (fixed_format k) (slice bs)
fixed_sound k {bs} s = record {
  accepted = kept_both (nat_eq (length bs) 8) (unless (nat_le (k * word bs 0) (2 ^ 64 - 1)) (fault 16 0)) (fault 9 0)
      (eq-eqb (length bs) 8 s.size) (true_unless (nat_le (k * word bs 0) (2 ^ 64 - 1)) (fault 16 0) (le-leb (k * word bs 0) (2 ^ 64 - 1) s.fits));
}

-- the result of its test

pub fixed_fine : (k : ℕ) (bs : List ℕ) (o : ℕ) → length bs ≡ 8 → k * word bs 0 ≤ 2 ^ 64 - 1 → None ≡ first (moved o (fixed_broken k (slice bs)))
fixed_fine k bs o l h =
    let s : IsSound (fixed_format k) (slice bs) = fixed_sound k (record { size = l; fits = h }) in
    rw s.accepted refl

pub fixed_size_wrong : (k : ℕ) (bs : List ℕ) (o : ℕ) → (length bs ≡ 8 → ⊥) → Some (fault 9 o) ≡ first (moved o (fixed_broken k (slice bs)))
fixed_size_wrong k bs o l =
    let e : nat_eq (length bs) 8 ≡ false = ne_eqb (length bs) 8 l in
    let z : o + 0 ≡ o = omega arith in
    rw (e, z) refl

pub fixed_too_long : (k : ℕ) (bs : List ℕ) (o : ℕ) → length bs ≡ 8 → 2 ^ 64 - 1 < k * word bs 0 → Some (fault 16 o) ≡ first (moved o (fixed_broken k (slice bs)))
fixed_too_long k bs o l h =
    let e : nat_eq (length bs) 8 ≡ true = eq-eqb (length bs) 8 l in
    let f : nat_le (k * word bs 0) (2 ^ 64 - 1) ≡ false = lt-leb (k * word bs 0) (2 ^ 64 - 1) h in
    let z : o + 0 ≡ o = omega arith in
    rw (e, f, z) refl

-- which rows are refused

pub strays-more : (k n : ℕ) (rs ss : List Row) → strays k n rs ≡ true → strays k n (rs ++ ss) ≡ true
strays-more k n [] ss h = cc
strays-more k n (r ∷ rs) ss h = ⊎_elim
    (λ (p : not (row_eq r (number (k * suc n))) ≡ true). or_left (not (row_eq r (number (k * suc n)))) (strays k (suc n) (rs ++ ss)) p)
    (λ (p : strays k (suc n) rs ≡ true). or_right (not (row_eq r (number (k * suc n)))) (strays k (suc n) (rs ++ ss)) (strays-more k (suc n) rs ss p))
    (or_cases (not (row_eq r (number (k * suc n)))) (strays k (suc n) rs) h)

-- after the right multiples
pub strays-after : (k n m : ℕ) (rs : List Row) → strays k n (multiples k n m ++ rs) ≡ strays k (n + m) rs
strays-after k n zero rs = let e : n + zero ≡ n = omega arith in rw (multiples-none k n, e) refl
strays-after k n (suc m) rs =
    let e : n + suc m ≡ suc n + m = omega arith in
    let r : not (row_eq (number (k * suc n)) (number (k * suc n))) ≡ false = not_from_true (row_eq (number (k * suc n)) (number (k * suc n))) (row_eq_same.reflexive (number (k * suc n))) in
    rw (multiples-more k n m, r, e) (strays-after k (suc n) m rs)

pub passes-more : (k m n : ℕ) → m ≤ n → passes k m ≡ true → passes k n ≡ true
passes-more k m n l h =
    let t = mul-le-mul_left k l in
    ⊎_elim
    (λ (p : nat_lt (2 ^ 64 - 1) m ≡ true). or_left (nat_lt (2 ^ 64 - 1) n) (nat_lt (2 ^ 64 - 1) (k * n)) (lt-ltb (2 ^ 64 - 1) n (omega (arith, ltb-true (2 ^ 64 - 1) m p))))
    (λ (p : nat_lt (2 ^ 64 - 1) (k * m) ≡ true). or_right (nat_lt (2 ^ 64 - 1) n) (nat_lt (2 ^ 64 - 1) (k * n)) (lt-ltb (2 ^ 64 - 1) (k * n) (omega (arith, t, ltb-true (2 ^ 64 - 1) (k * m) p))))
    (or_cases (nat_lt (2 ^ 64 - 1) m) (nat_lt (2 ^ 64 - 1) (k * m)) h)

pub fixed_more : (k : ℕ) (e : Excess) (n : ℕ) (rs ss : List Row) → fixed_refuses k e n rs ≡ true → fixed_refuses k e n (rs ++ ss) ≡ true
fixed_more k too_many n rs ss h = passes-more k (n + length rs) (n + length (rs ++ ss)) (omega (arith, length-append rs ss)) h
fixed_more k misplaced n rs ss h = strays-more k n rs ss h

pub fixed_adds : (k : ℕ) (e : Excess) (n m : ℕ) (rs : List Row) → fixed_refuses k e (n + m) rs ≡ true → fixed_refuses k e n (multiples k n m ++ rs) ≡ true
fixed_adds k too_many n m rs h =
    let e : n + length (multiples k n m ++ rs) ≡ (n + m) + length rs = omega (arith, length-append (multiples k n m) rs, length-multiples k n m) in
    rw e h
fixed_adds k misplaced n m rs h = rw (strays-after k n m rs) h

-- the laws

fixed_full : (k : ℕ) (c : Content) → IsSound (fixed_format k) c → 8 ∷ [] ≡ lengths c
fixed_full k (slice bs) s = let p = fixed_parts k s in rw p.size refl
fixed_full k (both x y) s = cc
fixed_full k (part l u x) s = cc
fixed_full k (plain rs) s = cc

fixed_counted : (k : ℕ) (c : Content) → IsSound (fixed_format k) c → length (slices_of c) ≡ 1
fixed_counted k (slice bs) s = refl
fixed_counted k (both x y) s = cc
fixed_counted k (part l u x) s = cc
fixed_counted k (plain rs) s = cc

fixed_rebuilt : (k : ℕ) (c : Content) (rest : List (List ℕ)) → IsSound (fixed_format k) c → first_slice (slices_of c ++ rest) ≡ c
fixed_rebuilt k (slice bs) rest s = refl
fixed_rebuilt k (both x y) rest s = cc
fixed_rebuilt k (part l u x) rest s = cc
fixed_rebuilt k (plain rs) rest s = cc

pub fixed_lawful : (k : ℕ) → IsLawful (fixed_format k)
fixed_lawful k = record {
  full = λ c s. fixed_full k c s;
  same = row_eq_same;
  kindred = row_eq_same;
  related = λ r s h. h;
  more = λ e c n rs ss h. fixed_more k e n rs ss h;
}

pub fixed_storable : (k : ℕ) → IsStorable (fixed_format k)
fixed_storable k = record {
  swift = omega arith;
  sized = refl;
  aligned = refl;
  counted = fixed_counted k;
  rebuilt = fixed_rebuilt k;
  built = first_built;
}

fixed_numbers : (k : ℕ) → AreNumbers (fixed_format k)
fixed_numbers k (slice bs) s = multiples_numbers k 0 (word bs 0)
fixed_numbers k (both x y) s = refl
fixed_numbers k (part l u x) s = refl
fixed_numbers k (plain rs) s = refl

pub fixed_bounds : (k : ℕ) → IsBounds (fixed_format k)
fixed_bounds k = record { exact = row_eq_exact; swift = omega arith; are_numbers = fixed_numbers k }

-- changes

fixed_keeps : (k : ℕ) (old new : Content) (n : ℕ) → Keeps (fixed_format k) old new n
fixed_keeps k old new n = record { extents = λ m l. refl; limits = λ m l e rs. refl }

-- the next m multiples follow
pub fixed_grew : (k : ℕ) {old new : List ℕ} (n m : ℕ) → word old 0 ≡ n → word new 0 ≡ n + m → SoundFixed k new → Grew (fixed_format k) (slice old) (slice new) (multiples k n m)
fixed_grew k {old} {new} n m p q s = record {
  sound = fixed_sound k s;
  rows = rw (p, q) (let z : 0 + n ≡ n = omega arith in rw z at (multiples-append k 0 n m));
  kept = fixed_keeps k (slice old) (slice new) (length (multiples k 0 (word old 0)));
}

pub fixed_took : (k : ℕ) {old new : List ℕ} (n m : ℕ) → word old 0 ≡ n → word new 0 ≡ n + m → SoundFixed k new → Took (fixed_format k) (slice old) (slice new) (multiples k n m)
fixed_took k {old} {new} n m p q s = record {
  fresh = multiples k n m;
  grew = fixed_grew k n m p q s;
  alike = alike_all row_eq row_eq_same (multiples k n m);
  adds = λ e rs h. rw (p, length-multiples k 0 n) (fixed_adds k e n m rs (rw (q, length-multiples k 0 (n + m)) at h));
}

pub fixed_copied : (k : ℕ) {old new : List ℕ} (n m start : ℕ) → word old 0 ≡ n → word new 0 ≡ n + m → SoundFixed k new → Copied (fixed_format k) (slice old) (slice new) start (multiples k n m)
fixed_copied k {old} {new} n m start p q s = record {
  took = fixed_took k n m p q s;
  front = λ none z. (fixed_grew k n m p q s).rows ∙ ap (λ rs. rs ++ multiples k n m) none;
}

-- a range of another column's multiples, the first of which is the next one here
pub fixed_piece : (k start n m top : ℕ) → start + m ≤ top → k * suc start ≡ k * suc n → take m (drop start (multiples k 0 top)) ≡ multiples k n m
fixed_piece k start n m top l e = multiples-piece k start m top l ∙ multiples-shift k start n m e

-- no multiples follow
pub fixed_copied_none : (k : ℕ) {bs : List ℕ} (start : ℕ) → IsSound (fixed_format k) (slice bs) → Copied (fixed_format k) (slice bs) (slice bs) start []
fixed_copied_none k {bs} start s =
    let e : word bs 0 + 0 ≡ word bs 0 = omega arith in
    rw (multiples-none k (word bs 0)) at (fixed_copied k (word bs 0) 0 start refl (sym e) (fixed_parts k s))

pub fixed_cut : (k : ℕ) {old new : List ℕ} (n : ℕ) → length new ≡ 8 → word new 0 ≡ n → n ≤ word old 0 → IsSound (fixed_format k) (slice old) → WasCut (fixed_format k) (slice old) (slice new) n
fixed_cut k {old} {new} n l e m s =
    let p = fixed_parts k s in
    let t = mul-le-mul_left k m in
    record {
      sound = fixed_sound k (record { size = l; fits = rw e (omega (arith, t, p.fits)) });
      rows = rw e (sym (multiples-take k 0 n (word old 0) m));
      lengths_cut = rw l refl;
      kept = fixed_keeps k (slice old) (slice new) n;
    }

-- refusals

-- one more row than can be counted
pub fixed_past : (k n : ℕ) (r : Row) (rs : List Row) → 2 ^ 64 - 1 < n + 1 ⊎ 2 ^ 64 - 1 < k * (n + 1) → fixed_refuses k too_many n (r ∷ rs) ≡ true
fixed_past k n r rs h = passes-more k (n + 1) (n + length (r ∷ rs)) (omega arith) (⊎_elim
    (λ (p : 2 ^ 64 - 1 < n + 1). or_left (nat_lt (2 ^ 64 - 1) (n + 1)) (nat_lt (2 ^ 64 - 1) (k * (n + 1))) (lt-ltb (2 ^ 64 - 1) (n + 1) p))
    (λ (p : 2 ^ 64 - 1 < k * (n + 1)). or_right (nat_lt (2 ^ 64 - 1) (n + 1)) (nat_lt (2 ^ 64 - 1) (k * (n + 1))) (lt-ltb (2 ^ 64 - 1) (k * (n + 1)) p))
    h)

-- a row that is not the next multiple
pub fixed_stray : (k n x : ℕ) (rs : List Row) → (x ≡ k * (n + 1) → ⊥) → fixed_refuses k misplaced n (number x ∷ rs) ≡ true
fixed_stray k n x rs h =
    let e : k * suc n ≡ k * (n + 1) = omega arith in
    let f : nat_eq x (k * suc n) ≡ false = rw e (ne_eqb x (k * (n + 1)) h) in
    or_left (not (row_eq (number x) (number (k * suc n)))) (strays k (suc n) rs) (not_from_false (row_eq (number x) (number (k * suc n))) f)

-- calls of an owned column with the count n

pub count_sound : (k n : ℕ) → n < 2 ^ 64 → k * n < 2 ^ 64 → SoundFixed k (le_bytes (n ∷ []))
count_sound k n l h = record { size = refl; fits = rw (count-word n l) (omega arith) }

pub count_fits : (k n : ℕ) → n < 2 ^ 64 → IsSound (fixed_format k) (counted n) → k * n ≤ 2 ^ 64 - 1
count_fits k n l s = rw (count-word n l) at ((fixed_parts k s).fits)

pub fixed_none : (k : ℕ) → IsSound (fixed_format k) (counted 0)
fixed_none k = fixed_sound k (count_sound k 0 (omega arith) (omega arith))

pub fixed_no_rows : (k : ℕ) → fixed_rows k (counted 0) ≡ []
fixed_no_rows k = let e : word (le_bytes (0 ∷ [])) 0 ≡ 0 = count-word 0 (omega arith) in rw e (multiples-none k 0)

pub length-fixed : (k : ℕ) (bs : List ℕ) → word bs 0 ≡ length (fixed_rows k (slice bs))
length-fixed k bs = sym (length-multiples k 0 (word bs 0))

pub fixed_row : (k : ℕ) (bs : List ℕ) (i : ℕ) → IsSound (fixed_format k) (slice bs) → i < length (fixed_rows k (slice bs)) → (k * (i + 1) < 2 ^ 64) × (slice_get (fixed_rows k (slice bs)) i ≡ Some (number (k * (i + 1))))
fixed_row k bs i s l =
    let n : i < word bs 0 = rw (length-multiples k 0 (word bs 0)) at l in
    let p = fixed_parts k s in
    let t : k * (i + 1) ≤ k * word bs 0 = mul-le-mul_left k (omega arith) in
    let e : k * suc (0 + i) ≡ k * (i + 1) = omega arith in
    (omega (arith, p.fits), rw e at (multiples_get k 0 i (word bs 0) n))

pub fixed_get : (k : ℕ) (bs : List ℕ) (i : ℕ) → IsSound (fixed_format k) (slice bs) → i < length (fixed_rows k (slice bs)) → slice_get (fixed_rows k (slice bs)) i ≡ Some (word_row (k * (i + 1)))
fixed_get k bs i s l = let p = fixed_row k bs i s l in rw (word_number (k * (i + 1)) p.0) p.1

pub fixed_pushed : (k n m x : ℕ) → n < 2 ^ 64 → m < 2 ^ 64 → m ≡ n + 1 → x ≡ k * m → x < 2 ^ 64 → Took (fixed_format k) (counted n) (counted m) (word_row x ∷ [])
fixed_pushed k n m x l h e f g =
    let t = fixed_took k {old = le_bytes (n ∷ [])} {new = le_bytes (m ∷ [])} n 1 (count-word n l) (count-word m h ∙ e) (count_sound k m h (omega arith)) in
    let r : k * suc n ≡ x = omega (arith, ap (λ i. k * i) e) in
    let w : multiples k n 1 ≡ word_row x ∷ [] = multiples-more k n 0 ∙ (rw (multiples-none k (suc n), r, word_number x g) refl) in
    rw w at t

-- the cause of an error, at a column with the count n
pub fixed_true : (k : ℕ) (bs : List ℕ) (n : ℕ) (rs : List Row) (error : GrowError) → word bs 0 ≡ n → IsFixedCause k error n rs → IsTrueOf error (fixed_format k) (slice bs) rs
fixed_true k bs n rs Memory e h = h
fixed_true k bs n rs Length e h = rw (length-multiples k 0 (word bs 0), e) h
fixed_true k bs n rs Offset e h = rw (length-multiples k 0 (word bs 0), e) h
fixed_true k bs n rs FormatError e h = h

pub fixed_refused : (k n x : ℕ) (rs : List Row) (error : GrowError) → n < 2 ^ 64 → x < 2 ^ 64 → IsSound (fixed_format k) (counted n) → IsFixedCause k error n (number x ∷ rs) → Refused (fixed_format k) (counted n) (counted n) (word_row x ∷ rs) error
fixed_refused k n x rs error l h s cause = record {
  stayed = unchanged s;
  cause = rw (word_number x h) (fixed_true k (le_bytes (n ∷ [])) n (number x ∷ rs) error (count-word n l) cause);
}

-- the range of a bulk copy, whose first offset is x
piece_first : (k start m top x : ℕ) → start + suc m ≤ top → x < 2 ^ 64 → slice_get (multiples k 0 top) start ≡ Some (word_row x) → (k * suc start ≡ x) × (take (suc m) (drop start (multiples k 0 top)) ≡ word_row x ∷ multiples k (suc start) m)
piece_first k start m top x l h g =
    let a : 0 + start ≡ start = omega arith in
    let b : slice_get (multiples k 0 top) start ≡ Some (number (k * suc start)) = rw a at (multiples_get k 0 start top (omega arith)) in
    let w : word_row x ≡ number x = word_number x h in
    let c : number (k * suc start) ≡ number x = cc in
    let d : k * suc start ≡ x = cc in
    (d, multiples-piece k start (suc m) top l ∙ multiples-more k start m ∙ (rw (d, w) refl))

pub fixed_copy_refused : (k n start added top x : ℕ) (error : GrowError) → n < 2 ^ 64 → x < 2 ^ 64 → start + added ≤ top → 0 < added → IsSound (fixed_format k) (counted n) → slice_get (multiples k 0 top) start ≡ Some (word_row x) → ((rs : List Row) → added ≤ length rs + 1 → IsFixedCause k error n (number x ∷ rs)) → Refused (fixed_format k) (counted n) (counted n) (take added (drop start (multiples k 0 top))) error
fixed_copy_refused k n start zero top x error l h m pos s g cause = absurd (omega arith)
fixed_copy_refused k n start (suc added) top x error l h m pos s g cause =
    rw (piece_first k start added top x m h g).1 (fixed_refused k n x (multiples k (suc start) added) error l h s (cause (multiples k (suc start) added) (omega (arith, length-multiples k (suc start) added))))

-- a range whose first offset is the next multiple, or is not
pub first_next : (k n start added top x : ℕ) → x < 2 ^ 64 → start + added ≤ top → 0 < added → slice_get (multiples k 0 top) start ≡ Some (word_row x) → x ≡ k * (n + 1) → strays k n (take added (drop start (multiples k 0 top))) ≡ false
first_next k n start zero top x h t pos g e = absurd (omega arith)
first_next k n start (suc added) top x h t pos g e =
    let p = piece_first k start added top x t h g in
    let r : k * suc start ≡ k * suc n = p.0 ∙ omega (arith, e) in
    rw (fixed_piece k start n (suc added) top t r) (rw append-nil at (strays-after k n (suc added) []))

pub first_stray : (k n start added top x : ℕ) → x < 2 ^ 64 → start + added ≤ top → 0 < added → slice_get (multiples k 0 top) start ≡ Some (word_row x) → (x ≡ k * (n + 1) → ⊥) → strays k n (take added (drop start (multiples k 0 top))) ≡ true
first_stray k n start zero top x h t pos g e = absurd (omega arith)
first_stray k n start (suc added) top x h t pos g e =
    let p = (piece_first k start added top x t h g).1 ∙ ap (λ r. r ∷ multiples k (suc start) added) (word_number x h) in
    rw p (fixed_stray k n x (multiples k (suc start) added) e)

-- the count of a sound column passes no limit
pub fixed_within : (k n added : ℕ) → n < 2 ^ 64 → added ≡ 0 → IsSound (fixed_format k) (counted n) → passes k (n + added) ≡ false
fixed_within k n added l e s =
    let m : n + added ≡ n = omega arith in
    let a : nat_lt (2 ^ 64 - 1) n ≡ false = le-ltb (2 ^ 64 - 1) n (omega arith) in
    let b : nat_lt (2 ^ 64 - 1) (k * n) ≡ false = le-ltb (2 ^ 64 - 1) (k * n) (count_fits k n l s) in
    rw (m, a, b) refl

pub fixed_copy : (k n start added m x : ℕ) {from : List ℕ} → n < 2 ^ 64 → x < 2 ^ 64 → n + added < 2 ^ 64 → start + added ≤ word from 0 → 0 < added → IsSound (fixed_format k) (slice from) → slice_get (multiples k 0 (word from 0)) start ≡ Some (word_row x) → m ≡ n + 1 → x ≡ k * m → Copied (fixed_format k) (counted n) (counted (n + added)) start (take added (drop start (multiples k 0 (word from 0))))
fixed_copy k n start zero m x l h b t pos s g e f = absurd (omega arith)
fixed_copy k n start (suc added) m x {from} l h b t pos s g e f =
    let p = piece_first k start added (word from 0) x t h g in
    let q = fixed_parts k s in
    let u : k * (start + suc added) ≤ k * word from 0 = mul-le-mul_left k t in
    let r : k * suc start ≡ k * suc n = p.0 ∙ omega (arith, ap (λ i. k * i) e) in
    let w : k * (n + suc added) ≡ k * (start + suc added) = omega arith in
    rw (fixed_piece k start n (suc added) (word from 0) t r) (fixed_copied k n (suc added) start (count-word n l) (count-word (n + suc added) b) (count_sound k (n + suc added) b (omega (arith, q.fits))))

pub fixed_copy_none : (k : ℕ) {bs : List ℕ} (start added : ℕ) (rs : List Row) → added ≡ 0 → IsSound (fixed_format k) (slice bs) → Copied (fixed_format k) (slice bs) (slice bs) start (take added (drop start rs))
fixed_copy_none k start added rs e s = rw e (fixed_copied_none k start s)

-- where the offsets end
pub fixed_end : (k : ℕ) (bs : List ℕ) (end n : ℕ) → n ≡ word bs 0 → nat_eq (k * n) end ≡ rises 0 (numbers (fixed_rows k (slice bs))) end
fixed_end k bs end n e = rw e (sym (multiples_end k (word bs 0) end))
