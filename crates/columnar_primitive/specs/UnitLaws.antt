use Rattle.std.proofs.Common.{◌≡◌, ℕ, zero, suc, ◌+◌, ◌-◌, ◌^◌, ◌<◌, ◌≤◌, true, List, [], ◌∷◌, ◌++◌, length, take, drop, refl, sym, ◌∙◌, ap, arith, length-append}
use Rattle.std.specs.Prelude.{slice_get, Some}
use Rattle.std.proofs.lemmas.Bool.{eqb-true, lt-ltb}
use Rattle.columnar_base.specs.Row.{unit, row_eq}
use Rattle.columnar_base.specs.AlikeLaws.{row_eq_same, alike_all}
use Rattle.columnar_base.specs.FaultLaws.{unless_true, true_unless}
use Rattle.columnar_base.specs.Format.{Content, slice, both, part, plain, IsSound, IsLawful, IsStorable, fault, lengths, slices_of}
use Rattle.columnar_base.specs.Elements.{first_slice}
use Rattle.columnar_base.specs.ElementLaws.{first_built, past_more}
use Rattle.columnar_base.specs.Change.{Keeps, Grew, WasCut, Took, Copied, Refused}
use Rattle.columnar_base.specs.ChangeLaws.{unchanged}
use Rattle.columnar_base.specs.declared.fault.GrowError.{GrowError}
use Rattle.columnar_base.specs.declared.fault.GrowError.TheVariants.{Length}
use Rattle.columnar_primitive.specs.Counts.{is_word, number_in, word_of}
use Rattle.columnar_primitive.specs.CountLaws.{word_back}
use Rattle.columnar_primitive.specs.Units.{units, units_format}

pub length-units : (n : ℕ) → length (units n) ≡ n
length-units zero = refl
length-units (suc n) = ap suc (length-units n)

pub units-append : (m n : ℕ) → units (m + n) ≡ units m ++ units n
units-append zero n = let e : zero + n ≡ n = omega arith in rw e refl
units-append (suc m) n = let e : suc m + n ≡ suc (m + n) = omega arith in rw e (ap (λ t. unit ∷ t) (units-append m n))

pub units-take : (k n : ℕ) → k ≤ n → take k (units n) ≡ units k
units-take zero n l = refl
units-take (suc k) zero l = absurd (omega arith)
units-take (suc k) (suc n) l = ap (λ t. unit ∷ t) (units-take k n (omega arith))

pub units-drop : (k n : ℕ) → k ≤ n → drop k (units n) ≡ units (n - k)
units-drop zero n l = let e : n - zero ≡ n = omega arith in rw e refl
units-drop (suc k) zero l = absurd (omega arith)
units-drop (suc k) (suc n) l = let e : suc n - suc k ≡ n - k = omega arith in rw e (units-drop k n (omega arith))

-- a range of units
pub units_piece : (start end n : ℕ) → start ≤ end → end ≤ n → take (end - start) (drop start (units n)) ≡ units (end - start)
units_piece start end n l m = rw (units-drop start n (omega arith)) (units-take (end - start) (n - start) (omega arith))

pub unit_get : (i n : ℕ) → i < n → slice_get (units n) i ≡ Some unit
unit_get i zero l = absurd (omega arith)
unit_get zero (suc n) l = refl
unit_get (suc i) (suc n) l = unit_get i n (omega arith)

-- the consequence of soundness
pub sound_word : {c : Content} → IsSound units_format c → is_word c ≡ true
sound_word {c} s = unless_true (is_word c) (fault 9 0) s.accepted

pub word_sound : (c : Content) → is_word c ≡ true → IsSound units_format c
word_sound c h = record { accepted = true_unless (is_word c) (fault 9 0) h }

units_full : (c : Content) → IsSound units_format c → 8 ∷ [] ≡ lengths c
units_full (slice bs) s = let e : length bs ≡ 8 = eqb-true _ _ (sound_word s) in rw e refl
units_full (both x y) s = cc
units_full (part l u x) s = cc
units_full (plain rs) s = cc

units_counted : (c : Content) → IsSound units_format c → length (slices_of c) ≡ 1
units_counted (slice bs) s = refl
units_counted (both x y) s = cc
units_counted (part l u x) s = cc
units_counted (plain rs) s = cc

units_rebuilt : (c : Content) (rest : List (List ℕ)) → IsSound units_format c → first_slice (slices_of c ++ rest) ≡ c
units_rebuilt (slice bs) rest s = refl
units_rebuilt (both x y) rest s = cc
units_rebuilt (part l u x) rest s = cc
units_rebuilt (plain rs) rest s = cc

pub units_lawful : IsLawful units_format
units_lawful = record {
  full = units_full;
  same = row_eq_same;
  kindred = row_eq_same;
  related = λ r s h. h;
  more = λ e c n rs ss h. past_more e (n + length rs) (n + length (rs ++ ss)) (omega (arith, length-append rs ss)) h;
}

pub units_storable : IsStorable units_format
units_storable = record {
  swift = omega arith;
  sized = refl;
  aligned = refl;
  counted = units_counted;
  rebuilt = units_rebuilt;
  built = first_built;
}

units_keeps : (c d : Content) (n : ℕ) → Keeps units_format c d n
units_keeps c d n = record { extents = λ k l. refl; limits = λ k l e rs. refl }

-- n units follow those of c
units_grew : (c d : Content) (n : ℕ) → is_word d ≡ true → number_in d ≡ number_in c + n → Grew units_format c d (units n)
units_grew c d n w e = record {
  sound = word_sound d w;
  rows = rw e (units-append (number_in c) n);
  kept = units_keeps c d (length (units (number_in c)));
}

pub units_took : (c d : Content) (n : ℕ) → is_word d ≡ true → number_in d ≡ number_in c + n → Took units_format c d (units n)
units_took c d n w e = record {
  fresh = units n;
  grew = units_grew c d n w e;
  alike = alike_all row_eq row_eq_same (units n);
  adds = λ x rs h.
      let a = length-units (number_in d) in
      let b = length-units (number_in c) in
      past_more x (length (units (number_in d)) + length rs) (length (units (number_in c)) + length (units n ++ rs)) (omega (arith, length-append (units n) rs, length-units n)) h;
}

pub units_copied : (c d : Content) (n start : ℕ) → is_word d ≡ true → number_in d ≡ number_in c + n → Copied units_format c d start (units n)
units_copied c d n start w e = record {
  took = units_took c d n w e;
  front = λ h z. ap units e ∙ (units-append (number_in c) n ∙ ap (λ t. t ++ units n) h);
}

-- n more units are too many
units_past : (c : Content) (n : ℕ) → IsSound units_format c → 2 ^ 64 - 1 < number_in c + n → Refused units_format c c (units n) Length
units_past c n s l = record {
  stayed = unchanged s;
  cause = lt-ltb (2 ^ 64 - 1) (length (units (number_in c)) + length (units n)) (omega (arith, length-units (number_in c), length-units n));
}

units_cut : (c d : Content) (n : ℕ) → IsSound units_format c → is_word d ≡ true → number_in d ≡ n → n ≤ length (units (number_in c)) → WasCut units_format c d n
units_cut c d n s w e l = record {
  sound = word_sound d w;
  rows = rw e (sym (units-take n (number_in c) (omega (arith, length-units (number_in c)))));
  lengths_cut = sym (units_full d (word_sound d w));
  kept = units_keeps c d n;
}

-- row i is a unit
pub unit_at : (c : Content) (i : ℕ) → i < length (units (number_in c)) → slice_get (units (number_in c)) i ≡ Some unit
unit_at c i l = unit_get i (number_in c) (omega (arith, length-units (number_in c)))

-- the same for a 64-bit number

pub word_none : units (number_in (word_of 0)) ≡ []
word_none = refl

-- k units follow m units
pub number_took : (m n k : ℕ) → n < 2 ^ 64 → n ≡ m + k → Took units_format (word_of m) (word_of n) (units k)
number_took m n k h e = units_took (word_of m) (word_of n) k refl (word_back n h ∙ (e ∙ ap (λ i. i + k) (sym (word_back m (omega arith)))))

pub number_copied : (m n k start : ℕ) → n < 2 ^ 64 → n ≡ m + k → Copied units_format (word_of m) (word_of n) start (units k)
number_copied m n k start h e = units_copied (word_of m) (word_of n) k start refl (word_back n h ∙ (e ∙ ap (λ i. i + k) (sym (word_back m (omega arith)))))

-- k more units than m were refused
pub number_refused : (m n k : ℕ) (error : GrowError) → n < 2 ^ 64 → n ≡ m → error ≡ Length → 2 ^ 64 - 1 < m + k → Refused units_format (word_of m) (word_of n) (units k) error
number_refused m n k error l e f h = rw (e, f) (units_past (word_of m) k (word_sound (word_of m) refl) (let b = word_back m (omega arith) in omega arith))

pub number_cut : (m n : ℕ) → n < 2 ^ 64 → n ≤ length (units (number_in (word_of m))) → WasCut units_format (word_of m) (word_of n) n
number_cut m n h k = units_cut (word_of m) (word_of n) n (word_sound (word_of m) refl) refl (word_back n h) k
