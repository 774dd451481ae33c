use Rattle.std.proofs.Common.{◌≡◌, ℕ, zero, suc, ◌+◌, ◌*◌, ◌/◌, ◌≤◌, Bool, true, false, ◌&&◌, List, [], ◌∷◌, ◌++◌, length, take, drop, map, refl, sym, ◌∙◌, ap, arith, length-append}
use Rattle.std.specs.Prelude.{slice_get, Some, None}
use Rattle.std.proofs.lemmas.List.{map-append, length-map, take-map}
use Rattle.std.proofs.lemmas.Bool.{and_parts, and_from}
use Rattle.std.proofs.lemmas.Option.{slice_get-map}
use Rattle.std.proofs.Math.Nat.{mul-div-le, mul-le-mul_right}
use Rattle.columnar_base.specs.Row.{Row, row_eq}
use Rattle.columnar_base.specs.AlikeLaws.{row_eq_same, row_eq_exact, alike_all}
use Rattle.columnar_base.specs.FaultLaws.{nothing_left, nothing_both, unless_true, true_unless, first_found, first_none}
use Rattle.columnar_base.specs.Format.{Format, Content, slice, both, part, plain, Fault, fault, moved, moved_one, first, unless, IsSound, IsLawful, IsStorable, Fits, bytes_held}
use Rattle.columnar_base.specs.Elements.{elements_format, elements_rows}
use Rattle.columnar_base.specs.ElementLaws.{length-elements, past_more}
use Rattle.columnar_base.specs.Change.{Keeps, Stayed, WasCut, Took, Copied, Refused}
use Rattle.columnar_base.specs.ChangeLaws.{grew_exactly, true_from, take-suc_get}
use Rattle.columnar_base.specs.declared.fault.GrowError.{GrowError}
use Rattle.columnar_primitive.specs.Mapped.{all_pass, IsFlat, mapped_format}

-- rows that pass

pub pass-append : (test : Row → Bool) (rs ss : List Row) → all_pass test rs ≡ true → all_pass test ss ≡ true → all_pass test (rs ++ ss) ≡ true
pass-append test [] ss p q = q
pass-append test (r ∷ rs) ss p q = let h = and_parts (test r) (all_pass test rs) p in and_from _ _ h.0 (pass-append test rs ss h.1 q)

pub pass_take : (test : Row → Bool) (n : ℕ) (rs : List Row) → all_pass test rs ≡ true → all_pass test (take n rs) ≡ true
pass_take test zero rs p = refl
pass_take test (suc n) [] p = refl
pass_take test (suc n) (r ∷ rs) p = let h = and_parts (test r) (all_pass test rs) p in and_from _ _ h.0 (pass_take test n rs h.1)

pub pass_drop : (test : Row → Bool) (n : ℕ) (rs : List Row) → all_pass test rs ≡ true → all_pass test (drop n rs) ≡ true
pass_drop test zero rs p = p
pass_drop test (suc n) [] p = refl
pass_drop test (suc n) (r ∷ rs) p = pass_drop test n rs (and_parts (test r) (all_pass test rs) p).1

pub pass_get : (test : Row → Bool) (i : ℕ) (rs : List Row) (r : Row) → all_pass test rs ≡ true → slice_get rs i ≡ Some r → test r ≡ true
pass_get test i [] r p h = cc
pass_get test zero (s ∷ rs) r p h = let e : s ≡ r = cc in rw e at (and_parts (test s) (all_pass test rs) p).0
pass_get test (suc i) (s ∷ rs) r p h = pass_get test i rs r (and_parts (test s) (all_pass test rs) p).1 h

and_false : (b : Bool) → (b && false) ≡ false
and_false true = refl
and_false false = refl

-- a row that fails
pub fail_get : (test : Row → Bool) (i : ℕ) (rs : List Row) (r : Row) → slice_get rs i ≡ Some r → test r ≡ false → all_pass test rs ≡ false
fail_get test i [] r h f = cc
fail_get test zero (s ∷ rs) r h f = let e : s ≡ r = cc in rw (e, f) refl
fail_get test (suc i) (s ∷ rs) r h f = rw (fail_get test i rs r h f) (and_false (test s))

-- one more row that passes
pub pass_more : (test : Row → Bool) (i : ℕ) (rs : List Row) (r : Row) → slice_get rs i ≡ Some r → test r ≡ true → all_pass test (take i rs) ≡ true → all_pass test (take (i + 1) rs) ≡ true
pass_more test i rs r h t p =
    let e : suc i ≡ i + 1 = omega arith in
    rw (← e, take-suc_get i rs r h) (pass-append test (take i rs) (r ∷ []) p (and_from _ _ t refl))

-- if every row passes, all do
pub pass_always : (test : Row → Bool) → ((r : Row) → test r ≡ true) → (rs : List Row) → all_pass test rs ≡ true
pass_always test h [] = refl
pass_always test h (r ∷ rs) = and_from _ _ (h r) (pass_always test h rs)

map_drop : (f : Row → Row) (n : ℕ) (rs : List Row) → drop n (map f rs) ≡ map f (drop n rs)
map_drop f zero rs = refl
map_drop f (suc n) [] = refl
map_drop f (suc n) (r ∷ rs) = map_drop f n rs

map_none : (f : Row → Row) (rs : List Row) → map f rs ≡ [] → rs ≡ []
map_none f [] h = refl
map_none f (r ∷ rs) h = cc

-- a range of mapped rows
pub mapped_piece : (to : Row → Row) (start n : ℕ) (rs : List Row) → take n (drop start (map to rs)) ≡ map to (take n (drop start rs))
mapped_piece to start n rs = rw (map_drop to start rs) (take-map to n (drop start rs))

-- row i
pub mapped_get : (to : Row → Row) (i : ℕ) (rs : List Row) (r : Row) → slice_get rs i ≡ Some r → slice_get (map to rs) i ≡ Some (to r)
mapped_get to i rs r h = rw (slice_get-map, h) refl

-- the soundness of a mapped column
pub record SoundValues (f : Format) (test : Row → Bool) (c : Content) : Type 0 where
  pub values : IsSound f c
  pub pass : all_pass test (f.rows c) ≡ true

pub mapped_parts : (f : Format) (to : Row → Row) (test : Row → Bool) {c : Content} → IsSound (mapped_format f to test) c → SoundValues f test c
mapped_parts f to test {c} s =
    let p = nothing_left (f.broken c) (unless (all_pass test (f.rows c)) (fault 14 0)) s.accepted in
    record { values = record { accepted = p.0 }; pass = unless_true (all_pass test (f.rows c)) (fault 14 0) p.1 }

pub mapped_sound : (f : Format) (to : Row → Row) (test : Row → Bool) {c : Content} → IsSound f c → all_pass test (f.rows c) ≡ true → IsSound (mapped_format f to test) c
mapped_sound f to test {c} s p = record { accepted = nothing_both (f.broken c) (unless (all_pass test (f.rows c)) (fault 14 0)) s.accepted (true_unless (all_pass test (f.rows c)) (fault 14 0) p) }

pub mapped_lawful : (f : Format) (to : Row → Row) (test : Row → Bool) → IsLawful f → IsLawful (mapped_format f to test)
mapped_lawful f to test law = record {
  full = λ c s. ap (f.extent c) (length-map (f.rows c) to) ∙ law.full c (mapped_parts f to test s).values;
  same = row_eq_same;
  kindred = row_eq_same;
  related = λ r s h. h;
  more = λ e c n rs ss h. past_more e (n + length rs) (n + length (rs ++ ss)) (omega (arith, length-append rs ss)) h;
}

pub mapped_storable : (f : Format) (to : Row → Row) (test : Row → Bool) → IsStorable f → IsStorable (mapped_format f to test)
mapped_storable f to test s = record {
  swift = omega arith;
  sized = s.sized;
  aligned = s.aligned;
  counted = λ c t. s.counted c (mapped_parts f to test t).values;
  rebuilt = λ c rest t. s.rebuilt c rest (mapped_parts f to test t).values;
  built = s.built;
}

-- changes

mapped_keeps : (f : Format) (to : Row → Row) (test : Row → Bool) {x y : Content} {n : ℕ} (m : ℕ) → m ≤ n → Keeps f x y n → Keeps (mapped_format f to test) x y m
mapped_keeps f to test m l k = record { extents = λ i h. k.extents i (omega arith); limits = λ i h e rs. refl }

pub mapped_took : (f : Format) (to : Row → Row) (test : Row → Bool) {x y : Content} {us : List Row} → IsFlat f → IsSound (mapped_format f to test) x → all_pass test us ≡ true → Took f x y us → Took (mapped_format f to test) x y (map to us)
mapped_took f to test {x} {y} {us} flat s p t =
    let g = grew_exactly flat.exact t in
    let q = mapped_parts f to test s in
    let n : length (f.rows y) ≡ length (f.rows x) + length us = ap length g.rows ∙ length-append (f.rows x) us in
    record {
      fresh = map to us;
      grew = record {
        sound = mapped_sound f to test g.sound (rw g.rows (pass-append test (f.rows x) us q.pass p));
        rows = rw g.rows (map-append to (f.rows x) us);
        kept = mapped_keeps f to test (length (map to (f.rows x))) (omega (arith, length-map (f.rows x) to)) g.kept;
      };
      alike = alike_all row_eq row_eq_same (map to us);
      adds = λ e rs h. past_more e (length (map to (f.rows y)) + length rs) (length (map to (f.rows x)) + length (map to us ++ rs)) (omega (arith, n, length-map (f.rows x) to, length-map (f.rows y) to, length-append (map to us) rs, length-map us to)) h;
    }

pub mapped_copied : (f : Format) (to : Row → Row) (test : Row → Bool) {x y : Content} {us : List Row} (start : ℕ) → IsFlat f → IsSound (mapped_format f to test) x → all_pass test us ≡ true → Copied f x y start us → Copied (mapped_format f to test) x y start (map to us)
mapped_copied f to test {x} {y} {us} start flat s p c = record {
  took = mapped_took f to test flat s p c.took;
  front = λ n z. ap (map to) (c.front (map_none to (f.rows x) n) z);
}

pub mapped_stayed : (f : Format) (to : Row → Row) (test : Row → Bool) {x y : Content} → IsSound (mapped_format f to test) x → Stayed f x y → Stayed (mapped_format f to test) x y
mapped_stayed f to test {x} {y} s g = record {
  sound = mapped_sound f to test g.sound (rw g.rows (mapped_parts f to test s).pass);
  rows = ap (map to) g.rows;
  lengths_same = g.lengths_same;
  kept = mapped_keeps f to test (length (map to (f.rows x))) (omega (arith, length-map (f.rows x) to)) g.kept;
}

pub mapped_cut : (f : Format) (to : Row → Row) (test : Row → Bool) {x y : Content} {n : ℕ} → IsSound (mapped_format f to test) x → WasCut f x y n → WasCut (mapped_format f to test) x y n
mapped_cut f to test {x} {y} {n} s g = record {
  sound = mapped_sound f to test g.sound (rw g.rows (pass_take test n (f.rows x) (mapped_parts f to test s).pass));
  rows = rw g.rows (sym (take-map to n (f.rows x)));
  lengths_cut = g.lengths_cut;
  kept = mapped_keeps f to test n (omega arith) g.kept;
}

pub mapped_refused : (f : Format) (to : Row → Row) (test : Row → Bool) {x y : Content} (us : List Row) {error : GrowError} → IsFlat f → IsSound (mapped_format f to test) x → Refused f x y us error → Refused (mapped_format f to test) x y (map to us) error
mapped_refused f to test {x} {y} us {error} flat s g = record {
  stayed = mapped_stayed f to test s g.stayed;
  cause = true_from f (mapped_format f to test) x x us (map to us) error (λ e h. rw (length-map, length-map) (sym (flat.limits e x (mapped_parts f to test s).values (length (f.rows x)) us) ∙ h)) g.cause;
}

-- no rows
pub mapped_none : (f : Format) (to : Row → Row) (test : Row → Bool) {c : Content} → IsSound f c → f.rows c ≡ [] → IsSound (mapped_format f to test) c
mapped_none f to test s e = mapped_sound f to test s (rw e refl)

-- equal formats of values make equal formats
pub same_mapped : {f g : Format} (to : Row → Row) (test : Row → Bool) → f ≡ g → mapped_format f to test ≡ mapped_format g to test
same_mapped to test e = rw e refl

-- bytes

pub mapped_fits : (f : Format) (to : Row → Row) (test : Row → Bool) (o : ℕ) (ss : List (List ℕ)) → Fits (mapped_format f to test) o ss → Fits f o ss
mapped_fits f to test o ss h = record { room = h.room; sound = (mapped_parts f to test h.sound).values }

moved-append : (o : ℕ) (xs ys : List Fault) → moved o (xs ++ ys) ≡ moved o xs ++ moved o ys
moved-append o xs ys = map-append (moved_one o) xs ys

-- a broken rule of the values is a broken rule of the whole
pub mapped_broken : (f : Format) (to : Row → Row) (test : Row → Bool) (c : Content) (o : ℕ) (z : Fault) → Some z ≡ first (moved o (f.broken c)) → Some z ≡ first (moved o ((mapped_format f to test).broken c))
mapped_broken f to test c o z h = rw (moved-append o (f.broken c) (unless (all_pass test (f.rows c)) (fault 14 0))) (sym (first_found (moved o (f.broken c)) (moved o (unless (all_pass test (f.rows c)) (fault 14 0))) z (sym h)))

pub mapped_fine : (f : Format) (to : Row → Row) (test : Row → Bool) (c : Content) (o : ℕ) → None ≡ first (moved o (f.broken c)) → all_pass test (f.rows c) ≡ true → None ≡ first (moved o ((mapped_format f to test).broken c))
mapped_fine f to test c o h p =
    let e : moved o (f.broken c) ≡ [] = first_none (moved o (f.broken c)) (sym h) in
    rw (moved-append o (f.broken c) (unless (all_pass test (f.rows c)) (fault 14 0)), e, p) refl

pub mapped_own : (f : Format) (to : Row → Row) (test : Row → Bool) (c : Content) (o : ℕ) → None ≡ first (moved o (f.broken c)) → all_pass test (f.rows c) ≡ false → Some (fault 14 o) ≡ first (moved o ((mapped_format f to test).broken c))
mapped_own f to test c o h p =
    let e : moved o (f.broken c) ≡ [] = first_none (moved o (f.broken c)) (sym h) in
    let k : o + 0 ≡ o = omega arith in
    rw (moved-append o (f.broken c) (unless (all_pass test (f.rows c)) (fault 14 0)), e, p, k) refl

-- columns of elements are flat

quotient_below : (n size : ℕ) → 1 ≤ size → n / size ≤ n
quotient_below n size l =
    let d = mul-div-le n size in
    let m = mul-le-mul_right (n / size) l in
    omega (arith, d, m)

elements_short : {align : ℕ} (size : ℕ) (row_of : List ℕ → Row) → 1 ≤ size → (c : Content) → IsSound (elements_format size align row_of) c → length (elements_rows size row_of c) ≤ bytes_held c
elements_short size row_of l (slice bs) s = rw (length-elements size row_of bs) (quotient_below (length bs) size l)
elements_short size row_of l (both x y) s = cc
elements_short size row_of l (part m u x) s = cc
elements_short size row_of l (plain rs) s = cc

pub elements_flat : (size align : ℕ) (row_of : List ℕ → Row) → 1 ≤ size → IsFlat (elements_format size align row_of)
elements_flat size align row_of l = record {
  exact = row_eq_exact;
  limits = λ e c s n rs. refl;
  short = elements_short size row_of l;
}

-- validation of the values takes no steps, then one for each row
pub turns_fit : (old mid new turns bytes rows : ℕ) → turns ≡ 0 → mid ≤ old + turns * bytes → new ≤ mid + rows → rows ≤ bytes → new ≤ old + 1 * bytes
turns_fit old mid new turns bytes rows e p q r =
    let k : mid ≤ old + 0 * bytes = rw e at p in
    omega arith
