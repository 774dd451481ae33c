-- The verdict on the whole, from the tests of two parts in slices of a store.
use Rattle.std.proofs.Common.{◌≡◌, ℕ, ◌+◌, ◌*◌, ◌-◌, ◌≤◌, Bool, true, false, List, length, drop, refl, sym, ap, arith}
use Rattle.std.specs.Prelude.{Option, Some, None}
use Rattle.columnar_base.specs.Format.{Format, Content, both, Fault, fault, moved, first, Fits, bytes_held}
use Rattle.columnar_base.specs.FaultLaws.{fits_from}
use Rattle.columnar_base.specs.TwoParts.{TwoParts}
use Rattle.columnar_base.specs.TwoPartsLaws.{two_built, two_left, two_right_at, two_fine_at, two_own_at}
use Rattle.columnar_base.specs.Row.{truth}
use Rattle.columnar_base.specs.LongTuples.{are_level, tuple_format}
use Rattle.columnar_base.specs.LongTupleLaws.{sides_two, tuple_two}
use Rattle.columnar_core.specs.SidesLaws.{judged_others, level_others}
use Rattle.columnar_sums.specs.Counting.{ones}
use Rattle.columnar_sums.specs.RankColumns.{ranks_bits, ranks_format}
use Rattle.columnar_sums.specs.Results.{results_format}
use Rattle.columnar_sums.specs.ResultLaws.{beside_two, results_two, results_level_from, results_level_back, results_level_at}
use Rattle.columnar_syntax.specs.declared.schema.Schema.{Schema, Fallible', Tuple', Beside'}
use Rattle.columnar_schema.specs.Formats.{columns_of, format_of}

-- slices that fit break no rule
pub fits_none : (f : Format) (o : ℕ) (ss : List (List ℕ)) → Fits f o ss → None ≡ first (moved o (f.broken (f.build (drop o ss))))
fits_none f o ss h = rw h.sound.accepted refl

-- the first part is rejected
pub left_refused : {f a b : Format} {test : Content → Content → Bool} {rule : ℕ} → TwoParts f a b test rule → (ss : List (List ℕ)) (o : ℕ) (z : Fault) → Some z ≡ first (moved o (a.broken (a.build (drop o ss)))) → Some z ≡ first (moved o (f.broken (f.build (drop o ss))))
left_refused {f} {a} {b} t ss o z h = rw (two_built t ss o) (two_left t (a.build (drop o ss)) (b.build (drop (o + a.count) ss)) o z h)

-- both parts fit, and their common rule is met, or broken
pub closed : {f a b : Format} {test : Content → Content → Bool} {rule : ℕ} → TwoParts f a b test rule → (ss : List (List ℕ)) (o : ℕ) → Fits a o ss → Fits b (o + a.count) ss → test (a.build (drop o ss)) (b.build (drop (o + a.count) ss)) ≡ true → None ≡ first (moved o (f.broken (f.build (drop o ss))))
closed {f} {a} {b} t ss o p q e = two_fine_at t ss o (fits_none a o ss p) (fits_none b (o + a.count) ss q) e

pub unclosed : {f a b : Format} {test : Content → Content → Bool} {rule : ℕ} → TwoParts f a b test rule → (ss : List (List ℕ)) (o : ℕ) → Fits a o ss → Fits b (o + a.count) ss → test (a.build (drop o ss)) (b.build (drop (o + a.count) ss)) ≡ false → Some (fault rule o) ≡ first (moved o (f.broken (f.build (drop o ss))))
unclosed {f} {a} {b} t ss o p q e = two_own_at t ss o (fits_none a o ss p) (fits_none b (o + a.count) ss q) e

-- the bytes of both
pub held_two : {f a b : Format} {test : Content → Content → Bool} {rule : ℕ} → TwoParts f a b test rule → (ss : List (List ℕ)) (o : ℕ) → bytes_held (f.build (drop o ss)) ≡ bytes_held (a.build (drop o ss)) + bytes_held (b.build (drop (o + a.count) ss))
held_two t ss o = ap bytes_held (two_built t ss o)

-- the second part of accepted slices fits
pub right_fits : {f a b : Format} {test : Content → Content → Bool} {rule : ℕ} → TwoParts f a b test rule → (ss : List (List ℕ)) (o : ℕ) → o + f.count ≤ length ss → None ≡ first (moved (o + a.count) (b.broken (b.build (drop (o + a.count) ss)))) → Fits b (o + a.count) ss
right_fits {f} {a} {b} t ss o r h = fits_from b (o + a.count) ss (omega (arith, t.count, r)) h

-- the first does too
pub first_fits : {f a b : Format} {test : Content → Content → Bool} {rule : ℕ} → TwoParts f a b test rule → (ss : List (List ℕ)) (o : ℕ) → o + f.count ≤ length ss → None ≡ first (moved o (a.broken (a.build (drop o ss)))) → Fits a o ss
first_fits {f} {a} {b} t ss o r h = fits_from a o ss (omega (arith, t.count, r)) h

-- results whose parts fit: there are as many values and errors as bits say, or not
pub results_closed : (a b : Format) (o : ℕ) (ss : List (List ℕ)) (trues rows n m : ℕ) → Fits ranks_format o ss → Fits a (o + 3) ss → Fits b (o + 3 + a.count) ss → trues ≡ ones (ranks_bits (ranks_format.build (drop o ss))) (length (ranks_bits (ranks_format.build (drop o ss)))) → rows ≡ length (ranks_format.rows (ranks_format.build (drop o ss))) → n ≡ length (a.rows (a.build (drop (o + 3) ss))) → m ≡ length (b.rows (b.build (drop (o + 3 + a.count) ss))) → trues ≡ n → rows - trues ≡ m → None ≡ first (moved o ((results_format a b).broken ((results_format a b).build (drop o ss))))
results_closed a b o ss trues rows n m f g h p q r s k l =
    let t = results_level_at a b o ss true (results_level_from a b (ranks_format.build (drop o ss)) (a.build (drop (o + 3) ss)) (b.build (drop (o + 3 + a.count) ss)) trues rows n m p q r s k l) in
    two_fine_at (results_two a b) ss o (fits_none ranks_format o ss f) (closed (beside_two a b) ss (o + 3) g h refl) t

pub results_unclosed : (a b : Format) (o : ℕ) (ss : List (List ℕ)) (trues rows n m : ℕ) → Fits ranks_format o ss → Fits a (o + 3) ss → Fits b (o + 3 + a.count) ss → trues ≡ ones (ranks_bits (ranks_format.build (drop o ss))) (length (ranks_bits (ranks_format.build (drop o ss)))) → rows ≡ length (ranks_format.rows (ranks_format.build (drop o ss))) → n ≡ length (a.rows (a.build (drop (o + 3) ss))) → m ≡ length (b.rows (b.build (drop (o + 3 + a.count) ss))) → (trues ≡ n → rows - trues ≡ m → ⊥) → Some (fault 10 o) ≡ first (moved o ((results_format a b).broken ((results_format a b).build (drop o ss))))
results_unclosed a b o ss trues rows n m f g h p q r s k =
    let t = results_level_at a b o ss false (results_level_back a b (ranks_format.build (drop o ss)) (a.build (drop (o + 3) ss)) (b.build (drop (o + 3 + a.count) ss)) trues rows n m p q r s k) in
    two_own_at (results_two a b) ss o (fits_none ranks_format o ss f) (closed (beside_two a b) ss (o + 3) g h refl) t

-- the fields of a tuple have as many rows if the first and the later ones do
pub beside_level : (s : Schema) {p : _} {a : Schema} {q : _} {r : Schema} (o n rows : ℕ) (ss : List (List ℕ)) (l : Bool) → s ≡ Beside' p a q r → n ≡ (format_of a).count → rows ≡ length ((format_of a).rows ((format_of a).build (drop o ss))) → l ≡ are_level (columns_of r).head (columns_of r).others rows ((format_of r).build (drop (o + n) ss)) → l ≡ are_level (columns_of s).head (columns_of s).others rows ((format_of s).build (drop o ss))
beside_level s {p} {a} {q} {r} o n rows ss l e h k w = rw e (level_others (format_of a) (columns_of r).head (columns_of r).others ss o n rows l h k w)

-- tuples whose fields fit
pub tuple_closed : (f r : Schema) (o after rows : ℕ) (ss : List (List ℕ)) → after ≡ o + (format_of f).count → Fits (format_of f) o ss → Fits (format_of r) after ss → rows ≡ length ((format_of f).rows ((format_of f).build (drop o ss))) → true ≡ are_level (columns_of r).head (columns_of r).others rows ((format_of r).build (drop after ss)) → None ≡ first (moved o ((tuple_format (format_of f) (columns_of r).head (columns_of r).others).broken ((tuple_format (format_of f) (columns_of r).head (columns_of r).others).build (drop o ss))))
tuple_closed f r o after rows ss e g h k l = closed (tuple_two (format_of f) (columns_of r).head (columns_of r).others) ss o g (rw e at h) (sym (rw (e, k) at l))

pub tuple_unclosed : (f r : Schema) (o after rows : ℕ) (ss : List (List ℕ)) → after ≡ o + (format_of f).count → Fits (format_of f) o ss → Fits (format_of r) after ss → rows ≡ length ((format_of f).rows ((format_of f).build (drop o ss))) → false ≡ are_level (columns_of r).head (columns_of r).others rows ((format_of r).build (drop after ss)) → Some (fault 10 o) ≡ first (moved o ((tuple_format (format_of f) (columns_of r).head (columns_of r).others).broken ((tuple_format (format_of f) (columns_of r).head (columns_of r).others).build (drop o ss))))
tuple_unclosed f r o after rows ss e g h k l = unclosed (tuple_two (format_of f) (columns_of r).head (columns_of r).others) ss o g (rw e at h) (sym (rw (e, k) at l))

-- the parts of results fit if they were accepted
pub values_fit : (s : Schema) {p : _} {a : Schema} {q : _} {b : Schema} (o : ℕ) (ss : List (List ℕ)) → s ≡ Fallible' p a q b → o + (format_of s).count ≤ length ss → None ≡ first (moved (o + 3) ((format_of a).broken ((format_of a).build (drop (o + 3) ss)))) → Fits (format_of a) (o + 3) ss
values_fit s {p} {a} {q} {b} o ss e r h =
    let k : o + (3 + ((format_of a).count + (format_of b).count)) ≤ length ss = rw e at r in
    first_fits (beside_two (format_of a) (format_of b)) ss (o + 3) (omega (arith, k)) h

pub errors_fit : (s : Schema) {p : _} {a : Schema} {q : _} {b : Schema} (o : ℕ) (ss : List (List ℕ)) → s ≡ Fallible' p a q b → o + (format_of s).count ≤ length ss → None ≡ first (moved (o + 3 + (format_of a).count) ((format_of b).broken ((format_of b).build (drop (o + 3 + (format_of a).count) ss)))) → Fits (format_of b) (o + 3 + (format_of a).count) ss
errors_fit s {p} {a} {q} {b} o ss e r h =
    let k : o + (3 + ((format_of a).count + (format_of b).count)) ≤ length ss = rw e at r in
    right_fits (beside_two (format_of a) (format_of b)) ss (o + 3) (omega (arith, k)) h

-- the values of results are rejected, or their errors
pub values_refused : (s : Schema) {p : _} {a : Schema} {q : _} {b : Schema} (o : ℕ) (ss : List (List ℕ)) (z : Fault) → s ≡ Fallible' p a q b → None ≡ first (moved o (ranks_format.broken (ranks_format.build (drop o ss)))) → Some z ≡ first (moved (o + 3) ((format_of a).broken ((format_of a).build (drop (o + 3) ss)))) → Some z ≡ first (moved o ((format_of s).broken ((format_of s).build (drop o ss))))
values_refused s {p} {a} {q} {b} o ss z e h k = rw e (two_right_at (results_two (format_of a) (format_of b)) ss o z h (left_refused (beside_two (format_of a) (format_of b)) ss (o + 3) z k))

pub errors_refused : (s : Schema) {p : _} {a : Schema} {q : _} {b : Schema} (o : ℕ) (ss : List (List ℕ)) (z : Fault) → s ≡ Fallible' p a q b → None ≡ first (moved o (ranks_format.broken (ranks_format.build (drop o ss)))) → None ≡ first (moved (o + 3) ((format_of a).broken ((format_of a).build (drop (o + 3) ss)))) → Some z ≡ first (moved (o + 3 + (format_of a).count) ((format_of b).broken ((format_of b).build (drop (o + 3 + (format_of a).count) ss)))) → Some z ≡ first (moved o ((format_of s).broken ((format_of s).build (drop o ss))))
errors_refused s {p} {a} {q} {b} o ss z e h k l = rw e (two_right_at (results_two (format_of a) (format_of b)) ss o z h (two_right_at (beside_two (format_of a) (format_of b)) ss (o + 3) z k l))

-- the verdict on results, and on tuples, is that on the type
pub fallible_verdict : (s : Schema) {p : _} {a : Schema} {q : _} {b : Schema} (o : ℕ) (ss : List (List ℕ)) (v : Option Fault) → s ≡ Fallible' p a q b → v ≡ first (moved o ((results_format (format_of a) (format_of b)).broken ((results_format (format_of a) (format_of b)).build (drop o ss)))) → v ≡ first (moved o ((format_of s).broken ((format_of s).build (drop o ss))))
fallible_verdict s {p} {a} {q} {b} o ss v e h = rw e h

pub tuple_verdict : (s : Schema) {br : _} {p : _} {a : Schema} {q : _} {r : Schema} (o : ℕ) (ss : List (List ℕ)) (v : Option Fault) → s ≡ Tuple' br p a q r → v ≡ first (moved o ((tuple_format (format_of a) (columns_of r).head (columns_of r).others).broken ((tuple_format (format_of a) (columns_of r).head (columns_of r).others).build (drop o ss)))) → v ≡ first (moved o ((format_of s).broken ((format_of s).build (drop o ss))))
tuple_verdict s {br} {p} {a} {q} {r} o ss v e h = rw e h

-- the verdict on the later fields is that on all, if the first is accepted
pub beside_verdict : (s : Schema) {p : _} {a : Schema} {q : _} {r : Schema} (o n : ℕ) (ss : List (List ℕ)) (v : Option Fault) → s ≡ Beside' p a q r → n ≡ (format_of a).count → None ≡ first (moved o ((format_of a).broken ((format_of a).build (drop o ss)))) → v ≡ first (moved (o + n) ((format_of r).broken ((format_of r).build (drop (o + n) ss)))) → v ≡ first (moved o ((format_of s).broken ((format_of s).build (drop o ss))))
beside_verdict s {p} {a} {q} {r} o n ss v e h k l = rw e (judged_others (sides_two (format_of a) (columns_of r).head (columns_of r).others) ss o n v h k l)

-- the second part exists if the whole does
pub later_room : {f a b : Format} {test : Content → Content → Bool} {rule : ℕ} → TwoParts f a b test rule → (o : ℕ) (ss : List (List ℕ)) → o + f.count ≤ length ss → (o + a.count) + b.count ≤ length ss
later_room t o ss h = omega (arith, t.count, h)
