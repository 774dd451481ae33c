-- Writes to a row, for each column type.
use Rattle.std.proofs.Common.{ℕ, zero, suc, ◌≡◌, ◌<◌, Bool, true, false, List, [], ◌∷◌, ◌++◌, length, map, ap, sym, ◌∙◌, refl, ◌+◌, ◌-◌, ◌*◌, ◌≤◌, take, drop, arith, length-take}
use Rattle.std.specs.Prelude.{slice_set, slice_get, Some}
use Rattle.std.specs.List.{flat_map}
use Rattle.std.proofs.lemmas.List.{map-set, length-set, drop-set-add}
use Rattle.std.proofs.lemmas.Bool.{and_parts, and_from}
use Rattle.columnar_base.specs.Row.{Row, tuple, solo, duration, number_of}
use Rattle.columnar_base.specs.Format.{Format, Content, both, slice, Fault, IsSound, lengths}
use Rattle.columnar_base.specs.Elements.{elements_format, elements, IsElement}
use Rattle.columnar_base.specs.ElementLaws.{rows_typed, elements_sound, length-flat}
use Rattle.columnar_base.specs.Tuples.{tuples, pair_format}
use Rattle.columnar_base.specs.TupleLaws.{pair_parts, pair_sound}
use Rattle.columnar_base.specs.LongTuples.{under, nested, tuple_format, PartOf}
use Rattle.columnar_base.specs.LongTupleLaws.{SameSound, tuple_same, within}
use Rattle.columnar_base.specs.Solos.{solos, solo_format}
use Rattle.columnar_base.specs.SoloLaws.{solo_sound}
use Rattle.columnar_primitive.specs.Durations.{durations_format, as_duration, is_duration, is_part_second}
use Rattle.columnar_primitive.specs.Mapped.{all_pass, mapped_format}
use Rattle.columnar_primitive.specs.MappedLaws.{mapped_parts, mapped_sound}
use Rattle.columnar_cells.specs.Wrote.{Wrote, row_at}
use Rattle.columnar_cells.specs.RowAtLaws.{get_row_at}

pub elements_wrote : {align : ℕ} {T : Type 0} {size : ℕ} {bytes : T → List ℕ} {row_of : List ℕ → Row} {meaning : T → Row} → IsElement size bytes row_of meaning → (xs : List T) (i : ℕ) (w : T) → Wrote (elements_format size align row_of) (elements bytes xs) (elements bytes (slice_set xs i w)) i (meaning w)
elements_wrote {align} {T} {size} {bytes} {row_of} {meaning} e xs i w =
    let n : length (flat_map bytes (slice_set xs i w)) ≡ length (flat_map bytes xs) = length-flat size bytes e.sized (slice_set xs i w) ∙ (ap (λ k. size * k) (length-set xs i w) ∙ sym (length-flat size bytes e.sized xs)) in
    record {
      sound = elements_sound row_of e (slice_set xs i w);
      rows = rows_typed e (slice_set xs i w) ∙ (map-set meaning xs i w ∙ ap (λ rs. slice_set rs i (meaning w)) (sym (rows_typed e xs)));
      lengths_same = ap (λ k. k ∷ []) n;
    }

pass_set : (test : Row → Bool) (i : ℕ) (rs : List Row) (r : Row) → all_pass test rs ≡ true → test r ≡ true → all_pass test (slice_set rs i r) ≡ true
pass_set test i [] r p h = p
pass_set test zero (s ∷ rs) r p h = and_from _ _ h (and_parts (test s) (all_pass test rs) p).1
pass_set test (suc i) (s ∷ rs) r p h = let q = and_parts (test s) (all_pass test rs) p in and_from _ _ q.0 (pass_set test i rs r q.1 h)

-- Writing a code writes the value with that code.
pub mapped_wrote : (f : Format) (to : Row → Row) (test : Row → Bool) {c d : Content} (i : ℕ) (r : Row) → IsSound (mapped_format f to test) c → test r ≡ true → Wrote f c d i r → Wrote (mapped_format f to test) c d i (to r)
mapped_wrote f to test {c} {d} i r s h w = record {
  sound = mapped_sound f to test w.sound (rw w.rows (pass_set test i (f.rows c) r (mapped_parts f to test s).pass h));
  rows = ap (map to) w.rows ∙ map-set to (f.rows c) i r;
  lengths_same = w.lengths_same;
}

tuples-set : (i : ℕ) (xs ys : List Row) (r s : Row) → tuples (slice_set xs i r) (slice_set ys i s) ≡ slice_set (tuples xs ys) i (tuple r s)
tuples-set i [] ys r s = refl
tuples-set zero (x ∷ xs) [] r s = refl
tuples-set (suc i) (x ∷ xs) [] r s = refl
tuples-set zero (x ∷ xs) (y ∷ ys) r s = refl
tuples-set (suc i) (x ∷ xs) (y ∷ ys) r s = ap (λ rs. tuple x y ∷ rs) (tuples-set i xs ys r s)

pub pair_wrote : (a b : Format) {x x' y y' : Content} (i : ℕ) (r s : Row) → IsSound (pair_format a b) (both x y) → Wrote a x x' i r → Wrote b y y' i s → Wrote (pair_format a b) (both x y) (both x' y') i (tuple r s)
pair_wrote a b {x} {x'} {y} {y'} i r s h v w =
    let m : length (a.rows x') ≡ length (a.rows x) = ap length v.rows ∙ length-set (a.rows x) i r in
    let n : length (b.rows y') ≡ length (b.rows y) = ap length w.rows ∙ length-set (b.rows y) i s in
    record {
      sound = pair_sound a b (record { left = v.sound; right = w.sound; level = m ∙ ((pair_parts a b h).level ∙ sym n) });
      rows = rw (v.rows, w.rows) (tuples-set i (a.rows x) (b.rows y) r s);
      lengths_same = rw (v.lengths_same, w.lengths_same) refl;
    }

pub under_wrote : {broken : Content → List Fault} {f : Format} {x y : Content} {i : ℕ} {r : Row} → SameSound broken f → Wrote f x y i r → Wrote (under broken f) x y i r
under_wrote {broken} {f} {x} {y} e w = record { sound = e.there y w.sound; rows = w.rows; lengths_same = w.lengths_same }

pub durations_wrote : (a b : Format) {x x' y y' : Content} (i : ℕ) (r s : Row) → IsSound (durations_format a b) (both x y) → is_part_second s ≡ true → Wrote a x x' i r → Wrote b y y' i s → Wrote (durations_format a b) (both x y) (both x' y') i (duration (number_of r) (number_of s))
durations_wrote a b i r s h p v w = mapped_wrote (pair_format a b) as_duration is_duration i (tuple r s) h p (pair_wrote a b i r s (mapped_parts (pair_format a b) as_duration is_duration h).values v w)

-- a write to the first part and to the others, nested, for a tuple of any width
pub nested_wrote : (a b : Format) (fs : List Format) {x x' y y' : Content} (i : ℕ) (r s : Row) → IsSound (nested a (b ∷ fs)) (both x y) → Wrote a x x' i r → (IsSound (nested b fs) y → Wrote (nested b fs) y y' i s) → Wrote (nested a (b ∷ fs)) (both x y) (both x' y') i (tuple r s)
nested_wrote a b fs i r s h v w = pair_wrote a (nested b fs) i r s h v (w (pair_parts a (nested b fs) h).right)

pub tuple_wrote : (a b : Format) (fs : List Format) {x x' y y' : Content} (i : ℕ) (r s : Row) → IsSound (tuple_format a b fs) (both x y) → Wrote a x x' i r → (IsSound (nested b fs) y → Wrote (nested b fs) y y' i s) → Wrote (tuple_format a b fs) (both x y) (both x' y') i (tuple r s)
tuple_wrote a b fs i r s h v w = under_wrote (tuple_same a b fs) (nested_wrote a b fs i r s ((tuple_same a b fs).back _ h) v w)

pub solo_wrote : (a : Format) {x y : Content} {i : ℕ} {r : Row} → Wrote a x y i r → Wrote (solo_format a) x y i (solo r)
solo_wrote a {x} {y} {i} {r} w = record { sound = solo_sound a w.sound; rows = ap solos w.rows ∙ map-set solo (a.rows x) i r; lengths_same = w.lengths_same }

get_row : (i : ℕ) (rs : List Row) (r : Row) → slice_get rs i ≡ Some r → rs ≡ slice_set rs i r
get_row i [] r h = refl
get_row zero (s ∷ rs) r h = cc
get_row (suc i) (s ∷ rs) r h = ap (λ ss. s ∷ ss) (get_row i rs r h)

-- Writing the row that is already there.
pub wrote_same : (f : Format) {c : Content} (i : ℕ) (r : Row) → IsSound f c → slice_get (f.rows c) i ≡ Some r → Wrote f c c i r
wrote_same f {c} i r s h = record { sound = s; rows = get_row i (f.rows c) r h; lengths_same = refl }

-- a part in which nothing is written
pub row_kept : (f : Format) {c : Content} (i : ℕ) → IsSound f c → i < length (f.rows c) → Wrote f c c i (row_at (f.rows c) i)
row_kept f {c} i s l = wrote_same f i (row_at (f.rows c) i) s (get_row_at (f.rows c) i l)

pub part_kept : {f : Format} {c : Content} {n : ℕ} (i : ℕ) → PartOf f c n → i < n → Wrote f c c i (row_at (f.rows c) i)
part_kept {f} i p l = row_kept f i p.sound (within p l)
