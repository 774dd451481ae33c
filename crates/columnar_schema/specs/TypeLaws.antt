-- The format of a type, by cases of the type.
use Rattle.std.proofs.Common.{◌≡◌, ℕ, suc, ◌+◌, ◌^◌, ◌<◌, ◌≤◌, List, [], ◌∷◌, true, length, drop, refl, sym, ◌∙◌, ap, arith, subst}
use Rattle.std.specs.Prelude.{Option, min}
use Rattle.std.proofs.lemmas.List.{length-map}
use Rattle.columnar_base.specs.Row.{Row, truth}
use Rattle.columnar_base.specs.Format.{Format, Content, Fault, Fits, both, first, moved}
use Rattle.columnar_base.specs.TwoParts.{TwoParts}
use Rattle.columnar_base.specs.TwoPartsLaws.{two_built, two_fits_left, two_fits_right}
use Rattle.columnar_base.specs.Tuples.{tuples}
use Rattle.columnar_base.specs.LongTuples.{nested, sides, tuple_format, tuple_level}
use Rattle.columnar_base.specs.LongTupleLaws.{sides_two, tuple_two}
use Rattle.columnar_base.specs.SoloLaws.{solo_fits, solo_length}
use Rattle.columnar_sums.specs.RankColumns.{ranks_bits, ranks_format}
use Rattle.columnar_sums.specs.Options.{options_level}
use Rattle.columnar_sums.specs.OptionLaws.{options_two, length-options}
use Rattle.columnar_sums.specs.Results.{beside_format, results_level}
use Rattle.columnar_sums.specs.ResultLaws.{results_two, length-results}
use Rattle.columnar_lists.specs.Lists.{lists_rise}
use Rattle.columnar_lists.specs.ListLaws.{lists_two, length-lists}
use Rattle.columnar_syntax.specs.declared.schema.Schema.{Schema, Simple, Optional', Fallible', Lists', Solo', Tuple', Beside', Field', Array', Repeated', Recalled', Sum', Named, Case'}
use Rattle.columnar_schema.specs.Formats.{bounds_format, columns_of, format_of}

-- ---- of two parts

pub optional_two : (s : Schema) {p : _} {t : Schema} → s ≡ Optional' p t → TwoParts (format_of s) ranks_format (format_of t) (options_level (format_of t)) 10
optional_two s {p} {t} e = rw e (options_two (format_of t))

pub fallible_two : (s : Schema) {p : _} {t : Schema} {q : _} {u : Schema} → s ≡ Fallible' p t q u → TwoParts (format_of s) ranks_format (beside_format (format_of t) (format_of u)) (results_level (format_of t) (format_of u)) 10
fallible_two s {p} {t} {q} {u} e = rw e (results_two (format_of t) (format_of u))

pub lists_of_two : (s : Schema) {b : _} {p : _} {t : Schema} → s ≡ Lists' b p t → TwoParts (format_of s) (bounds_format b) (format_of t) (lists_rise (bounds_format b) (format_of t)) 11
lists_of_two s {b} {p} {t} e = rw e (lists_two (bounds_format b) (format_of t))

pub tuple_of_two : (s : Schema) {br : _} {p : _} {a : Schema} {q : _} {r : Schema} → s ≡ Tuple' br p a q r → TwoParts (format_of s) (format_of a) (format_of r) (tuple_level (format_of a) (columns_of r).head (columns_of r).others) 10
tuple_of_two s {br} {p} {a} {q} {r} e = rw e (tuple_two (format_of a) (columns_of r).head (columns_of r).others)

pub beside_of_two : (s : Schema) {p : _} {a : Schema} {q : _} {r : Schema} → s ≡ Beside' p a q r → TwoParts (format_of s) (format_of a) (format_of r) (λ x y. true) 0
beside_of_two s {p} {a} {q} {r} e = rw e (sides_two (format_of a) (columns_of r).head (columns_of r).others)

-- ---- rows

pub optional_rows : (s : Schema) {p : _} {t : Schema} (o : ℕ) (ss : List (List ℕ)) (n : ℕ) → s ≡ Optional' p t → n ≡ length (ranks_format.rows (ranks_format.build (drop o ss))) → n ≡ length ((format_of s).rows ((format_of s).build (drop o ss)))
optional_rows s {p} {t} o ss n e h =
    let x = ranks_format.build (drop o ss) in
    rw e (h ∙ (length-map (ranks_bits x) truth ∙ sym (length-options (format_of t) x ((format_of t).build (drop 3 (drop o ss))))))

pub fallible_rows : (s : Schema) {p : _} {t : Schema} {q : _} {u : Schema} (o : ℕ) (ss : List (List ℕ)) (n : ℕ) → s ≡ Fallible' p t q u → n ≡ length (ranks_format.rows (ranks_format.build (drop o ss))) → n ≡ length ((format_of s).rows ((format_of s).build (drop o ss)))
fallible_rows s {p} {t} {q} {u} o ss n e h =
    let x = ranks_format.build (drop o ss) in
    let y = (format_of t).build (drop 3 (drop o ss)) in
    let z = (format_of u).build (drop (format_of t).count (drop 3 (drop o ss))) in
    rw e (h ∙ (length-map (ranks_bits x) truth ∙ sym (length-results (format_of t) (format_of u) x y z)))

pub lists_rows_of : (s : Schema) {b : _} {p : _} {t : Schema} (o : ℕ) (ss : List (List ℕ)) (n : ℕ) → s ≡ Lists' b p t → n ≡ length ((bounds_format b).rows ((bounds_format b).build (drop o ss))) → n ≡ length ((format_of s).rows ((format_of s).build (drop o ss)))
lists_rows_of s {b} {p} {t} o ss n e h =
    let f = bounds_format b in
    rw e (h ∙ sym (length-lists f (format_of t) (f.build (drop o ss)) ((format_of t).build (drop f.count (drop o ss)))))

pub solo_rows_of : (s : Schema) {br : _} {p : _} {t : Schema} (o : ℕ) (ss : List (List ℕ)) (n : ℕ) → s ≡ Solo' br p t → n ≡ length ((format_of t).rows ((format_of t).build (drop o ss))) → n ≡ length ((format_of s).rows ((format_of s).build (drop o ss)))
solo_rows_of s {br} {p} {t} o ss n e h = rw e (h ∙ sym (solo_length (format_of t) ((format_of t).build (drop o ss))))

-- as many as the shorter part has
length_least : (xs ys : List Row) → length (tuples xs ys) ≡ min (length xs) (length ys)
length_least [] ys = omega arith
length_least (x ∷ xs) [] = omega arith
length_least (x ∷ xs) (y ∷ ys) = let h = length_least xs ys in omega (arith, h)

-- the rows of the others, next to each other or nested
nested_rows : (b : Format) (fs : List Format) (c : Content) → (nested b fs).rows c ≡ (sides b fs).rows c
nested_rows b [] c = refl
nested_rows b (g ∷ fs) c = refl

least_rows : (a b : Format) (fs : List Format) (x y : Content) → length ((nested a (b ∷ fs)).rows (both x y)) ≡ min (length (a.rows x)) (length ((sides b fs).rows y))
least_rows a b fs x y = ap (λ rs. length (tuples (a.rows x) rs)) (nested_rows b fs y) ∙ length_least (a.rows x) ((sides b fs).rows y)

pub tuple_rows_of : (s : Schema) {br : _} {p : _} {a : Schema} {q : _} {r : Schema} (o : ℕ) (ss : List (List ℕ)) (n m k : ℕ) → s ≡ Tuple' br p a q r → n ≡ length ((format_of a).rows ((format_of a).build (drop o ss))) → m ≡ length ((format_of r).rows ((format_of r).build (drop (o + (format_of a).count) ss))) → k ≡ min n m → k ≡ length ((format_of s).rows ((format_of s).build (drop o ss)))
tuple_rows_of s {br} {p} {a} {q} {r} o ss n m k e g h l =
    let f = format_of a in
    let x = f.build (drop o ss) in
    let y = (format_of r).build (drop (o + f.count) ss) in
    let w = least_rows f (columns_of r).head (columns_of r).others x y in
    let v : length ((tuple_format f (columns_of r).head (columns_of r).others).rows (both x y)) ≡ k = omega (arith, w, g, h, l) in
    rw e (sym (subst (λ (c : Content). length ((tuple_format f (columns_of r).head (columns_of r).others).rows c) ≡ k) (sym (two_built (tuple_two f (columns_of r).head (columns_of r).others) ss o)) v))

pub beside_rows_of : (s : Schema) {p : _} {a : Schema} {q : _} {r : Schema} (o : ℕ) (ss : List (List ℕ)) (n m k : ℕ) → s ≡ Beside' p a q r → n ≡ length ((format_of a).rows ((format_of a).build (drop o ss))) → m ≡ length ((format_of r).rows ((format_of r).build (drop (o + (format_of a).count) ss))) → k ≡ min n m → k ≡ length ((format_of s).rows ((format_of s).build (drop o ss)))
beside_rows_of s {p} {a} {q} {r} o ss n m k e g h l =
    let f = format_of a in
    let x = f.build (drop o ss) in
    let y = (format_of r).build (drop (o + f.count) ss) in
    let w = least_rows f (columns_of r).head (columns_of r).others x y in
    let v : length ((sides f ((columns_of r).head ∷ (columns_of r).others)).rows (both x y)) ≡ k = omega (arith, w, g, h, l) in
    rw e (sym (subst (λ (c : Content). length ((sides f ((columns_of r).head ∷ (columns_of r).others)).rows c) ≡ k) (sym (two_built (sides_two f (columns_of r).head (columns_of r).others) ss o)) v))

-- ---- parts fit if the whole does

pub solo_fit : (s : Schema) {br : _} {p : _} {t : Schema} (o : ℕ) (ss : List (List ℕ)) → s ≡ Solo' br p t → Fits (format_of s) o ss → Fits (format_of t) o ss
solo_fit s {br} {p} {t} o ss e h = solo_fits (format_of t) o ss (rw e at h)

pub first_fit : (s : Schema) {br : _} {p : _} {a : Schema} {q : _} {r : Schema} (o : ℕ) (ss : List (List ℕ)) → s ≡ Tuple' br p a q r → Fits (format_of s) o ss → Fits (format_of a) o ss
first_fit s o ss e h = two_fits_left (tuple_of_two s e) o ss h

pub others_fit : (s : Schema) {br : _} {p : _} {a : Schema} {q : _} {r : Schema} (o : ℕ) (ss : List (List ℕ)) → s ≡ Tuple' br p a q r → Fits (format_of s) o ss → Fits (format_of r) (o + (format_of a).count) ss
others_fit s o ss e h = two_fits_right (tuple_of_two s e) o ss h

pub field_fit : (s : Schema) {p : _} {a : Schema} {q : _} {r : Schema} (o : ℕ) (ss : List (List ℕ)) → s ≡ Beside' p a q r → Fits (format_of s) o ss → Fits (format_of a) o ss
field_fit s o ss e h = two_fits_left (beside_of_two s e) o ss h

pub later_fit : (s : Schema) {p : _} {a : Schema} {q : _} {r : Schema} (o : ℕ) (ss : List (List ℕ)) → s ≡ Beside' p a q r → Fits (format_of s) o ss → Fits (format_of r) (o + (format_of a).count) ss
later_fit s o ss e h = two_fits_right (beside_of_two s e) o ss h

pub part_fit : (s : Schema) {n : _} {p : _} {t : Schema} (o : ℕ) (ss : List (List ℕ)) → s ≡ Field' n p t → Fits (format_of s) o ss → Fits (format_of t) o ss
part_fit s o ss e h = rw e at h

-- ---- the nesting depth of a type

abbrev pub depth_of : Schema → ℕ
depth_of (Simple l) = 0
depth_of (Optional' p t) = suc (depth_of t)
depth_of (Fallible' p t q u) = suc (depth_of t + depth_of u)
depth_of (Lists' b p t) = suc (depth_of t)
depth_of (Solo' k p t) = suc (depth_of t)
depth_of (Tuple' k p a q r) = suc (depth_of a + depth_of r)
depth_of (Beside' p a q r) = suc (depth_of a + depth_of r)
depth_of (Field' n p t) = suc (depth_of t)
depth_of (Array' n p t) = suc (depth_of t)
depth_of (Repeated' p t) = suc (depth_of t)
depth_of (Recalled' p t) = suc (depth_of t)
depth_of (Sum' p t) = suc (depth_of t)
depth_of (Named n) = 0
depth_of (Case' n k p t) = suc (depth_of t)

pub first_falls : (s l : Schema) {br : _} {p : _} {a : Schema} {q : _} {r : Schema} → s ≡ Tuple' br p a q r → l ≡ a → depth_of l < depth_of s
first_falls s l {br} {p} {a} {q} {r} e k =
    let h : depth_of a < suc (depth_of a + depth_of r) = omega arith in
    rw (e, k) h

pub others_fall : (s l : Schema) {br : _} {p : _} {a : Schema} {q : _} {r : Schema} → s ≡ Tuple' br p a q r → l ≡ r → depth_of l < depth_of s
others_fall s l {br} {p} {a} {q} {r} e k =
    let h : depth_of r < suc (depth_of a + depth_of r) = omega arith in
    rw (e, k) h

pub field_falls : (s l : Schema) {p : _} {a : Schema} {q : _} {r : Schema} → s ≡ Beside' p a q r → l ≡ a → depth_of l < depth_of s
field_falls s l {p} {a} {q} {r} e k =
    let h : depth_of a < suc (depth_of a + depth_of r) = omega arith in
    rw (e, k) h

pub later_fall : (s l : Schema) {p : _} {a : Schema} {q : _} {r : Schema} → s ≡ Beside' p a q r → l ≡ r → depth_of l < depth_of s
later_fall s l {p} {a} {q} {r} e k =
    let h : depth_of r < suc (depth_of a + depth_of r) = omega arith in
    rw (e, k) h
