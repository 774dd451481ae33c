-- The columns of the variants of an enum: as those that stand next to each other, but for what their rows are.
use Rattle.std.proofs.Common.{◌≡◌, ℕ, suc, ◌+◌, ◌*◌, ◌^◌, ◌<◌, ◌≤◌, Bool, false, List, [], ◌∷◌, ◌++◌, length, take, drop, refl, sym, ◌∙◌, ap, arith}
use Rattle.std.specs.Prelude.{Option, Some, None, nat_eq}
use Rattle.columnar_base.specs.Format.{Format, Content, slice, both, part, plain, Fault, first, moved, Fits, IsSound, IsStorable, bytes_held, slices_of}
use Rattle.columnar_base.specs.LongTuples.{sides}
use Rattle.columnar_sums.specs.Discriminants.{times, variants_of, discriminant_format}
use Rattle.columnar_sums.specs.DiscriminantLaws.{discriminant_storable}
use Rattle.columnar_variants.specs.BankByteLaws.{told_then_at, told_else_at}
use Rattle.columnar_variants.specs.LawfulVariantLaws.{variants_storable}
use Rattle.columnar_variants.specs.VariantByteLaws.{forms_fit, sides_fit, variants_forms_at, variants_held, variants_own_at, variants_rows_at, variants_sides_at}
use Rattle.columnar_variants.specs.VariantLaws.{leaf_bank, join_bank}
use Rattle.columnar_variants.specs.Variants.{Bank, IsBank, are_below, leaf, join, variants_format}
use Rattle.columnar_variants.specs.VariantBytes.{own_broken}
use Rattle.columnar_base.specs.FaultLaws.{fits_from}
use Rattle.columnar_schema.specs.JudgeLaws.{fits_none}
use Rattle.columnar_schema.specs.Banks.{bank}
use Rattle.columnar_schema.specs.Formats.{bank_of, columns_of, format_of}
use Rattle.columnar_syntax.specs.Gathered.{is_beside}
use Rattle.columnar_schema.specs.TypeLaws.{depth_of}
use Rattle.columnar_syntax.specs.declared.schema.Schema.{Schema, Simple, Optional', Fallible', Lists', Solo', Tuple', Beside', Field', Array', Repeated', Recalled', Sum', Named, Case'}

-- ---- the slices of the columns

pub bank_count : (a : Format) (fs : List Format) → (bank a fs).sides.count ≡ (sides a fs).count
bank_count a [] = refl
bank_count a (b ∷ fs) = ap (λ n. a.count + n) (bank_count b fs) ∙ sides_count a b fs
  where
    sides_count : (a b : Format) (fs : List Format) → a.count + (sides b fs).count ≡ (sides a (b ∷ fs)).count
    sides_count a b [] = refl
    sides_count a b (g ∷ fs) = refl

pub bank_sizes : (a : Format) (fs : List Format) → (bank a fs).sides.sizes ≡ (sides a fs).sizes
bank_sizes a [] = refl
bank_sizes a (b ∷ fs) = ap (λ n. a.sizes ++ n) (bank_sizes b fs) ∙ sides_sizes a b fs
  where
    sides_sizes : (a b : Format) (fs : List Format) → a.sizes ++ (sides b fs).sizes ≡ (sides a (b ∷ fs)).sizes
    sides_sizes a b [] = refl
    sides_sizes a b (g ∷ fs) = refl

bank_aligns : (a : Format) (fs : List Format) → (bank a fs).sides.aligns ≡ (sides a fs).aligns
bank_aligns a [] = refl
bank_aligns a (b ∷ fs) = ap (λ n. a.aligns ++ n) (bank_aligns b fs) ∙ sides_aligns a b fs
  where
    sides_aligns : (a b : Format) (fs : List Format) → a.aligns ++ (sides b fs).aligns ≡ (sides a (b ∷ fs)).aligns
    sides_aligns a b [] = refl
    sides_aligns a b (g ∷ fs) = refl

pub bank_build : (a : Format) (fs : List Format) (ss : List (List ℕ)) → (bank a fs).sides.build ss ≡ (sides a fs).build ss
bank_build a [] ss = refl
bank_build a (b ∷ fs) ss = ap (λ c. both (a.build ss) c) (bank_build b fs (drop a.count ss)) ∙ sides_build a b fs ss
  where
    sides_build : (a b : Format) (fs : List Format) (ss : List (List ℕ)) → both (a.build ss) ((sides b fs).build (drop a.count ss)) ≡ (sides a (b ∷ fs)).build ss
    sides_build a b [] ss = refl
    sides_build a b (g ∷ fs) ss = refl

pub bank_broken : (a : Format) (fs : List Format) (c : Content) → (bank a fs).sides.broken c ≡ (sides a fs).broken c
bank_broken a [] c = refl
bank_broken a (b ∷ fs) (both x y) = ap (λ k. a.broken x ++ (moved a.count k ++ [])) (bank_broken b fs y)
bank_broken a (b ∷ fs) (slice bs) = refl
bank_broken a (b ∷ fs) (part l u x) = refl
bank_broken a (b ∷ fs) (plain rs) = refl

-- their rules, over the slices of a store
pub bank_first : (a : Format) (fs : List Format) (o : ℕ) (ss : List (List ℕ)) → first (moved o ((bank a fs).sides.broken ((bank a fs).sides.build (drop o ss)))) ≡ first (moved o ((sides a fs).broken ((sides a fs).build (drop o ss))))
bank_first a fs o ss = rw (bank_build a fs (drop o ss), bank_broken a fs ((sides a fs).build (drop o ss))) refl

bank_sound : (a : Format) (fs : List Format) (c : Content) → IsSound (bank a fs).sides c → IsSound (sides a fs) c
bank_sound a fs c h = record { accepted = sym (bank_broken a fs c) ∙ h.accepted }

pub bank_fits : (a : Format) (fs : List Format) (o : ℕ) (ss : List (List ℕ)) → Fits (bank a fs).sides o ss → Fits (sides a fs) o ss
bank_fits a fs o ss h = record {
  room = rw (bank_count a fs) at h.room;
  sound = bank_sound a fs ((sides a fs).build (drop o ss)) (rw (bank_build a fs (drop o ss)) at h.sound);
}

pub bank_held : (a : Format) (fs : List Format) (ss : List (List ℕ)) → bytes_held ((bank a fs).sides.build ss) ≡ bytes_held ((sides a fs).build ss)
bank_held a fs ss = ap bytes_held (bank_build a fs ss)

pub bank_storable : (a : Format) (fs : List Format) → IsStorable (sides a fs) → IsStorable (bank a fs).sides
bank_storable a [] h = h
bank_storable a (b ∷ fs) h = record {
  swift = omega arith;
  sized = ap length (bank_sizes a (b ∷ fs)) ∙ (h.sized ∙ sym (bank_count a (b ∷ fs)));
  aligned = ap length (bank_aligns a (b ∷ fs)) ∙ (h.aligned ∙ sym (bank_count a (b ∷ fs)));
  counted = λ c s. h.counted c (bank_sound a (b ∷ fs) c s) ∙ sym (bank_count a (b ∷ fs));
  rebuilt = λ c rest s. bank_build a (b ∷ fs) _ ∙ h.rebuilt c rest (bank_sound a (b ∷ fs) c s);
  built = λ ss l. ap slices_of (bank_build a (b ∷ fs) ss) ∙ (h.built ss (omega (arith, l, bank_count a (b ∷ fs))) ∙ ap (λ n. take n ss) (sym (bank_count a (b ∷ fs))));
}

pub bank_is : (a : Format) (fs : List Format) → IsBank (bank a fs)
bank_is a [] = leaf_bank a
bank_is a (b ∷ fs) = join_bank a (bank b fs) (bank_is b fs)

-- ---- enums

pub sum_storable : (t : Schema) → IsStorable (format_of t) → IsStorable (variants_format (bank_of t))
sum_storable t h = variants_storable (bank_of t) (bank_storable (columns_of t).head (columns_of t).others h) discriminant_storable

pub sum_count : (s : Schema) {p : _} {t : Schema} → s ≡ Sum' p t → (format_of s).count ≡ (format_of t).count + 2
sum_count s {p} {t} e = rw e (ap (λ n. n + 2) (bank_count (columns_of t).head (columns_of t).others))

pub cases_counted : (s : Schema) {p : _} {t : Schema} → s ≡ Sum' p t → (format_of s).count ≤ 2 ^ 60 → (format_of t).count ≤ 2 ^ 60
cases_counted s e h = omega (arith, h, sum_count s e)

pub cases_fall : (s l : Schema) {p : _} {t : Schema} → s ≡ Sum' p t → l ≡ t → depth_of l < depth_of s
cases_fall s l {p} {t} e k =
    let h : depth_of t < suc (depth_of t) = omega arith in
    rw (e, k) h

-- the number of slices before the variants
pub sides_of : (t : Schema) → (bank_of t).sides.count ≡ (format_of t).count
sides_of t = bank_count (columns_of t).head (columns_of t).others

-- parts fit if the whole does
pub cases_fit : (s : Schema) {p : _} {t : Schema} (o : ℕ) (ss : List (List ℕ)) → s ≡ Sum' p t → Fits (format_of s) o ss → Fits (format_of t) o ss
cases_fit s {p} {t} o ss e h = bank_fits (columns_of t).head (columns_of t).others o ss (sides_fit (bank_of t) o ss (rw e at h))

pub indexes_fit : (s : Schema) {p : _} {t : Schema} (o : ℕ) (ss : List (List ℕ)) → s ≡ Sum' p t → Fits (format_of s) o ss → Fits discriminant_format (o + (format_of t).count) ss
indexes_fit s {p} {t} o ss e h = forms_fit (bank_of t) o (o + (format_of t).count) ss (ap (λ n. o + n) (sym (sides_of t))) (rw e at h)

pub value_fit : (s : Schema) {n : _} {k : _} {p : _} {t : Schema} (o : ℕ) (ss : List (List ℕ)) → s ≡ Case' n k p t → Fits (format_of s) o ss → Fits (format_of t) o ss
value_fit s o ss e h = rw e at h

-- ---- rows

pub sum_rows_of : (s : Schema) {p : _} {t : Schema} (o : ℕ) (ss : List (List ℕ)) (n : ℕ) → s ≡ Sum' p t → n ≡ length (discriminant_format.rows (discriminant_format.build (drop (o + (format_of t).count) ss))) → n ≡ length ((format_of s).rows ((format_of s).build (drop o ss)))
sum_rows_of s {p} {t} o ss n e h = rw e (h ∙ variants_rows_at (bank_of t) ss o (o + (format_of t).count) (ap (λ k. o + k) (sym (sides_of t))))

-- ---- the variants of a type that is no list of several

pub one_case : (s : Schema) → is_beside s ≡ false → bank_of s ≡ leaf (format_of s)
one_case (Simple l) h = refl
one_case (Optional' p t) h = refl
one_case (Fallible' p t q u) h = refl
one_case (Lists' b p t) h = refl
one_case (Solo' k p t) h = refl
one_case (Tuple' k p a q r) h = refl
one_case (Beside' p a q r) h = cc
one_case (Field' n p t) h = refl
one_case (Sum' p t) h = refl
one_case (Named n) h = refl
one_case (Case' n k p t) h = refl
one_case (Array' n p t) h = refl
one_case (Repeated' p t) h = refl
one_case (Recalled' p t) h = refl

-- several variants, and the whole: as `columnar_derive` nests the columns of an enum
pub several_cases : (s : Schema) {p : _} {a : Schema} {q : _} {u : Schema} → s ≡ Beside' p a q u → bank_of s ≡ join (format_of a) (bank_of u)
several_cases s e = rw e refl

pub sum_format : (s : Schema) {p : _} {t : Schema} → s ≡ Sum' p t → format_of s ≡ variants_format (bank_of t)
sum_format s e = rw e refl

-- ---- rules

-- the columns of the variants are rejected
pub cases_refused : (s : Schema) {p : _} {t : Schema} (o : ℕ) (ss : List (List ℕ)) (z : Fault) → s ≡ Sum' p t → Some z ≡ first (moved o ((format_of t).broken ((format_of t).build (drop o ss)))) → Some z ≡ first (moved o ((format_of s).broken ((format_of s).build (drop o ss))))
cases_refused s {p} {t} o ss z e h = rw e (variants_sides_at (bank_of t) ss o z (h ∙ sym (bank_first (columns_of t).head (columns_of t).others o ss)))

-- they are accepted
pub cases_accepted : (s : Schema) {p : _} {t : Schema} (o : ℕ) (ss : List (List ℕ)) → s ≡ Sum' p t → o + (format_of s).count ≤ length ss → None ≡ first (moved o ((format_of t).broken ((format_of t).build (drop o ss)))) → Fits (format_of t) o ss
cases_accepted s {p} {t} o ss e r h = fits_from (format_of t) o ss (omega (arith, r, sum_count s e)) h

-- the slices of the columns, and those of the variants of rows
pub cases_room : (s : Schema) {p : _} {t : Schema} (o : ℕ) (ss : List (List ℕ)) → s ≡ Sum' p t → o + (format_of s).count ≤ length ss → o + (format_of t).count ≤ length ss
cases_room s o ss e r = omega (arith, r, sum_count s e)

pub sum_room : (s : Schema) {p : _} {t : Schema} (o : ℕ) (ss : List (List ℕ)) → s ≡ Sum' p t → o + (format_of s).count ≤ length ss → (o + (format_of t).count) + 2 ≤ length ss
sum_room s o ss e r = omega (arith, r, sum_count s e)

sides_none : (t : Schema) (o : ℕ) (ss : List (List ℕ)) → Fits (format_of t) o ss → None ≡ first (moved o ((bank_of t).sides.broken ((bank_of t).sides.build (drop o ss))))
sides_none t o ss f = fits_none (format_of t) o ss f ∙ sym (bank_first (columns_of t).head (columns_of t).others o ss)

at_forms : (t : Schema) (o m : ℕ) → m ≡ o + (format_of t).count → m ≡ o + (bank_of t).sides.count
at_forms t o m e = e ∙ ap (λ n. o + n) (sym (sides_of t))

-- the variants of rows are rejected
pub forms_refused : (t : Schema) (o m : ℕ) (ss : List (List ℕ)) (z : Fault) → m ≡ o + (format_of t).count → Fits (format_of t) o ss → Some z ≡ first (moved m (discriminant_format.broken (discriminant_format.build (drop m ss)))) → Some z ≡ first (moved o ((variants_format (bank_of t)).broken ((variants_format (bank_of t)).build (drop o ss))))
forms_refused t o m ss z e f h = variants_forms_at (bank_of t) ss o m z (at_forms t o m e) (sides_none t o ss f) h

-- the rules of the whole
pub sum_own : (t : Schema) (o m : ℕ) (ss : List (List ℕ)) (y : Content) (below told : Bool) (v : Option Fault) → m ≡ o + (format_of t).count → y ≡ discriminant_format.build (drop m ss) → Fits (format_of t) o ss → None ≡ first (moved m (discriminant_format.broken (discriminant_format.build (drop m ss)))) → below ≡ are_below (bank_of t).size (variants_of y) → told ≡ (bank_of t).told ((bank_of t).sides.build (drop o ss)) (λ k. times k (variants_of y)) → v ≡ first (moved o (own_broken below told)) → v ≡ first (moved o ((variants_format (bank_of t)).broken ((variants_format (bank_of t)).build (drop o ss))))
sum_own t o m ss y below told v e w f n p q h = variants_own_at (bank_of t) ss o m y below told v (at_forms t o m e) w (sides_none t o ss f) n p q h

pub sum_verdict : (s : Schema) {p : _} {t : Schema} (o : ℕ) (ss : List (List ℕ)) (v : Option Fault) → s ≡ Sum' p t → v ≡ first (moved o ((variants_format (bank_of t)).broken ((variants_format (bank_of t)).build (drop o ss)))) → v ≡ first (moved o ((format_of s).broken ((format_of s).build (drop o ss))))
sum_verdict s o ss v e h = rw e h

-- ---- steps

sum_held : (s : Schema) {p : _} {t : Schema} (o : ℕ) (ss : List (List ℕ)) → s ≡ Sum' p t → bytes_held ((format_of s).build (drop o ss)) ≡ bytes_held ((format_of t).build (drop o ss)) + bytes_held (discriminant_format.build (drop (o + (format_of t).count) ss))
sum_held s {p} {t} o ss e = rw e (variants_held (bank_of t) ss o (o + (format_of t).count) (at_forms t o (o + (format_of t).count) refl) ∙ ap (λ n. n + bytes_held (discriminant_format.build (drop (o + (format_of t).count) ss))) (bank_held (columns_of t).head (columns_of t).others (drop o ss)))

-- those of the columns of the variants
pub cases_turns : (s : Schema) {p : _} {t : Schema} (o : ℕ) (ss : List (List ℕ)) (old new : ℕ) → s ≡ Sum' p t → new ≤ old + 16 * bytes_held ((format_of t).build (drop o ss)) → new ≤ old + 16 * bytes_held ((format_of s).build (drop o ss))
cases_turns s o ss old new e h = rw (sum_held s o ss e) (omega (arith, h))

-- all
pub sum_turns : (s : Schema) {p : _} {t : Schema} (o : ℕ) (ss : List (List ℕ)) (old mid new : ℕ) → s ≡ Sum' p t → mid ≤ old + 16 * bytes_held ((format_of t).build (drop o ss)) → new ≤ mid + 5 * bytes_held (discriminant_format.build (drop (o + (format_of t).count) ss)) → new ≤ old + 16 * bytes_held ((format_of s).build (drop o ss))
sum_turns s o ss old mid new e h k = rw (sum_held s o ss e) (omega (arith, h, k))

-- ---- numbers of values

later_told : (a : Format) (b : Bank) (o i : ℕ) (ss : List (List ℕ)) (m k : ℕ → ℕ) (r n : ℕ) (l : Bool) → i ≡ a.count → r ≡ length (a.rows (a.build (drop o ss))) → n ≡ m 0 → ((v : ℕ) → k v ≡ m (v + 1)) → l ≡ b.told (b.sides.build (drop (o + i) ss)) k → r ≡ n → l ≡ (join a b).told ((join a b).sides.build (drop o ss)) m
later_told a b o i ss m k r n l c e f g h q = told_then_at a b ss o i m k r n l c e f g h q

pub first_told : (s : Schema) {p : _} {a : Schema} {q : _} {u : Schema} (o i : ℕ) (ss : List (List ℕ)) (m k : ℕ → ℕ) (r n : ℕ) (l : Bool) → s ≡ Beside' p a q u → i ≡ (format_of a).count → r ≡ length ((format_of a).rows ((format_of a).build (drop o ss))) → n ≡ m 0 → ((v : ℕ) → k v ≡ m (v + 1)) → l ≡ (bank_of u).told ((bank_of u).sides.build (drop (o + i) ss)) k → r ≡ n → l ≡ (bank_of s).told ((bank_of s).sides.build (drop o ss)) m
first_told s {p} {a} {q} {u} o i ss m k r n l e c d f g h w = rw e (later_told (format_of a) (bank_of u) o i ss m k r n l c d f g h w)

pub first_untold : (s : Schema) {p : _} {a : Schema} {q : _} {u : Schema} (o : ℕ) (ss : List (List ℕ)) (m : ℕ → ℕ) (r n : ℕ) → s ≡ Beside' p a q u → r ≡ length ((format_of a).rows ((format_of a).build (drop o ss))) → n ≡ m 0 → (r ≡ n → ⊥) → nat_eq r n ≡ (bank_of s).told ((bank_of s).sides.build (drop o ss)) m
first_untold s {p} {a} {q} {u} o ss m r n e d f h = rw e (told_else_at (format_of a) (bank_of u) ss o m r n d f h)

pub one_told : (s : Schema) (o : ℕ) (ss : List (List ℕ)) (m : ℕ → ℕ) (r n : ℕ) → is_beside s ≡ false → r ≡ length ((format_of s).rows ((format_of s).build (drop o ss))) → n ≡ m 0 → nat_eq r n ≡ (bank_of s).told ((bank_of s).sides.build (drop o ss)) m
one_told s o ss m r n h e f = rw (one_case s h) (rw (e, f) refl)

-- ---- numbers of variants

pub one_size : (s : Schema) → is_beside s ≡ false → (bank_of s).size ≡ 1
one_size s h = rw (one_case s h) refl

pub more_sizes : (s : Schema) {p : _} {a : Schema} {q : _} {u : Schema} → s ≡ Beside' p a q u → (bank_of s).size ≡ suc (bank_of u).size
more_sizes s e = rw e refl

-- ---- measures of the names of slices

pub later_fields_fall : (s l : Schema) {p : _} {a : Schema} {q : _} {u : Schema} → s ≡ Beside' p a q u → l ≡ u → 4 * depth_of l + 2 < 4 * depth_of s + 2
later_fields_fall s l {p} {a} {q} {u} e k =
    let h : 4 * depth_of u + 2 < 4 * suc (depth_of a + depth_of u) + 2 = omega arith in
    rw (e, k) h

pub other_fields_fall : (s l : Schema) {br : _} {p : _} {a : Schema} {q : _} {u : Schema} → s ≡ Tuple' br p a q u → l ≡ u → 4 * depth_of l + 2 < 4 * depth_of s + 3
other_fields_fall s l {br} {p} {a} {q} {u} e k =
    let h : 4 * depth_of u + 2 < 4 * suc (depth_of a + depth_of u) + 3 = omega arith in
    rw (e, k) h
