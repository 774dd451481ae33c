-- A column of two variants is a column of variants, with the same rows, rules and tests.
use Rattle.std.proofs.Common.{◌≡◌, ℕ, ◌+◌, List, ◌++◌, length, true, refl}
use Rattle.columnar_core.specs.Format.{Format, Content, IsSound, Fits, IsLawful, IsStorable, representable, slices_of}
use Rattle.columnar_core.specs.TwoPartsLaws.{two_counted, representable_left, representable_right}
use Rattle.columnar_variants.specs.VariantByteLaws.{sides_representable, sides_fit, beside_first, beside_second}
use Rattle.columnar_sums.specs.DiscriminantLaws.{discriminant_lawful, discriminant_storable}
use Rattle.columnar_variants.specs.Variants.{leaf, IsBank}
use Rattle.columnar_variants.specs.VariantLaws.{leaf_bank, join_bank, beside_parts, variants_parts, variants_stayed, first_stayed, later_stayed, leaf_stayed}
use Rattle.columnar_core.specs.Change.{Stayed}
use Rattle.columnar_core.specs.ChangeLaws.{stayed_twice}
use Rattle.columnar_sums.specs.Discriminants.{discriminant_format}
use Rattle.columnar_variants.specs.LawfulVariantLaws.{leaf_lawful, join_lawful, join_storable, variants_lawful, variants_storable}
use Rattle.columnar_variants.specs.Duals.{dual_bank, dual_content, dual_format}
use Rattle.columnar_sums.specs.ResultLaws.{beside_two}

pub dual_law : (a b : Format) → IsBank (dual_bank a b)
dual_law a b = join_bank a (leaf b) (leaf_bank b)

pub dual_lawful : (a b : Format) → IsLawful a → IsLawful b → IsLawful (dual_format a b)
dual_lawful a b p q = variants_lawful (dual_bank a b) (dual_law a b) (join_lawful a (leaf b) p (leaf_lawful b q)) discriminant_lawful

pub dual_storable : (a b : Format) → IsStorable a → IsStorable b → IsStorable (dual_format a b)
dual_storable a b p q = variants_storable (dual_bank a b) (join_storable a (leaf b) p q) discriminant_storable

-- as many slices as the type has
pub dual_counted : (a b : Format) (x y z : Content) → length (slices_of x) ≡ a.count → length (slices_of y) ≡ b.count → length (slices_of z) ≡ 2 → length (slices_of (dual_content x y z)) ≡ (dual_format a b).count
dual_counted a b x y z p q r = two_counted (slices_of x ++ slices_of y) (slices_of z) (two_counted (slices_of x) (slices_of y) p q) r

pub same_duals : {a a' b b' : Format} → a ≡ a' → b ≡ b' → dual_format a b ≡ dual_format a' b'
same_duals {a} {a'} {b} {b'} p q = rw (p, q) refl

pub firsts_representable : (a b : Format) → representable (dual_format a b) ≡ true → representable a ≡ true
firsts_representable a b h = representable_left (beside_two a b) (sides_representable (dual_bank a b) h)

pub seconds_representable : (a b : Format) → representable (dual_format a b) ≡ true → representable b ≡ true
seconds_representable a b h = representable_right (beside_two a b) (sides_representable (dual_bank a b) h)

pub firsts_fit : (a b : Format) (o : ℕ) (ss : List (List ℕ)) → Fits (dual_format a b) o ss → Fits a o ss
firsts_fit a b o ss h = beside_first a b o ss (sides_fit (dual_bank a b) o ss h)

pub seconds_fit : (a b : Format) (o : ℕ) (ss : List (List ℕ)) → Fits (dual_format a b) o ss → Fits b (o + a.count) ss
seconds_fit a b o ss h = beside_second a b o ss (sides_fit (dual_bank a b) o ss h)

-- the columns of the values are unchanged
pub dual_stayed : (a b : Format) {x x' y y' z : Content} → IsSound (dual_format a b) (dual_content x y z) → Stayed a x x' → Stayed b y y' → Stayed (dual_format a b) (dual_content x y z) (dual_content x' y' z)
dual_stayed a b s p q =
    let f = variants_stayed (dual_bank a b) (dual_law a b) s (first_stayed a (leaf b) p) in
    stayed_twice f (variants_stayed (dual_bank a b) (dual_law a b) f.sound (later_stayed a (leaf b) (leaf_stayed b q)))

-- the parts of a sound column
pub firsts_sound : (a b : Format) {x y z : Content} → IsSound (dual_format a b) (dual_content x y z) → IsSound a x
firsts_sound a b s = (beside_parts a b (variants_parts (dual_bank a b) s).parts).0

pub seconds_sound : (a b : Format) {x y z : Content} → IsSound (dual_format a b) (dual_content x y z) → IsSound b y
seconds_sound a b s = (beside_parts a b (variants_parts (dual_bank a b) s).parts).1

pub forms_sound : (a b : Format) {x y z : Content} → IsSound (dual_format a b) (dual_content x y z) → IsSound discriminant_format z
forms_sound a b s = (variants_parts (dual_bank a b) s).forms
