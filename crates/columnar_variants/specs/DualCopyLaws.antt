-- Two variants: a copied range consists of a range of each part, or is refused like that of a part.
use Rattle.std.proofs.Common.{◌≡◌, ℕ, zero, suc, ◌+◌, ◌-◌, ◌<◌, List, [], ◌∷◌, ◌++◌, length, take, drop, refl, sym, ◌∙◌, ap, subst, arith}
use Rattle.columnar_core.specs.Row.{Row}
use Rattle.std.specs.Prelude.{slice_index}
use Rattle.columnar_core.specs.Format.{Format, Content, both, IsSound}
use Rattle.columnar_core.specs.Change.{Copied, Refused, Stayed, Took, IsTrueOf}
use Rattle.columnar_core.specs.ChangeLaws.{unchanged}
use Rattle.columnar_base.specs.declared.fault.GrowError.{GrowError}
use Rattle.columnar_sums.specs.Discriminants.{times, variants_of, discriminant_format}
use Rattle.columnar_variants.specs.Variants.{Bank, IsBank, leaf, variants_format, chosen}
use Rattle.columnar_variants.specs.VariantLaws.{leaf_stayed}
use Rattle.columnar_variants.specs.Duals.{dual_bank, dual_format}
use Rattle.columnar_variants.specs.DualLaws.{dual_law, seconds_sound}
use Rattle.columnar_variants.specs.VariantCopies.{BankCopied, HasRange, range_of}
use Rattle.columnar_variants.specs.VariantCopyLaws.{has_range, leaf_copied, join_copied, variants_copied, variants_front, chosen_range, join_stayed, leaf_denied, first_denied, later_denied, variants_denied, variants_overfull}

pub same_range : (rs : List Row) (f l m n : ℕ) → f ≡ m → l ≡ m + n → take (l - f) (drop f rs) ≡ take n (drop m rs)
same_range rs f l m n p q = let e : l - f ≡ n = omega (arith, p, q) in rw (e, p) refl

pub copied_as : {f : Format} {x x' : Content} {s t : ℕ} {rs ss : List Row} → s ≡ t → rs ≡ ss → Copied f x x' s rs → Copied f x x' t ss
copied_as {f} {x} {x'} {s} {t} {rs} {ss} p q c = subst (λ k. Copied f x x' k ss) p (subst (λ ks. Copied f x x' s ks) q c)

pub refused_as : {f : Format} {x x' : Content} {rs ss : List Row} {error : GrowError} → rs ≡ ss → Refused f x x' rs error → Refused f x x' ss error
refused_as {f} {x} {x'} {rs} {ss} {error} q c = subst (λ ks. Refused f x x' ks error) q c

front_from : (b : Bank) → IsBank b → {x x' y : Content} (y' : Content) (u : ℕ → List Row) (before mid : List ℕ) → before ≡ [] → IsSound (variants_format b) (both x y) → HasRange b.size u before mid → BankCopied b x x' (λ v. times v before) (range_of u before mid) → variants_of y' ≡ variants_of y ++ mid → (variants_format b).rows (both x y) ≡ [] → (variants_format b).rows (both x' y') ≡ chosen u before mid
front_from b law {x} {x'} {y} y' u before mid z s r t e h =
    let r' = subst (λ p. HasRange b.size u p mid) z r in
    let t' = subst (λ p. BankCopied b x x' (λ v. times v p) (range_of u p mid)) z t in
    variants_front b law y' u mid s r' t' e h ∙ ap (λ p. chosen u p mid) (sym z)

abbrev pub source : Format → Format → Content → Content → ℕ → List Row
source a b p q = (dual_bank a b).table (both p q)

abbrev pub part_of : Format → Format → Content → Content → Content → ℕ → ℕ → ℕ → List Row
part_of a b p q w s k = range_of (source a b p q) (take s (variants_of w)) (take (k - s) (drop s (variants_of w)))

pub dual_copied : (a b c d : Format) {x x' y y' z z' p q w : Content} (s k : ℕ) → IsSound (dual_format a b) (both (both x y) z) → IsSound (dual_format c d) (both (both p q) w) → Copied a x x' (times 0 (take s (variants_of w))) (part_of c d p q w s k 0) → Copied b y y' (times 1 (take s (variants_of w))) (part_of c d p q w s k 1) → IsSound discriminant_format z' → variants_of z' ≡ variants_of z ++ take (k - s) (drop s (variants_of w)) → Copied (dual_format a b) (both (both x y) z) (both (both x' y') z') s (take (k - s) (drop s ((dual_format c d).rows (both (both p q) w))))
dual_copied a b c d {x} {x'} {y} {y'} {z} {z'} {p} {q} {w} s k t v m n f e =
    let ws = variants_of w in
    let before = take s ws in
    let mid = take (k - s) (drop s ws) in
    let u = source c d p q in
    let r : HasRange 2 u before mid = has_range (dual_bank c d) (dual_law c d) s k v in
    let all : BankCopied (dual_bank a b) (both x y) (both x' y') (λ i. times i before) (range_of u before mid) = join_copied a (leaf b) (λ i. times i before) (range_of u before mid) m (leaf_copied b (λ i. times (suc i) before) (λ i. range_of u before mid (suc i)) n) in
    let g = chosen_range u s k ws in
    record {
      took = subst (λ rs. Took (dual_format a b) (both (both x y) z) (both (both x' y') z') rs) g (variants_copied (dual_bank a b) (dual_law a b) u before mid t r all f e);
      front = λ h i. front_from (dual_bank a b) (dual_law a b) z' u before mid (ap (λ j. take j ws) i) t r all e h ∙ g;
    }

pub dual_refused_firsts : (a b c d : Format) {x x' y z p q w : Content} (s k : ℕ) {error : GrowError} → IsSound (dual_format a b) (both (both x y) z) → IsSound (dual_format c d) (both (both p q) w) → Refused a x x' (part_of c d p q w s k 0) error → Refused (dual_format a b) (both (both x y) z) (both (both x' y) z) (take (k - s) (drop s ((dual_format c d).rows (both (both p q) w)))) error
dual_refused_firsts a b c d {x} {x'} {y} {z} {p} {q} {w} s k t v m =
    let u = source c d p q in
    let before = take s (variants_of w) in
    let mid = take (k - s) (drop s (variants_of w)) in
    refused_as (chosen_range u s k (variants_of w)) (variants_denied (dual_bank a b) (dual_law a b) u before mid t (has_range (dual_bank c d) (dual_law c d) s k v) (first_denied a (leaf b) (range_of u before mid) m (leaf_stayed b (unchanged (seconds_sound a b t)))))

pub dual_refused_seconds : (a b c d : Format) {x x' y y' z p q w : Content} (s k : ℕ) {error : GrowError} → IsSound (dual_format a b) (both (both x y) z) → IsSound (dual_format c d) (both (both p q) w) → Stayed a x x' → Refused b y y' (part_of c d p q w s k 1) error → Refused (dual_format a b) (both (both x y) z) (both (both x' y') z) (take (k - s) (drop s ((dual_format c d).rows (both (both p q) w)))) error
dual_refused_seconds a b c d {x} {x'} {y} {y'} {z} {p} {q} {w} s k t v l m =
    let u = source c d p q in
    let before = take s (variants_of w) in
    let mid = take (k - s) (drop s (variants_of w)) in
    refused_as (chosen_range u s k (variants_of w)) (variants_denied (dual_bank a b) (dual_law a b) u before mid t (has_range (dual_bank c d) (dual_law c d) s k v) (later_denied a (leaf b) (range_of u before mid) l (leaf_denied b (λ i. range_of u before mid (suc i)) (leaf_stayed b m.stayed) m)))

pub dual_refused_forms : (a b c d : Format) {x x' y y' z z' : Content} (p q w : Content) (s k : ℕ) {error : GrowError} → IsSound (dual_format a b) (both (both x y) z) → Stayed a x x' → Stayed b y y' → Stayed discriminant_format z z' → variants_of z' ≡ variants_of z → ((rs : List Row) → length rs ≡ length (take (k - s) (drop s (variants_of w))) → IsTrueOf error discriminant_format z rs) → Refused (dual_format a b) (both (both x y) z) (both (both x' y') z') (take (k - s) (drop s ((dual_format c d).rows (both (both p q) w)))) error
dual_refused_forms a b c d {x} {x'} {y} {y'} {z} {z'} p q w s k t l m n e h =
    refused_as (chosen_range (source c d p q) s k (variants_of w)) (variants_overfull (dual_bank a b) (dual_law a b) (source c d p q) (take s (variants_of w)) (take (k - s) (drop s (variants_of w))) t (join_stayed a (leaf b) l (leaf_stayed b m)) n e h)

pub two_at : (m n : ℕ) (f : ℕ → ℕ) → m ≡ f 0 → n ≡ f 1 → (v : ℕ) → v < 2 → slice_index (m ∷ n ∷ []) v ≡ f v
two_at m n f p q zero l = p
two_at m n f p q (suc zero) l = q
two_at m n f p q (suc (suc v)) l = absurd (omega arith)
