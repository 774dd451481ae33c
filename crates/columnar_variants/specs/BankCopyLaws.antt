-- Laws of copies of ranges of the rows of a column of variants.
use Rattle.std.proofs.Common.{◌≡◌, ℕ, suc, ◌+◌, ◌-◌, ◌<◌, ◌≤◌, List, [], ◌++◌, length, take, drop, refl, sym, ◌∙◌, ap, subst, arith, length-append}
use Rattle.std.proofs.Math.Path.{fun_ext}
use Rattle.columnar_core.specs.Row.{Row}
use Rattle.columnar_core.specs.Format.{Format, Content, both, IsSound}
use Rattle.columnar_core.specs.Change.{Copied, Refused, Stayed, Took, IsTrueOf}
use Rattle.columnar_base.specs.declared.fault.GrowError.{GrowError}
use Rattle.columnar_sums.specs.Discriminants.{times, variants_of, discriminant_format}
use Rattle.columnar_variants.specs.Variants.{Bank, IsBank, BankStayed, leaf, join, variants_format, chosen}
use Rattle.columnar_variants.specs.VariantListLaws.{times_range}
use Rattle.columnar_variants.specs.VariantLaws.{leaf_stayed}
use Rattle.columnar_variants.specs.VariantCopies.{BankCopied, BankDenied, HasRange, range_of}
use Rattle.columnar_variants.specs.VariantCopyLaws.{has_range, leaf_copied, join_copied, variants_copied, variants_front, chosen_range, leaf_denied, first_denied, later_denied, variants_denied, variants_overfull}
use Rattle.columnar_variants.specs.BankChangeLaws.{one_more, bank_unchanged}
use Rattle.columnar_variants.specs.DualCopyLaws.{same_range, refused_as, copied_as}
use Rattle.columnar_variants.specs.BankCopies.{ranges}

-- the ranges of the variants among rows s to k
pub ranges_of : (u : ℕ → List Row) (n m : ℕ → ℕ) (s k : ℕ) (ws : List ℕ) → s ≤ k → ((v : ℕ) → n v ≡ times v (take s ws)) → ((v : ℕ) → m v ≡ times v (take k ws)) → ranges u n m ≡ range_of u (take s ws) (take (k - s) (drop s ws))
ranges_of u n m s k ws l f g = fun_ext (λ v. same_range (u v) (n v) (m v) (times v (take s ws)) (times v (take (k - s) (drop s ws))) (f v) (g v ∙ times_range v s k ws l))

copied_from : (b : Bank) {x x' : Content} {n m : ℕ → ℕ} {f g : ℕ → List Row} → ((v : ℕ) → n v ≡ m v) → f ≡ g → BankCopied b x x' n f → BankCopied b x x' m g
copied_from b {x} {x'} {n} {m} {f} {g} e d t = subst (λ i. BankCopied b x x' i g) (fun_ext e) (subst (λ i. BankCopied b x x' n i) d t)

level_range : {i j : ℕ} {u : ℕ → List Row} {before mid : List ℕ} → i ≡ j → HasRange i u before mid → HasRange j u before mid
level_range {i} {j} {u} {before} {mid} e h = subst (λ k. HasRange k u before mid) e h

front_from : (b : Bank) → IsBank b → {x x' y : Content} (y' : Content) (u : ℕ → List Row) (before mid : List ℕ) → before ≡ [] → IsSound (variants_format b) (both x y) → HasRange b.size u before mid → BankCopied b x x' (λ v. times v before) (range_of u before mid) → variants_of y' ≡ variants_of y ++ mid → (variants_format b).rows (both x y) ≡ [] → (variants_format b).rows (both x' y') ≡ chosen u before mid
front_from b law {x} {x'} {y} y' u before mid z s r t e h =
    let r' = subst (λ p. HasRange b.size u p mid) z r in
    let t' = subst (λ p. BankCopied b x x' (λ v. times v p) (range_of u p mid)) z t in
    variants_front b law y' u mid s r' t' e h ∙ ap (λ p. chosen u p mid) (sym z)

-- b copied rows s to k of d
pub whole_copied : (b d : Bank) → IsBank b → IsBank d → d.size ≡ b.size → {x x' y y' z w : Content} (n m : ℕ → ℕ) (s k : ℕ) → s ≤ k → ((v : ℕ) → n v ≡ times v (take s (variants_of w))) → ((v : ℕ) → m v ≡ times v (take k (variants_of w))) → IsSound (variants_format b) (both x y) → IsSound (variants_format d) (both z w) → BankCopied b x x' n (ranges (d.table z) n m) → IsSound discriminant_format y' → variants_of y' ≡ variants_of y ++ take (k - s) (drop s (variants_of w)) → Copied (variants_format b) (both x y) (both x' y') s (take (k - s) (drop s ((variants_format d).rows (both z w))))
whole_copied b d law led e {x} {x'} {y} {y'} {z} {w} n m s k l f g t v c h a =
    let ws = variants_of w in
    let before = take s ws in
    let mid = take (k - s) (drop s ws) in
    let u = d.table z in
    let r : HasRange b.size u before mid = level_range e (has_range d led s k v) in
    let all : BankCopied b x x' (λ i. times i before) (range_of u before mid) = copied_from b f (ranges_of u n m s k ws l f g) c in
    let q = chosen_range u s k ws in
    record {
      took = subst (λ rs. Took (variants_format b) (both x y) (both x' y') rs) q (variants_copied b law u before mid t r all h a);
      front = λ i j. front_from b law y' u before mid (ap (λ p. take p ws) j) t r all a i ∙ q;
    }

-- one of the columns refused
pub whole_denied : (b d : Bank) → IsBank b → IsBank d → d.size ≡ b.size → {x x' y z w : Content} (n m : ℕ → ℕ) (s k : ℕ) {error : GrowError} → s ≤ k → ((v : ℕ) → n v ≡ times v (take s (variants_of w))) → ((v : ℕ) → m v ≡ times v (take k (variants_of w))) → IsSound (variants_format b) (both x y) → IsSound (variants_format d) (both z w) → BankDenied b x x' (ranges (d.table z) n m) error → Refused (variants_format b) (both x y) (both x' y) (take (k - s) (drop s ((variants_format d).rows (both z w)))) error
whole_denied b d law led e {x} {x'} {y} {z} {w} n m s k {error} l f g t v c =
    let ws = variants_of w in
    let u = d.table z in
    refused_as (chosen_range u s k ws) (variants_denied b law u (take s ws) (take (k - s) (drop s ws)) t (level_range e (has_range d led s k v)) (subst (λ i. BankDenied b x x' i error) (ranges_of u n m s k ws l f g) c))

-- the column of variants refused
pub whole_overfull : (b d : Bank) → IsBank b → {x x' y y' : Content} (z w : Content) (s k : ℕ) {error : GrowError} → IsSound (variants_format b) (both x y) → BankStayed b x x' → Stayed discriminant_format y y' → variants_of y' ≡ variants_of y → ((rs : List Row) → length rs ≡ length (take (k - s) (drop s (variants_of w))) → IsTrueOf error discriminant_format y rs) → Refused (variants_format b) (both x y) (both x' y') (take (k - s) (drop s ((variants_format d).rows (both z w)))) error
whole_overfull b d law z w s k t c p q h =
    refused_as (chosen_range (d.table z) s k (variants_of w)) (variants_overfull b law (d.table z) (take s (variants_of w)) (take (k - s) (drop s (variants_of w))) t c p q h)

-- the columns, one after the other

pub same_ends : (rs : List Row) (i j n m : ℕ) → i ≡ n → j ≡ m → take (j - i) (drop i rs) ≡ take (m - n) (drop n rs)
same_ends rs i j n m p q = rw (p, q) refl

later_ranges : (t : ℕ → List Row) (n m n' m' : ℕ → ℕ) → ((v : ℕ) → n' v ≡ n (v + 1)) → ((v : ℕ) → m' v ≡ m (v + 1)) → ranges (λ v. t (suc v)) n' m' ≡ (λ v. ranges t n m (suc v))
later_ranges t n m n' m' f g = fun_ext (λ v. same_ends (t (suc v)) (n' v) (m' v) (n (suc v)) (m (suc v)) (one_more n' n f v) (one_more m' m g v))

pub leaf_copied_ends : (a : Format) (t : ℕ → List Row) (n m : ℕ → ℕ) {x x' : Content} {i j : ℕ} → i ≡ n 0 → j ≡ m 0 → Copied a x x' i (take (j - i) (drop i (t 0))) → BankCopied (leaf a) x x' n (ranges t n m)
leaf_copied_ends a t n m {x} {x'} {i} {j} p q c = leaf_copied a n (ranges t n m) (copied_as p (same_ends (t 0) i j (n 0) (m 0) p q) c)

pub leaf_denied_ends : (a : Format) (t : ℕ → List Row) (n m : ℕ → ℕ) {x x' : Content} {i j : ℕ} {error : GrowError} → i ≡ n 0 → j ≡ m 0 → Refused a x x' (take (j - i) (drop i (t 0))) error → BankDenied (leaf a) x x' (ranges t n m) error
leaf_denied_ends a t n m {x} {x'} {i} {j} {error} p q c = leaf_denied a (ranges t n m) (leaf_stayed a c.stayed) (refused_as (same_ends (t 0) i j (n 0) (m 0) p q) c)

pub join_copied_ends : (a : Format) (b : Bank) (t : ℕ → List Row) (n m n' m' : ℕ → ℕ) {x x' y y' : Content} {i j : ℕ} → i ≡ n 0 → j ≡ m 0 → ((v : ℕ) → n' v ≡ n (v + 1)) → ((v : ℕ) → m' v ≡ m (v + 1)) → Copied a x x' i (take (j - i) (drop i (t 0))) → BankCopied b y y' n' (ranges (λ v. t (suc v)) n' m') → BankCopied (join a b) (both x y) (both x' y') n (ranges t n m)
join_copied_ends a b t n m n' m' {x} {x'} {y} {y'} {i} {j} p q f g c u =
    join_copied a b n (ranges t n m) (copied_as p (same_ends (t 0) i j (n 0) (m 0) p q) c) (copied_from b (one_more n' n f) (later_ranges t n m n' m' f g) u)

pub first_denied_ends : (a : Format) (b : Bank) (t : ℕ → List Row) (n m : ℕ → ℕ) {x x' : Content} (y : Content) {i j : ℕ} {error : GrowError} → i ≡ n 0 → j ≡ m 0 → Refused a x x' (take (j - i) (drop i (t 0))) error → BankDenied (join a b) (both x y) (both x' y) (ranges t n m) error
first_denied_ends a b t n m {x} {x'} y {i} {j} {error} p q c = first_denied a b (ranges t n m) (refused_as (same_ends (t 0) i j (n 0) (m 0) p q) c) (bank_unchanged b y)

pub later_denied_ends : (a : Format) (b : Bank) (t : ℕ → List Row) (n m n' m' : ℕ → ℕ) {x x' y y' : Content} {error : GrowError} → ((v : ℕ) → n' v ≡ n (v + 1)) → ((v : ℕ) → m' v ≡ m (v + 1)) → Stayed a x x' → BankDenied b y y' (ranges (λ v. t (suc v)) n' m') error → BankDenied (join a b) (both x y) (both x' y') (ranges t n m) error
later_denied_ends a b t n m n' m' {x} {x'} {y} {y'} {error} f g s u =
    later_denied a b (ranges t n m) s (subst (λ h. BankDenied b y y' h error) (later_ranges t n m n' m' f g) u)

-- the values of a column are still there after a copy
pub still_within : (b : Bank) {x x' : Content} {s : ℕ → ℕ} {f : ℕ → List Row} (v n : ℕ) → v < b.size → BankCopied b x x' s f → n ≡ length (b.table x v) → n ≤ length (b.table x' v)
still_within b {x} {x'} {s} {f} v n l t e = let a : length (b.table x' v) ≡ length (b.table x v) + length (t.fresh v) = ap length (t.here v l) ∙ length-append (b.table x v) (t.fresh v) in omega (arith, e, a)
