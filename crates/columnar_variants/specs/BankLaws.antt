-- The positions of the values of a variant in a bank.
use Rattle.std.proofs.Common.{◌≡◌, ℕ, zero, suc, ◌+◌, ◌-◌, ◌*◌, ◌<◌, ◌≤◌, [], refl, ap, arith}
use Rattle.columnar_core.specs.Format.{Format, Content, both, slice, part, plain}
use Rattle.columnar_variants.specs.Variants.{Bank, leaf, join, leaf_table, join_table, variants_format}

-- for a single variant
pub leaf_at : (a : Format) (c : Content) (v : ℕ) → v < 1 → leaf_table a c v ≡ a.rows c
leaf_at a c zero l = refl
leaf_at a c (suc v) l = absurd (omega arith)

pub leaf_beyond : (a : Format) (c : Content) (v : ℕ) → 1 ≤ v → leaf_table a c v ≡ []
leaf_beyond a c zero l = absurd (omega arith)
leaf_beyond a c (suc v) l = refl

-- for the first variant, and for the others
pub first_at : (a : Format) (b : Bank) (x y : Content) (v : ℕ) → v ≡ 0 → join_table a b (both x y) v ≡ a.rows x
first_at a b x y zero e = refl
first_at a b x y (suc v) e = absurd (omega (arith, e))

pub later_at : (a : Format) (b : Bank) (x y : Content) (v : ℕ) → (v ≡ 0 → ⊥) → join_table a b (both x y) v ≡ b.table y (v - 1)
later_at a b x y zero o = absurd (o refl)
later_at a b x y (suc v) o = ap (b.table y) (omega arith)

pub join_beyond : (a : Format) (b : Bank) → ((c : Content) (v : ℕ) → b.size ≤ v → b.table c v ≡ []) → (c : Content) (v : ℕ) → suc b.size ≤ v → join_table a b c v ≡ []
join_beyond a b h (both x y) zero l = absurd (omega arith)
join_beyond a b h (both x y) (suc v) l = h y v (omega arith)
join_beyond a b h (slice bs) v l = refl
join_beyond a b h (part i u x) v l = refl
join_beyond a b h (plain rs) v l = refl

-- the same parts make the same bank
pub same_leaf : {a b : Format} → a ≡ b → leaf a ≡ leaf b
same_leaf p = ap leaf p

pub same_join : {a a' : Format} {b b' : Bank} → a ≡ a' → b ≡ b' → join a b ≡ join a' b'
same_join p q = rw (p, q) refl

pub same_variants : {b b' : Bank} → b ≡ b' → variants_format b ≡ variants_format b'
same_variants p = ap variants_format p

-- one more on both sides
pub same_size : {m n : ℕ} → m ≡ n → suc m ≡ suc n
same_size p = ap suc p

-- numbers of columns, in sixteens and ones

pub leaf_within : (h l : ℕ) → 1 ≤ 16 * h + l + 1
leaf_within h l = omega arith

pub join_within : {n : ℕ} (h l : ℕ) → n ≤ 16 * h + l + 1 → suc n ≤ 16 * h + (l + 1) + 1
join_within h l k = omega (arith, k)

pub join_carried : {n : ℕ} (h : ℕ) → n ≤ 16 * h + 15 + 1 → suc n ≤ 16 * (h + 1) + 0 + 1
join_carried h k = omega (arith, k)
