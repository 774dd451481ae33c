-- The slices of a bank.
use Rattle.std.proofs.Common.{◌≡◌, ℕ, suc, ◌+◌, ◌*◌, ◌≤◌, Bool, true, false, ◌&&◌, List, length, drop, refl, sym, ◌∙◌, ap, arith}
use Rattle.std.specs.Prelude.{nat_eq, Some}
use Rattle.std.proofs.lemmas.Bool.{eq-eqb, ne_eqb}
use Rattle.columnar_core.specs.Format.{Format, Content, slice, both, part, plain, fault, first, moved, two_broken}
use Rattle.columnar_core.specs.TwoParts.{TwoParts}
use Rattle.columnar_variants.specs.Variants.{Bank, join}
use Rattle.columnar_variants.specs.VariantBytes.{own_broken}
use Rattle.columnar_variants.specs.VariantByteLaws.{beside_built}
use Rattle.columnar_variants.specs.BankChangeLaws.{told_as}
use Rattle.columnar_sums.specs.Results.{beside_format}

-- two parts with any numbers of rows
pub beside_parts_two : (a b : Format) → TwoParts (beside_format a b) a b (λ x y. true) 0
beside_parts_two a b = record { count = refl; sizes = refl; aligns = refl; build = λ ss. refl; broken = no_rule a b }
  where
    no_rule : (a b : Format) (c : Content) → two_broken a b (λ x y. true) 10 c ≡ two_broken a b (λ x y. true) 0 c
    no_rule a b (both x y) = refl
    no_rule a b (slice bs) = refl
    no_rule a b (part l u x) = refl
    no_rule a b (plain rs) = refl

-- each column has as many values as n says
pub told_more : (a : Format) (b : Bank) (x y : Content) (m k : ℕ → ℕ) (r n : ℕ) (l : Bool) → r ≡ length (a.rows x) → n ≡ m 0 → ((v : ℕ) → k v ≡ m (v + 1)) → l ≡ b.told y k → (nat_eq r n && l) ≡ (join a b).told (both x y) m
told_more a b x y m k r n l e f g h =
    let p : b.told y k ≡ b.told y (λ v. m (suc v)) = told_as b y (λ v. g v ∙ ap m (omega arith)) in
    rw (e, f, h, p) refl

pub told_more_at : (a : Format) (b : Bank) (ss : List (List ℕ)) (o i : ℕ) (m k : ℕ → ℕ) (r n : ℕ) (l : Bool) → i ≡ a.count → r ≡ length (a.rows (a.build (drop o ss))) → n ≡ m 0 → ((v : ℕ) → k v ≡ m (v + 1)) → l ≡ b.told (b.sides.build (drop (o + i) ss)) k → (nat_eq r n && l) ≡ (join a b).told ((join a b).sides.build (drop o ss)) m
told_more_at a b ss o i m k r n l c e f g h =
    told_more a b (a.build (drop o ss)) (b.sides.build (drop (o + a.count) ss)) m k r n l e f g (h ∙ ap (λ j. b.told (b.sides.build (drop (o + j) ss)) k) c) ∙ ap (λ d. (join a b).told d m) (sym (beside_built a b.sides ss o))

-- the first column has as many as n says, or not
pub told_then : (a : Format) (b : Bank) (x y : Content) (m k : ℕ → ℕ) (r n : ℕ) (l : Bool) → r ≡ length (a.rows x) → n ≡ m 0 → ((v : ℕ) → k v ≡ m (v + 1)) → l ≡ b.told y k → r ≡ n → l ≡ (join a b).told (both x y) m
told_then a b x y m k r n l e f g h q = rw (eq-eqb r n q) at (told_more a b x y m k r n l e f g h)

pub told_else : (a : Format) (b : Bank) (x y : Content) (m : ℕ → ℕ) (r n : ℕ) → r ≡ length (a.rows x) → n ≡ m 0 → (r ≡ n → ⊥) → nat_eq r n ≡ (join a b).told (both x y) m
told_else a b x y m r n e f o = let p : nat_eq (length (a.rows x)) (m 0) ≡ false = ne_eqb (length (a.rows x)) (m 0) (λ q. o (e ∙ (q ∙ sym f))) in ne_eqb r n o ∙ (rw p refl)

pub told_then_at : (a : Format) (b : Bank) (ss : List (List ℕ)) (o i : ℕ) (m k : ℕ → ℕ) (r n : ℕ) (l : Bool) → i ≡ a.count → r ≡ length (a.rows (a.build (drop o ss))) → n ≡ m 0 → ((v : ℕ) → k v ≡ m (v + 1)) → l ≡ b.told (b.sides.build (drop (o + i) ss)) k → r ≡ n → l ≡ (join a b).told ((join a b).sides.build (drop o ss)) m
told_then_at a b ss o i m k r n l c e f g h q = rw (eq-eqb r n q) at (told_more_at a b ss o i m k r n l c e f g h)

pub told_else_at : (a : Format) (b : Bank) (ss : List (List ℕ)) (o : ℕ) (m : ℕ → ℕ) (r n : ℕ) → r ≡ length (a.rows (a.build (drop o ss))) → n ≡ m 0 → (r ≡ n → ⊥) → nat_eq r n ≡ (join a b).told ((join a b).sides.build (drop o ss)) m
told_else_at a b ss o m r n e f q = told_else a b (a.build (drop o ss)) (b.sides.build (drop (o + a.count) ss)) m r n e f q ∙ ap (λ d. (join a b).told d m) (sym (beside_built a b.sides ss o))

-- a variant is not less than the number of columns
pub own_variant : (o : ℕ) (below told : Bool) → below ≡ false → Some (fault 17 o) ≡ first (moved o (own_broken below told))
own_variant o below told p = let k : o + 0 ≡ o = omega arith in rw (p, k) refl

-- 4 steps for each byte of the variants, one for each variant, and those of the columns
pub whole_turns : (old mid later new k m n r : ℕ) → mid ≤ old + 16 * n → later ≤ mid + 4 * m → new ≤ later + k → k ≤ m → r ≡ n + m → new ≤ old + 16 * r
whole_turns old mid later new k m n r p q h l e = omega arith
