use Rattle.std.proofs.Common.{◌≡◌, ℕ, zero, suc, ◌*◌, ◌/◌, ◌%◌, ◌^◌, ◌<◌, ◌≤◌, Bool, true, false, leb, eqb, ◌||◌, ◌&&◌, slice_index, inl, inr, refl, sym, ◌∙◌, subst, arith, true≢false}
use Rattle.std.proofs.lemmas.Bool.{cases_lt, eqb-true, lt-leb}
use Rattle.columnar_bits.specs.Bits.{bit}
use Rattle.columnar_bits.specs.BitLaws.{bit_mod}
use Rattle.columnar_sums.specs.Counting.{ones_below}
use Rattle.columnar_sums.specs.CountLaws.{ones_below_le, ones_below_same}
use Rattle.columnar_sums.specs.declared.rank_select.search.TheConstants.{PLACES}
use Rattle.columnar_sums.proofs.rank_select.search.place_in_byte.Goals as goal

both_true : (a b : Bool) → (a && b) ≡ true → (a ≡ true) × (b ≡ true)
both_true true b h = (refl, h)
both_true false b h = absurd (true≢false (sym h))

every : (ℕ → Bool) → ℕ → Bool
every f zero = true
every f (suc n) = f n && every f n

every_one : (f : ℕ → Bool) (n i : ℕ) → every f n ≡ true → i < n → f i ≡ true
unfolding every
every_one f zero i h l = absurd (omega arith)
every_one f (suc n) i h l =
    let b = both_true (f n) (every f n) h in
    elim (cases_lt i n) [ inl a ↦ every_one f n i b.1 a | inr a ↦ let e : n ≡ i = omega arith in subst (λ x. f x ≡ true) e b.0 ]

-- the position in the table
abbrev placed : ℕ → ℕ → ℕ
placed b r = slice_index PLACES b / 2 ^ (4 * r) % 8

-- for a byte and a number of its set bits, it is the position of the next one
is_placed : ℕ → ℕ → Bool
is_placed b r = leb (ones_below (bit b) 8) r || (bit b (placed b r) && eqb (ones_below (bit b) (placed b r)) r)

all_placed : every (λ b. every (is_placed b) 8) 256 ≡ true
unfolding every is_placed ones_below bit
all_placed = refl

placed_is : (b r : ℕ) → b < 256 → r < ones_below (bit b) 8 → (bit b (placed b r) ≡ true) × (ones_below (bit b) (placed b r) ≡ r)
unfolding is_placed
placed_is b r h l =
    let small : r < 8 = omega (arith, ones_below_le (bit b) 8) in
    let it = every_one (is_placed b) 8 r (every_one (λ x. every (is_placed x) 8) 256 b all_placed h) small in
    let found = both_true _ _ (subst (λ x. (x || (bit b (placed b r) && eqb (ones_below (bit b) (placed b r)) r)) ≡ true) (lt-leb _ r l) it) in
    (found.0, eqb-true _ r found.1)

-- the lowest bits are those of the byte
lowest : (w n : ℕ) → n ≤ 8 → ones_below (bit (w % 256)) n ≡ ones_below (bit w) n
lowest w n h = ones_below_same (bit (w % 256)) (bit w) n (λ j l. bit_mod w 8 j (omega arith))

-- the number of set bits of a byte before a set bit is less than eight
few : (w r : ℕ) → r < ones_below (bit w) 8 → r < 8
few w r h = omega (arith, ones_below_le (bit w) 8)

-- the position in the table for the lowest byte of a word
place_is : (w r : ℕ) → r < ones_below (bit w) 8 → (bit w (placed (w % 256) r) ≡ true) × (ones_below (bit w) (placed (w % 256) r) ≡ r)
place_is w r h =
    let p : ℕ = placed (w % 256) r in
    let byte : w % 256 < 256 = omega arith in
    let inside : p < 8 = omega arith in
    let found = placed_is (w % 256) r byte (omega (arith, lowest w 8 (omega arith), h)) in
    (sym (bit_mod w 8 p inside) ∙ found.0, sym (lowest w p (omega arith)) ∙ found.1)

pub overflow_cast-result : goal.overflow_cast-result
overflow_cast-result c = omega (arith, few c.args.word c.args.rank c.requires)

pub overflow_mul-result : goal.overflow_mul-result
overflow_mul-result c = omega (arith, few c.args.word c.args.rank c.requires)

pub overflow_shr-result : goal.overflow_shr-result
overflow_shr-result c = omega (arith, few c.args.word c.args.rank c.requires)

pub returns-clause-set : goal.returns-clause-set
returns-clause-set c = (place_is c.args.word c.args.rank c.requires).0

pub returns-clause-before : goal.returns-clause-before
returns-clause-before c = (place_is c.args.word c.args.rank c.requires).1
