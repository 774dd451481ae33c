-- Counting by half chunks of eight words.
use Rattle.std.proofs.Common.{◌≡◌, ℕ, zero, suc, ◌+◌, ◌-◌, ◌*◌, ◌/◌, ◌%◌, ◌^◌, ◌<◌, ◌≤◌, Bool, List, length, refl, sym, ap, ◌∙◌, ⊎_elim, arith}
use Rattle.std.specs.Prelude.{slice_index, slice_set, count_ones}
use Rattle.std.proofs.lemmas.List.{get_or-set_other}
use Rattle.std.proofs.lemmas.Grind.{get_or-set_at}
use Rattle.std.proofs.lemmas.Bool.{cases_lt}
use Rattle.columnar_bits.specs.Bits.{bit}
use Rattle.columnar_sums.specs.Counting.{ones_below}
use Rattle.columnar_sums.specs.CountLaws.{halves_start, ones_below_le}

-- at most 64 bits of a word are set
pub ones_of_word : (w : ℕ) → w < 2 ^ 64 → count_ones w ≤ 64
ones_of_word w h = let e = halves_start w h in let l = ones_below_le (bit w) (2 ^ 6) in omega arith

-- from the nearest count, the numbers of set bits of the eight words of a half chunk: all, and those before word
-- `block`
pub half_counted : (f : ℕ → Bool) (block all below counted i : ℕ) → i ≡ 8 → counted ≡ ones_below f (1024 * ((block / 8 + 1) / 2)) → ones_below f (64 * (block - block % 8 + i)) ≡ ones_below f (64 * (block - block % 8)) + all → ones_below f (64 * (block - block % 8 + block % 8)) ≡ ones_below f (64 * (block - block % 8)) + below → (all * (block / 8 % 2) ≤ counted) × (counted - all * (block / 8 % 2) + below ≡ ones_below f (64 * block))
half_counted f block all below counted i n c a b =
    let p : block - block % 8 + block % 8 ≡ block = omega arith in
    let d = ap (λ (x : ℕ). ones_below f (64 * x)) p in
    go d (block / 8 % 2) refl
  where
    go : ones_below f (64 * (block - block % 8 + block % 8)) ≡ ones_below f (64 * block) → (side : ℕ) → block / 8 % 2 ≡ side → (all * side ≤ counted) × (counted - all * side + below ≡ ones_below f (64 * block))
    go d zero e =
        let q : 1024 * ((block / 8 + 1) / 2) ≡ 64 * (block - block % 8) = omega arith in
        let r = c ∙ ap (ones_below f) q in
        (omega arith, omega arith)
    go d (suc zero) e =
        let q : 1024 * ((block / 8 + 1) / 2) ≡ 64 * (block - block % 8 + i) = omega arith in
        let r = c ∙ ap (ones_below f) q in
        (omega arith, omega arith)
    go d (suc (suc n)) e = absurd (omega arith)

-- one more word, with the number of set bits before it
pub before_more : (f : ℕ → Bool) (first i all : ℕ) (before : List ℕ) → ((j : ℕ) → j < i → ones_below f (64 * (first + j)) ≡ ones_below f (64 * first) + slice_index before j) → i < length before → ones_below f (64 * (first + i)) ≡ ones_below f (64 * first) + all → (j : ℕ) → j < i + 1 → ones_below f (64 * (first + j)) ≡ ones_below f (64 * first) + slice_index (slice_set before i all) j
before_more f first i all before h l a j k =
    ⊎_elim
    (λ (m : j < i). h j m ∙ ap (λ (x : ℕ). ones_below f (64 * first) + x) (sym (get_or-set_other before i j all 0 (λ (e : j ≡ i). omega (arith, e, m)))))
    (λ (m : i ≤ j). let e : j ≡ i = omega arith in ap (λ (x : ℕ). ones_below f (64 * (first + x))) e ∙ a ∙ ap (λ (x : ℕ). ones_below f (64 * first) + x) (sym (get_or-set_at before i j all 0 e l)))
    (cases_lt j i)
