use Rattle.std.proofs.Common.{◌≡◌, ℕ, zero, suc, ◌*◌, ◌^◌, ◌<◌, List, length, refl, sym, ◌∙◌, arith}
use Rattle.std.specs.Prelude.{nat_eq}
use Rattle.std.proofs.lemmas.Bool.{ne_eqb}
use Rattle.std.specs.Int.{to_le_bytes, w64}
use Rattle.columnar_base.specs.Elements.{elements}
use Rattle.columnar_base.specs.ElementLaws.{length-flat}
use Rattle.columnar_primitive.specs.Counts.{is_word, number_in, word_of}

-- eight bytes each
eight_times : (n : ℕ) → nat_eq n 1 ≡ nat_eq (8 * n) 8
eight_times zero = refl
eight_times (suc zero) = refl
eight_times (suc (suc n)) = ne_eqb (suc (suc n)) 1 (λ h. omega arith) ∙ sym (ne_eqb (8 * suc (suc n)) 8 (λ h. omega arith))

-- a slice of one number is one word
pub typed_is_word : (xs : List ℕ) → nat_eq (length xs) 1 ≡ is_word (elements (to_le_bytes w64) xs)
typed_is_word xs = rw (length-flat 8 (to_le_bytes w64) (λ n. refl) xs) (eight_times (length xs))

-- a number is read back from its word
pub word_back : (n : ℕ) → n < 2 ^ 64 → number_in (word_of n) ≡ n
word_back n l = omega arith
