use Rattle.std.proofs.Common.{◌≡◌, ℕ, ◌*◌, ◌%◌, ◌^◌, ◌<◌, List, [], ◌∷◌, length, take, ◌∙◌, ap, arith, append-nil}
use Rattle.std.proofs.lemmas.List.{take_all}
use Rattle.columnar_core.specs.Row.{number}
use Rattle.columnar_core.specs.Elements.{word_row}
use Rattle.columnar_core.specs.Bytes.{word, word_bytes, le_bytes, AreBytes}
use Rattle.columnar_core.specs.WordLaws.{word-front}
use Rattle.columnar_core.specs.ByteLaws.{bytes-word}

-- the number of a single word
pub count-word : (n : ℕ) → n < 2 ^ 64 → word (le_bytes (n ∷ [])) 0 ≡ n
unfolding word_bytes
count-word n l = word-front n [] l

-- the row of a 64-bit number
pub word_number : (n : ℕ) → n < 2 ^ 64 → word_row n ≡ number n
word_number n l = let e : n % 2 ^ 64 ≡ n = omega arith in ap number e

pub number-same : (m n : ℕ) → number m ≡ number n → m ≡ n
number-same m n h = cc

-- eight bytes are those of their word
pub count-back : (bs : List ℕ) (n : ℕ) → length bs ≡ 8 → AreBytes bs → n ≡ word bs 0 → le_bytes (n ∷ []) ≡ bs
unfolding word_bytes
count-back bs n l h e =
    let z : 8 * 0 ≡ 0 = omega arith in
    let w : word_bytes (word bs 0) ≡ take 8 bs = bytes-word bs 0 h (omega arith) in
    let a : take 8 bs ≡ bs = take_all 8 bs (omega arith) in
    rw e (append-nil (word_bytes (word bs 0)) ∙ w ∙ a)
