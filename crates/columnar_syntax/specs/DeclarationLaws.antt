-- Tokens at a position of a source, and declarations among them.
use Rattle.std.proofs.Common.{◌≡◌, ℕ, suc, ◌+◌, ◌-◌, ◌<◌, true, false, List, [], ◌∷◌, length, drop, refl, sym, ◌∙◌, ap, arith}
use Rattle.std.specs.Prelude.{◌&&◌, get_or}
use Rattle.std.proofs.lemmas.List.{drop_more}
use Rattle.std.proofs.Math.Seq.{drop-length}
use Rattle.columnar_syntax.specs.Declarations.{declared_in, follows, is_declarer}
use Rattle.columnar_syntax.specs.Reading.{begins_blank, between, word_length}
use Rattle.columnar_syntax.specs.ReadingLaws.{mark_stands}
use Rattle.columnar_syntax.specs.Tokens.{is_word_byte, tokens}

-- ---- tokens

byte_between : (text : List ℕ) (i b d : ℕ) → i < length text → b ≡ get_or text i d → between (i, i + 1) text ≡ b ∷ []
byte_between text i b d l g =
    let one : (i + 1) - i ≡ suc 0 = omega arith in
    rw (drop_more text i d l, one, sym g) refl

-- a byte that is no blank and of no word is a token
pub mark_between : (text : List ℕ) (at i b d : ℕ) → tokens (drop at text) ≡ tokens (drop i text) → begins_blank (drop i text) ≡ false → i < length text → b ≡ get_or text i d → is_word_byte b ≡ false → tokens (drop at text) ≡ between (i, i + 1) text ∷ tokens (drop (i + 1) text)
mark_between text at i b d e h l g w = mark_stands text at i b d e h l g w ∙ ap (λ z. z ∷ tokens (drop (i + 1) text)) (sym (byte_between text i b d l g))

-- a word has a first byte
pub word_longer : (text : List ℕ) (i b d e : ℕ) → i < length text → b ≡ get_or text i d → is_word_byte b ≡ true → e ≡ i + word_length (drop i text) → i < e
word_longer text i b d e l g h n =
    let k : is_word_byte (get_or text i d) ≡ true = rw (sym g) h in
    let m : word_length (drop i text) ≡ suc (word_length (drop (i + 1) text)) = rw (drop_more text i d l) (rw k refl) in
    omega (arith, n, m)

-- no token follows the end
pub none_at_end : (text : List ℕ) → tokens (drop (length text) text) ≡ []
none_at_end text = rw (drop-length text) refl

-- ---- declarations

-- the first declaration is here
pub declared_here : (name w : List ℕ) (here later : List (List ℕ)) → here ≡ w ∷ later → (is_declarer w && follows name later) ≡ true → declared_in name here ≡ here
declared_here name w here later e h = rw (e, h) refl

-- or among the later tokens
pub declared_later : (name w : List ℕ) (here later : List (List ℕ)) → here ≡ w ∷ later → (is_declarer w && follows name later) ≡ false → declared_in name here ≡ declared_in name later
declared_later name w here later e h = rw (e, h) refl
