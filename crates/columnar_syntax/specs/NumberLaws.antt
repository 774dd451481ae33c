-- Numbers in the text of a type: the length of an array, and how far lookbacks look back.
use Rattle.std.proofs.Common.{◌≡◌, ℕ, zero, suc, ◌-◌, ◌<◌, ◌≤◌, true, false, List, [], ◌∷◌, ◌++◌, length, drop, refl, sym, ◌∙◌, ap, arith, append_assoc}
use Rattle.std.specs.Prelude.{codes}
use Rattle.std.specs.Char.{digit_value}
use Rattle.std.specs.Str.{IsAscii, IsUtf8}
use Rattle.std.specs.Str.Parse.{AllDigits, digits_value}
use Rattle.std.proofs.lemmas.List.{length-take}
use Rattle.std.proofs.lemmas.Str.Parse.{digit_from_value}
use Rattle.std.proofs.lemmas.Str.{IsUtf8-from_ascii}
use Rattle.columnar_syntax.specs.declared.schema.Schema.{Schema, Array', Recalled'}
use Rattle.columnar_syntax.specs.Names.{GoesOn, IsLimit, NamesIn, Reads, StandsLimit, StandsNumber, Writes, a_type, array, array_of, inside, limited, recalled, unlimited, Scope}
use Rattle.columnar_syntax.specs.Reading.{between, first_is}
use Rattle.columnar_syntax.specs.ReadingLaws.{no}
use Rattle.columnar_syntax.specs.Tokens.{begins_word, is_word_byte, marks, tokens}

-- ---- arrays

pub array_named : (a b : Schema) {n : _} {p : _} → b ≡ a → (scope : Scope) (t : List (List ℕ)) (d : List ℕ) → Writes d n → NamesIn scope a_type t a → NamesIn scope a_type (array_of t d) (Array' n p b)
array_named a b e scope t d w n = rw e (array d w n)

-- the type of the items, and the length, after `[`
pub array_goes_on : (scope : Scope) (text : List ℕ) (at n m k o i : ℕ) (a s : Schema) → Reads scope a_type text at a n → tokens (drop n text) ≡ (59 ∷ []) ∷ tokens (drop m text) → StandsNumber (drop m text) i (drop k text) → tokens (drop k text) ≡ (93 ∷ []) ∷ tokens (drop o text) → o ≤ length text → ((z : Scope) (t : List (List ℕ)) (d : List ℕ) → Writes d i → NamesIn z a_type t a → NamesIn z a_type (array_of t d) s) → GoesOn scope a_type (marks (codes "[")) text at s o
array_goes_on scope text at n m k o i a s p e q g h f =
    let d = q.0 in
    let rest = tokens (drop o text) in
    record {
      words = p.words ++ (marks (codes ";") ++ (d ∷ marks (codes "]")));
      names = f scope p.words d q.1.0 p.names;
      stands = p.stands ∙ (ap (λ z. p.words ++ z) (e ∙ ap (λ z. (59 ∷ []) ∷ z) (q.1.1 ∙ ap (λ z. d ∷ z) g)) ∙ sym (append_assoc p.words (marks (codes ";") ++ (d ∷ marks (codes "]"))) rest));
      within = h;
    }

some_digits : (d : List ℕ) (n : ℕ) → Writes d n → 1 ≤ length d
some_digits [] n w = absurd (omega (arith, w.0.0))
some_digits (c ∷ d) n w = omega arith

-- the word between two positions writes a number
pub number_stands : (text : List ℕ) (at m k i : ℕ) → (m < k → tokens (drop at text) ≡ between (m, k) text ∷ tokens (drop k text)) → Writes (between (m, k) text) i → StandsNumber (drop at text) i (drop k text)
number_stands text at m k i e w =
    let some = some_digits (between (m, k) text) i w in
    let most = length-take (k - m) (drop m text) in
    (between (m, k) text, (w, e (omega (arith, some, most))))

-- ---- what is read

-- a digit is a byte of words
digit_of_word : (c : ℕ) → digit_value c < 10 → is_word_byte c ≡ true
digit_of_word c h = let r = digit_from_value c h in grind (arith, r)

-- digits begin a word
pub digits_begin : (d : List ℕ) (n : ℕ) → Writes d n → begins_word d ≡ true
digits_begin [] n w = absurd (omega (arith, w.0.0))
digits_begin (c ∷ d) n w = digit_of_word c w.0.1.0

-- digits are text
digits_ascii : (d : List ℕ) → AllDigits 10 d → IsAscii d
digits_ascii [] a i = omega arith
digits_ascii (c ∷ d) a zero = let r = digit_from_value c a.0 in omega (arith, r.1)
digits_ascii (c ∷ d) a (suc i) = digits_ascii d a.1 i

pub digits_text : (d : List ℕ) → AllDigits 10 d → IsUtf8 d
digits_text d a = IsUtf8-from_ascii d (digits_ascii d a)

-- a word writes one number
pub written : (word d : List ℕ) (n m : ℕ) → word ≡ d → Writes d n → Writes word m → n ≡ m
written word d n m e w v = sym w.1 ∙ (ap (digits_value 10) (sym e) ∙ v.1)

-- ---- lookbacks

pub recalled_named : (a b : Schema) {p : _} → b ≡ a → (scope : Scope) (t w : List (List ℕ)) → IsLimit w → NamesIn scope a_type t a → NamesIn scope a_type (inside (codes "Lookbacks") (t ++ w)) (Recalled' p b)
recalled_named a b e scope t w l n = rw e (recalled w l n)

-- the type and the limit after `Lookbacks`
pub lookbacks_go_on : (scope : Scope) (text : List ℕ) (at n m k o : ℕ) (a s : Schema) → tokens (drop at text) ≡ (60 ∷ []) ∷ tokens (drop n text) → Reads scope a_type text n a m → StandsLimit (drop m text) (drop k text) → tokens (drop k text) ≡ (62 ∷ []) ∷ tokens (drop o text) → o ≤ length text → ((z : Scope) (t w : List (List ℕ)) → IsLimit w → NamesIn z a_type t a → NamesIn z a_type (inside (codes "Lookbacks") (t ++ w)) s) → GoesOn scope a_type (codes "Lookbacks" ∷ []) text at s o
lookbacks_go_on scope text at n m k o a s e p q g h f =
    let w = q.0 in
    let rest = tokens (drop o text) in
    record {
      words = marks (codes "<") ++ ((p.words ++ w) ++ marks (codes ">"));
      names = f scope p.words w q.1.0 p.names;
      stands = e ∙ ap (λ z. (60 ∷ []) ∷ z) (p.stands ∙ (ap (λ z. p.words ++ z) (q.1.1 ∙ ap (λ z. w ++ z) g) ∙ sym (append_assoc (p.words ++ w) (marks (codes ">")) rest ∙ append_assoc p.words w ((62 ∷ []) ∷ rest))));
      within = h;
    }

-- a comma and a number
pub limit_stands : (text : List ℕ) (at m k n : ℕ) → tokens (drop at text) ≡ (44 ∷ []) ∷ tokens (drop m text) → StandsNumber (drop m text) n (drop k text) → n ≤ 255 → StandsLimit (drop at text) (drop k text)
limit_stands text at m k n e q l = ((44 ∷ []) ∷ (q.0 ∷ []), (limited q.0 q.1.0 l, e ∙ ap (λ z. (44 ∷ []) ∷ z) q.1.1))

-- neither
pub no_limit : (text : List ℕ) (at : ℕ) → StandsLimit (drop at text) (drop at text)
no_limit text at = ([], (unlimited, refl))

-- without a comma `>` follows
pub limit_absent : {w : List (List ℕ)} (from rest : List (List ℕ)) → IsLimit w → from ≡ w ++ ((62 ∷ []) ∷ rest) → first_is 44 from ≡ false → from ≡ (62 ∷ []) ∷ rest
limit_absent from rest unlimited e g = e
limit_absent from rest (limited d v l) e g = no (sym g ∙ ap (first_is 44) e)

-- with a comma a number follows
pub record LimitRead (from rest : List (List ℕ)) : Type 0 where
  pub digits : List ℕ
  pub number : ℕ
  pub writes : Writes digits number
  pub small : number ≤ 255
  pub is : from ≡ digits ∷ ((62 ∷ []) ∷ rest)

pub limit_follows : {w : List (List ℕ)} (from next rest : List (List ℕ)) → IsLimit w → from ≡ w ++ ((62 ∷ []) ∷ rest) → from ≡ (44 ∷ []) ∷ next → LimitRead next rest
limit_follows from next rest unlimited e g = no (ap (first_is 44) (sym e ∙ g))
limit_follows from next rest (limited {n} d v l) e g = record { digits = d; number = n; writes = v; small = l; is = ap (drop 1) (sym g ∙ e) }
