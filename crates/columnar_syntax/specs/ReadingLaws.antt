-- Tokens at a position of a text.
use Rattle.std.proofs.Common.{◌≡◌, ◌≢◌, ℕ, zero, suc, ◌+◌, ◌-◌, ◌<◌, ◌≤◌, Bool, true, false, List, [], ◌∷◌, length, take, drop, refl, sym, ◌∙◌, ap, arith}
use Rattle.std.specs.Prelude.{◌&&◌, cond, get_or, nat_eq}
use Rattle.std.specs.List.{list_all}
use Rattle.std.proofs.lemmas.Bool.{eqb-true, eq-eqb}
use Rattle.std.proofs.lemmas.List.{drop_more, length-drop, drop-drop}
use Rattle.std.proofs.Math.Seq.{drop-length}
use Rattle.columnar_syntax.specs.Names.{is_name}
use Rattle.columnar_syntax.specs.Reading.{begins_blank, between, first_is, first_token, word_length}
use Rattle.columnar_syntax.specs.Tokens.{begins_word, is_blank, is_word_byte, lengthened, tokens}

pub no : {X : Type 0} → false ≡ true → X
no e =
    let never : ⊥ = cc in
    absurd never

-- ---- bytes

unequal : (n k : ℕ) (b : Bool) → (b ≡ true → n ≡ k) → is_word_byte n ≡ true → is_word_byte k ≡ false → b ≡ false
unequal n k true f h g = no (sym g ∙ (ap is_word_byte (sym (f refl)) ∙ h))
unequal n k false f h g = refl

-- a byte of words is no other byte
pub apart_bytes : (n k : ℕ) → is_word_byte n ≡ true → is_word_byte k ≡ false → nat_eq n k ≡ false
apart_bytes n k h g = unequal n k (nat_eq n k) (eqb-true n k) h g

word_no_blank : (n : ℕ) → is_word_byte n ≡ true → is_blank n ≡ false
word_no_blank n h = rw (apart_bytes n 32 h refl, apart_bytes n 9 h refl, apart_bytes n 10 h refl, apart_bytes n 13 h refl) refl

-- ---- the first token

lengthened_first : (k n : ℕ) (ws : List (List ℕ)) → first_is k (lengthened n ws) ≡ nat_eq n k
lengthened_first k n [] = refl
lengthened_first k n (w ∷ ws) = refl

chosen_first : (k n : ℕ) (c : Bool) (ws : List (List ℕ)) → first_is k (cond c (lengthened n ws) ((n ∷ []) ∷ ws)) ≡ nat_eq n k
chosen_first k n true ws = lengthened_first k n ws
chosen_first k n false ws = refl

-- it begins with the first byte that is no blank
head_byte : (k n : ℕ) (ns : List ℕ) → is_blank n ≡ false → first_is k (tokens (n ∷ ns)) ≡ nat_eq n k
head_byte k n ns h = rw h (chosen_first k n (is_word_byte n && begins_word ns) (tokens ns))

lengthened_word : (n : ℕ) (ws : List (List ℕ)) → begins_word (first_token (lengthened n ws)) ≡ is_word_byte n
lengthened_word n [] = refl
lengthened_word n (w ∷ ws) = refl

chosen_word : (n : ℕ) (c : Bool) (ws : List (List ℕ)) → begins_word (first_token (cond c (lengthened n ws) ((n ∷ []) ∷ ws))) ≡ is_word_byte n
chosen_word n true ws = lengthened_word n ws
chosen_word n false ws = refl

head_word : (n : ℕ) (ns : List ℕ) → is_blank n ≡ false → begins_word (first_token (tokens (n ∷ ns))) ≡ is_word_byte n
head_word n ns h = rw h (chosen_word n (is_word_byte n && begins_word ns) (tokens ns))

-- a byte that is neither a blank nor of a word is a token
mark_token : (n : ℕ) (ns : List ℕ) → is_blank n ≡ false → is_word_byte n ≡ false → tokens (n ∷ ns) ≡ (n ∷ []) ∷ tokens ns
mark_token n ns h k = rw (h, k) refl

-- ---- blanks

-- a blank is passed over
pub blank_passed : (text : List ℕ) (i b d : ℕ) → i < length text → b ≡ get_or text i d → is_blank b ≡ true → tokens (drop i text) ≡ tokens (drop (i + 1) text)
blank_passed text i b d l e h =
    let k : is_blank (get_or text i d) ≡ true = rw (sym e) h in
    rw (drop_more text i d l) (rw k refl)

-- another byte is not
pub blanks_end : (text : List ℕ) (i b d : ℕ) → i < length text → b ≡ get_or text i d → is_blank b ≡ false → begins_blank (drop i text) ≡ false
blanks_end text i b d l e h =
    let k : is_blank (get_or text i d) ≡ false = rw (sym e) h in
    rw (drop_more text i d l) k

pub blanks_end_last : (text : List ℕ) → begins_blank (drop (length text) text) ≡ false
blanks_end_last text = rw (drop-length text) refl

some_token : (n : ℕ) (ns : List ℕ) → is_blank n ≡ false → tokens (n ∷ ns) ≢ []
some_token n ns h e = no (ap (first_is n) (sym e) ∙ (head_byte n n ns h ∙ eq-eqb n n refl))

no_tokens : (x : List ℕ) → begins_blank x ≡ false → tokens x ≡ [] → length x ≡ 0
no_tokens [] h e = refl
no_tokens (n ∷ ns) h e = absurd (some_token n ns h e)

-- without a token only blanks follow
pub text_ends : (text : List ℕ) (at i : ℕ) → tokens (drop at text) ≡ tokens (drop i text) → i ≤ length text → begins_blank (drop i text) ≡ false → tokens (drop at text) ≡ [] → i ≡ length text
text_ends text at i e l h k =
    let none = no_tokens (drop i text) h (sym e ∙ k) in
    let left = length-drop i text in
    omega (arith, none, left, l)

-- ---- marks

pub mark_stands : (text : List ℕ) (at i b d : ℕ) → tokens (drop at text) ≡ tokens (drop i text) → begins_blank (drop i text) ≡ false → i < length text → b ≡ get_or text i d → is_word_byte b ≡ false → tokens (drop at text) ≡ (b ∷ []) ∷ tokens (drop (i + 1) text)
mark_stands text at i b d e h l g w =
    let s : drop i text ≡ get_or text i d ∷ drop (i + 1) text = drop_more text i d l in
    let k : is_blank (get_or text i d) ≡ false = rw s at h in
    e ∙ (ap tokens s ∙ (mark_token (get_or text i d) (drop (i + 1) text) k (rw g at w) ∙ ap (λ z. (z ∷ []) ∷ tokens (drop (i + 1) text)) (sym g)))

other_first : (k n : ℕ) (b : Bool) → (b ≡ true → n ≡ k) → n ≢ k → b ≡ false
other_first k n true f h = absurd (h (f refl))
other_first k n false f h = refl

pub other_stands : (text : List ℕ) (at i b d k : ℕ) → tokens (drop at text) ≡ tokens (drop i text) → begins_blank (drop i text) ≡ false → i < length text → b ≡ get_or text i d → b ≢ k → first_is k (tokens (drop at text)) ≡ false
other_stands text at i b d k e h l g w =
    let s : drop i text ≡ get_or text i d ∷ drop (i + 1) text = drop_more text i d l in
    let j : is_blank (get_or text i d) ≡ false = rw s at h in
    ap (first_is k) (e ∙ ap tokens s) ∙ (head_byte k (get_or text i d) (drop (i + 1) text) j ∙ other_first k (get_or text i d) (nat_eq (get_or text i d) k) (eqb-true (get_or text i d) k) (λ z. w (g ∙ z)))

pub none_stands : (text : List ℕ) (at k : ℕ) → tokens (drop at text) ≡ tokens (drop (length text) text) → first_is k (tokens (drop at text)) ≡ false
none_stands text at k e = ap (first_is k) (e ∙ ap tokens (drop-length text))

-- ---- words

-- the length of a word that continues
pub word_goes_on : (text : List ℕ) (at i b d : ℕ) → i < length text → b ≡ get_or text i d → is_word_byte b ≡ true → at + word_length (drop at text) ≡ i + word_length (drop i text) → at + word_length (drop at text) ≡ (i + 1) + word_length (drop (i + 1) text)
word_goes_on text at i b d l e h p =
    let k : is_word_byte (get_or text i d) ≡ true = rw (sym e) h in
    let m : word_length (drop i text) ≡ suc (word_length (drop (i + 1) text)) = rw (drop_more text i d l) (rw k refl) in
    omega (arith, p, m)

-- a word ends at a byte that is none of its
pub word_ends : (text : List ℕ) (at i b d : ℕ) → i < length text → b ≡ get_or text i d → is_word_byte b ≡ false → at + word_length (drop at text) ≡ i + word_length (drop i text) → i ≡ at + word_length (drop at text)
word_ends text at i b d l e h p =
    let k : is_word_byte (get_or text i d) ≡ false = rw (sym e) h in
    let m : word_length (drop i text) ≡ 0 = rw (drop_more text i d l) (rw k refl) in
    omega (arith, p, m)

-- or at the end of the text
pub word_ends_last : (text : List ℕ) (at : ℕ) → at + word_length (drop at text) ≡ length text + word_length (drop (length text) text) → length text ≡ at + word_length (drop at text)
word_ends_last text at p =
    let m : word_length (drop (length text) text) ≡ 0 = rw (drop-length text) refl in
    omega (arith, p, m)

no_word : (ns : List ℕ) → begins_word ns ≡ false → word_length ns ≡ 0
no_word [] h = refl
no_word (n ∷ ns) h = rw h refl

long_byte : (c : Bool) (k : ℕ) → 1 ≤ cond c k 0 → c ≡ true
long_byte true k h = refl
long_byte false k h = absurd (omega (arith, h))

long_word : (ns : List ℕ) → 1 ≤ word_length ns → begins_word ns ≡ true
long_word [] h = absurd (omega (arith, h))
long_word (n ∷ ns) h = long_byte (is_word_byte n) (suc (word_length ns)) h

word_long : (ns : List ℕ) → begins_word ns ≡ true → 1 ≤ word_length ns
word_long [] h = no h
word_long (n ∷ ns) h = rw h (omega arith)

-- the first token, if the text begins with a word
word_step : (n : ℕ) (ns : List ℕ) (c : Bool) → begins_word ns ≡ c → is_word_byte n ≡ true → (c ≡ true → tokens ns ≡ take (word_length ns) ns ∷ tokens (drop (word_length ns) ns)) → tokens (n ∷ ns) ≡ take (word_length (n ∷ ns)) (n ∷ ns) ∷ tokens (drop (word_length (n ∷ ns)) (n ∷ ns))
word_step n ns true e h f = rw (word_no_blank n h, h, e, f refl) refl
word_step n ns false e h f = rw (word_no_blank n h, h, e, no_word ns e) refl

word_first : (ns : List ℕ) → begins_word ns ≡ true → tokens ns ≡ take (word_length ns) ns ∷ tokens (drop (word_length ns) ns)
word_first [] h = no h
word_first (n ∷ ns) h = word_step n ns (begins_word ns) refl h (λ e. word_first ns e)

all_step : (n : ℕ) (ns : List ℕ) (c : Bool) → is_word_byte n ≡ c → list_all is_word_byte (take (word_length ns) ns) ≡ true → list_all is_word_byte (take (word_length (n ∷ ns)) (n ∷ ns)) ≡ true
all_step n ns true e h = rw e (rw h (rw e refl))
all_step n ns false e h = rw e refl

word_all : (ns : List ℕ) → list_all is_word_byte (take (word_length ns) ns) ≡ true
word_all [] = refl
word_all (n ∷ ns) = all_step n ns (is_word_byte n) refl (word_all ns)

taken_word : (k : ℕ) (ns : List ℕ) → 1 ≤ k → begins_word ns ≡ true → begins_word (take k ns) ≡ true
taken_word k [] l h = no h
taken_word zero (n ∷ ns) l h = absurd (omega (arith, l))
taken_word (suc k) (n ∷ ns) l h = h

-- ---- the word between two positions

word_of : (text : List ℕ) (i e : ℕ) → e ≡ i + word_length (drop i text) → begins_word (drop i text) ≡ true → tokens (drop i text) ≡ between (i, e) text ∷ tokens (drop e text)
word_of text i e n h =
    let k : e - i ≡ word_length (drop i text) = omega (arith, n) in
    let d : drop (word_length (drop i text)) (drop i text) ≡ drop e text = drop-drop (word_length (drop i text)) i text ∙ ap (λ z. drop z text) (sym n) in
    rw (k, sym d) (word_first (drop i text) h)

pub word_stands : (text : List ℕ) (at i e : ℕ) → tokens (drop at text) ≡ tokens (drop i text) → e ≡ i + word_length (drop i text) → i < e → tokens (drop at text) ≡ between (i, e) text ∷ tokens (drop e text)
word_stands text at i e s n l = s ∙ word_of text i e n (long_word (drop i text) (omega (arith, n, l)))

pub word_bytes : (text : List ℕ) (i e : ℕ) → e ≡ i + word_length (drop i text) → list_all is_word_byte (between (i, e) text) ≡ true
word_bytes text i e n =
    let k : e - i ≡ word_length (drop i text) = omega (arith, n) in
    rw k (word_all (drop i text))

pub word_begins : (text : List ℕ) (i e : ℕ) → e ≡ i + word_length (drop i text) → i < e → begins_word (between (i, e) text) ≡ true
word_begins text i e n l = taken_word (e - i) (drop i text) (omega (arith, l)) (long_word (drop i text) (omega (arith, n, l)))

token_begins : (x : List ℕ) (w : List ℕ) (ws : List (List ℕ)) → begins_blank x ≡ false → tokens x ≡ w ∷ ws → begins_word w ≡ true → begins_word x ≡ true
token_begins [] w ws h e b = no (ap begins_word (ap first_token e) ∙ b)
token_begins (n ∷ ns) w ws h e b = sym (head_word n ns h) ∙ (ap begins_word (ap first_token e) ∙ b)

pub word_read : (text : List ℕ) (at i e : ℕ) (w : List ℕ) (x : List (List ℕ)) → tokens (drop at text) ≡ tokens (drop i text) → begins_blank (drop i text) ≡ false → e ≡ i + word_length (drop i text) → tokens (drop at text) ≡ w ∷ x → begins_word w ≡ true → (between (i, e) text ≡ w) × (tokens (drop e text) ≡ x)
word_read text at i e w x s h n k b =
    let f = token_begins (drop i text) w x h (sym s ∙ k) b in
    let g : between (i, e) text ∷ tokens (drop e text) ≡ w ∷ x = sym (word_of text i e n f) ∙ (sym s ∙ k) in
    (ap first_token g, ap (drop 1) g)

-- a name begins with a byte of words
pub name_begins : (w : List ℕ) → is_name w ≡ true → begins_word w ≡ true
name_begins [] h = h
name_begins (n ∷ ns) h = grind (arith, h)
