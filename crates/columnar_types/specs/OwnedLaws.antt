-- Rows that have a value of a type.
use Rattle.std.proofs.Common.{◌≡◌, ℕ, zero, suc, ◌+◌, Bool, true, false, not, ◌||◌, List, [], ◌∷◌, ◌++◌, length, take, map, refl, sym, ap, ◌∙◌, arith}
use Rattle.std.specs.Prelude.{slice_get, Some, nat_eq, Result}
use Rattle.std.proofs.lemmas.Bool.{eq-eqb, eqb-true}
use Rattle.std.proofs.lemmas.List.{length-map}
use Rattle.std.specs.Str.{IsUtf8, is_utf8}
use Rattle.std.proofs.lemmas.Str.{is_utf8-from_IsUtf8, IsUtf8-from_is_utf8}
use Rattle.std.proofs.lemmas.List.{map-append}
use Rattle.std.proofs.lemmas.List.Elements.{All-push}
use Rattle.std.proofs.Math.Seq.{take-length}
use Rattle.columnar_base.specs.Row.{Row, list, items_of}
use Rattle.columnar_base.specs.RowLaws.{items_of-list}
use Rattle.columnar_base.specs.ChangeLaws.{take-suc_get}
use Rattle.columnar_base.specs.Texts.{text_row}
use Rattle.columnar_core.specs.Bytes.{AreBytes}
use Rattle.columnar_strings.specs.StringLaws.{bytes_back}
use Rattle.columnar_base.specs.declared.fault.OwnError.{OwnError}
use Rattle.columnar_base.specs.declared.fault.OwnError.TheVariants.{Memory, Utf8, WrongLength}
use Rattle.columnar_types.specs.Owned.{any, Unfit, no_text, other_length, IsFit, IsWhy, AreOwned, IsAnswered, text_at_once, array_at_once, text_unfit, list_unfit, array_unfit}

not_true : (b : Bool) → (b ≡ true → ⊥) → not b ≡ true
not_true true h = absurd (h refl)
not_true false h = refl

text_fit_by : (bs : List ℕ) → AreBytes bs → IsUtf8 bs → (u : Unfit) → text_unfit u (text_row bs) ≡ false
text_fit_by bs a h no_text = rw (bytes_back bs a) (ap not (is_utf8-from_IsUtf8 bs h))
text_fit_by bs a h other_length = refl

pub text_fit : (bs : List ℕ) → AreBytes bs → IsUtf8 bs → IsFit text_unfit (text_row bs)
text_fit bs a h = record { fit = text_fit_by bs a h }

pub no_text_why : (bs : List ℕ) → AreBytes bs → (IsUtf8 bs → ⊥) → text_unfit no_text (text_row bs) ≡ true
no_text_why bs a h = rw (bytes_back bs a) (not_true (is_utf8 bs) (λ e. h (IsUtf8-from_is_utf8 bs e)))

-- a text that is UTF-8 has no error before allocations
pub text_answered : {A : Type 0} (bs : List ℕ) → AreBytes bs → IsUtf8 bs → (answer : Result A OwnError) → IsAnswered (text_at_once (text_row bs)) answer
text_answered bs a h answer = rw (bytes_back bs a, is_utf8-from_IsUtf8 bs h) tt

or_right : (b c : Bool) → c ≡ true → b || c ≡ true
or_right true c h = refl
or_right false c h = h

or_left : (b c : Bool) → b ≡ true → b || c ≡ true
or_left b c h = rw h refl

or_parts : (b c : Bool) → b || c ≡ false → (b ≡ false) × (c ≡ false)
or_parts true c h = cc
or_parts false c h = (refl, h)

or_from : (b c : Bool) → b ≡ false → c ≡ false → b || c ≡ false
or_from b c h k = rw (h, k) refl

any-append : (p : Row → Bool) (rs : List Row) (r : Row) → any p rs ≡ false → p r ≡ false → any p (rs ++ r ∷ []) ≡ false
any-append p [] r h k = or_from (p r) false k refl
any-append p (s ∷ rs) r h k =
    let q = or_parts (p s) (any p rs) h in
    or_from (p s) (any p (rs ++ r ∷ [])) q.0 (any-append p rs r q.1 k)

-- an unfit item makes the list unfit
any_at : (p : Row → Bool) (rs : List Row) (i : ℕ) (r : Row) → slice_get rs i ≡ Some r → p r ≡ true → any p rs ≡ true
any_at p [] i r h k = cc
any_at p (s ∷ rs) zero r h k = let e : s ≡ r = cc in rw (e, k) refl
any_at p (s ∷ rs) (suc i) r h k = or_right (p s) (any p rs) (any_at p rs i r h k)

pub owned_none : {T : Type 0} {meaning : T → Row} {holds : T → Type 0} {unfit : Unfit → Row → Bool} → AreOwned meaning holds unfit [] []
owned_none = record { rows = refl; valid = λ i x l. absurd (omega arith); fit = λ u. refl }

pub owned_more : {T : Type 0} {meaning : T → Row} {holds : T → Type 0} {unfit : Unfit → Row → Bool} {xs : List T} (rs : List Row) (i : ℕ) (x : T) (r : Row) → AreOwned meaning holds unfit xs (take i rs) → slice_get rs i ≡ Some r → meaning x ≡ r → holds x → IsFit unfit r → AreOwned meaning holds unfit (xs ++ x ∷ []) (take (i + 1) rs)
owned_more {T} {meaning} {holds} {unfit} {xs} rs i x r o h m v f =
    let n : suc i ≡ i + 1 = omega arith in
    let t : take (i + 1) rs ≡ take i rs ++ r ∷ [] = rw n at (take-suc_get i rs r h) in
    record {
      rows = rw t (map-append meaning xs (x ∷ []) ∙ (rw (o.rows, m) refl));
      valid = All-push holds xs x o.valid v;
      fit = λ u. rw t (any-append (unfit u) (take i rs) r (o.fit u) (f.fit u));
    }

pub owned_value : {T : Type 0} {meaning : T → Row} {holds : T → Type 0} {unfit : Unfit → Row → Bool} {xs : List T} (rs : List Row) (n : ℕ) → n ≡ length rs → AreOwned meaning holds unfit xs (take n rs) → list (map meaning xs) ≡ list rs
owned_value rs n e o = ap list (o.rows ∙ (rw (e, take-length rs) refl))

pub owned_fit : {T : Type 0} {meaning : T → Row} {holds : T → Type 0} {unfit : Unfit → Row → Bool} {xs : List T} (rs : List Row) (n : ℕ) → n ≡ length rs → AreOwned meaning holds unfit xs (take n rs) → IsFit (list_unfit unfit) (list rs)
owned_fit {T} {meaning} {holds} {unfit} {xs} rs n e o = record { fit = λ u. rw (items_of-list rs) (rw (e, take-length rs) at (o.fit u)) }

pub list_why : (unfit : Unfit → Row → Bool) (error : OwnError) (rs : List Row) (i : ℕ) (r : Row) → slice_get rs i ≡ Some r → IsWhy error unfit r → IsWhy error (list_unfit unfit) (list rs)
list_why unfit Memory rs i r h w = w
list_why unfit Utf8 rs i r h w = rw (items_of-list rs) (any_at (unfit no_text) rs i r h w)
list_why unfit WrongLength rs i r h w = rw (items_of-list rs) (any_at (unfit other_length) rs i r h w)

array_fit_by : (n : ℕ) (unfit : Unfit → Row → Bool) (rs : List Row) → length rs ≡ n → ((u : Unfit) → any (unfit u) rs ≡ false) → (u : Unfit) → array_unfit n unfit u (list rs) ≡ false
array_fit_by n unfit rs e f no_text = rw (items_of-list rs) (f no_text)
array_fit_by n unfit rs e f other_length = rw (items_of-list rs) (or_from (not (nat_eq (length rs) n)) (any (unfit other_length) rs) (ap not (eq-eqb (length rs) n e)) (f other_length))

pub array_fit : (n : ℕ) (unfit : Unfit → Row → Bool) (rs : List Row) → length rs ≡ n → IsFit (list_unfit unfit) (list rs) → IsFit (array_unfit n unfit) (list rs)
array_fit n unfit rs e f = record { fit = array_fit_by n unfit rs e (λ u. rw (items_of-list rs) at (f.fit u)) }

pub array_why : (n : ℕ) (unfit : Unfit → Row → Bool) (error : OwnError) (rs : List Row) → IsWhy error (list_unfit unfit) (list rs) → IsWhy error (array_unfit n unfit) (list rs)
array_why n unfit Memory rs w = w
array_why n unfit Utf8 rs w = w
array_why n unfit WrongLength rs w = or_right (not (nat_eq (length (items_of (list rs))) n)) (any (unfit other_length) (items_of (list rs))) w

pub array_length_why : (n : ℕ) (unfit : Unfit → Row → Bool) (rs : List Row) → (length rs ≡ n → ⊥) → array_unfit n unfit other_length (list rs) ≡ true
array_length_why n unfit rs h = rw (items_of-list rs) (or_left (not (nat_eq (length rs) n)) (any (unfit other_length) rs) (not_true (nat_eq (length rs) n) (λ e. h (eqb-true (length rs) n e))))

-- nor has a list of the array's length
pub array_answered : {A : Type 0} (n : ℕ) (rs : List Row) → length rs ≡ n → (answer : Result A OwnError) → IsAnswered (array_at_once n (list rs)) answer
array_answered n rs e answer = rw (items_of-list rs, eq-eqb (length rs) n e) tt

pub lists_level : {T : Type 0} (meaning : T → Row) (xs : List T) (rs : List Row) → list (map meaning xs) ≡ list rs → length xs ≡ length rs
lists_level meaning xs rs h =
    let e : items_of (list (map meaning xs)) ≡ items_of (list rs) = ap items_of h in
    sym (length-map xs meaning) ∙ ap length (sym (items_of-list (map meaning xs)) ∙ (e ∙ items_of-list rs))
