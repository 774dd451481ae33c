-- The rows of strings: a piece of the bytes is the list of these bytes. What a value displays.
use Rattle.std.proofs.Common.{◌≡◌, ℕ, zero, suc, Bool, true, false, ◌<◌, ◌-◌, ◌≤◌, ◌%◌, List, [], ◌∷◌, ◌++◌, length, take, drop, map, refl, ◌∙◌, ap, arith}
use Rattle.std.specs.Prelude.{slice_get, Option, Some, None, IfSome, cond}
use Rattle.std.specs.Fmt.{WritesText, debug_escape, debug_str}
use Rattle.std.specs.Char.{is_ascii}
use Rattle.std.specs.List.{flat_map, list_all}
use Rattle.std.specs.Str.{IsAscii, IsUtf8}
use Rattle.std.proofs.lemmas.Str.{IsUtf8-from_ascii}
use Rattle.std.proofs.lemmas.Bool.{and_parts, ltb-true}
use Rattle.std.proofs.lemmas.Fmt.{contents_after_writes}
use Rattle.std.specs.Int.{to_le_bytes, w8}
use Rattle.std.proofs.lemmas.List.{take-map, drop-map}
use Rattle.columnar_base.specs.Row.{list, number, number_of}
use Rattle.columnar_base.specs.RowLaws.{items_of-list}
use Rattle.columnar_base.specs.Format.{Format, Content, both, IsSound}
use Rattle.columnar_base.specs.Elements.{elements, bytes_format}
use Rattle.columnar_base.specs.ElementLaws.{rows_typed, length-typed}
use Rattle.columnar_base.specs.Numbers.{unsigned_row}
use Rattle.columnar_base.specs.NumberLaws.{unsigned_element}
use Rattle.columnar_base.specs.Texts.{text_bytes, text_row}
use Rattle.columnar_core.specs.Bounds.{numbers}
use Rattle.columnar_core.specs.Bytes.{AreBytes}
use Rattle.columnar_core.specs.BoundLaws.{number_get}
use Rattle.columnar_lists.specs.CutLaws.{cut_get, rises_get}
use Rattle.columnar_lists.specs.ListLaws.{lists_parts}
use Rattle.columnar_strings.specs.Strings.{Shows, strings_format}

-- a piece of the rows of bytes is a piece of the bytes
piece_rows : (xs : List ℕ) (l n : ℕ) → take n (drop l (bytes_format.rows (elements (to_le_bytes w8) xs))) ≡ map (unsigned_row w8) (take n (drop l xs))
piece_rows xs l n =
    let e : bytes_format.rows (elements (to_le_bytes w8) xs) ≡ map (unsigned_row w8) xs = rows_typed (unsigned_element w8) xs in
    ap (λ t. take n (drop l t)) e ∙ (ap (take n) (drop-map (unsigned_row w8) l xs) ∙ take-map (unsigned_row w8) n (drop l xs))

-- string i has the bytes from the bound before it to its own bound
pub string_read : (b : Format) (x : Content) (xs : List ℕ) (i : ℕ) {l u : ℕ} → slice_get (0 ∷ numbers (b.rows x)) i ≡ Some l → slice_get (b.rows x) i ≡ Some (number u) → slice_get ((strings_format b).rows (both x (elements (to_le_bytes w8) xs))) i ≡ Some (text_row (take (u - l) (drop l xs)))
string_read b x xs i {l} {u} p h =
    cut_get i 0 (numbers (b.rows x)) (bytes_format.rows (elements (to_le_bytes w8) xs)) l u p (number_get (b.rows x) i u h)
    ∙ ap (λ t. Some (list t)) (piece_rows xs l (u - l))

-- these bounds lie within the bytes
pub string_within : (b : Format) {x : Content} (xs : List ℕ) (i : ℕ) {l u : ℕ} → IsSound (strings_format b) (both x (elements (to_le_bytes w8) xs)) → slice_get (0 ∷ numbers (b.rows x)) i ≡ Some l → slice_get (b.rows x) i ≡ Some (number u) → (l ≤ u) × (u ≤ length xs)
string_within b {x} xs i {l} {u} s p h =
    let n : length (bytes_format.rows (elements (to_le_bytes w8) xs)) ≡ length xs = length-typed (unsigned_element w8) xs in
    rw n at (rises_get i 0 (numbers (b.rows x)) (length (bytes_format.rows (elements (to_le_bytes w8) xs))) l u (lists_parts b bytes_format s).rise p (number_get (b.rows x) i u h))

numbers_back : (bs : List ℕ) → AreBytes bs → map number_of (map (unsigned_row w8) bs) ≡ bs
numbers_back [] h = refl
numbers_back (b ∷ bs) h =
    let e : b % 256 ≡ b = omega (arith, h 0) in
    ap (λ t. b % 256 ∷ t) (numbers_back bs (λ i. h (suc i))) ∙ ap (λ t. t ∷ bs) e

-- the bytes of a text are read back from its row
pub bytes_back : (bs : List ℕ) → AreBytes bs → text_bytes (text_row bs) ≡ bs
bytes_back bs h = ap (map number_of) (items_of-list (map (unsigned_row w8) bs)) ∙ numbers_back bs h

-- the text of a writer that was empty, after a whole value was written to it
pub what_is_shown : {W : Type 0} (contents : W → List ℕ) (o : Option (List ℕ)) (w v : W) → contents w ≡ [] → WritesText (λ s bs t. contents t ≡ contents s ++ bs) w o v → Shows o (contents v)
what_is_shown contents None w v e h = tt
what_is_shown contents (Some bs) w v e h = contents_after_writes (λ s cs t. contents t ≡ contents s ++ cs) contents (λ s cs t k. k) w bs v h ∙ ap (λ t. t ++ bs) e

-- bytes that are not UTF-8 are not ASCII, so no text is named for them
one_more : (b : ℕ) (bs : List ℕ) → b < 128 → IsAscii bs → IsAscii (b ∷ bs)
one_more b bs l h zero = l
one_more b bs l h (suc i) = h i

all_ascii : (bs : List ℕ) → list_all is_ascii bs ≡ true → IsAscii bs
all_ascii [] h = λ i. omega arith
all_ascii (b ∷ bs) h =
    let p = and_parts (is_ascii b) (list_all is_ascii bs) h in
    one_more b bs (ltb-true b 128 p.0) (all_ascii bs p.1)

named_if : {A : Type 0} (b : Bool) (x : A) (P : A → Type 0) → (b ≡ true → ⊥) → IfSome (cond b (Some x) None) P
named_if true x P h = absurd (h refl)
named_if false x P h = tt

pub not_quoted : (bs : List ℕ) (P : List ℕ → Type 0) → (IsUtf8 bs → ⊥) → IfSome (debug_str bs) P
not_quoted bs P h = named_if (list_all is_ascii bs) (34 ∷ (flat_map (debug_escape 34) bs ++ 34 ∷ [])) P (λ e. h (IsUtf8-from_ascii bs (all_ascii bs e)))
