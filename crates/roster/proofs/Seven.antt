-- The words of the column of the one number 7, and its message.
use Rattle.std.proofs.Common.{ℕ, List, [], ◌∷◌, ◌++◌, ◌≡◌, ◌%◌, ◌/◌, ◌+◌, get_or, length, map, take, refl, sym, ap, subst, ◌∙◌, arith, codes}
use Rattle.std.specs.Fmt.{digits}
use Rattle.std.specs.List.{range_with_len}
use Rattle.std.proofs.lemmas.List.{take_all}
use Rattle.std.specs.Int.{from_le_bytes, w64}
use Rattle.columnar.specs.Row.{Row, number, number_of}
use Rattle.columnar.specs.Format.{Content, IsSound, slice, slices_of}
use Rattle.columnar.specs.Elements.{words_format, word_row_of, pieces}
use Rattle.columnar.specs.ElementLaws.{elements_form, whole_slice, length-elements}
use Rattle.columnar.specs.Bytes.{word}
use Rattle.columnar.specs.Words.{words}
use Rattle.roster.specs.Told.{words_line, rows_line, seven_lines}

-- the lines, spelled out
pub seven_spelled : words_line (16 ∷ 24 ∷ 7 ∷ []) ++ rows_line 1 ≡ seven_lines
unfolding digits
seven_spelled = refl

slice_of_seven : (bs : List ℕ) → length bs ≡ 8 → words_format.rows (slice bs) ≡ number 7 ∷ [] → words (bs ∷ []) ≡ 16 ∷ 24 ∷ 7 ∷ []
unfolding word
slice_of_seven bs eight rows =
    let one : length bs / 8 ≡ 1 = omega (arith, eight) in
    let told : map word_row_of (pieces 8 1 bs) ≡ number 7 ∷ [] = subst (λ k. map word_row_of (pieces 8 k bs) ≡ number 7 ∷ []) one rows in
    let front : from_le_bytes w64 (take 8 bs) ≡ 7 = ap (λ rs. number_of (get_or rs 0 (number 0))) told in
    let value : from_le_bytes w64 bs ≡ 7 = ap (from_le_bytes w64) (sym (take_all 8 bs (omega (arith, eight)))) ∙ front in
    ap (λ k. 16 ∷ (16 + k) ∷ (map (word bs) (range_with_len 0 ((k + 7) / 8)) ++ [])) eight ∙ ap (λ n. 16 ∷ 24 ∷ n ∷ []) value

pub words_of_seven : (c : Content) → IsSound words_format c → words_format.rows c ≡ number 7 ∷ [] → words (slices_of c) ≡ 16 ∷ 24 ∷ 7 ∷ []
words_of_seven c sound rows =
    let (bs, is) = elements_form 8 c sound.accepted in
    let whole = whole_slice 8 word_row_of bs (subst (λ x. IsSound words_format x) is sound) in
    let counted = length-elements 8 word_row_of bs in
    let told = subst (λ x. words_format.rows x ≡ number 7 ∷ []) is rows in
    let one : length bs / 8 ≡ 1 = sym counted ∙ ap length told in
    rw is (slice_of_seven bs (omega (arith, whole, one)) told)

-- the words of a column that has only the row 7, appended to none
pub encoded_seven : (held ws : List ℕ) (c d : Content) → IsSound words_format c → words_format.rows c ≡ number 7 ∷ [] → d ≡ c → held ≡ []
    → ws ≡ held ++ words (slices_of d) → ws ≡ 16 ∷ 24 ∷ 7 ∷ []
encoded_seven held ws c d sound rows same none wrote =
    wrote ∙ ap (λ h. h ++ words (slices_of d)) none ∙ ap (λ x. words (slices_of x)) same ∙ words_of_seven c sound rows

-- both lines
pub told_of_seven : (words : List ℕ) (rows : List Row) (count : ℕ) (text : List ℕ) → words ≡ 16 ∷ 24 ∷ 7 ∷ [] → rows ≡ number 7 ∷ [] → count ≡ length rows
    → text ≡ words_line words ++ rows_line count → text ≡ seven_lines
told_of_seven words rows count text these row counted told =
    told ∙ ap (λ ws. words_line ws ++ rows_line count) these ∙ ap (λ n. words_line (16 ∷ 24 ∷ 7 ∷ []) ++ rows_line n) (counted ∙ ap length row) ∙ seven_spelled
