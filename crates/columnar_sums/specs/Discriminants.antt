-- Columns of variants, each with the number of earlier rows that have it.
use Rattle.std.specs.Prelude.{ℕ, Bool, true, false, List, [], ◌∷◌, ◌++◌, length, ◌+◌, ◌-◌, ◌*◌, drop, take, map, replicate, ◌&&◌, nat_eq, nat_le, nat_lt, cond, count_by, Option, Some, None}
use Rattle.std.specs.Int.{w8}
use Rattle.columnar_core.specs.Row.{Row, row_eq}
use Rattle.columnar_sums.specs.Agree.{numbers_eq}
use Rattle.columnar_core.specs.Format.{Format, Content, slice, both, part, plain, two_broken}
use Rattle.columnar_core.specs.Elements.{first_slice, past_count, word_row, words_format, bytes_format}
use Rattle.columnar_base.specs.Numbers.{unsigned_row}
use Rattle.columnar_core.specs.WordViews.{words_in, bytes_of, le_bytes}
use Rattle.columnar_base.specs.Tuples.{tuples}
use Rattle.columnar_sums.specs.declared.discriminant.Discriminant.{Discriminant}

-- how often v occurs
abbrev pub times : ℕ → List ℕ → ℕ
times v vs = count_by (nat_eq v) vs

-- for each of vs the number of equal ones before it; `before` precedes them all
abbrev pub earlier : List ℕ → List ℕ → List ℕ
earlier before [] = []
earlier before (v ∷ vs) = times v before ∷ earlier (before ++ v ∷ []) vs

-- two of them differ
abbrev pub is_mixed : List ℕ → Bool
is_mixed [] = false
is_mixed (v ∷ vs) = nat_lt (times v vs) (length vs)

-- two words describe all rows: a variant plus one, and a number of rows
abbrev pub is_common : ℕ → ℕ → Bool
is_common tag count = nat_le 1 tag && (nat_le tag 256 && nat_le 1 count)

-- One of the three forms: nothing; one variant for all rows, and their number; a variant and a number of earlier rows
-- for each row, with at least two variants.
abbrev pub has_form : List ℕ → List ℕ → Bool
has_form [] [] = true
has_form [] (tag ∷ count ∷ []) = is_common tag count
has_form [] offsets = false
has_form (v ∷ vs) offsets = is_mixed (v ∷ vs) && numbers_eq offsets (earlier [] (v ∷ vs))

-- the variant of each row
abbrev pub variants_in : List ℕ → List ℕ → List ℕ
variants_in [] (tag ∷ count ∷ []) = replicate count (tag - 1)
variants_in vs offsets = vs

abbrev pub variants_of : Content → List ℕ
variants_of (both x y) = variants_in (bytes_of x) (words_in (bytes_of y))
variants_of (slice bs) = []
variants_of (part l u x) = []
variants_of (plain rs) = []

-- the rows of the variants
abbrev pub variant_rows : List ℕ → List ℕ → List Row
variant_rows before vs = tuples (map (unsigned_row w8) vs) (map word_row (earlier before vs))

abbrev pub form_test : Content → Content → Bool
form_test x y = has_form (bytes_of x) (words_in (bytes_of y))

-- the lengths of both parts, from the variants
abbrev pub form_lengths : List ℕ → List ℕ
form_lengths [] = 0 ∷ 0 ∷ []
form_lengths (v ∷ vs) = cond (is_mixed (v ∷ vs)) (length (v ∷ vs) ∷ 8 * length (v ∷ vs) ∷ []) (0 ∷ 16 ∷ [])

-- variants, and offsets or the description of all rows
abbrev pub discriminant_format : Format
discriminant_format = record {
  count = 2;
  sizes = 1 ∷ 8 ∷ [];
  aligns = 1 ∷ 8 ∷ [];
  turns = 4;
  broken = two_broken bytes_format words_format form_test 17;
  rows = λ c. variant_rows [] (variants_of c);
  extent = λ c n. form_lengths (take n (variants_of c));
  build = λ ss. both (first_slice ss) (first_slice (drop 1 ss));
  alike = row_eq;
  kin = row_eq;
  refuses = λ e c n rs. past_count e (n + length rs);
}

-- the content of a column of variants
abbrev pub forms_content : {V O : Type 0} → (V → List ℕ) → (O → List ℕ) → Discriminant V O → Content
forms_content variants offsets d = both (slice (variants d.variant)) (slice (offsets d.offset))

-- the content of an owned column
abbrev pub owned_forms : List ℕ → List ℕ → Content
owned_forms variants offsets = both (slice variants) (slice (le_bytes offsets))

-- the variant of all rows, if there is one
abbrev pub sole : List ℕ → Option ℕ
sole [] = None
sole (v ∷ vs) = cond (is_mixed (v ∷ vs)) None (Some v)
