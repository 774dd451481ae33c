-- A type has at most four slices for each of its tokens.
use Rattle.std.proofs.Common.{◌≡◌, ◌+◌, ◌*◌, ◌^◌, ◌≤◌, ℕ, Bool, List, [], ◌∷◌, ◌++◌, true, false, length, refl, sym, ap, arith}
use Rattle.std.specs.Prelude.{◌&&◌, codes, cond}
use Rattle.std.proofs.lemmas.List.{length-append}
use Rattle.columnar_sums.specs.RankColumns.{ranks_format}
use Rattle.columnar_sums.specs.Results.{beside_format}
use Rattle.columnar_schema.specs.BankLaws.{sum_count}
use Rattle.columnar_schema.specs.CountLaws.{tuple_count, beside_count}
use Rattle.columnar_schema.specs.Formats.{bounds_format, format_of, leaf_format}
use Rattle.columnar_syntax.specs.Gathered.{IsGathered, IsValue, of_field, of_fields, of_one, of_several}
use Rattle.columnar_syntax.specs.Names.{Names, Part, a_type, last_comma, structure, nothing, places, object, labelled, last_field, more_fields, leaf, last, boxed, optional, listed, numbered, fallible, solo, tuple, more, array, repeated, recalled, inside, leaf_name, with_comma, sum, last_case, more_cases, named, valued, bare_value, named_value, declared}
use Rattle.columnar_syntax.specs.Plain.{ends_well, plain, type_tokens}
use Rattle.columnar_syntax.specs.PlainLaws.{plain_length}
use Rattle.columnar_syntax.specs.SourceLaws.{never_declared}
use Rattle.columnar_syntax.specs.Tokens.{begins_word, is_blank, is_word_byte, lengthened, marks, tokens}
use Rattle.columnar_schema.specs.TypeLaws.{optional_two, fallible_two, lists_of_two}
use Rattle.columnar_syntax.specs.declared.schema.Bounds.{Bounds}
use Rattle.columnar_syntax.specs.declared.schema.Bounds.TheVariants.{Words, Strides, Unaries}
use Rattle.columnar_syntax.specs.declared.schema.Brackets.{Brackets}
use Rattle.columnar_syntax.specs.declared.schema.Brackets.TheVariants.{Square, Curly, Bare}
use Rattle.columnar_syntax.specs.declared.schema.Leaf.{Leaf}
use Rattle.columnar_syntax.specs.declared.schema.Leaf.TheVariants.{U8, U16, U32, U64, U128, Usize, I8, I16, I32, I64, I128, Isize, F32, F64, Bool as BoolLeaf, Char, Unit, Duration, Text}
use Rattle.columnar_syntax.specs.declared.schema.Schema.{Schema, Simple, Optional', Fallible', Lists', Solo', Tuple', Beside', Field', Array', Repeated', Recalled', Sum', Named, Case'}

bounds_few : (b : Bounds) → (bounds_format b).count ≤ 3
bounds_few Words = omega arith
bounds_few Strides = omega arith
bounds_few Unaries = omega arith

leaf_few : (l : Leaf) → (leaf_format l).count ≤ 4 * length (tokens (leaf_name l))
leaf_few U8 = omega arith
leaf_few U16 = omega arith
leaf_few U32 = omega arith
leaf_few U64 = omega arith
leaf_few U128 = omega arith
leaf_few Usize = omega arith
leaf_few I8 = omega arith
leaf_few I16 = omega arith
leaf_few I32 = omega arith
leaf_few I64 = omega arith
leaf_few I128 = omega arith
leaf_few Isize = omega arith
leaf_few F32 = omega arith
leaf_few F64 = omega arith
leaf_few BoolLeaf = omega arith
leaf_few Char = omega arith
leaf_few Duration = omega arith
leaf_few (Text Words) = omega arith
leaf_few (Text Strides) = omega arith
leaf_few (Text Unaries) = omega arith
leaf_few Unit = omega arith

gathered_few : {k l : Brackets} {a s : Schema} → IsGathered k l a s → (format_of s).count ≤ (format_of a).count
gathered_few (of_one h) = omega arith
gathered_few {k} {l} (of_several {a} {r} {p} {q}) = omega (arith, tuple_count (Tuple' l p a q r) refl, beside_count (Beside' p a q r) refl)

value_few : {k : Brackets} {a s : Schema} → IsValue k a s → (format_of s).count ≤ (format_of a).count
value_few (of_field h) = omega arith
value_few {k} (of_fields {a} {r} {p} {q}) = omega (arith, tuple_count (Tuple' k p a q r) refl, beside_count (Beside' p a q r) refl)

few_slices : {lists : Bounds} {part : Part} {t : List (List ℕ)} {s : Schema} → Names lists part t s → (format_of s).count ≤ 4 * length t
few_slices (leaf l) = leaf_few l
few_slices (boxed {t} n) = omega (arith, few_slices n, length-append t (marks (codes ">")))
few_slices (optional {t} {s} {p} n) =
    let two = (optional_two (Optional' p s) refl).count in
    let three : ranks_format.count ≡ 3 = refl in
    omega (arith, few_slices n, length-append t (marks (codes ">")), two, three)
few_slices {lists} (listed {t} {s} {p} n) =
    let two = (lists_of_two (Lists' lists p s) refl).count in
    omega (arith, few_slices n, length-append t (marks (codes ">")), two, bounds_few lists)
few_slices (numbered {t} {s} {p} n) =
    let two = (lists_of_two (Lists' Words p s) refl).count in
    omega (arith, few_slices n, length-append t (marks (codes ">")), two, bounds_few Words)
few_slices (fallible {t} {u} {s} {e} {p} {q} n m) =
    let two = (fallible_two (Fallible' p s q e) refl).count in
    let three : ranks_format.count ≡ 3 = refl in
    let both : (beside_format (format_of s) (format_of e)).count ≡ (format_of s).count + (format_of e).count = refl in
    omega (arith, few_slices n, few_slices m, length-append (with_comma t u) (marks (codes ">")), length-append t (marks (codes ",") ++ u), two, three, both)
few_slices (solo {t} n) = omega (arith, few_slices n, length-append t (marks (codes ",)")))
few_slices (tuple {t} {u} {s} {r} {p} {q} n m) = omega (arith, few_slices n, few_slices m, length-append (with_comma t u) (marks (codes ")")), length-append t (marks (codes ",") ++ u), tuple_count (Tuple' Square p s q r) refl)
few_slices (last n) = few_slices n
few_slices (more {t} {u} {s} {r} {p} {q} n m) = omega (arith, few_slices n, few_slices m, length-append t (marks (codes ",") ++ u), beside_count (Beside' p s q r) refl)
few_slices (last_field n) = few_slices n
few_slices (more_fields {t} {u} {s} {r} {p} {q} n m d) = omega (arith, few_slices n, few_slices m, length-append t (marks (codes ",") ++ u), beside_count (Beside' p s q r) refl)
few_slices (array {t} d w n) = omega (arith, few_slices n, length-append t (marks (codes ";") ++ (d ∷ marks (codes "]"))))
few_slices (repeated {t} {s} {p} n) =
    let count : (format_of (Repeated' p s)).count ≡ 3 + (format_of s).count = refl in
    omega (arith, few_slices n, length-append t (marks (codes ">")), count)
few_slices (recalled {t} {s} {p} w l n) =
    let count : (format_of (Recalled' p s)).count ≡ 3 + ((format_of s).count + 1) = refl in
    omega (arith, few_slices n, length-append (t ++ w) (marks (codes ">")), length-append t w, count)
few_slices (last_case n) = few_slices n
few_slices (more_cases {t} {u} {s} {r} {p} {q} n m d) = omega (arith, few_slices n, few_slices m, length-append t (marks (codes ",") ++ u), beside_count (Beside' p s q r) refl)
few_slices (structure n {t} h k) = omega (arith, few_slices k)
few_slices nothing = omega arith
few_slices (places {t} n g) = omega (arith, few_slices n, gathered_few g, length-append t (marks (codes ");")))
few_slices (object {t} c n g) = omega (arith, few_slices n, gathered_few g, length-append t (last_comma c ++ marks (codes "}")))
few_slices (labelled {t} {s} {v} h k) = omega (arith, few_slices k)
few_slices (sum n {t} {s} {p} c h k) = omega (arith, few_slices k, length-append t (last_comma c ++ marks (codes "}")), sum_count (Sum' p s) refl)
few_slices (named {v} h) = omega arith
few_slices (valued {t} {s} {v} h k) = omega (arith, few_slices k)
few_slices (bare_value {t} n g) = omega (arith, few_slices n, value_few g, length-append t (marks (codes ")")))
few_slices (declared after h u d n) = absurd (never_declared after d n)
few_slices (named_value {t} c n g) = omega (arith, few_slices n, value_few g, length-append t (last_comma c ++ marks (codes "}")))

chosen_few : (b c : Bool) (n : ℕ) (us : List (List ℕ)) (k : ℕ) → length us ≤ k → length (cond b us (cond c (lengthened n us) ((n ∷ []) ∷ us))) ≤ k + 1
chosen_few true c n us k h = omega (arith, h)
chosen_few false true n [] k h = omega arith
chosen_few false true n (w ∷ ws) k h = omega (arith, h)
chosen_few false false n us k h = omega (arith, h)

few_tokens : (text : List ℕ) → length (tokens text) ≤ length text
few_tokens [] = omega arith
few_tokens (n ∷ ns) =
    let few = chosen_few (is_blank n) (is_word_byte n && begins_word ns) n (tokens ns) (length ns) (few_tokens ns) in
    omega (arith, few)

few_type_tokens : (text : List ℕ) (b : Bool) → length (cond b (tokens (plain text)) []) ≤ length text
few_type_tokens text true = omega (arith, few_tokens (plain text), plain_length text)
few_type_tokens text false = omega arith

-- a type with too many slices has a longer text
pub text_longer : {lists : Bounds} (text : List ℕ) (s : Schema) → Names lists a_type (type_tokens text) s → length text ≤ 2 ^ 58 → (format_of s).count ≤ 2 ^ 60
text_longer text s n l = omega (arith, few_slices n, few_type_tokens text (ends_well text), l)
