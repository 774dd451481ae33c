-- The format of a type that is read at run time equals the format of that type in a program.
use Rattle.std.specs.Prelude.{ℕ, true, List, [], ◌∷◌}
use Rattle.std.specs.Int.{w8, w16, w32, w64}
use Rattle.columnar_base.specs.Format.{Format}
use Rattle.columnar_base.specs.Elements.{elements_format, words_format, bytes_format}
use Rattle.columnar_base.specs.Numbers.{unsigned_row_of, signed_row_of}
use Rattle.columnar_base.specs.Arrays.{array_row_of}
use Rattle.columnar_base.specs.Solos.{solo_format}
use Rattle.columnar_base.specs.LongTuples.{sides, tuple_format}
use Rattle.columnar_bits.specs.BoolColumns.{bools_format}
use Rattle.columnar_primitive.specs.Characters.{as_character, is_character}
use Rattle.columnar_primitive.specs.Durations.{durations_format}
use Rattle.columnar_primitive.specs.Larges.{as_u128, as_i128}
use Rattle.columnar_primitive.specs.Mapped.{mapped_format}
use Rattle.columnar_primitive.specs.Reals.{as_double, as_single}
use Rattle.columnar_primitive.specs.Stride.{strides_format}
use Rattle.columnar_primitive.specs.Units.{units_format}
use Rattle.columnar_sums.specs.Options.{options_format}
use Rattle.columnar_sums.specs.Results.{results_format}
use Rattle.columnar_sums.specs.UnaryColumns.{unaries_format}
use Rattle.columnar_lists.specs.Lists.{lists_format}
use Rattle.columnar_lookback.specs.Lookbacks.{lookbacks_format}
use Rattle.columnar_lookback.specs.Repeats.{repeats_format}
use Rattle.columnar_syntax.specs.declared.schema.Bounds.{Bounds}
use Rattle.columnar_syntax.specs.declared.schema.Bounds.TheVariants.{Words, Strides, Unaries}
use Rattle.columnar_syntax.specs.declared.schema.Leaf.{Leaf}
use Rattle.columnar_syntax.specs.declared.schema.Leaf.TheVariants.{U8, U16, U32, U64, U128, Usize, I8, I16, I32, I64, I128, Isize, F32, F64, Bool, Char, Unit, Duration, Text}
use Rattle.columnar_syntax.specs.declared.schema.Schema.{Schema, Simple, Optional', Fallible', Lists', Solo', Tuple', Beside', Field', Array', Repeated', Recalled', Sum', Named, Case'}
use Rattle.columnar_variants.specs.Variants.{Bank, variants_format}
use Rattle.columnar_schema.specs.Banks.{bank}

abbrev pub bounds_format : Bounds → Format
bounds_format Words = words_format
bounds_format Strides = strides_format
bounds_format Unaries = unaries_format

-- sixteen bytes each
abbrev pub larges_format : Format
larges_format = elements_format 16 1 (array_row_of 16 1 (unsigned_row_of w8))

abbrev pub leaf_format : Leaf → Format
leaf_format U8 = elements_format 1 1 (unsigned_row_of w8)
leaf_format U16 = elements_format 2 2 (unsigned_row_of w16)
leaf_format U32 = elements_format 4 4 (unsigned_row_of w32)
leaf_format U64 = elements_format 8 8 (unsigned_row_of w64)
leaf_format U128 = mapped_format larges_format as_u128 (λ r. true)
leaf_format Usize = mapped_format (elements_format 8 8 (unsigned_row_of w64)) (λ r. r) (λ r. true)
leaf_format I8 = elements_format 1 1 (signed_row_of w8)
leaf_format I16 = elements_format 2 2 (signed_row_of w16)
leaf_format I32 = elements_format 4 4 (signed_row_of w32)
leaf_format I64 = elements_format 8 8 (signed_row_of w64)
leaf_format I128 = mapped_format larges_format as_i128 (λ r. true)
leaf_format Isize = mapped_format (elements_format 8 8 (signed_row_of w64)) (λ r. r) (λ r. true)
leaf_format F32 = mapped_format (elements_format 4 4 (unsigned_row_of w32)) as_single (λ r. true)
leaf_format F64 = mapped_format (elements_format 8 8 (unsigned_row_of w64)) as_double (λ r. true)
leaf_format Bool = bools_format
leaf_format Char = mapped_format (elements_format 4 4 (unsigned_row_of w32)) as_character is_character
leaf_format Unit = units_format
leaf_format Duration = durations_format (elements_format 8 8 (unsigned_row_of w64)) (elements_format 4 4 (unsigned_row_of w32))
leaf_format (Text b) = lists_format (bounds_format b) bytes_format

-- the formats of a type's columns: those of the fields of a tuple from one on, else that of one column
pub record Columns : Type 0 where
  pub head : Format
  pub others : List Format

abbrev pub alone : Format → Columns
alone f = record { head = f; others = [] }

-- columns of any lengths, next to each other
abbrev pub beside : Columns → Format
beside c = sides c.head c.others

abbrev pub columns_of : Schema → Columns
columns_of (Simple l) = alone (leaf_format l)
columns_of (Optional' p t) = alone (options_format (beside (columns_of t)))
columns_of (Fallible' p t q e) = alone (results_format (beside (columns_of t)) (beside (columns_of e)))
columns_of (Lists' b p t) = alone (lists_format (bounds_format b) (beside (columns_of t)))
columns_of (Solo' k p t) = alone (solo_format (beside (columns_of t)))
columns_of (Tuple' k p a q r) = alone (tuple_format (beside (columns_of a)) (columns_of r).head (columns_of r).others)
columns_of (Beside' p a q r) = record { head = beside (columns_of a); others = (columns_of r).head ∷ (columns_of r).others }
columns_of (Field' n p t) = alone (beside (columns_of t))
columns_of (Array' n p t) = alone (lists_format words_format (beside (columns_of t)))
columns_of (Repeated' p t) = alone (repeats_format (beside (columns_of t)))
columns_of (Recalled' p t) = alone (lookbacks_format (beside (columns_of t)) bytes_format)
columns_of (Sum' p t) = alone (variants_format (bank (columns_of t).head (columns_of t).others))
columns_of (Named n) = alone units_format
columns_of (Case' n k p t) = alone (beside (columns_of t))

abbrev pub format_of : Schema → Format
format_of s = beside (columns_of s)

-- the columns of the variants of an enum
abbrev pub bank_of : Schema → Bank
bank_of s = bank (columns_of s).head (columns_of s).others
