-- Requirements of stores on the formats of all types, by induction over the type.
use Rattle.std.proofs.Common.{true, arith}
use Rattle.std.specs.Int.{w8, w16, w32, w64}
use Rattle.columnar_base.specs.Format.{Format, IsStorable}
use Rattle.columnar_base.specs.Elements.{elements_format, words_format, bytes_format, word_row_of}
use Rattle.columnar_base.specs.ElementLaws.{elements_storable}
use Rattle.columnar_base.specs.Numbers.{unsigned_row_of, signed_row_of}
use Rattle.columnar_base.specs.Arrays.{array_row_of}
use Rattle.columnar_base.specs.SoloLaws.{solo_storable}
use Rattle.columnar_base.specs.LongTupleLaws.{sides_two, tuple_two}
use Rattle.columnar_base.specs.TwoPartsLaws.{two_storable}
use Rattle.columnar_bits.specs.BoolLaws.{bools_storable}
use Rattle.columnar_primitive.specs.Characters.{as_character, is_character}
use Rattle.columnar_primitive.specs.DurationLaws.{durations_storable}
use Rattle.columnar_primitive.specs.Larges.{as_u128, as_i128}
use Rattle.columnar_primitive.specs.MappedLaws.{mapped_storable}
use Rattle.columnar_primitive.specs.Reals.{as_double, as_single}
use Rattle.columnar_primitive.specs.StrideLaws.{strides_storable}
use Rattle.columnar_primitive.specs.UnitLaws.{units_storable}
use Rattle.columnar_sums.specs.OptionLaws.{options_storable}
use Rattle.columnar_sums.specs.RankColumns.{ranks_format}
use Rattle.columnar_sums.specs.RankLaws.{ranks_storable}
use Rattle.columnar_sums.specs.ResultLaws.{results_storable}
use Rattle.columnar_sums.specs.UnaryLaws.{unary_storable}
use Rattle.columnar_lists.specs.ListLaws.{lists_storable}
use Rattle.columnar_lookback.specs.LookbackLaws.{lookbacks_storable}
use Rattle.columnar_lookback.specs.RepeatLaws.{repeats_storable}
use Rattle.columnar_syntax.specs.declared.schema.Bounds.{Bounds}
use Rattle.columnar_syntax.specs.declared.schema.Bounds.TheVariants.{Words, Strides, Unaries}
use Rattle.columnar_syntax.specs.declared.schema.Leaf.{Leaf}
use Rattle.columnar_syntax.specs.declared.schema.Leaf.TheVariants.{U8, U16, U32, U64, U128, Usize, I8, I16, I32, I64, I128, Isize, F32, F64, Bool, Char, Unit, Duration, Text}
use Rattle.columnar_syntax.specs.declared.schema.Schema.{Schema, Simple, Optional', Fallible', Lists', Solo', Tuple', Beside', Field', Array', Repeated', Recalled', Sum', Named, Case'}
use Rattle.columnar_schema.specs.BankLaws.{sum_storable}
use Rattle.columnar_schema.specs.Formats.{bounds_format, larges_format, leaf_format, columns_of, format_of}

pub bounds_storable : (b : Bounds) → IsStorable (bounds_format b)
bounds_storable Words = elements_storable 8 8 word_row_of
bounds_storable Strides = strides_storable
bounds_storable Unaries = unary_storable ranks_format ranks_storable

pub leaf_storable : (l : Leaf) → IsStorable (leaf_format l)
leaf_storable U8 = elements_storable 1 1 (unsigned_row_of w8)
leaf_storable U16 = elements_storable 2 2 (unsigned_row_of w16)
leaf_storable U32 = elements_storable 4 4 (unsigned_row_of w32)
leaf_storable U64 = elements_storable 8 8 (unsigned_row_of w64)
leaf_storable U128 = mapped_storable larges_format as_u128 (λ r. true) (elements_storable 16 1 (array_row_of 16 1 (unsigned_row_of w8)))
leaf_storable Usize = mapped_storable (elements_format 8 8 (unsigned_row_of w64)) (λ r. r) (λ r. true) (elements_storable 8 8 (unsigned_row_of w64))
leaf_storable I8 = elements_storable 1 1 (signed_row_of w8)
leaf_storable I16 = elements_storable 2 2 (signed_row_of w16)
leaf_storable I32 = elements_storable 4 4 (signed_row_of w32)
leaf_storable I64 = elements_storable 8 8 (signed_row_of w64)
leaf_storable I128 = mapped_storable larges_format as_i128 (λ r. true) (elements_storable 16 1 (array_row_of 16 1 (unsigned_row_of w8)))
leaf_storable Isize = mapped_storable (elements_format 8 8 (signed_row_of w64)) (λ r. r) (λ r. true) (elements_storable 8 8 (signed_row_of w64))
leaf_storable F32 = mapped_storable (elements_format 4 4 (unsigned_row_of w32)) as_single (λ r. true) (elements_storable 4 4 (unsigned_row_of w32))
leaf_storable F64 = mapped_storable (elements_format 8 8 (unsigned_row_of w64)) as_double (λ r. true) (elements_storable 8 8 (unsigned_row_of w64))
leaf_storable Bool = bools_storable
leaf_storable Char = mapped_storable (elements_format 4 4 (unsigned_row_of w32)) as_character is_character (elements_storable 4 4 (unsigned_row_of w32))
leaf_storable Unit = units_storable
leaf_storable Duration = durations_storable (elements_format 8 8 (unsigned_row_of w64)) (elements_format 4 4 (unsigned_row_of w32)) (elements_storable 8 8 (unsigned_row_of w64)) (elements_storable 4 4 (unsigned_row_of w32))
leaf_storable (Text b) = lists_storable (bounds_format b) bytes_format (bounds_storable b) (elements_storable 1 1 (unsigned_row_of w8))

pub storable_of : (s : Schema) → IsStorable (format_of s)
storable_of (Simple l) = leaf_storable l
storable_of (Optional' p t) = options_storable (format_of t) (storable_of t)
storable_of (Fallible' p t q u) = results_storable (format_of t) (format_of u) (storable_of t) (storable_of u)
storable_of (Lists' b p t) = lists_storable (bounds_format b) (format_of t) (bounds_storable b) (storable_of t)
storable_of (Solo' k p t) = solo_storable (format_of t) (storable_of t)
storable_of (Tuple' k p a q r) = two_storable (tuple_two (format_of a) (columns_of r).head (columns_of r).others) (omega arith) (storable_of a) (storable_of r)
storable_of (Beside' p a q r) = two_storable (sides_two (format_of a) (columns_of r).head (columns_of r).others) (omega arith) (storable_of a) (storable_of r)
storable_of (Field' n p t) = storable_of t
storable_of (Array' n p t) = lists_storable words_format (format_of t) (elements_storable 8 8 word_row_of) (storable_of t)
storable_of (Repeated' p t) = repeats_storable (format_of t) (storable_of t)
storable_of (Recalled' p t) = lookbacks_storable (format_of t) bytes_format (storable_of t) (elements_storable 1 1 (unsigned_row_of w8))
storable_of (Sum' p t) = sum_storable t (storable_of t)
storable_of (Named n) = units_storable
storable_of (Case' n k p t) = storable_of t
