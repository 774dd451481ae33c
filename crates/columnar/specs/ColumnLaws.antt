-- The laws of columns, by which `Prim.search` proves those of a nest of them

use Rattle.std.specs.Prelude.{◌≡◌, ℕ, ◌+◌, length}
use Rattle.columnar_base.specs.Format.{Content, both, slices_of}
use Rattle.columnar_base.specs.TwoPartsLaws.{two_counted}
use Rattle.columnar_base.specs.ViewLaws.{items_counted}
use Rattle.columnar_base.specs.ElementLaws.{elements_lawful, elements_storable}
use Rattle.columnar_base.specs.LongTupleLaws.{tuple_lawful, tuple_storable}
use Rattle.columnar_base.specs.SoloLaws.{solo_lawful, solo_storable}
use Rattle.columnar_base.specs.TupleLaws.{pair_lawful, pair_storable}
use Rattle.columnar_core.specs.EarlierLaws.{earlier_same, earlier_solo, earlier_pair, earlier_tuple, no_more, one_more}
use Rattle.columnar_bits.specs.BoolLaws.{bools_lawful, bools_storable}
use Rattle.columnar_primitive.specs.DurationLaws.{durations_lawful, durations_storable}
use Rattle.columnar_primitive.specs.FixedLaws.{fixed_lawful, fixed_storable}
use Rattle.columnar_primitive.specs.MappedLaws.{mapped_lawful, mapped_storable}
use Rattle.columnar_primitive.specs.StrideLaws.{strides_lawful, strides_storable}
use Rattle.columnar_primitive.specs.UnitLaws.{units_lawful, units_storable}
use Rattle.columnar_sums.specs.DiscriminantLaws.{discriminant_lawful, discriminant_storable}
use Rattle.columnar_sums.specs.EarlierSumLaws.{earlier_options, earlier_results, unary_fewer}
use Rattle.columnar_sums.specs.OptionLaws.{options_lawful, options_storable}
use Rattle.columnar_sums.specs.RankLaws.{ranks_lawful, ranks_storable}
use Rattle.columnar_sums.specs.ResultLaws.{results_lawful, results_storable}
use Rattle.columnar_sums.specs.UnaryLaws.{unary_lawful, unary_storable}
use Rattle.columnar_lists.specs.ListLaws.{lists_lawful, lists_storable}
use Rattle.columnar_lists.specs.EarlierListLaws.{earlier_lists}
use Rattle.columnar_lookback.specs.LookbackLaws.{lookbacks_lawful, lookbacks_storable}
use Rattle.columnar_lookback.specs.RepeatLaws.{repeats_lawful, repeats_storable}
use Rattle.columnar_variants.specs.BankEarlierLaws.{earlier_join, earlier_leaf, earlier_variants}
use Rattle.columnar_variants.specs.VariantLaws.{leaf_bank, join_bank}
use Rattle.columnar_variants.specs.LawfulVariantLaws.{leaf_lawful, join_lawful, variants_lawful, join_storable, variants_storable}

-- The laws by which a nest of columns is lawful
pub ruleset lawful_columns = (elements_lawful, tuple_lawful, pair_lawful, solo_lawful, lists_lawful, unary_lawful, ranks_lawful, options_lawful, results_lawful, bools_lawful, mapped_lawful, durations_lawful, units_lawful, strides_lawful, fixed_lawful, repeats_lawful, lookbacks_lawful, variants_lawful, join_lawful, leaf_lawful, join_bank, leaf_bank, discriminant_lawful)

-- .. is storable
pub ruleset storable_columns = (elements_storable, tuple_storable, pair_storable, solo_storable, lists_storable, unary_storable, ranks_storable, options_storable, results_storable, bools_storable, mapped_storable, durations_storable, units_storable, strides_storable, fixed_storable, repeats_storable, lookbacks_storable, variants_storable, join_storable, discriminant_storable)

-- .. can be built from an earlier form
pub ruleset earlier_columns = (earlier_same, earlier_tuple, earlier_pair, earlier_solo, one_more, no_more, earlier_lists, unary_fewer, earlier_options, earlier_results, earlier_variants, earlier_join, earlier_leaf)

-- Two parts have the slices of both
pub both_counted : (m n : ℕ) (x y : Content) → length (slices_of x) ≡ m → length (slices_of y) ≡ n → length (slices_of (both x y)) ≡ m + n
both_counted m n x y = two_counted (slices_of x) (slices_of y)

-- .. has as many slices as its format says
pub ruleset counted_columns = (both_counted, items_counted)
