-- Arrays: their column is that of lists with bounds as numbers.
use Rattle.std.proofs.Common.{◌≡◌, ℕ, ◌+◌, ◌*◌, ◌-◌, ◌≤◌, List, length, drop, refl}
use Rattle.columnar_base.specs.Format.{bytes_held}
use Rattle.columnar_base.specs.TwoParts.{TwoParts}
use Rattle.columnar_base.specs.Elements.{words_format}
use Rattle.columnar_lists.specs.Lists.{lists_rise}
use Rattle.columnar_lists.specs.ListLaws.{lists_two}
use Rattle.columnar_syntax.specs.declared.schema.Bounds.TheVariants.{Words}
use Rattle.columnar_syntax.specs.declared.schema.Schema.{Schema, Lists', Array'}
use Rattle.columnar_schema.specs.Formats.{format_of}
use Rattle.columnar_syntax.specs.Names.{array}
use Rattle.columnar_schema.specs.TurnLaws.{lists_turns}
use Rattle.columnar_schema.specs.TypeLaws.{lists_rows_of}

-- ---- the column

pub array_two : (s : Schema) {n : _} {p : _} {t : Schema} → s ≡ Array' n p t → TwoParts (format_of s) words_format (format_of t) (lists_rise words_format (format_of t)) 11
array_two s {n} {p} {t} e = rw e (lists_two words_format (format_of t))

pub array_rows : (s : Schema) {n : _} {p : _} {t : Schema} (o : ℕ) (ss : List (List ℕ)) (m : ℕ) → s ≡ Array' n p t → m ≡ length (words_format.rows (words_format.build (drop o ss))) → m ≡ length ((format_of s).rows ((format_of s).build (drop o ss)))
array_rows s {n} {p} {t} o ss m e h = rw e (lists_rows_of (Lists' Words p t) o ss m refl h)

pub array_turns : (s : Schema) {n : _} {p : _} {t : Schema} (o : ℕ) (ss : List (List ℕ)) (old mid later new : ℕ) → s ≡ Array' n p t → mid ≤ old + 8 * bytes_held (words_format.build (drop o ss)) → later ≤ mid + 16 * bytes_held ((format_of t).build (drop (o + 1) ss)) → new ≤ later + 8 * bytes_held (words_format.build (drop o ss)) → new ≤ old + 16 * bytes_held ((format_of s).build (drop o ss))
array_turns s {n} {p} {t} o ss old mid later new e u v w = rw e (lists_turns (Lists' Words p t) o ss old mid later new refl u v w)
