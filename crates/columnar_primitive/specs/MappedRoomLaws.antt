use Rattle.std.proofs.Common.{◌≡◌, ℕ, List, length, take, drop, map, ◌∙◌, arith, length-take, length-drop}
use Rattle.std.proofs.lemmas.List.{length-map}
use Rattle.columnar_base.specs.Row.{Row}
use Rattle.columnar_base.specs.Format.{Format, Content, both, IsSound}
use Rattle.columnar_base.specs.Tuples.{tuples}
use Rattle.columnar_primitive.specs.Durations.{as_duration, durations_format}
use Rattle.columnar_primitive.specs.DurationLaws.{durations_parts, length-durations}

-- ranges of equally many rows have equally many
pub same_range : (start n : ℕ) (rs ss : List Row) → length rs ≡ length ss → length (take n (drop start rs)) ≡ length (take n (drop start ss))
same_range start n rs ss e =
    let a = length-take n (drop start rs) in
    let b = length-take n (drop start ss) in
    let c = length-drop start rs in
    let d = length-drop start ss in
    omega (arith, a, b, c, d, e)

-- a range of mapped rows has as many rows as the range
pub length-mapped_range : (f : Row → Row) (start n : ℕ) (rs : List Row) → length (take n (drop start (map f rs))) ≡ length (take n (drop start rs))
length-mapped_range f start n rs = same_range start n (map f rs) rs (length-map rs f)

-- there are as many durations as seconds, and as nanoseconds
pub length-seconds : (a b : Format) {x y : Content} → IsSound (durations_format a b) (both x y) → length (map as_duration (tuples (a.rows x) (b.rows y))) ≡ length (a.rows x)
length-seconds a b s = length-durations a b s

pub length-nanoseconds : (a b : Format) {x y : Content} → IsSound (durations_format a b) (both x y) → length (map as_duration (tuples (a.rows x) (b.rows y))) ≡ length (b.rows y)
length-nanoseconds a b s = length-durations a b s ∙ (durations_parts a b s).level
