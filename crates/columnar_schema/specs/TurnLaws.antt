-- The total steps of the tests of parts.
use Rattle.std.proofs.Common.{◌≡◌, ℕ, ◌+◌, ◌*◌, ◌≤◌, Bool, List, drop, arith}
use Rattle.columnar_base.specs.Format.{Format, Content, Fits, bytes_held}
use Rattle.columnar_base.specs.TwoParts.{TwoParts}
use Rattle.columnar_sums.specs.RankColumns.{ranks_format}
use Rattle.columnar_sums.specs.OptionLaws.{ranks_bytes}
use Rattle.columnar_sums.specs.ResultLaws.{results_held}
use Rattle.columnar_syntax.specs.declared.schema.Schema.{Schema, Optional', Fallible', Lists'}
use Rattle.columnar_schema.specs.Formats.{bounds_format, format_of}
use Rattle.columnar_schema.specs.JudgeLaws.{held_two}
use Rattle.columnar_schema.specs.TypeLaws.{optional_two, lists_of_two}

-- two parts, in order
pub parts_turns : {f a b : Format} {test : Content → Content → Bool} {rule : ℕ} → TwoParts f a b test rule → (ss : List (List ℕ)) (o old mid new : ℕ) → mid ≤ old + 16 * bytes_held (a.build (drop o ss)) → new ≤ mid + 16 * bytes_held (b.build (drop (o + a.count) ss)) → new ≤ old + 16 * bytes_held (f.build (drop o ss))
parts_turns {f} {a} {b} t ss o old mid new u v =
    let h : bytes_held (f.build (drop o ss)) ≡ bytes_held (a.build (drop o ss)) + bytes_held (b.build (drop (o + a.count) ss)) = held_two t ss o in
    rw h (omega (arith, u, v))

-- only the first part
pub part_turns : {f a b : Format} {test : Content → Content → Bool} {rule : ℕ} → TwoParts f a b test rule → (ss : List (List ℕ)) (o old new : ℕ) → new ≤ old + 16 * bytes_held (a.build (drop o ss)) → new ≤ old + 16 * bytes_held (f.build (drop o ss))
part_turns {f} {a} {b} t ss o old new u =
    let h : bytes_held (f.build (drop o ss)) ≡ bytes_held (a.build (drop o ss)) + bytes_held (b.build (drop (o + a.count) ss)) = held_two t ss o in
    rw h (omega (arith, u))

-- options
pub optional_turns : (s : Schema) {p : _} {t : Schema} (o : ℕ) (ss : List (List ℕ)) (old mid later new : ℕ) → s ≡ Optional' p t → Fits ranks_format o ss → mid ≤ old + 4 * bytes_held (ranks_format.build (drop o ss)) → later ≤ mid + 16 * bytes_held ((format_of t).build (drop (o + 3) ss)) → new ≤ later + 16 → new ≤ old + 16 * bytes_held ((format_of s).build (drop o ss))
optional_turns s {p} {t} o ss old mid later new e f u v w =
    let h : bytes_held ((format_of s).build (drop o ss)) ≡ bytes_held (ranks_format.build (drop o ss)) + bytes_held ((format_of t).build (drop (o + 3) ss)) = held_two (optional_two s e) ss o in
    let b : 16 ≤ bytes_held (ranks_format.build (drop o ss)) = ranks_bytes (ranks_format.build (drop o ss)) f.sound in
    rw h (omega (arith, u, v, w, b))

-- lists
pub lists_turns : (s : Schema) {b : _} {p : _} {t : Schema} (o : ℕ) (ss : List (List ℕ)) (old mid later new : ℕ) → s ≡ Lists' b p t → mid ≤ old + 8 * bytes_held ((bounds_format b).build (drop o ss)) → later ≤ mid + 16 * bytes_held ((format_of t).build (drop (o + (bounds_format b).count) ss)) → new ≤ later + 8 * bytes_held ((bounds_format b).build (drop o ss)) → new ≤ old + 16 * bytes_held ((format_of s).build (drop o ss))
lists_turns s {b} {p} {t} o ss old mid later new e u v w =
    let h : bytes_held ((format_of s).build (drop o ss)) ≡ bytes_held ((bounds_format b).build (drop o ss)) + bytes_held ((format_of t).build (drop (o + (bounds_format b).count) ss)) = held_two (lists_of_two s e) ss o in
    rw h (omega (arith, u, v, w))

-- results: the bits, and the values; the values and the errors; all parts
held_of : (s : Schema) {p : _} {t : Schema} {q : _} {r : Schema} (o : ℕ) (ss : List (List ℕ)) → s ≡ Fallible' p t q r → bytes_held ((format_of s).build (drop o ss)) ≡ bytes_held (ranks_format.build (drop o ss)) + (bytes_held ((format_of t).build (drop (o + 3) ss)) + bytes_held ((format_of r).build (drop (o + 3 + (format_of t).count) ss)))
held_of s {p} {t} {q} {r} o ss e = rw e (results_held (format_of t) (format_of r) o ss)

pub values_turns : (s : Schema) {p : _} {t : Schema} {q : _} {r : Schema} (o : ℕ) (ss : List (List ℕ)) (old mid new : ℕ) → s ≡ Fallible' p t q r → mid ≤ old + 4 * bytes_held (ranks_format.build (drop o ss)) → new ≤ mid + 16 * bytes_held ((format_of t).build (drop (o + 3) ss)) → new ≤ old + 16 * bytes_held ((format_of s).build (drop o ss))
values_turns s {p} {t} {q} {r} o ss old mid new e u v = rw (held_of s o ss e) (omega (arith, u, v))

pub errors_turns : (s : Schema) {p : _} {t : Schema} {q : _} {r : Schema} (o : ℕ) (ss : List (List ℕ)) (old mid later new : ℕ) → s ≡ Fallible' p t q r → mid ≤ old + 4 * bytes_held (ranks_format.build (drop o ss)) → later ≤ mid + 16 * bytes_held ((format_of t).build (drop (o + 3) ss)) → new ≤ later + 16 * bytes_held ((format_of r).build (drop (o + 3 + (format_of t).count) ss)) → new ≤ old + 16 * bytes_held ((format_of s).build (drop o ss))
errors_turns s {p} {t} {q} {r} o ss old mid later new e u v w = rw (held_of s o ss e) (omega (arith, u, v, w))

pub fallible_turns : (s : Schema) {p : _} {t : Schema} {q : _} {r : Schema} (o : ℕ) (ss : List (List ℕ)) (old mid later last new : ℕ) → s ≡ Fallible' p t q r → Fits ranks_format o ss → mid ≤ old + 4 * bytes_held (ranks_format.build (drop o ss)) → later ≤ mid + 16 * bytes_held ((format_of t).build (drop (o + 3) ss)) → last ≤ later + 16 * bytes_held ((format_of r).build (drop (o + 3 + (format_of t).count) ss)) → new ≤ last + 16 → new ≤ old + 16 * bytes_held ((format_of s).build (drop o ss))
fallible_turns s {p} {t} {q} {r} o ss old mid later last new e f u v w z =
    let b : 16 ≤ bytes_held (ranks_format.build (drop o ss)) = ranks_bytes (ranks_format.build (drop o ss)) f.sound in
    rw (held_of s o ss e) (omega (arith, u, v, w, z, b))
