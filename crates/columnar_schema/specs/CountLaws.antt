-- The numbers of slices of tuples.
use Rattle.std.proofs.Common.{◌≡◌, ◌+◌, ◌^◌, ◌≤◌, arith}
use Rattle.columnar_base.specs.LongTupleLaws.{sides_two, tuple_two}
use Rattle.columnar_syntax.specs.declared.schema.Schema.{Schema, Tuple', Beside'}
use Rattle.columnar_schema.specs.Formats.{columns_of, format_of}

pub tuple_count : (s : Schema) {br : _} {p : _} {a : Schema} {q : _} {r : Schema} → s ≡ Tuple' br p a q r → (format_of s).count ≡ (format_of a).count + (format_of r).count
tuple_count s {br} {p} {a} {q} {r} e = rw e ((tuple_two (format_of a) (columns_of r).head (columns_of r).others).count)

pub beside_count : (s : Schema) {p : _} {a : Schema} {q : _} {r : Schema} → s ≡ Beside' p a q r → (format_of s).count ≡ (format_of a).count + (format_of r).count
beside_count s {p} {a} {q} {r} e = rw e ((sides_two (format_of a) (columns_of r).head (columns_of r).others).count)

-- each part has at most as many slices as the whole
pub first_counted : (s : Schema) {br : _} {p : _} {a : Schema} {q : _} {r : Schema} → s ≡ Tuple' br p a q r → (format_of s).count ≤ 2 ^ 60 → (format_of a).count ≤ 2 ^ 60
first_counted s e h = omega (arith, h, tuple_count s e)

pub others_counted : (s : Schema) {br : _} {p : _} {a : Schema} {q : _} {r : Schema} → s ≡ Tuple' br p a q r → (format_of s).count ≤ 2 ^ 60 → (format_of r).count ≤ 2 ^ 60
others_counted s e h = omega (arith, h, tuple_count s e)

pub field_counted : (s : Schema) {p : _} {a : Schema} {q : _} {r : Schema} → s ≡ Beside' p a q r → (format_of s).count ≤ 2 ^ 60 → (format_of a).count ≤ 2 ^ 60
field_counted s e h = omega (arith, h, beside_count s e)

pub later_counted : (s : Schema) {p : _} {a : Schema} {q : _} {r : Schema} → s ≡ Beside' p a q r → (format_of s).count ≤ 2 ^ 60 → (format_of r).count ≤ 2 ^ 60
later_counted s e h = omega (arith, h, beside_count s e)
