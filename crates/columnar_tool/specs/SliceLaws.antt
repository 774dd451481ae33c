-- The sizes of the slices of a tuple or an enum, and their lines.
use Rattle.std.proofs.Common.{◌≡◌, ℕ, ◌+◌, ◌<◌, List, [], ◌∷◌, ◌++◌, length, get_or, take, refl, sym, ap, arith, append_assoc, append-nil}
use Rattle.std.proofs.lemmas.List.{length-take-le, take_more}
use Rattle.columnar_base.specs.LongTupleLaws.{sides_two, tuple_two}
use Rattle.columnar_syntax.specs.declared.schema.Schema.{Schema, Tuple', Beside', Sum'}
use Rattle.columnar_schema.specs.BankLaws.{bank_sizes}
use Rattle.columnar_schema.specs.Formats.{columns_of, format_of}
use Rattle.columnar_tool.specs.Slices.{AreSlices, slice_line}

pub tuple_sizes : (s : Schema) {k : _} {p : _} {a : Schema} {q : _} {r : Schema} → s ≡ Tuple' k p a q r → (format_of s).sizes ≡ (format_of a).sizes ++ (format_of r).sizes
tuple_sizes s {k} {p} {a} {q} {r} e = rw e ((tuple_two (format_of a) (columns_of r).head (columns_of r).others).sizes)

pub beside_sizes : (s : Schema) {p : _} {a : Schema} {q : _} {r : Schema} → s ≡ Beside' p a q r → (format_of s).sizes ≡ (format_of a).sizes ++ (format_of r).sizes
beside_sizes s {p} {a} {q} {r} e = rw e ((sides_two (format_of a) (columns_of r).head (columns_of r).others).sizes)

pub sum_sizes : (s : Schema) {p : _} {t : Schema} → s ≡ Sum' p t → (format_of s).sizes ≡ (format_of t).sizes ++ (1 ∷ 8 ∷ [])
sum_sizes s {p} {t} e = rw e (ap (λ ns. ns ++ (1 ∷ 8 ∷ [])) (bank_sizes (columns_of t).head (columns_of t).others))

-- one more line
slices_more : (i k : ℕ) (sizes text name : List ℕ) (size : ℕ) → k ≡ i + length sizes → AreSlices i sizes text → AreSlices i (sizes ++ (size ∷ [])) (text ++ slice_line k name size)
slices_more i k [] text name size e h = let z : k ≡ i = omega arith in (name, ([], (rw (h, z) (sym (append-nil (slice_line i name size))), refl)))
slices_more i k (s ∷ sizes) text name size e h =
    (h.0, (h.1.0 ++ slice_line k name size, (rw (h.1.1.0) (append_assoc (slice_line i h.0 s) h.1.0 (slice_line k name size)), slices_more (i + 1) k sizes h.1.0 name size (omega arith) h.1.1.1)))

-- a turn of the loop
pub slice_told : (sizes : List ℕ) (i : ℕ) (text new name : List ℕ) → i < length sizes → AreSlices 0 (take i sizes) text → new ≡ text ++ slice_line i name (get_or sizes i 0) → AreSlices 0 (take (i + 1) sizes) new
slice_told sizes i text new name h p e =
    let k : i ≡ 0 + length (take i sizes) = omega (arith, length-take-le i sizes (omega arith)) in
    rw (take_more sizes i 0 h, e) (slices_more 0 i (take i sizes) text name (get_or sizes i 0) k p)
