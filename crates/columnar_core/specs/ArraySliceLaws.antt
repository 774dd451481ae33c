-- The bytes of arrays are the bytes of their elements.
use Rattle.std.proofs.Common.{◌≡◌, ℕ, zero, suc, ◌^◌, ◌<◌, List, [], ◌∷◌, ◌++◌, length, refl, sym, ◌∙◌, ap, arith}
use Rattle.std.specs.List.{flat_map}
use Rattle.std.proofs.lemmas.List.Concat.{flat_map-append}
use Rattle.columnar_base.specs.Row.{Row}
use Rattle.columnar_base.specs.Elements.{IsElement}
use Rattle.columnar_base.specs.Arrays.{array_size, array_bytes}
use Rattle.columnar_base.specs.ArrayLaws.{array_bytes_are}
use Rattle.columnar_core.specs.ArraySlices.{AreArrays}

-- an array whose size can be represented has elements
pub has_items : (size n : ℕ) → array_size size n < 2 ^ 63 → 0 < n
has_items size zero l = absurd (omega (arith, l))
has_items size (suc n) l = omega arith

-- the bytes of arrays are those of their items in order
pub arrays_flat : {T : Type 0} {size : ℕ} {bytes : T → List ℕ} {row_of : List ℕ → Row} {meaning : T → Row} (n : ℕ) → IsElement size bytes row_of meaning → 0 < n → (xss : List (List T)) → AreArrays n xss (length xss) → flat_map bytes (flat_map (λ x. x) xss) ≡ flat_map (array_bytes n size bytes) xss
arrays_flat n e p [] h = refl
arrays_flat {T} {size} {bytes} n e p (xs ∷ xss) h =
    flat_map-append bytes xs (flat_map (λ x. x) xss)
    ∙ ap (λ t. t ++ flat_map bytes (flat_map (λ x. x) xss)) (sym (array_bytes_are n e xs p (h 0 (omega arith))))
    ∙ ap (λ t. array_bytes n size bytes xs ++ t) (arrays_flat n e p xss (λ i l. h (suc i) (omega arith)))
