-- Limits deny what columns of coded values, of units and of offsets refuse.
use Rattle.std.proofs.Common.{◌≡◌, ℕ, ◌+◌, Bool, true, ◌++◌, List, refl, sym, ◌∙◌, ap, arith}
use Rattle.columnar_core.specs.Row.{Row}
use Rattle.columnar_core.specs.Format.{Format, Content, slice, both, part, plain, Excess, refuses_more}
use Rattle.columnar_core.specs.Bounds.{AreNumbers}
use Rattle.columnar_core.specs.Bytes.{word}
use Rattle.columnar_core.specs.May.{IsLimited, count_limit}
use Rattle.columnar_core.specs.MayLaws.{count_limited}
use Rattle.columnar_primitive.specs.Durations.{durations_format}
use Rattle.columnar_primitive.specs.Fixed.{fixed_format, fixed_rows, fixed_refuses}
use Rattle.columnar_primitive.specs.FixedLaws.{fixed_adds, fixed_bounds}
use Rattle.columnar_primitive.specs.Mapped.{IsFlat, mapped_format}
use Rattle.columnar_primitive.specs.MayMultiples.{multiples_limit}
use Rattle.columnar_primitive.specs.MultipleLaws.{length-multiples}
use Rattle.columnar_primitive.specs.Stride.{strides_format}
use Rattle.columnar_primitive.specs.StrideLaws.{strides_bounds}
use Rattle.columnar_primitive.specs.Units.{units_format}

pub flat_limited : {f : Format} → IsFlat f → IsLimited f count_limit
flat_limited {f} p = count_limited {f = f} (λ e c s n rs. p.limits e c s n rs)

pub mapped_limited : (f : Format) (to : Row → Row) (test : Row → Bool) → IsLimited (mapped_format f to test) count_limit
mapped_limited f to test = count_limited {f = mapped_format f to test} (λ e c s n rs. refl)

pub durations_limited : (a b : Format) → IsLimited (durations_format a b) count_limit
durations_limited a b = count_limited {f = durations_format a b} (λ e c s n rs. refl)

pub units_limited : IsLimited units_format count_limit
units_limited = count_limited {f = units_format} (λ e c s n rs. refl)

pub strides_limited : IsLimited strides_format count_limit
strides_limited = count_limited {f = strides_format} (λ e c s n rs. refl)

fixed_denied : (k : ℕ) (e : Excess) (c : Content) (rs : List Row) → refuses_more (fixed_format k) e c rs ≡ true → multiples_limit k e (fixed_rows k c ++ rs)
fixed_denied k e (slice bs) rs h =
    let z : 0 + word bs 0 ≡ word bs 0 = omega arith in
    fixed_adds k e 0 (word bs 0) rs (ap (λ n. fixed_refuses k e n rs) (z ∙ sym (length-multiples k 0 (word bs 0))) ∙ h)
fixed_denied k e (both x y) rs h = h
fixed_denied k e (part l u x) rs h = h
fixed_denied k e (plain us) rs h = h

pub fixed_limited : (k : ℕ) → IsLimited (fixed_format k) (multiples_limit k)
fixed_limited k = record { denied = λ e c rs s h. fixed_denied k e c rs h }

-- what lists over these require: their rows are numbers

pub strides_numbered : AreNumbers strides_format
strides_numbered = strides_bounds.are_numbers

pub multiples_numbered : (k : ℕ) → AreNumbers (fixed_format k)
multiples_numbered k = (fixed_bounds k).are_numbers
