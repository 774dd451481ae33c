-- A float is read back from its bits.
use Rattle.std.proofs.Common.{◌≡◌, ℕ, ◌%◌, ◌^◌, T, ap, ◌∙◌, mod-eq_of_lt}
use Rattle.std.specs.Float.{binary32, binary64}
use Rattle.std.specs.Float.Ieee.{Float, Format, fits, to_bits, of_bits}
use lib.Ieee.Bits.{of_bits-to_bits, to_bits-lt}
use Rattle.columnar_base.specs.Row.{Row, number}
use Rattle.columnar_base.specs.Floats.{float_row}
use Rattle.columnar_primitive.specs.Reals.{as_float}

pub float_back : (f : Format) (x : Float) → T (fits f x) → as_float f (number (to_bits f x)) ≡ float_row f x
float_back f x h = ap (float_row f) (of_bits-to_bits f x h)

pub single_code : (x : Float) → T (fits binary32 x) → as_float binary32 (number (to_bits binary32 x % 2 ^ 32)) ≡ float_row binary32 x
single_code x h = ap (λ n. as_float binary32 (number n)) (mod-eq_of_lt (to_bits-lt binary32 x h)) ∙ float_back binary32 x h

pub double_code : (x : Float) → T (fits binary64 x) → as_float binary64 (number (to_bits binary64 x % 2 ^ 64)) ≡ float_row binary64 x
double_code x h = ap (λ n. as_float binary64 (number n)) (mod-eq_of_lt (to_bits-lt binary64 x h)) ∙ float_back binary64 x h
