-- What a row of one kind holds, with a default of the same type for any other row.
use Rattle.std.specs.Prelude.{ℕ, ℤ, pos, Bool, false, List, [], ◌++◌}
use Rattle.std.specs.Hash as fed
use Rattle.columnar_base.specs.Row.{Row, integer, truth, character, duration, some, ok, err}

abbrev pub integer_of : Row → ℤ
integer_of (integer z) = z
integer_of _ = pos 0

abbrev pub truth_of : Row → Bool
truth_of (truth b) = b
truth_of _ = false

abbrev pub character_of : Row → ℕ
character_of (character n) = n
character_of _ = 0

abbrev pub seconds_of : Row → ℕ
seconds_of (duration s n) = s
seconds_of _ = 0

abbrev pub nanos_of : Row → ℕ
nanos_of (duration s n) = n
nanos_of _ = 0

-- the writes of an option to a hasher: the number of its variant, then the writes of its value
abbrev pub option_input : (Row → List (List ℕ)) → Row → List (List ℕ)
option_input feed (some r) = fed.isize (pos 1) ++ feed r
option_input feed _ = fed.isize (pos 0)

-- the same for a result
abbrev pub result_input : (Row → List (List ℕ)) → (Row → List (List ℕ)) → Row → List (List ℕ)
result_input feed_value feed_error (ok r) = fed.isize (pos 0) ++ feed_value r
result_input feed_value feed_error (err r) = fed.isize (pos 1) ++ feed_error r
result_input feed_value feed_error _ = []
