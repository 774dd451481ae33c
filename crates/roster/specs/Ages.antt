-- The ages in the rows of groups of persons.
use Rattle.std.specs.Prelude.{ℕ, List, ◌==◌, ◌%◌, ◌^◌, sum_by, if◌then◌else◌}
use Rattle.columnar.specs.Row.{Row, number_of, first_of, second_of, items_of}

-- the age of a person, whose row is a name and a number
abbrev pub age : Row → ℕ
age person = number_of (second_of person)

-- the sum of the ages of a team
abbrev pub team_ages : (Row → ℕ) → Row → ℕ
team_ages one row = sum_by one (items_of row)

-- the sum of the ages of a group: of a solo, or of a team
abbrev pub group_ages : (Row → ℕ) → (Row → ℕ) → Row → ℕ
group_ages one many row = if number_of (first_of row) == 0 then one (second_of row) else many (second_of row)

-- the sum of the ages of all rows, which wraps at 2^64
abbrev pub ages_sum : (Row → ℕ) → List Row → ℕ
ages_sum one rows = sum_by one rows % 2 ^ 64

-- the sum of the ages in a row of the roster
abbrev pub roster_ages : Row → ℕ
roster_ages = group_ages age (team_ages age)
