-- The messages of the program, as bytes.
use Rattle.std.specs.Prelude.{ℕ, List, [], ◌∷◌, ◌++◌, length, codes, decimal}
use Rattle.std.specs.List.{flat_map}
use Rattle.roster.specs.declared.told.Failure.{Failure}
use Rattle.roster.specs.declared.told.Failure.TheVariants.{Memory, TooLong, Input, Output}
use Rattle.roster.specs.declared.told.Outcome.{Outcome}
use Rattle.roster.specs.declared.told.Outcome.TheVariants.{Done, Failed, Misused}

-- the number of rows
abbrev pub rows_line : ℕ → List ℕ
rows_line count = codes "rows: " ++ (decimal count ++ codes "\n")

-- the first broken rule, and its slice
abbrev pub refused_line : ℕ → ℕ → List ℕ
refused_line rule slice = codes "refused: " ++ (decimal rule ++ (codes " in slice " ++ (decimal slice ++ codes "\n")))

-- the alignment of a slice, and its number of bytes
abbrev pub slice_line : ℕ → List ℕ → List ℕ
slice_line align bytes = codes "align: " ++ (decimal align ++ (codes ", bytes.len(): " ++ (decimal (length bytes) ++ codes "\n")))

-- a line for each slice
abbrev pub slice_lines : List ℕ → List (List ℕ) → List ℕ
slice_lines (align ∷ aligns) (bytes ∷ slices) = slice_line align bytes ++ slice_lines aligns slices
slice_lines _ _ = []

-- the sum of all ages
abbrev pub sum_line : ℕ → List ℕ
sum_line sum = codes "Present values summed: " ++ (decimal sum ++ codes "\n")

-- numbers separated by spaces
abbrev pub spaced : List ℕ → List ℕ
spaced [] = []
spaced (word ∷ words) = decimal word ++ flat_map (λ w. codes " " ++ decimal w) words

-- a line of numbers
abbrev pub words_line : List ℕ → List ℕ
words_line words = spaced words ++ codes "\n"

-- the words of the column of the one number 7 (the end of the table, the end of the slice, and the slice), and its
-- number of rows
abbrev pub seven_lines : List ℕ
seven_lines = codes "16 24 7\nrows: 1\n"

-- the message for a failure
abbrev pub failure_line : Failure → List ℕ
failure_line Memory = codes "failed: no memory\n"
failure_line TooLong = codes "failed: too long\n"
failure_line Input = codes "failed: cannot read\n"
failure_line Output = codes "failed: cannot write\n"

-- the message for the error output
abbrev pub outcome_line : Outcome → List ℕ
outcome_line (Done status) = []
outcome_line (Failed failure) = failure_line failure
outcome_line Misused = codes "usage: roster [first | write PATH | check PATH]\n"

-- the exit status
abbrev pub outcome_status : Outcome → ℕ
outcome_status (Done status) = status
outcome_status (Failed failure) = 1
outcome_status Misused = 2
