-- The order of rows.
use Rattle.std.specs.Prelude.{ℕ, List}
use Rattle.std.specs.declared.cmp.Ordering.{Ordering}
use Rattle.std.specs.Ordering.{ordering_then, nat_cmp, int_cmp, bool_cmp}
use Rattle.std.specs.Cmp.Lexicographic.{slice_cmp}
use Rattle.columnar_base.specs.Row.{Row, number, integer, character, truth, unit, duration, tuple, none, some, ok, err, empty, more, variant, solo, team, tree}

-- the place of a row's kind among all kinds
abbrev pub kind : Row → ℕ
kind (number n) = 0
kind (integer n) = 1
kind (character n) = 2
kind (truth b) = 3
kind unit = 4
kind (duration s n) = 5
kind (tuple r s) = 6
kind none = 7
kind (some r) = 8
kind (ok r) = 9
kind (err r) = 10
kind empty = 11
kind (more r s) = 12
kind (variant v o) = 13
kind (solo r) = 14
kind (team r) = 15
kind (tree r s) = 16

-- Numbers compare by size. False precedes true, none precedes any value, and values precede errors. In tuples and lists
-- the first unequal pair decides; a list follows its proper prefixes. Rows of different kinds compare by kind.
abbrev pub row_cmp : Row → Row → Ordering
row_cmp (number n) (number m) = nat_cmp n m
row_cmp (integer n) (integer m) = int_cmp n m
row_cmp (character n) (character m) = nat_cmp n m
row_cmp (truth b) (truth c) = bool_cmp b c
row_cmp (duration s n) (duration t m) = ordering_then (nat_cmp s t) (nat_cmp n m)
row_cmp (tuple r s) (tuple t u) = ordering_then (row_cmp r t) (row_cmp s u)
row_cmp (some r) (some s) = row_cmp r s
row_cmp (ok r) (ok s) = row_cmp r s
row_cmp (err r) (err s) = row_cmp r s
row_cmp (more r s) (more t u) = ordering_then (row_cmp r t) (row_cmp s u)
row_cmp (variant v o) (variant w p) = ordering_then (nat_cmp v w) (nat_cmp o p)
row_cmp (solo r) (solo s) = row_cmp r s
row_cmp (team r) (team s) = row_cmp r s
row_cmp (tree r s) (tree t u) = ordering_then (row_cmp r t) (row_cmp s u)
row_cmp r s = nat_cmp (kind r) (kind s)

-- the first unequal pair of rows decides, otherwise the lengths
abbrev pub rows_cmp : List Row → List Row → Ordering
rows_cmp = slice_cmp row_cmp
