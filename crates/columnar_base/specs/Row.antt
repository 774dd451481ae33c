-- Rows, independent of the column that stores them.
use Rattle.std.specs.Prelude.{ℕ, ℤ, Bool, true, false, List, [], ◌∷◌, nat_eq, ◌&&◌}
use Rattle.std.specs.Ordering.{int_eq}

-- A row of any type. A list of rows is `empty` or `more`. A tuple of three is a tuple of the first and the tuple of the
-- others. An array is the list of its elements. A team holds the list of its members, a tree its value and the list of
-- its children.
pub data Row : Type 0 where
  number : ℕ → Row
  integer : ℤ → Row
  character : ℕ → Row
  truth : Bool → Row
  unit : Row
  duration : ℕ → ℕ → Row
  tuple : Row → Row → Row
  none : Row
  some : Row → Row
  ok : Row → Row
  err : Row → Row
  empty : Row
  more : Row → Row → Row
  variant : ℕ → ℕ → Row
  solo : Row → Row
  team : Row → Row
  tree : Row → Row → Row

-- a list of rows, as one row
abbrev pub list : List Row → Row
list [] = empty
list (r ∷ rs) = more r (list rs)

-- the number of a row, 0 for any other row
abbrev pub number_of : Row → ℕ
number_of (number n) = n
number_of _ = 0

-- the parts of a tuple
abbrev pub first_of : Row → Row
first_of (tuple r s) = r
first_of _ = unit

abbrev pub second_of : Row → Row
second_of (tuple r s) = s
second_of _ = unit

-- the items of a list; what ends the list
abbrev pub items_of : Row → List Row
items_of (more r rs) = r ∷ items_of rs
items_of _ = []

abbrev pub list_end : Row → Row
list_end (more r rs) = list_end rs
list_end r = r

-- a tuple without its parts; any other row as it is
abbrev pub bare_tuple : Row → Row
bare_tuple (tuple r s) = tuple unit unit
bare_tuple r = r

-- whether two truth values are equal
abbrev pub truth_eq : Bool → Bool → Bool
truth_eq true true = true
truth_eq false false = true
truth_eq _ _ = false

-- whether two rows are equal
abbrev pub row_eq : Row → Row → Bool
row_eq (number n) (number m) = nat_eq n m
row_eq (integer n) (integer m) = int_eq n m
row_eq (character n) (character m) = nat_eq n m
row_eq (truth b) (truth c) = truth_eq b c
row_eq unit unit = true
row_eq (duration s n) (duration t m) = nat_eq s t && nat_eq n m
row_eq (tuple r s) (tuple t u) = row_eq r t && row_eq s u
row_eq none none = true
row_eq (some r) (some s) = row_eq r s
row_eq (ok r) (ok s) = row_eq r s
row_eq (err r) (err s) = row_eq r s
row_eq empty empty = true
row_eq (more r s) (more t u) = row_eq r t && row_eq s u
row_eq (variant v o) (variant w p) = nat_eq v w && nat_eq o p
row_eq (solo r) (solo s) = row_eq r s
row_eq (team r) (team s) = row_eq r s
row_eq (tree r s) (tree t u) = row_eq r t && row_eq s u
row_eq _ _ = false
