-- How a column is read: its content, and the format that its type determines.
use Rattle.std.specs.Prelude.{ℕ, Bool, true, false, List, [], ◌∷◌, ◌++◌, length, ◌≡◌, ◌≤◌, ◌+◌, ◌-◌, ◌^◌, take, drop, ◌&&◌, nat_le, nat_lt, map, Option, Some, None, cond}
use Rattle.columnar_base.specs.Row.{Row}

-- The content of a column: its byte slices, part by part. `part l u c` is the rows l..u of c; `plain` has no bytes. An
-- owned column and a view of the same rows have the same content.
pub data Content : Type 0 where
  slice : List ℕ → Content
  both : Content → Content → Content
  part : ℕ → ℕ → Content → Content
  plain : List Row → Content

-- a broken rule: its number, and the slice that breaks it
pub data Fault : Type 0 where
  fault : ℕ → ℕ → Fault

-- the same faults, for slices that start n later
abbrev pub moved_one : ℕ → Fault → Fault
moved_one n (fault rule at) = fault rule (n + at)

abbrev pub moved : ℕ → List Fault → List Fault
moved n xs = map (moved_one n) xs

abbrev pub first : List Fault → Option Fault
first [] = None
first (x ∷ xs) = Some x

-- the rule x is broken if the test fails
abbrev pub unless : Bool → Fault → List Fault
unless true x = []
unless false x = x ∷ []

-- a relation of rows that is an equivalence
pub record IsSame (same : Row → Row → Bool) : Type 0 where
  pub reflexive : (r : Row) → same r r ≡ true
  pub symmetric : (r s : Row) → same r s ≡ true → same s r ≡ true
  pub transitive : (r s t : Row) → same r s ≡ true → same s t ≡ true → same r t ≡ true

-- a relation of rows that is equality
pub record IsExact (same : Row → Row → Bool) : Type 0 where
  pub exact : (r s : Row) → same r s ≡ true → r ≡ s

-- pairwise, in order
abbrev pub all_alike : (Row → Row → Bool) → List Row → List Row → Bool
all_alike same [] [] = true
all_alike same (r ∷ rs) (s ∷ ss) = same r s && all_alike same rs ss
all_alike same [] (s ∷ ss) = false
all_alike same (r ∷ rs) [] = false

-- Why rows are refused. Too many: a count or a bound, here or in some part, would exceed 64 bits. Misplaced: a row is
-- an offset that its column cannot take at its place.
pub data Excess : Type 0 where
  too_many : Excess
  misplaced : Excess

-- The format of a column type.
-- count: the number of slices; sizes: the element size of each; aligns: the alignment of each, in bytes
-- turns: the greatest number of steps that validation takes per byte
-- broken: the rules that a content breaks: those of the parts in slice order, then its own
-- rows: the rows of a content
-- extent: the lengths of all parts, in bytes, at the first n rows
-- build: the content that the first slices of a list make
-- alike: may the first row represent the second; kin: does the column's own test find the rows equal
-- refuses: may the rows not be added after the first n rows of a content
pub record Format : Type 0 where
  pub count : ℕ
  pub sizes : List ℕ
  pub aligns : List ℕ
  pub turns : ℕ
  pub broken : Content → List Fault
  pub rows : Content → List Row
  pub extent : Content → ℕ → List ℕ
  pub build : List (List ℕ) → Content
  pub alike : Row → Row → Bool
  pub kin : Row → Row → Bool
  pub refuses : Excess → Content → ℕ → List Row → Bool

-- the slices of a content, in order
abbrev pub slices_of : Content → List (List ℕ)
slices_of (slice bs) = bs ∷ []
slices_of (both x y) = slices_of x ++ slices_of y
slices_of (part l u x) = []
slices_of (plain rs) = []

-- the lengths of all parts, in bytes
abbrev pub lengths : Content → List ℕ
lengths (slice bs) = length bs ∷ []
lengths (both x y) = lengths x ++ lengths y
lengths (part l u x) = []
lengths (plain rs) = []

-- the number of bytes of a content
abbrev pub bytes_held : Content → ℕ
bytes_held (slice bs) = length bs
bytes_held (both x y) = bytes_held x + bytes_held y
bytes_held (part l u x) = 0
bytes_held (plain rs) = 0

-- the number of bytes of all slices together
abbrev pub bytes_of_all : List (List ℕ) → ℕ
bytes_of_all [] = 0
bytes_of_all (bs ∷ rest) = length bs + bytes_of_all rest

-- c is a well-formed content of the format f: it breaks no rule
pub record IsSound (f : Format) (c : Content) : Type 0 where
  pub accepted : f.broken c ≡ []

-- The rows are refused after those of c.
abbrev pub refuses_more : Format → Excess → Content → List Row → Bool
refuses_more f e c rs = f.refuses e c (length (f.rows c)) rs

-- The laws of every container format.
pub record IsLawful (f : Format) : Type 0 where
  -- the lengths at all rows are the lengths
  pub full : (c : Content) → IsSound f c → f.extent c (length (f.rows c)) ≡ lengths c
  -- alike is an equivalence
  pub same : IsSame f.alike
  -- kin is an equivalence, and rows that are alike are kin
  pub kindred : IsSame f.kin
  pub related : (r s : Row) → f.alike r s ≡ true → f.kin r s ≡ true
  -- refused rows stay refused if more rows follow them
  pub more : (e : Excess) (c : Content) (n : ℕ) (rs ss : List Row) → f.refuses e c n rs ≡ true → f.refuses e c n (rs ++ ss) ≡ true

-- The laws of every format of a type with bytes.
pub record IsStorable (f : Format) : Type 0 where
  -- validation takes at most 16 steps per byte
  pub swift : f.turns ≤ 16
  -- each slice has a size and an alignment
  pub sized : length f.sizes ≡ f.count
  pub aligned : length f.aligns ≡ f.count
  -- a well-formed content has as many slices as the type
  pub counted : (c : Content) → IsSound f c → length (slices_of c) ≡ f.count
  -- the slices of a well-formed content build it again
  pub rebuilt : (c : Content) (rest : List (List ℕ)) → IsSound f c → f.build (slices_of c ++ rest) ≡ c
  -- a content that slices build has exactly these slices, well-formed or not
  pub built : (ss : List (List ℕ)) → f.count ≤ length ss → slices_of (f.build ss) ≡ take f.count ss

-- the content does not have the form of the format
abbrev pub misfit : List Fault
misfit = fault 0 0 ∷ []

-- the rules of two parts, one after the other, then a rule of both, which the test decides
abbrev pub two_broken : Format → Format → (Content → Content → Bool) → ℕ → Content → List Fault
two_broken a b test rule (both x y) = a.broken x ++ (moved a.count (b.broken y) ++ unless (test x y) (fault rule 0))
two_broken a b test rule (slice bs) = misfit
two_broken a b test rule (part l u x) = misfit
two_broken a b test rule (plain rs) = misfit

-- the rows l..u of a column
abbrev pub part_rows : Format → Content → List Row
part_rows f (part l u c) = take (u - l) (drop l (f.rows c))
part_rows f (slice bs) = []
part_rows f (both x y) = []
part_rows f (plain rs) = []

abbrev pub part_broken : Format → Content → List Fault
part_broken f (part l u c) = f.broken c ++ unless (nat_le l u && nat_le u (length (f.rows c))) (fault 11 0)
part_broken f (slice bs) = misfit
part_broken f (both x y) = misfit
part_broken f (plain rs) = misfit

-- a range of a column's rows, without slices of its own
abbrev pub part_format : Format → Format
part_format f = record {
  count = 0;
  sizes = [];
  aligns = [];
  turns = 0;
  broken = part_broken f;
  rows = part_rows f;
  extent = λ c n. [];
  build = λ ss. plain [];
  alike = f.alike;
  kin = f.kin;
  refuses = λ e c n rs. false;
}

abbrev pub are_sizes : List ℕ → Bool
are_sizes [] = true
are_sizes (s ∷ ss) = nat_le 1 s && (nat_lt s (2 ^ 63) && are_sizes ss)

-- Calls over bytes require this of the type: at most 2^60 slices, of elements of 1 to 2^63 - 1 bytes.
abbrev pub representable : Format → Bool
representable f = nat_le f.count (2 ^ 60) && are_sizes f.sizes

-- The rules that the slices from `at` on break, with slices counted in the whole store. Rule 5, SliceCount, is about
-- the store as a whole.
abbrev pub faults_at : Format → ℕ → List (List ℕ) → List Fault
faults_at f at ss = cond (nat_le (at + f.count) (length ss)) (moved at (f.broken (f.build (drop at ss)))) (fault 5 0 ∷ [])

-- there are enough slices from `at` on, and they make a well-formed content
pub record Fits (f : Format) (at : ℕ) (ss : List (List ℕ)) : Type 0 where
  pub room : at + f.count ≤ length ss
  pub sound : IsSound f (f.build (drop at ss))
