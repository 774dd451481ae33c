-- Columns of sum types: a column for the values of each variant, and the variant of each row.
use Rattle.std.specs.Prelude.{ℕ, zero, suc, Bool, true, false, List, [], ◌∷◌, ◌++◌, ◌≡◌, ◌≤◌, ◌<◌, length, ◌+◌, drop, take, ◌&&◌, ◌||◌, nat_eq, nat_lt, cond, slice_index_or}
use Rattle.columnar_core.specs.Row.{Row, unit, tuple, number, number_of, first_of, second_of, row_eq}
use Rattle.columnar_core.specs.Format.{Format, Content, slice, both, part, plain, Fault, fault, unless, IsSound, IsSame, lengths, Excess, two_broken, refuses_more}
use Rattle.columnar_core.specs.Change.{IsTrueOf}
use Rattle.columnar_base.specs.declared.fault.GrowError.{GrowError}
use Rattle.columnar_core.specs.Elements.{past_count}
use Rattle.columnar_sums.specs.Discriminants.{times, variants_of, form_lengths, discriminant_format}
use Rattle.columnar_sums.specs.Results.{beside_format}

-- the row of a value of variant v
abbrev pub case : ℕ → Row → Row
case v r = tuple (number v) r

-- The columns of the values, one for each variant.
-- sides: the format of all of them in order; size: their number
-- table: the rows of the column of a variant
-- told: each has as many rows as this says; room: the lengths of all parts if each has this many rows
-- refuses: one of them refuses its rows, after this many; alike, kin: those of the column of a variant
pub record Bank : Type 0 where
  pub sides : Format
  pub size : ℕ
  pub table : Content → ℕ → List Row
  pub told : Content → (ℕ → ℕ) → Bool
  pub room : Content → (ℕ → ℕ) → List ℕ
  pub refuses : Excess → Content → (ℕ → ℕ) → (ℕ → List Row) → Bool
  pub alike : ℕ → Row → Row → Bool
  pub kin : ℕ → Row → Row → Bool

-- a single variant
abbrev pub leaf_table : Format → Content → ℕ → List Row
leaf_table a c zero = a.rows c
leaf_table a c (suc v) = []

abbrev pub leaf : Format → Bank
leaf a = record {
  sides = a;
  size = 1;
  table = leaf_table a;
  told = λ c n. nat_eq (length (a.rows c)) (n 0);
  room = λ c n. a.extent c (n 0);
  refuses = λ e c n f. a.refuses e c (n 0) (f 0);
  alike = λ v. a.alike;
  kin = λ v. a.kin;
}

-- one more variant, before the others
abbrev pub join_table : Format → Bank → Content → ℕ → List Row
join_table a b (both x y) zero = a.rows x
join_table a b (both x y) (suc v) = b.table y v
join_table a b (slice bs) v = []
join_table a b (part l u x) v = []
join_table a b (plain rs) v = []

abbrev pub join_told : Format → Bank → Content → (ℕ → ℕ) → Bool
join_told a b (both x y) n = nat_eq (length (a.rows x)) (n 0) && b.told y (λ v. n (suc v))
join_told a b (slice bs) n = false
join_told a b (part l u x) n = false
join_told a b (plain rs) n = false

abbrev pub join_room : Format → Bank → Content → (ℕ → ℕ) → List ℕ
join_room a b (both x y) n = a.extent x (n 0) ++ b.room y (λ v. n (suc v))
join_room a b (slice bs) n = []
join_room a b (part l u x) n = []
join_room a b (plain rs) n = []

abbrev pub join_refuses : Format → Bank → Excess → Content → (ℕ → ℕ) → (ℕ → List Row) → Bool
join_refuses a b e (both x y) n f = a.refuses e x (n 0) (f 0) || b.refuses e y (λ v. n (suc v)) (λ v. f (suc v))
join_refuses a b e (slice bs) n f = false
join_refuses a b e (part l u x) n f = false
join_refuses a b e (plain rs) n f = false

abbrev pub by_variant : (Row → Row → Bool) → (ℕ → Row → Row → Bool) → ℕ → Row → Row → Bool
by_variant p q zero = p
by_variant p q (suc v) = q v

abbrev pub join : Format → Bank → Bank
join a b = record {
  sides = beside_format a b.sides;
  size = suc b.size;
  table = join_table a b;
  told = join_told a b;
  room = join_room a b;
  refuses = join_refuses a b;
  alike = by_variant a.alike b.alike;
  kin = by_variant a.kin b.kin;
}

-- for each variant its next value; `before` precedes them all
abbrev pub cell : (ℕ → List Row) → ℕ → ℕ → Row
cell t v o = case v (slice_index_or (t v) o unit)

abbrev pub chosen : (ℕ → List Row) → List ℕ → List ℕ → List Row
chosen t before [] = []
chosen t before (v ∷ vs) = cell t v (times v before) ∷ chosen t (before ++ v ∷ []) vs

-- the values of the rows of variant k
abbrev pub of_case : ℕ → List Row → List Row
of_case k [] = []
of_case k (r ∷ rs) = cond (nat_eq k (number_of (first_of r))) (second_of r ∷ of_case k rs) (of_case k rs)

-- the value of a row of variant k satisfies p
abbrev pub of_variant : ℕ → (Row → Bool) → Row → Bool
of_variant k p r = nat_eq k (number_of (first_of r)) && p (second_of r)

-- each variant is less than n
abbrev pub are_below : ℕ → List ℕ → Bool
are_below n [] = true
are_below n (v ∷ vs) = nat_lt v n && are_below n vs

abbrev pub is_below : Bank → Content → Content → Bool
is_below b x y = are_below b.size (variants_of y)

-- each part has as many rows as its variant occurs
abbrev pub level_broken : Bank → Content → List Fault
level_broken b (both x y) = unless (b.told x (λ v. times v (variants_of y))) (fault 10 0)
level_broken b (slice bs) = []
level_broken b (part l u x) = []
level_broken b (plain rs) = []

abbrev pub variants_rows : Bank → Content → List Row
variants_rows b (both x y) = chosen (b.table x) [] (variants_of y)
variants_rows b (slice bs) = []
variants_rows b (part l u x) = []
variants_rows b (plain rs) = []

abbrev pub variants_extent : Bank → Content → ℕ → List ℕ
variants_extent b (both x y) n = b.room x (λ v. times v (take n (variants_of y))) ++ form_lengths (take n (variants_of y))
variants_extent b (slice bs) n = []
variants_extent b (part l u x) n = []
variants_extent b (plain rs) n = []

abbrev pub variants_refuses : Bank → Excess → Content → ℕ → List Row → Bool
variants_refuses b e (both x y) n rs = past_count e (n + length rs) || b.refuses e x (λ v. times v (take n (variants_of y))) (λ v. of_case v rs)
variants_refuses b e (slice bs) n rs = false
variants_refuses b e (part l u x) n rs = false
variants_refuses b e (plain ss) n rs = false

abbrev pub bare_case : Row → Row
bare_case (tuple r s) = tuple r unit
bare_case r = r

-- both have the same variant, and the relation of that variant decides
abbrev pub variants_alike : (ℕ → Row → Row → Bool) → Row → Row → Bool
variants_alike nth r s = row_eq (bare_case r) (bare_case s) && nth (number_of (first_of r)) (second_of r) (second_of s)

-- the rules of the values' columns, those of the variants, then that each variant is less than the number of columns,
-- and that the columns have as many rows as their variants occur
abbrev pub variants_format : Bank → Format
variants_format b = record {
  count = b.sides.count + 2;
  sizes = b.sides.sizes ++ 1 ∷ 8 ∷ [];
  aligns = b.sides.aligns ++ 1 ∷ 8 ∷ [];
  turns = 16;
  broken = λ c. two_broken b.sides discriminant_format (is_below b) 17 c ++ level_broken b c;
  rows = variants_rows b;
  extent = variants_extent b;
  build = λ ss. both (b.sides.build ss) (discriminant_format.build (drop b.sides.count ss));
  alike = variants_alike b.alike;
  kin = variants_alike b.kin;
  refuses = variants_refuses b;
}

-- The laws of a bank.
pub record IsBank (b : Bank) : Type 0 where
  pub tells : (c : Content) (n : ℕ → ℕ) → b.told c n ≡ true → (v : ℕ) → v < b.size → length (b.table c v) ≡ n v
  pub agrees : (e : Excess) (c : Content) (n m : ℕ → ℕ) (f g : ℕ → List Row) → ((v : ℕ) → v < b.size → n v ≡ m v) → ((v : ℕ) → v < b.size → f v ≡ g v) → b.refuses e c n f ≡ b.refuses e c m g
  pub tells_back : (c : Content) (n : ℕ → ℕ) → IsSound b.sides c → ((v : ℕ) → v < b.size → length (b.table c v) ≡ n v) → b.told c n ≡ true

-- The column of variant k accepted a row that represents r; the others are unchanged.
pub record BankTook (b : Bank) (x x' : Content) (k : ℕ) (r : Row) : Type 0 where
  pub fresh : Row
  pub near : b.alike k fresh r ≡ true
  pub here : b.table x' k ≡ b.table x k ++ fresh ∷ []
  pub others : (v : ℕ) → (v ≡ k → ⊥) → b.table x' v ≡ b.table x v
  pub rooms : (n : ℕ → ℕ) → ((v : ℕ) → v < b.size → n v ≤ length (b.table x v)) → b.room x' n ≡ b.room x n
  pub limits : (n : ℕ → ℕ) → ((v : ℕ) → v < b.size → n v ≤ length (b.table x v)) → (e : Excess) (f : ℕ → List Row) → b.refuses e x' n f ≡ b.refuses e x n f
  pub adds : (n' n : ℕ → ℕ) → ((v : ℕ) → v < b.size → n' v ≡ length (b.table x' v)) → ((v : ℕ) → v < b.size → n v ≡ length (b.table x v)) → (e : Excess) (f g : ℕ → List Row) → g k ≡ r ∷ f k → ((v : ℕ) → (v ≡ k → ⊥) → g v ≡ f v) → b.refuses e x' n' f ≡ true → b.refuses e x n g ≡ true
  pub sound : IsSound b.sides x → IsSound b.sides x'

-- No column changed its rows or the lengths of its parts.
pub record BankStayed (b : Bank) (x x' : Content) : Type 0 where
  pub same : (v : ℕ) → b.table x' v ≡ b.table x v
  pub lengths_same : lengths x' ≡ lengths x
  pub rooms : (n : ℕ → ℕ) → ((v : ℕ) → v < b.size → n v ≤ length (b.table x v)) → b.room x' n ≡ b.room x n
  pub limits : (n : ℕ → ℕ) → ((v : ℕ) → v < b.size → n v ≤ length (b.table x v)) → (e : Excess) (f : ℕ → List Row) → b.refuses e x' n f ≡ b.refuses e x n f
  pub sound : IsSound b.sides x → IsSound b.sides x'

-- The column of variant k refused r, with a justified error.
pub record BankRefused (b : Bank) (x x' : Content) (k : ℕ) (r : Row) (error : GrowError) : Type 0 where
  pub stayed : BankStayed b x x'
  pub format : Format
  pub content : Content
  pub cause : IsTrueOf error format content (r ∷ [])
  pub passes : (e : Excess) (n : ℕ → ℕ) (f : ℕ → List Row) → ((v : ℕ) → v < b.size → n v ≡ length (b.table x v)) → f k ≡ r ∷ [] → refuses_more format e content (r ∷ []) ≡ true → b.refuses e x n f ≡ true

-- The laws of a bank of lawful formats.
pub record IsLawfulBank (b : Bank) : Type 0 where
  pub full : (c : Content) (n : ℕ → ℕ) → IsSound b.sides c → ((v : ℕ) → v < b.size → n v ≡ length (b.table c v)) → b.room c n ≡ lengths c
  pub same : (v : ℕ) → IsSame (b.alike v)
  pub kindred : (v : ℕ) → IsSame (b.kin v)
  pub related : (v : ℕ) (r s : Row) → b.alike v r s ≡ true → b.kin v r s ≡ true
  pub more : (e : Excess) (c : Content) (n : ℕ → ℕ) (f g h : ℕ → List Row) → ((v : ℕ) → h v ≡ f v ++ g v) → b.refuses e c n f ≡ true → b.refuses e c n h ≡ true

-- Each column was truncated to its first n rows, by variant.
pub record BankCut (b : Bank) (x x' : Content) (n : ℕ → ℕ) : Type 0 where
  pub front : (v : ℕ) → v < b.size → b.table x' v ≡ take (n v) (b.table x v)
  pub lengths_cut : lengths x' ≡ b.room x n
  pub rooms : (m : ℕ → ℕ) → ((v : ℕ) → v < b.size → m v ≤ n v) → b.room x' m ≡ b.room x m
  pub limits : (m : ℕ → ℕ) → ((v : ℕ) → v < b.size → m v ≤ n v) → (e : Excess) (f : ℕ → List Row) → b.refuses e x' m f ≡ b.refuses e x m f
  pub sound : IsSound b.sides x → IsSound b.sides x'
