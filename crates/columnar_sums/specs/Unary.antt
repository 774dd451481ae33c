-- Offsets in unary: for each offset a clear bit for each unit above the previous one, then a set bit.
use Rattle.std.specs.Prelude.{ℕ, zero, suc, Bool, true, false, List, [], ◌∷◌, ◌++◌, ◌+◌, ◌-◌, ◌||◌, ◌&&◌, nat_lt, take, drop, map}
use Rattle.columnar_core.specs.Row.{Row, number, truth, row_eq}
use Rattle.columnar_core.specs.Format.{Format, Content, Fault, fault, unless, Excess, too_many, misplaced}
use Rattle.columnar_core.specs.Bounds.{numbers, last_or}
use Rattle.columnar_sums.specs.Counting.{ones}
use Rattle.columnar_sums.specs.RankColumns.{Standing}

-- the truth value of a row; false for any other row
abbrev pub is_set : Row → Bool
is_set (truth b) = b
is_set _ = false

-- the bits of a column of truth values
abbrev pub unary_bits : Format → Content → List Bool
unary_bits f c = map is_set (f.rows c)

-- the number of clear bits before each set bit, starting from n
abbrev pub ends_of : ℕ → List Bool → List ℕ
ends_of n [] = []
ends_of n (true ∷ bs) = n ∷ ends_of n bs
ends_of n (false ∷ bs) = ends_of (n + 1) bs

-- the number of clear bits, starting from n
abbrev pub falses : ℕ → List Bool → ℕ
falses n [] = n
falses n (true ∷ bs) = falses n bs
falses n (false ∷ bs) = falses (n + 1) bs

-- the last bit; b if there is none
abbrev pub last_bit : Bool → List Bool → Bool
last_bit b [] = b
last_bit b (c ∷ bs) = last_bit c bs

-- the number of bits up to the k-th set bit
abbrev pub upto : List Bool → ℕ → ℕ
upto bs zero = 0
upto [] (suc k) = 0
upto (true ∷ bs) (suc k) = upto bs k + 1
upto (false ∷ bs) (suc k) = upto bs (suc k) + 1

abbrev pub all_false : ℕ → List Bool
all_false zero = []
all_false (suc n) = false ∷ all_false n

-- the bits that encode offsets after an offset `from`
abbrev pub runs : ℕ → List ℕ → List Bool
runs from [] = []
runs from (n ∷ ns) = all_false (n - from) ++ true ∷ runs n ns

-- one of the offsets is below the previous one
abbrev pub falls : ℕ → List ℕ → Bool
falls from [] = false
falls from (n ∷ ns) = nat_lt n from || falls n ns

abbrev pub is_misplaced : Excess → Bool
is_misplaced too_many = false
is_misplaced misplaced = true

-- the last of the first n offsets
abbrev pub unary_end : Format → Content → ℕ → ℕ
unary_end f c n = last_or 0 (take n (ends_of 0 (unary_bits f c)))

-- the bits refuse the runs, or an offset is below the previous one
abbrev pub unary_refuses : Format → Excess → Content → ℕ → List Row → Bool
unary_refuses f e c n rs = f.refuses e c (upto (unary_bits f c) n) (map truth (runs (unary_end f c n) (numbers rs))) || (is_misplaced e && falls (unary_end f c n) (numbers rs))

-- the bits' rules, then that the last bit is set
abbrev pub unary_broken : Format → Content → List Fault
unary_broken f c = f.broken c ++ unless (last_bit true (unary_bits f c)) (fault 11 0)

-- offsets over a column of truth values
abbrev pub unary : Format → Format
unary f = record {
  count = f.count;
  sizes = f.sizes;
  aligns = f.aligns;
  turns = f.turns;
  broken = unary_broken f;
  rows = λ c. map number (ends_of 0 (unary_bits f c));
  extent = λ c n. f.extent c (upto (unary_bits f c) n);
  build = f.build;
  alike = row_eq;
  kin = row_eq;
  refuses = unary_refuses f;
}

-- the state of an iteration over offsets: the remaining ones, and the number of the loaded word
pub record EndsLeft : Type 0 where
  pub left : List ℕ
  pub word : ℕ

abbrev pub ends_left : List ℕ → ℕ → EndsLeft
ends_left ns n = record { left = ns; word = n }

-- the offsets whose set bits are not before the cursor
abbrev pub ends_after : Standing → List ℕ
ends_after s = drop (ones s.bits s.pos) (ends_of 0 s.bits)
