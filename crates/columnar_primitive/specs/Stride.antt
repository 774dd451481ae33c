-- Columns of offsets: multiples of a stride as long as they can, then explicit offsets.
use Rattle.std.specs.Prelude.{ℕ, Bool, true, List, [], ◌∷◌, ◌++◌, length, take, drop, ◌+◌, ◌-◌, ◌*◌, ◌^◌, ◌&&◌, ◌||◌, cond, nat_eq, nat_le, Option, Some, None, slice_index}
use Rattle.columnar_core.specs.Row.{Row, row_eq}
use Rattle.columnar_core.specs.Format.{Format, Content, slice, both, part, plain, Fault, fault, moved, unless, misfit}
use Rattle.columnar_core.specs.Elements.{elements_broken, elements_rows, first_slice, past_count, word_row_of}
use Rattle.columnar_core.specs.Bytes.{word, le_bytes}
use Rattle.columnar_core.specs.WordViews.{bytes_of}
use Rattle.columnar_core.specs.Bounds.{numbers}
use Rattle.columnar_primitive.specs.Multiples.{multiples}

-- a head is two words: the stride, and the number of offsets that follow it
abbrev pub head_broken : Content → List Fault
head_broken (slice bs) = unless (nat_eq (length bs) 16) (fault 9 0)
head_broken (both x y) = misfit
head_broken (part l u x) = misfit
head_broken (plain rs) = misfit

abbrev pub stride_of : Content → ℕ
stride_of x = word (bytes_of x) 0

abbrev pub length_of : Content → ℕ
length_of x = word (bytes_of x) 1

-- the explicit offsets
abbrev pub bounds_rows : Content → List Row
bounds_rows y = elements_rows 8 word_row_of y

-- the last multiple fits a word, and so does the number of all offsets
abbrev pub stride_fits : Content → Bool
stride_fits x = nat_le (stride_of x * length_of x) (2 ^ 64 - 1)

abbrev pub length_fits : Content → Content → Bool
length_fits x y = nat_le (length_of x + length (bounds_rows y)) (2 ^ 64 - 1)

abbrev pub strides_broken : Content → List Fault
strides_broken (both x y) = head_broken x ++ (moved 1 (elements_broken 8 y) ++ (unless (stride_fits x) (fault 16 0) ++ unless (length_fits x y) (fault 19 0)))
strides_broken (slice bs) = misfit
strides_broken (part l u x) = misfit
strides_broken (plain rs) = misfit

abbrev pub strides_rows : Content → List Row
strides_rows (both x y) = multiples (stride_of x) 0 (length_of x) ++ bounds_rows y
strides_rows (slice bs) = []
strides_rows (part l u x) = []
strides_rows (plain rs) = []

-- the head, and the explicit offsets among the first n
abbrev pub strides_extent : Content → ℕ → List ℕ
strides_extent (both x y) n = 16 ∷ 8 * (n - length_of x) ∷ []
strides_extent (slice bs) n = []
strides_extent (part l u x) n = []
strides_extent (plain rs) n = []

-- a head, then the explicit offsets
abbrev pub strides_format : Format
strides_format = record {
  count = 2;
  sizes = 8 ∷ 8 ∷ [];
  aligns = 8 ∷ 8 ∷ [];
  turns = 0;
  broken = strides_broken;
  rows = strides_rows;
  extent = strides_extent;
  build = λ ss. both (first_slice ss) (first_slice (drop 1 ss));
  alike = row_eq;
  kin = row_eq;
  refuses = λ e c n rs. past_count e (n + length rs);
}

-- the head's stride, if there are no explicit offsets
abbrev pub strided : Content → Option ℕ
strided (both x y) = cond (nat_eq (length (bounds_rows y)) 0) (Some (stride_of x)) None
strided (slice bs) = None
strided (part l u x) = None
strided (plain rs) = None

-- the content of an owned column, by its words
abbrev pub head_and_bounds : List ℕ → List ℕ → Content
head_and_bounds head bounds = both (slice (le_bytes head)) (slice (le_bytes bounds))

-- an offset joins the multiples if it is the first or the next one, and there are no explicit offsets
abbrev pub follows : ℕ → ℕ → ℕ → Bool
follows s n x = nat_eq n 0 || nat_eq x (s * (n + 1))

abbrev pub joins : List ℕ → List ℕ → ℕ → Bool
joins head bounds x = nat_eq (length bounds) 0 && follows (slice_index head 0) (slice_index head 1) x

-- the head with one more offset: the first is the stride
abbrev pub grown : ℕ → ℕ → ℕ → List ℕ
grown s n x = cond (nat_eq n 0) (x ∷ 1 ∷ []) (s ∷ (n + 1) ∷ [])

-- the head and the bounds after the push of an offset
abbrev pub head_pushed : List ℕ → List ℕ → ℕ → List ℕ
head_pushed head bounds x = cond (joins head bounds x) (grown (slice_index head 0) (slice_index head 1) x) head

abbrev pub bounds_pushed : List ℕ → List ℕ → ℕ → List ℕ
bounds_pushed head bounds x = cond (joins head bounds x) bounds (bounds ++ x ∷ [])

-- the offsets of a range of rows
abbrev pub offsets_in : Content → ℕ → ℕ → List ℕ
offsets_in c from to = numbers (take (to - from) (drop from (strides_rows c)))

-- the head and the bounds after pushes of offsets in order
abbrev pub head_extended : List ℕ → List ℕ → List ℕ → List ℕ
head_extended head bounds [] = head
head_extended head bounds (x ∷ xs) = head_extended (head_pushed head bounds x) (bounds_pushed head bounds x) xs

abbrev pub bounds_extended : List ℕ → List ℕ → List ℕ → List ℕ
bounds_extended head bounds [] = bounds
bounds_extended head bounds (x ∷ xs) = bounds_extended (head_pushed head bounds x) (bounds_pushed head bounds x) xs

-- whether all of these offsets, pushed in order, join the multiples
abbrev pub all_join : List ℕ → List ℕ → List ℕ → Bool
all_join head bounds [] = true
all_join head bounds (x ∷ xs) = joins head bounds x && all_join (head_pushed head bounds x) (bounds_pushed head bounds x) xs

-- the head and the bounds of the first n offsets
abbrev pub head_cut : List ℕ → ℕ → List ℕ
head_cut head n = cond (nat_le n (slice_index head 1)) (slice_index head 0 ∷ n ∷ []) head

abbrev pub bounds_cut : List ℕ → List ℕ → ℕ → List ℕ
bounds_cut head bounds n = take (n - slice_index head 1) bounds
