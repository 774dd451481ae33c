-- The table of a store.
use Rattle.std.specs.Prelude.{ℕ, zero, suc, Bool, true, List, [], ◌∷◌, ◌++◌, ◌≡◌, ◌⊎◌, ◌-◌, ◌==◌, ◌&&◌, length, slice_range, Option, codes, decimal, replicate, if◌then◌else◌}
use Rattle.std.specs.Io.KnownBytes.{Keeps}
use Rattle.columnar_bytes.specs.StructureFaults.{IsFirstBroken}
use Rattle.columnar_core.specs.Bytes.{rounded}
use Rattle.columnar_core.specs.Faults.{fault_number, fault_slice}
use Rattle.columnar_core.specs.Frame.{IsStore, end_of, slice_count, start_of}
use Rattle.columnar_core.specs.declared.fault.StoreFault.{StoreFault}
use Rattle.columnar_tool.specs.Told.{Prints}

-- the number, with blanks before it up to this width
abbrev pub right : ℕ → ℕ → List ℕ
right width n = replicate (width - length (decimal n)) 32 ++ decimal n

abbrev pub all_zero : List ℕ → Bool
all_zero [] = true
all_zero (b ∷ bs) = (b == 0) && all_zero bs

abbrev pub zero_text : List ℕ → List ℕ
zero_text bs = if all_zero bs then codes " zero" else codes ", not all zero"

-- the number of bytes of a padding, and whether they are zero
abbrev pub padding_text : List ℕ → List ℕ
padding_text bs = if length bs == 0 then [] else codes "  " ++ (decimal (length bs) ++ zero_text bs)

-- where a slice begins and ends, and its number of bytes
abbrev pub columns_text : ℕ → ℕ → List ℕ
columns_text begin end = codes " " ++ (right 11 begin ++ (codes " " ++ (right 11 end ++ (codes " " ++ right 11 (end - begin)))))

abbrev pub end_text : List ℕ → List ℕ
end_text padding = padding_text padding ++ codes "\n"

-- the line of a slice
abbrev pub row_text : ℕ → ℕ → ℕ → List ℕ → List ℕ
row_text i begin end padding = right 5 i ++ (columns_text begin end ++ end_text padding)

-- the lines before those of the slices, and the line after them
abbrev pub head_text : ℕ → ℕ → List ℕ
head_text size count = codes "store: " ++ (decimal size ++ (codes " bytes, " ++ (decimal count ++ codes " slices\nslice       begin         end       bytes  padding\n")))

abbrev pub tail_text : ℕ → List ℕ
tail_text size = codes "after the last slice: " ++ (decimal size ++ codes " bytes\n")

-- the line of a broken rule
abbrev pub refused_text : ℕ → ℕ → List ℕ → List ℕ
refused_text rule slice why = codes "refused: " ++ (decimal rule ++ (codes " in slice " ++ (decimal slice ++ (codes ": " ++ (why ++ codes "\n")))))

-- the line tells this fault, in some words
abbrev pub IsRefusal : StoreFault → List ℕ → Type 0
IsRefusal fault line = (why : List ℕ) × (line ≡ refused_text (fault_number fault) (fault_slice fault) why)

-- the line of slice i of a store; the padding after it ends at a multiple of eight
abbrev pub row_of : List ℕ → ℕ → List ℕ
row_of bytes i = row_text i (start_of bytes i) (end_of bytes i) (slice_range bytes (end_of bytes i) (rounded (end_of bytes i)))

-- the lines of the first slices
abbrev pub rows_text : List ℕ → ℕ → List ℕ
rows_text bytes zero = []
rows_text bytes (suc i) = rows_text bytes i ++ row_of bytes i

abbrev pub table_text : List ℕ → List ℕ
table_text bytes = head_text (length bytes) (slice_count bytes) ++ (rows_text bytes (slice_count bytes) ++ tail_text (length bytes - start_of bytes (slice_count bytes)))

-- The table of a store was printed, or the program failed after a beginning of it; of other bytes, the first rule of the
-- structure that they break, or memory failed and nothing was printed.
pub record ShowsTable (bytes : List ℕ) (status : ℕ) (before after : Option (List ℕ)) : Type 0 where
  pub shown : IsStore bytes → Prints (table_text bytes) 0 status before after
  pub refused : ¬ IsStore bytes → (status ≡ 1) × (((fault : StoreFault) × ((line : List ℕ) × (IsFirstBroken bytes (slice_count bytes) fault × (IsRefusal fault line × Prints line 1 status before after)))) ⊎ Keeps before after)
