-- Columns of offsets in unary over counted bits.
use Rattle.std.specs.Prelude.{ℕ, zero, suc, ◌-◌, ◌^◌, ◌<◌, ◌≤◌, List, [], ◌∷◌, ◌++◌, length, Vec}
use Rattle.columnar_sums.specs.Counting.{ones}
use Rattle.std.specs.Global.{Global}
use Rattle.columnar_core.specs.Row.{Row}
use Rattle.columnar_core.specs.Format.{Format, Content, slice}
use Rattle.columnar_core.specs.Bounds.{numbers, last_or}
use Rattle.columnar_core.specs.Elements.{words_format}
use Rattle.columnar_core.specs.WordViews.{le_bytes}
use Rattle.columnar_sums.specs.RankColumns.{ranks_format, ranks_bits, ranks_content, owned_ranks}
use Rattle.columnar_sums.specs.Unary.{unary, runs}
use Rattle.columnar_sums.specs.Rooms.{ranks_top}
use Rattle.columnar_sums.specs.declared.unaries.Unaries.{Unaries}

abbrev pub unaries_format : Format
unaries_format = unary ranks_format

-- the content of a column of offsets in unary
abbrev pub unaries_content : {C V W : Type 0} → (C → List ℕ) → (V → List ℕ) → (W → List ℕ) → Unaries C V W → Content
unaries_content counts values tail u = ranks_content counts values tail u.bits

abbrev pub owned_unaries : Unaries (Vec ℕ Global) (Vec ℕ Global) (List ℕ) → Content
owned_unaries u = owned_ranks u.bits

-- n times x
abbrev pub repeated : ℕ → ℕ → List ℕ
repeated zero x = []
repeated (suc n) x = x ∷ repeated n x

-- the number of clear bits of a column of bits
abbrev pub all_falses : Content → ℕ
all_falses x = length (ranks_bits x) - ones (ranks_bits x) (length (ranks_bits x))

-- the last offset of a column; 0 if there is none
abbrev pub last_offset : Content → ℕ
last_offset c = last_or 0 (numbers (unaries_format.rows c))

-- the offsets that words encode
abbrev pub offsets_of : List ℕ → List ℕ
offsets_of words = numbers (words_format.rows (slice (le_bytes words)))

-- Followed by these rows, the offsets take fewer than `top` bits.
abbrev pub unary_room : Content → ℕ → List Row → Type 0
unary_room c top rs = length (runs 0 (numbers (unaries_format.rows c ++ rs))) < top

abbrev pub unaries_room : {C V W : Type 0} → (C → ℕ) → (V → ℕ) → (C → List ℕ) → (V → List ℕ) → (W → List ℕ) → Unaries C V W → List Row → Type 0
unaries_room many words counts values tail u = unary_room (unaries_content counts values tail u) (ranks_top (words u.bits.values.values) (many u.bits.counts))

-- at most n bits of offsets; nothing if n is 2^64 - 1, the largest sum that is not cut
abbrev pub covers_runs : ℕ → List Row → Type 0
covers_runs n rs = n < 2 ^ 64 - 1 → length (runs 0 (numbers rs)) ≤ n
