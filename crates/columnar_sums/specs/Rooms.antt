-- Room for bits with counts, and for rows that a bit marks.
use Rattle.std.specs.Prelude.{ℕ, Bool, List, length, ◌+◌, ◌*◌, min, vec_capacity}
use Rattle.columnar_core.specs.Row.{Row}
use Rattle.columnar_bits.specs.Rooms.{bits_top, count_room}
use Rattle.columnar_sums.specs.Options.{somes}
use Rattle.columnar_sums.specs.Results.{oks, errs}
use Rattle.columnar_sums.specs.RankColumns.{OwnedRanks, bits_ranked}
use Rattle.columnar_sums.specs.declared.rank_select.RankSelect.{RankSelect}

-- the number of bits for which there are too few words or counts; each 1024 bits take a count
abbrev pub ranks_top : ℕ → ℕ → ℕ
ranks_top words counts = min (bits_top words) (1024 * (counts + 1))

abbrev pub ranks_room : {C V W : Type 0} → (C → ℕ) → (V → ℕ) → (V → List ℕ) → (W → List ℕ) → RankSelect C V W → List Row → Type 0
ranks_room counts words values tail r = count_room (length (bits_ranked values tail r)) (ranks_top (words r.values.values) (counts r.counts))

abbrev pub held_top : OwnedRanks → ℕ
held_top r = ranks_top (vec_capacity r.values.values) (vec_capacity r.counts)

-- the bits have room for all rows, and the values for those that are there
abbrev pub options_room : (List Row → Type 0) → (List Row → Type 0) → List Row → Type 0
options_room b t rs = b rs × t (somes rs)

abbrev pub results_room : (List Row → Type 0) → (List Row → Type 0) → (List Row → Type 0) → List Row → Type 0
results_room b s t rs = b rs × (s (oks rs) × t (errs rs))
