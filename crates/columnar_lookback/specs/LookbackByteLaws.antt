-- The results of the test of lookbacks.
use Rattle.std.proofs.Common.{◌≡◌, ℕ, suc, ◌+◌, ◌-◌, ◌*◌, ◌^◌, ◌<◌, ◌≤◌, Bool, true, false, List, [], ◌∷◌, length, take, drop, refl, ◌∙◌, ap, arith}
use Rattle.std.specs.Prelude.{slice_get, Some, None, map, not}
use Rattle.std.specs.Int.{w8}
use Rattle.std.proofs.Math.Nat.{mod-eq_of_lt}
use Rattle.std.proofs.lemmas.List.{length-map, length-take-le, drop-drop}
use Rattle.columnar_base.specs.Row.{Row, truth, ok, err}
use Rattle.columnar_base.specs.Format.{Format, Content, Fault, fault, both, first, moved, IsSound, Fits, bytes_held}
use Rattle.columnar_base.specs.FaultLaws.{fits_from}
use Rattle.columnar_base.specs.ChangeLaws.{slice_get_some}
use Rattle.columnar_base.specs.Numbers.{unsigned_row}
use Rattle.columnar_base.specs.TwoPartsLaws.{two_turns, two_fits_left}
use Rattle.columnar_sums.specs.Counting.{ones}
use Rattle.columnar_sums.specs.RankColumns.{ranks_bits, ranks_format}
use Rattle.columnar_base.specs.WordViewLaws.{length-words_in}
use Rattle.columnar_bits.specs.BoolLaws.{bits_length}
use Rattle.columnar_sums.specs.RankLaws.{ranks_parts, ranks_form}
use Rattle.columnar_sums.specs.Results.{turned, zeros, weave_results, results_format}
use Rattle.columnar_sums.specs.ResultLaws.{results_two}
use Rattle.columnar_sums.specs.WeaveLaws.{ones_most, ones_before, bit_of_row}
use Rattle.columnar_sums.specs.WeaveBothLaws.{ones_zeros, zeros_all, turned_at, weave_ok, weave_err}
use Rattle.columnar_lookback.specs.Recall.{latest, reaches}
use Rattle.columnar_lookback.specs.RecallLaws.{recall_fine, recall_fault, recall_own, reaches_next, reaches_not}
use Rattle.columnar_lookback.specs.LatestLaws.{onto, length-onto}
use Rattle.columnar_lookback.specs.RepeatLaws.{ones_set, ones_clear}
use Rattle.columnar_lookback.specs.Lookbacks.{distance, lookbacks_code, lookbacks_format}
use Rattle.columnar_lookback.specs.LookbackLaws.{latest_first}

-- as many values as set bits, as many distances as clear bits
pub record CountsLevel (b : List Bool) (vs ws : List Row) : Type 0 where
  pub values : ones b (length b) ≡ length vs
  pub distances : zeros b (length b) ≡ length ws

-- the number of values up to row i
latest_count : (b : List Bool) (vs ws : List Row) (i : ℕ) → CountsLevel b vs ws → i < length b → length (latest lookbacks_code [] (take (suc i) (weave_results b vs ws))) ≡ ones b (i + 1)
latest_count b vs ws i l h =
    let j : i + 1 ≡ suc i = omega arith in
    let p = ones_most b (suc i) (omega (arith, h)) in
    let n = length-map b not in
    let q = ones_most (turned b) (suc i) (omega (arith, h, n)) in
    let r = zeros_all b in
    let c : ones b (suc i) ≤ length vs = omega (arith, p, l.values) in
    let d : zeros b (suc i) ≤ length ws = omega (arith, q, r, l.distances) in
    let m = length-onto (take (ones b (suc i)) vs) [] in
    let k = length-take-le (ones b (suc i)) vs c in
    rw j (ap length (latest_first b vs ws (suc i) c d) ∙ omega (arith, m, k))

-- the value at a set bit
pub reach_set : (b : List Bool) (vs ws : List Row) (i : ℕ) → CountsLevel b vs ws → i < length b → slice_get (map truth b) i ≡ Some (truth true) → reaches lookbacks_code [] (take i (weave_results b vs ws)) ≡ true → reaches lookbacks_code [] (take (i + 1) (weave_results b vs ws)) ≡ true
reach_set b vs ws i l h g p =
    let j : i + 1 ≡ suc i = omega arith in
    let a = bit_of_row b i true g in
    let v = slice_get_some vs (ones b i) (omega (arith, ones_before b i a, l.values)) in
    let n = latest_count b vs ws i l h in
    rw j (reaches_next lookbacks_code [] (weave_results b vs ws) i (ok v.0) (weave_ok i b vs ws v.0 a v.1) (omega (arith, n, ones_set b i g)) p)

-- the distance at a clear bit, after `values` values
abbrev AtClear : List Bool → List Row → ℕ → ℕ → ℕ → Type 0
AtClear b ws i values m =
    (slice_get (map truth b) i ≡ Some (truth false)) × ((values ≡ ones b i) × ((m < 2 ^ 8) × (slice_get ws (i - values) ≡ Some (unsigned_row w8 m))))

at_clear : (b : List Bool) (vs ws : List Row) (i values m : ℕ) → i < length b → AtClear b ws i values m → slice_get (weave_results b vs ws) i ≡ Some (err (unsigned_row w8 m))
at_clear b vs ws i values m h c =
    let z = ones_zeros b i (omega (arith, h)) in
    let e : i - values ≡ zeros b i = omega (arith, z, c.1.0) in
    weave_err i b vs ws (unsigned_row w8 m) (bit_of_row b i false c.0) (rw e at c.1.1.1)

pub reach_clear : (b : List Bool) (vs ws : List Row) (i values m : ℕ) → CountsLevel b vs ws → i < length b → AtClear b ws i values m → m < values → reaches lookbacks_code [] (take i (weave_results b vs ws)) ≡ true → reaches lookbacks_code [] (take (i + 1) (weave_results b vs ws)) ≡ true
reach_clear b vs ws i values m l h c k p =
    let j : i + 1 ≡ suc i = omega arith in
    let u = at_clear b vs ws i values m h c in
    let w : distance (err (unsigned_row w8 m)) ≡ m = mod-eq_of_lt c.1.1.0 in
    let n = latest_count b vs ws i l h in
    rw j (reaches_next lookbacks_code [] (weave_results b vs ws) i (err (unsigned_row w8 m)) u (omega (arith, n, w, k, c.1.0, ones_clear b i c.0)) p)

pub reach_stops : (b : List Bool) (vs ws : List Row) (i values m : ℕ) → CountsLevel b vs ws → i < length b → AtClear b ws i values m → values ≤ m → false ≡ reaches lookbacks_code [] (weave_results b vs ws)
reach_stops b vs ws i values m l h c k =
    let u = at_clear b vs ws i values m h c in
    let w : distance (err (unsigned_row w8 m)) ≡ m = mod-eq_of_lt c.1.1.0 in
    let n = latest_count b vs ws i l h in
    reaches_not lookbacks_code [] (weave_results b vs ws) i (err (unsigned_row w8 m)) u (omega (arith, n, w, k, c.1.0, ones_clear b i c.0))

-- there is a distance for each clear bit
pub distance_there : (b : List Bool) (ws : List Row) (i values : ℕ) → zeros b (length b) ≡ length ws → i < length b → slice_get (map truth b) i ≡ Some (truth false) → values ≡ ones b i → i - values < length ws
distance_there b ws i values l h g e =
    let z = ones_zeros b i (omega (arith, h)) in
    let a = ones_before (turned b) i (turned_at b i false (bit_of_row b i false g)) in
    let r = zeros_all b in
    omega (arith, z, a, r, l, e)

-- bytes

-- at most eight rows for each byte of the bits and their counts
pub rows_of_bytes : (x : Content) → IsSound ranks_format x → length (ranks_bits x) ≤ 8 * bytes_held x
rows_of_bytes x s =
    let f = ranks_form x s in
    let p = ranks_parts (rw f.is at s) in
    let n = bits_length f.values f.tail in
    let w = length-words_in f.values in
    rw f.is (omega (arith, n, w, p.bools.few, p.bools.two))

pub lookbacks_fine : (t d : Format) (x y z : Content) (at : ℕ) → None ≡ first (moved at ((results_format t d).broken (both x (both y z)))) → reaches lookbacks_code [] (weave_results (ranks_bits x) (t.rows y) (d.rows z)) ≡ true → None ≡ first (moved at ((lookbacks_format t d).broken (both x (both y z))))
lookbacks_fine t d x y z at h r = recall_fine lookbacks_code t.kin (results_format t d) (both x (both y z)) at h r

pub lookbacks_fault : (t d : Format) (x y z : Content) (at : ℕ) (f : Fault) → Some f ≡ first (moved at ((results_format t d).broken (both x (both y z)))) → Some f ≡ first (moved at ((lookbacks_format t d).broken (both x (both y z))))
lookbacks_fault t d x y z at f h = recall_fault lookbacks_code t.kin (results_format t d) (both x (both y z)) at f h

pub lookbacks_own : (t d : Format) (x y z : Content) (at : ℕ) → None ≡ first (moved at ((results_format t d).broken (both x (both y z)))) → reaches lookbacks_code [] (weave_results (ranks_bits x) (t.rows y) (d.rows z)) ≡ false → Some (fault 15 at) ≡ first (moved at ((lookbacks_format t d).broken (both x (both y z))))
lookbacks_own t d x y z at h r = recall_own lookbacks_code t.kin (results_format t d) (both x (both y z)) at h r

-- the slices of the distances
pub distances_at : (t d : Format) (o : ℕ) (ss : List (List ℕ)) → d.rows (d.build (drop (o + 3 + t.count) ss)) ≡ d.rows (d.build (drop t.count (drop 3 (drop o ss))))
distances_at t d o ss =
    let e : drop 3 (drop o ss) ≡ drop (o + 3) ss = drop-drop 3 o ss in
    let f : drop t.count (drop (o + 3) ss) ≡ drop (o + 3 + t.count) ss = drop-drop t.count (o + 3) ss in
    rw (e, f) refl

pub results_judged : (t d : Format) (o : ℕ) (ss : List (List ℕ)) → o + (results_format t d).count ≤ length ss → None ≡ first (moved o ((results_format t d).broken ((results_format t d).build (drop o ss)))) → Fits (results_format t d) o ss
results_judged t d o ss l h = fits_from (results_format t d) o ss l h

pub bits_fit : (t d : Format) (o : ℕ) (ss : List (List ℕ)) → Fits (results_format t d) o ss → Fits ranks_format o ss
bits_fit t d o ss f = two_fits_left (results_two t d) o ss f

-- at most 16 steps for each byte: 5 for the bits, 8 for their rows, and those of the parts
pub lookbacks_turns : (ra rb old mid new m n o k : ℕ) → mid ≤ old + (5 * m + (ra * n + rb * o)) → new ≤ mid + k → k ≤ 8 * m → ra ≤ 16 → rb ≤ 16 → new ≤ old + 16 * (m + (n + o))
lookbacks_turns ra rb old mid new m n o k p q l a b =
    let t = two_turns 16 ra rb n o a b in
    omega arith

-- the steps of the parts, for the slices of the store
pub held_at : (t d : Format) (o : ℕ) (ss : List (List ℕ)) (new old : ℕ) → new ≤ old + (5 * bytes_held (ranks_format.build (drop o ss)) + (t.turns * bytes_held (t.build (drop (o + 3) ss)) + d.turns * bytes_held (d.build (drop (o + 3 + t.count) ss)))) → new ≤ old + (5 * bytes_held (ranks_format.build (drop o ss)) + (t.turns * bytes_held (t.build (drop 3 (drop o ss))) + d.turns * bytes_held (d.build (drop t.count (drop 3 (drop o ss))))))
held_at t d o ss new old h =
    let e : drop 3 (drop o ss) ≡ drop (o + 3) ss = drop-drop 3 o ss in
    let f : drop t.count (drop (o + 3) ss) ≡ drop (o + 3 + t.count) ss = drop-drop t.count (o + 3) ss in
    rw (e, f) h

-- facts about bits and distances that were read hold for their slices

pub level_at : {x' x : Content} {ws' ws : List Row} → x' ≡ x → ws' ≡ ws → zeros (ranks_bits x) (length (ranks_bits x)) ≡ length ws → zeros (ranks_bits x') (length (ranks_bits x')) ≡ length ws'
level_at p q h = rw (p, q) h

pub reached_at : {x' x : Content} {ws' ws : List Row} (z : Bool) → x' ≡ x → ws' ≡ ws → ((vs : List Row) → ones (ranks_bits x') (length (ranks_bits x')) ≡ length vs → z ≡ reaches lookbacks_code [] (weave_results (ranks_bits x') vs ws')) → (vs : List Row) → ones (ranks_bits x) (length (ranks_bits x)) ≡ length vs → z ≡ reaches lookbacks_code [] (weave_results (ranks_bits x) vs ws)
reached_at z p q f = rw (← p, ← q) f

pub turns_at : {x' x : Content} (new old : ℕ) → x' ≡ x → new ≤ old + length (ranks_bits x') → new ≤ old + length (ranks_bits x)
turns_at new old p h = rw (← p) h
