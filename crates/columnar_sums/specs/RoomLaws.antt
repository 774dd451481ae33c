use Rattle.std.specs.Prelude.{min}
use Rattle.std.proofs.Math.Seq.{take-length}
use Rattle.std.proofs.Common.{◌≡◌, ℕ, ◌+◌, ◌-◌, ◌*◌, ◌/◌, ◌%◌, ◌≤◌, ◌<◌, Bool, List, [], ◌∷◌, ◌++◌, length, take, drop, map, refl, sym, ◌∙◌, ap, arith, length-append, length-take, length-drop}
use Rattle.std.proofs.lemmas.List.{length-map}
use Rattle.columnar_core.specs.Row.{Row, truth}
use Rattle.columnar_core.specs.Room.{up_to_count}
use Rattle.columnar_core.specs.RoomLaws.{Counted}
use Rattle.columnar_bits.specs.Rooms.{count_room, bits_top}
use Rattle.columnar_sums.specs.Counting.{ones}
use Rattle.columnar_sums.specs.Options.{weave, somes}
use Rattle.columnar_sums.specs.WeaveLaws.{ones_range, length-weave, weave-range, somes-append, somes-weave}
use Rattle.columnar_sums.specs.Results.{zeros, weave_results, oks, errs}
use Rattle.columnar_sums.specs.WeaveBothLaws.{zeros_range, length-weave_results, weave_results-range, oks-append, errs-append, oks-woven, errs-woven}
use Rattle.columnar_sums.specs.Rooms.{ranks_top}

-- bits with counts

pub full_of_words : (words counts n : ℕ) → bits_top words ≤ n → ranks_top words counts ≤ n
full_of_words words counts n h = omega (arith, h)

pub full_of_counts : (words counts n : ℕ) → 1024 * (counts + 1) ≤ n → ranks_top words counts ≤ n
full_of_counts words counts n h = omega (arith, h)

pub ranks_more : (words counts words' counts' : ℕ) → words ≤ words' → counts ≤ counts' → ranks_top words counts ≤ ranks_top words' counts'
ranks_more words counts words' counts' p q = omega (arith, p, q)

-- after `len` chunks and `have` bits, capacity for the chunks that k bits complete is room for k bits
pub counts_reserved : (len have cap k n : ℕ) → n ≡ 1024 * len + have → have < 1024 → len + (k / 1024 + (k % 1024 + have) / 1024) ≤ cap → (m : ℕ) → m ≤ k → n + m < 1024 * (cap + 1)
counts_reserved len have cap k n e f h m l = omega (arith, e, f, h, l)

pub ranks_reserved : (n words counts : ℕ) (rs : List Row) → count_room n (bits_top words) rs → n + length rs < 1024 * (counts + 1) → count_room n (ranks_top words counts) rs
ranks_reserved n words counts rs p q = omega (arith, p, q)

pub count_counted : (n top : ℕ) → Counted (count_room n top)
count_counted n top rs ss e h = omega (arith, e, h)

-- the rows from n on, as a range
rest_of : {A : Type 0} (n : ℕ) (xs : List A) → take (length xs - n) (drop n xs) ≡ drop n xs
rest_of n xs = let e : length xs - n ≡ length (drop n xs) = sym (length-drop n xs) in rw e (take-length (drop n xs))

-- the values of a range of options, and of those from n on

pub somes_range : (b : List Bool) (vs : List Row) (start end : ℕ) → ones b (length b) ≡ length vs → start ≤ end → end ≤ length b → (rs : List Row) → somes (take (end - start) (drop start (weave b vs)) ++ rs) ≡ take (ones b end - ones b start) (drop (ones b start) vs) ++ somes rs
somes_range b vs start end l o m rs =
    let d : end ≡ start + (end - start) = omega arith in
    let w = weave-range b vs start (end - start) (ones b start) (ones b end) refl (ap (ones b) d) in
    let v = somes-weave (take (end - start) (drop start b)) (take (ones b end - ones b start) (drop (ones b start) vs)) (ones_range b vs start end l o m) in
    rw (← w, somes-append, v) refl

pub somes_rest : (b : List Bool) (vs : List Row) (n : ℕ) → ones b (length b) ≡ length vs → n ≤ length b → (rs : List Row) → somes (drop n (weave b vs) ++ rs) ≡ drop (ones b n) vs ++ somes rs
somes_rest b vs n l m rs =
    let p = somes_range b vs n (length b) l m (omega arith) rs in
    let w : take (length b - n) (drop n (weave b vs)) ≡ drop n (weave b vs) = rw (length-weave b vs) at (rest_of n (weave b vs)) in
    let v : take (ones b (length b) - ones b n) (drop (ones b n) vs) ≡ drop (ones b n) vs = rw (← l) at (rest_of (ones b n) vs) in
    rw (w, v) at p

pub somes_all : (b : List Bool) (vs : List Row) → ones b (length b) ≡ length vs → (rs : List Row) → somes (weave b vs ++ rs) ≡ vs ++ somes rs
somes_all b vs l rs = rw (somes-append, somes-weave b vs l) refl

-- the same of results

pub oks_range : (b : List Bool) (vs ws : List Row) (start end : ℕ) → ones b (length b) ≡ length vs → start ≤ end → end ≤ length b → (rs : List Row) → oks (take (end - start) (drop start (weave_results b vs ws)) ++ rs) ≡ take (ones b end - ones b start) (drop (ones b start) vs) ++ oks rs
oks_range b vs ws start end l o m rs =
    let d : start + (end - start) ≡ end = omega arith in
    let w = rw d at (weave_results-range b vs ws start (end - start)) in
    let v = oks-woven (take (end - start) (drop start b)) (take (ones b end - ones b start) (drop (ones b start) vs)) (take (zeros b end - zeros b start) (drop (zeros b start) ws)) (ones_range b vs start end l o m) in
    rw (← w, oks-append, v) refl

pub errs_range : (b : List Bool) (vs ws : List Row) (start end : ℕ) → zeros b (length b) ≡ length ws → start ≤ end → end ≤ length b → (rs : List Row) → errs (take (end - start) (drop start (weave_results b vs ws)) ++ rs) ≡ take (zeros b end - zeros b start) (drop (zeros b start) ws) ++ errs rs
errs_range b vs ws start end l o m rs =
    let d : start + (end - start) ≡ end = omega arith in
    let w = rw d at (weave_results-range b vs ws start (end - start)) in
    let v = errs-woven (take (end - start) (drop start b)) (take (ones b end - ones b start) (drop (ones b start) vs)) (take (zeros b end - zeros b start) (drop (zeros b start) ws)) (zeros_range b ws start end l o m) in
    rw (← w, errs-append, v) refl

pub oks_rest : (b : List Bool) (vs ws : List Row) (n : ℕ) → ones b (length b) ≡ length vs → n ≤ length b → (rs : List Row) → oks (drop n (weave_results b vs ws) ++ rs) ≡ drop (ones b n) vs ++ oks rs
oks_rest b vs ws n l m rs =
    let p = oks_range b vs ws n (length b) l m (omega arith) rs in
    let w : take (length b - n) (drop n (weave_results b vs ws)) ≡ drop n (weave_results b vs ws) = rw (length-weave_results b vs ws) at (rest_of n (weave_results b vs ws)) in
    let v : take (ones b (length b) - ones b n) (drop (ones b n) vs) ≡ drop (ones b n) vs = rw (← l) at (rest_of (ones b n) vs) in
    rw (w, v) at p

pub errs_rest : (b : List Bool) (vs ws : List Row) (n : ℕ) → zeros b (length b) ≡ length ws → n ≤ length b → (rs : List Row) → errs (drop n (weave_results b vs ws) ++ rs) ≡ drop (zeros b n) ws ++ errs rs
errs_rest b vs ws n l m rs =
    let p = errs_range b vs ws n (length b) l m (omega arith) rs in
    let w : take (length b - n) (drop n (weave_results b vs ws)) ≡ drop n (weave_results b vs ws) = rw (length-weave_results b vs ws) at (rest_of n (weave_results b vs ws)) in
    let v : take (zeros b (length b) - zeros b n) (drop (zeros b n) ws) ≡ drop (zeros b n) ws = rw (← l) at (rest_of (zeros b n) ws) in
    rw (w, v) at p

pub oks_all : (b : List Bool) (vs ws : List Row) → ones b (length b) ≡ length vs → (rs : List Row) → oks (weave_results b vs ws ++ rs) ≡ vs ++ oks rs
oks_all b vs ws l rs = rw (oks-append, oks-woven b vs ws l) refl

pub errs_all : (b : List Bool) (vs ws : List Row) → zeros b (length b) ≡ length ws → (rs : List Row) → errs (weave_results b vs ws ++ rs) ≡ ws ++ errs rs
errs_all b vs ws l rs = rw (errs-append, errs-woven b vs ws l) refl

pub somes_after : (b : List Bool) (vs : List Row) → ones b (length b) ≡ length vs → (rs : List Row) → somes (rs ++ weave b vs) ≡ somes rs ++ vs
somes_after b vs l rs = rw (somes-append, somes-weave b vs l) refl

pub oks_after : (b : List Bool) (vs ws : List Row) → ones b (length b) ≡ length vs → (rs : List Row) → oks (rs ++ weave_results b vs ws) ≡ oks rs ++ vs
oks_after b vs ws l rs = rw (oks-append, oks-woven b vs ws l) refl

pub errs_after : (b : List Bool) (vs ws : List Row) → zeros b (length b) ≡ length ws → (rs : List Row) → errs (rs ++ weave_results b vs ws) ≡ errs rs ++ ws
errs_after b vs ws l rs = rw (errs-append, errs-woven b vs ws l) refl

-- a count is enough for as many other rows
pub up_to_counted : (n : ℕ) → Counted (up_to_count n)
up_to_counted n rs ss e h = λ m. let k = h m in omega (arith, e, k)

-- there are as many rows as bits, in a range too

same_range : (start n : ℕ) (rs ss : List Row) → length rs ≡ length ss → length (take n (drop start rs)) ≡ length (take n (drop start ss))
same_range start n rs ss e =
    let a = length-take n (drop start rs) in
    let b = length-take n (drop start ss) in
    let c = length-drop start rs in
    let d = length-drop start ss in
    omega (arith, a, b, c, d, e)

pub options_level : (b : List Bool) (vs : List Row) → length (weave b vs) ≡ length (map truth b)
options_level b vs = length-weave b vs ∙ sym (length-map b truth)

pub results_level : (b : List Bool) (vs ws : List Row) → length (weave_results b vs ws) ≡ length (map truth b)
results_level b vs ws = length-weave_results b vs ws ∙ sym (length-map b truth)

pub options_level_range : (b : List Bool) (vs : List Row) (start n : ℕ) → length (take n (drop start (weave b vs))) ≡ length (take n (drop start (map truth b)))
options_level_range b vs start n = same_range start n (weave b vs) (map truth b) (options_level b vs)

pub results_level_range : (b : List Bool) (vs ws : List Row) (start n : ℕ) → length (take n (drop start (weave_results b vs ws))) ≡ length (take n (drop start (map truth b)))
results_level_range b vs ws start n = same_range start n (weave_results b vs ws) (map truth b) (results_level b vs ws)
