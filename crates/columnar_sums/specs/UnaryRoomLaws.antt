-- Room for offsets in unary: how many bits offsets take.
use Rattle.std.proofs.Common.{◌≡◌, ℕ, zero, suc, ◌+◌, ◌-◌, ◌%◌, ◌^◌, ◌<◌, ◌≤◌, Bool, true, List, [], ◌∷◌, ◌++◌, length, take, drop, map, refl, sym, ◌∙◌, ap, arith, length-append, length-take, length-drop, append_assoc}
use Rattle.std.specs.Prelude.{slice_get, slice_range, Some, Result, Ok, Err, OnOk, OnErr, IfErr}
use Rattle.std.proofs.lemmas.List.{length-map, map-append, take-append-drop}
use Rattle.columnar_core.specs.Row.{Row, number, number_of, truth}
use Rattle.columnar_core.specs.Elements.{word_row}
use Rattle.columnar_core.specs.Format.{Content, slice, both, IsSound}
use Rattle.columnar_core.specs.AlikeLaws.{row_eq_exact}
use Rattle.columnar_core.specs.Change.{Took}
use Rattle.columnar_core.specs.ChangeLaws.{grew_exactly}
use Rattle.columnar_core.specs.Bounds.{numbers, last_or, shifted}
use Rattle.columnar_core.specs.Room.{WasFull, Leaves, KeepsRoom, Frees, AddsRoom, up_to_count}
use Rattle.columnar_core.specs.declared.fault.GrowError.{GrowError}
use Rattle.columnar_core.specs.declared.fault.GrowError.TheVariants.{Memory, Length, Offset, Format as FormatError}
use Rattle.columnar_bits.specs.BoolColumns.{bits_in, IsOfGrowth}
use Rattle.columnar_bits.specs.Rooms.{count_room}
use Rattle.columnar_sums.specs.RankColumns.{ranks_format, ranks_bits}
use Rattle.columnar_sums.specs.Unary.{is_set, unary_bits, ends_of, last_bit, upto, all_false, runs}
use Rattle.columnar_sums.specs.UnaryListLaws.{set_truths, upto-within, runs-append}
use Rattle.columnar_sums.specs.UnaryLaws.{unary_parts, numbers_back}
use Rattle.columnar_sums.specs.UnaryBitLaws.{length-zeros}
use Rattle.columnar_sums.specs.UnaryRangeLaws.{runs_back}
use Rattle.columnar_sums.specs.UnaryChangeLaws.{range_is, ends_are}
use Rattle.columnar_sums.specs.UnaryColumns.{unaries_format, last_offset, repeated, unary_room, covers_runs}

-- ---- the bits of offsets

-- an offset takes a bit for each unit above the one before it, and one more
pub runs-more : (from n : ℕ) (ns : List ℕ) → length (runs from (n ∷ ns)) ≡ n - from + 1 + length (runs n ns)
runs-more from n ns = length-append (all_false (n - from)) (true ∷ runs n ns) ∙ omega (arith, length-zeros (n - from))

pub runs-both : (from : ℕ) (xs ys : List ℕ) → length (runs from (xs ++ ys)) ≡ length (runs from xs) + length (runs (last_or from xs) ys)
runs-both from xs ys = ap length (runs-append from xs ys) ∙ length-append (runs from xs) (runs (last_or from xs) ys)

-- after other offsets they take no more bits than after none
pub runs-fewer : (from : ℕ) (ns : List ℕ) → length (runs from ns) ≤ length (runs 0 ns)
runs-fewer from [] = omega arith
runs-fewer from (n ∷ ns) = omega (arith, runs-more from n ns, runs-more 0 n ns)

-- shifted offsets take as many bits
runs-moved : (last from : ℕ) (ns : List ℕ) → length (runs (last + from) (numbers (shifted 0 last ns))) ≡ length (runs from ns)
runs-moved last from [] = refl
runs-moved last from (n ∷ ns) =
    let e : last + (n - 0) ≡ last + n = omega arith in
    let h = runs-moved last n ns in
    let a = runs-more (last + from) (last + n) (numbers (shifted 0 last ns)) in
    let b = runs-more from n ns in
    rw e (omega (arith, a, b, h))

pub runs-shifted : (last : ℕ) (ns : List ℕ) → length (runs last (numbers (shifted 0 last ns))) ≡ length (runs 0 ns)
runs-shifted last ns = let e : last + 0 ≡ last = omega arith in rw e at (runs-moved last 0 ns)

-- k offsets of 0 take k bits
runs-zeros : (k : ℕ) → length (runs 0 (repeated k 0)) ≡ k
runs-zeros zero = refl
runs-zeros (suc k) = let h = runs-zeros k in runs-more 0 0 (repeated k 0) ∙ omega (arith, h)

last-zeros : (k : ℕ) → last_or 0 (repeated k 0) ≡ 0
last-zeros zero = refl
last-zeros (suc k) = last-zeros k

abbrev three : List ℕ → List ℕ → List ℕ → Content
three c a b = both (slice c) (both (slice a) (slice b))

-- k offsets of 0
abbrev zeros : ℕ → List Row
zeros k = map number (repeated k 0)

-- ---- the bits of columns

rows_both : (xs ys : List Row) → length (runs 0 (numbers (xs ++ ys))) ≡ length (runs 0 (numbers xs)) + length (runs (last_or 0 (numbers xs)) (numbers ys))
rows_both xs ys = ap (λ (ns : List ℕ). length (runs 0 ns)) (map-append number_of xs ys) ∙ runs-both 0 (numbers xs) (numbers ys)

-- a column has the bits that its offsets take
pub bits_of_offsets : {c : Content} → IsSound unaries_format c → length (ranks_bits c) ≡ length (runs 0 (numbers (unaries_format.rows c)))
bits_of_offsets {c} s =
    let e = set_truths (ranks_bits c) in
    let h : last_bit true (ranks_bits c) ≡ true = rw e at (unary_parts ranks_format s).ended in
    let n : numbers (unaries_format.rows c) ≡ ends_of 0 (ranks_bits c) = numbers_back (ends_of 0 (unary_bits ranks_format c)) ∙ ap (ends_of 0) e in
    rw (n, runs_back 0 (ranks_bits c) h) refl

-- the bits of a column and those of further rows
pub bits_with : {c : Content} (rs : List Row) → IsSound unaries_format c → length (runs 0 (numbers (unaries_format.rows c ++ rs))) ≡ length (ranks_bits c) + length (runs (last_offset c) (numbers rs))
bits_with {c} rs s = omega (arith, rows_both (unaries_format.rows c) rs, bits_of_offsets s)

-- ---- room

-- Memory was wanted where these rows take the bits to `top`.
pub offsets_full : {c : Content} {e : GrowError} (top : ℕ) (rs : List Row) → IsSound unaries_format c → top ≤ length (ranks_bits c) + length (runs (last_offset c) (numbers rs)) → WasFull (unary_room c top) rs e
offsets_full {c} top rs s l = record {
  full = λ m ss h.
      let a = rows_both (unaries_format.rows c ++ rs) ss in
      let b = bits_with rs s in
      let d : length (runs 0 (numbers (unaries_format.rows c ++ (rs ++ ss)))) < top = h in
      absurd (omega (arith, l, b, a, rw (← append_assoc (unaries_format.rows c) rs ss) at d));
}

pub offsets_left : {c d : Content} (top top' : ℕ) (rs : List Row) → Took unaries_format c d rs → top ≤ top' → Leaves (unary_room c top) (unary_room d top') rs
offsets_left {c} {d} top top' rs t l = record {
  left = λ ss h.
      let e : unaries_format.rows d ++ ss ≡ unaries_format.rows c ++ (rs ++ ss) = ap (λ (us : List Row). us ++ ss) (grew_exactly row_eq_exact t).rows ∙ append_assoc (unaries_format.rows c) rs ss in
      rw e (omega (arith, l, h));
}

-- A column that was cut has room for what it lost, and then for what it had room for, as its bits have.
pub offsets_freed : (c d : Content) (n m top top' : ℕ) → unaries_format.rows d ≡ take n (unaries_format.rows c) → ranks_format.rows d ≡ take m (ranks_format.rows c) → Frees ranks_format c m (count_room (length (ranks_bits c)) top) (count_room (length (ranks_bits d)) top') → Frees unaries_format c n (unary_room c top) (unary_room d top')
offsets_freed c d n m top top' e b f = record {
  frees = λ s rs h.
      let us = unaries_format.rows c in
      let ds = ranks_format.rows c in
      let w : unaries_format.rows d ++ (drop n us ++ rs) ≡ us ++ rs = ap (λ (vs : List Row). vs ++ (drop n us ++ rs)) e ∙ (sym (append_assoc (take n us) (drop n us) rs) ∙ ap (λ (vs : List Row). vs ++ rs) (take-append-drop n us)) in
      let bs : List Bool = runs (last_offset c) (numbers rs) in
      let a = bits_with rs s in
      let l = length-map bs truth in
      let k = f.frees (unary_parts ranks_format s).bits (map truth bs) (omega (arith, a, l, h)) in
      let p = length-append (drop m ds) (map truth bs) in
      let q : length (take m ds) + length (drop m ds) ≡ length ds = sym (length-append (take m ds) (drop m ds)) ∙ ap length (take-append-drop m ds) in
      let r : length (ranks_bits d) ≡ length (take m ds) = sym (length-map (ranks_bits d) truth) ∙ ap length b in
      let t = length-map (ranks_bits c) truth in
      rw w (omega (arith, a, k, l, p, q, r, t));
}

-- ---- room that was reserved

-- room for n bits is room for offsets that take n
pub offsets_kept : {c : Content} (n top : ℕ) → IsSound unaries_format c → KeepsRoom (up_to_count n) (count_room (length (ranks_bits c)) top) → KeepsRoom (covers_runs n) (unary_room c top)
offsets_kept {c} n top s k = record {
  keeps = λ rs h.
      let bs : List Bool = runs 0 (numbers rs) in
      let l = length-map bs truth in
      let m = k.keeps (map truth bs) (λ i. omega (arith, l, h i)) in
      omega (arith, bits_with rs s, runs-fewer (last_offset c) (numbers rs), m, l);
}

pub offsets_added : {c : Content} (room more : ℕ) → AddsRoom ranks_format c (up_to_count room) (up_to_count more) → AddsRoom unaries_format c (covers_runs room) (covers_runs more)
offsets_added {c} room more a = record {
  adds = λ s rs h i.
      let bs : List Bool = runs 0 (numbers rs) in
      let l = length-map bs truth in
      let m = length-map (ranks_bits c) truth in
      let k = a.adds (unary_parts ranks_format s).bits (map truth bs) (λ j. omega (arith, l, h j)) i in
      let n = length-append (map truth bs) (ranks_format.rows c) in
      omega (arith, rows_both rs (unaries_format.rows c), runs-fewer (last_or 0 (numbers rs)) (numbers (unaries_format.rows c)), bits_of_offsets s, k, l, m, n);
}

-- offsets of 0 stand for any that take as many bits
zeros_covered : (n : ℕ) (os : List Row) → covers_runs n os → covers_runs n (zeros (length (runs 0 (numbers os))))
zeros_covered n os h =
    let k : ℕ = length (runs 0 (numbers os)) in
    rw (numbers_back (repeated k 0), runs-zeros k) h

pub offsets_follow : (c : Content) (n top last : ℕ) (os : List Row) → last ≡ last_offset c → KeepsRoom (covers_runs n) (unary_room c top) → covers_runs n os → unary_room c top (shifted 0 last (numbers os))
offsets_follow c n top last os e k h =
    let m : ℕ = length (runs 0 (numbers os)) in
    let us = unaries_format.rows c in
    let r = k.keeps (zeros m) (zeros_covered n os h) in
    let z : length (runs (last_offset c) (numbers (zeros m))) ≡ m = rw (numbers_back (repeated m 0)) (runs-low (last_offset c) m) in
    rw e (omega (arith, rows_both us (zeros m), rows_both us (shifted 0 (last_offset c) (numbers os)), z, runs-shifted (last_offset c) (numbers os), r))
  where
    runs-low : (from k : ℕ) → length (runs from (repeated k 0)) ≡ k
    runs-low from zero = refl
    runs-low from (suc k) = let h = runs-low 0 k in let d : 0 - from ≡ 0 = omega arith in runs-more from 0 (repeated k 0) ∙ omega (arith, h, d)

pub offsets_then : (room more : ℕ) (os others : List Row) → ((xs : List Row) → covers_runs room xs → covers_runs more (xs ++ others)) → covers_runs room os → covers_runs more (os ++ shifted 0 (last_or 0 (numbers os)) (numbers others))
offsets_then room more os others f h = λ i.
    let m : ℕ = length (runs 0 (numbers os)) in
    let l : ℕ = last_or 0 (numbers os) in
    let k = f (zeros m) (zeros_covered room os h) i in
    let z : length (runs 0 (numbers (zeros m))) ≡ m = rw (numbers_back (repeated m 0)) (runs-zeros m) in
    let e : last_or 0 (numbers (zeros m)) ≡ 0 = rw (numbers_back (repeated m 0)) (last-zeros m) in
    let a : length (runs 0 (numbers (zeros m ++ others))) ≡ m + length (runs 0 (numbers others)) = rw (z, e) at (rows_both (zeros m) others) in
    omega (arith, rows_both os (shifted 0 l (numbers others)), runs-shifted l (numbers others), a, k)

-- ---- by the calls

-- Growth was refused for want of memory where the bits are not too many.
pub wanted_few : {P : Type 0} (n : ℕ) (e : GrowError) → IsOfGrowth e → (e ≡ Length → 2 ^ 64 ≤ n) → (e ≡ Memory → P) → n < 2 ^ 64 → P
wanted_few n Memory k l m h = m refl
wanted_few n Length k l m h = let t = l refl in absurd (omega (arith, t, h))
wanted_few n Offset k l m h = absurd k
wanted_few n FormatError k l m h = absurd k

-- one offset
last_pushed : (from n : ℕ) → from ≤ n → n < 2 ^ 64 → length (runs from (numbers (word_row n ∷ []))) ≡ n - from + 1
last_pushed from n l m = let e : n % 2 ^ 64 ≡ n = omega arith in rw e (runs-more from n [] ∙ omega arith)

pub offset_full : {T : Type 0} {c : Content} (top n last : ℕ) (r : Result T GrowError) → IsSound unaries_format c → last_offset c ≡ last → last ≤ n → n < 2 ^ 64 → OnErr r (top ≤ length (ranks_bits c) + (n - last + 1)) → IfErr r (WasFull (unary_room c top) (word_row n ∷ []))
offset_full top n last (Ok x) s e l m h = tt
offset_full {c = c} top n last (Err x) s e l m h =
    let k = last_pushed (last_offset c) n (omega (arith, e, l)) m in
    offsets_full {c = c} top (word_row n ∷ []) s (omega (arith, k, e, h))

pub offset_left : {T : Type 0} (c d : Content) (top top' : ℕ) (rs : List Row) (r : Result T GrowError) → OnOk r (Took unaries_format c d rs) → OnOk r (top ≤ top') → OnOk r (Leaves (unary_room c top) (unary_room d top') rs)
offset_left c d top top' rs (Ok x) t l = offsets_left {c = c} {d = d} top top' rs t l
offset_left c d top top' rs (Err x) t l = tt

-- a range of other offsets, whose k bits are copied at once
pub range_full : {T : Type 0} {c : Content} (top k : ℕ) (rs : List Row) (r : Result T GrowError) → IsSound unaries_format c → length (runs (last_offset c) (numbers rs)) ≡ k → (r ≡ Err Memory → top ≤ length (ranks_bits c) + k) → IfErr r (WasFull (unary_room c top) rs)
range_full top k rs (Ok x) s e h = tt
range_full {c = c} top k rs (Err x) s e h = record {
  full = λ m.
      let l = h (ap Err m) in
      (offsets_full {c = c} {e = x} top rs s (omega (arith, l, e))).full m;
}

pub range_runs : (p q r : List ℕ) (m n lower start from to : ℕ) → m ≤ n → n ≤ length (unaries_format.rows (three p q r)) → slice_get (0 ∷ numbers (unaries_format.rows (three p q r))) m ≡ Some lower → from ≡ lower + m → to ≡ upto (bits_in q r) n → length (runs start (numbers (take (n - m) (drop m (shifted lower start (numbers (unaries_format.rows (three p q r)))))))) ≡ to - from
range_runs p q r m n lower start from to l k h d u =
    let ds : List Bool = slice_range (bits_in q r) from to in
    let w = range_is p q r m n lower start from to l k h d u in
    let t = length-take (to - from) (drop from (bits_in q r)) in
    let v = length-drop from (bits_in q r) in
    rw (ends_are p q r, ← w.rows, numbers_back (ends_of start ds), runs_back start ds w.ended) (omega (arith, t, v, u, upto-within (bits_in q r) n))

-- no bits are no offsets
pub none_left : (c : Content) → ranks_format.rows c ≡ [] → unaries_format.rows c ≡ []
none_left c e = ap (λ (rs : List Row). map number (ends_of 0 (map is_set rs))) e
