-- Reads, growth and truncation of columns of offsets in unary.
use Rattle.std.proofs.Common.{◌≡◌, ℕ, zero, suc, ◌+◌, ◌-◌, ◌/◌, ◌%◌, ◌^◌, ◌<◌, ◌≤◌, Bool, true, false, ◌||◌, List, [], ◌∷◌, ◌++◌, length, take, drop, map, refl, sym, ◌∙◌, ap, arith, length-append, length-take, length-drop, append_assoc, append-nil, subst, ⊎_elim}
use Rattle.std.specs.Prelude.{slice_get, slice_index_or, slice_range, Some, None, Result, Ok, Err, OnErr, IfErr, nat_lt, nat_eq}
use Rattle.std.proofs.lemmas.List.{length-map, map-append}
use Rattle.std.proofs.lemmas.Option.{slice_get-map}
use Rattle.std.proofs.lemmas.Bool.{cases_lt, le-ltb, lt-ltb}
use Rattle.columnar_core.specs.Row.{Row, number, number_of, truth}
use Rattle.columnar_core.specs.Elements.{word_row, past_count}
use Rattle.columnar_core.specs.Format.{Format, Content, slice, both, IsSound, IsExact, too_many, first, moved, moved_one, Fault, fault, unless, Fits}
use Rattle.columnar_core.specs.FaultLaws.{first_found, first_none}
use Rattle.columnar_core.specs.AlikeLaws.{row_eq_exact}
use Rattle.columnar_core.specs.Change.{Grew, Stayed, WasCut, Took, Copied, Refused}
use Rattle.columnar_core.specs.ChangeLaws.{unchanged, undone, grew_stayed, grew_exactly}
use Rattle.columnar_core.specs.Bounds.{rises, numbers, last_or, shifted}
use Rattle.columnar_core.specs.BoundLaws.{word_is}
use Rattle.columnar_core.specs.WordViews.{words_in}
use Rattle.columnar_core.specs.declared.fault.GrowError.{GrowError}
use Rattle.columnar_core.specs.declared.fault.GrowError.TheVariants.{Memory, Length, Offset}
use Rattle.columnar_bits.specs.BoolColumns.{bits_in, IsOfGrowth, SoundBools}
use Rattle.columnar_bits.specs.BoolLaws.{bools_past, bits_length}
use Rattle.columnar_sums.specs.Counting.{ones}
use Rattle.columnar_sums.specs.RankColumns.{ranks_format, ranks_bits, IsNextTrue, AreFalseFrom}
use Rattle.columnar_sums.specs.RankLaws.{SoundRanks, ranks_parts, ranks_lawful}
use Rattle.columnar_sums.specs.RankChangeLaws.{Ranked, ranks_took, ranks_refused}
use Rattle.columnar_sums.specs.Unary.{unary_bits, ends_of, falses, last_bit, upto, all_false, runs, falls, unary_broken}
use Rattle.columnar_sums.specs.UnaryListLaws.{set_truths, upto-within, last-falses, rises-after}
use Rattle.columnar_sums.specs.UnaryLaws.{numbers_back, unary_refused, unary_parts, unary_sound, length-offsets, unary_took, unary_stayed, unary_misplaced, unary_refuse_more, unary_cut, unary_rises}
use Rattle.columnar_sums.specs.UnaryBitLaws.{counts_kept, ones_ends, ends_found, upto_found, falses_are, length-zeros, counts_run}
use Rattle.columnar_sums.specs.UnaryRangeLaws.{RangeBits, range_bits, runs_back, ends_rise, upto_at, end_from, end_there}
use Rattle.columnar_sums.specs.UnaryColumns.{unaries_format, last_offset, repeated, all_falses}

abbrev three : List ℕ → List ℕ → List ℕ → Content
three c a b = both (slice c) (both (slice a) (slice b))

pub unaries_ranked : {c a b : List ℕ} → IsSound unaries_format (three c a b) → IsSound ranks_format (three c a b)
unaries_ranked s = (unary_parts ranks_format s).bits

pub unaries_ended : {c a b : List ℕ} → IsSound unaries_format (three c a b) → last_bit true (bits_in a b) ≡ true
unaries_ended {c} {a} {b} s = let e = set_truths (bits_in a b) in rw e at (unary_parts ranks_format s).ended

pub unaries_sound : {c a b : List ℕ} → IsSound ranks_format (three c a b) → last_bit true (bits_in a b) ≡ true → IsSound unaries_format (three c a b)
unaries_sound {c} {a} {b} s h = unary_sound ranks_format (record { bits = s; ended = rw (set_truths (bits_in a b)) h })

pub unaries_length : (c a b : List ℕ) → ones (bits_in a b) (length (bits_in a b)) ≡ length (unaries_format.rows (three c a b))
unaries_length c a b = ones_ends 0 (bits_in a b) ∙ ap (λ (t : List Bool). length (ends_of 0 t)) (sym (set_truths (bits_in a b))) ∙ sym (length-offsets ranks_format (three c a b))

-- the offset of the set bit at p
pub unaries_row : (c a b : List ℕ) (i p : ℕ) → slice_index_or (bits_in a b) p false ≡ true → ones (bits_in a b) p ≡ i → (slice_get (unaries_format.rows (three c a b)) i ≡ Some (number (p - i))) × (i ≤ p)
unaries_row c a b i p h e =
    let q = ends_found 0 (bits_in a b) p h in
    let d : 0 + (p - ones (bits_in a b) p) ≡ p - i = omega (arith, e) in
    let k : slice_get (ends_of 0 (bits_in a b)) i ≡ Some (p - i) = rw (d, e) at q.0 in
    (rw (slice_get-map, set_truths (bits_in a b), k) refl, omega (arith, e, q.1))

pub unaries_word : (c a b : List ℕ) (i p : ℕ) → p < 2 ^ 64 → slice_index_or (bits_in a b) p false ≡ true → ones (bits_in a b) p ≡ i → slice_get (unaries_format.rows (three c a b)) i ≡ Some (word_row (p - i))
unaries_word c a b i p l h e = rw (word_is (p - i) (omega arith)) (unaries_row c a b i p h e).0

-- the last offset; 0 if there is none
abbrev pub last_end : List ℕ → List ℕ → ℕ
last_end a b = length (bits_in a b) - ones (bits_in a b) (length (bits_in a b))

pub falses_of : (c a b : List ℕ) → falses 0 (unary_bits ranks_format (three c a b)) ≡ last_end a b
falses_of c a b = ap (falses 0) (set_truths (bits_in a b)) ∙ falses_are (bits_in a b)

pub unaries_rise : (c a b : List ℕ) (end : ℕ) → IsSound unaries_format (three c a b) → rises 0 (numbers (unaries_format.rows (three c a b))) end ≡ nat_eq (last_end a b) end
unaries_rise c a b end s = unary_rises ranks_format end s ∙ ap (λ (t : ℕ). nat_eq t end) (falses_of c a b)

-- the offsets are the ends of the bits
pub ends_are : (c a b : List ℕ) → numbers (unaries_format.rows (three c a b)) ≡ ends_of 0 (bits_in a b)
ends_are c a b = numbers_back (ends_of 0 (unary_bits ranks_format (three c a b))) ∙ ap (ends_of 0) (set_truths (bits_in a b))

pub last_is_end : (c a b : List ℕ) → IsSound unaries_format (three c a b) → last_or 0 (numbers (unaries_format.rows (three c a b))) ≡ last_end a b
last_is_end c a b s = ap (last_or 0) (numbers_back (ends_of 0 (unary_bits ranks_format (three c a b)))) ∙ last-falses true 0 0 (unary_bits ranks_format (three c a b)) (λ h. refl) (unary_parts ranks_format s).ended ∙ falses_of c a b

-- ---- growth

-- appended bits that complete no chunk
pub short_ranked : {c a b a' b' : List ℕ} (ds : List Bool) → SoundRanks c a b → SoundBools a' b' → bits_in a' b' ≡ bits_in a b ++ ds → (length (bits_in a b) + length ds) / 1024 ≡ length (bits_in a b) / 1024 → Ranked c a b c a' b' ds
short_ranked {c} {a} {b} ds s t e k = record {
  sound = record { whole = s.whole; bools = t; are_counts = rw e (counts_kept (bits_in a b) ds (words_in c) s.are_counts k) };
  bits = e;
}

or_false : (a b : Bool) → a ≡ false → b ≡ false → (a || b) ≡ false
or_false true b p q = cc
or_false false b p q = q

pub run_took : {c a b c' a' b' : List ℕ} (item run : ℕ) → IsSound unaries_format (three c a b) → last_end a b ≤ item → run ≡ item - last_end a b → item < 2 ^ 64 → Ranked c a b c' a' b' (all_false run ++ true ∷ []) → Took unaries_format (three c a b) (three c' a' b') (word_row item ∷ [])
run_took {c} {a} {b} {c'} {a'} {b'} item run s l e w g =
    let f = falses_of c a b in
    let k : falls (falses 0 (unary_bits ranks_format (three c a b))) (item ∷ []) ≡ false = rw f (or_false (nat_lt item (last_end a b)) false (le-ltb item (last_end a b) l) refl) in
    let h : Took ranks_format (three c a b) (three c' a' b') (map truth (runs (falses 0 (unary_bits ranks_format (three c a b))) (item ∷ []))) = rw (f, ← e) (ranks_took g) in
    rw (word_is item w) (unary_took ranks_format (item ∷ []) row_eq_exact s k h)

pub run_misplaced : {c a b : List ℕ} (item : ℕ) → IsSound unaries_format (three c a b) → item < last_end a b → item < 2 ^ 64 → Refused unaries_format (three c a b) (three c a b) (word_row item ∷ []) Offset
run_misplaced {c} {a} {b} item s l w = record {
  stayed = unchanged s;
  cause = unary_misplaced ranks_format (word_row item ∷ []) s (let m : item % 2 ^ 64 ≡ item = omega arith in rw (falses_of c a b, m, lt-ltb item (last_end a b) l) refl);
}

pub run_too_long : {c a b : List ℕ} (item run : ℕ) → IsSound unaries_format (three c a b) → last_end a b ≤ item → run ≡ item - last_end a b → item < 2 ^ 64 → 2 ^ 64 ≤ length (bits_in a b) + run + 1 → Refused unaries_format (three c a b) (three c a b) (word_row item ∷ []) Length
run_too_long {c} {a} {b} item run s l e w h = record {
  stayed = unchanged s;
  cause =
      let f = falses_of c a b in
      let rs : List Row = map truth (all_false run ++ true ∷ []) in
      let n : length rs ≡ run + 1 = length-map (all_false run ++ true ∷ []) truth ∙ length-append (all_false run) (true ∷ []) ∙ omega (arith, length-zeros run) in
      let k : past_count too_many (length (map truth (bits_in a b)) + length rs) ≡ true = bools_past a b rs (omega arith) in
      unary_refuse_more ranks_format too_many (unary_parts ranks_format s) (word_row item ∷ []) ∙ (let m : item % 2 ^ 64 ≡ item = omega arith in rw (f, m, ← e, k) refl);
}

pub run_refused : {c a b : List ℕ} {y : Content} (item : ℕ) → IsSound unaries_format (three c a b) → Stayed ranks_format (three c a b) y → Refused unaries_format (three c a b) y (word_row item ∷ []) Memory
run_refused item s g = record { stayed = unary_stayed ranks_format s g; cause = tt }

-- appended clear bits, with the counts of the chunks that they complete
pub falses_ranked : {c a b c' a' b' : List ℕ} (m n : ℕ) → SoundRanks c a b → SoundBools a' b' → bits_in a' b' ≡ bits_in a b ++ all_false m → n ≡ (length (bits_in a b) + m) / 1024 - length (words_in c) → words_in c' ≡ words_in c ++ repeated n (ones (bits_in a b) (length (bits_in a b))) → length c' % 8 ≡ 0 → Ranked c a b c' a' b' (all_false m)
falses_ranked {c} {a} {b} {c'} {a'} {b'} m n s t e k w l = record {
  sound = record { whole = l; bools = t; are_counts = rw (e, w) (counts_run (bits_in a b) (words_in c) m n s.are_counts k) };
  bits = e;
}

-- ---- cuts

pub unaries_cut : {c a b : List ℕ} {y : Content} (n end : ℕ) → IsSound unaries_format (three c a b) → n ≤ length (unaries_format.rows (three c a b)) → end ≡ upto (bits_in a b) n → WasCut ranks_format (three c a b) y end → WasCut unaries_format (three c a b) y n
unaries_cut {c} {a} {b} {y} n end s l e g =
    let d : end ≡ upto (unary_bits ranks_format (three c a b)) n = rw (set_truths (bits_in a b)) e in
    unary_cut ranks_format s l (rw d at g)

pub cut_within : (c a b : List ℕ) (n : ℕ) → upto (bits_in a b) n ≤ length (ranks_format.rows (three c a b))
cut_within c a b n = omega (arith, upto-within (bits_in a b) n, length-map (bits_in a b) truth)

pub cut_place : (a b : List ℕ) (n p : ℕ) → 0 < n → slice_index_or (bits_in a b) p false ≡ true → ones (bits_in a b) p ≡ n - 1 → p + 1 ≡ upto (bits_in a b) n
cut_place a b n p l h e =
    let d : suc (ones (bits_in a b) p) ≡ n = omega (arith, e, l) in
    sym (upto_found (bits_in a b) p h) ∙ ap (upto (bits_in a b)) d

-- ---- tests

pub judged_bits : (f : Format) (c : Content) (o : ℕ) (z : Fault) → Some z ≡ first (moved o (f.broken c)) → Some z ≡ first (moved o (unary_broken f c))
judged_bits f c o z h = rw (map-append (moved_one o) (f.broken c) (unless (last_bit true (unary_bits f c)) (fault 11 0))) (sym (first_found (moved o (f.broken c)) (moved o (unless (last_bit true (unary_bits f c)) (fault 11 0))) z (sym h)))

pub judged_open : (f : Format) (c : Content) (o : ℕ) → None ≡ first (moved o (f.broken c)) → last_bit true (unary_bits f c) ≡ false → Some (fault 11 o) ≡ first (moved o (unary_broken f c))
judged_open f c o h e =
    let n = first_none (moved o (f.broken c)) (sym h) in
    let k : o + 0 ≡ o = omega arith in
    rw (map-append (moved_one o) (f.broken c) (unless (last_bit true (unary_bits f c)) (fault 11 0)), n, e, k) refl

pub judged_ended : (f : Format) (c : Content) (o : ℕ) → None ≡ first (moved o (f.broken c)) → last_bit true (unary_bits f c) ≡ true → None ≡ first (moved o (unary_broken f c))
judged_ended f c o h e =
    let n = first_none (moved o (f.broken c)) (sym h) in
    rw (map-append (moved_one o) (f.broken c) (unless (last_bit true (unary_bits f c)) (fault 11 0)), n, e) refl

-- ---- by the calls

-- the same tests of counted bits
pub judged_true : (x : Content) (o : ℕ) → None ≡ first (moved o (ranks_format.broken x)) → last_bit true (ranks_bits x) ≡ true → None ≡ first (moved o (unary_broken ranks_format x))
judged_true x o h e = judged_ended ranks_format x o h (ap (last_bit true) (set_truths (ranks_bits x)) ∙ e)

pub judged_false : (x : Content) (o : ℕ) → None ≡ first (moved o (ranks_format.broken x)) → last_bit true (ranks_bits x) ≡ false → Some (fault 11 o) ≡ first (moved o (unary_broken ranks_format x))
judged_false x o h e = judged_open ranks_format x o h (ap (last_bit true) (set_truths (ranks_bits x)) ∙ e)

-- as many offsets as set bits
pub content_length : (x : Content) → ones (ranks_bits x) (length (ranks_bits x)) ≡ length (unaries_format.rows x)
content_length x = ones_ends 0 (ranks_bits x) ∙ ap (λ (t : List Bool). length (ends_of 0 t)) (sym (set_truths (ranks_bits x))) ∙ sym (length-offsets ranks_format x)

pub content_rises : (x : Content) (end : ℕ) → IsSound unaries_format x → rises 0 (numbers (unaries_format.rows x)) end ≡ nat_eq (all_falses x) end
content_rises x end s = unary_rises ranks_format end s ∙ ap (λ (t : ℕ). nat_eq t end) (ap (falses 0) (set_truths (ranks_bits x)) ∙ falses_are (ranks_bits x))

-- the bits of a well-formed store of offsets fit
pub bits_fit : (o : ℕ) (ss : List (List ℕ)) → Fits unaries_format o ss → Fits ranks_format o ss
bits_fit o ss h = record { room = h.room; sound = (unary_parts ranks_format h.sound).bits }

-- clear bits, then a set bit
pub run_bits : (x u v : List Bool) (n : ℕ) → u ≡ x ++ all_false n → v ≡ u ++ true ∷ [] → v ≡ x ++ (all_false n ++ true ∷ [])
run_bits x u v n p q = q ∙ ap (λ (t : List Bool). t ++ true ∷ []) p ∙ append_assoc x (all_false n) (true ∷ [])

-- growth that failed after a part succeeded, and was rolled back
pub run_undone : (x x' y z w : Content) (rs : List Row) (n : ℕ) → x' ≡ x → IsSound ranks_format x → Grew ranks_format x' y rs → Stayed ranks_format y z → n ≡ length (ranks_format.rows x) → WasCut ranks_format z w n → Stayed ranks_format x w
run_undone x x' y z w rs n e s g st l cut =
    let h : Grew ranks_format x y rs = subst (λ (k : Content). Grew ranks_format k y rs) e g in
    let d : WasCut ranks_format z w (length (ranks_format.rows x)) = subst (λ (k : ℕ). WasCut ranks_format z w k) l cut in
    undone ranks_lawful s (grew_stayed h st) d

-- rows pushed one by one are a copy
pub copied_exactly : (f : Format) {x y : Content} (start : ℕ) {rs : List Row} → IsExact f.alike → Took f x y rs → Copied f x y start rs
copied_exactly f {x} {y} start {rs} ex t = record {
  took = t;
  front = λ e z. (grew_exactly ex t).rows ∙ ap (λ (us : List Row). us ++ rs) e;
}

-- ---- a range of other offsets, whose bits are copied at once

pub range_is : (p q r : List ℕ) (m n lower start from to : ℕ) → m ≤ n → n ≤ length (unaries_format.rows (three p q r)) → slice_get (0 ∷ numbers (unaries_format.rows (three p q r))) m ≡ Some lower → from ≡ lower + m → to ≡ upto (bits_in q r) n → RangeBits (bits_in q r) (slice_range (bits_in q r) from to) m n lower start
range_is p q r m n lower start from to l k h d e =
    let w = ends_are p q r in
    let z : length (unaries_format.rows (three p q r)) ≡ length (ends_of 0 (bits_in q r)) = sym (unaries_length p q r) ∙ ones_ends 0 (bits_in q r) in
    range_bits (bits_in q r) m n from to lower start l (omega (arith, z)) (rw w at h) d e

pub range_took : {c a b c' a' b' : List ℕ} (p q r : List ℕ) (m n lower start from to : ℕ) → IsSound unaries_format (three c a b) → m ≤ n → n ≤ length (unaries_format.rows (three p q r)) → slice_get (0 ∷ numbers (unaries_format.rows (three p q r))) m ≡ Some lower → last_or 0 (numbers (unaries_format.rows (three c a b))) ≡ start → from ≡ lower + m → to ≡ upto (bits_in q r) n → Ranked c a b c' a' b' (slice_range (bits_in q r) from to) → Took unaries_format (three c a b) (three c' a' b') (take (n - m) (drop m (shifted lower start (numbers (unaries_format.rows (three p q r))))))
range_took {c} {a} {b} {c'} {a'} {b'} p q r m n lower start from to s l k h e d u g =
    let ds : List Bool = slice_range (bits_in q r) from to in
    let w = range_is p q r m n lower start from to l k h d u in
    let f : falses 0 (unary_bits ranks_format (three c a b)) ≡ start = falses_of c a b ∙ sym (last_is_end c a b s) ∙ e in
    let t : Took ranks_format (three c a b) (three c' a' b') (map truth (runs (falses 0 (unary_bits ranks_format (three c a b))) (ends_of start ds))) = rw (f, runs_back start ds w.ended) (ranks_took g) in
    let v : falls (falses 0 (unary_bits ranks_format (three c a b))) (ends_of start ds) ≡ false = rw f (ends_rise start ds) in
    rw (ends_are p q r, ← w.rows) (unary_took ranks_format (ends_of start ds) row_eq_exact s v t)

pub range_refused : {c a b : List ℕ} {y : Content} {error : GrowError} (p q r : List ℕ) (m n lower start from to : ℕ) → IsSound unaries_format (three c a b) → m ≤ n → n ≤ length (unaries_format.rows (three p q r)) → slice_get (0 ∷ numbers (unaries_format.rows (three p q r))) m ≡ Some lower → last_or 0 (numbers (unaries_format.rows (three c a b))) ≡ start → from ≡ lower + m → to ≡ upto (bits_in q r) n → Stayed ranks_format (three c a b) y → IsOfGrowth error → (error ≡ Length → 2 ^ 64 ≤ length (bits_in a b) + length (slice_range (bits_in q r) from to)) → Refused unaries_format (three c a b) y (take (n - m) (drop m (shifted lower start (numbers (unaries_format.rows (three p q r)))))) error
range_refused {c} {a} {b} {y} {error} p q r m n lower start from to s l k h e d u st kind cause =
    let ds : List Bool = slice_range (bits_in q r) from to in
    let w = range_is p q r m n lower start from to l k h d u in
    let f : falses 0 (unary_bits ranks_format (three c a b)) ≡ start = falses_of c a b ∙ sym (last_is_end c a b s) ∙ e in
    let z : length (map truth ds) ≡ length ds = length-map ds truth in
    let t : Refused ranks_format (three c a b) y (map truth ds) error = ranks_refused (map truth ds) error st kind (λ x. rw z (cause x)) in
    let v : Refused ranks_format (three c a b) y (map truth (runs (falses 0 (unary_bits ranks_format (three c a b))) (numbers (map number (ends_of start ds))))) error = rw (f, numbers_back (ends_of start ds), runs_back start ds w.ended) t in
    rw (ends_are p q r, ← w.rows) (unary_refused ranks_format (map number (ends_of start ds)) s v)

-- a failed copy of the bits
length_range : (b : List Bool) (from to : ℕ) → to ≤ length b → length (slice_range b from to) ≡ to - from
length_range b from to l = length-take (to - from) (drop from b) ∙ omega (arith, length-drop from b)

pub range_if_err : {T : Type 0} {c a b : List ℕ} (y : Content) (p q r : List ℕ) (m n lower start from to : ℕ) (done : Result T GrowError) → IsSound unaries_format (three c a b) → m ≤ n → n ≤ length (unaries_format.rows (three p q r)) → slice_get (0 ∷ numbers (unaries_format.rows (three p q r))) m ≡ Some lower → last_or 0 (numbers (unaries_format.rows (three c a b))) ≡ start → from ≡ lower + m → to ≡ upto (bits_in q r) n → OnErr done (Stayed ranks_format (three c a b) y) → IfErr done IsOfGrowth → (done ≡ Err Length → 2 ^ 64 ≤ length (bits_in a b) + (to - from)) → IfErr done (λ e. Refused unaries_format (three c a b) y (take (n - m) (drop m (shifted lower start (numbers (unaries_format.rows (three p q r)))))) e)
range_if_err y p q r m n lower start from to (Ok u) s l k h e d t st kind w = tt
range_if_err {T} {c} {a} {b} y p q r m n lower start from to (Err error) s l k h e d t st kind w =
    let z : length (slice_range (bits_in q r) from to) ≡ to - from = length_range (bits_in q r) from to (omega (arith, t, upto-within (bits_in q r) n)) in
    range_refused {c = c} {a = a} {b = b} {y = y} {error = error} p q r m n lower start from to s l k h e d t st kind (λ x. rw z (w (ap Err x)))

-- ---- positions of offsets, from the preconditions of the calls

ends_count : (c a b : List ℕ) → length (unaries_format.rows (three c a b)) ≡ length (ends_of 0 (bits_in a b))
ends_count c a b = sym (unaries_length c a b) ∙ ones_ends 0 (bits_in a b)

pub place_after : (c a b : List ℕ) (index before : ℕ) → index ≤ length (unaries_format.rows (three c a b)) → slice_get (0 ∷ numbers (unaries_format.rows (three c a b))) index ≡ Some before → before + index ≡ upto (bits_in a b) index
place_after c a b index before l h = sym (upto_at (bits_in a b) index before (omega (arith, ends_count c a b)) (rw (ends_are c a b) at h))

pub place_fits : {c a b : List ℕ} (n : ℕ) → IsSound unaries_format (three c a b) → (upto (bits_in a b) n ≤ length (bits_in a b)) × (upto (bits_in a b) n < 2 ^ 64)
place_fits {c} {a} {b} n s =
    let t = (ranks_parts (unaries_ranked s)).bools in
    (upto-within (bits_in a b) n, omega (arith, upto-within (bits_in a b) n, t.short, bits_length a b))

pub row_after : (c a b : List ℕ) (index before q : ℕ) → index < length (unaries_format.rows (three c a b)) → slice_get (0 ∷ numbers (unaries_format.rows (three c a b))) index ≡ Some before → q < length (bits_in a b) → IsNextTrue (bits_in a b) (before + index) q → (slice_get (unaries_format.rows (three c a b)) index ≡ Some (number (q - index))) × (index ≤ q)
row_after c a b index before q l h m n =
    let k = end_from (bits_in a b) index q (before + index) (omega (arith, ends_count c a b)) (place_after c a b index before (omega arith) h) m n in
    (rw (slice_get-map, set_truths (bits_in a b), k.0) refl, k.1)

pub none_after : (c a b : List ℕ) (index before : ℕ) → index < length (unaries_format.rows (three c a b)) → slice_get (0 ∷ numbers (unaries_format.rows (three c a b))) index ≡ Some before → AreFalseFrom (bits_in a b) (before + index) → ⊥
none_after c a b index before l h n = end_there (bits_in a b) index (before + index) (omega (arith, ends_count c a b)) (place_after c a b index before (omega arith) h) n

-- ---- offsets that were pushed do not fall

first_rises : (x y : Content) (rs : List Row) (n : ℕ) → unaries_format.rows y ≡ unaries_format.rows x ++ rs → slice_get rs 0 ≡ Some (number n) → last_offset x ≤ n
first_rises x y [] n e h = cc
first_rises x y (r ∷ rs) n e h =
    let d : r ≡ number n = cc in
    let ns : List ℕ = numbers (unaries_format.rows x) in
    let w : numbers (unaries_format.rows y) ≡ ns ++ n ∷ numbers rs = ap numbers e ∙ (map-append number_of (unaries_format.rows x) (r ∷ rs) ∙ ap (λ (q : Row). ns ++ number_of q ∷ numbers rs) d) in
    let f : falls 0 (ns ++ n ∷ numbers rs) ≡ false = sym (ap (falls 0) w) ∙ (ap (falls 0) (numbers_back (ends_of 0 (unary_bits ranks_format y))) ∙ ends_rise 0 (unary_bits ranks_format y)) in
    rises-after 0 n ns (numbers rs) f

first_taken : (rs : List Row) (start k : ℕ) (r : Row) → 0 < k → slice_get rs start ≡ Some r → slice_get (take k (drop start rs)) 0 ≡ Some r
first_taken rs start zero r l h = absurd (omega arith)
first_taken [] start (suc k) r l h = cc
first_taken (x ∷ rs) zero (suc k) r l h = h
first_taken (x ∷ rs) (suc start) (suc k) r l h = first_taken rs start (suc k) r l h

-- if a row of a range was pushed, the range's first is not below the column's last one before it
pub range_rises : {x y : Content} (rs : List Row) (start i n : ℕ) → Took unaries_format x y (take (i - start) (drop start rs)) → start < i → slice_get rs start ≡ Some (number n) → last_offset x ≤ n
range_rises {x} {y} rs start i n t l h = first_rises x y (take (i - start) (drop start rs)) n (grew_exactly row_eq_exact t).rows (first_taken rs start (i - start) (number n) (omega (arith, l)) h)

-- if no row of a range was pushed, the last offset is unchanged
same_last : {x y : Content} (rs : List Row) (start : ℕ) → Took unaries_format x y (take (start - start) (drop start rs)) → last_offset y ≡ last_offset x
same_last {x} {y} rs start t =
    let e : start - start ≡ 0 = omega arith in
    let g : unaries_format.rows y ≡ unaries_format.rows x ++ [] = rw e at (grew_exactly row_eq_exact t).rows in
    ap (λ (q : List Row). last_or 0 (numbers q)) (g ∙ append-nil (unaries_format.rows x))

number_same : (m n : ℕ) → m < 2 ^ 64 → Some (word_row m) ≡ Some (number n) → m ≡ n
number_same m n l h = let e : number m ≡ number n = rw (word_is m l) at (some_same h) in cc
  where
    some_same : {r s : Row} → Some r ≡ Some s → r ≡ s
    some_same h = cc

-- The first of a range was pushed, or it is not below the column's last one before it.
pub range_refuses : {T : Type 0} {x y : Content} (rs : List Row) (start i n m : ℕ) (done : Result T GrowError) → Took unaries_format x y (take (i - start) (drop start rs)) → start ≤ i → slice_get rs start ≡ Some (number n) → n < last_offset x → slice_get rs i ≡ Some (word_row m) → m < 2 ^ 64 → (m < last_offset y → done ≡ Err Offset) → done ≡ Err Offset
range_refuses {T} {x} {y} rs start i n m done t l h b g k f = ⊎_elim
    (λ (p : start < i). let w = range_rises {x = x} {y = y} rs start i n t p h in absurd (omega (arith, w, b)))
    (λ (p : i ≤ start).
    let e : i ≡ start = omega (arith, l, p) in
    let s = same_last {x = x} {y = y} rs start (rw e at t) in
    let d : m ≡ n = number_same m n k (sym (rw e at g) ∙ h) in
    f (omega (arith, s, d, b)))
    (cases_lt start i)
