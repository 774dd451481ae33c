-- Bounds that rise to the number of values divide them in only one way, and the rows of lists are these pieces.
use Rattle.std.proofs.Common.{◌≡◌, ℕ, zero, suc, ◌+◌, ◌-◌, ◌≤◌, true, List, [], ◌∷◌, ◌++◌, length, take, drop, map, refl, sym, ◌∙◌, ap, arith, length-append, length-take, length-drop}
use Rattle.std.proofs.Math.Seq.{take-append_seam, drop-append_seam}
use Rattle.std.proofs.lemmas.List.{take-append-drop, drop-drop}
use Rattle.std.proofs.lemmas.Bool.{and_parts, and_from, eqb-true, eq-eqb, leb-true, le-leb}
use Rattle.std.specs.Prelude.{nat_le, ◌↔◌}
use Rattle.columnar_base.specs.Row.{Row, list, empty}
use Rattle.columnar_base.specs.Format.{Format, Content, both, IsSound}
use Rattle.columnar_core.specs.Bounds.{rises, numbers}
use Rattle.columnar_lists.specs.Cut.{concatenation, running, IsCut}
use Rattle.columnar_lists.specs.CutLaws.{rises-from}
use Rattle.columnar_lists.specs.Lists.{cut, lists_format}
use Rattle.columnar_lists.specs.ListLaws.{lists_parts}

-- the pieces into which the bounds divide the values, the first from `from` on
abbrev pieces_from : ℕ → List ℕ → List Row → List (List Row)
pieces_from from [] values = []
pieces_from from (n ∷ ns) values = take (n - from) (drop from values) ∷ pieces_from n ns values

pieces_running : (from : ℕ) (ns : List ℕ) (values : List Row) → rises from ns (length values) ≡ true → running from (pieces_from from ns values) ≡ ns
pieces_running from [] values h = refl
pieces_running from (n ∷ ns) values h =
    let p = and_parts (nat_le from n) (rises n ns (length values)) h in
    let a : from ≤ n = leb-true from n p.0 in
    let b = rises-from n ns (length values) p.1 in
    let l : length (take (n - from) (drop from values)) ≡ n - from = length-take (n - from) (drop from values) ∙ omega (arith, length-drop from values) in
    let e : from + (n - from) ≡ n = omega arith in
    rw (l, e) (ap (λ t. n ∷ t) (pieces_running n ns values p.1))

all_dropped : (values : List Row) → drop (length values) values ≡ []
all_dropped [] = refl
all_dropped (v ∷ vs) = all_dropped vs

pieces_whole : (from : ℕ) (ns : List ℕ) (values : List Row) → rises from ns (length values) ≡ true → concatenation (pieces_from from ns values) ≡ drop from values
pieces_whole from [] values h =
    let e : from ≡ length values = eqb-true from (length values) h in
    rw e (sym (all_dropped values))
pieces_whole from (n ∷ ns) values h =
    let p = and_parts (nat_le from n) (rises n ns (length values)) h in
    let a : from ≤ n = leb-true from n p.0 in
    let e : from + (n - from) ≡ n = omega arith in
    let d : drop (n - from) (drop from values) ≡ drop n values = rw e at (drop-drop (n - from) from values) in
    rw (pieces_whole n ns values p.1, ← d) (take-append-drop (n - from) (drop from values))

-- the rows of lists are these pieces
pieces_rows : (from : ℕ) (ns : List ℕ) (values : List Row) → cut from ns values ≡ map list (pieces_from from ns values)
pieces_rows from [] values = refl
pieces_rows from (n ∷ ns) values = ap (λ t. list (take (n - from) (drop from values)) ∷ t) (pieces_rows n ns values)

pieces_cut : (ns : List ℕ) (values : List Row) → rises 0 ns (length values) ≡ true → IsCut ns values (pieces_from 0 ns values)
pieces_cut ns values h = record { whole = pieces_whole 0 ns values h; ends = pieces_running 0 ns values h }

running_rises : (from : ℕ) (lists : List (List Row)) → rises from (running from lists) (from + length (concatenation lists)) ≡ true
running_rises from [] = eq-eqb from (from + 0) (omega arith)
running_rises from (xs ∷ rest) =
    let e : from + length (xs ++ concatenation rest) ≡ from + length xs + length (concatenation rest) = omega (arith, length-append xs (concatenation rest)) in
    and_from _ _ (le-leb from (from + length xs) (omega arith)) (rw e (running_rises (from + length xs) rest))

-- If bounds divide the values, they rise to the number of values.
cut_rises : (ns : List ℕ) (values : List Row) (lists : List (List Row)) → IsCut ns values lists → rises 0 ns (length values) ≡ true
cut_rises ns values lists c =
    let e : 0 + length (concatenation lists) ≡ length (concatenation lists) = omega arith in
    rw (← c.ends, ← c.whole) (rw e at (running_rises 0 lists))

pub rises_exactly : (ns : List ℕ) (values : List Row) → (rises 0 ns (length values) ≡ true) ↔ ((lists : List (List Row)) × IsCut ns values lists)
rises_exactly ns values = (λ h. (pieces_from 0 ns values, pieces_cut ns values h), λ p. cut_rises ns values p.0 p.1)

same_lengths : (from : ℕ) (xs ys : List (List Row)) → running from xs ≡ running from ys → concatenation xs ≡ concatenation ys → xs ≡ ys
same_lengths from [] [] r c = refl
same_lengths from [] (y ∷ ys) r c = cc
same_lengths from (x ∷ xs) [] r c = cc
same_lengths from (x ∷ xs) (y ∷ ys) r c =
    let e : from + length x ≡ from + length y = cc in
    let l : length x ≡ length y = omega arith in
    let rest : running (from + length x) xs ≡ running (from + length x) ys = cc in
    let a : take (length x) (y ++ concatenation ys) ≡ y = rw l (take-append_seam y (concatenation ys)) in
    let b : drop (length x) (y ++ concatenation ys) ≡ concatenation ys = rw l (drop-append_seam y (concatenation ys)) in
    let u : x ≡ y = sym (take-append_seam x (concatenation xs)) ∙ (ap (take (length x)) c ∙ a) in
    let v : concatenation xs ≡ concatenation ys = sym (drop-append_seam x (concatenation xs)) ∙ (ap (drop (length x)) c ∙ b) in
    let w = same_lengths (from + length x) xs ys rest v in
    rw (u, w) refl

pub one_cut : (ns : List ℕ) (values : List Row) (xs ys : List (List Row)) → IsCut ns values xs → IsCut ns values ys → xs ≡ ys
one_cut ns values xs ys p q = same_lengths 0 xs ys (p.ends ∙ sym q.ends) (p.whole ∙ sym q.whole)

pub rows_cut : (b t : Format) (x y : Content) → IsSound (lists_format b t) (both x y) → (lists : List (List Row)) × (IsCut (numbers (b.rows x)) (t.rows y) lists × ((lists_format b t).rows (both x y) ≡ map list lists))
rows_cut b t x y s = (pieces_from 0 (numbers (b.rows x)) (t.rows y), (pieces_cut (numbers (b.rows x)) (t.rows y) (lists_parts b t s).rise, pieces_rows 0 (numbers (b.rows x)) (t.rows y)))

abbrev empties : ℕ → List Row
empties zero = []
empties (suc n) = empty ∷ empties n

length-empties : (n : ℕ) → length (empties n) ≡ n
length-empties zero = refl
length-empties (suc n) = ap suc (length-empties n)

pub rises_any : (ns : List ℕ) (end : ℕ) → (rises 0 ns end ≡ true) ↔ ((values : List Row) → length values ≡ end → (lists : List (List Row)) × IsCut ns values lists)
rises_any ns end = (λ h values e. (pieces_from 0 ns values, pieces_cut ns values (rw e h)), λ f. let p = f (empties end) (length-empties end) in rw (length-empties end) at (cut_rises ns (empties end) p.0 p.1))
