-- Counts of rows, for one more row and for one more list.
use Rattle.std.proofs.Common.{ℕ, suc, List, [], ◌∷◌, ◌++◌, ◌≡◌, ◌≤◌, ◌+◌, ◌%◌, ◌^◌, Some, length, take, sum_by, refl, sym, ap, ◌∙◌, arith}
use Rattle.std.specs.Prelude.{slice_get}
use Rattle.std.proofs.lemmas.List.{take_all}
use Rattle.std.proofs.lemmas.List.Sums.{sum_by-append}
use Rattle.columnar_core.specs.ChangeLaws.{take-suc_get}
use Rattle.columnar_core.specs.Row.{Row}
use Rattle.event_log.specs.Counting.{AreCounted, at_level, rows_at_level}
use Rattle.event_log.specs.declared.counts.Counts.{Counts}

sum_more : {X : Type 0} (f : X → ℕ) (xs : List X) (i : ℕ) (x : X) → slice_get xs i ≡ Some x → sum_by f (take (suc i) xs) ≡ sum_by f (take i xs) + f x
sum_more f xs i x h =
    let one : sum_by f (x ∷ []) ≡ f x = omega arith in
    ap (sum_by f) (take-suc_get i xs x h) ∙ sum_by-append f (take i xs) (x ∷ []) ∙ ap (λ n. sum_by f (take i xs) + n) one

-- one more summand of a sum that wraps
pub wraps_more : {X : Type 0} (f : X → ℕ) (xs : List X) (i : ℕ) (x : X) (old new : ℕ) → slice_get xs i ≡ Some x → new ≡ (old + f x) % 2 ^ 64
    → old ≡ sum_by f (take i xs) % 2 ^ 64 → new ≡ sum_by f (take (i + 1) xs) % 2 ^ 64
wraps_more f xs i x old new h added e = let next : i + 1 ≡ suc i = omega arith in let more = sum_more f xs i x h in rw next (omega (arith, more, added, e))

-- the sum over two lists
pub wraps_both : {X : Type 0} (f : X → ℕ) (xs ys : List X) (a b c : ℕ) → a ≡ sum_by f xs % 2 ^ 64 → b ≡ sum_by f ys % 2 ^ 64 → c ≡ (a + b) % 2 ^ 64
    → c ≡ sum_by f (xs ++ ys) % 2 ^ 64
wraps_both f xs ys a b c p q e = let both = sum_by-append f xs ys in omega (arith, both, p, q, e)

pub both_counted : (rows more : List Row) (a b c : Counts) → AreCounted rows a → AreCounted more b → c.debug ≡ (a.debug + b.debug) % 2 ^ 64 → c.info ≡ (a.info + b.info) % 2 ^ 64
    → c.warn ≡ (a.warn + b.warn) % 2 ^ 64 → c.error ≡ (a.error + b.error) % 2 ^ 64 → AreCounted (rows ++ more) c
both_counted rows more a b c p q d i w e = record {
  debug = wraps_both (at_level 0) rows more a.debug b.debug c.debug p.debug q.debug d;
  info = wraps_both (at_level 1) rows more a.info b.info c.info p.info q.info i;
  warn = wraps_both (at_level 2) rows more a.warn b.warn c.warn p.warn q.warn w;
  error = wraps_both (at_level 3) rows more a.error b.error c.error p.error q.error e;
}
