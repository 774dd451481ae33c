use Rattle.std.proofs.Common.{◌≡◌, ◌<◌, ℕ, length, map, sym, ap, ◌∙◌, subst, List, rules}
use Rattle.std.specs.Prelude.{IsPermutation, All, slice_get, Some}
use Rattle.std.specs.List.{range_with_len}
use Rattle.std.specs.List.Sorted.{IsSortedByKey}
use Rattle.std.specs.Option.{option_cmp}
use Rattle.std.specs.Ordering.{is_lt}
use Rattle.std.proofs.lemmas.Fn.{always_returns_same}
use Rattle.std.proofs.lemmas.List.Sorted.{All-permutation, IsPermutation-map}
use Rattle.columnar_base.specs.Row.{Row}
use Rattle.columnar_rows.specs.RowOrder.{row_cmp}
use Rattle.columnar_operators.specs.SortLaws.{pair_less, pair_order, pairs_sorted, pairs_stable, all_below, rows_at_sorted}
use Rattle.columnar_operators.proofs.sort.sort_indices.Given.{Over}
use Rattle.columnar_operators.proofs.sort.sort_indices.Goals as goal

-- the rows of the column
abbrev rows_of : (g : Over) (c : goal.After-drop-rows-2 g) → List Row
rows_of g c = g.S.Column.format.rows (g.S.Column.content c.args.column.now)

-- what is answered are the numbers of the sorted pairs
answered : (g : Over) (c : goal.After-drop-rows-2 g) → c.in_ok-indices.indices.items ≡ map (λ p. p.1) c.sort_by.new.self.items
answered g c = c.in_ok-indices.ensures.numbers ∙ ap (map (λ p. p.1)) c.as_slice.ensures.value

-- each sorted pair is a row beside its number
named : (g : Over) (c : goal.After-drop-rows-2 g) → All (λ p. slice_get (rows_of g c) p.1 ≡ Some (g.S.Ref.Item.meaning p.0)) c.sort_by.new.self.items
named g c = All-permutation (λ p. slice_get (rows_of g c) p.1 ≡ Some (g.S.Ref.Item.meaning p.0)) _ _ c.sort_by.ensures.permutation c.in_ok-rows.ensures.numbered.named

pub returns-clause-permutation : goal.returns-clause-permutation
returns-clause-permutation g c =
    rw (answered g c, ← c.in_ok-rows.ensures.numbered.numbers) (IsPermutation-map (λ p. p.1) _ _ c.sort_by.ensures.permutation)

pub returns-clause-in_range : goal.returns-clause-in_range
returns-clause-in_range g c = All-permutation (λ i. i < length (rows_of g c)) _ _ (returns-clause-permutation g c) (all_below (length (rows_of g c)))

pub returns-clause-sorted : goal.returns-clause-sorted
returns-clause-sorted g c =
    let less = pair_less g.S.Ref.Item.meaning (rows_of g c) in
    let up = c.in_ok-sort_by.ensures.sorted less (pair_order g.S.Ref.Item.meaning (rows_of g c)) (always_returns_same _ (λ a r. is_lt r ≡ less a.0.now a.1.0.now) _ (λ a r f' k. search rules)) in
    rows_at_sorted (rows_of g c) c.in_ok-indices.indices.items (returns-clause-in_range g c) (subst (IsSortedByKey (slice_get (rows_of g c)) (option_cmp row_cmp)) (sym (answered g c)) (pairs_sorted g.S.Ref.Item.meaning (rows_of g c) c.sort_by.new.self.items (named g c) up))

pub returns-clause-stable : goal.returns-clause-stable
returns-clause-stable g c =
    let less = pair_less g.S.Ref.Item.meaning (rows_of g c) in
    let stable = c.in_ok-sort_by.ensures.stable less (pair_order g.S.Ref.Item.meaning (rows_of g c)) (always_returns_same _ (λ a r. is_lt r ≡ less a.0.now a.1.0.now) _ (λ a r f' k. search rules)) in
    rw (answered g c) (pairs_stable g.S.Ref.Item.meaning (rows_of g c) _ _ c.in_ok-rows.ensures.numbered (named g c) stable)
