-- The writes of a loop over rows to a hasher.
use Rattle.std.proofs.Common.{◌≡◌, ℕ, ◌+◌, ◌≤◌, List, length, drop, refl, sym, ◌∙◌, ap}
use Rattle.std.specs.Prelude.{slice_get, Some, fold, flat_map}
use Rattle.std.specs.Hash as fed
use Rattle.std.proofs.lemmas.List.{drop_all}
use Rattle.columnar_base.specs.Row.{Row}
use Rattle.columnar_base.specs.RowsLeftLaws.{drop_next}

-- feeding the remaining rows now gives the state of feeding all rows at the start
abbrev pub RestFeeds : {H : Type 0} → (H → List ℕ → H) → (Row → List (List ℕ)) → List Row → H → ℕ → H → Type 0
RestFeeds write feed rs first i now = fold write first (flat_map feed rs) ≡ fold write now (flat_map feed (drop i rs))

pub feed_more : {H : Type 0} (write : H → List ℕ → H) (feed : Row → List (List ℕ)) (rs : List Row) (first : H) (i : ℕ) (now next : H) (r : Row) → slice_get rs i ≡ Some r → next ≡ fold write now (feed r) → RestFeeds write feed rs first i now → RestFeeds write feed rs first (i + 1) next
feed_more write feed rs first i now next r p e d =
    let rest = flat_map feed (drop (i + 1) rs) in
    d ∙ ap (λ qs. fold write now (flat_map feed qs)) (drop_next rs i r p) ∙ sym (fed.fed_then write now next (fold write next rest) (feed r) rest e refl)

pub feed_end : {H : Type 0} (write : H → List ℕ → H) (feed : Row → List (List ℕ)) (rs : List Row) (old first : H) (i n : ℕ) (now : H) → n ≡ length rs → length rs ≤ i → first ≡ fold write old (fed.usize n) → RestFeeds write feed rs first i now → now ≡ fold write old (fed.slice feed rs)
feed_end write feed rs old first i n now c l e d =
    let all : now ≡ fold write first (flat_map feed rs) = sym (d ∙ ap (λ qs. fold write now (flat_map feed qs)) (drop_all i rs l)) in
    fed.fed_then write old first now (fed.usize (length rs)) (flat_map feed rs) (e ∙ ap (λ k. fold write old (fed.usize k)) c) all
