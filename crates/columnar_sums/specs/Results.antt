-- Columns of results: a bit for each row, the values of the set bits, and the errors of the clear ones.
use Rattle.std.specs.Prelude.{ℕ, Bool, true, false, not, List, [], ◌∷◌, ◌++◌, ◌≡◌, length, ◌+◌, drop, map, ◌&&◌, ◌||◌, nat_eq}
use Rattle.columnar_core.specs.Row.{Row, unit, none, some, ok, err, row_eq}
use Rattle.columnar_core.specs.Format.{Format, Content, slice, both, part, plain, Fault, two_broken, Excess}
use Rattle.columnar_core.specs.Elements.{past_count}
use Rattle.columnar_sums.specs.Counting.{ones}
use Rattle.columnar_sums.specs.RankColumns.{ranks_bits, ranks_format, ranks_content}
use Rattle.columnar_sums.specs.Options.{somes, option_alike}
use Rattle.columnar_sums.specs.declared.result.Results.{Results}

-- each bit inverted
abbrev pub turned : List Bool → List Bool
turned b = map not b

-- the number of clear bits among the first n
abbrev pub zeros : List Bool → ℕ → ℕ
zeros b n = ones (turned b) n

-- a set bit takes the next of the oks, a clear bit the next of the errs
abbrev pub weave_results : List Bool → List Row → List Row → List Row
weave_results [] vs ws = []
weave_results (true ∷ b) (v ∷ vs) ws = ok v ∷ weave_results b vs ws
weave_results (true ∷ b) [] ws = ok unit ∷ weave_results b [] ws
weave_results (false ∷ b) vs (w ∷ ws) = err w ∷ weave_results b vs ws
weave_results (false ∷ b) vs [] = err unit ∷ weave_results b vs []

-- the value of a row that is Ok, and the error of one that is Err, as options
abbrev pub ok_part : Row → Row
ok_part (ok r) = some r
ok_part _ = none

abbrev pub err_part : Row → Row
err_part (err r) = some r
err_part _ = none

-- a result without its value; any other row unchanged
abbrev pub bare_result : Row → Row
bare_result (ok r) = ok unit
bare_result (err r) = err unit
bare_result r = r

-- the values of the rows that are Ok, and the errors of those that are Err
abbrev pub oks : List Row → List Row
oks rs = somes (map ok_part rs)

abbrev pub errs : List Row → List Row
errs rs = somes (map err_part rs)

-- the parts of a content
abbrev pub left_of : Content → Content
left_of (both x y) = x
left_of c = c

abbrev pub right_of : Content → Content
right_of (both x y) = y
right_of c = c

-- Two parts, one after the other, without a common rule; it has no rows of its own.
abbrev pub beside_format : Format → Format → Format
beside_format a b = record {
  count = a.count + b.count;
  sizes = a.sizes ++ b.sizes;
  aligns = a.aligns ++ b.aligns;
  turns = 16;
  broken = two_broken a b (λ x y. true) 10;
  rows = λ c. [];
  extent = λ c n. [];
  build = λ ss. both (a.build ss) (b.build (drop a.count ss));
  alike = row_eq;
  kin = row_eq;
  refuses = λ e c n rs. false;
}

-- there are as many oks as set bits, and as many errs as clear bits
abbrev pub results_level : Format → Format → Content → Content → Bool
results_level a b x y =
    nat_eq (ones (ranks_bits x) (length (ranks_bits x))) (length (a.rows (left_of y)))
    && nat_eq (zeros (ranks_bits x) (length (ranks_bits x))) (length (b.rows (right_of y)))

abbrev pub results_broken : Format → Format → Content → List Fault
results_broken a b = two_broken ranks_format (beside_format a b) (results_level a b) 10

abbrev pub results_rows : Format → Format → Content → List Row
results_rows a b (both x y) = weave_results (ranks_bits x) (a.rows (left_of y)) (b.rows (right_of y))
results_rows a b (slice bs) = []
results_rows a b (part l u x) = []
results_rows a b (plain rs) = []

-- the extents of n bits, and of the values of the set and the clear bits among them
abbrev pub results_extent : Format → Format → Content → ℕ → List ℕ
results_extent a b (both x y) n =
    ranks_format.extent x n ++ (a.extent (left_of y) (ones (ranks_bits x) n) ++ b.extent (right_of y) (zeros (ranks_bits x) n))
results_extent a b (slice bs) n = []
results_extent a b (part l u x) n = []
results_extent a b (plain rs) n = []

-- both have the same kind, and the values of that kind decide
abbrev pub result_alike : (Row → Row → Bool) → (Row → Row → Bool) → Row → Row → Bool
result_alike a b r s =
    row_eq (bare_result r) (bare_result s) && (option_alike a (ok_part r) (ok_part s) && option_alike b (err_part r) (err_part s))

-- There are too many rows, or the columns cannot hold the oks or the errs.
abbrev pub results_refuses : Format → Format → Excess → Content → ℕ → List Row → Bool
results_refuses a b e (both x y) n rs =
    past_count e (n + length rs)
    || (a.refuses e (left_of y) (ones (ranks_bits x) n) (oks rs) || b.refuses e (right_of y) (zeros (ranks_bits x) n) (errs rs))
results_refuses a b e (slice bs) n rs = false
results_refuses a b e (part l u x) n rs = false
results_refuses a b e (plain rs) n ss = false

-- counted bits, a value for each set bit, and an error for each clear bit
abbrev pub results_format : Format → Format → Format
results_format a b = record {
  count = 3 + (a.count + b.count);
  sizes = 8 ∷ 8 ∷ 8 ∷ (a.sizes ++ b.sizes);
  aligns = 8 ∷ 8 ∷ 8 ∷ (a.aligns ++ b.aligns);
  turns = 16;
  broken = results_broken a b;
  rows = results_rows a b;
  extent = results_extent a b;
  build = λ ss. both (ranks_format.build ss) ((beside_format a b).build (drop 3 ss));
  alike = result_alike a.alike b.alike;
  kin = result_alike a.kin b.kin;
  refuses = results_refuses a b;
}

-- the content of a column of results
abbrev pub results_content : {S T C V W : Type 0} → (S → Content) → (T → Content) → (C → List ℕ) → (V → List ℕ) → (W → List ℕ) → Results S T C V W → Content
results_content of_oks of_errs counts values tail r = both (ranks_content counts values tail r.indexes) (both (of_oks r.oks) (of_errs r.errs))

-- every row is Ok; every row is Err
abbrev pub AreOks : List Row → Type 0
AreOks rs = rs ≡ map ok (oks rs)

abbrev pub AreErrs : List Row → Type 0
AreErrs rs = rs ≡ map err (errs rs)
