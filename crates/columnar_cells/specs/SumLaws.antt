-- Writes of a row of options and of results.
use Rattle.std.proofs.Common.{ℕ, zero, suc, ◌≡◌, ◌<◌, ◌≤◌, Bool, true, false, not, List, [], ◌∷◌, ◌++◌, length, map, ap, sym, ◌∙◌, refl, ◌+◌, ◌-◌, arith}
use Rattle.std.specs.Prelude.{slice_set, slice_get, Some, None, Ok, Err, IsTrue, ◌↔◌}
use Rattle.std.proofs.lemmas.List.{length-set}
use Rattle.columnar_base.specs.Row.{Row, unit, none, some, ok, err, truth}
use Rattle.columnar_base.specs.Format.{Format, Content, both, IsSound, lengths}
use Rattle.columnar_base.specs.ChangeLaws.{slice_get_some}
use Rattle.columnar_sums.specs.Counting.{ones}
use Rattle.columnar_sums.specs.CountLaws.{ones_zero, ones_true, ones_false}
use Rattle.columnar_sums.specs.RankColumns.{ranks_bits}
use Rattle.columnar_sums.specs.Options.{weave, options_format}
use Rattle.columnar_sums.specs.WeaveLaws.{bit_of_row}
use Rattle.columnar_sums.specs.OptionLaws.{options_parts, options_sound, options_some, options_value, options_absent, length-options}
use Rattle.columnar_sums.specs.Results.{turned, zeros, weave_results, results_format}
use Rattle.columnar_sums.specs.ResultLaws.{results_parts, results_sound, results_ok, results_err, results_ok_value, results_err_value, length-results}
use Rattle.columnar_cells.specs.Wrote.{Wrote, row_at, option_fits, result_fits}
use Rattle.columnar_cells.specs.RowAtLaws.{get_row_at, row_at_get, never}

pub map_get : {A B : Type 0} (f : A → B) (xs : List A) (i : ℕ) (x : A) → slice_get xs i ≡ Some x → slice_get (map f xs) i ≡ Some (f x)
map_get f [] i x h = cc
map_get f (y ∷ ys) zero x h = cc
map_get f (y ∷ ys) (suc i) x h = map_get f ys i x h

-- the value of row i is written
pub weave_set : (i : ℕ) (b : List Bool) (vs : List Row) (r : Row) → slice_get b i ≡ Some true → ones b i < length vs → weave b (slice_set vs (ones b i) r) ≡ slice_set (weave b vs) i (some r)
weave_set i [] vs r p l = cc
weave_set zero (true ∷ b) (v ∷ vs) r p l = rw (ones_zero (true ∷ b)) refl
weave_set zero (true ∷ b) [] r p l = absurd (omega arith)
weave_set zero (false ∷ b) vs r p l = cc
weave_set (suc i) (true ∷ b) (v ∷ vs) r p l =
    let l' : suc (ones b i) < length (v ∷ vs) = rw (ones_true b i) at l in
    rw (ones_true b i) (ap (λ rs. some v ∷ rs) (weave_set i b vs r p (omega arith)))
weave_set (suc i) (true ∷ b) [] r p l = absurd (omega arith)
weave_set (suc i) (false ∷ b) vs r p l = rw (ones_false b i) (ap (λ rs. none ∷ rs) (weave_set i b vs r p (rw (ones_false b i) at l)))

pub options_wrote : (t : Format) {x y y' : Content} (i : ℕ) (r : Row) → IsSound (options_format t) (both x y) → slice_get (map truth (ranks_bits x)) i ≡ Some (truth true) → ones (ranks_bits x) i < length (t.rows y) → Wrote t y y' (ones (ranks_bits x) i) r → Wrote (options_format t) (both x y) (both x y') i (some r)
options_wrote t {x} {y} {y'} i r s h l w =
    let p = options_parts t s in
    let n : length (t.rows y') ≡ length (t.rows y) = ap length w.rows ∙ length-set (t.rows y) (ones (ranks_bits x) i) r in
    record {
      sound = options_sound t (record { bits = p.bits; values = w.sound; level = p.level ∙ sym n });
      rows = ap (weave (ranks_bits x)) w.rows ∙ weave_set i (ranks_bits x) (t.rows y) r (bit_of_row (ranks_bits x) i true h) l;
      lengths_same = ap (λ ns. lengths x ++ ns) w.lengths_same;
    }

-- Row i, from its bit.

pub some_row : (t : Format) {x y : Content} (i : ℕ) → IsSound (options_format t) (both x y) → slice_get (map truth (ranks_bits x)) i ≡ Some (truth true) → row_at (weave (ranks_bits x) (t.rows y)) i ≡ some (row_at (t.rows y) (ones (ranks_bits x) i))
some_row t {x} {y} i s h = row_at_get _ i _ (options_some t x y i _ h (get_row_at (t.rows y) (ones (ranks_bits x) i) (options_value t i s h)))

pub none_row : (t : Format) (x y : Content) (i : ℕ) → slice_get (map truth (ranks_bits x)) i ≡ Some (truth false) → row_at (weave (ranks_bits x) (t.rows y)) i ≡ none
none_row t x y i h = row_at_get _ i _ (options_absent t x y i h)

some_fits_at : {T : Type 0} (fits : Row → T → Type 0) (t : Format) {x y : Content} (i : ℕ) (v : T) (b : Bool) → IsSound (options_format t) (both x y) → slice_get (ranks_bits x) i ≡ Some b → option_fits fits (row_at (weave (ranks_bits x) (t.rows y)) i) (Some v) → (slice_get (ranks_bits x) i ≡ Some true) × fits (row_at (t.rows y) (ones (ranks_bits x) i)) v
some_fits_at fits t {x} {y} i v true s e f = (e, rw (some_row t i s (map_get truth _ i true e)) at f)
some_fits_at fits t {x} {y} i v false s e f = let g : ⊥ = rw (none_row t x y i (map_get truth _ i false e)) at f in absurd g

-- Some fits only a row that has a value, and replaces that value.
pub some_fits : {T : Type 0} (fits : Row → T → Type 0) (t : Format) {x y : Content} (i : ℕ) (v : T) → IsSound (options_format t) (both x y) → i < length (weave (ranks_bits x) (t.rows y)) → option_fits fits (row_at (weave (ranks_bits x) (t.rows y)) i) (Some v) → (slice_get (ranks_bits x) i ≡ Some true) × fits (row_at (t.rows y) (ones (ranks_bits x) i)) v
some_fits fits t {x} {y} i v s l f =
    let p = slice_get_some (ranks_bits x) i (omega (arith, length-options t x y, l)) in
    some_fits_at fits t i v p.0 s p.1 f

none_fits_at : {T : Type 0} (fits : Row → T → Type 0) (t : Format) {x y : Content} (i : ℕ) (b : Bool) → IsSound (options_format t) (both x y) → slice_get (ranks_bits x) i ≡ Some b → option_fits fits (row_at (weave (ranks_bits x) (t.rows y)) i) None → slice_get (ranks_bits x) i ≡ Some false
none_fits_at fits t {x} {y} i true s e f = let g : ⊥ = rw (some_row t i s (map_get truth _ i true e)) at f in absurd g
none_fits_at fits t {x} {y} i false s e f = e

-- None fits only a row that has no value.
pub none_fits : {T : Type 0} (fits : Row → T → Type 0) (t : Format) {x y : Content} (i : ℕ) → IsSound (options_format t) (both x y) → i < length (weave (ranks_bits x) (t.rows y)) → option_fits fits (row_at (weave (ranks_bits x) (t.rows y)) i) None → slice_get (ranks_bits x) i ≡ Some false
none_fits fits t {x} {y} i s l f =
    let p = slice_get_some (ranks_bits x) i (omega (arith, length-options t x y, l)) in
    none_fits_at fits t i p.0 s p.1 f

pub none_tested : {T : Type 0} (fits : Row → T → Type 0) (t : Format) {x y : Content} (i : ℕ) (b : Bool) → IsSound (options_format t) (both x y) → slice_get (map truth (ranks_bits x)) i ≡ Some (truth b) → IsTrue (not b) ↔ option_fits fits (row_at (weave (ranks_bits x) (t.rows y)) i) None
none_tested fits t {x} {y} i true s h = rw (some_row t i s h) (never (λ p. p))
none_tested fits t {x} {y} i false s h = rw (none_row t x y i h) (λ p. tt, λ p. refl)

-- The same for results.

pub ok_row : (a b : Format) {x y z : Content} (i : ℕ) → IsSound (results_format a b) (both x (both y z)) → slice_get (map truth (ranks_bits x)) i ≡ Some (truth true) → row_at (weave_results (ranks_bits x) (a.rows y) (b.rows z)) i ≡ ok (row_at (a.rows y) (ones (ranks_bits x) i))
ok_row a b {x} {y} {z} i s h = row_at_get _ i _ (results_ok a b x y z i _ h (get_row_at (a.rows y) (ones (ranks_bits x) i) (results_ok_value a b i s h)))

pub err_row : (a b : Format) {x y z : Content} (i : ℕ) → IsSound (results_format a b) (both x (both y z)) → slice_get (map truth (ranks_bits x)) i ≡ Some (truth false) → row_at (weave_results (ranks_bits x) (a.rows y) (b.rows z)) i ≡ err (row_at (b.rows z) (zeros (ranks_bits x) i))
err_row a b {x} {y} {z} i s h = row_at_get _ i _ (results_err a b x y z i _ h (get_row_at (b.rows z) (zeros (ranks_bits x) i) (results_err_value a b i s h)))

ok_fits_at : {S T : Type 0} (ok_fits : Row → S → Type 0) (err_fits : Row → T → Type 0) (a b : Format) {x y z : Content} (i : ℕ) (v : S) (bit : Bool) → IsSound (results_format a b) (both x (both y z)) → slice_get (ranks_bits x) i ≡ Some bit → result_fits ok_fits err_fits (row_at (weave_results (ranks_bits x) (a.rows y) (b.rows z)) i) (Ok v) → (slice_get (ranks_bits x) i ≡ Some true) × ok_fits (row_at (a.rows y) (ones (ranks_bits x) i)) v
ok_fits_at ok_fits err_fits a b {x} {y} {z} i v true s e f = (e, rw (ok_row a b i s (map_get truth _ i true e)) at f)
ok_fits_at ok_fits err_fits a b {x} {y} {z} i v false s e f = let g : ⊥ = rw (err_row a b i s (map_get truth _ i false e)) at f in absurd g

pub ok_fits_row : {S T : Type 0} (ok_fits : Row → S → Type 0) (err_fits : Row → T → Type 0) (a b : Format) {x y z : Content} (i : ℕ) (v : S) → IsSound (results_format a b) (both x (both y z)) → i < length (weave_results (ranks_bits x) (a.rows y) (b.rows z)) → result_fits ok_fits err_fits (row_at (weave_results (ranks_bits x) (a.rows y) (b.rows z)) i) (Ok v) → (slice_get (ranks_bits x) i ≡ Some true) × ok_fits (row_at (a.rows y) (ones (ranks_bits x) i)) v
ok_fits_row ok_fits err_fits a b {x} {y} {z} i v s l f =
    let p = slice_get_some (ranks_bits x) i (omega (arith, length-results a b x y z, l)) in
    ok_fits_at ok_fits err_fits a b i v p.0 s p.1 f

err_fits_at : {S T : Type 0} (ok_fits : Row → S → Type 0) (err_fits : Row → T → Type 0) (a b : Format) {x y z : Content} (i : ℕ) (v : T) (bit : Bool) → IsSound (results_format a b) (both x (both y z)) → slice_get (ranks_bits x) i ≡ Some bit → result_fits ok_fits err_fits (row_at (weave_results (ranks_bits x) (a.rows y) (b.rows z)) i) (Err v) → (slice_get (ranks_bits x) i ≡ Some false) × err_fits (row_at (b.rows z) (zeros (ranks_bits x) i)) v
err_fits_at ok_fits err_fits a b {x} {y} {z} i v true s e f = let g : ⊥ = rw (ok_row a b i s (map_get truth _ i true e)) at f in absurd g
err_fits_at ok_fits err_fits a b {x} {y} {z} i v false s e f = (e, rw (err_row a b i s (map_get truth _ i false e)) at f)

pub err_fits_row : {S T : Type 0} (ok_fits : Row → S → Type 0) (err_fits : Row → T → Type 0) (a b : Format) {x y z : Content} (i : ℕ) (v : T) → IsSound (results_format a b) (both x (both y z)) → i < length (weave_results (ranks_bits x) (a.rows y) (b.rows z)) → result_fits ok_fits err_fits (row_at (weave_results (ranks_bits x) (a.rows y) (b.rows z)) i) (Err v) → (slice_get (ranks_bits x) i ≡ Some false) × err_fits (row_at (b.rows z) (zeros (ranks_bits x) i)) v
err_fits_row ok_fits err_fits a b {x} {y} {z} i v s l f =
    let p = slice_get_some (ranks_bits x) i (omega (arith, length-results a b x y z, l)) in
    err_fits_at ok_fits err_fits a b i v p.0 s p.1 f

weave_set_ok : (i : ℕ) (b : List Bool) (vs ws : List Row) (r : Row) → slice_get b i ≡ Some true → ones b i < length vs → weave_results b (slice_set vs (ones b i) r) ws ≡ slice_set (weave_results b vs ws) i (ok r)
weave_set_ok i [] vs ws r p l = cc
weave_set_ok zero (true ∷ b) (v ∷ vs) ws r p l = rw (ones_zero (true ∷ b)) refl
weave_set_ok zero (true ∷ b) [] ws r p l = absurd (omega arith)
weave_set_ok zero (false ∷ b) vs ws r p l = cc
weave_set_ok (suc i) (true ∷ b) (v ∷ vs) ws r p l =
    let l' : suc (ones b i) < length (v ∷ vs) = rw (ones_true b i) at l in
    rw (ones_true b i) (ap (λ rs. ok v ∷ rs) (weave_set_ok i b vs ws r p (omega arith)))
weave_set_ok (suc i) (true ∷ b) [] ws r p l = absurd (omega arith)
weave_set_ok (suc i) (false ∷ b) vs (w ∷ ws) r p l = rw (ones_false b i) (ap (λ rs. err w ∷ rs) (weave_set_ok i b vs ws r p (rw (ones_false b i) at l)))
weave_set_ok (suc i) (false ∷ b) vs [] r p l = rw (ones_false b i) (ap (λ rs. err unit ∷ rs) (weave_set_ok i b vs [] r p (rw (ones_false b i) at l)))

weave_set_err : (i : ℕ) (b : List Bool) (vs ws : List Row) (r : Row) → slice_get b i ≡ Some false → zeros b i < length ws → weave_results b vs (slice_set ws (zeros b i) r) ≡ slice_set (weave_results b vs ws) i (err r)
weave_set_err i [] vs ws r p l = cc
weave_set_err zero (false ∷ b) vs (w ∷ ws) r p l = rw (ones_zero (true ∷ turned b)) refl
weave_set_err zero (false ∷ b) vs [] r p l = absurd (omega arith)
weave_set_err zero (true ∷ b) vs ws r p l = cc
weave_set_err (suc i) (false ∷ b) vs (w ∷ ws) r p l =
    let l' : suc (zeros b i) < length (w ∷ ws) = rw (ones_true (turned b) i) at l in
    rw (ones_true (turned b) i) (ap (λ rs. err w ∷ rs) (weave_set_err i b vs ws r p (omega arith)))
weave_set_err (suc i) (false ∷ b) vs [] r p l = absurd (omega arith)
weave_set_err (suc i) (true ∷ b) (v ∷ vs) ws r p l = rw (ones_false (turned b) i) (ap (λ rs. ok v ∷ rs) (weave_set_err i b vs ws r p (rw (ones_false (turned b) i) at l)))
weave_set_err (suc i) (true ∷ b) [] ws r p l = rw (ones_false (turned b) i) (ap (λ rs. ok unit ∷ rs) (weave_set_err i b [] ws r p (rw (ones_false (turned b) i) at l)))

pub ok_wrote : (a b : Format) {x y y' z : Content} (i : ℕ) (r : Row) → IsSound (results_format a b) (both x (both y z)) → slice_get (ranks_bits x) i ≡ Some true → Wrote a y y' (ones (ranks_bits x) i) r → Wrote (results_format a b) (both x (both y z)) (both x (both y' z)) i (ok r)
ok_wrote a b {x} {y} {y'} {z} i r s h w =
    let p = results_parts a b s in
    let l = results_ok_value a b i s (map_get truth (ranks_bits x) i true h) in
    let n : length (a.rows y') ≡ length (a.rows y) = ap length w.rows ∙ length-set (a.rows y) (ones (ranks_bits x) i) r in
    record {
      sound = results_sound a b (record { bits = p.bits; oks = w.sound; errs = p.errs; ok_level = p.ok_level ∙ sym n; err_level = p.err_level });
      rows = ap (λ vs. weave_results (ranks_bits x) vs (b.rows z)) w.rows ∙ weave_set_ok i (ranks_bits x) (a.rows y) (b.rows z) r h l;
      lengths_same = ap (λ ns. lengths x ++ (ns ++ lengths z)) w.lengths_same;
    }

pub err_wrote : (a b : Format) {x y z z' : Content} (i : ℕ) (r : Row) → IsSound (results_format a b) (both x (both y z)) → slice_get (ranks_bits x) i ≡ Some false → Wrote b z z' (zeros (ranks_bits x) i) r → Wrote (results_format a b) (both x (both y z)) (both x (both y z')) i (err r)
err_wrote a b {x} {y} {z} {z'} i r s h w =
    let p = results_parts a b s in
    let l = results_err_value a b i s (map_get truth (ranks_bits x) i false h) in
    let n : length (b.rows z') ≡ length (b.rows z) = ap length w.rows ∙ length-set (b.rows z) (zeros (ranks_bits x) i) r in
    record {
      sound = results_sound a b (record { bits = p.bits; oks = p.oks; errs = w.sound; ok_level = p.ok_level; err_level = p.err_level ∙ sym n });
      rows = ap (λ ws. weave_results (ranks_bits x) (a.rows y) ws) w.rows ∙ weave_set_err i (ranks_bits x) (a.rows y) (b.rows z) r h l;
      lengths_same = ap (λ ns. lengths x ++ (lengths y ++ ns)) w.lengths_same;
    }
