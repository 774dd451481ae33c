use Rattle.std.proofs.Common.{◌≡◌, ℕ, suc, ◌+◌, ◌-◌, ◌^◌, ◌<◌, ◌≤◌, true, List, [], ◌∷◌, ◌++◌, length, take, refl, sym, ◌∙◌, ap, subst, arith, append_assoc, length-append, append-nil}
use Rattle.std.specs.Prelude.{All}
use Rattle.std.proofs.Math.Seq.{take-length}
use Rattle.std.proofs.lemmas.Bool.{or_left, or_right, lt-ltb}
use Rattle.std.proofs.lemmas.List.{take-append-le}
use Rattle.columnar_base.specs.Row.{Row}
use Rattle.columnar_base.specs.Format.{Format, Content, both, IsSound, IsLawful, too_many, refuses_more}
use Rattle.columnar_base.specs.Change.{Took, IsTrueOf}
use Rattle.columnar_base.specs.ChangeLaws.{took_none, took_twice, true_from}
use Rattle.columnar_base.specs.AlikeLaws.{alike_length}
use Rattle.columnar_base.specs.Elements.{past_count}
use Rattle.columnar_base.specs.WordViews.{words_in, le_bytes}
use Rattle.columnar_base.specs.WordViewLaws.{words_pushed}
use Rattle.columnar_base.specs.declared.fault.GrowError.{GrowError}
use Rattle.columnar_nested.specs.Forest.{width, roots, levels}
use Rattle.columnar_nested.specs.Nodes.{below}
use Rattle.columnar_nested.specs.ToldLaws.{order-roots, length-roots}
use Rattle.columnar_nested.specs.TreeValues.{trees_as_forest, added_values, added_bounds, values_in}
use Rattle.columnar_nested.specs.PushStepLaws.{turn_values, turn_bounds, count_values, width-as_forest}
use Rattle.columnar_nested.specs.PushTurns.{Laid}
use Rattle.columnar_nested.specs.Trees.{nodes_format}
use Rattle.columnar_nested.specs.declared.tree.Tree.{Tree}
use Rattle.columnar_nested.specs.declared.tree.Tree.TheViews.{out-Tree}

pub took_count : {f : Format} {x y : Content} {us : List Row} → Took f x y us → length (f.rows y) ≡ length (f.rows x) + length us
took_count {f} {x} {y} {us} g = ap length g.grew.rows ∙ (length-append (f.rows x) g.fresh ∙ omega (arith, alike_length f.alike g.fresh us g.alike))

pub laid_start : {T : Type 0} (m : T → Row) {valid : T → Type 0} {v : Format} {old : Content} (before : List ℕ) {root : Tree T} {waiting : List (Tree T)} → IsSound v old → All valid (values_in root) → waiting ≡ root ∷ [] → Laid m valid v old old before before root waiting
laid_start m before s h e = record {
  taken = [];
  took = took_none s;
  values = rw e refl;
  ends = rw e refl;
  kept = take-length before;
  longer = omega arith;
  valid_left = rw e h;
}

-- one step, for a node, with the trees `rest` after it
pub laid_more : (T : Type 0) (m : T → Row) {valid : T → Type 0} {v : Format} {old now next : Content} {before bounds bounds' : List ℕ} {root : Tree T} {waiting waiting' : List (Tree T)} (t : Tree T) (rest : List (Tree T)) (b : ℕ)
    → Laid m valid v old now before bounds root waiting → waiting ≡ t ∷ rest → b ≡ (length (v.rows now) + length rest + 1) + length (out-Tree T t).kids.items → b < 2 ^ 64
    → Took v now next (m (out-Tree T t).value ∷ []) → bounds' ≡ bounds ++ b ∷ [] → waiting' ≡ rest ++ (out-Tree T t).kids.items
    → Laid m valid v old next before bounds' root waiting'
laid_more T m {valid} {v} {old} {now} {next} {before} {bounds} {bounds'} {root} {waiting} {waiting'} t rest b l e h fit k f q =
    let tv = turn_values T Row m t rest in
    let tb = turn_bounds T Row m t rest (length (v.rows now)) b h in
    let n : length (v.rows next) ≡ length (v.rows now) + 1 = took_count k in
    let p1 : l.taken ++ added_values m (t ∷ rest) ≡ added_values m (root ∷ []) = ap (λ ts. l.taken ++ added_values m ts) (sym e) ∙ l.values in
    let p2 : words_in (le_bytes bounds) ++ added_bounds m (length (v.rows now)) (t ∷ rest) ≡ words_in (le_bytes before) ++ added_bounds m (length (v.rows old)) (root ∷ []) = ap (λ ts. words_in (le_bytes bounds) ++ added_bounds m (length (v.rows now)) ts) (sym e) ∙ l.ends in
    let a : All valid ((out-Tree T t).value ∷ added_values (λ x. x) (rest ++ (out-Tree T t).kids.items)) = subst (All valid) (ap (added_values (λ x. x)) e ∙ turn_values T T (λ x. x) t rest) l.valid_left in
    let g = length-append bounds (b ∷ []) in
    record {
      taken = l.taken ++ m (out-Tree T t).value ∷ [];
      took = took_twice l.took k;
      values = ap (λ ts. (l.taken ++ m (out-Tree T t).value ∷ []) ++ added_values m ts) q ∙ (append_assoc l.taken (m (out-Tree T t).value ∷ []) (added_values m (rest ++ (out-Tree T t).kids.items)) ∙ (ap (λ vs. l.taken ++ vs) (sym tv) ∙ p1));
      ends = ap (λ bs. bs ++ added_bounds m (length (v.rows next)) waiting') (ap (λ bs. words_in (le_bytes bs)) f ∙ words_pushed bounds b fit)
          ∙ (ap (λ ts. (words_in (le_bytes bounds) ++ b ∷ []) ++ added_bounds m (length (v.rows next)) ts) q
          ∙ (ap (λ i. (words_in (le_bytes bounds) ++ b ∷ []) ++ added_bounds m i (rest ++ (out-Tree T t).kids.items)) n
          ∙ (append_assoc (words_in (le_bytes bounds)) (b ∷ []) (added_bounds m (length (v.rows now) + 1) (rest ++ (out-Tree T t).kids.items)) ∙ (ap (λ bs. words_in (le_bytes bounds) ++ bs) (sym tb) ∙ p2))));
      kept = ap (take (length before)) f ∙ (take-append-le (length before) bounds (b ∷ []) l.longer ∙ l.kept);
      longer = let o = l.longer in omega (arith, ap length f, g, o);
      valid_left = subst (λ ts. All valid (added_values (λ x. x) ts)) (sym q) (λ k d i. a (suc k) d (omega (arith, i)));
    }

-- its value is valid
pub laid_valid : (T : Type 0) {m : T → Row} {valid : T → Type 0} {v : Format} {old now : Content} {before bounds : List ℕ} {root : Tree T} {waiting : List (Tree T)} (t : Tree T) (rest : List (Tree T)) → Laid m valid v old now before bounds root waiting → waiting ≡ t ∷ rest → valid (out-Tree T t).value
laid_valid T {valid = valid} t rest l e =
    let a : All valid ((out-Tree T t).value ∷ added_values (λ x. x) (rest ++ (out-Tree T t).kids.items)) = subst (All valid) (ap (added_values (λ x. x)) e ∙ turn_values T T (λ x. x) t rest) l.valid_left in
    a 0 (out-Tree T t).value (omega arith)

-- no tree is pending
pub laid_values : {T : Type 0} {m : T → Row} {valid : T → Type 0} {v : Format} {old now : Content} {before bounds : List ℕ} {root : Tree T} {waiting : List (Tree T)} → Laid m valid v old now before bounds root waiting → waiting ≡ [] → Took v old now (added_values m (root ∷ []))
laid_values {m = m} {v = v} {old = old} {now = now} {root = root} l e =
    let h : l.taken ≡ added_values m (root ∷ []) = sym (append-nil l.taken) ∙ (ap (λ ts. l.taken ++ added_values m ts) (sym e) ∙ l.values) in
    subst (λ vs. Took v old now vs) h l.took

pub laid_bounds : {T : Type 0} {m : T → Row} {valid : T → Type 0} {v : Format} {old now : Content} {before bounds : List ℕ} {root : Tree T} {waiting : List (Tree T)} → Laid m valid v old now before bounds root waiting → waiting ≡ [] → words_in (le_bytes bounds) ≡ words_in (le_bytes before) ++ added_bounds m (length (v.rows old)) (root ∷ [])
laid_bounds {m = m} {v = v} {now = now} {bounds = bounds} l e = sym (append-nil (words_in (le_bytes bounds))) ∙ (ap (λ ts. words_in (le_bytes bounds) ++ added_bounds m (length (v.rows now)) ts) (sym e) ∙ l.ends)

-- a value is refused
pub laid_refused : (T : Type 0) (m : T → Row) {valid : T → Type 0} {v : Format} {old now : Content} {before bounds : List ℕ} (y : Content) (root : Tree T) {waiting : List (Tree T)} (t : Tree T) (rest : List (Tree T)) (error : GrowError) → IsLawful v
    → Laid m valid v old now before bounds root waiting → waiting ≡ t ∷ rest → IsTrueOf error v now (m (out-Tree T t).value ∷ []) → IsTrueOf error (nodes_format v) (both y old) (added_values m (root ∷ []))
laid_refused T m {valid} {v} {old} {now} y root t rest error law l e c =
    let tv = turn_values T Row m t rest in
    let p : (l.taken ++ m (out-Tree T t).value ∷ []) ++ added_values m (rest ++ (out-Tree T t).kids.items) ≡ added_values m (root ∷ []) =
    append_assoc l.taken (m (out-Tree T t).value ∷ []) (added_values m (rest ++ (out-Tree T t).kids.items)) ∙ (ap (λ vs. l.taken ++ vs) (sym tv) ∙ (ap (λ ts. l.taken ++ added_values m ts) (sym e) ∙ l.values)) in
    true_from v (nodes_format v) now (both y old) (m (out-Tree T t).value ∷ []) (added_values m (root ∷ [])) error
    (λ x h. or_right (past_count x (length (v.rows old) + length (added_values m (root ∷ [])))) (refuses_more v x old (added_values m (root ∷ [])))
    (subst (λ vs. refuses_more v x old vs ≡ true) p (law.more x old (length (v.rows old)) (l.taken ++ m (out-Tree T t).value ∷ []) (added_values m (rest ++ (out-Tree T t).kids.items)) (l.took.adds x (m (out-Tree T t).value ∷ []) h)))) c

-- there are at least as many nodes as trees
as_many : (T : Type 0) (m : T → Row) (ts : List (Tree T)) → length ts ≤ length (added_values m ts)
as_many T m ts =
    let c = count_values m ts in
    let o = ap length (order-roots (trees_as_forest m ts)) in
    let a = length-append (roots (trees_as_forest m ts)) (below (levels (trees_as_forest m ts))) in
    let r = length-roots (trees_as_forest m ts) in
    let w = width-as_forest m ts in
    omega (arith, c, o, a, r, w)

-- 64 bits cannot hold the next bound, so there would be too many nodes
pub laid_too_long : (T : Type 0) (m : T → Row) {valid : T → Type 0} {v : Format} {old now : Content} {before bounds : List ℕ} (y : Content) (root : Tree T) {waiting : List (Tree T)} (t : Tree T) (rest : List (Tree T))
    → Laid m valid v old now before bounds root waiting → waiting ≡ t ∷ rest → 2 ^ 64 ≤ (length (v.rows now) + length rest + 1) + length (out-Tree T t).kids.items → refuses_more (nodes_format v) too_many (both y old) (added_values m (root ∷ [])) ≡ true
laid_too_long T m {valid} {v} {old} {now} y root t rest l e h =
    let n = took_count l.took in
    let tv = ap length (turn_values T Row m t rest) in
    let many = as_many T m (rest ++ (out-Tree T t).kids.items) in
    let la = length-append rest (out-Tree T t).kids.items in
    let p : length (l.taken ++ added_values m (t ∷ rest)) ≡ length (added_values m (root ∷ [])) = ap (λ ts. length (l.taken ++ added_values m ts)) (sym e) ∙ ap length l.values in
    let q = length-append l.taken (added_values m (t ∷ rest)) in
    or_left (past_count too_many (length (v.rows old) + length (added_values m (root ∷ [])))) (refuses_more v too_many old (added_values m (root ∷ [])))
    (lt-ltb (2 ^ 64 - 1) (length (v.rows old) + length (added_values m (root ∷ []))) (omega (arith, n, tv, many, la, p, q, h)))
