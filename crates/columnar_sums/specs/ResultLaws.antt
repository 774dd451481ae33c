use Rattle.std.proofs.Common.{◌≡◌, ℕ, ◌+◌, ◌-◌, ◌*◌, ◌<◌, ◌≤◌, Bool, true, false, not, List, [], ◌∷◌, ◌++◌, length, take, drop, map, refl, sym, ◌∙◌, ap, arith, length-append, length-take, ⊎_elim}
use Rattle.std.specs.Prelude.{slice_get, Some, ◌||◌, ◌&&◌, nat_eq}
use Rattle.std.proofs.lemmas.List.{length-map, take-map, drop-drop, nil_from_length}
use Rattle.std.proofs.lemmas.Bool.{and_parts, and_from, or_left, or_right, eqb-true, eq-eqb}
use Rattle.columnar_core.specs.Row.{Row, truth, ok, err, row_eq}
use Rattle.columnar_core.specs.Format.{Format, Content, slice, both, part, plain, IsSound, IsLawful, IsStorable, IsSame, lengths, Excess, refuses_more, bytes_held, representable, Fits}
use Rattle.columnar_core.specs.AlikeLaws.{alike_length, same_pulled, same_both, row_eq_same, row_eq_exact}
use Rattle.columnar_core.specs.Change.{Keeps, Grew, Stayed, WasCut, Took, Copied, Refused}
use Rattle.columnar_core.specs.ChangeLaws.{true_from, grew_exactly, took_none, unchanged}
use Rattle.columnar_core.specs.TwoParts.{TwoParts}
use Rattle.columnar_core.specs.TwoPartsLaws.{two_form, two_parts, two_sound, two_storable, two_turns, representable_left, representable_right, two_fits_left, two_fits_right}
use Rattle.columnar_base.specs.TupleLaws.{or_both}
use Rattle.columnar_core.specs.Elements.{past_count}
use Rattle.columnar_core.specs.declared.fault.GrowError.{GrowError}
use Rattle.columnar_bits.specs.BoolLaws.{bits_from_rows}
use Rattle.columnar_sums.specs.Counting.{ones}
use Rattle.columnar_sums.specs.CountLaws.{ones_zero}
use Rattle.columnar_sums.specs.RankColumns.{ranks_bits, ranks_format}
use Rattle.columnar_sums.specs.RankLaws.{ranks_lawful, ranks_storable}
use Rattle.columnar_sums.specs.Options.{option_alike}
use Rattle.columnar_sums.specs.Results.{turned, zeros, weave_results, ok_part, err_part, bare_result, oks, errs, beside_format, results_level, result_alike, results_refuses, results_format, AreOks, AreErrs}
use Rattle.columnar_sums.specs.WeaveLaws.{ones_nil, ones_first, ones_cut, ones_most, ones_range, ones_both, ones_taken, ones_before, bit_of_row, ones_of_true, ones_of_false}
use Rattle.columnar_sums.specs.WeaveBothLaws.{ones_zeros, zeros_all, zeros_both, zeros_taken, zeros_first, zeros_cut, zeros_range, length-weave_results, weave_results-append, weave_results-take, weave_results-range, oks-woven, errs-woven, oks-append, errs-append, turned_at, weave_ok, weave_err, weave_results_alike, weave_all_ok, weave_all_err, errs-oks, oks-errs}
use Rattle.columnar_sums.specs.OptionLaws.{values_keep, option_same, options_related, bits_grew, bits_range, no_values}
use Rattle.columnar_sums.specs.Marked.{NeitherTook}

-- the rows of three parts
abbrev woven : (a b : Format) (x y z : Content) → List Row
woven a b x y z = weave_results (ranks_bits x) (a.rows y) (b.rows z)

-- what the soundness of results consists of
pub record SoundResults (a b : Format) (x y z : Content) : Type 0 where
  pub bits : IsSound ranks_format x
  pub oks : IsSound a y
  pub errs : IsSound b z
  pub ok_level : ones (ranks_bits x) (length (ranks_bits x)) ≡ length (a.rows y)
  pub err_level : zeros (ranks_bits x) (length (ranks_bits x)) ≡ length (b.rows z)

-- values and errors, one after the other
pub beside_two : (a b : Format) → TwoParts (beside_format a b) a b (λ x y. true) 10
beside_two a b = record { count = refl; sizes = refl; aligns = refl; build = λ ss. refl; broken = λ c. refl }

-- counted bits, then these
pub results_two : (a b : Format) → TwoParts (results_format a b) ranks_format (beside_format a b) (results_level a b) 10
results_two a b = record { count = refl; sizes = refl; aligns = refl; build = λ ss. refl; broken = λ c. refl }

pub results_parts : (a b : Format) {x y z : Content} → IsSound (results_format a b) (both x (both y z)) → SoundResults a b x y z
results_parts a b {x} {y} {z} s =
    let p = two_parts (results_two a b) x (both y z) s in
    let q = two_parts (beside_two a b) y z p.right in
    let l = and_parts (nat_eq (ones (ranks_bits x) (length (ranks_bits x))) (length (a.rows y))) (nat_eq (zeros (ranks_bits x) (length (ranks_bits x))) (length (b.rows z))) p.own in
    record { bits = p.left; oks = q.left; errs = q.right; ok_level = eqb-true _ _ l.0; err_level = eqb-true _ _ l.1 }

pub results_sound : (a b : Format) {x y z : Content} → SoundResults a b x y z → IsSound (results_format a b) (both x (both y z))
results_sound a b {x} {y} {z} s =
    let q = two_sound (beside_two a b) y z (record { left = s.oks; right = s.errs; own = refl }) in
    two_sound (results_two a b) x (both y z) (record { left = s.bits; right = q; own = and_from _ _ (eq-eqb _ _ s.ok_level) (eq-eqb _ _ s.err_level) })

-- a sound content has three parts
pub record ThreeParts (c : Content) : Type 0 where
  pub bits : Content
  pub oks : Content
  pub errs : Content
  pub is : c ≡ both bits (both oks errs)

pub results_form : (a b : Format) (c : Content) → IsSound (results_format a b) c → ThreeParts c
results_form a b c s =
    let f = two_form (results_two a b) c s in
    let p = two_parts (results_two a b) f.left f.right (rw f.is at s) in
    let g = two_form (beside_two a b) f.right p.right in
    record { bits = f.left; oks = g.left; errs = g.right; is = f.is ∙ ap (both f.left) g.is }

-- as many rows as bits
pub length-results : (a b : Format) (x y z : Content) → length (woven a b x y z) ≡ length (ranks_bits x)
length-results a b x y z = length-weave_results (ranks_bits x) (a.rows y) (b.rows z)

result_same : (p q : Row → Row → Bool) → IsSame p → IsSame q → IsSame (result_alike p q)
result_same p q e f =
    same_both (λ r s. row_eq (bare_result r) (bare_result s)) (λ r s. option_alike p (ok_part r) (ok_part s) && option_alike q (err_part r) (err_part s)) (same_pulled row_eq bare_result row_eq_same)
    (same_both (λ r s. option_alike p (ok_part r) (ok_part s)) (λ r s. option_alike q (err_part r) (err_part s)) (same_pulled (option_alike p) ok_part (option_same p e)) (same_pulled (option_alike q) err_part (option_same q f)))

-- Results refuse rows if there would be too many bits, or if the column of oks or that of errs refuses its rows.
pub results_refuses_more : (a b : Format) {x y z : Content} → IsSound (results_format a b) (both x (both y z)) → (e : Excess) (rs : List Row) → refuses_more (results_format a b) e (both x (both y z)) rs ≡ (past_count e (length (ranks_bits x) + length rs) || (refuses_more a e y (oks rs) || refuses_more b e z (errs rs)))
results_refuses_more a b {x} {y} {z} s e rs =
    let p = results_parts a b s in
    let n = length-results a b x y z in
    ap (λ (k : ℕ). past_count e (k + length rs) || (a.refuses e y (ones (ranks_bits x) k) (oks rs) || b.refuses e z (zeros (ranks_bits x) k) (errs rs))) n
    ∙ (ap (λ (k : ℕ). past_count e (length (ranks_bits x) + length rs) || (a.refuses e y k (oks rs) || b.refuses e z (zeros (ranks_bits x) (length (ranks_bits x))) (errs rs))) p.ok_level
    ∙ ap (λ (k : ℕ). past_count e (length (ranks_bits x) + length rs) || (refuses_more a e y (oks rs) || b.refuses e z k (errs rs))) p.err_level)

filled : (a b : Format) → IsLawful a → IsLawful b → (x y z : Content) → IsSound (results_format a b) (both x (both y z)) → (results_format a b).extent (both x (both y z)) (length (woven a b x y z)) ≡ lengths (both x (both y z))
filled a b la lb x y z s =
    let p = results_parts a b s in
    let n = length-results a b x y z in
    let m : length (map truth (ranks_bits x)) ≡ length (ranks_bits x) = length-map (ranks_bits x) truth in
    let u = ranks_lawful.full x p.bits in
    let e : ranks_format.extent x (length (woven a b x y z)) ≡ lengths x = rw n (rw m at u) in
    let f : a.extent y (ones (ranks_bits x) (length (woven a b x y z))) ≡ lengths y = rw (n, p.ok_level) (la.full y p.oks) in
    let g : b.extent z (zeros (ranks_bits x) (length (woven a b x y z))) ≡ lengths z = rw (n, p.err_level) (lb.full z p.errs) in
    cc

results_full : (a b : Format) → IsLawful a → IsLawful b → (c : Content) → IsSound (results_format a b) c → (results_format a b).extent c (length ((results_format a b).rows c)) ≡ lengths c
results_full a b la lb c s =
    let f = results_form a b c s in
    rw f.is (filled a b la lb f.bits f.oks f.errs (rw f.is at s))

results_more : (a b : Format) → IsLawful a → IsLawful b → (e : Excess) (c : Content) (n : ℕ) (rs ss : List Row) → results_refuses a b e c n rs ≡ true → results_refuses a b e c n (rs ++ ss) ≡ true
results_more a b la lb e (both x y) n rs ss h =
    rw (oks-append, errs-append) (or_both (past_count e (n + length rs)) _ (past_count e (n + length (rs ++ ss))) _ (λ k. ranks_lawful.more e x n rs ss k)
    (or_both _ _ _ _ (la.more e _ (ones (ranks_bits x) n) (oks rs) (oks ss)) (lb.more e _ (zeros (ranks_bits x) n) (errs rs) (errs ss))) h)
results_more a b la lb e (slice bs) n rs ss h = h
results_more a b la lb e (part l u x) n rs ss h = h
results_more a b la lb e (plain ts) n rs ss h = h

-- rows that represent an item are kin to it
results_related : (p q p' q' : Row → Row → Bool) → ((r s : Row) → p r s ≡ true → p' r s ≡ true) → ((r s : Row) → q r s ≡ true → q' r s ≡ true) → (r s : Row) → result_alike p q r s ≡ true → result_alike p' q' r s ≡ true
results_related p q p' q' e f r s h =
    let u = and_parts (row_eq (bare_result r) (bare_result s)) (option_alike p (ok_part r) (ok_part s) && option_alike q (err_part r) (err_part s)) h in
    let v = and_parts (option_alike p (ok_part r) (ok_part s)) (option_alike q (err_part r) (err_part s)) u.1 in
    and_from _ _ u.0 (and_from _ _ (options_related p p' e (ok_part r) (ok_part s) v.0) (options_related q q' f (err_part r) (err_part s) v.1))

pub results_lawful : (a b : Format) → IsLawful a → IsLawful b → IsLawful (results_format a b)
results_lawful a b la lb = record {
  full = results_full a b la lb;
  same = result_same a.alike b.alike la.same lb.same;
  kindred = result_same a.kin b.kin la.kindred lb.kindred;
  related = results_related a.alike b.alike a.kin b.kin la.related lb.related;
  more = results_more a b la lb;
}

pub results_storable : (a b : Format) → IsStorable a → IsStorable b → IsStorable (results_format a b)
results_storable a b p q = two_storable (results_two a b) (omega arith) ranks_storable (two_storable (beside_two a b) (omega arith) p q)

-- equal formats of parts make equal formats
pub same_results : {a a' b b' : Format} → a ≡ a' → b ≡ b' → results_format a b ≡ results_format a' b'
same_results {a} {a'} {b} {b'} p q = rw (p, q) refl

-- no bits, no oks and no errs
pub results_none : (a b : Format) {x y z : Content} → IsSound ranks_format x → IsSound a y → IsSound b z → map truth (ranks_bits x) ≡ [] → a.rows y ≡ [] → b.rows z ≡ [] → IsSound (results_format a b) (both x (both y z))
results_none a b {x} {y} {z} s t u e f g =
    let h : ranks_bits x ≡ [] = bits_from_rows (ranks_bits x) [] e in
    results_sound a b (record { bits = s; oks = t; errs = u; ok_level = rw (h, f) (ones_nil 0); err_level = rw (h, g) (ones_nil 0) })

-- changes

-- If the set and clear bits, the oks and the errs stay the same, so do the results.
results_keeps : (a b : Format) (x x' : Content) {y y' z z' : Content} (n : ℕ) {k m : ℕ} → ((i : ℕ) → i ≤ n → ones (ranks_bits x') i ≡ ones (ranks_bits x) i) → ((i : ℕ) → i ≤ n → zeros (ranks_bits x') i ≡ zeros (ranks_bits x) i) → ones (ranks_bits x) n ≤ k → zeros (ranks_bits x) n ≤ m → Keeps a y y' k → Keeps b z z' m → Keeps (results_format a b) (both x (both y z)) (both x' (both y' z')) n
results_keeps a b x x' n e e' l l' g g' =
    let f = values_keep a (ranks_bits x) (ranks_bits x') n e l g in
    let h = values_keep b (turned (ranks_bits x)) (turned (ranks_bits x')) n e' l' g' in
    record {
      extents = λ i q. let u = f.extents i q in let v = h.extents i q in rw (u, v) refl;
      limits = λ i q w rs. let u = f.limits i q w (oks rs) in let v = h.limits i q w (errs rs) in rw (u, v) refl;
    }

-- bits, the values of the set ones, and the errors of the clear ones
pub results_grew : (a b : Format) {x x' y y' z z' : Content} (cs : List Bool) {vs ws : List Row} → IsSound (results_format a b) (both x (both y z)) → ones cs (length cs) ≡ length vs → zeros cs (length cs) ≡ length ws → Grew ranks_format x x' (map truth cs) → Grew a y y' vs → Grew b z z' ws → Grew (results_format a b) (both x (both y z)) (both x' (both y' z')) (weave_results cs vs ws)
results_grew a b {x} {x'} {y} {y'} {z} {z'} cs {vs} {ws} s l m g h k =
    let p = results_parts a b s in
    let e : ranks_bits x' ≡ ranks_bits x ++ cs = bits_grew x x' cs g.rows in
    let n = length-results a b x y z in
    let u : length (a.rows y') ≡ length (a.rows y) + length vs = ap length h.rows ∙ length-append (a.rows y) vs in
    let v : length (b.rows z') ≡ length (b.rows z) + length ws = ap length k.rows ∙ length-append (b.rows z) ws in
    record {
      sound = results_sound a b (record {
        bits = g.sound;
        oks = h.sound;
        errs = k.sound;
        ok_level = ap (λ (c : List Bool). ones c (length c)) e ∙ (ones_both (ranks_bits x) cs ∙ omega (arith, p.ok_level, u, l));
        err_level = ap (λ (c : List Bool). zeros c (length c)) e ∙ (zeros_both (ranks_bits x) cs ∙ omega (arith, p.err_level, v, m));
      });
      rows = rw (e, h.rows, k.rows) (weave_results-append (ranks_bits x) cs (a.rows y) vs (b.rows z) ws p.ok_level p.err_level);
      kept = results_keeps a b x x' (length (woven a b x y z)) (λ i j. rw e (ones_first (ranks_bits x) cs i (omega arith))) (λ i j. ap (λ (c : List Bool). zeros c i) e ∙ zeros_first (ranks_bits x) cs i (omega arith)) (rw n (omega (arith, p.ok_level))) (rw n (omega (arith, p.err_level))) h.kept k.kept;
    }

-- rows that the new results refuse, the old ones refuse after the added rows
results_adds : (a b : Format) {x x' y y' z z' : Content} (cs : List Bool) (vs ws : List Row) → IsSound (results_format a b) (both x (both y z)) → IsSound (results_format a b) (both x' (both y' z')) → ranks_bits x' ≡ ranks_bits x ++ cs → ones cs (length cs) ≡ length vs → zeros cs (length cs) ≡ length ws → ((e : Excess) (rs : List Row) → refuses_more a e y' rs ≡ true → refuses_more a e y (vs ++ rs) ≡ true) → ((e : Excess) (rs : List Row) → refuses_more b e z' rs ≡ true → refuses_more b e z (ws ++ rs) ≡ true) → (e : Excess) (rs : List Row) → refuses_more (results_format a b) e (both x' (both y' z')) rs ≡ true → refuses_more (results_format a b) e (both x (both y z)) (weave_results cs vs ws ++ rs) ≡ true
results_adds a b {x} {x'} {y} {y'} {z} {z'} cs vs ws s s' t l m g h e rs k =
    let u : oks (weave_results cs vs ws ++ rs) ≡ vs ++ oks rs = oks-append (weave_results cs vs ws) rs ∙ ap (λ (q : List Row). q ++ oks rs) (oks-woven cs vs ws l) in
    let v : errs (weave_results cs vs ws ++ rs) ≡ ws ++ errs rs = errs-append (weave_results cs vs ws) rs ∙ ap (λ (q : List Row). q ++ errs rs) (errs-woven cs vs ws m) in
    let n : length (ranks_bits x') ≡ length (ranks_bits x) + length cs = ap length t ∙ length-append (ranks_bits x) cs in
    let o : length (ranks_bits x') + length rs ≡ length (ranks_bits x) + length (weave_results cs vs ws ++ rs) = omega (arith, n, length-append (weave_results cs vs ws) rs, length-weave_results cs vs ws) in
    let q = or_both (past_count e (length (ranks_bits x') + length rs)) (refuses_more a e y' (oks rs) || refuses_more b e z' (errs rs)) (past_count e (length (ranks_bits x) + length (weave_results cs vs ws ++ rs))) (refuses_more a e y (vs ++ oks rs) || refuses_more b e z (ws ++ errs rs)) (λ w. sym (ap (past_count e) o) ∙ w) (or_both (refuses_more a e y' (oks rs)) (refuses_more b e z' (errs rs)) (refuses_more a e y (vs ++ oks rs)) (refuses_more b e z (ws ++ errs rs)) (g e (oks rs)) (h e (errs rs))) (sym (results_refuses_more a b s' e rs) ∙ k) in
    results_refuses_more a b s e (weave_results cs vs ws ++ rs) ∙ (rw (u, v) q)

pub results_took : (a b : Format) {x x' y y' z z' : Content} (cs : List Bool) {vs ws : List Row} → IsSame a.alike → IsSame b.alike → IsSound (results_format a b) (both x (both y z)) → ones cs (length cs) ≡ length vs → zeros cs (length cs) ≡ length ws → Took ranks_format x x' (map truth cs) → Took a y y' vs → Took b z z' ws → Took (results_format a b) (both x (both y z)) (both x' (both y' z')) (weave_results cs vs ws)
results_took a b {x} {x'} {y} {y'} {z} {z'} cs {vs} {ws} qa qb s l m g h k =
    let f : length h.fresh ≡ length vs = alike_length a.alike h.fresh vs h.alike in
    let o : length k.fresh ≡ length ws = alike_length b.alike k.fresh ws k.alike in
    let t = grew_exactly row_eq_exact g in
    let r = results_grew a b cs s (l ∙ sym f) (m ∙ sym o) t h.grew k.grew in
    record { fresh = weave_results cs h.fresh k.fresh; grew = r; alike = weave_results_alike a.alike b.alike qa qb cs h.fresh vs k.fresh ws h.alike k.alike; adds = results_adds a b cs vs ws s r.sound (bits_grew x x' cs t.rows) l m h.adds k.adds }

pub results_copied : (a b : Format) {x x' y y' z z' : Content} (cs : List Bool) {vs ws : List Row} (start lo up : ℕ) → IsSame a.alike → IsSame b.alike → (start ≡ 0 → lo ≡ 0) → (start ≡ 0 → up ≡ 0) → IsSound (results_format a b) (both x (both y z)) → ones cs (length cs) ≡ length vs → zeros cs (length cs) ≡ length ws → Copied ranks_format x x' start (map truth cs) → Copied a y y' lo vs → Copied b z z' up ws → Copied (results_format a b) (both x (both y z)) (both x' (both y' z')) start (weave_results cs vs ws)
results_copied a b {x} {x'} {y} {y'} {z} {z'} cs {vs} {ws} start lo up qa qb i j s l m g h k = record {
  took = results_took a b cs qa qb s l m g.took h.took k.took;
  front = λ n q.
      let p = results_parts a b s in
      let e : ranks_bits x ≡ [] = nil_from_length (ranks_bits x) (sym (length-results a b x y z) ∙ ap length n) in
      let v = no_values (ranks_bits x) (a.rows y) e p.ok_level in
      let w = no_values (turned (ranks_bits x)) (b.rows z) (ap turned e) (zeros_all (ranks_bits x) ∙ p.err_level) in
      let u : map truth (ranks_bits x) ≡ [] = rw e refl in
      let c : ranks_bits x' ≡ cs = bits_from_rows (ranks_bits x') cs (g.front u q) in
      rw (c, h.front v (i q), k.front w (j q)) refl;
}

pub results_stayed : (a b : Format) {x x' y y' z z' : Content} → IsSound (results_format a b) (both x (both y z)) → Stayed ranks_format x x' → Stayed a y y' → Stayed b z z' → Stayed (results_format a b) (both x (both y z)) (both x' (both y' z'))
results_stayed a b {x} {x'} {y} {y'} {z} {z'} s g h k =
    let p = results_parts a b s in
    let n = length-results a b x y z in
    let e : ranks_bits x' ≡ ranks_bits x = bits_from_rows (ranks_bits x') (ranks_bits x) g.rows in
    record {
      sound = results_sound a b (record { bits = g.sound; oks = h.sound; errs = k.sound; ok_level = rw (e, h.rows) p.ok_level; err_level = rw (e, k.rows) p.err_level });
      rows = rw (e, h.rows, k.rows) refl;
      lengths_same = let u = g.lengths_same in let v = h.lengths_same in let w = k.lengths_same in cc;
      kept = results_keeps a b x x' (length (woven a b x y z)) (λ i j. rw e refl) (λ i j. rw e refl) (rw n (omega (arith, p.ok_level))) (rw n (omega (arith, p.err_level))) h.kept k.kept;
    }

-- the bits were truncated to n, the oks to the set bits before n, and the errs to the clear bits
pub results_cut : (a b : Format) {x x' y y' z z' : Content} {n : ℕ} → IsSound (results_format a b) (both x (both y z)) → WasCut ranks_format x x' n → WasCut a y y' (ones (ranks_bits x) n) → WasCut b z z' (zeros (ranks_bits x) n) → n ≤ length (woven a b x y z) → WasCut (results_format a b) (both x (both y z)) (both x' (both y' z')) n
results_cut a b {x} {x'} {y} {y'} {z} {z'} {n} s g h k l =
    let p = results_parts a b s in
    let m = length-results a b x y z in
    let c = ranks_bits x in
    let e : ranks_bits x' ≡ take n c = bits_from_rows (ranks_bits x') (take n c) (g.rows ∙ take-map truth n c) in
    let o = ones_most c n (omega arith) in
    let q : zeros c n ≤ zeros c (length c) = omega (arith, ones_most (turned c) n (omega (arith, length-map c not)), zeros_all c) in
    let u : length (a.rows y') ≡ ones c n = rw (h.rows, length-take) (omega (arith, p.ok_level)) in
    let v : length (b.rows z') ≡ zeros c n = rw (k.rows, length-take) (omega (arith, p.err_level)) in
    record {
      sound = results_sound a b (record { bits = g.sound; oks = h.sound; errs = k.sound; ok_level = rw e (ones_taken n c) ∙ sym u; err_level = rw e (zeros_taken n c) ∙ sym v });
      rows = rw (e, h.rows, k.rows) (weave_results-take n c (a.rows y) (b.rows z));
      lengths_cut = let i = g.lengths_cut in let j = h.lengths_cut in let w = k.lengths_cut in cc;
      kept = results_keeps a b x x' n (λ i j. rw e (ones_cut c n i j)) (λ i j. rw e (zeros_cut c n i j)) (omega arith) (omega arith) h.kept k.kept;
    }

-- rows that one part refuses, the results refuse
refuses_bits : (a b : Format) {x y z : Content} (cs : List Bool) (vs ws : List Row) → IsSound (results_format a b) (both x (both y z)) → (e : Excess) → refuses_more ranks_format e x (map truth cs) ≡ true → refuses_more (results_format a b) e (both x (both y z)) (weave_results cs vs ws) ≡ true
refuses_bits a b {x} {y} {z} cs vs ws s e h =
    let n : length (map truth (ranks_bits x)) + length (map truth cs) ≡ length (ranks_bits x) + length (weave_results cs vs ws) = omega (arith, length-map (ranks_bits x) truth, length-map cs truth, length-weave_results cs vs ws) in
    results_refuses_more a b s e (weave_results cs vs ws) ∙ or_left _ _ (sym (ap (past_count e) n) ∙ h)

refuses_oks : (a b : Format) {x y z : Content} (cs : List Bool) (vs ws : List Row) → IsSound (results_format a b) (both x (both y z)) → ones cs (length cs) ≡ length vs → (e : Excess) → refuses_more a e y vs ≡ true → refuses_more (results_format a b) e (both x (both y z)) (weave_results cs vs ws) ≡ true
refuses_oks a b {x} {y} {z} cs vs ws s l e h =
    let rs : List Row = weave_results cs vs ws in
    let k : refuses_more a e y (oks rs) ≡ true = rw (oks-woven cs vs ws l) h in
    results_refuses_more a b s e rs ∙ or_right (past_count e (length (ranks_bits x) + length rs)) (refuses_more a e y (oks rs) || refuses_more b e z (errs rs)) (or_left (refuses_more a e y (oks rs)) (refuses_more b e z (errs rs)) k)

refuses_errs : (a b : Format) {x y z : Content} (cs : List Bool) (vs ws : List Row) → IsSound (results_format a b) (both x (both y z)) → zeros cs (length cs) ≡ length ws → (e : Excess) → refuses_more b e z ws ≡ true → refuses_more (results_format a b) e (both x (both y z)) (weave_results cs vs ws) ≡ true
refuses_errs a b {x} {y} {z} cs vs ws s l e h =
    let rs : List Row = weave_results cs vs ws in
    let k : refuses_more b e z (errs rs) ≡ true = rw (errs-woven cs vs ws l) h in
    results_refuses_more a b s e rs ∙ or_right (past_count e (length (ranks_bits x) + length rs)) (refuses_more a e y (oks rs) || refuses_more b e z (errs rs)) (or_right (refuses_more a e y (oks rs)) (refuses_more b e z (errs rs)) k)

-- one part refused, and the others are unchanged
pub results_refused_bits : (a b : Format) {x x' y y' z z' : Content} (cs : List Bool) (vs ws : List Row) {error : GrowError} → IsSound (results_format a b) (both x (both y z)) → Refused ranks_format x x' (map truth cs) error → Stayed a y y' → Stayed b z z' → Refused (results_format a b) (both x (both y z)) (both x' (both y' z')) (weave_results cs vs ws) error
results_refused_bits a b {x} {x'} {y} {y'} {z} {z'} cs vs ws {error} s g h k = record {
  stayed = results_stayed a b s g.stayed h k;
  cause = true_from ranks_format (results_format a b) x (both x (both y z)) (map truth cs) (weave_results cs vs ws) error (refuses_bits a b cs vs ws s) g.cause;
}

pub results_refused_oks : (a b : Format) {x x' y y' z z' : Content} (cs : List Bool) (vs ws : List Row) {error : GrowError} → IsSound (results_format a b) (both x (both y z)) → ones cs (length cs) ≡ length vs → Stayed ranks_format x x' → Refused a y y' vs error → Stayed b z z' → Refused (results_format a b) (both x (both y z)) (both x' (both y' z')) (weave_results cs vs ws) error
results_refused_oks a b {x} {x'} {y} {y'} {z} {z'} cs vs ws {error} s l g h k = record {
  stayed = results_stayed a b s g h.stayed k;
  cause = true_from a (results_format a b) y (both x (both y z)) vs (weave_results cs vs ws) error (refuses_oks a b cs vs ws s l) h.cause;
}

pub results_refused_errs : (a b : Format) {x x' y y' z z' : Content} (cs : List Bool) (vs ws : List Row) {error : GrowError} → IsSound (results_format a b) (both x (both y z)) → zeros cs (length cs) ≡ length ws → Stayed ranks_format x x' → Stayed a y y' → Refused b z z' ws error → Refused (results_format a b) (both x (both y z)) (both x' (both y' z')) (weave_results cs vs ws) error
results_refused_errs a b {x} {x'} {y} {y'} {z} {z'} cs vs ws {error} s l g h k = record {
  stayed = results_stayed a b s g h k.stayed;
  cause = true_from b (results_format a b) z (both x (both y z)) ws (weave_results cs vs ws) error (refuses_errs a b cs vs ws s l) k.cause;
}

-- one row

pub results_took_ok : (a b : Format) {x x' y y' z : Content} {r : Row} → IsSame a.alike → IsSame b.alike → IsSound (results_format a b) (both x (both y z)) → Took a y y' (r ∷ []) → Took ranks_format x x' (truth true ∷ []) → Took (results_format a b) (both x (both y z)) (both x' (both y' z)) (ok r ∷ [])
results_took_ok a b {x} {x'} {y} {y'} {z} {r} qa qb s g h = results_took a b (true ∷ []) {vs = r ∷ []} {ws = []} qa qb s ones_of_true ones_of_false h g (took_none (results_parts a b s).errs)

pub results_took_err : (a b : Format) {x x' y z z' : Content} {r : Row} → IsSame a.alike → IsSame b.alike → IsSound (results_format a b) (both x (both y z)) → Took b z z' (r ∷ []) → Took ranks_format x x' (truth false ∷ []) → Took (results_format a b) (both x (both y z)) (both x' (both y z')) (err r ∷ [])
results_took_err a b {x} {x'} {y} {z} {z'} {r} qa qb s g h = results_took a b (false ∷ []) {vs = []} {ws = r ∷ []} qa qb s ones_of_false ones_of_true h (took_none (results_parts a b s).oks) g

pub results_refused_ok : (a b : Format) {x x' y y' z : Content} (r : Row) {error : GrowError} → IsSound (results_format a b) (both x (both y z)) → NeitherTook a ranks_format y y' x x' (r ∷ []) (truth true ∷ []) error → Refused (results_format a b) (both x (both y z)) (both x' (both y' z)) (ok r ∷ []) error
results_refused_ok a b {x} {x'} {y} {y'} {z} r s h =
    let k = unchanged (results_parts a b s).errs in
    ⊎_elim (λ p. results_refused_oks a b (true ∷ []) (r ∷ []) [] s ones_of_true p.1 p.0 k) (λ p. results_refused_bits a b (true ∷ []) (r ∷ []) [] s p.1 p.0 k) h

pub results_refused_err : (a b : Format) {x x' y z z' : Content} (r : Row) {error : GrowError} → IsSound (results_format a b) (both x (both y z)) → NeitherTook b ranks_format z z' x x' (r ∷ []) (truth false ∷ []) error → Refused (results_format a b) (both x (both y z)) (both x' (both y z')) (err r ∷ []) error
results_refused_err a b {x} {x'} {y} {z} {z'} r s h =
    let k = unchanged (results_parts a b s).oks in
    ⊎_elim (λ p. results_refused_errs a b (false ∷ []) [] (r ∷ []) s ones_of_true p.1 k p.0) (λ p. results_refused_bits a b (false ∷ []) [] (r ∷ []) s p.1 k p.0) h

-- reads

pub results_bit : (a b : Format) (x y z : Content) (i : ℕ) → i < length (woven a b x y z) → i < length (map truth (ranks_bits x))
results_bit a b x y z i l = omega (arith, length-results a b x y z, length-map (ranks_bits x) truth)

pub results_within : (a b : Format) (x y z : Content) (i : ℕ) → i ≤ length (woven a b x y z) → i ≤ length (ranks_bits x)
results_within a b x y z i l = omega (arith, length-results a b x y z)

-- the number of clear bits among the first n
pub results_clear : (a b : Format) (x y z : Content) (n : ℕ) → n ≤ length (woven a b x y z) → ones (ranks_bits x) n + zeros (ranks_bits x) n ≡ n
results_clear a b x y z n l = ones_zeros (ranks_bits x) n (results_within a b x y z n l)

-- n minus the rank of n is the number of clear bits
pub results_clear_of : (a b : Format) (x y z : Content) (n at : ℕ) → at ≡ ones (ranks_bits x) n → n ≤ length (woven a b x y z) → n - at ≡ zeros (ranks_bits x) n
results_clear_of a b x y z n at e l = omega (arith, e, results_clear a b x y z n l)

pub results_ok_top : (a b : Format) (x y z : Content) (n : ℕ) → IsSound (results_format a b) (both x (both y z)) → n ≤ length (woven a b x y z) → ones (ranks_bits x) n ≤ length (a.rows y)
results_ok_top a b x y z n s l = omega (arith, ones_most (ranks_bits x) n (results_within a b x y z n l), (results_parts a b s).ok_level)

pub results_err_top : (a b : Format) (x y z : Content) (n : ℕ) → IsSound (results_format a b) (both x (both y z)) → n ≤ length (woven a b x y z) → zeros (ranks_bits x) n ≤ length (b.rows z)
results_err_top a b x y z n s l = omega (arith, ones_most (turned (ranks_bits x)) n (omega (arith, length-map (ranks_bits x) not, results_within a b x y z n l)), zeros_all (ranks_bits x), (results_parts a b s).err_level)

-- the value of an Ok row, the error of an Err row
pub results_ok_value : (a b : Format) {x y z : Content} (i : ℕ) → IsSound (results_format a b) (both x (both y z)) → slice_get (map truth (ranks_bits x)) i ≡ Some (truth true) → ones (ranks_bits x) i < length (a.rows y)
results_ok_value a b {x} {y} {z} i s h = omega (arith, ones_before (ranks_bits x) i (bit_of_row (ranks_bits x) i true h), (results_parts a b s).ok_level)

pub results_err_value : (a b : Format) {x y z : Content} (i : ℕ) → IsSound (results_format a b) (both x (both y z)) → slice_get (map truth (ranks_bits x)) i ≡ Some (truth false) → zeros (ranks_bits x) i < length (b.rows z)
results_err_value a b {x} {y} {z} i s h = omega (arith, ones_before (turned (ranks_bits x)) i (turned_at (ranks_bits x) i false (bit_of_row (ranks_bits x) i false h)), zeros_all (ranks_bits x), (results_parts a b s).err_level)

pub results_ok : (a b : Format) (x y z : Content) (i : ℕ) (v : Row) → slice_get (map truth (ranks_bits x)) i ≡ Some (truth true) → slice_get (a.rows y) (ones (ranks_bits x) i) ≡ Some v → slice_get (woven a b x y z) i ≡ Some (ok v)
results_ok a b x y z i v h k = weave_ok i (ranks_bits x) (a.rows y) (b.rows z) v (bit_of_row (ranks_bits x) i true h) k

pub results_err : (a b : Format) (x y z : Content) (i : ℕ) (w : Row) → slice_get (map truth (ranks_bits x)) i ≡ Some (truth false) → slice_get (b.rows z) (zeros (ranks_bits x) i) ≡ Some w → slice_get (woven a b x y z) i ≡ Some (err w)
results_err a b x y z i w h k = weave_err i (ranks_bits x) (a.rows y) (b.rows z) w (bit_of_row (ranks_bits x) i false h) k

-- without errs each row is Ok; and conversely
pub results_all_ok : (a b : Format) {x y z : Content} → IsSound (results_format a b) (both x (both y z)) → length (b.rows z) ≡ 0 → woven a b x y z ≡ map ok (a.rows y)
results_all_ok a b {x} {y} {z} s n = let p = results_parts a b s in weave_all_ok (ranks_bits x) (a.rows y) (b.rows z) p.ok_level p.err_level n

pub results_all_err : (a b : Format) {x y z : Content} → IsSound (results_format a b) (both x (both y z)) → length (a.rows y) ≡ 0 → woven a b x y z ≡ map err (b.rows z)
results_all_err a b {x} {y} {z} s n = let p = results_parts a b s in weave_all_err (ranks_bits x) (a.rows y) (b.rows z) p.ok_level p.err_level n

pub results_oks : (a b : Format) {x y z : Content} → IsSound (results_format a b) (both x (both y z)) → oks (woven a b x y z) ≡ a.rows y
results_oks a b {x} {y} {z} s = oks-woven (ranks_bits x) (a.rows y) (b.rows z) (results_parts a b s).ok_level

pub results_errs : (a b : Format) {x y z : Content} → IsSound (results_format a b) (both x (both y z)) → errs (woven a b x y z) ≡ b.rows z
results_errs a b {x} {y} {z} s = errs-woven (ranks_bits x) (a.rows y) (b.rows z) (results_parts a b s).err_level

pub results_are_oks : (a b : Format) {x y z : Content} → IsSound (results_format a b) (both x (both y z)) → length (b.rows z) ≡ 0 → AreOks (woven a b x y z)
results_are_oks a b s n = results_all_ok a b s n ∙ ap (map ok) (sym (results_oks a b s))

pub results_are_errs : (a b : Format) {x y z : Content} → IsSound (results_format a b) (both x (both y z)) → length (a.rows y) ≡ 0 → AreErrs (woven a b x y z)
results_are_errs a b s n = results_all_err a b s n ∙ ap (map err) (sym (results_errs a b s))

pub results_no_errs : (a b : Format) {x y z : Content} → IsSound (results_format a b) (both x (both y z)) → AreOks (woven a b x y z) → length (b.rows z) ≡ 0
results_no_errs a b {x} {y} {z} s h = ap length (sym (results_errs a b s) ∙ (ap errs h ∙ errs-oks (oks (woven a b x y z))))

pub results_no_oks : (a b : Format) {x y z : Content} → IsSound (results_format a b) (both x (both y z)) → AreErrs (woven a b x y z) → length (a.rows y) ≡ 0
results_no_oks a b {x} {y} {z} s h = ap length (sym (results_oks a b s) ∙ (ap oks h ∙ oks-errs (errs (woven a b x y z))))

-- ranges

-- the oks of a range lie between the numbers of set bits before its ends, the errs between the numbers of clear bits
range_of : (a b : Format) (x y z : Content) (start end : ℕ) → start ≤ end → weave_results (take (end - start) (drop start (ranks_bits x))) (take (ones (ranks_bits x) end - ones (ranks_bits x) start) (drop (ones (ranks_bits x) start) (a.rows y))) (take (zeros (ranks_bits x) end - zeros (ranks_bits x) start) (drop (zeros (ranks_bits x) start) (b.rows z))) ≡ take (end - start) (drop start (woven a b x y z))
range_of a b x y z start end l =
    let e : end ≡ start + (end - start) = omega arith in
    ap (λ (k : ℕ). weave_results (take (end - start) (drop start (ranks_bits x))) (take (ones (ranks_bits x) k - ones (ranks_bits x) start) (drop (ones (ranks_bits x) start) (a.rows y))) (take (zeros (ranks_bits x) k - zeros (ranks_bits x) start) (drop (zeros (ranks_bits x) start) (b.rows z)))) e
    ∙ weave_results-range (ranks_bits x) (a.rows y) (b.rows z) start (end - start)

-- the bits of a range, its oks and its errs
abbrev bits_in : Content → ℕ → ℕ → List Bool
bits_in x start end = take (end - start) (drop start (ranks_bits x))

abbrev oks_in : Format → Content → Content → ℕ → ℕ → List Row
oks_in a x y start end = take (ones (ranks_bits x) end - ones (ranks_bits x) start) (drop (ones (ranks_bits x) start) (a.rows y))

abbrev errs_in : Format → Content → Content → ℕ → ℕ → List Row
errs_in b x z start end = take (zeros (ranks_bits x) end - zeros (ranks_bits x) start) (drop (zeros (ranks_bits x) start) (b.rows z))

-- a copy of a range of the rows of another column of results
pub results_copied_range : (a b c d : Format) {x x' y y' z z' : Content} (v w u : Content) (start end : ℕ) → IsSame a.alike → IsSame b.alike → IsSound (results_format a b) (both x (both y z)) → IsSound (results_format c d) (both v (both w u)) → start ≤ end → end ≤ length (woven c d v w u) → Copied ranks_format x x' start (take (end - start) (drop start (map truth (ranks_bits v)))) → Copied a y y' (ones (ranks_bits v) start) (oks_in c v w start end) → Copied b z z' (zeros (ranks_bits v) start) (errs_in d v u start end) → Copied (results_format a b) (both x (both y z)) (both x' (both y' z')) start (take (end - start) (drop start (woven c d v w u)))
results_copied_range a b c d {x} {x'} {y} {y'} {z} {z'} v w u start end qa qb s r l m g h k =
    let p = results_parts c d r in
    let n = results_within c d v w u end m in
    let g' : Copied ranks_format x x' start (map truth (bits_in v start end)) = rw (bits_range (ranks_bits v) start (end - start)) at g in
    rw (range_of c d v w u start end l) at (results_copied a b (bits_in v start end) start (ones (ranks_bits v) start) (zeros (ranks_bits v) start) qa qb (λ e. ap (ones (ranks_bits v)) e ∙ ones_zero (ranks_bits v)) (λ e. ap (zeros (ranks_bits v)) e ∙ ones_zero (turned (ranks_bits v))) s (ones_range (ranks_bits v) (c.rows w) start end p.ok_level l n) (zeros_range (ranks_bits v) (d.rows u) start end p.err_level l n) g' h k)

pub results_refused_oks_range : (a b c d : Format) {x x' y y' z z' : Content} (v w u : Content) (start end : ℕ) {error : GrowError} → IsSound (results_format a b) (both x (both y z)) → IsSound (results_format c d) (both v (both w u)) → start ≤ end → end ≤ length (woven c d v w u) → Stayed ranks_format x x' → Refused a y y' (oks_in c v w start end) error → Stayed b z z' → Refused (results_format a b) (both x (both y z)) (both x' (both y' z')) (take (end - start) (drop start (woven c d v w u))) error
results_refused_oks_range a b c d v w u start end s r l m g h k =
    let n = results_within c d v w u end m in
    rw (range_of c d v w u start end l) at (results_refused_oks a b (bits_in v start end) (oks_in c v w start end) (errs_in d v u start end) s (ones_range (ranks_bits v) (c.rows w) start end (results_parts c d r).ok_level l n) g h k)

pub results_refused_errs_range : (a b c d : Format) {x x' y y' z z' : Content} (v w u : Content) (start end : ℕ) {error : GrowError} → IsSound (results_format a b) (both x (both y z)) → IsSound (results_format c d) (both v (both w u)) → start ≤ end → end ≤ length (woven c d v w u) → Stayed ranks_format x x' → Stayed a y y' → Refused b z z' (errs_in d v u start end) error → Refused (results_format a b) (both x (both y z)) (both x' (both y' z')) (take (end - start) (drop start (woven c d v w u))) error
results_refused_errs_range a b c d v w u start end s r l m g h k =
    let n = results_within c d v w u end m in
    rw (range_of c d v w u start end l) at (results_refused_errs a b (bits_in v start end) (oks_in c v w start end) (errs_in d v u start end) s (zeros_range (ranks_bits v) (d.rows u) start end (results_parts c d r).err_level l n) g h k)

pub results_refused_bits_range : (a b c d : Format) {x x' y y' z z' : Content} (v w u : Content) (start end : ℕ) {error : GrowError} → IsSound (results_format a b) (both x (both y z)) → start ≤ end → Refused ranks_format x x' (take (end - start) (drop start (map truth (ranks_bits v)))) error → Stayed a y y' → Stayed b z z' → Refused (results_format a b) (both x (both y z)) (both x' (both y' z')) (take (end - start) (drop start (woven c d v w u))) error
results_refused_bits_range a b c d {x} {x'} {y} {y'} {z} {z'} v w u start end {error} s l g h k =
    let g' : Refused ranks_format x x' (map truth (bits_in v start end)) error = rw (bits_range (ranks_bits v) start (end - start)) at g in
    rw (range_of c d v w u start end l) at (results_refused_bits a b (bits_in v start end) (oks_in c v w start end) (errs_in d v u start end) s g' h k)

-- bytes

-- there are as many oks as set bits, and as many errs as clear bits
pub results_level_from : (a b : Format) (x y z : Content) (trues rows n m : ℕ) → trues ≡ ones (ranks_bits x) (length (ranks_bits x)) → rows ≡ length (map truth (ranks_bits x)) → n ≡ length (a.rows y) → m ≡ length (b.rows z) → trues ≡ n → rows - trues ≡ m → results_level a b x (both y z) ≡ true
results_level_from a b x y z trues rows n m p q r s h k =
    let l = length-map (ranks_bits x) truth in
    let o = ones_zeros (ranks_bits x) (length (ranks_bits x)) (omega arith) in
    let u : ones (ranks_bits x) (length (ranks_bits x)) ≡ length (a.rows y) = omega arith in
    let v : zeros (ranks_bits x) (length (ranks_bits x)) ≡ length (b.rows z) = omega arith in
    and_from _ _ (eq-eqb _ _ u) (eq-eqb _ _ v)

pub results_level_back : (a b : Format) (x y z : Content) (trues rows n m : ℕ) → trues ≡ ones (ranks_bits x) (length (ranks_bits x)) → rows ≡ length (map truth (ranks_bits x)) → n ≡ length (a.rows y) → m ≡ length (b.rows z) → (trues ≡ n → rows - trues ≡ m → ⊥) → results_level a b x (both y z) ≡ false
results_level_back a b x y z trues rows n m p q r s h = unequal (results_level a b x (both y z)) refl
  where
    unequal : (v : Bool) → results_level a b x (both y z) ≡ v → results_level a b x (both y z) ≡ false
    unequal false e = e
    unequal true e =
        let l = length-map (ranks_bits x) truth in
        let t = and_parts (nat_eq (ones (ranks_bits x) (length (ranks_bits x))) (length (a.rows y))) (nat_eq (zeros (ranks_bits x) (length (ranks_bits x))) (length (b.rows z))) e in
        let u : ones (ranks_bits x) (length (ranks_bits x)) ≡ length (a.rows y) = eqb-true _ _ t.0 in
        let v : zeros (ranks_bits x) (length (ranks_bits x)) ≡ length (b.rows z) = eqb-true _ _ t.1 in
        let o = ones_zeros (ranks_bits x) (length (ranks_bits x)) (omega arith) in
        absurd (h (omega arith) (omega arith))

-- the same over the slices of a store
pub results_level_at : (a b : Format) (o : ℕ) (ss : List (List ℕ)) (v : Bool) → results_level a b (ranks_format.build (drop o ss)) (both (a.build (drop (o + 3) ss)) (b.build (drop (o + 3 + a.count) ss))) ≡ v → results_level a b (ranks_format.build (drop o ss)) ((beside_format a b).build (drop (o + 3) ss)) ≡ v
results_level_at a b o ss v h =
    let d : drop a.count (drop (o + 3) ss) ≡ drop (o + 3 + a.count) ss = drop-drop a.count (o + 3) ss in
    rw d h

-- its parts are representable, and fit if it does
pub oks_representable : (a b : Format) → representable (results_format a b) ≡ true → representable a ≡ true
oks_representable a b h = representable_left (beside_two a b) (representable_right (results_two a b) h)

pub errs_representable : (a b : Format) → representable (results_format a b) ≡ true → representable b ≡ true
errs_representable a b h = representable_right (beside_two a b) (representable_right (results_two a b) h)

pub oks_fit : (a b : Format) (o : ℕ) (ss : List (List ℕ)) → Fits (results_format a b) o ss → Fits a (o + 3) ss
oks_fit a b o ss h = two_fits_left (beside_two a b) (o + 3) ss (two_fits_right (results_two a b) o ss h)

pub errs_fit : (a b : Format) (o : ℕ) (ss : List (List ℕ)) → Fits (results_format a b) o ss → Fits b (o + 3 + a.count) ss
errs_fit a b o ss h = two_fits_right (beside_two a b) (o + 3) ss (two_fits_right (results_two a b) o ss h)

pub results_turns : (ra rb old mid later new m n o : ℕ) → mid ≤ old + 4 * m → later ≤ mid + (ra * n + rb * o) → new ≤ later + 16 → 16 ≤ m → new ≤ old + (5 * m + (ra * n + rb * o))
results_turns ra rb old mid later new m n o p q r h = omega arith

-- at most 16 steps for each byte of the whole
pub results_spread : (ra rb old new m n o : ℕ) → new ≤ old + (5 * m + (ra * n + rb * o)) → ra ≤ 16 → rb ≤ 16 → new ≤ old + 16 * (m + (n + o))
results_spread ra rb old new m n o p k l =
    let t = two_turns 16 ra rb n o k l in
    omega arith

pub results_held : (a b : Format) (o : ℕ) (ss : List (List ℕ)) → bytes_held ((results_format a b).build (drop o ss)) ≡ bytes_held (ranks_format.build (drop o ss)) + (bytes_held (a.build (drop (o + 3) ss)) + bytes_held (b.build (drop (o + 3 + a.count) ss)))
results_held a b o ss =
    let d : drop 3 (drop o ss) ≡ drop (o + 3) ss = drop-drop 3 o ss in
    let e : drop a.count (drop (o + 3) ss) ≡ drop (o + 3 + a.count) ss = drop-drop a.count (o + 3) ss in
    rw (d, e) refl

pub results_at : (a b : Format) (o n m : ℕ) (ss : List (List ℕ)) {x y z : Content} → x ≡ ranks_format.build (drop o ss) → y ≡ a.build (drop n ss) → z ≡ b.build (drop m ss) → n ≡ o + 3 → m ≡ o + 3 + a.count → both x (both y z) ≡ (results_format a b).build (drop o ss)
results_at a b o n m ss {x} {y} {z} p q r e f =
    let d : drop 3 (drop o ss) ≡ drop (o + 3) ss = drop-drop 3 o ss in
    let g : drop a.count (drop (o + 3) ss) ≡ drop (o + 3 + a.count) ss = drop-drop a.count (o + 3) ss in
    rw (p, q, r, e, f, d, g) refl
