use Rattle.std.proofs.Common.{◌≡◌, ℕ, ◌+◌, ◌-◌, ◌*◌, ◌<◌, ◌≤◌, Bool, true, false, List, [], ◌∷◌, ◌++◌, length, take, drop, map, refl, sym, ◌∙◌, ap, arith, pred, length-append, length-take, ⊎_elim}
use Rattle.std.specs.Prelude.{slice_get, Some, ◌||◌}
use Rattle.std.proofs.lemmas.List.{map-append, length-map, take-map, drop-map, drop-drop}
use Rattle.std.proofs.Math.Nat.{mul-le-mul_right}
use Rattle.std.proofs.lemmas.Bool.{and_parts, and_from, or_left, or_right, eqb-true, eq-eqb}
use Rattle.columnar_core.specs.Row.{Row, truth, none, some, row_eq}
use Rattle.columnar_core.specs.Format.{Format, Content, slice, both, part, plain, IsSound, IsLawful, IsStorable, IsSame, lengths, Excess, refuses_more, bytes_held}
use Rattle.columnar_core.specs.AlikeLaws.{alike_length, same_pulled, same_both, row_eq_same, row_eq_exact}
use Rattle.columnar_core.specs.Change.{Keeps, Grew, Stayed, WasCut, Took, Copied, Refused}
use Rattle.columnar_core.specs.ChangeLaws.{true_from, grew_exactly, took_none, unchanged}
use Rattle.columnar_core.specs.TwoParts.{TwoParts}
use Rattle.columnar_core.specs.TwoPartsLaws.{two_parts, two_sound, two_storable}
use Rattle.columnar_base.specs.TupleLaws.{or_both}
use Rattle.columnar_core.specs.Elements.{past_count}
use Rattle.columnar_core.specs.declared.fault.GrowError.{GrowError}
use Rattle.columnar_bits.specs.BoolLaws.{bits_from_rows}
use Rattle.columnar_sums.specs.Counting.{ones}
use Rattle.columnar_sums.specs.RankColumns.{ranks_bits, ranks_format}
use Rattle.columnar_sums.specs.RankLaws.{SoundRanks, ranks_parts, ranks_form, ranks_lawful, ranks_storable}
use Rattle.columnar_sums.specs.Options.{weave, somes, inner_of, bare_option, options_level, option_alike, options_refuses, options_format, AreSome}
use Rattle.columnar_sums.specs.Marked.{NeitherTook}
use Rattle.columnar_sums.specs.CountLaws.{ones_zero, ones_true, ones_false, ones_le}
use Rattle.columnar_sums.specs.WeaveLaws.{ones_nil, ones_first, ones_cut, ones_grows, ones_most, ones_range, ones_both, ones_taken, ones_before, bit_of_row, ones_of_true, ones_of_false, length-weave, weave-append, weave-take, weave-range, weave_some, weave_none, somes-append, somes-weave, weave_alike}

-- what the soundness of options consists of
pub record SoundOptions (t : Format) (x y : Content) : Type 0 where
  pub bits : IsSound ranks_format x
  pub values : IsSound t y
  pub level : ones (ranks_bits x) (length (ranks_bits x)) ≡ length (t.rows y)

-- counted bits, then values
pub options_two : (t : Format) → TwoParts (options_format t) ranks_format t (options_level t) 10
options_two t = record { count = refl; sizes = refl; aligns = refl; build = λ ss. refl; broken = λ c. refl }

pub options_parts : (t : Format) {x y : Content} → IsSound (options_format t) (both x y) → SoundOptions t x y
options_parts t {x} {y} s = let p = two_parts (options_two t) x y s in record { bits = p.left; values = p.right; level = eqb-true _ _ p.own }

pub options_sound : (t : Format) {x y : Content} → SoundOptions t x y → IsSound (options_format t) (both x y)
options_sound t {x} {y} s = two_sound (options_two t) x y (record { left = s.bits; right = s.values; own = eq-eqb _ _ s.level })

-- as many rows as bits
pub length-options : (t : Format) (x y : Content) → length (weave (ranks_bits x) (t.rows y)) ≡ length (ranks_bits x)
length-options t x y = length-weave (ranks_bits x) (t.rows y)

pub option_same : (same : Row → Row → Bool) → IsSame same → IsSame (option_alike same)
option_same same e = same_both (λ r s. row_eq (bare_option r) (bare_option s)) (λ r s. same (inner_of r) (inner_of s)) (same_pulled row_eq bare_option row_eq_same) (same_pulled same inner_of e)

-- Options refuse rows if there would be too many bits, or if the column of values refuses the values.
pub options_refuses_more : (t : Format) {x y : Content} → IsSound (options_format t) (both x y) → (e : Excess) (rs : List Row) → refuses_more (options_format t) e (both x y) rs ≡ (past_count e (length (ranks_bits x) + length rs) || refuses_more t e y (somes rs))
options_refuses_more t {x} {y} s e rs =
    let p = options_parts t s in
    let n = length-options t x y in
    ap (λ (k : ℕ). past_count e (k + length rs) || t.refuses e y (ones (ranks_bits x) k) (somes rs)) n
    ∙ ap (λ (k : ℕ). past_count e (length (ranks_bits x) + length rs) || t.refuses e y k (somes rs)) p.level

options_full : (t : Format) → IsLawful t → (c : Content) → IsSound (options_format t) c → (options_format t).extent c (length ((options_format t).rows c)) ≡ lengths c
options_full t lt (both x y) s =
    let p = options_parts t s in
    let n = length-options t x y in
    let m : length (map truth (ranks_bits x)) ≡ length (ranks_bits x) = length-map (ranks_bits x) truth in
    let u = ranks_lawful.full x p.bits in
    let e : ranks_format.extent x (length (weave (ranks_bits x) (t.rows y))) ≡ lengths x = rw n (rw m at u) in
    let f : t.extent y (ones (ranks_bits x) (length (weave (ranks_bits x) (t.rows y)))) ≡ lengths y = rw (n, p.level) (lt.full y p.values) in
    cc
options_full t lt (slice bs) s = cc
options_full t lt (part l u x) s = cc
options_full t lt (plain rs) s = cc

options_more : (t : Format) → IsLawful t → (e : Excess) (c : Content) (n : ℕ) (rs ss : List Row) → options_refuses t e c n rs ≡ true → options_refuses t e c n (rs ++ ss) ≡ true
options_more t lt e (both x y) n rs ss h =
    rw somes-append (or_both (past_count e (n + length rs)) (t.refuses e y (ones (ranks_bits x) n) (somes rs)) (past_count e (n + length (rs ++ ss))) (t.refuses e y (ones (ranks_bits x) n) (somes rs ++ somes ss)) (λ k. ranks_lawful.more e x n rs ss k) (lt.more e y (ones (ranks_bits x) n) (somes rs) (somes ss)) h)
options_more t lt e (slice bs) n rs ss h = h
options_more t lt e (part l u x) n rs ss h = h
options_more t lt e (plain ts) n rs ss h = h

-- rows that represent an item are kin to it
pub options_related : (alike kin : Row → Row → Bool) → ((r s : Row) → alike r s ≡ true → kin r s ≡ true) → (r s : Row) → option_alike alike r s ≡ true → option_alike kin r s ≡ true
options_related alike kin e r s h =
    let p = and_parts (row_eq (bare_option r) (bare_option s)) (alike (inner_of r) (inner_of s)) h in
    and_from _ _ p.0 (e (inner_of r) (inner_of s) p.1)

pub options_lawful : (t : Format) → IsLawful t → IsLawful (options_format t)
options_lawful t lt = record {
  full = options_full t lt;
  same = option_same t.alike lt.same;
  kindred = option_same t.kin lt.kindred;
  related = options_related t.alike t.kin lt.related;
  more = options_more t lt;
}

pub options_storable : (t : Format) → IsStorable t → IsStorable (options_format t)
options_storable t q = two_storable (options_two t) (omega arith) ranks_storable q

-- equal formats of values make equal formats
pub same_options : {t t' : Format} → t ≡ t' → options_format t ≡ options_format t'
same_options {t} {t'} q = rw q refl

-- no bits and no values
pub options_none : (t : Format) {x y : Content} → IsSound ranks_format x → IsSound t y → map truth (ranks_bits x) ≡ [] → t.rows y ≡ [] → IsSound (options_format t) (both x y)
options_none t {x} {y} s u e f =
    let b : ranks_bits x ≡ [] = bits_from_rows (ranks_bits x) [] e in
    options_sound t (record { bits = s; values = u; level = rw (b, f) (ones_nil 0) })

-- changes

-- The values of the set bits stay the same, up to n bits.
pub record Follows (t : Format) (b b' : List Bool) (y y' : Content) (n : ℕ) : Type 0 where
  pub extents : (i : ℕ) → i ≤ n → t.extent y' (ones b' i) ≡ t.extent y (ones b i)
  pub limits : (i : ℕ) → i ≤ n → (e : Excess) (rs : List Row) → t.refuses e y' (ones b' i) rs ≡ t.refuses e y (ones b i) rs

pub values_keep : (t : Format) (b b' : List Bool) {y y' : Content} (n : ℕ) {k : ℕ} → ((i : ℕ) → i ≤ n → ones b' i ≡ ones b i) → ones b n ≤ k → Keeps t y y' k → Follows t b b' y y' n
values_keep t b b' n e l g = record {
  extents = λ i h. let m = ones_grows b i n h in rw (e i h) (g.extents (ones b i) (omega arith));
  limits = λ i h z rs. let m = ones_grows b i n h in rw (e i h) (g.limits (ones b i) (omega arith) z rs);
}

-- if the set bits and the values stay the same, so do the options
options_keeps : (t : Format) (x x' : Content) {y y' : Content} (n : ℕ) {k : ℕ} → ((i : ℕ) → i ≤ n → ones (ranks_bits x') i ≡ ones (ranks_bits x) i) → ones (ranks_bits x) n ≤ k → Keeps t y y' k → Keeps (options_format t) (both x y) (both x' y') n
options_keeps t x x' n e l g =
    let f = values_keep t (ranks_bits x) (ranks_bits x') n e l g in
    record {
      extents = λ i h. let u = f.extents i h in rw u refl;
      limits = λ i h z rs. let u = f.limits i h z (somes rs) in rw u refl;
    }

pub bits_grew : (x x' : Content) (cs : List Bool) → map truth (ranks_bits x') ≡ map truth (ranks_bits x) ++ map truth cs → ranks_bits x' ≡ ranks_bits x ++ cs
bits_grew x x' cs h = bits_from_rows (ranks_bits x') (ranks_bits x ++ cs) (h ∙ sym (map-append truth (ranks_bits x) cs))

-- bits, and the values of the set ones
pub options_grew : (t : Format) {x x' y y' : Content} (cs : List Bool) {vs : List Row} → IsSound (options_format t) (both x y) → ones cs (length cs) ≡ length vs → Grew ranks_format x x' (map truth cs) → Grew t y y' vs → Grew (options_format t) (both x y) (both x' y') (weave cs vs)
options_grew t {x} {x'} {y} {y'} cs {vs} s l g h =
    let p = options_parts t s in
    let e : ranks_bits x' ≡ ranks_bits x ++ cs = bits_grew x x' cs g.rows in
    let n = length-options t x y in
    let a : length (t.rows y') ≡ length (t.rows y) + length vs = ap length h.rows ∙ length-append (t.rows y) vs in
    record {
      sound = options_sound t (record { bits = g.sound; values = h.sound; level = ap (λ (b : List Bool). ones b (length b)) e ∙ (ones_both (ranks_bits x) cs ∙ omega (arith, p.level, a, l)) });
      rows = rw (e, h.rows) (weave-append (ranks_bits x) cs (t.rows y) vs p.level);
      kept = options_keeps t x x' (length (weave (ranks_bits x) (t.rows y))) (λ i k. rw e (ones_first (ranks_bits x) cs i (omega arith))) (rw n (omega (arith, p.level))) h.kept;
    }

-- rows that the new options refuse, the old ones refuse after the added rows
options_adds : (t : Format) {x x' y y' : Content} (cs : List Bool) (vs : List Row) → IsSound (options_format t) (both x y) → IsSound (options_format t) (both x' y') → ranks_bits x' ≡ ranks_bits x ++ cs → ones cs (length cs) ≡ length vs → ((e : Excess) (rs : List Row) → refuses_more t e y' rs ≡ true → refuses_more t e y (vs ++ rs) ≡ true) → (e : Excess) (rs : List Row) → refuses_more (options_format t) e (both x' y') rs ≡ true → refuses_more (options_format t) e (both x y) (weave cs vs ++ rs) ≡ true
options_adds t {x} {x'} {y} {y'} cs vs s s' b l h e rs k =
    let v : somes (weave cs vs ++ rs) ≡ vs ++ somes rs = somes-append (weave cs vs) rs ∙ ap (λ (u : List Row). u ++ somes rs) (somes-weave cs vs l) in
    let n : length (ranks_bits x') ≡ length (ranks_bits x) + length cs = ap length b ∙ length-append (ranks_bits x) cs in
    let m : length (ranks_bits x') + length rs ≡ length (ranks_bits x) + length (weave cs vs ++ rs) = omega (arith, length-append (weave cs vs) rs, length-weave cs vs) in
    let z = or_both (past_count e (length (ranks_bits x') + length rs)) (refuses_more t e y' (somes rs)) (past_count e (length (ranks_bits x) + length (weave cs vs ++ rs))) (refuses_more t e y (vs ++ somes rs)) (λ q. sym (ap (past_count e) m) ∙ q) (h e (somes rs)) (sym (options_refuses_more t s' e rs) ∙ k) in
    options_refuses_more t s e (weave cs vs ++ rs) ∙ (rw v z)

pub options_took : (t : Format) {x x' y y' : Content} (cs : List Bool) {vs : List Row} → IsSame t.alike → IsSound (options_format t) (both x y) → ones cs (length cs) ≡ length vs → Took ranks_format x x' (map truth cs) → Took t y y' vs → Took (options_format t) (both x y) (both x' y') (weave cs vs)
options_took t {x} {x'} {y} {y'} cs {vs} q s l g h =
    let f : length h.fresh ≡ length vs = alike_length t.alike h.fresh vs h.alike in
    let b = grew_exactly row_eq_exact g in
    let k = options_grew t cs s (l ∙ sym f) b h.grew in
    record { fresh = weave cs h.fresh; grew = k; alike = weave_alike t.alike q cs h.fresh vs l h.alike; adds = options_adds t cs vs s k.sound (bits_grew x x' cs b.rows) l h.adds }

no_bits : (b : List Bool) (vs : List Row) → weave b vs ≡ [] → b ≡ []
no_bits [] vs h = refl
no_bits (false ∷ b) vs h = cc
no_bits (true ∷ b) [] h = cc
no_bits (true ∷ b) (v ∷ vs) h = cc

pub no_values : (b : List Bool) (vs : List Row) → b ≡ [] → ones b (length b) ≡ length vs → vs ≡ []
no_values b [] e l = refl
no_values b (v ∷ vs) e l =
    let k : ones b (length b) ≡ ones [] 0 = ap (λ (c : List Bool). ones c (length c)) e in
    absurd (omega (arith, ones_nil 0, k, l))

pub options_copied : (t : Format) {x x' y y' : Content} (cs : List Bool) {vs : List Row} (start lo : ℕ) → IsSame t.alike → (start ≡ 0 → lo ≡ 0) → IsSound (options_format t) (both x y) → ones cs (length cs) ≡ length vs → Copied ranks_format x x' start (map truth cs) → Copied t y y' lo vs → Copied (options_format t) (both x y) (both x' y') start (weave cs vs)
options_copied t {x} {x'} {y} {y'} cs {vs} start lo q z s l g h = record {
  took = options_took t cs q s l g.took h.took;
  front = λ n k.
      let b = no_bits (ranks_bits x) (t.rows y) n in
      let v = no_values (ranks_bits x) (t.rows y) b (options_parts t s).level in
      let u : map truth (ranks_bits x) ≡ [] = rw b refl in
      let c : ranks_bits x' ≡ cs = bits_from_rows (ranks_bits x') cs (g.front u k) in
      rw (c, h.front v (z k)) refl;
}

pub options_stayed : (t : Format) {x x' y y' : Content} → IsSound (options_format t) (both x y) → Stayed ranks_format x x' → Stayed t y y' → Stayed (options_format t) (both x y) (both x' y')
options_stayed t {x} {x'} {y} {y'} s g h =
    let p = options_parts t s in
    let n = length-options t x y in
    let b : ranks_bits x' ≡ ranks_bits x = bits_from_rows (ranks_bits x') (ranks_bits x) g.rows in
    record {
      sound = options_sound t (record { bits = g.sound; values = h.sound; level = rw (b, h.rows) p.level });
      rows = rw (b, h.rows) refl;
      lengths_same = let u = g.lengths_same in let v = h.lengths_same in cc;
      kept = options_keeps t x x' (length (weave (ranks_bits x) (t.rows y))) (λ i k. rw b refl) (rw n (omega (arith, p.level))) h.kept;
    }

-- the bits were truncated to n, and the values to the set bits before n
pub options_cut : (t : Format) {x x' y y' : Content} {n : ℕ} → IsSound (options_format t) (both x y) → WasCut ranks_format x x' n → WasCut t y y' (ones (ranks_bits x) n) → n ≤ length (weave (ranks_bits x) (t.rows y)) → WasCut (options_format t) (both x y) (both x' y') n
options_cut t {x} {x'} {y} {y'} {n} s g h l =
    let p = options_parts t s in
    let e : ranks_bits x' ≡ take n (ranks_bits x) = bits_from_rows (ranks_bits x') (take n (ranks_bits x)) (g.rows ∙ take-map truth n (ranks_bits x)) in
    let m = length-options t x y in
    let o = ones_most (ranks_bits x) n (omega arith) in
    let k : length (t.rows y') ≡ ones (ranks_bits x) n = rw (h.rows, length-take) (omega (arith, p.level)) in
    record {
      sound = options_sound t (record { bits = g.sound; values = h.sound; level = rw e (ones_taken n (ranks_bits x)) ∙ sym k });
      rows = rw (e, h.rows) (weave-take n (ranks_bits x) (t.rows y));
      lengths_cut = let u = g.lengths_cut in let v = h.lengths_cut in cc;
      kept = options_keeps t x x' n (λ i q. rw e (ones_cut (ranks_bits x) n i q)) (omega arith) h.kept;
    }

-- rows that one part refuses, the options refuse
refuses_bits : (t : Format) {x y : Content} (cs : List Bool) (vs : List Row) → IsSound (options_format t) (both x y) → (e : Excess) → refuses_more ranks_format e x (map truth cs) ≡ true → refuses_more (options_format t) e (both x y) (weave cs vs) ≡ true
refuses_bits t {x} {y} cs vs s e h =
    let n : length (map truth (ranks_bits x)) + length (map truth cs) ≡ length (ranks_bits x) + length (weave cs vs) = omega (arith, length-map (ranks_bits x) truth, length-map cs truth, length-weave cs vs) in
    options_refuses_more t s e (weave cs vs) ∙ or_left (past_count e (length (ranks_bits x) + length (weave cs vs))) (refuses_more t e y (somes (weave cs vs))) (sym (ap (past_count e) n) ∙ h)

refuses_values : (t : Format) {x y : Content} (cs : List Bool) (vs : List Row) → IsSound (options_format t) (both x y) → ones cs (length cs) ≡ length vs → (e : Excess) → refuses_more t e y vs ≡ true → refuses_more (options_format t) e (both x y) (weave cs vs) ≡ true
refuses_values t {x} {y} cs vs s l e h =
    options_refuses_more t s e (weave cs vs) ∙ or_right (past_count e (length (ranks_bits x) + length (weave cs vs))) (refuses_more t e y (somes (weave cs vs))) (rw (somes-weave cs vs l) h)

-- the values were refused and the bits unchanged; or the bits were refused and the values truncated back
pub options_refused_values : (t : Format) {x x' y y' : Content} (cs : List Bool) (vs : List Row) {error : GrowError} → IsSound (options_format t) (both x y) → ones cs (length cs) ≡ length vs → Stayed ranks_format x x' → Refused t y y' vs error → Refused (options_format t) (both x y) (both x' y') (weave cs vs) error
options_refused_values t {x} {x'} {y} {y'} cs vs {error} s l g h = record {
  stayed = options_stayed t s g h.stayed;
  cause = true_from t (options_format t) y (both x y) vs (weave cs vs) error (refuses_values t cs vs s l) h.cause;
}

pub options_refused_bits : (t : Format) {x x' y y' : Content} (cs : List Bool) (vs : List Row) {error : GrowError} → IsSound (options_format t) (both x y) → Refused ranks_format x x' (map truth cs) error → Stayed t y y' → Refused (options_format t) (both x y) (both x' y') (weave cs vs) error
options_refused_bits t {x} {x'} {y} {y'} cs vs {error} s g h = record {
  stayed = options_stayed t s g.stayed h;
  cause = true_from ranks_format (options_format t) x (both x y) (map truth cs) (weave cs vs) error (refuses_bits t cs vs s) g.cause;
}

-- one row

pub options_took_some : (t : Format) {x x' y y' : Content} {r : Row} → IsSame t.alike → IsSound (options_format t) (both x y) → Took t y y' (r ∷ []) → Took ranks_format x x' (truth true ∷ []) → Took (options_format t) (both x y) (both x' y') (some r ∷ [])
options_took_some t {x} {x'} {y} {y'} {r} q s g h = options_took t (true ∷ []) {vs = r ∷ []} q s ones_of_true h g

pub options_took_none : (t : Format) {x x' y : Content} → IsSame t.alike → IsSound (options_format t) (both x y) → Took ranks_format x x' (truth false ∷ []) → Took (options_format t) (both x y) (both x' y) (none ∷ [])
options_took_none t {x} {x'} {y} q s h = options_took t (false ∷ []) {vs = []} q s ones_of_false h (took_none (options_parts t s).values)

-- the value was refused, or its bit
pub options_refused_some : (t : Format) {x x' y y' : Content} (r : Row) {error : GrowError} → IsSound (options_format t) (both x y) → NeitherTook t ranks_format y y' x x' (r ∷ []) (truth true ∷ []) error → Refused (options_format t) (both x y) (both x' y') (some r ∷ []) error
options_refused_some t r s h = ⊎_elim (λ p. options_refused_values t (true ∷ []) (r ∷ []) s ones_of_true p.1 p.0) (λ p. options_refused_bits t (true ∷ []) (r ∷ []) s p.1 p.0) h

pub options_refused_false : (t : Format) {x x' y : Content} {error : GrowError} → IsSound (options_format t) (both x y) → Refused ranks_format x x' (truth false ∷ []) error → Refused (options_format t) (both x y) (both x' y) (none ∷ []) error
options_refused_false t {x} {x'} {y} s g = options_refused_bits t (false ∷ []) [] s g (unchanged (options_parts t s).values)

-- reads

pub options_bit : (t : Format) (x y : Content) (i : ℕ) → i < length (weave (ranks_bits x) (t.rows y)) → i < length (map truth (ranks_bits x))
options_bit t x y i l = omega (arith, length-options t x y, length-map (ranks_bits x) truth)

pub options_within : (t : Format) (x y : Content) (i : ℕ) → i ≤ length (weave (ranks_bits x) (t.rows y)) → i ≤ length (ranks_bits x)
options_within t x y i l = omega (arith, length-options t x y)

pub options_top : (t : Format) (x y : Content) (n : ℕ) → IsSound (options_format t) (both x y) → n ≤ length (weave (ranks_bits x) (t.rows y)) → ones (ranks_bits x) n ≤ length (t.rows y)
options_top t x y n s l = omega (arith, length-options t x y, ones_most (ranks_bits x) n (options_within t x y n l), (options_parts t s).level)

-- the value of a row that has one
pub options_value : (t : Format) {x y : Content} (i : ℕ) → IsSound (options_format t) (both x y) → slice_get (map truth (ranks_bits x)) i ≡ Some (truth true) → ones (ranks_bits x) i < length (t.rows y)
options_value t {x} {y} i s h = omega (arith, ones_before (ranks_bits x) i (bit_of_row (ranks_bits x) i true h), (options_parts t s).level)

pub options_some : (t : Format) (x y : Content) (i : ℕ) (v : Row) → slice_get (map truth (ranks_bits x)) i ≡ Some (truth true) → slice_get (t.rows y) (ones (ranks_bits x) i) ≡ Some v → slice_get (weave (ranks_bits x) (t.rows y)) i ≡ Some (some v)
options_some t x y i v h k = weave_some i (ranks_bits x) (t.rows y) v (bit_of_row (ranks_bits x) i true h) k

pub options_absent : (t : Format) (x y : Content) (i : ℕ) → slice_get (map truth (ranks_bits x)) i ≡ Some (truth false) → slice_get (weave (ranks_bits x) (t.rows y)) i ≡ Some none
options_absent t x y i h = weave_none i (ranks_bits x) (t.rows y) (bit_of_row (ranks_bits x) i false h)

-- the values are the somes of the rows
pub options_somes : (t : Format) {x y : Content} → IsSound (options_format t) (both x y) → somes (weave (ranks_bits x) (t.rows y)) ≡ t.rows y
options_somes t {x} {y} s = somes-weave (ranks_bits x) (t.rows y) (options_parts t s).level

all_some : (b : List Bool) (vs : List Row) → ones b (length b) ≡ length vs → length b ≡ length vs → weave b vs ≡ map some vs
all_some [] [] e l = refl
all_some [] (v ∷ vs) e l = absurd (omega arith)
all_some (true ∷ b) (v ∷ vs) e l = ap (λ (t : List Row). some v ∷ t) (all_some b vs (ap pred (sym (ones_true b (length b)) ∙ e)) (ap pred l))
all_some (true ∷ b) [] e l = absurd (omega arith)
all_some (false ∷ b) vs e l = absurd (omega (arith, ones_le b (length b), ones_false b (length b)))

-- if there are as many values as rows, each row has one; and conversely
pub options_all : (t : Format) {x y : Content} → IsSound (options_format t) (both x y) → length (map truth (ranks_bits x)) ≡ length (t.rows y) → weave (ranks_bits x) (t.rows y) ≡ map some (t.rows y)
options_all t {x} {y} s l = all_some (ranks_bits x) (t.rows y) (options_parts t s).level (sym (length-map (ranks_bits x) truth) ∙ l)

pub options_are_some : (t : Format) {x y : Content} → IsSound (options_format t) (both x y) → length (map truth (ranks_bits x)) ≡ length (t.rows y) → AreSome (weave (ranks_bits x) (t.rows y))
options_are_some t {x} {y} s l = options_all t s l ∙ ap (map some) (sym (options_somes t s))

pub options_some_back : (t : Format) {x y : Content} → IsSound (options_format t) (both x y) → AreSome (weave (ranks_bits x) (t.rows y)) → length (map truth (ranks_bits x)) ≡ length (t.rows y)
options_some_back t {x} {y} s h =
    let v = options_somes t s in
    let w : weave (ranks_bits x) (t.rows y) ≡ map some (t.rows y) = h ∙ ap (map some) v in
    length-map (ranks_bits x) truth ∙ (sym (length-options t x y) ∙ (ap length w ∙ length-map (t.rows y) some))

-- ranges

-- the values of a range of rows lie between the ranks of its ends
pub options_range : (t : Format) (x y : Content) (start end : ℕ) → start ≤ end → weave (take (end - start) (drop start (ranks_bits x))) (take (ones (ranks_bits x) end - ones (ranks_bits x) start) (drop (ones (ranks_bits x) start) (t.rows y))) ≡ take (end - start) (drop start (weave (ranks_bits x) (t.rows y)))
options_range t x y start end l =
    let e : start + (end - start) ≡ end = omega arith in
    weave-range (ranks_bits x) (t.rows y) start (end - start) (ones (ranks_bits x) start) (ones (ranks_bits x) end) refl (ap (ones (ranks_bits x)) (sym e))

-- their number is right
pub options_range_level : (t : Format) {x y : Content} (start end : ℕ) → IsSound (options_format t) (both x y) → start ≤ end → end ≤ length (weave (ranks_bits x) (t.rows y)) → ones (take (end - start) (drop start (ranks_bits x))) (length (take (end - start) (drop start (ranks_bits x)))) ≡ length (take (ones (ranks_bits x) end - ones (ranks_bits x) start) (drop (ones (ranks_bits x) start) (t.rows y)))
options_range_level t {x} {y} start end s l m = ones_range (ranks_bits x) (t.rows y) start end (options_parts t s).level l (options_within t x y end m)

pub bits_range : (b : List Bool) (start n : ℕ) → take n (drop start (map truth b)) ≡ map truth (take n (drop start b))
bits_range b start n = ap (take n) (drop-map truth start b) ∙ take-map truth n (drop start b)

pub options_copied_range : (t u : Format) {x x' y y' : Content} (v w : Content) (start end : ℕ) → IsSame t.alike → IsSound (options_format t) (both x y) → IsSound (options_format u) (both v w) → start ≤ end → end ≤ length (weave (ranks_bits v) (u.rows w)) → Copied ranks_format x x' start (take (end - start) (drop start (map truth (ranks_bits v)))) → Copied t y y' (ones (ranks_bits v) start) (take (ones (ranks_bits v) end - ones (ranks_bits v) start) (drop (ones (ranks_bits v) start) (u.rows w))) → Copied (options_format t) (both x y) (both x' y') start (take (end - start) (drop start (weave (ranks_bits v) (u.rows w))))
options_copied_range t u {x} {x'} {y} {y'} v w start end q s r l m g h =
    let z : start ≡ 0 → ones (ranks_bits v) start ≡ 0 = λ k. ap (ones (ranks_bits v)) k ∙ ones_zero (ranks_bits v) in
    let g' : Copied ranks_format x x' start (map truth (take (end - start) (drop start (ranks_bits v)))) = rw (bits_range (ranks_bits v) start (end - start)) at g in
    rw (options_range u v w start end l) at (options_copied t (take (end - start) (drop start (ranks_bits v))) start (ones (ranks_bits v) start) q z s (options_range_level u start end r l m) g' h)

pub options_refused_values_range : (t u : Format) {x x' y y' : Content} (v w : Content) (start end : ℕ) {error : GrowError} → IsSound (options_format t) (both x y) → IsSound (options_format u) (both v w) → start ≤ end → end ≤ length (weave (ranks_bits v) (u.rows w)) → Stayed ranks_format x x' → Refused t y y' (take (ones (ranks_bits v) end - ones (ranks_bits v) start) (drop (ones (ranks_bits v) start) (u.rows w))) error → Refused (options_format t) (both x y) (both x' y') (take (end - start) (drop start (weave (ranks_bits v) (u.rows w)))) error
options_refused_values_range t u {x} {x'} {y} {y'} v w start end s r l m g h =
    rw (options_range u v w start end l) at (options_refused_values t (take (end - start) (drop start (ranks_bits v))) (take (ones (ranks_bits v) end - ones (ranks_bits v) start) (drop (ones (ranks_bits v) start) (u.rows w))) s (options_range_level u start end r l m) g h)

pub options_refused_bits_range : (t u : Format) {x x' y y' : Content} (v w : Content) (start end : ℕ) {error : GrowError} → IsSound (options_format t) (both x y) → start ≤ end → Refused ranks_format x x' (take (end - start) (drop start (map truth (ranks_bits v)))) error → Stayed t y y' → Refused (options_format t) (both x y) (both x' y') (take (end - start) (drop start (weave (ranks_bits v) (u.rows w)))) error
options_refused_bits_range t u {x} {x'} {y} {y'} v w start end {error} s l g h =
    let g' : Refused ranks_format x x' (map truth (take (end - start) (drop start (ranks_bits v)))) error = rw (bits_range (ranks_bits v) start (end - start)) at g in
    rw (options_range u v w start end l) at (options_refused_bits t (take (end - start) (drop start (ranks_bits v))) (take (ones (ranks_bits v) end - ones (ranks_bits v) start) (drop (ones (ranks_bits v) start) (u.rows w))) s g' h)

-- bytes

-- the bits take at least the two words of their tail
pub ranks_bytes : (x : Content) → IsSound ranks_format x → 16 ≤ bytes_held x
ranks_bytes x s =
    let f = ranks_form x s in
    let p : SoundRanks f.counts f.values f.tail = ranks_parts (rw f.is at s) in
    rw f.is (omega (arith, p.bools.two))

pub options_turns : (old later new r m n : ℕ) → later ≤ old + (4 * m + r * n) → new ≤ later + 16 → r ≤ 16 → 16 ≤ m → new ≤ old + 16 * (m + n)
options_turns old later new r m n p h l k = let u = mul-le-mul_right n l in omega arith

pub options_held : (t : Format) (o : ℕ) (ss : List (List ℕ)) → bytes_held ((options_format t).build (drop o ss)) ≡ bytes_held (ranks_format.build (drop o ss)) + bytes_held (t.build (drop (o + 3) ss))
options_held t o ss =
    let d : drop 3 (drop o ss) ≡ drop (o + 3) ss = drop-drop 3 o ss in
    ap (λ (zs : List (List ℕ)). bytes_held (ranks_format.build (drop o ss)) + bytes_held (t.build zs)) d

pub options_at : (t : Format) (o n : ℕ) (ss : List (List ℕ)) {x y : Content} → x ≡ ranks_format.build (drop o ss) → y ≡ t.build (drop n ss) → n ≡ o + 3 → both x y ≡ (options_format t).build (drop o ss)
options_at t o n ss {x} {y} p q e =
    let d : drop 3 (drop o ss) ≡ drop (o + 3) ss = drop-drop 3 o ss in
    rw (p, q, e, d) refl
