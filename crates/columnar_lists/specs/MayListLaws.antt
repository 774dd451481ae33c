-- Their limit denies what columns of lists refuse.
use Rattle.std.proofs.Common.{◌≡◌, ℕ, ◌+◌, ◌-◌, true, List, [], ◌∷◌, ◌++◌, length, take, map, refl, sym, ◌∙◌, ap, subst, arith, ◌⊎◌, inl, inr, ⊎_elim}
use Rattle.std.proofs.Math.Seq.{take-length}
use Rattle.std.proofs.lemmas.Bool.{or_cases, false≢true}
use Rattle.columnar_base.specs.Row.{Row, number, items_of}
use Rattle.columnar_base.specs.Format.{Format, Content, slice, both, part, plain, IsSound, Excess, refuses_more}
use Rattle.columnar_base.specs.May.{Limit, IsLimited, AreAmong, IsSteady, count_limit}
use Rattle.columnar_base.specs.MayLaws.{among_made, among_length, past_more}
use Rattle.columnar_base.specs.Elements.{words_format}
use Rattle.columnar_core.specs.BoundLaws.{words_bounds}
use Rattle.columnar_core.specs.Bounds.{AreNumbers, numbers, rises, shifted}
use Rattle.columnar_lists.specs.CutLaws.{joined-cut, joined-append, ends-append, length-ends, ends_cut}
use Rattle.columnar_lists.specs.ListLaws.{SoundLists, lists_parts, length-lists, end_of_all}
use Rattle.columnar_lists.specs.Lists.{cut, joined, ends, lists_format, lists_rows}
use Rattle.columnar_lists.specs.MayLists.{lists_limit}

-- the items of all lists of bounds are the values
all_joined : (ns : List ℕ) (vs : List Row) → rises 0 ns (length vs) ≡ true → joined (cut 0 ns vs) ≡ vs
all_joined ns vs h = let z : length vs - 0 ≡ length vs = omega arith in joined-cut 0 ns (length vs) vs h ∙ (ap (λ k. take k vs) z ∙ take-length vs)

unmoved : (ns : List ℕ) → shifted 0 0 ns ≡ map number ns
unmoved [] = refl
unmoved (n ∷ ns) = let e : 0 + (n - 0) ≡ n = omega arith in let r = unmoved ns in rw (e, r) refl

-- the ends of all lists of bounds are the bounds
all_ends : (ns : List ℕ) (vs : List Row) → rises 0 ns (length vs) ≡ true → ends 0 (cut 0 ns vs) ≡ map number ns
all_ends ns vs h = ends_cut 0 0 0 0 ns (length vs) vs refl (omega arith) h (omega arith) ∙ unmoved ns

refused_by : (b t : Format) (e : Excess) {x y : Content} → SoundLists b t x y → (rs : List Row) → refuses_more (lists_format b t) e (both x y) rs ≡ true → (refuses_more b e x (ends (length (t.rows y)) rs) ≡ true) ⊎ (refuses_more t e y (joined rs) ≡ true)
refused_by b t e {x} {y} p rs h =
    let n = length-lists b t x y in
    let l = end_of_all b t p in
    or_cases (refuses_more b e x (ends (length (t.rows y)) rs)) (refuses_more t e y (joined rs)) (rw (l, n) at h)

lists_denied : (b t : Format) {m n : Limit} → AreNumbers b → IsLimited b m → IsLimited t n → (e : Excess) (c : Content) (rs : List Row) → IsSound (lists_format b t) c → refuses_more (lists_format b t) e c rs ≡ true → lists_limit m n e (lists_rows b t c ++ rs)
lists_denied b t {m} {n} numbered lb lt e (both x y) rs s h =
    let p = lists_parts b t s in
    let old : List Row = cut 0 (numbers (b.rows x)) (t.rows y) in
    let j : joined old ≡ t.rows y = all_joined (numbers (b.rows x)) (t.rows y) p.rise in
    let f : ends 0 (old ++ rs) ≡ b.rows x ++ ends (length (t.rows y)) rs =
    ends-append 0 old rs ∙ (ap (λ us. us ++ ends (0 + length (joined old)) rs) (all_ends (numbers (b.rows x)) (t.rows y) p.rise ∙ sym (numbered x p.bounds))
    ∙ ap (λ k. b.rows x ++ ends k rs) (let l = ap length j in omega (arith, l))) in
    let g : joined (old ++ rs) ≡ t.rows y ++ joined rs = joined-append old rs ∙ ap (λ us. us ++ joined rs) j in
    ⊎_elim
    (λ (k : refuses_more b e x (ends (length (t.rows y)) rs) ≡ true). inl (subst (λ us. m e us) (sym f) (lb.denied e x (ends (length (t.rows y)) rs) p.bounds k)))
    (λ (k : refuses_more t e y (joined rs) ≡ true). inr (subst (λ us. n e us) (sym g) (lt.denied e y (joined rs) p.values k)))
    (refused_by b t e p rs h)
lists_denied b t numbered lb lt e (slice bs) rs s h = absurd (false≢true h)
lists_denied b t numbered lb lt e (part l u x) rs s h = absurd (false≢true h)
lists_denied b t numbered lb lt e (plain us) rs s h = absurd (false≢true h)

pub lists_limited : (b t : Format) {m n : Limit} → AreNumbers b → IsLimited b m → IsLimited t n → IsLimited (lists_format b t) (lists_limit m n)
lists_limited b t numbered lb lt = record { denied = lists_denied b t numbered lb lt }

-- the items of a subsequence of lists
pub among_joined : (rs ss : List Row) → AreAmong rs ss → AreAmong (joined rs) (joined ss)
among_joined = among_made items_of joined (λ r rs. refl) refl

-- the rows of 64-bit bounds are numbers
pub words_numbered : AreNumbers words_format
words_numbered = words_bounds.are_numbers

-- with further lists

-- What it denies of the ends of lists, it denies of their ends with other lists before, between and after them.
pub record IsSteadyOnEnds (limit : Limit) : Type 0 where
  pub more : (e : Excess) (rs ss : List Row) → AreAmong rs ss → limit e (ends 0 rs) → limit e (ends 0 ss)

pub count_on_ends : IsSteadyOnEnds count_limit
count_on_ends = record {
  more = λ e rs ss h k.
      let a = length-ends 0 rs in
      let b = length-ends 0 ss in
      let c = among_length rs ss h in
      past_more e (length (ends 0 rs)) (length (ends 0 ss)) (omega (arith, a, b, c)) k;
}

pub lists_steady : {b t : Limit} → IsSteadyOnEnds b → IsSteady t → IsSteady (lists_limit b t)
lists_steady {b} {t} p q = record {
  more = λ e rs ss h k. ⊎_elim
      (λ (i : b e (ends 0 rs)). inl (p.more e rs ss h i))
      (λ (i : t e (joined rs)). inr (q.more e (joined rs) (joined ss) (among_joined rs ss h) i)) k;
}
