-- Limits deny what their formats refuse.
use Rattle.std.proofs.Common.{◌≡◌, ℕ, ◌+◌, ◌-◌, ◌^◌, ◌≤◌, true, false, List, [], ◌∷◌, ◌++◌, length, map, take, refl, sym, ◌∙◌, ap, subst, arith, inl, inr, ⊎_elim, length-append}
use Rattle.std.proofs.lemmas.Bool.{or_cases, false≢true, lt-ltb, ltb-true}
use Rattle.std.proofs.lemmas.List.{map-append}
use Rattle.columnar_base.specs.Row.{Row, first_of, second_of}
use Rattle.columnar_base.specs.Format.{Format, Content, slice, both, part, plain, IsSound, Excess, too_many, misplaced, refuses_more, part_format}
use Rattle.columnar_base.specs.Change.{IsTrueOf, Refused, StoppedAt}
use Rattle.columnar_base.specs.Elements.{past_count, elements_format}
use Rattle.columnar_base.specs.Tuples.{tuples, firsts, seconds, pair_format}
use Rattle.columnar_base.specs.TupleLaws.{pair_parts, pair_refuses_more, firsts-tuples, seconds-tuples}
use Rattle.columnar_base.specs.LongTuples.{nested, tuple_format}
use Rattle.columnar_base.specs.LongTupleLaws.{tuple_same}
use Rattle.columnar_base.specs.Solos.{only_of, solos, onlies, solo_format}
use Rattle.columnar_base.specs.SoloLaws.{onlies-solos, solo_part, solo_length}
use Rattle.columnar_base.specs.declared.fault.GrowError.{GrowError}
use Rattle.columnar_base.specs.declared.fault.GrowError.TheVariants.{Memory, Length, Offset, Format as FormatError}
use Rattle.columnar_base.specs.May.{Limit, May, Denied, IsLimited, AreAmong, IsSteady, no_limit, count_limit, pair_limit, solo_limit}

-- a column that refuses nothing
pub nothing_limited : {f : Format} → ((e : Excess) (c : Content) (n : ℕ) (rs : List Row) → f.refuses e c n rs ≡ false) → IsLimited f no_limit
nothing_limited {f} h = record { denied = λ e c rs s k. absurd (false≢true (sym (h e c (length (f.rows c)) rs) ∙ k)) }

pub part_limited : (f : Format) → IsLimited (part_format f) no_limit
part_limited f = nothing_limited {f = part_format f} (λ e c n rs. refl)

-- a column that refuses nothing but too many rows
pub count_limited : {f : Format} → ((e : Excess) (c : Content) → IsSound f c → (n : ℕ) (rs : List Row) → f.refuses e c n rs ≡ past_count e (n + length rs)) → IsLimited f count_limit
count_limited {f} h = record { denied = λ e c rs s k. ap (past_count e) (length-append (f.rows c) rs) ∙ (sym (h e c s (length (f.rows c)) rs) ∙ k) }

pub elements_limited : (size align : ℕ) (row_of : List ℕ → Row) → IsLimited (elements_format size align row_of) count_limit
elements_limited size align row_of = count_limited {f = elements_format size align row_of} (λ e c s n rs. refl)

-- tuples

pair_denied : (a b : Format) {m n : Limit} → IsLimited a m → IsLimited b n → (e : Excess) (c : Content) (rs : List Row) → IsSound (pair_format a b) c → refuses_more (pair_format a b) e c rs ≡ true → pair_limit m n e ((pair_format a b).rows c ++ rs)
pair_denied a b {m} {n} la lb e (both x y) rs s h =
    let p = pair_parts a b s in
    let f : firsts (tuples (a.rows x) (b.rows y) ++ rs) ≡ a.rows x ++ firsts rs = map-append first_of (tuples (a.rows x) (b.rows y)) rs ∙ ap (λ us. us ++ firsts rs) (firsts-tuples (a.rows x) (b.rows y) p.level) in
    let g : seconds (tuples (a.rows x) (b.rows y) ++ rs) ≡ b.rows y ++ seconds rs = map-append second_of (tuples (a.rows x) (b.rows y)) rs ∙ ap (λ us. us ++ seconds rs) (seconds-tuples (a.rows x) (b.rows y) p.level) in
    ⊎_elim
    (λ (k : refuses_more a e x (firsts rs) ≡ true). inl (subst (λ us. m e us) (sym f) (la.denied e x (firsts rs) p.left k)))
    (λ (k : refuses_more b e y (seconds rs) ≡ true). inr (subst (λ us. n e us) (sym g) (lb.denied e y (seconds rs) p.right k)))
    (or_cases (refuses_more a e x (firsts rs)) (refuses_more b e y (seconds rs)) (sym (pair_refuses_more a b s e rs) ∙ h))
pair_denied a b la lb e (slice bs) rs s h = absurd (false≢true h)
pair_denied a b la lb e (part l u x) rs s h = absurd (false≢true h)
pair_denied a b la lb e (plain us) rs s h = absurd (false≢true h)

pub pair_limited : (a b : Format) {m n : Limit} → IsLimited a m → IsLimited b n → IsLimited (pair_format a b) (pair_limit m n)
pair_limited a b {m} {n} la lb = record { denied = pair_denied a b la lb }

-- three or more parts: as the pair of the first part and the rest
pub tuple_limited : (a b : Format) (fs : List Format) {m : Limit} → IsLimited (nested a (b ∷ fs)) m → IsLimited (tuple_format a b fs) m
tuple_limited a b fs {m} l = record { denied = λ e c rs s h. l.denied e c rs ((tuple_same a b fs).back c s) h }

pub solo_limited : (a : Format) {m : Limit} → IsLimited a m → IsLimited (solo_format a) (solo_limit m)
solo_limited a {m} l = record {
  denied = λ e c rs s h.
      let f : onlies (solos (a.rows c) ++ rs) ≡ a.rows c ++ onlies rs = map-append only_of (solos (a.rows c)) rs ∙ ap (λ us. us ++ onlies rs) (onlies-solos (a.rows c)) in
      subst (λ us. m e us) (sym f) (l.denied e c (onlies rs) (solo_part a s) (ap (λ n. a.refuses e c n (onlies rs)) (sym (solo_length a c)) ∙ h));
}

-- refusals

-- what a true error says about the rows
pub cause_denied : {f : Format} {m : Limit} → IsLimited f m → (c : Content) (rs : List Row) (error : GrowError) → IsSound f c → IsTrueOf error f c rs → Denied error m (f.rows c ++ rs)
cause_denied l c rs Memory s h = tt
cause_denied l c rs Length s h = l.denied too_many c rs s h
cause_denied l c rs Offset s h = l.denied misplaced c rs s h
cause_denied l c rs FormatError s h = h

-- What a refused growth says about the rows that it would have left.
pub refused_denied : {f : Format} {m : Limit} {old new : Content} {added : List Row} (error : GrowError) → IsLimited f m → IsSound f old → Refused f old new added error → Denied error m (f.rows old ++ added)
refused_denied {f} {m} {old} {new} {added} error l s g = cause_denied l old added error s g.cause

-- The same for items that were pushed one by one, up to the refused one.
pub stopped_denied : {f : Format} {m : Limit} {old new : Content} {items : List Row} (error : GrowError) → IsLimited f m → IsSound f old → (g : StoppedAt f old new items error) → Denied error m (f.rows old ++ take (g.count + 1) items)
stopped_denied {f} {m} {old} {new} {items} error l s g = cause_denied l old (take (g.count + 1) items) error s g.cause

-- An item that is refused with Length or Offset may not be pushed.
pub length_may_not : {f : Format} {m : Limit} {old new : Content} {item : Row} → IsLimited f m → IsSound f old → Refused f old new (item ∷ []) Length → May m (f.rows old) item → ⊥
length_may_not {f} {m} {old} {new} {item} l s g h = h too_many (refused_denied Length l s g)

pub offset_may_not : {f : Format} {m : Limit} {old new : Content} {item : Row} → IsLimited f m → IsSound f old → Refused f old new (item ∷ []) Offset → May m (f.rows old) item → ⊥
offset_may_not {f} {m} {old} {new} {item} l s g h = h misplaced (refused_denied Offset l s g)

-- subsequences

pub among_all : (rs : List Row) → AreAmong rs rs
among_all [] = tt
among_all (r ∷ rs) = inl (refl, among_all rs)

-- with other rows before
pub among_after : (rs us ss : List Row) → AreAmong rs ss → AreAmong rs (us ++ ss)
among_after rs [] ss h = h
among_after [] (u ∷ us) ss h = tt
among_after (r ∷ rs) (u ∷ us) ss h = inr (among_after (r ∷ rs) us ss h)

pub among_both : (rs ss us vs : List Row) → AreAmong rs ss → AreAmong us vs → AreAmong (rs ++ us) (ss ++ vs)
among_both [] ss us vs p q = among_after us ss vs q
among_both (r ∷ rs) [] us vs p q = absurd p
among_both (r ∷ rs) (s ∷ ss) us vs p q = ⊎_elim (λ (h : (r ≡ s) × AreAmong rs ss). inl (h.0, among_both rs ss us vs h.1 q)) (λ (h : AreAmong (r ∷ rs) ss). inr (among_both (r ∷ rs) ss us vs h q)) p

pub among_length : (rs ss : List Row) → AreAmong rs ss → length rs ≤ length ss
among_length [] ss h = omega arith
among_length (r ∷ rs) [] h = absurd h
among_length (r ∷ rs) (s ∷ ss) h = ⊎_elim (λ (k : (r ≡ s) × AreAmong rs ss). let l = among_length rs ss k.1 in omega (arith, l)) (λ (k : AreAmong (r ∷ rs) ss). let l = among_length (r ∷ rs) ss k in omega (arith, l)) h

-- with each row replaced by a list of rows
pub among_made : (f : Row → List Row) (g : List Row → List Row) → ((r : Row) (rs : List Row) → g (r ∷ rs) ≡ f r ++ g rs) → (g [] ≡ []) → (rs ss : List Row) → AreAmong rs ss → AreAmong (g rs) (g ss)
among_made f g e n [] ss h = subst (λ us. AreAmong us (g ss)) (sym n) tt
among_made f g e n (r ∷ rs) [] h = absurd h
among_made f g e n (r ∷ rs) (s ∷ ss) h = ⊎_elim
    (λ (k : (r ≡ s) × AreAmong rs ss).
    let w : f r ++ g rs ≡ f s ++ g rs = ap (λ t. f t ++ g rs) k.0 in
    subst (λ us. AreAmong us (g (s ∷ ss))) (sym (e r rs ∙ w)) (subst (λ us. AreAmong (f s ++ g rs) us) (sym (e s ss)) (among_both (f s) (f s) (g rs) (g ss) (among_all (f s)) (among_made f g e n rs ss k.1))))
    (λ (k : AreAmong (r ∷ rs) ss). subst (λ us. AreAmong (g (r ∷ rs)) us) (sym (e s ss)) (among_after (g (r ∷ rs)) (f s) (g ss) (among_made f g e n (r ∷ rs) ss k)))
    h

pub among_map : (f : Row → Row) (rs ss : List Row) → AreAmong rs ss → AreAmong (map f rs) (map f ss)
among_map f [] ss h = tt
among_map f (r ∷ rs) [] h = absurd h
among_map f (r ∷ rs) (s ∷ ss) h = ⊎_elim (λ (k : (r ≡ s) × AreAmong rs ss). inl (ap f k.0, among_map f rs ss k.1)) (λ (k : AreAmong (r ∷ rs) ss). inr (among_map f (r ∷ rs) ss k)) h

pub among_some : (rs ss ts : List Row) → AreAmong rs ss → AreAmong ss ts → AreAmong rs ts
among_some [] ss ts p q = tt
among_some (r ∷ rs) [] ts p q = absurd p
among_some (r ∷ rs) (s ∷ ss) [] p q = absurd q
among_some (r ∷ rs) (s ∷ ss) (t ∷ ts) p q = ⊎_elim
    (λ (k : (s ≡ t) × AreAmong ss ts). ⊎_elim
    (λ (h : (r ≡ s) × AreAmong rs ss). inl (h.0 ∙ k.0, among_some rs ss ts h.1 k.1))
    (λ (h : AreAmong (r ∷ rs) ss). inr (among_some (r ∷ rs) ss ts h k.1)) p)
    (λ (k : AreAmong (s ∷ ss) ts). inr (among_some (r ∷ rs) (s ∷ ss) ts p k)) q

-- limits that hold with more rows

pub past_more : (e : Excess) (m n : ℕ) → m ≤ n → past_count e m ≡ true → past_count e n ≡ true
past_more too_many m n l h = lt-ltb (2 ^ 64 - 1) n (let k = ltb-true (2 ^ 64 - 1) m h in omega (arith, k, l))
past_more misplaced m n l h = absurd (false≢true h)

pub count_steady : IsSteady count_limit
count_steady = record { more = λ e rs ss h k. past_more e (length rs) (length ss) (among_length rs ss h) k }

pub pair_steady : {a b : Limit} → IsSteady a → IsSteady b → IsSteady (pair_limit a b)
pair_steady {a} {b} p q = record {
  more = λ e rs ss h k. ⊎_elim
      (λ (i : a e (firsts rs)). inl (p.more e (firsts rs) (firsts ss) (among_map first_of rs ss h) i))
      (λ (i : b e (seconds rs)). inr (q.more e (seconds rs) (seconds ss) (among_map second_of rs ss h) i)) k;
}

pub solo_steady : {a : Limit} → IsSteady a → IsSteady (solo_limit a)
solo_steady {a} p = record { more = λ e rs ss h k. p.more e (onlies rs) (onlies ss) (among_map only_of rs ss h) k }
