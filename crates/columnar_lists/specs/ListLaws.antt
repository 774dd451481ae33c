-- The laws of the format of lists, and what growth, a refusal and a cut of its parts leave.
use Rattle.std.proofs.Common.{◌≡◌, ℕ, zero, suc, ◌+◌, ◌%◌, ◌^◌, ◌-◌, ◌<◌, ◌≤◌, Bool, true, false, ◌||◌, List, [], ◌∷◌, ◌++◌, length, take, drop, refl, sym, ◌∙◌, ap, arith, length-append, length-take, length-drop, append-nil}
use Rattle.std.proofs.Math.Seq.{drop-append_seam, take-length}
use Rattle.std.specs.Prelude.{slice_get, Some}
use Rattle.std.proofs.lemmas.List.{take-append-drop, take-append-le, map-append, length-map, take-map}
use Rattle.std.proofs.lemmas.Bool.{or_right, and_from}
use Rattle.columnar_base.specs.Row.{Row, list, number, number_of, items_of, list_end, empty}
use Rattle.columnar_base.specs.RowLaws.{is-row_eq, items_of-list, end_of-list}
use Rattle.columnar_base.specs.Elements.{word_row}
use Rattle.columnar_base.specs.PartLaws.{piece_from}
use Rattle.columnar_base.specs.AlikeLaws.{alike_length}
use Rattle.columnar_base.specs.Format.{Format, Content, slice, both, part, plain, part_format, IsSound, IsLawful, IsStorable, lengths, Excess, refuses_more}
use Rattle.columnar_base.specs.Change.{Keeps, Grew, Stayed, WasCut, Took, Copied, Refused}
use Rattle.columnar_base.specs.ChangeLaws.{grew_exactly, true_from}
use Rattle.columnar_base.specs.TwoParts.{TwoParts}
use Rattle.columnar_base.specs.TwoPartsLaws.{two_parts, two_sound, two_storable}
use Rattle.columnar_base.specs.declared.fault.GrowError.{GrowError}
use Rattle.columnar_core.specs.Bounds.{rises, numbers, last_or, shifted, IsBounds}
use Rattle.columnar_core.specs.BoundLaws.{last_at, number_get}
use Rattle.columnar_lists.specs.Lists.{lists_format, lists_rise, lists_rows, lists_refuses, joined, cut, end_at, ends}
use Rattle.columnar_lists.specs.CutLaws.{rises-last, rises-from, rises-append, rises-take, last-take, length-cut, cut-take, cut-append, cut-more, are_lists, cut_lists, joined-cut, joined-append, ends-append, ends_rise, cut_alike, cut_exactly, lists_same, lists_related, ends_cut, rises-range, cut-range, shifted-range, rises_get, bound_between}

-- the soundness of lists
pub record SoundLists (b t : Format) (x y : Content) : Type 0 where
  pub bounds : IsSound b x
  pub values : IsSound t y
  pub rise : rises 0 (numbers (b.rows x)) (length (t.rows y)) ≡ true

-- the rules of both parts, then that the bounds rise to the number of values
pub lists_two : (b t : Format) → TwoParts (lists_format b t) b t (lists_rise b t) 11
lists_two b t = record { count = refl; sizes = refl; aligns = refl; build = λ ss. refl; broken = λ c. refl }

pub lists_parts : (b t : Format) {x y : Content} → IsSound (lists_format b t) (both x y) → SoundLists b t x y
lists_parts b t {x} {y} s = let p = two_parts (lists_two b t) x y s in record { bounds = p.left; values = p.right; rise = p.own }

pub lists_sound : (b t : Format) {x y : Content} → SoundLists b t x y → IsSound (lists_format b t) (both x y)
lists_sound b t {x} {y} s = two_sound (lists_two b t) x y (record { left = s.bounds; right = s.values; own = s.rise })

-- there are as many lists as bounds
pub length-lists : (b t : Format) (x y : Content) → length (lists_rows b t (both x y)) ≡ length (b.rows x)
length-lists b t x y = length-cut 0 (numbers (b.rows x)) (t.rows y) ∙ length-map (b.rows x) number_of

pub lists_within : (b t : Format) (x y : Content) (i : ℕ) → i < length (lists_rows b t (both x y)) → i < length (b.rows x)
lists_within b t x y i l = rw (length-lists b t x y) at l

pub lists_within_le : (b t : Format) (x y : Content) (i : ℕ) → i ≤ length (lists_rows b t (both x y)) → i ≤ length (b.rows x)
lists_within_le b t x y i l = rw (length-lists b t x y) at l

-- the last list ends where the values end
pub end_of_all : (b t : Format) {x y : Content} → SoundLists b t x y → end_at b x (length (lists_rows b t (both x y))) ≡ length (t.rows y)
end_of_all b t {x} {y} p =
    let k : take (length (cut 0 (numbers (b.rows x)) (t.rows y))) (numbers (b.rows x)) ≡ numbers (b.rows x) = rw (length-cut 0 (numbers (b.rows x)) (t.rows y)) (take-length (numbers (b.rows x))) in
    ap (last_or 0) k ∙ rises-last 0 (numbers (b.rows x)) (length (t.rows y)) p.rise

lists_full : (b t : Format) → IsLawful b → IsLawful t → (c : Content) → IsSound (lists_format b t) c → (lists_format b t).extent c (length ((lists_format b t).rows c)) ≡ lengths c
lists_full b t lb lt (both x y) s =
    let p = lists_parts b t s in
    let n = length-lists b t x y in
    let l = end_of_all b t p in
    let e : b.extent x (length (cut 0 (numbers (b.rows x)) (t.rows y))) ≡ lengths x = rw n (lb.full x p.bounds) in
    let f : t.extent y (last_or 0 (take (length (cut 0 (numbers (b.rows x)) (t.rows y))) (numbers (b.rows x)))) ≡ lengths y = rw l (lt.full y p.values) in
    cc
lists_full b t lb lt (slice bs) s = cc
lists_full b t lb lt (part l u x) s = cc
lists_full b t lb lt (plain rs) s = cc

-- lists stay refused if more lists follow
either : (a b c d : Bool) → (a ≡ true → c ≡ true) → (b ≡ true → d ≡ true) → (a || b) ≡ true → (c || d) ≡ true
either true b c d p q h = rw (p refl) refl
either false true c d p q h = or_right c d (q refl)
either false false c d p q h = cc

lists_more : (b t : Format) → IsLawful b → IsLawful t → (e : Excess) (c : Content) (n : ℕ) (rs ss : List Row) → lists_refuses b t e c n rs ≡ true → lists_refuses b t e c n (rs ++ ss) ≡ true
lists_more b t lb lt e (both x y) n rs ss h =
    either (b.refuses e x n (ends (end_at b x n) rs)) (t.refuses e y (end_at b x n) (joined rs)) (b.refuses e x n (ends (end_at b x n) (rs ++ ss))) (t.refuses e y (end_at b x n) (joined (rs ++ ss)))
    (λ k. rw (ends-append (end_at b x n) rs ss) (lb.more e x n (ends (end_at b x n) rs) (ends (end_at b x n + length (joined rs)) ss) k))
    (λ k. rw (joined-append rs ss) (lt.more e y (end_at b x n) (joined rs) (joined ss) k)) h
lists_more b t lb lt e (slice bs) n rs ss h = cc
lists_more b t lb lt e (part l u x) n rs ss h = cc
lists_more b t lb lt e (plain us) n rs ss h = cc

pub lists_lawful : (b t : Format) → IsLawful b → IsLawful t → IsLawful (lists_format b t)
lists_lawful b t lb lt = record {
  full = lists_full b t lb lt;
  same = lists_same t.alike lt.same;
  kindred = lists_same t.kin lt.kindred;
  related = lists_related t.alike t.kin lt.related;
  more = lists_more b t lb lt;
}

pub lists_storable : (b t : Format) → IsStorable b → IsStorable t → IsStorable (lists_format b t)
lists_storable b t p q = two_storable (lists_two b t) (omega arith) p q

-- extents and limits stay if both parts keep theirs
pub lists_kept : (b t : Format) {x x' y y' : Content} (ms : List ℕ) → SoundLists b t x y → numbers (b.rows x') ≡ numbers (b.rows x) ++ ms → Keeps b x x' (length (b.rows x)) → Keeps t y y' (length (t.rows y)) → Keeps (lists_format b t) (both x y) (both x' y') (length (cut 0 (numbers (b.rows x)) (t.rows y)))
lists_kept b t {x} {x'} {y} {y'} ms p e g h =
    let k : length (numbers (b.rows x)) ≡ length (b.rows x) = length-map (b.rows x) number_of in
    let c : length (cut 0 (numbers (b.rows x)) (t.rows y)) ≡ length (numbers (b.rows x)) = length-cut 0 (numbers (b.rows x)) (t.rows y) in
    record {
      extents = λ m l.
          let i : take m (numbers (b.rows x')) ≡ take m (numbers (b.rows x)) = rw e (take-append-le m (numbers (b.rows x)) ms (omega arith)) in
          let u = g.extents m (omega arith) in
          let v = h.extents (last_or 0 (take m (numbers (b.rows x)))) (last-take m 0 (numbers (b.rows x)) (length (t.rows y)) p.rise) in
          cc;
      limits = λ m l f rs.
          let i : take m (numbers (b.rows x')) ≡ take m (numbers (b.rows x)) = rw e (take-append-le m (numbers (b.rows x)) ms (omega arith)) in
          let u = g.limits m (omega arith) f (ends (last_or 0 (take m (numbers (b.rows x)))) rs) in
          let v = h.limits (last_or 0 (take m (numbers (b.rows x)))) (last-take m 0 (numbers (b.rows x)) (length (t.rows y)) p.rise) f (joined rs) in
          rw (i, u, v) refl;
    }

pub lists_stayed : (b t : Format) {x x' y y' : Content} → IsSound (lists_format b t) (both x y) → Stayed b x x' → Stayed t y y' → Stayed (lists_format b t) (both x y) (both x' y')
lists_stayed b t {x} {x'} {y} {y'} s g h =
    let p = lists_parts b t s in
    record {
      sound = lists_sound b t (record { bounds = g.sound; values = h.sound; rise = rw (g.rows, h.rows) p.rise });
      rows = rw (g.rows, h.rows) refl;
      lengths_same = let u = g.lengths_same in let v = h.lengths_same in cc;
      kept = lists_kept b t [] p (rw g.rows (sym (append-nil (numbers (b.rows x))))) g.kept h.kept;
    }

-- the values grew by the items of lists, the bounds by their ends
pub lists_grew : (b t : Format) {x x' y y' : Content} {us : List Row} (rs : List Row) → IsSound (lists_format b t) (both x y) → length us ≡ length (joined rs) → Grew t y y' us → Grew b x x' (ends (length (t.rows y)) rs) → Grew (lists_format b t) (both x y) (both x' y') (cut (length (t.rows y)) (numbers (ends (length (t.rows y)) rs)) (t.rows y'))
lists_grew b t {x} {x'} {y} {y'} {us} rs s n g h =
    let p = lists_parts b t s in
    let longer : length (t.rows y') ≡ length (t.rows y) + length (joined rs) = ap length g.rows ∙ (length-append (t.rows y) us ∙ omega (arith, n)) in
    let e : numbers (b.rows x') ≡ numbers (b.rows x) ++ numbers (ends (length (t.rows y)) rs) = rw h.rows (map-append number_of (b.rows x) (ends (length (t.rows y)) rs)) in
    let last : last_or 0 (numbers (b.rows x)) ≡ length (t.rows y) = rises-last 0 (numbers (b.rows x)) (length (t.rows y)) p.rise in
    record {
      sound = lists_sound b t (record { bounds = h.sound; values = g.sound; rise = rw e (rises-append 0 (numbers (b.rows x)) (numbers (ends (length (t.rows y)) rs)) (length (t.rows y)) (length (t.rows y')) p.rise (ends_rise (length (t.rows y)) rs (length (t.rows y')) longer)) });
      rows =
          let c1 = cut-append 0 (numbers (b.rows x)) (numbers (ends (length (t.rows y)) rs)) (t.rows y') in
          let c2 : cut 0 (numbers (b.rows x)) (t.rows y') ≡ cut 0 (numbers (b.rows x)) (t.rows y) = rw g.rows (cut-more 0 (numbers (b.rows x)) (t.rows y) us p.rise) in
          ap (λ ms. cut 0 ms (t.rows y')) e ∙ (c1 ∙ (rw (last, c2) refl));
      kept = lists_kept b t (numbers (ends (length (t.rows y)) rs)) p e h.kept g.kept;
    }

-- Lists are refused if and only if the bounds refuse the ends from the last one on, or the values refuse the items.
lists_refuse_more : (b t : Format) (e : Excess) {x y : Content} → SoundLists b t x y → (rs : List Row) → refuses_more (lists_format b t) e (both x y) rs ≡ (refuses_more b e x (ends (length (t.rows y)) rs) || refuses_more t e y (joined rs))
lists_refuse_more b t e {x} {y} p rs =
    let n = length-lists b t x y in
    let l = end_of_all b t p in
    rw (l, n) refl

-- the values took the items of lists, the bounds their ends
pub lists_took : (b t : Format) {x x' y y' : Content} (rs : List Row) → IsBounds b → IsSound (lists_format b t) (both x y) → are_lists rs ≡ true → Took t y y' (joined rs) → Took b x x' (ends (length (t.rows y)) rs) → Took (lists_format b t) (both x y) (both x' y') rs
lists_took b t {x} {x'} {y} {y'} rs nb s l g h =
    let n : length g.fresh ≡ length (joined rs) = alike_length t.alike g.fresh (joined rs) g.alike in
    let k = lists_grew b t rs s n g.grew (grew_exactly nb.exact h) in
    let p = lists_parts b t s in
    let q = lists_parts b t k.sound in
    let longer : length (t.rows y') ≡ length (t.rows y) + length (joined rs) = ap length g.grew.rows ∙ (length-append (t.rows y) g.fresh ∙ omega (arith, n)) in
    let d : drop (length (t.rows y)) (t.rows y') ≡ g.fresh = rw g.grew.rows (drop-append_seam (t.rows y) g.fresh) in
    record {
      fresh = cut (length (t.rows y)) (numbers (ends (length (t.rows y)) rs)) (t.rows y');
      grew = k;
      alike = cut_alike t.alike (length (t.rows y)) (t.rows y') rs l (rw d g.alike);
      adds = λ e ss r.
          rw (lists_refuse_more b t e p (rs ++ ss)) (
          either (refuses_more b e x' (ends (length (t.rows y')) ss)) (refuses_more t e y' (joined ss)) (refuses_more b e x (ends (length (t.rows y)) (rs ++ ss))) (refuses_more t e y (joined (rs ++ ss)))
          (λ v. rw (ends-append (length (t.rows y)) rs ss, ← longer) (h.adds e (ends (length (t.rows y')) ss) v))
          (λ v. rw (joined-append rs ss) (g.adds e (joined ss) v))
          (rw (lists_refuse_more b t e q ss) at r));
    }

-- the values refused the items, and the bounds stayed
pub lists_refused_values : (b t : Format) {x x' y y' : Content} {error : GrowError} (rs : List Row) → IsSound (lists_format b t) (both x y) → Stayed b x x' → Refused t y y' (joined rs) error → Refused (lists_format b t) (both x y) (both x' y') rs error
lists_refused_values b t {x} {x'} {y} {y'} {error} rs s g h = record {
  stayed = lists_stayed b t s g h.stayed;
  cause = true_from t (lists_format b t) y (both x y) (joined rs) rs error (λ e k. rw (lists_refuse_more b t e (lists_parts b t s) rs) (either false (refuses_more t e y (joined rs)) (refuses_more b e x (ends (length (t.rows y)) rs)) (refuses_more t e y (joined rs)) (λ z. cc) (λ z. z) k)) h.cause;
}

-- the bounds refused the ends, and the values stayed
pub lists_refused_bounds : (b t : Format) {x x' y y' : Content} {error : GrowError} (rs : List Row) → IsSound (lists_format b t) (both x y) → Refused b x x' (ends (length (t.rows y)) rs) error → Stayed t y y' → Refused (lists_format b t) (both x y) (both x' y') rs error
lists_refused_bounds b t {x} {x'} {y} {y'} {error} rs s h st = record {
  stayed = lists_stayed b t s h.stayed st;
  cause = true_from b (lists_format b t) x (both x y) (ends (length (t.rows y)) rs) rs error (λ e k. rw (lists_refuse_more b t e (lists_parts b t s) rs, k) refl) h.cause;
}

take_twice : (m n : ℕ) (xs : List ℕ) → m ≤ n → take m (take n xs) ≡ take m xs
take_twice zero n xs l = refl
take_twice (suc m) zero xs l = absurd (omega arith)
take_twice (suc m) (suc n) [] l = refl
take_twice (suc m) (suc n) (x ∷ xs) l = ap (λ t. x ∷ t) (take_twice m n xs (omega arith))

-- the bounds were cut to n, the values to the end of list n - 1
pub lists_cut : (b t : Format) {x x' y y' : Content} {n : ℕ} → IsSound (lists_format b t) (both x y) → WasCut b x x' n → WasCut t y y' (end_at b x n) → WasCut (lists_format b t) (both x y) (both x' y') n
lists_cut b t {x} {x'} {y} {y'} {n} s g h =
    let p = lists_parts b t s in
    let e : numbers (b.rows x') ≡ take n (numbers (b.rows x)) = rw g.rows (sym (take-map number_of n (b.rows x))) in
    let top = last-take n 0 (numbers (b.rows x)) (length (t.rows y)) p.rise in
    let r = rises-take n 0 (numbers (b.rows x)) (length (t.rows y)) p.rise in
    let k : length (t.rows y') ≡ last_or 0 (take n (numbers (b.rows x))) = rw (h.rows, length-take) (omega arith) in
    record {
      sound = lists_sound b t (record { bounds = g.sound; values = h.sound; rise = rw (e, k) r });
      rows =
          let whole : take (last_or 0 (take n (numbers (b.rows x)))) (t.rows y) ++ drop (last_or 0 (take n (numbers (b.rows x)))) (t.rows y) ≡ t.rows y = take-append-drop (last_or 0 (take n (numbers (b.rows x)))) (t.rows y) in
          let len : length (take (last_or 0 (take n (numbers (b.rows x)))) (t.rows y)) ≡ last_or 0 (take n (numbers (b.rows x))) = ap length (sym h.rows) ∙ k in
          let c1 : cut 0 (take n (numbers (b.rows x))) (t.rows y) ≡ cut 0 (take n (numbers (b.rows x))) (take (last_or 0 (take n (numbers (b.rows x)))) (t.rows y)) =
          ap (cut 0 (take n (numbers (b.rows x)))) (sym whole) ∙ cut-more 0 (take n (numbers (b.rows x))) (take (last_or 0 (take n (numbers (b.rows x)))) (t.rows y)) (drop (last_or 0 (take n (numbers (b.rows x)))) (t.rows y)) (rw len r) in
          let c2 = cut-take n 0 (numbers (b.rows x)) (t.rows y) in
          rw (e, h.rows) (sym c1 ∙ c2);
      lengths_cut = let u = g.lengths_cut in let v = h.lengths_cut in cc;
      kept = record {
        extents = λ m l.
            let i : take m (take n (numbers (b.rows x))) ≡ take m (numbers (b.rows x)) = take_twice m n (numbers (b.rows x)) l in
            let j : take m (numbers (b.rows x')) ≡ take m (numbers (b.rows x)) = rw e i in
            let u = g.kept.extents m l in
            let below = last-take m 0 (take n (numbers (b.rows x))) (last_or 0 (take n (numbers (b.rows x)))) r in
            let v = h.kept.extents (last_or 0 (take m (numbers (b.rows x)))) (rw i at below) in
            cc;
        limits = λ m l f rs.
            let i : take m (take n (numbers (b.rows x))) ≡ take m (numbers (b.rows x)) = take_twice m n (numbers (b.rows x)) l in
            let j : take m (numbers (b.rows x')) ≡ take m (numbers (b.rows x)) = rw e i in
            let u = g.kept.limits m l f (ends (last_or 0 (take m (numbers (b.rows x)))) rs) in
            let below = last-take m 0 (take n (numbers (b.rows x))) (last_or 0 (take n (numbers (b.rows x)))) r in
            let v = h.kept.limits (last_or 0 (take m (numbers (b.rows x)))) (rw i at below) f (joined rs) in
            rw (j, u, v) refl;
      };
    }

-- the last bound is the number of values
pub lists_last : (b t : Format) {x y : Content} (n : ℕ) → IsSound (lists_format b t) (both x y) → n ≡ length (t.rows y) → last_or 0 (numbers (b.rows x)) ≡ n
lists_last b t {x} {y} n s e = rises-last 0 (numbers (b.rows x)) (length (t.rows y)) (lists_parts b t s).rise ∙ sym e

-- the values are the items of all lists
pub lists_joined : (b t : Format) {x y : Content} → IsSound (lists_format b t) (both x y) → t.rows y ≡ joined (lists_rows b t (both x y))
lists_joined b t {x} {y} s =
    let z : length (t.rows y) - 0 ≡ length (t.rows y) = omega arith in
    sym (joined-cut 0 (numbers (b.rows x)) (length (t.rows y)) (t.rows y) (lists_parts b t s).rise ∙ (ap (λ k. take k (t.rows y)) z ∙ take-length (t.rows y)))

pub same_lists : {b b' t t' : Format} → b ≡ b' → t ≡ t' → lists_format b t ≡ lists_format b' t'
same_lists {b} {b'} {t} {t'} p q = rw (p, q) refl

-- no bounds and no values: no lists
pub lists_none : (b t : Format) {x y : Content} → IsSound b x → IsSound t y → b.rows x ≡ [] → t.rows y ≡ [] → IsSound (lists_format b t) (both x y)
lists_none b t {x} {y} s u e f = lists_sound b t (record { bounds = s; values = u; rise = rw (e, f) refl })

no_rows : (rs : List Row) → length rs ≡ 0 → rs ≡ []
no_rows [] e = refl
no_rows (r ∷ rs) e = cc

-- no lists: no values
pub no_lists : (b t : Format) {x y : Content} → IsSound (lists_format b t) (both x y) → lists_rows b t (both x y) ≡ [] → t.rows y ≡ []
no_lists b t {x} {y} s e =
    let p = lists_parts b t s in
    let n : length (lists_rows b t (both x y)) ≡ 0 = rw e refl in
    let l : end_at b x (length (lists_rows b t (both x y))) ≡ length (t.rows y) = end_of_all b t p in
    let z : end_at b x 0 ≡ length (t.rows y) = rw n at l in
    no_rows (t.rows y) (sym z)

-- the items of lists and their ends, in a column without lists, are these lists
pub lists_front : (b t : Format) {x x' y y' : Content} (rs : List Row) → IsBounds b → IsSound (lists_format b t) (both x y) → are_lists rs ≡ true → Took t y y' (joined rs) → Took b x x' (ends (length (t.rows y)) rs) → lists_rows b t (both x y) ≡ [] → t.rows y' ≡ joined rs → lists_rows b t (both x' y') ≡ rs
lists_front b t {x} {x'} {y} {y'} rs nb s l g h e f =
    let n : length g.fresh ≡ length (joined rs) = alike_length t.alike g.fresh (joined rs) g.alike in
    let k = lists_grew b t rs s n g.grew (grew_exactly nb.exact h) in
    let z : t.rows y ≡ [] = no_lists b t s e in
    let c : cut 0 (numbers (ends 0 rs)) (t.rows y') ≡ rs = cut_exactly 0 (t.rows y') rs l f in
    k.rows ∙ (rw (e, z) c)

-- a cut to n lists, where list n - 1 ends at e
pub lists_cut_at : (b t : Format) {x x' y y' : Content} {n e : ℕ} → IsSound (lists_format b t) (both x y) → slice_get (0 ∷ numbers (b.rows x)) n ≡ Some e → WasCut b x x' n → WasCut t y y' e → WasCut (lists_format b t) (both x y) (both x' y') n
lists_cut_at b t {x} {x'} {y} {y'} {n} {e} s p g h =
    let k = last_at n 0 (numbers (b.rows x)) e p in
    lists_cut b t s g (rw (← k) at h)

-- list n - 1 ends within the values
pub end_within : (b t : Format) {x y : Content} (n : ℕ) {e : ℕ} → IsSound (lists_format b t) (both x y) → slice_get (0 ∷ numbers (b.rows x)) n ≡ Some e → e ≤ length (t.rows y)
end_within b t {x} {y} n {e} s p =
    let q = lists_parts b t s in
    let k = last_at n 0 (numbers (b.rows x)) e p in
    let m = last-take n 0 (numbers (b.rows x)) (length (t.rows y)) q.rise in
    rw k at m

-- list i can be read
pub piece_sound : (b t : Format) {x y : Content} (i : ℕ) {l u : ℕ} → IsSound (lists_format b t) (both x y) → slice_get (0 ∷ numbers (b.rows x)) i ≡ Some l → slice_get (b.rows x) i ≡ Some (number u) → IsSound (part_format t) (part l u y)
piece_sound b t {x} {y} i {l} {u} s p h =
    let q = lists_parts b t s in
    let r = rises_get i 0 (numbers (b.rows x)) (length (t.rows y)) l u q.rise p (number_get (b.rows x) i u h) in
    piece_from t q.values r.0 r.1

-- one list

-- a 64-bit number, as it is pushed

one_joined : (us : List Row) → joined (list us ∷ []) ≡ us
one_joined us = append-nil (items_of (list us)) ∙ items_of-list us

pub one_ends : (from end : ℕ) (us : List Row) → end ≡ from + length us → ends from (list us ∷ []) ≡ number end ∷ []
one_ends from end us e =
    let k : from + length (items_of (list us)) ≡ end = omega (arith, e, ap length (items_of-list us)) in
    rw k refl

one_list : (us : List Row) → are_lists (list us ∷ []) ≡ true
one_list us = and_from _ _ (is-row_eq (list_end (list us)) empty (end_of-list us)) refl

pub took_length : {f : Format} {x y : Content} {us : List Row} → Took f x y us → length (f.rows y) ≡ length (f.rows x) + length us
took_length {f} {x} {y} {us} g = ap length g.grew.rows ∙ (length-append (f.rows x) g.fresh ∙ omega (arith, alike_length f.alike g.fresh us g.alike))

-- the values took the items of a list, the bounds their new number
pub list_took : (b t : Format) {x x' y y' : Content} {us : List Row} → IsBounds b → IsSound (lists_format b t) (both x y) → Took t y y' us → Took b x x' (number (length (t.rows y')) ∷ []) → Took (lists_format b t) (both x y) (both x' y') (list us ∷ [])
list_took b t {x} {x'} {y} {y'} {us} nb s g h =
    lists_took b t (list us ∷ []) nb s (one_list us) (rw (one_joined us) g) (rw (one_ends (length (t.rows y)) (length (t.rows y')) us (took_length g)) h)

pub list_refused_values : (b t : Format) {x x' y y' : Content} {us : List Row} {error : GrowError} → IsSound (lists_format b t) (both x y) → Stayed b x x' → Refused t y y' us error → Refused (lists_format b t) (both x y) (both x' y') (list us ∷ []) error
list_refused_values b t {x} {x'} {y} {y'} {us} s g h = lists_refused_values b t (list us ∷ []) s g (rw (one_joined us) h)

-- the bounds refused the end of the items, and these were removed
pub list_refused_bounds : (b t : Format) {x x' y mid y' : Content} {us : List Row} {error : GrowError} → IsSound (lists_format b t) (both x y) → Took t y mid us → Refused b x x' (number (length (t.rows mid)) ∷ []) error → Stayed t y y' → Refused (lists_format b t) (both x y) (both x' y') (list us ∷ []) error
list_refused_bounds b t {x} {x'} {y} {mid} {y'} {us} s g h st =
    lists_refused_bounds b t (list us ∷ []) s (rw (one_ends (length (t.rows y)) (length (t.rows mid)) us (took_length g)) h) st

-- a range of the lists of a view

-- a range of lists: the values from `lower` to `upper`, and the bounds between, shifted
pub record RangeOf (b t : Format) (x y : Content) (start end lower upper : ℕ) : Type 0 where
  pub lists : are_lists (take (end - start) (drop start (lists_rows b t (both x y)))) ≡ true
  pub items : joined (take (end - start) (drop start (lists_rows b t (both x y)))) ≡ take (upper - lower) (drop lower (t.rows y))
  pub ended : (from : ℕ) → ends from (take (end - start) (drop start (lists_rows b t (both x y)))) ≡ take (end - start) (drop start (shifted lower from (numbers (b.rows x))))
  pub between : (i n : ℕ) → start ≤ i → i < end → slice_get (numbers (b.rows x)) i ≡ Some n → (lower ≤ n) × (n ≤ upper)
  pub ordered : lower ≤ upper
  pub within : upper ≤ length (t.rows y)

pub list_range : (b t : Format) {x y : Content} (start end : ℕ) {lower upper : ℕ} → IsSound (lists_format b t) (both x y) → start ≤ end → slice_get (0 ∷ numbers (b.rows x)) start ≡ Some lower → slice_get (0 ∷ numbers (b.rows x)) end ≡ Some upper → RangeOf b t x y start end lower upper
list_range b t {x} {y} start end {lower} {upper} s o p q =
    let z = lists_parts b t s in
    let l : last_or 0 (take start (numbers (b.rows x))) ≡ lower = last_at start 0 (numbers (b.rows x)) lower p in
    let u : last_or 0 (take end (numbers (b.rows x))) ≡ upper = last_at end 0 (numbers (b.rows x)) upper q in
    let c : cut lower (take (end - start) (drop start (numbers (b.rows x)))) (t.rows y) ≡ take (end - start) (drop start (cut 0 (numbers (b.rows x)) (t.rows y))) = rw l at (cut-range start (end - start) 0 (numbers (b.rows x)) (t.rows y)) in
    let r : rises lower (take (end - start) (drop start (numbers (b.rows x)))) upper ≡ true = rw (l, u) at (rises-range start end 0 (numbers (b.rows x)) (length (t.rows y)) o z.rise) in
    let w : upper ≤ length (t.rows y) = rw u at (last-take end 0 (numbers (b.rows x)) (length (t.rows y)) z.rise) in
    record {
      lists = rw (← c) (cut_lists lower (take (end - start) (drop start (numbers (b.rows x)))) (t.rows y));
      items = rw (← c) (joined-cut lower (take (end - start) (drop start (numbers (b.rows x)))) upper (t.rows y) r);
      ended = λ from. rw (← c, shifted-range lower from start (end - start) (numbers (b.rows x))) (ends_cut lower from lower from (take (end - start) (drop start (numbers (b.rows x)))) upper (t.rows y) (omega arith) (omega arith) r w);
      between = λ i n a d h. rw (l, u) at (bound_between start end i n (numbers (b.rows x)) (length (t.rows y)) a d h z.rise);
      ordered = rises-from lower (take (end - start) (drop start (numbers (b.rows x)))) upper r;
      within = w;
    }

-- the bounds of a range can be shifted: the copied values fit after the old ones
pub range_held : {b t : Format} {x y : Content} {start end lower upper : ℕ} → RangeOf b t x y start end lower upper → (before all : ℕ) → all ≡ before + (upper - lower) → all < 2 ^ 64 → (i n : ℕ) → start ≤ i → i < end → slice_get (numbers (b.rows x)) i ≡ Some n → (lower ≤ n) × (before + (n - lower) < 2 ^ 64)
range_held r before all e l i n a d h = let p = r.between i n a d h in (p.0, omega (arith, e, p.0, p.1))

-- the number of copied values
pub range_length : {b t : Format} {x y : Content} {start end lower upper : ℕ} → RangeOf b t x y start end lower upper → length (take (upper - lower) (drop lower (t.rows y))) ≡ upper - lower
range_length {b} {t} {x} {y} {start} {end} {lower} {upper} r = length-take (upper - lower) (drop lower (t.rows y)) ∙ omega (arith, length-drop lower (t.rows y), r.within)

-- The values of the range were copied, then its bounds, shifted to the end of the old values. A front, copied into a
-- column without lists, has equal rows.

first_is : (ns : List ℕ) (i lower : ℕ) → slice_get (0 ∷ ns) i ≡ Some lower → i ≡ 0 → lower ≡ 0
first_is ns zero lower h e = cc
first_is ns (suc i) lower h e = absurd (omega arith)

pub range_copied : (b t : Format) {w v : Format} {x x' y y' p q : Content} {start end lower upper : ℕ} → IsBounds b → IsSound (lists_format b t) (both x y) → RangeOf w v p q start end lower upper → slice_get (0 ∷ numbers (w.rows p)) start ≡ Some lower → Copied t y y' lower (take (upper - lower) (drop lower (v.rows q))) → Took b x x' (take (end - start) (drop start (shifted lower (length (t.rows y)) (numbers (w.rows p))))) → Copied (lists_format b t) (both x y) (both x' y') start (take (end - start) (drop start (lists_rows w v (both p q))))
range_copied b t {w} {v} {x} {x'} {y} {y'} {p} {q} {start} {end} {lower} {upper} nb s r l g h = record {
  took = lists_took b t (take (end - start) (drop start (lists_rows w v (both p q)))) nb s r.lists (rw r.items g.took) (rw (r.ended (length (t.rows y))) h);
  front = λ e z. lists_front b t (take (end - start) (drop start (lists_rows w v (both p q)))) nb s r.lists (rw r.items g.took) (rw (r.ended (length (t.rows y))) h) e (g.front (no_lists b t s e) (first_is (numbers (w.rows p)) start lower l z) ∙ sym r.items);
}

-- the values of the range were refused
pub range_refused_values : (b t : Format) {w v : Format} {x x' y y' p q : Content} {start end lower upper : ℕ} {error : GrowError} → IsSound (lists_format b t) (both x y) → RangeOf w v p q start end lower upper → Stayed b x x' → Refused t y y' (take (upper - lower) (drop lower (v.rows q))) error → Refused (lists_format b t) (both x y) (both x' y') (take (end - start) (drop start (lists_rows w v (both p q)))) error
range_refused_values b t {w} {v} {p = p} {q = q} {start = start} {end = end} s r g h = lists_refused_values b t (take (end - start) (drop start (lists_rows w v (both p q)))) s g (rw r.items h)

-- a bound of the range was refused, and the values were removed
pub range_refused_bounds : (b t : Format) {w v : Format} {x x' y y' p q : Content} {start end lower upper : ℕ} {error : GrowError} → IsSound (lists_format b t) (both x y) → RangeOf w v p q start end lower upper → Refused b x x' (take (end - start) (drop start (shifted lower (length (t.rows y)) (numbers (w.rows p))))) error → Stayed t y y' → Refused (lists_format b t) (both x y) (both x' y') (take (end - start) (drop start (lists_rows w v (both p q)))) error
range_refused_bounds b t {w} {v} {x = x} {y = y} {p = p} {q = q} {start = start} {end = end} s r h st = lists_refused_bounds b t (take (end - start) (drop start (lists_rows w v (both p q)))) s (rw (r.ended (length (t.rows y))) h) st
