use Rattle.std.proofs.Common.{◌≡◌, ℕ, zero, suc, ◌+◌, ◌<◌, ◌≤◌, Bool, true, false, ◌&&◌, List, [], ◌∷◌, ◌++◌, length, take, drop, refl, sym, ◌∙◌, ap, arith, pred, length-append, length-take, length-drop}
use Rattle.std.specs.Prelude.{slice_get, Some, ◌||◌}
use Rattle.std.proofs.lemmas.List.{map-append, drop-drop}
use Rattle.std.proofs.lemmas.Bool.{and_parts, and_from, or_left, or_right, eqb-true, eq-eqb}
use Rattle.columnar_base.specs.Row.{Row, tuple, first_of, second_of, bare_tuple, row_eq}
use Rattle.columnar_base.specs.RowLaws.{row_eq-is, same_tuple}
use Rattle.columnar_base.specs.AlikeLaws.{alike_length, same_pulled, same_both, row_eq_same}
use Rattle.columnar_base.specs.Format.{Format, Content, slice, both, part, plain, IsSound, IsLawful, IsStorable, IsSame, IsExact, Fits, lengths, all_alike, Excess, refuses_more}
use Rattle.columnar_base.specs.Change.{Keeps, Grew, Stayed, WasCut, Took, Copied, Refused}
use Rattle.columnar_base.specs.ChangeLaws.{true_from}
use Rattle.columnar_base.specs.TwoParts.{TwoParts}
use Rattle.columnar_base.specs.TwoPartsLaws.{two_parts, two_sound, two_storable}
use Rattle.columnar_base.specs.declared.fault.GrowError.{GrowError}
use Rattle.columnar_base.specs.Tuples.{tuples, firsts, seconds, pair_level, pair_alike, pair_refuses, pair_format}

-- lists of tuples

pub tuples-append : (xs ys us vs : List Row) → length xs ≡ length ys → tuples (xs ++ us) (ys ++ vs) ≡ tuples xs ys ++ tuples us vs
tuples-append [] [] us vs e = refl
tuples-append [] (y ∷ ys) us vs e = absurd (omega arith)
tuples-append (x ∷ xs) [] us vs e = absurd (omega arith)
tuples-append (x ∷ xs) (y ∷ ys) us vs e = ap (λ t. tuple x y ∷ t) (tuples-append xs ys us vs (ap pred e))

pub length-tuples : (xs ys : List Row) → length xs ≡ length ys → length (tuples xs ys) ≡ length xs
length-tuples [] ys e = refl
length-tuples (x ∷ xs) [] e = absurd (omega arith)
length-tuples (x ∷ xs) (y ∷ ys) e = ap suc (length-tuples xs ys (ap pred e))

pub tuples-take : (n : ℕ) (xs ys : List Row) → take n (tuples xs ys) ≡ tuples (take n xs) (take n ys)
tuples-take zero xs ys = refl
tuples-take (suc n) [] ys = refl
tuples-take (suc n) (x ∷ xs) [] = refl
tuples-take (suc n) (x ∷ xs) (y ∷ ys) = ap (λ t. tuple x y ∷ t) (tuples-take n xs ys)

pub tuples-nil : (xs : List Row) → tuples xs [] ≡ []
tuples-nil [] = refl
tuples-nil (x ∷ xs) = refl

pub tuples-drop : (n : ℕ) (xs ys : List Row) → drop n (tuples xs ys) ≡ tuples (drop n xs) (drop n ys)
tuples-drop zero xs ys = refl
tuples-drop (suc n) [] ys = refl
tuples-drop (suc n) (x ∷ xs) [] = sym (tuples-nil (drop n xs))
tuples-drop (suc n) (x ∷ xs) (y ∷ ys) = tuples-drop n xs ys

pub slice_get-tuples : (i : ℕ) (xs ys : List Row) (r s : Row) → slice_get xs i ≡ Some r → slice_get ys i ≡ Some s → slice_get (tuples xs ys) i ≡ Some (tuple r s)
slice_get-tuples i [] ys r s p q = cc
slice_get-tuples i (x ∷ xs) [] r s p q = cc
slice_get-tuples zero (x ∷ xs) (y ∷ ys) r s p q = cc
slice_get-tuples (suc i) (x ∷ xs) (y ∷ ys) r s p q = slice_get-tuples i xs ys r s p q

-- the parts of tuples are the rows that they were made of
pub firsts-tuples : (xs ys : List Row) → length xs ≡ length ys → firsts (tuples xs ys) ≡ xs
firsts-tuples [] ys e = refl
firsts-tuples (x ∷ xs) [] e = absurd (omega arith)
firsts-tuples (x ∷ xs) (y ∷ ys) e = ap (λ t. x ∷ t) (firsts-tuples xs ys (ap pred e))

pub seconds-tuples : (xs ys : List Row) → length xs ≡ length ys → seconds (tuples xs ys) ≡ ys
seconds-tuples [] [] e = refl
seconds-tuples [] (y ∷ ys) e = absurd (omega arith)
seconds-tuples (x ∷ xs) [] e = absurd (omega arith)
seconds-tuples (x ∷ xs) (y ∷ ys) e = ap (λ t. y ∷ t) (seconds-tuples xs ys (ap pred e))

-- no tuples: no rows in either part
tuples_none : (xs ys : List Row) → length xs ≡ length ys → tuples xs ys ≡ [] → (xs ≡ []) × (ys ≡ [])
tuples_none [] [] e h = (refl, refl)
tuples_none [] (y ∷ ys) e h = absurd (omega arith)
tuples_none (x ∷ xs) [] e h = absurd (omega arith)
tuples_none (x ∷ xs) (y ∷ ys) e h = cc

-- a range of each of two lists of equal length
pub length-piece : (xs ys : List Row) (start n : ℕ) → length xs ≡ length ys → length (take n (drop start xs)) ≡ length (take n (drop start ys))
length-piece xs ys start n e = rw (length-take, length-drop) (rw (length-take n (drop start ys), length-drop start ys, e) refl)

-- part by part

-- a disjunction follows from a disjunction
pub or_both : (b c d e : Bool) → (b ≡ true → d ≡ true) → (c ≡ true → e ≡ true) → (b || c) ≡ true → (d || e) ≡ true
or_both true c d e p q h = or_left d e (p refl)
or_both false c d e p q h = or_right d e (q h)

pub pair_same : (a b : Row → Row → Bool) → IsSame a → IsSame b → IsSame (pair_alike a b)
pair_same a b p q = same_both (λ r s. row_eq (bare_tuple r) (bare_tuple s)) (λ r s. a (first_of r) (first_of s) && b (second_of r) (second_of s)) (same_pulled row_eq bare_tuple row_eq_same) (same_both (λ r s. a (first_of r) (first_of s)) (λ r s. b (second_of r) (second_of s)) (same_pulled a first_of p) (same_pulled b second_of q))

-- rows that are alike in both parts are alike
pub tuples_alike : (a b : Row → Row → Bool) (rs us ss vs : List Row) → all_alike a rs us ≡ true → all_alike b ss vs ≡ true → length rs ≡ length ss → all_alike (pair_alike a b) (tuples rs ss) (tuples us vs) ≡ true
tuples_alike a b [] [] ss vs p q e = refl
tuples_alike a b [] (u ∷ us) ss vs p q e = cc
tuples_alike a b (r ∷ rs) [] ss vs p q e = cc
tuples_alike a b (r ∷ rs) (u ∷ us) [] vs p q e = absurd (omega arith)
tuples_alike a b (r ∷ rs) (u ∷ us) (s ∷ ss) [] p q e = cc
tuples_alike a b (r ∷ rs) (u ∷ us) (s ∷ ss) (v ∷ vs) p q e =
    let h = and_parts (a r u) (all_alike a rs us) p in
    let k = and_parts (b s v) (all_alike b ss vs) q in
    and_from _ _ (and_from _ _ h.0 k.0) (tuples_alike a b rs us ss vs h.1 k.1 (ap pred e))

-- the soundness of both parts, and their equal lengths
pub record SoundPair (a b : Format) (x y : Content) : Type 0 where
  pub left : IsSound a x
  pub right : IsSound b y
  pub level : length (a.rows x) ≡ length (b.rows y)

pub pair_two : (a b : Format) → TwoParts (pair_format a b) a b (pair_level a b) 10
pair_two a b = record { count = refl; sizes = refl; aligns = refl; build = λ ss. refl; broken = λ c. refl }

pub pair_parts : (a b : Format) {x y : Content} → IsSound (pair_format a b) (both x y) → SoundPair a b x y
pair_parts a b {x} {y} s = let p = two_parts (pair_two a b) x y s in record { left = p.left; right = p.right; level = eqb-true _ _ p.own }

pub pair_sound : (a b : Format) {x y : Content} → SoundPair a b x y → IsSound (pair_format a b) (both x y)
pair_sound a b {x} {y} s = two_sound (pair_two a b) x y (record { left = s.left; right = s.right; own = eq-eqb _ _ s.level })

-- a pair has as many rows as its first part
pub length-pair : (a b : Format) {x y : Content} → IsSound (pair_format a b) (both x y) → length (tuples (a.rows x) (b.rows y)) ≡ length (a.rows x)
length-pair a b {x} {y} s = length-tuples (a.rows x) (b.rows y) (pair_parts a b s).level

-- A pair refuses rows if and only if one of the parts refuses its fields.
pub pair_refuses_more : (a b : Format) {x y : Content} → IsSound (pair_format a b) (both x y) → (e : Excess) (rs : List Row) → refuses_more (pair_format a b) e (both x y) rs ≡ (refuses_more a e x (firsts rs) || refuses_more b e y (seconds rs))
pair_refuses_more a b {x} {y} s e rs =
    let p = pair_parts a b s in
    ap (λ n. a.refuses e x n (firsts rs) || b.refuses e y n (seconds rs)) (length-tuples (a.rows x) (b.rows y) p.level)
    ∙ ap (λ n. refuses_more a e x (firsts rs) || b.refuses e y n (seconds rs)) p.level

pair_full : (a b : Format) → IsLawful a → IsLawful b → (c : Content) → IsSound (pair_format a b) c → (pair_format a b).extent c (length ((pair_format a b).rows c)) ≡ lengths c
pair_full a b la lb (both x y) s =
    let p = pair_parts a b s in
    let n = length-tuples (a.rows x) (b.rows y) p.level in
    let e : a.extent x (length (tuples (a.rows x) (b.rows y))) ≡ lengths x = rw n (la.full x p.left) in
    let f : b.extent y (length (tuples (a.rows x) (b.rows y))) ≡ lengths y = rw (n, p.level) (lb.full y p.right) in
    cc
pair_full a b la lb (slice bs) s = cc
pair_full a b la lb (part l u x) s = cc
pair_full a b la lb (plain rs) s = cc

pair_more : (a b : Format) → IsLawful a → IsLawful b → (e : Excess) (c : Content) (n : ℕ) (rs ss : List Row) → pair_refuses a b e c n rs ≡ true → pair_refuses a b e c n (rs ++ ss) ≡ true
pair_more a b la lb e (both x y) n rs ss h =
    rw (map-append first_of rs ss, map-append second_of rs ss) (or_both (a.refuses e x n (firsts rs)) (b.refuses e y n (seconds rs)) (a.refuses e x n (firsts rs ++ firsts ss)) (b.refuses e y n (seconds rs ++ seconds ss)) (la.more e x n (firsts rs) (firsts ss)) (lb.more e y n (seconds rs) (seconds ss)) h)
pair_more a b la lb e (slice bs) n rs ss h = h
pair_more a b la lb e (part l u x) n rs ss h = h
pair_more a b la lb e (plain ts) n rs ss h = h

-- what is alike in both parts is kin in both
pair_related : (a b a' b' : Row → Row → Bool) → ((r s : Row) → a r s ≡ true → a' r s ≡ true) → ((r s : Row) → b r s ≡ true → b' r s ≡ true) → (r s : Row) → pair_alike a b r s ≡ true → pair_alike a' b' r s ≡ true
pair_related a b a' b' p q r s h =
    let u = and_parts (row_eq (bare_tuple r) (bare_tuple s)) (a (first_of r) (first_of s) && b (second_of r) (second_of s)) h in
    let v = and_parts (a (first_of r) (first_of s)) (b (second_of r) (second_of s)) u.1 in
    and_from _ _ u.0 (and_from _ _ (p (first_of r) (first_of s) v.0) (q (second_of r) (second_of s) v.1))

pub pair_lawful : (a b : Format) → IsLawful a → IsLawful b → IsLawful (pair_format a b)
pair_lawful a b la lb = record {
  full = pair_full a b la lb;
  same = pair_same a.alike b.alike la.same lb.same;
  kindred = pair_same a.kin b.kin la.kindred lb.kindred;
  related = pair_related a.alike b.alike a.kin b.kin la.related lb.related;
  more = pair_more a b la lb;
}

pub pair_storable : (a b : Format) → IsStorable a → IsStorable b → IsStorable (pair_format a b)
pair_storable a b p q = two_storable (pair_two a b) (omega arith) p q

-- changes

-- what both parts keep, the pair keeps
pub pair_keeps : (a b : Format) {x x' y y' : Content} (n : ℕ) {m k : ℕ} → n ≤ m → n ≤ k → Keeps a x x' m → Keeps b y y' k → Keeps (pair_format a b) (both x y) (both x' y') n
pair_keeps a b n p q g h = record {
  extents = λ i l. let u = g.extents i (omega arith) in let v = h.extents i (omega arith) in cc;
  limits = λ i l e rs. let u = g.limits i (omega arith) e (firsts rs) in let v = h.limits i (omega arith) e (seconds rs) in rw (u, v) refl;
}

pair_kept : (a b : Format) {x x' y y' : Content} → IsSound (pair_format a b) (both x y) → Keeps a x x' (length (a.rows x)) → Keeps b y y' (length (b.rows y)) → Keeps (pair_format a b) (both x y) (both x' y') (length (tuples (a.rows x) (b.rows y)))
pair_kept a b {x} {x'} {y} {y'} s g h =
    let p = pair_parts a b s in
    let n = length-tuples (a.rows x) (b.rows y) p.level in
    pair_keeps a b (length (tuples (a.rows x) (b.rows y))) (omega (arith, n)) (omega (arith, n, p.level)) g h

-- both parts grew by equally many rows
pub pair_grew : (a b : Format) {x x' y y' : Content} {rs ss : List Row} → IsSound (pair_format a b) (both x y) → length rs ≡ length ss → Grew a x x' rs → Grew b y y' ss → Grew (pair_format a b) (both x y) (both x' y') (tuples rs ss)
pair_grew a b {x} {x'} {y} {y'} {rs} {ss} s e g h =
    let p = pair_parts a b s in
    record {
      sound = pair_sound a b (record { left = g.sound; right = h.sound; level = rw (g.rows, h.rows, length-append, length-append) (omega (arith, p.level)) });
      rows = rw (g.rows, h.rows) (tuples-append (a.rows x) (b.rows y) rs ss p.level);
      kept = pair_kept a b s g.kept h.kept;
    }

-- both parts stayed
pub pair_stayed : (a b : Format) {x x' y y' : Content} → IsSound (pair_format a b) (both x y) → Stayed a x x' → Stayed b y y' → Stayed (pair_format a b) (both x y) (both x' y')
pair_stayed a b {x} {x'} {y} {y'} s g h =
    let p = pair_parts a b s in
    record {
      sound = pair_sound a b (record { left = g.sound; right = h.sound; level = rw (g.rows, h.rows) p.level });
      rows = rw (g.rows, h.rows) refl;
      lengths_same = let u = g.lengths_same in let v = h.lengths_same in cc;
      kept = pair_kept a b s g.kept h.kept;
    }

-- both parts were cut at n rows
pub pair_cut : (a b : Format) {x x' y y' : Content} {n : ℕ} → IsSound (pair_format a b) (both x y) → WasCut a x x' n → WasCut b y y' n → WasCut (pair_format a b) (both x y) (both x' y') n
pair_cut a b {x} {x'} {y} {y'} {n} s g h =
    let p = pair_parts a b s in
    record {
      sound = pair_sound a b (record { left = g.sound; right = h.sound; level = rw (g.rows, h.rows, length-take, length-take, p.level) refl });
      rows = rw (g.rows, h.rows) (sym (tuples-take n (a.rows x) (b.rows y)));
      lengths_cut = let u = g.lengths_cut in let v = h.lengths_cut in cc;
      kept = pair_keeps a b n (omega arith) (omega arith) g.kept h.kept;
    }

-- two parts without rows
pub pair_none : (a b : Format) {x y : Content} → IsSound a x → IsSound b y → a.rows x ≡ [] → b.rows y ≡ [] → IsSound (pair_format a b) (both x y)
pair_none a b {x} {y} s t e f = pair_sound a b (record { left = s; right = t; level = rw (e, f) refl })

-- what the new pair refuses, the old one refused after the added rows
pair_adds : (a b : Format) {x x' y y' : Content} (us vs : List Row) → IsSound (pair_format a b) (both x y) → IsSound (pair_format a b) (both x' y') → length us ≡ length vs → ((e : Excess) (rs : List Row) → refuses_more a e x' rs ≡ true → refuses_more a e x (us ++ rs) ≡ true) → ((e : Excess) (rs : List Row) → refuses_more b e y' rs ≡ true → refuses_more b e y (vs ++ rs) ≡ true) → (e : Excess) (rs : List Row) → refuses_more (pair_format a b) e (both x' y') rs ≡ true → refuses_more (pair_format a b) e (both x y) (tuples us vs ++ rs) ≡ true
pair_adds a b {x} {x'} {y} {y'} us vs s s' l g h e rs k =
    let u : firsts (tuples us vs ++ rs) ≡ us ++ firsts rs = map-append first_of (tuples us vs) rs ∙ ap (λ t. t ++ firsts rs) (firsts-tuples us vs l) in
    let v : seconds (tuples us vs ++ rs) ≡ vs ++ seconds rs = map-append second_of (tuples us vs) rs ∙ ap (λ t. t ++ seconds rs) (seconds-tuples us vs l) in
    let m = or_both (refuses_more a e x' (firsts rs)) (refuses_more b e y' (seconds rs)) (refuses_more a e x (us ++ firsts rs)) (refuses_more b e y (vs ++ seconds rs)) (g e (firsts rs)) (h e (seconds rs)) (sym (pair_refuses_more a b s' e rs) ∙ k) in
    pair_refuses_more a b s e (tuples us vs ++ rs) ∙ (rw (u, v) m)

pub pair_took : (a b : Format) {x x' y y' : Content} {us vs : List Row} → IsSound (pair_format a b) (both x y) → length us ≡ length vs → Took a x x' us → Took b y y' vs → Took (pair_format a b) (both x y) (both x' y') (tuples us vs)
pair_took a b {x} {x'} {y} {y'} {us} {vs} s e g h =
    let l : length g.fresh ≡ length h.fresh = alike_length a.alike g.fresh us g.alike ∙ (e ∙ sym (alike_length b.alike h.fresh vs h.alike)) in
    let k = pair_grew a b s l g.grew h.grew in
    record { fresh = tuples g.fresh h.fresh; grew = k; alike = tuples_alike a.alike b.alike g.fresh us h.fresh vs g.alike h.alike l; adds = pair_adds a b us vs s k.sound e g.adds h.adds }

pub pair_copied : (a b : Format) {x x' y y' : Content} {us vs : List Row} (start : ℕ) → IsSound (pair_format a b) (both x y) → length us ≡ length vs → Copied a x x' start us → Copied b y y' start vs → Copied (pair_format a b) (both x y) (both x' y') start (tuples us vs)
pair_copied a b {x} {x'} {y} {y'} {us} {vs} start s e g h = record {
  took = pair_took a b s e g.took h.took;
  front = λ n z.
      let q = tuples_none (a.rows x) (b.rows y) (pair_parts a b s).level n in
      let u = g.front q.0 z in
      let v = h.front q.1 z in
      rw (u, v) refl;
}

-- the pair refuses rows that one of the parts refuses
pub pair_refuses_left : (a b : Format) {x y : Content} (us vs : List Row) → IsSound (pair_format a b) (both x y) → length us ≡ length vs → (e : Excess) → refuses_more a e x us ≡ true → refuses_more (pair_format a b) e (both x y) (tuples us vs) ≡ true
pair_refuses_left a b {x} {y} us vs s l e h = pair_refuses_more a b s e (tuples us vs) ∙ or_left (refuses_more a e x (firsts (tuples us vs))) (refuses_more b e y (seconds (tuples us vs))) (rw (firsts-tuples us vs l) h)

pub pair_refuses_right : (a b : Format) {x y : Content} (us vs : List Row) → IsSound (pair_format a b) (both x y) → length us ≡ length vs → (e : Excess) → refuses_more b e y vs ≡ true → refuses_more (pair_format a b) e (both x y) (tuples us vs) ≡ true
pair_refuses_right a b {x} {y} us vs s l e h = pair_refuses_more a b s e (tuples us vs) ∙ or_right (refuses_more a e x (firsts (tuples us vs))) (refuses_more b e y (seconds (tuples us vs))) (rw (seconds-tuples us vs l) h)

-- the first part refused, and the second is unchanged; or the second refused, and the first was cut back
pub pair_refused_left : (a b : Format) {x x' y y' : Content} (us vs : List Row) {error : GrowError} → IsSound (pair_format a b) (both x y) → length us ≡ length vs → Refused a x x' us error → Stayed b y y' → Refused (pair_format a b) (both x y) (both x' y') (tuples us vs) error
pair_refused_left a b {x} {x'} {y} {y'} us vs {error} s e g h = record {
  stayed = pair_stayed a b s g.stayed h;
  cause = true_from a (pair_format a b) x (both x y) us (tuples us vs) error (pair_refuses_left a b us vs s e) g.cause;
}

pub pair_refused_right : (a b : Format) {x x' y y' : Content} (us vs : List Row) {error : GrowError} → IsSound (pair_format a b) (both x y) → length us ≡ length vs → Stayed a x x' → Refused b y y' vs error → Refused (pair_format a b) (both x y) (both x' y') (tuples us vs) error
pair_refused_right a b {x} {x'} {y} {y'} us vs {error} s e g h = record {
  stayed = pair_stayed a b s g h.stayed;
  cause = true_from b (pair_format a b) y (both x y) vs (tuples us vs) error (pair_refuses_right a b us vs s e) h.cause;
}

-- the same for a range of rows of another pair

pub pair_copied_piece : (a b : Format) {x x' y y' : Content} (a' b' : Format) (v w : Content) (start n : ℕ) → IsSound (pair_format a b) (both x y) → IsSound (pair_format a' b') (both v w) → Copied a x x' start (take n (drop start (a'.rows v))) → Copied b y y' start (take n (drop start (b'.rows w))) → Copied (pair_format a b) (both x y) (both x' y') start (take n (drop start (tuples (a'.rows v) (b'.rows w))))
pair_copied_piece a b a' b' v w start n s t g h =
    rw (tuples-drop, tuples-take) (pair_copied a b start s (length-piece (a'.rows v) (b'.rows w) start n (pair_parts a' b' t).level) g h)

pub pair_refused_left_piece : (a b : Format) {x x' y y' : Content} (a' b' : Format) (v w : Content) (start n : ℕ) {error : GrowError} → IsSound (pair_format a b) (both x y) → IsSound (pair_format a' b') (both v w) → Refused a x x' (take n (drop start (a'.rows v))) error → Stayed b y y' → Refused (pair_format a b) (both x y) (both x' y') (take n (drop start (tuples (a'.rows v) (b'.rows w)))) error
pair_refused_left_piece a b a' b' v w start n s t g h =
    rw (tuples-drop, tuples-take) (pair_refused_left a b (take n (drop start (a'.rows v))) (take n (drop start (b'.rows w))) s (length-piece (a'.rows v) (b'.rows w) start n (pair_parts a' b' t).level) g h)

pub pair_refused_right_piece : (a b : Format) {x x' y y' : Content} (a' b' : Format) (v w : Content) (start n : ℕ) {error : GrowError} → IsSound (pair_format a b) (both x y) → IsSound (pair_format a' b') (both v w) → Stayed a x x' → Refused b y y' (take n (drop start (b'.rows w))) error → Refused (pair_format a b) (both x y) (both x' y') (take n (drop start (tuples (a'.rows v) (b'.rows w)))) error
pair_refused_right_piece a b a' b' v w start n s t g h =
    rw (tuples-drop, tuples-take) (pair_refused_right a b (take n (drop start (a'.rows v))) (take n (drop start (b'.rows w))) s (length-piece (a'.rows v) (b'.rows w) start n (pair_parts a' b' t).level) g h)

-- reads

-- row i of a pair exists in both parts
pub pair_within : (a b : Format) {x y : Content} (i : ℕ) → IsSound (pair_format a b) (both x y) → i < length (tuples (a.rows x) (b.rows y)) → (i < length (a.rows x)) × (i < length (b.rows y))
pair_within a b {x} {y} i s l =
    let n = length-pair a b s in
    (omega arith, omega (arith, (pair_parts a b s).level))

-- its first i rows exist in both parts
pub pair_top : (a b : Format) {x y : Content} (i : ℕ) → IsSound (pair_format a b) (both x y) → i ≤ length (tuples (a.rows x) (b.rows y)) → (i ≤ length (a.rows x)) × (i ≤ length (b.rows y))
pair_top a b {x} {y} i s l =
    let n = length-pair a b s in
    (omega arith, omega (arith, (pair_parts a b s).level))

-- equal formats of parts make equal formats
pub same_pair : {a a' b b' : Format} → a ≡ a' → b ≡ b' → pair_format a b ≡ pair_format a' b'
same_pair {a} {a'} {b} {b'} p q = rw (p, q) refl

-- equality, if both parts have equality
pub pair_exact : (a b : Row → Row → Bool) → IsExact a → IsExact b → IsExact (pair_alike a b)
pair_exact a b p q = record {
  exact = λ r s h.
      let u = and_parts (row_eq (bare_tuple r) (bare_tuple s)) (a (first_of r) (first_of s) && b (second_of r) (second_of s)) h in
      let v = and_parts (a (first_of r) (first_of s)) (b (second_of r) (second_of s)) u.1 in
      same_tuple r s (row_eq-is (bare_tuple r) (bare_tuple s) u.0) (p.exact (first_of r) (first_of s) v.0) (q.exact (second_of r) (second_of s) v.1);
}

-- bytes

-- both parts fit if the pair does
pub pair_fits : (a b : Format) (o : ℕ) (ss : List (List ℕ)) → Fits (pair_format a b) o ss → Fits a o ss × Fits b (o + a.count) ss
pair_fits a b o ss h =
    let l : o + (a.count + b.count) ≤ length ss = h.room in
    let q = pair_parts a b h.sound in
    let d : drop a.count (drop o ss) ≡ drop (o + a.count) ss = drop-drop a.count o ss in
    (record { room = omega arith; sound = q.left }, record { room = omega arith; sound = rw d at q.right })

-- as many rows as the first part has there
pub fits_level : (a b : Format) (o : ℕ) (ss : List (List ℕ)) → Fits (pair_format a b) o ss → length (tuples (a.rows (a.build (drop o ss))) (b.rows (b.build (drop a.count (drop o ss))))) ≡ length (a.rows (a.build (drop o ss)))
fits_level a b o ss h = length-pair a b h.sound
