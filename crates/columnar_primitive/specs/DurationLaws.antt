use Rattle.std.proofs.Common.{◌≡◌, ℕ, ◌+◌, ◌*◌, ◌<◌, ◌≤◌, Bool, true, false, ◌&&◌, List, [], ◌∷◌, length, take, drop, map, refl, ◌∙◌, ap, arith, pred}
use Rattle.std.specs.Prelude.{slice_get, Some, None, ◌||◌}
use Rattle.std.proofs.lemmas.List.{length-map, drop-drop}
use Rattle.std.proofs.lemmas.Bool.{and_from, eq-eqb}
use Rattle.columnar_base.specs.Row.{Row, tuple, duration, number_of, first_of, second_of}
use Rattle.columnar_base.specs.Format.{Format, Content, slice, both, part, plain, fault, first, moved, IsSound, IsLawful, IsStorable, Fits, Excess, bytes_held}
use Rattle.columnar_base.specs.Elements.{past_count}
use Rattle.columnar_base.specs.Change.{Stayed, WasCut, Took, Copied, Refused}
use Rattle.columnar_base.specs.Tuples.{tuples, firsts, seconds, pair_format, pair_refuses}
use Rattle.columnar_base.specs.TupleLaws.{SoundPair, pair_parts, length-pair, pair_exact, pair_lawful, pair_storable, pair_two, pair_took, pair_copied_piece, pair_refused_left, pair_refused_right, pair_refused_left_piece, pair_refused_right_piece, pair_stayed, pair_cut, pair_within, pair_top, pair_none, pair_fits, fits_level, same_pair, slice_get-tuples}
use Rattle.columnar_base.specs.TwoParts.{both_broken}
use Rattle.columnar_base.specs.TwoPartsLaws.{judged_fine}
use Rattle.columnar_base.specs.declared.fault.GrowError.{GrowError}
use Rattle.columnar_primitive.specs.Mapped.{all_pass, IsFlat}
use Rattle.columnar_primitive.specs.MappedLaws.{mapped_parts, mapped_lawful, mapped_storable, mapped_took, mapped_copied, mapped_refused, mapped_stayed, mapped_cut, mapped_none, mapped_piece, mapped_get, mapped_fits, mapped_fine, mapped_own, same_mapped, pass_get, pass_take, pass_drop}
use Rattle.columnar_primitive.specs.Durations.{is_part_second, is_duration, as_duration, durations_format}

-- a pair of flat columns is flat

twice : (b : Bool) → (b || b) ≡ b
twice true = refl
twice false = refl

pair_limits : (a b : Format) → IsFlat a → IsFlat b → (e : Excess) (c : Content) → IsSound (pair_format a b) c → (n : ℕ) (rs : List Row) → pair_refuses a b e c n rs ≡ past_count e (n + length rs)
pair_limits a b p q e (both x y) s n rs =
    let h = pair_parts a b s in
    let u = p.limits e x h.left n (firsts rs) in
    let v = q.limits e y h.right n (seconds rs) in
    let l : length (firsts rs) ≡ length rs = length-map rs first_of in
    let m : length (seconds rs) ≡ length rs = length-map rs second_of in
    rw (u, v, l, m) (twice (past_count e (n + length rs)))
pair_limits a b p q e (slice bs) s n rs = cc
pair_limits a b p q e (part l u x) s n rs = cc
pair_limits a b p q e (plain ts) s n rs = cc

pair_short : (a b : Format) → IsFlat a → IsFlat b → (c : Content) → IsSound (pair_format a b) c → length ((pair_format a b).rows c) ≤ bytes_held c
pair_short a b p q (both x y) s =
    let h = pair_parts a b s in
    let l = length-pair a b s in
    let u = p.short x h.left in
    omega (arith, l, u)
pair_short a b p q (slice bs) s = cc
pair_short a b p q (part l u x) s = cc
pair_short a b p q (plain ts) s = cc

pub pair_flat : (a b : Format) → IsFlat a → IsFlat b → IsFlat (pair_format a b)
pair_flat a b p q = record {
  exact = pair_exact a.alike b.alike p.exact q.exact;
  limits = pair_limits a b p q;
  short = pair_short a b p q;
}

-- seconds and nanoseconds are durations if and only if the nanoseconds are below a second
pub pass_seconds : (rs ss : List Row) → length rs ≡ length ss → all_pass is_duration (tuples rs ss) ≡ all_pass is_part_second ss
pass_seconds [] [] e = refl
pass_seconds [] (s ∷ ss) e = absurd (omega arith)
pass_seconds (r ∷ rs) [] e = absurd (omega arith)
pass_seconds (r ∷ rs) (s ∷ ss) e = ap (λ t. is_part_second s && t) (pass_seconds rs ss (ap pred e))

-- soundness of the parts
pub durations_parts : (a b : Format) {x y : Content} → IsSound (durations_format a b) (both x y) → SoundPair a b x y
durations_parts a b s = pair_parts a b (mapped_parts (pair_format a b) as_duration is_duration s).values

-- as many rows as seconds
pub length-durations : (a b : Format) {x y : Content} → IsSound (durations_format a b) (both x y) → length (map as_duration (tuples (a.rows x) (b.rows y))) ≡ length (a.rows x)
length-durations a b {x} {y} s = length-map (tuples (a.rows x) (b.rows y)) as_duration ∙ length-pair a b (mapped_parts (pair_format a b) as_duration is_duration s).values

pub durations_within : (a b : Format) {x y : Content} (i : ℕ) → IsSound (durations_format a b) (both x y) → i < length (map as_duration (tuples (a.rows x) (b.rows y))) → (i < length (a.rows x)) × (i < length (b.rows y))
durations_within a b {x} {y} i s l = pair_within a b i (mapped_parts (pair_format a b) as_duration is_duration s).values (rw (length-map (tuples (a.rows x) (b.rows y)) as_duration) at l)

pub durations_top : (a b : Format) {x y : Content} (i : ℕ) → IsSound (durations_format a b) (both x y) → i ≤ length (map as_duration (tuples (a.rows x) (b.rows y))) → (i ≤ length (a.rows x)) × (i ≤ length (b.rows y))
durations_top a b {x} {y} i s l = pair_top a b i (mapped_parts (pair_format a b) as_duration is_duration s).values (rw (length-map (tuples (a.rows x) (b.rows y)) as_duration) at l)

-- row i, with its nanoseconds
pub durations_get : (i : ℕ) (rs ss : List Row) (r t : Row) → slice_get rs i ≡ Some r → slice_get ss i ≡ Some t → slice_get (map as_duration (tuples rs ss)) i ≡ Some (duration (number_of r) (number_of t))
durations_get i rs ss r t p q = mapped_get as_duration i (tuples rs ss) (tuple r t) (slice_get-tuples i rs ss r t p q)

pub durations_part : (a b : Format) {x y : Content} (i : ℕ) (r t : Row) → IsSound (durations_format a b) (both x y) → slice_get (a.rows x) i ≡ Some r → slice_get (b.rows y) i ≡ Some t → is_part_second t ≡ true
durations_part a b {x} {y} i r t s p q = pass_get is_duration i (tuples (a.rows x) (b.rows y)) (tuple r t) (mapped_parts (pair_format a b) as_duration is_duration s).pass (slice_get-tuples i (a.rows x) (b.rows y) r t p q)

pub durations_lawful : (a b : Format) → IsLawful a → IsLawful b → IsLawful (durations_format a b)
durations_lawful a b la lb = mapped_lawful (pair_format a b) as_duration is_duration (pair_lawful a b la lb)

pub durations_storable : (a b : Format) → IsStorable a → IsStorable b → IsStorable (durations_format a b)
durations_storable a b p q = mapped_storable (pair_format a b) as_duration is_duration (pair_storable a b p q)

pub same_durations : {a a' b b' : Format} → a ≡ a' → b ≡ b' → durations_format a b ≡ durations_format a' b'
same_durations p q = same_mapped as_duration is_duration (same_pair p q)

-- changes

pub durations_none : (a b : Format) {x y : Content} → IsSound a x → IsSound b y → a.rows x ≡ [] → b.rows y ≡ [] → IsSound (durations_format a b) (both x y)
durations_none a b {x} {y} s t e f = mapped_none (pair_format a b) as_duration is_duration (pair_none a b s t e f) (rw e refl)

pub durations_empty : (rs ss : List Row) → rs ≡ [] → map as_duration (tuples rs ss) ≡ []
durations_empty rs ss e = rw e refl

pub durations_took : (a b : Format) {x x' y y' : Content} (r t : Row) → IsFlat a → IsFlat b → IsSound (durations_format a b) (both x y) → is_part_second t ≡ true → Took a x x' (r ∷ []) → Took b y y' (t ∷ []) → Took (durations_format a b) (both x y) (both x' y') (duration (number_of r) (number_of t) ∷ [])
durations_took a b r t p q s l g h = mapped_took (pair_format a b) as_duration is_duration (pair_flat a b p q) s (and_from _ _ l refl) (pair_took a b (mapped_parts (pair_format a b) as_duration is_duration s).values refl g h)

pub durations_refused_left : (a b : Format) {x x' y y' : Content} (r t : Row) {error : GrowError} → IsFlat a → IsFlat b → IsSound (durations_format a b) (both x y) → Refused a x x' (r ∷ []) error → Stayed b y y' → Refused (durations_format a b) (both x y) (both x' y') (duration (number_of r) (number_of t) ∷ []) error
durations_refused_left a b r t p q s g h = mapped_refused (pair_format a b) as_duration is_duration (tuple r t ∷ []) (pair_flat a b p q) s (pair_refused_left a b (r ∷ []) (t ∷ []) (mapped_parts (pair_format a b) as_duration is_duration s).values refl g h)

pub durations_refused_right : (a b : Format) {x x' y y' : Content} (r t : Row) {error : GrowError} → IsFlat a → IsFlat b → IsSound (durations_format a b) (both x y) → Stayed a x x' → Refused b y y' (t ∷ []) error → Refused (durations_format a b) (both x y) (both x' y') (duration (number_of r) (number_of t) ∷ []) error
durations_refused_right a b r t p q s g h = mapped_refused (pair_format a b) as_duration is_duration (tuple r t ∷ []) (pair_flat a b p q) s (pair_refused_right a b (r ∷ []) (t ∷ []) (mapped_parts (pair_format a b) as_duration is_duration s).values refl g h)

pub durations_stayed : (a b : Format) {x x' y y' : Content} → IsSound (durations_format a b) (both x y) → Stayed a x x' → Stayed b y y' → Stayed (durations_format a b) (both x y) (both x' y')
durations_stayed a b s g h = mapped_stayed (pair_format a b) as_duration is_duration s (pair_stayed a b (mapped_parts (pair_format a b) as_duration is_duration s).values g h)

pub durations_cut : (a b : Format) {x x' y y' : Content} {n : ℕ} → IsSound (durations_format a b) (both x y) → WasCut a x x' n → WasCut b y y' n → WasCut (durations_format a b) (both x y) (both x' y') n
durations_cut a b s g h = mapped_cut (pair_format a b) as_duration is_duration s (pair_cut a b (mapped_parts (pair_format a b) as_duration is_duration s).values g h)

-- the same for a range of the rows of other columns

pub durations_copied : (a b : Format) {x x' y y' : Content} (a' b' : Format) (v w : Content) (start n : ℕ) → IsFlat a → IsFlat b → IsSound (durations_format a b) (both x y) → IsSound (durations_format a' b') (both v w) → Copied a x x' start (take n (drop start (a'.rows v))) → Copied b y y' start (take n (drop start (b'.rows w))) → Copied (durations_format a b) (both x y) (both x' y') start (take n (drop start (map as_duration (tuples (a'.rows v) (b'.rows w)))))
durations_copied a b {x} {x'} {y} {y'} a' b' v w start n p q s t g h =
    let rs = tuples (a'.rows v) (b'.rows w) in
    let z = mapped_parts (pair_format a' b') as_duration is_duration t in
    let c : Copied (pair_format a b) (both x y) (both x' y') start (take n (drop start rs)) = pair_copied_piece a b a' b' v w start n (mapped_parts (pair_format a b) as_duration is_duration s).values z.values g h in
    rw (mapped_piece as_duration start n rs) (mapped_copied (pair_format a b) as_duration is_duration {us = take n (drop start rs)} start (pair_flat a b p q) s (pass_take is_duration n (drop start rs) (pass_drop is_duration start rs z.pass)) c)

pub durations_refused_left_piece : (a b : Format) {x x' y y' : Content} (a' b' : Format) (v w : Content) (start n : ℕ) {error : GrowError} → IsFlat a → IsFlat b → IsSound (durations_format a b) (both x y) → IsSound (durations_format a' b') (both v w) → Refused a x x' (take n (drop start (a'.rows v))) error → Stayed b y y' → Refused (durations_format a b) (both x y) (both x' y') (take n (drop start (map as_duration (tuples (a'.rows v) (b'.rows w))))) error
durations_refused_left_piece a b a' b' v w start n p q s t g h =
    let rs = tuples (a'.rows v) (b'.rows w) in
    let z = mapped_parts (pair_format a' b') as_duration is_duration t in
    rw (mapped_piece as_duration start n rs) (mapped_refused (pair_format a b) as_duration is_duration (take n (drop start rs)) (pair_flat a b p q) s (pair_refused_left_piece a b a' b' v w start n (mapped_parts (pair_format a b) as_duration is_duration s).values z.values g h))

pub durations_refused_right_piece : (a b : Format) {x x' y y' : Content} (a' b' : Format) (v w : Content) (start n : ℕ) {error : GrowError} → IsFlat a → IsFlat b → IsSound (durations_format a b) (both x y) → IsSound (durations_format a' b') (both v w) → Stayed a x x' → Refused b y y' (take n (drop start (b'.rows w))) error → Refused (durations_format a b) (both x y) (both x' y') (take n (drop start (map as_duration (tuples (a'.rows v) (b'.rows w))))) error
durations_refused_right_piece a b a' b' v w start n p q s t g h =
    let rs = tuples (a'.rows v) (b'.rows w) in
    let z = mapped_parts (pair_format a' b') as_duration is_duration t in
    rw (mapped_piece as_duration start n rs) (mapped_refused (pair_format a b) as_duration is_duration (take n (drop start rs)) (pair_flat a b p q) s (pair_refused_right_piece a b a' b' v w start n (mapped_parts (pair_format a b) as_duration is_duration s).values z.values g h))

-- bytes

pub durations_fits : (a b : Format) (o : ℕ) (ss : List (List ℕ)) → Fits (durations_format a b) o ss → Fits a o ss × Fits b (o + a.count) ss
durations_fits a b o ss h = pair_fits a b o ss (mapped_fits (pair_format a b) as_duration is_duration o ss h)

pub durations_level : (a b : Format) (o : ℕ) (ss : List (List ℕ)) → Fits (durations_format a b) o ss → length (map as_duration (tuples (a.rows (a.build (drop o ss))) (b.rows (b.build (drop a.count (drop o ss)))))) ≡ length (a.rows (a.build (drop o ss)))
durations_level a b o ss h = length-map (tuples (a.rows (a.build (drop o ss))) (b.rows (b.build (drop a.count (drop o ss))))) as_duration ∙ fits_level a b o ss (mapped_fits (pair_format a b) as_duration is_duration o ss h)

-- the parts break no rule and have equal lengths

pub durations_fine : (a b : Format) (x y : Content) (o : ℕ) → None ≡ first (both_broken a b x y o) → length (a.rows x) ≡ length (b.rows y) → all_pass is_part_second (b.rows y) ≡ true → None ≡ first (moved o ((durations_format a b).broken (both x y)))
durations_fine a b x y o n l p = mapped_fine (pair_format a b) as_duration is_duration (both x y) o (judged_fine (pair_two a b) x y o n (eq-eqb _ _ l)) (pass_seconds (a.rows x) (b.rows y) l ∙ p)

pub durations_own : (a b : Format) (x y : Content) (o : ℕ) → None ≡ first (both_broken a b x y o) → length (a.rows x) ≡ length (b.rows y) → all_pass is_part_second (b.rows y) ≡ false → Some (fault 14 o) ≡ first (moved o ((durations_format a b).broken (both x y)))
durations_own a b x y o n l p = mapped_own (pair_format a b) as_duration is_duration (both x y) o (judged_fine (pair_two a b) x y o n (eq-eqb _ _ l)) (pass_seconds (a.rows x) (b.rows y) l ∙ p)

-- the same for the slices of a store

pub durations_fine_at : (a b : Format) (ss : List (List ℕ)) (o : ℕ) → None ≡ first (both_broken a b (a.build (drop o ss)) (b.build (drop (o + a.count) ss)) o) → length (a.rows (a.build (drop o ss))) ≡ length (b.rows (b.build (drop (o + a.count) ss))) → all_pass is_part_second (b.rows (b.build (drop (o + a.count) ss))) ≡ true → None ≡ first (moved o ((durations_format a b).broken ((durations_format a b).build (drop o ss))))
durations_fine_at a b ss o n l p =
    let d : drop a.count (drop o ss) ≡ drop (o + a.count) ss = drop-drop a.count o ss in
    rw d (durations_fine a b (a.build (drop o ss)) (b.build (drop (o + a.count) ss)) o n l p)

pub durations_own_at : (a b : Format) (ss : List (List ℕ)) (o : ℕ) → None ≡ first (both_broken a b (a.build (drop o ss)) (b.build (drop (o + a.count) ss)) o) → length (a.rows (a.build (drop o ss))) ≡ length (b.rows (b.build (drop (o + a.count) ss))) → all_pass is_part_second (b.rows (b.build (drop (o + a.count) ss))) ≡ false → Some (fault 14 o) ≡ first (moved o ((durations_format a b).broken ((durations_format a b).build (drop o ss))))
durations_own_at a b ss o n l p =
    let d : drop a.count (drop o ss) ≡ drop (o + a.count) ss = drop-drop a.count o ss in
    rw d (durations_own a b (a.build (drop o ss)) (b.build (drop (o + a.count) ss)) o n l p)

-- validation of the parts takes no steps, then one for each row of the second
pub durations_turns : (old next new s t m n rows : ℕ) → s ≡ 0 → t ≡ 0 → next ≤ old + (s * m + t * n) → new ≤ next + rows → rows ≤ n → new ≤ old + 1 * (m + n)
durations_turns old next new s t m n rows e f p q l =
    let u : next ≤ old + (0 * m + 0 * n) = rw (e, f) at p in
    omega arith

-- the same for the slices of a store
pub durations_turns_at : (a b : Format) (ss : List (List ℕ)) (o old next new : ℕ) → a.turns ≡ 0 → b.turns ≡ 0 → next ≤ old + (a.turns * bytes_held (a.build (drop o ss)) + b.turns * bytes_held (b.build (drop (o + a.count) ss))) → new ≤ next + length (b.rows (b.build (drop (o + a.count) ss))) → length (b.rows (b.build (drop (o + a.count) ss))) ≤ bytes_held (b.build (drop (o + a.count) ss)) → new ≤ old + 1 * bytes_held ((durations_format a b).build (drop o ss))
durations_turns_at a b ss o old next new e f p q l =
    let d : drop a.count (drop o ss) ≡ drop (o + a.count) ss = drop-drop a.count o ss in
    rw d (durations_turns old next new a.turns b.turns (bytes_held (a.build (drop o ss))) (bytes_held (b.build (drop (o + a.count) ss))) (length (b.rows (b.build (drop (o + a.count) ss)))) e f p q l)
