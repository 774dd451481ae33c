-- Validating a tuple: first its parts, as one format without a rule about lengths, then their lengths. f is the tuple
-- and g the parts, with the same two parts: the first and the rest.
use Rattle.std.proofs.Common.{◌≡◌, ℕ, ◌+◌, ◌*◌, ◌≤◌, Bool, true, false, List, [], ◌∷◌, ◌++◌, length, drop, refl, sym, ◌∙◌, ap, arith, append-nil}
use Rattle.std.specs.Prelude.{Option, Some, None, nat_eq}
use Rattle.std.proofs.lemmas.Bool.{eq-eqb}
use Rattle.std.proofs.Math.Nat.{mul-le-mul_right}
use Rattle.columnar_base.specs.Format.{Format, Content, both, Fault, fault, first, moved, bytes_held}
use Rattle.columnar_base.specs.TwoParts.{TwoParts, both_broken}
use Rattle.columnar_base.specs.TwoPartsLaws.{two_built, two_moved, both_right, judged_part, judged_own, judged_fine}
use Rattle.columnar_base.specs.LongTuples.{sides, are_level}
use Rattle.columnar_base.specs.LongTupleLaws.{sides_two}

-- parts of any lengths break only their own rules
pub parts_told : {g a b : Format} → TwoParts g a b (λ x y. true) 0 → (x y : Content) (o : ℕ) → first (moved o (g.broken (both x y))) ≡ first (both_broken a b x y o)
parts_told {g} {a} {b} u x y o = ap first (two_moved u x y o ∙ ap (λ t. moved o (a.broken x) ++ t) (append-nil (moved (o + a.count) (b.broken y))))

-- the rules of the others, after those of the first part
pub checked_others : {g a b : Format} → TwoParts g a b (λ x y. true) 0 → (x y : Content) (o n : ℕ) (v : Option Fault) → n ≡ a.count → None ≡ first (moved o (a.broken x)) → v ≡ first (moved (o + n) (b.broken y)) → v ≡ first (moved o (g.broken (both x y)))
checked_others {g} {a} {b} u x y o n v e h k =
    let l : v ≡ first (moved (o + a.count) (b.broken y)) = rw e at k in
    both_right a b x y o v h l ∙ sym (parts_told u x y o)

pub judged_others : {g a b : Format} → TwoParts g a b (λ x y. true) 0 → (ss : List (List ℕ)) (o n : ℕ) (v : Option Fault) → n ≡ a.count → None ≡ first (moved o (a.broken (a.build (drop o ss)))) → v ≡ first (moved (o + n) (b.broken (b.build (drop (o + n) ss)))) → v ≡ first (moved o (g.broken (g.build (drop o ss))))
judged_others {g} {a} {b} u ss o n v e h k =
    let l : v ≡ first (moved (o + a.count) (b.broken (b.build (drop (o + a.count) ss)))) = rw e at k in
    rw (two_built u ss o) (checked_others u (a.build (drop o ss)) (b.build (drop (o + a.count) ss)) o a.count v refl h l)

-- the steps of the others
pub turns_others : {g a b : Format} → TwoParts g a b (λ x y. true) 0 → a.turns ≤ 16 → (ss : List (List ℕ)) (o n old mid new : ℕ) → n ≡ a.count → mid ≤ old + a.turns * bytes_held (a.build (drop o ss)) → new ≤ mid + 16 * bytes_held (b.build (drop (o + n) ss)) → new ≤ old + 16 * bytes_held (g.build (drop o ss))
turns_others {g} {a} {b} u s ss o n old mid new e h k =
    let l : new ≤ mid + 16 * bytes_held (b.build (drop (o + a.count) ss)) = rw e at k in
    let m = mul-le-mul_right (bytes_held (a.build (drop o ss))) s in
    let w : new ≤ old + 16 * (bytes_held (a.build (drop o ss)) + bytes_held (b.build (drop (o + a.count) ss))) = omega (arith, l, m, h) in
    rw (two_built u ss o) w

-- all parts have equally many rows if the first has them and the others do
pub level_others : (a b : Format) (fs : List Format) (ss : List (List ℕ)) (o n rows : ℕ) (l : Bool) → n ≡ a.count → rows ≡ length (a.rows (a.build (drop o ss))) → l ≡ are_level b fs rows ((sides b fs).build (drop (o + n) ss)) → l ≡ are_level a (b ∷ fs) rows ((sides a (b ∷ fs)).build (drop o ss))
level_others a b fs ss o n rows l e h k =
    let y = (sides b fs).build (drop (o + a.count) ss) in
    let j : l ≡ are_level b fs rows y = rw e at k in
    let t : nat_eq rows (length (a.rows (a.build (drop o ss)))) ≡ true = eq-eqb rows (length (a.rows (a.build (drop o ss)))) h in
    let q : are_level a (b ∷ fs) rows (both (a.build (drop o ss)) y) ≡ are_level b fs rows y = rw t refl in
    (j ∙ sym q) ∙ ap (λ c. are_level a (b ∷ fs) rows c) (sym (two_built (sides_two a b fs) ss o))

-- if the parts of a tuple break a rule, it is the tuple's first broken rule
pub checked_parts : {f g a b : Format} {test : Content → Content → Bool} {rule : ℕ} → TwoParts f a b test rule → TwoParts g a b (λ x y. true) 0 → (x y : Content) (o : ℕ) (z : Fault) → Some z ≡ first (moved o (g.broken (both x y))) → Some z ≡ first (moved o (f.broken (both x y)))
checked_parts t u x y o z h = judged_part t x y o z (h ∙ parts_told u x y o)

-- if they break none, the test of both decides
pub checked_level : {f g a b : Format} {test : Content → Content → Bool} {rule : ℕ} → TwoParts f a b test rule → TwoParts g a b (λ x y. true) 0 → (x y : Content) (o : ℕ) → None ≡ first (moved o (g.broken (both x y))) → test x y ≡ true → None ≡ first (moved o (f.broken (both x y)))
checked_level t u x y o h k = judged_fine t x y o (h ∙ parts_told u x y o) k

pub checked_uneven : {f g a b : Format} {test : Content → Content → Bool} {rule : ℕ} → TwoParts f a b test rule → TwoParts g a b (λ x y. true) 0 → (x y : Content) (o : ℕ) → None ≡ first (moved o (g.broken (both x y))) → test x y ≡ false → Some (fault rule o) ≡ first (moved o (f.broken (both x y)))
checked_uneven t u x y o h k = judged_own t x y o (h ∙ parts_told u x y o) k

-- the same for the slices of a store
pub judged_parts : {f g a b : Format} {test : Content → Content → Bool} {rule : ℕ} → TwoParts f a b test rule → TwoParts g a b (λ x y. true) 0 → (ss : List (List ℕ)) (o : ℕ) (z : Fault) → Some z ≡ first (moved o (g.broken (g.build (drop o ss)))) → Some z ≡ first (moved o (f.broken (f.build (drop o ss))))
judged_parts {f} {g} {a} {b} t u ss o z h =
    let k : Some z ≡ first (moved o (g.broken (both (a.build (drop o ss)) (b.build (drop (o + a.count) ss))))) = rw (two_built u ss o) at h in
    rw (two_built t ss o) (checked_parts t u (a.build (drop o ss)) (b.build (drop (o + a.count) ss)) o z k)

pub judged_level : {f g a b : Format} {test : Content → Content → Bool} {rule : ℕ} → TwoParts f a b test rule → TwoParts g a b (λ x y. true) 0 → (ss : List (List ℕ)) (o : ℕ) → None ≡ first (moved o (g.broken (g.build (drop o ss)))) → test (a.build (drop o ss)) (b.build (drop (o + a.count) ss)) ≡ true → None ≡ first (moved o (f.broken (f.build (drop o ss))))
judged_level {f} {g} {a} {b} t u ss o h e =
    let k : None ≡ first (moved o (g.broken (both (a.build (drop o ss)) (b.build (drop (o + a.count) ss))))) = rw (two_built u ss o) at h in
    rw (two_built t ss o) (checked_level t u (a.build (drop o ss)) (b.build (drop (o + a.count) ss)) o k e)

pub judged_uneven : {f g a b : Format} {test : Content → Content → Bool} {rule : ℕ} → TwoParts f a b test rule → TwoParts g a b (λ x y. true) 0 → (ss : List (List ℕ)) (o : ℕ) → None ≡ first (moved o (g.broken (g.build (drop o ss)))) → test (a.build (drop o ss)) (b.build (drop (o + a.count) ss)) ≡ false → Some (fault rule o) ≡ first (moved o (f.broken (f.build (drop o ss))))
judged_uneven {f} {g} {a} {b} t u ss o h e =
    let k : None ≡ first (moved o (g.broken (both (a.build (drop o ss)) (b.build (drop (o + a.count) ss))))) = rw (two_built u ss o) at h in
    rw (two_built t ss o) (checked_uneven t u (a.build (drop o ss)) (b.build (drop (o + a.count) ss)) o k e)
