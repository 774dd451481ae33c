use Rattle.std.proofs.Common.{◌≡◌, ℕ, ◌+◌, ◌<◌, ◌≤◌, Bool, true, false, List, [], ◌∷◌, ◌++◌, length, drop, refl, sym, arith}
use Rattle.std.specs.Prelude.{Some, None, nat_le, Result, Ok, Err, OnOk}
use Rattle.std.proofs.lemmas.Bool.{le-leb, lt-leb}
use Rattle.columnar_base.specs.Faults.{verdict}
use Rattle.columnar_base.specs.declared.fault.StoreFault.{StoreFault}
use Rattle.columnar_base.specs.Format.{Format, Content, Fault, fault, moved, first, unless, IsSound, Fits, faults_at}

pub nothing_left : (xs ys : List Fault) → xs ++ ys ≡ [] → (xs ≡ []) × (ys ≡ [])
nothing_left [] ys h = (refl, h)
nothing_left (x ∷ xs) ys h = cc

pub nothing_both : (xs ys : List Fault) → xs ≡ [] → ys ≡ [] → xs ++ ys ≡ []
nothing_both xs ys p q = rw (p, q) refl

pub nothing_moved : (n : ℕ) (xs : List Fault) → moved n xs ≡ [] → xs ≡ []
nothing_moved n [] h = refl
nothing_moved n (x ∷ xs) h = cc

pub moved_nothing : (n : ℕ) (xs : List Fault) → xs ≡ [] → moved n xs ≡ []
moved_nothing n xs h = rw h refl

pub unless_true : (b : Bool) (x : Fault) → unless b x ≡ [] → b ≡ true
unless_true true x h = refl
unless_true false x h = cc

pub true_unless : (b : Bool) (x : Fault) → b ≡ true → unless b x ≡ []
true_unless b x h = rw h refl

pub moved_twice : (m n : ℕ) (xs : List Fault) → moved m (moved n xs) ≡ moved (m + n) xs
moved_twice m n [] = refl
moved_twice m n (fault r s ∷ xs) =
    let e : m + (n + s) ≡ (m + n) + s = omega arith in
    let k = moved_twice m n xs in
    rw (e, k) refl

-- the first fault of two lists
pub first_found : (xs ys : List Fault) (x : Fault) → first xs ≡ Some x → first (xs ++ ys) ≡ Some x
first_found [] ys x h = cc
first_found (z ∷ xs) ys x h = h

pub first_none : (xs : List Fault) → first xs ≡ None → xs ≡ []
first_none [] h = refl
first_none (x ∷ xs) h = cc

-- if the slices from `at` on have no fault, they fit
pub fits_from : (f : Format) (at : ℕ) (ss : List (List ℕ)) → at + f.count ≤ length ss → None ≡ first (moved at (f.broken (f.build (drop at ss)))) → Fits f at ss
fits_from f at ss l h = record { room = l; sound = record { accepted = nothing_moved at (f.broken (f.build (drop at ss))) (first_none (moved at (f.broken (f.build (drop at ss)))) (sym h)) } }

-- the whole test: enough slices, then their rules
pub faults_none_left : (f : Format) (at : ℕ) (ss : List (List ℕ)) → length ss < at + f.count → Some (fault 5 0) ≡ first (faults_at f at ss)
faults_none_left f at ss l =
    let e : nat_le (at + f.count) (length ss) ≡ false = lt-leb (at + f.count) (length ss) l in
    rw e refl

pub faults_in_room : (f : Format) (at : ℕ) (ss : List (List ℕ)) → at + f.count ≤ length ss → faults_at f at ss ≡ moved at (f.broken (f.build (drop at ss)))
faults_in_room f at ss l =
    let e : nat_le (at + f.count) (length ss) ≡ true = le-leb (at + f.count) (length ss) l in
    rw e refl

-- a content in which a test found no fault is sound
pub sound_from : (f : Format) (c : Content) (o : ℕ) → None ≡ first (moved o (f.broken c)) → IsSound f c
sound_from f c o h = record { accepted = nothing_moved o (f.broken c) (first_none (moved o (f.broken c)) (sym h)) }

-- what holds in any case holds on Ok
pub on_ok : {A E P : Type 0} (r : Result A E) → P → OnOk r P
on_ok (Ok x) p = p
on_ok (Err e) p = tt

-- the slices that a test accepts fit
pub fits_on_ok : {A : Type 0} (f : Format) (at : ℕ) (ss : List (List ℕ)) (r : Result A StoreFault) → at + f.count ≤ length ss → verdict r ≡ first (moved at (f.broken (f.build (drop at ss)))) → OnOk r (Fits f at ss)
fits_on_ok f at ss (Ok x) l h = fits_from f at ss l h
fits_on_ok f at ss (Err e) l h = tt

-- a content that a test accepts is sound
pub sound_on_ok : {A : Type 0} (f : Format) (c : Content) (o : ℕ) (r : Result A StoreFault) → verdict r ≡ first (moved o (f.broken c)) → OnOk r (IsSound f c)
sound_on_ok f c o (Ok x) h = sound_from f c o h
sound_on_ok f c o (Err e) h = tt
