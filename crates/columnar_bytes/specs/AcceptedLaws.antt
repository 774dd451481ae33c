use Rattle.std.proofs.Common.{◌≡◌, ℕ, ◌+◌, List, [], ◌∷◌, length, refl, sym, ◌∙◌, ap, arith}
use Rattle.std.specs.Prelude.{Some, None, Result, Ok, Err, IsOk, OnOk, ◌↔◌}
use Rattle.columnar_core.specs.Format.{Format, IsSound, Fits, Fault, fault, first, moved, faults_at}
use Rattle.columnar_core.specs.Faults.{fault_of, verdict}
use Rattle.columnar_core.specs.declared.fault.StoreFault.{StoreFault}
use Rattle.columnar_core.specs.FaultLaws.{faults_in_room, first_none}
use Rattle.columnar_core.specs.Frame.{IsLegal, IsStore, framed_slices}
use Rattle.columnar_core.specs.FrameLaws.{are_framed_slices}
use Rattle.columnar_bytes.specs.Accepted.{Accepts, Accepted}

pub accepts_from : (f : Format) (bytes : List ℕ) → Accepted f bytes → Accepts f bytes
accepts_from f bytes a = record { whole = a.store.whole; slices = framed_slices bytes; framed = a.store.framed; count = a.count; sound = a.sound }

pub accepted_from : (f : Format) (bytes : List ℕ) → Accepts f bytes → Accepted f bytes
accepted_from f bytes a =
    let e : a.slices ≡ framed_slices bytes = are_framed_slices bytes a.slices a.framed in
    record {
      store = record { whole = a.whole; framed = rw e at a.framed };
      count = rw (← e) a.count;
      sound = rw e at a.sound;
    }

pub legal_from : (f : Format) (bytes : List ℕ) → Accepts f bytes → IsLegal bytes f.count
legal_from f bytes a = record { whole = a.whole; framed = (a.slices, (a.framed, a.count)) }

-- the accepted slices fit, from the first on
pub fits_all : (f : Format) (bytes : List ℕ) → Accepted f bytes → Fits f 0 (framed_slices bytes)
fits_all f bytes a = record { room = omega (arith, a.count); sound = a.sound }

moved_none : (xs : List Fault) → moved 0 xs ≡ xs
moved_none [] = refl
moved_none (fault r s ∷ xs) = let e : 0 + s ≡ s = omega arith in rw (e, moved_none xs) refl

-- the faults of all slices
pub faults_all : (f : Format) (ss : List (List ℕ)) → length ss ≡ f.count → faults_at f 0 ss ≡ f.broken (f.build ss)
faults_all f ss e = faults_in_room f 0 ss (omega (arith, e)) ∙ moved_none (f.broken (f.build ss))

pub fault_found : (f : Format) (ss : List (List ℕ)) (x : Fault) → length ss ≡ f.count → Some x ≡ first (faults_at f 0 ss) → Some x ≡ first (f.broken (f.build ss))
fault_found f ss x e h = h ∙ ap first (faults_all f ss e)

pub sound_found : (f : Format) (ss : List (List ℕ)) → length ss ≡ f.count → None ≡ first (faults_at f 0 ss) → IsSound f (f.build ss)
sound_found f ss e h = record { accepted = first_none (f.broken (f.build ss)) (sym (h ∙ ap first (faults_all f ss e))) }

-- bytes with a fault are not accepted
pub refused_by : (f : Format) (bytes : List ℕ) (x : Fault) → Some x ≡ first (f.broken (f.build (framed_slices bytes))) → Accepts f bytes → ⊥
refused_by f bytes x h a =
    let s = (accepted_from f bytes a).sound.accepted in
    let k : Some x ≡ None = h ∙ ap first s in
    cc

-- the result of validating the slices of a store is that of its bytes
pub judged_accepted : (f : Format) (bytes : List ℕ) (r : Result (Unit {0}) StoreFault) → IsStore bytes → length (framed_slices bytes) ≡ f.count → verdict r ≡ first (faults_at f 0 (framed_slices bytes)) → OnOk r (Accepted f bytes)
judged_accepted f bytes (Ok u) s n h = record { store = s; count = n; sound = sound_found f (framed_slices bytes) n h }
judged_accepted f bytes (Err x) s n h = tt

pub judged_exact : (f : Format) (bytes : List ℕ) (r : Result (Unit {0}) StoreFault) → IsStore bytes → length (framed_slices bytes) ≡ f.count → verdict r ≡ first (faults_at f 0 (framed_slices bytes)) → IsOk r ↔ Accepts f bytes
judged_exact f bytes (Ok u) s n h = (λ _. accepts_from f bytes (judged_accepted f bytes (Ok u) s n h), λ _. refl)
judged_exact f bytes (Err x) s n h = (λ e. cc, λ a. absurd (refused_by f bytes (fault_of x) (fault_found f (framed_slices bytes) (fault_of x) n h) a))
