-- The verdict on a whole store, from the test of its slices.
use Rattle.std.proofs.Common.{◌≡◌, ℕ, ◌+◌, ◌*◌, ◌≤◌, List, length, drop, take, sym, ◌∙◌, ap, arith, inr}
use Rattle.std.specs.Prelude.{Option, Result, Ok, Err, IfErr}
use Rattle.columnar_base.specs.Format.{Format, Fault, first, moved, faults_at, bytes_held, bytes_of_all}
use Rattle.columnar_base.specs.FaultLaws.{faults_in_room}
use Rattle.columnar_base.specs.HeldLaws.{held_built, bytes_of_some}
use Rattle.columnar_core.specs.Faults.{fault_of, verdict}
use Rattle.columnar_core.specs.Frame.{IsLegal, framed_slices}
use Rattle.columnar_core.specs.declared.fault.StoreFault.{StoreFault}
use Rattle.columnar_bytes.specs.Accepted.{IsFirstFault}
use Rattle.columnar_bytes.specs.AcceptedLaws.{fault_found}
use Rattle.columnar_syntax.specs.declared.schema.Schema.{Schema}
use Rattle.columnar_schema.specs.Formats.{format_of}
use Rattle.columnar_schema.specs.FormatLaws.{storable_of}

-- the first fault of all slices
pub first_of_all : (f : Format) (ss : List (List ℕ)) (v : Option Fault) → length ss ≡ f.count → v ≡ first (moved 0 (f.broken (f.build (drop 0 ss)))) → v ≡ first (faults_at f 0 ss)
first_of_all f ss v n h = h ∙ ap first (sym (faults_in_room f 0 ss (omega (arith, n))))

-- the steps for all bytes
pub turns_of_all : (s : Schema) (ss : List (List ℕ)) (old mid new l : ℕ) → length ss ≡ (format_of s).count → mid ≤ old + l → new ≤ mid + 16 * bytes_held ((format_of s).build (drop 0 ss)) → new ≤ old + (l + 16 * bytes_of_all ss)
turns_of_all s ss old mid new l n p q =
    let e : bytes_held ((format_of s).build ss) ≡ bytes_of_all (take (format_of s).count ss) = held_built (format_of s) ss (storable_of s) (omega (arith, n)) in
    let b = bytes_of_some (format_of s).count ss in
    omega (arith, p, q, e, b)

-- a fault that the test returns is the first
pub judged_fault : (f : Format) (bytes : List ℕ) (r : Result (Unit {0}) StoreFault) → IsLegal bytes f.count → length (framed_slices bytes) ≡ f.count → verdict r ≡ first (faults_at f 0 (framed_slices bytes)) → IfErr r (IsFirstFault f bytes)
judged_fault f bytes (Ok u) l n h = tt
judged_fault f bytes (Err x) l n h = inr (l, fault_found f (framed_slices bytes) (fault_of x) n h)
