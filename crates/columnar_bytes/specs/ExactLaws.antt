-- The end of a store, from the last word of its table.
use Rattle.std.proofs.Common.{ℕ, zero, suc, List, ◌≡◌, ◌≤◌, ◌<◌, ◌+◌, ◌*◌, ◌/◌, ◌-◌, length, sym, ◌∙◌, ap, arith, subst, true, false, refl}
use Rattle.columnar_core.specs.Bytes.{word, rounded}
use Rattle.columnar_core.specs.Format.{Format}
use Rattle.columnar_core.specs.Frame.{IsStore, IsTable, slice_count, framed_slices}
use Rattle.columnar_core.specs.FrameLaws.{start_is, length-framed_slices}
use Rattle.columnar_bytes.specs.Accepted.{Accepts}
use Rattle.columnar_bytes.specs.AcceptedLaws.{accepted_from}
use Rattle.columnar_bytes.specs.Streams.{IsOneStore, store_end}

last_fits : (bytes : List ℕ) (n : ℕ) → IsTable bytes n → word bytes n ≤ length bytes
last_fits bytes zero t = let e = t.first in let f = t.fits in omega arith
last_fits bytes (suc k) t =
    let p = t.placed k (omega arith) in
    let e : k + 1 ≡ suc k = omega arith in
    subst (λ i. word bytes i ≤ length bytes) e p.within

-- the last word of the table, and the end of the last slice
pub record IsLast (bytes : List ℕ) : Type 0 where
  pub table : 8 ≤ word bytes 0
  pub there : 8 * slice_count bytes + 8 ≤ length bytes
  pub fits : word bytes (slice_count bytes) ≤ length bytes
  pub end : store_end bytes ≡ rounded (word bytes (slice_count bytes))
  pub within : store_end bytes ≤ length bytes

pub last_of : (bytes : List ℕ) → IsStore bytes → IsLast bytes
last_of bytes s =
    let n = slice_count bytes in
    let t : IsTable bytes n = subst (λ k. IsTable bytes k) (length-framed_slices bytes) s.framed.table in
    let first = t.first in
    let fits = t.fits in
    let last = last_fits bytes n t in
    let end : store_end bytes ≡ rounded (word bytes n) = start_is bytes n n t in
    let whole = s.whole in
    record {
      table = omega arith;
      there = omega arith;
      fits = last;
      end = end;
      within = omega arith;
    }

-- accepted bytes are one store if and only if nothing follows the last slice
pub one_accepted : (f : Format) (bytes : List ℕ) → Accepts f bytes → length bytes ≤ store_end bytes → IsOneStore bytes
one_accepted f bytes a l =
    let s = (accepted_from f bytes a).store in
    let w = (last_of bytes s).within in
    record { store = s; nothing_after = omega arith }

pub more_refused : (f : Format) (bytes : List ℕ) (end : ℕ) → end ≡ store_end bytes → end < length bytes → (false ≡ true → Accepts f bytes × IsOneStore bytes) × (Accepts f bytes × IsOneStore bytes → false ≡ true)
more_refused f bytes end e l = (λ k. cc, λ p. let n = p.1.nothing_after in absurd (omega arith))
