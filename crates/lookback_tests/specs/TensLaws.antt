-- Rows that are the same if a digit is: this is an equivalence, also for lists of such rows.
use Rattle.std.proofs.Common.{◌≡◌, ℕ, Bool, true, List, ap}
use Rattle.columnar_base.specs.Row.{Row, row_eq}
use Rattle.columnar_base.specs.RowLaws.{row_eq-is}
use Rattle.columnar_base.specs.AlikeLaws.{row_eq_same}
use Rattle.columnar_base.specs.Format.{Format, Content, IsSound, IsSame, IsLawful, IsStorable}
use Rattle.columnar_base.specs.Change.{Keeps, Stayed, WasCut, Took, Copied, Refused, IsTrueOf}
use Rattle.columnar_base.specs.declared.fault.GrowError.{GrowError}
use Rattle.columnar_base.specs.declared.fault.GrowError.TheVariants.{Memory, Length, Offset, Format as FormatError}
use Rattle.lookback_tests.specs.Tens.{digit, same_digit, kinned}

pub same_digit_same : IsSame same_digit
same_digit_same = record {
  reflexive = λ r. row_eq_same.reflexive (digit r);
  symmetric = λ r s. row_eq_same.symmetric (digit r) (digit s);
  transitive = λ r s t. row_eq_same.transitive (digit r) (digit s) (digit t);
}

pub same_digit_equal : (r s : Row) → row_eq r s ≡ true → same_digit r s ≡ true
same_digit_equal r s h = rw (row_eq-is r s h) (row_eq_same.reflexive (digit s))

pub kinned_lawful : (kin : Row → Row → Bool) (t : Format) → IsLawful t → IsSame kin → ((r s : Row) → t.alike r s ≡ true → kin r s ≡ true) → IsLawful (kinned kin t)
kinned_lawful kin t l k h = record {
  full = λ c s. l.full c (record { accepted = s.accepted });
  same = l.same;
  kindred = k;
  related = h;
  more = l.more;
}

pub kinned_storable : (kin : Row → Row → Bool) (t : Format) → IsStorable t → IsStorable (kinned kin t)
kinned_storable kin t l = record {
  swift = l.swift;
  sized = l.sized;
  aligned = l.aligned;
  counted = λ c s. l.counted c (record { accepted = s.accepted });
  rebuilt = λ c rest s. l.rebuilt c rest (record { accepted = s.accepted });
  built = l.built;
}

pub same_kinned : (kin : Row → Row → Bool) {t u : Format} → t ≡ u → kinned kin t ≡ kinned kin u
same_kinned kin e = ap (kinned kin) e

pub kinned_sound : (kin : Row → Row → Bool) (t : Format) {c : Content} → IsSound t c → IsSound (kinned kin t) c
kinned_sound kin t s = record { accepted = s.accepted }

pub bare_sound : (kin : Row → Row → Bool) (t : Format) {c : Content} → IsSound (kinned kin t) c → IsSound t c
bare_sound kin t s = record { accepted = s.accepted }

kinned_keeps : (kin : Row → Row → Bool) (t : Format) {c d : Content} {n : ℕ} → Keeps t c d n → Keeps (kinned kin t) c d n
kinned_keeps kin t h = record { extents = h.extents; limits = h.limits }

pub kinned_stayed : (kin : Row → Row → Bool) (t : Format) {c d : Content} → Stayed t c d → Stayed (kinned kin t) c d
kinned_stayed kin t h = record { sound = kinned_sound kin t h.sound; rows = h.rows; lengths_same = h.lengths_same; kept = kinned_keeps kin t h.kept }

pub kinned_cut : (kin : Row → Row → Bool) (t : Format) {c d : Content} {n : ℕ} → WasCut t c d n → WasCut (kinned kin t) c d n
kinned_cut kin t h = record { sound = kinned_sound kin t h.sound; rows = h.rows; lengths_cut = h.lengths_cut; kept = kinned_keeps kin t h.kept }

pub kinned_took : (kin : Row → Row → Bool) (t : Format) {c d : Content} {rs : List Row} → Took t c d rs → Took (kinned kin t) c d rs
kinned_took kin t h = record {
  fresh = h.fresh;
  grew = record { sound = kinned_sound kin t h.grew.sound; rows = h.grew.rows; kept = kinned_keeps kin t h.grew.kept };
  alike = h.alike;
  adds = h.adds;
}

pub kinned_copied : (kin : Row → Row → Bool) (t : Format) {c d : Content} {n : ℕ} {rs : List Row} → Copied t c d n rs → Copied (kinned kin t) c d n rs
kinned_copied kin t h = record { took = kinned_took kin t h.took; front = h.front }

kinned_cause : (kin : Row → Row → Bool) (t : Format) (c : Content) (rs : List Row) (e : GrowError) → IsTrueOf e t c rs → IsTrueOf e (kinned kin t) c rs
kinned_cause kin t c rs Memory h = h
kinned_cause kin t c rs Length h = h
kinned_cause kin t c rs Offset h = h
kinned_cause kin t c rs FormatError h = h

pub kinned_refused : (kin : Row → Row → Bool) (t : Format) {c d : Content} {rs : List Row} {e : GrowError} → Refused t c d rs e → Refused (kinned kin t) c d rs e
kinned_refused kin t {c} {d} {rs} {e} h = record { stayed = kinned_stayed kin t h.stayed; cause = kinned_cause kin t c rs e h.cause }
