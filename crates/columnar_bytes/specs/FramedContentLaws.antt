-- A framed content has the slices that its store frames.
use Rattle.std.proofs.Common.{◌≡◌, ℕ, zero, suc, ◌<◌, List, [], ◌∷◌, length, replicate, refl, sym, ◌∙◌, ap, arith}
use Rattle.std.specs.Prelude.{slice_get, slice_index_or, Some}
use Rattle.std.proofs.Math.Seq.{take-length}
use Rattle.columnar_core.specs.Format.{Format, Fits, IsStorable, slices_of}
use Rattle.columnar_core.specs.Store.{slices_in}
use Rattle.columnar_core.specs.declared.traits.Column.{Ghosts as ColumnOf}
use Rattle.columnar_bytes.specs.declared.stash.framed.Framed.{Framed}
use Rattle.columnar_bytes.specs.FramedContent.{framed_content, byte_format}

-- it has exactly these slices
pub framed_slices_are : (f : Format) (ss : List (List ℕ)) → IsStorable f → length ss ≡ f.count → slices_of (f.build ss) ≡ ss
framed_slices_are f ss law n = law.built ss (omega (arith, n)) ∙ (rw (← n) (take-length ss))

pub framed_counted : {C : Type 0} {column : ColumnOf C} → IsStorable column.format → (k : Framed C column) → length (slices_of (framed_content k)) ≡ column.format.count
framed_counted {C} {column} law k = rw (framed_slices_are column.format (slices_in k.store) law k.all) k.all

ones_all : (n : ℕ) → length {A = ℕ} (replicate n 1) ≡ n
ones_all zero = refl
ones_all (suc n) = ap suc (ones_all n)

pub one_at : (n i : ℕ) → i < n → slice_get {X = ℕ} (replicate n 1) i ≡ Some 1
one_at zero i l = absurd (omega arith)
one_at (suc n) zero l = refl
one_at (suc n) (suc i) l = one_at n i (omega arith)

pub byte_storable : (f : Format) → IsStorable f → IsStorable (byte_format f)
byte_storable f s = record {
  swift = s.swift;
  sized = s.sized;
  aligned = ones_all f.count;
  counted = λ c h. s.counted c (record { accepted = h.accepted });
  rebuilt = λ c rest h. s.rebuilt c rest (record { accepted = h.accepted });
  built = s.built;
}

pub byte_fits : (f : Format) (at : ℕ) (ss : List (List ℕ)) → Fits (byte_format f) at ss → Fits f at ss
byte_fits f at ss h = record { room = h.room; sound = record { accepted = h.sound.accepted } }

-- slice i, read by its index
pub got_at : (ss : List (List ℕ)) (i : ℕ) (bs : List ℕ) → i < length ss → bs ≡ slice_index_or ss i [] → slice_get ss i ≡ Some bs
got_at [] i bs l h = absurd (omega arith)
got_at (s ∷ ss) zero bs l h = ap Some (sym h)
got_at (s ∷ ss) (suc i) bs l h = got_at ss i bs (omega arith) h
