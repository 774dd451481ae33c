-- Consequences of the definition of a frame.
use Rattle.std.proofs.Common.{ℕ, zero, suc, List, [], ◌≡◌, ◌<◌, ◌≤◌, ◌+◌, ◌-◌, ◌*◌, ◌%◌, length, get_or, take, drop, sym, ◌∙◌, ap, arith}
use Rattle.std.proofs.lemmas.List.{ext_get_or}
use Rattle.std.proofs.lemmas.List.FromFn.{length-map-range_with_len, get_or-map-range_with_len}
use Rattle.columnar_core.specs.Bytes.{word, rounded}
use Rattle.columnar_core.specs.Frame.{start_of, slice_of, slice_count, framed_slices, IsTable, Frame, IsLegal, IsStore}

pub count_is : (bytes : List ℕ) (n : ℕ) → IsTable bytes n → slice_count bytes ≡ n
count_is bytes n t = let e = t.first in omega arith

pub length-framed_slices : (bytes : List ℕ) → length (framed_slices bytes) ≡ slice_count bytes
length-framed_slices bytes = length-map-range_with_len (slice_of bytes) 0 (slice_count bytes)

pub get_or-framed_slices : (bytes : List ℕ) (i : ℕ) → i < slice_count bytes → get_or (framed_slices bytes) i [] ≡ slice_of bytes i
get_or-framed_slices bytes i l = get_or-map-range_with_len (slice_of bytes) 0 (slice_count bytes) i i [] l (omega arith)

-- framed slices are those of the store
pub are_framed_slices : (bytes : List ℕ) (slices : List (List ℕ)) → Frame bytes slices → slices ≡ framed_slices bytes
are_framed_slices bytes slices f =
    let e : slice_count bytes ≡ length slices = count_is bytes (length slices) f.table in
    ext_get_or [] slices (framed_slices bytes) (sym e ∙ sym (length-framed_slices bytes))
    (λ i l. f.each i l ∙ sym (get_or-framed_slices bytes i (omega arith)))

-- a store frames at most one list of slices
pub frames_one : (bytes : List ℕ) (xs ys : List (List ℕ)) → Frame bytes xs → Frame bytes ys → xs ≡ ys
frames_one bytes xs ys f g = are_framed_slices bytes xs f ∙ sym (are_framed_slices bytes ys g)

pub framed_by_table : (bytes : List ℕ) (n : ℕ) → IsTable bytes n → Frame bytes (framed_slices bytes)
framed_by_table bytes n t =
    let e : slice_count bytes ≡ n = count_is bytes n t in
    let k : length (framed_slices bytes) ≡ n = length-framed_slices bytes ∙ e in
    record {
      table = record {
        first = t.first ∙ ap (λ m. 8 * (m + 1)) (sym k);
        fits = let f = t.fits in omega arith;
        placed = λ i l. t.placed i (omega arith);
      };
      each = λ i l. get_or-framed_slices bytes i (omega arith);
    }

pub legal_by_table : (bytes : List ℕ) (n : ℕ) → length bytes % 8 ≡ 0 → IsTable bytes n → IsLegal bytes n
legal_by_table bytes n w t = record {
  whole = w;
  framed = (framed_slices bytes, (framed_by_table bytes n t, length-framed_slices bytes ∙ count_is bytes n t));
}

pub table_of : (bytes : List ℕ) (n : ℕ) → IsLegal bytes n → IsTable bytes n
table_of bytes n h =
    let f = h.framed.1.0.table in
    let e = h.framed.1.1 in
    record {
      first = f.first ∙ ap (λ m. 8 * (m + 1)) e;
      fits = let g = f.fits in omega arith;
      placed = λ i l. f.placed i (omega arith);
    }

pub store_of : (bytes : List ℕ) (n : ℕ) → IsLegal bytes n → IsStore bytes
store_of bytes n h = record { whole = h.whole; framed = framed_by_table bytes n (table_of bytes n h) }

pub count_of : (bytes : List ℕ) (n : ℕ) → IsLegal bytes n → length (framed_slices bytes) ≡ n
count_of bytes n h = length-framed_slices bytes ∙ count_is bytes n (table_of bytes n h)

-- a store of n slices is legal for n
pub legal_of : (bytes : List ℕ) (n : ℕ) → IsStore bytes → length (framed_slices bytes) ≡ n → IsLegal bytes n
legal_of bytes n s e = record { whole = s.whole; framed = (framed_slices bytes, (s.framed, e)) }

-- the first slice starts at a multiple of eight, so each starts at its offset, rounded up
pub start_is : (bytes : List ℕ) (n i : ℕ) → IsTable bytes n → start_of bytes i ≡ rounded (word bytes i)
start_is bytes n zero t = let e = t.first in omega arith
start_is bytes n (suc i) t = ap (λ k. rounded (word bytes k)) (omega arith)

-- slice i of a store, read from the words of its table
pub record IsRead (bytes : List ℕ) (i : ℕ) : Type 0 where
  pub table : 8 * i + 16 ≤ length bytes
  pub ordered : rounded (word bytes i) ≤ word bytes (i + 1)
  pub within : word bytes (i + 1) ≤ length bytes
  pub is : get_or (framed_slices bytes) i [] ≡ take (word bytes (i + 1) - rounded (word bytes i)) (drop (rounded (word bytes i)) bytes)

pub read_slice : (bytes : List ℕ) (i : ℕ) → IsStore bytes → i < length (framed_slices bytes) → IsRead bytes i
read_slice bytes i s l =
    let t = s.framed.table in
    let p = t.placed i l in
    let e = start_is bytes (length (framed_slices bytes)) i t in
    record {
      table = let f = t.fits in omega arith;
      ordered = let o = p.ordered in omega arith;
      within = p.within;
      is = s.framed.each i l ∙ ap (λ k. take (word bytes (i + 1) - k) (drop k bytes)) e;
    }
