-- Where the slices of a store begin and end, and the lines of its table.
use Rattle.std.proofs.Common.{◌≡◌, ℕ, zero, suc, ◌+◌, ◌*◌, ◌<◌, ◌≤◌, List, [], ◌++◌, length, refl, sym, ◌∙◌, ap, arith, add-one, append_assoc, append-nil, ⊎_elim}
use Rattle.std.proofs.lemmas.Bool.{cases_lt}
use Rattle.std.specs.Prelude.{Err, Ok, OnErr, Option, Result, slice_range}
use Rattle.std.specs.Io.KnownBytes.{Appends}
use Rattle.columnar_core.specs.Bytes.{rounded, word}
use Rattle.columnar_core.specs.Frame.{IsStore, IsTable, end_of, framed_slices, slice_count, start_of}
use Rattle.columnar_core.specs.FrameLaws.{length-framed_slices, read_slice, start_is}
use Rattle.columnar_core.specs.Sent.{AppendsBeginning, WentOut}
use Rattle.columnar_core.specs.SentLaws.{appends_both, sent_none, sent_part}
use Rattle.columnar_tool.specs.Tables.{row_of, row_text, rows_text}
use Rattle.columnar_tool.specs.Told.{Began}

-- slice i, read from the words of the table
pub record IsThere (bytes : List ℕ) (i : ℕ) : Type 0 where
  pub table : 8 * i + 16 ≤ length bytes
  pub begins : rounded (word bytes i) ≡ start_of bytes i
  pub low : word bytes i ≤ length bytes
  pub within : rounded (end_of bytes i) ≤ length bytes

pub is_there : (bytes : List ℕ) (i : ℕ) → IsStore bytes → i < slice_count bytes → IsThere bytes i
is_there bytes i s l =
    let k : i < length (framed_slices bytes) = omega (arith, length-framed_slices bytes) in
    let r = read_slice bytes i s k in
    record {
      table = r.table;
      begins = sym (start_is bytes (length (framed_slices bytes)) i s.framed.table);
      low = omega (arith, r.ordered, r.within);
      within = omega (arith, r.within, s.whole);
    }

-- the word of the table that says where the bytes after the last slice begin
pub record EndsThere (bytes : List ℕ) : Type 0 where
  pub table : 8 * slice_count bytes + 8 ≤ length bytes
  pub begins : rounded (word bytes (slice_count bytes)) ≡ start_of bytes (slice_count bytes)
  pub low : word bytes (slice_count bytes) ≤ length bytes

last_low : (bytes : List ℕ) (n : ℕ) → IsTable bytes n → word bytes n ≤ length bytes
last_low bytes zero t = let f = t.first in let g = t.fits in omega arith
last_low bytes (suc n) t =
    let p = t.placed n (omega arith) in
    let w : word bytes (n + 1) ≤ length bytes = p.within in
    rw (sym (add-one n)) w

pub ends_there : (bytes : List ℕ) → IsStore bytes → EndsThere bytes
ends_there bytes s =
    let t : IsTable bytes (slice_count bytes) = rw (length-framed_slices bytes) at s.framed.table in
    record {
      table = let f = t.fits in omega arith;
      begins = sym (start_is bytes (slice_count bytes) (slice_count bytes) t);
      low = last_low bytes (slice_count bytes) t;
    }

-- a turn of the loop
pub row_more : (bytes : List ℕ) (i begin end : ℕ) (padding line : List ℕ) (old mid new : Option (List ℕ)) → Appends old mid (rows_text bytes i) → begin ≡ start_of bytes i → end ≡ end_of bytes i → padding ≡ slice_range bytes end (rounded end) → line ≡ [] ++ row_text i begin end padding → Appends mid new line → Appends old new (rows_text bytes (i + 1))
row_more bytes i begin end padding line old mid new p b e k w q =
    let m : row_text i begin end padding ≡ row_of bytes i = rw (k, b, e) refl in
    rw (add-one i) (appends_both old mid new (rows_text bytes i) (row_of bytes i) p (rw (w ∙ m) at q))

-- the lines of the first i slices begin those of more
rows_begin : (bytes : List ℕ) (i n : ℕ) → i ≤ n → (rest : List ℕ) × (rows_text bytes n ≡ rows_text bytes i ++ rest)
rows_begin bytes i zero l = let e : i ≡ 0 = omega arith in ([], rw e refl)
rows_begin bytes i (suc n) l =
    ⊎_elim
    (λ (p : n < i). let e : i ≡ suc n = omega arith in ([], rw e (sym (append-nil (rows_text bytes (suc n))))))
    (λ (p : i ≤ n).
    let k = rows_begin bytes i n p in
    (k.0 ++ row_of bytes n, ap (λ z. z ++ row_of bytes n) k.1 ∙ append_assoc (rows_text bytes i) k.0 (row_of bytes n)))
    (cases_lt n i)

-- no line was printed after those of the first i slices
pub rows_begun : (bytes : List ℕ) (i n : ℕ) (old new : Option (List ℕ)) → i ≤ n → Appends old new (rows_text bytes i) → Began old new (rows_text bytes n)
rows_begun bytes i n old new l p =
    let k = rows_begin bytes i n l in
    (k.0, record { front = rows_text bytes i; split = k.1; appended = p })

-- the output failed within the line of slice i
pub row_begun : (bytes : List ℕ) (i n begin end : ℕ) (padding line : List ℕ) (old mid new : Option (List ℕ)) → i < n → Appends old mid (rows_text bytes i) → begin ≡ start_of bytes i → end ≡ end_of bytes i → padding ≡ slice_range bytes end (rounded end) → line ≡ [] ++ row_text i begin end padding → AppendsBeginning mid new line → Began old new (rows_text bytes n)
row_begun bytes i n begin end padding line old mid new l p b e k w q =
    let m : row_text i begin end padding ≡ row_of bytes i = rw (k, b, e) refl in
    let r = rows_begin bytes (suc i) n (omega arith) in
    let s : WentOut old mid (row_of bytes i ++ r.0) (rows_text bytes n) = record {
      front = rows_text bytes i;
      split = r.1 ∙ append_assoc (rows_text bytes i) (row_of bytes i) r.0;
      appended = p;
    } in
    let d = sent_part old mid new (row_of bytes i ++ r.0) (row_of bytes i) r.0 (rows_text bytes n) s refl (rw (w ∙ m) at q) in
    (d.0, d.1.1)

pub began_none : (old : Option (List ℕ)) (all : List ℕ) → Began old old all
began_none old all = (all, sent_none old all)

-- a text was printed, and a beginning of what follows it
pub began_last : (old mid new : Option (List ℕ)) (front part : List ℕ) → Appends old mid front → Began mid new part → Began old new (front ++ part)
began_last old mid new front part p b = (
  b.0,
  record {
    front = front ++ b.1.front;
    split = ap (λ z. front ++ z) b.1.split ∙ sym (append_assoc front b.1.front b.0);
    appended = appends_both old mid new front b.1.front p b.1.appended;
  },
)

-- a beginning of a text begins each text that the text begins
pub began_more : (old new : Option (List ℕ)) (part after : List ℕ) → Began old new part → Began old new (part ++ after)
began_more old new part after b = (
  b.0 ++ after,
  record {
    front = b.1.front;
    split = ap (λ z. z ++ after) b.1.split ∙ append_assoc b.1.front b.0 after;
    appended = b.1.appended;
  },
)

pub began_part : (old new : Option (List ℕ)) (text : List ℕ) → AppendsBeginning old new text → Began old new text
began_part old new text p = (p.0, p.1.1)

-- what holds anyway holds after a failure
pub if_fails : {A E : Type 0} (r : Result A E) {P : Type 0} → P → OnErr r P
if_fails (Ok x) p = tt
if_fails (Err e) p = p
