-- What a broken rule states about bytes that should begin with one store, and what their beginning determines about its
-- length.
use Rattle.std.proofs.Common.{ℕ, Bool, true, false, List, ◌++◌, ◌≡◌, ◌≢◌, ◌⊎◌, ⊎_elim, ◌<◌, ◌≤◌, ◌+◌, ◌-◌, ◌*◌, ◌%◌, ◌^◌, length, take, drop, sym, ◌∙◌, ap, arith, length-append, refl}
use Rattle.std.specs.Prelude.{IsOk, ◌↔◌}
use Rattle.std.proofs.lemmas.Bool.{false_from_ne_true}
use Rattle.std.proofs.lemmas.List.{take-append-drop, length-take-le}
use Rattle.columnar_core.specs.Bytes.{word}
use Rattle.columnar_core.specs.Frame.{start_of, end_of, slice_count}
use Rattle.columnar_core.specs.declared.fault.StoreFault.{StoreFault}
use Rattle.columnar_core.specs.declared.fault.StoreFault.TheVariants.{NotWords, Empty, FirstOffset, Table, SliceCount, PastEnd, Backwards, ElementSize, HeadSize, Parts, Bounds, Counts, TailBits, Value, Lookback, Stride, Variant, Tree, Length}
use Rattle.columnar_bytes.specs.Streams.{store_end, IsOneStore, BeginsStore, HasTable, begins_store}
use Rattle.columnar_bytes.specs.StreamLaws.{start-append, end-append, table_of_one, whole_in, one_in, end_is_after, none_begins, some_begins, count_of_table}
use Rattle.columnar_bytes.specs.StreamFaults.{IsFlaw, IsSliceFlaw, IsLengthAfter, IsNeededAfter, IsNoStoreAfter}

-- bytes with a broken rule begin with no store
pub flaw_none : (bytes : List ℕ) (fault : StoreFault) → IsSliceFlaw bytes (length bytes) fault → begins_store bytes ≡ false
flaw_none bytes (PastEnd i) b = false_from_ne_true (begins_store bytes) (λ t. let w = (whole_in bytes t).table.within i b.0 in let p = b.1.1 in omega arith)
flaw_none bytes (Backwards i) b = false_from_ne_true (begins_store bytes) (λ t. let o = (whole_in bytes t).table.ordered i b.0 in let p = b.1.1.1 in omega arith)
flaw_none bytes (NotWords i) b = absurd b
flaw_none bytes (Empty i) b = absurd b
flaw_none bytes (FirstOffset i) b = absurd b
flaw_none bytes (Table i) b = absurd b
flaw_none bytes (SliceCount i) b = absurd b
flaw_none bytes (ElementSize i) b = absurd b
flaw_none bytes (HeadSize i) b = absurd b
flaw_none bytes (Parts i) b = absurd b
flaw_none bytes (Bounds i) b = absurd b
flaw_none bytes (Counts i) b = absurd b
flaw_none bytes (TailBits i) b = absurd b
flaw_none bytes (Value i) b = absurd b
flaw_none bytes (Lookback i) b = absurd b
flaw_none bytes (Stride i) b = absurd b
flaw_none bytes (Variant i) b = absurd b
flaw_none bytes (Tree i) b = absurd b
flaw_none bytes (Length i) b = absurd b

pub offset_none : (bytes : List ℕ) → (word bytes 0 < 8) ⊎ (word bytes 0 % 8 ≢ 0) → begins_store bytes ≡ false
offset_none bytes b =
    false_from_ne_true (begins_store bytes)
    (λ t.
    let e = (whole_in bytes t).table.first in
    ⊎_elim (λ (p : word bytes 0 < 8). omega arith) (λ (p : word bytes 0 % 8 ≢ 0). p (omega arith)) b)

-- what the test states about a split that was refused, and about one that was carried out
pub refused_exactly : (bytes : List ℕ) → begins_store bytes ≡ false → (false ≡ true → BeginsStore bytes) × (BeginsStore bytes → false ≡ true)
refused_exactly bytes f = (λ e. cc, λ b. absurd (none_begins bytes f b))

pub done_exactly : (bytes : List ℕ) → begins_store bytes ≡ true → (true ≡ true → BeginsStore bytes) × (BeginsStore bytes → true ≡ true)
done_exactly bytes t = (λ _. some_begins bytes t, λ _. refl)

-- a complete table stays the same if more bytes follow
same_count : (prefix more : List ℕ) → IsOneStore (prefix ++ more) → 8 ≤ length prefix → word prefix 0 ≡ 8 * (slice_count (prefix ++ more) + 1)
same_count prefix more o l = sym (start-append prefix more 0 (omega arith)) ∙ (table_of_one (prefix ++ more) o).first

pub needed_after : (prefix : List ℕ) (n : ℕ) → 8 ≤ length prefix → n ≡ word prefix 0 → IsNeededAfter prefix n
needed_after prefix n l e more o =
    let f = (table_of_one (prefix ++ more) o).fits in
    omega (arith, f, same_count prefix more o l)

pub no_first_offset : (prefix : List ℕ) → 8 ≤ length prefix → (word prefix 0 < 8) ⊎ (word prefix 0 % 8 ≢ 0) → IsNoStoreAfter prefix
no_first_offset prefix l b more m o =
    let e = same_count prefix more o l in
    ⊎_elim (λ (p : word prefix 0 < 8). omega arith) (λ (p : word prefix 0 % 8 ≢ 0). p (omega arith)) b

-- slice i stays at its place, whatever follows
record IsSame (prefix more : List ℕ) (i : ℕ) : Type 0 where
  pub within : i < slice_count (prefix ++ more)
  pub start : start_of (prefix ++ more) i ≡ start_of prefix i
  pub end : end_of (prefix ++ more) i ≡ end_of prefix i

same_slice : (prefix more : List ℕ) (limit m i : ℕ) → IsOneStore (prefix ++ more) → HasTable prefix limit (slice_count prefix) m → i < slice_count prefix → IsSame prefix more i
same_slice prefix more limit m i o t l =
    let f = t.fits in
    let e = t.first in
    let c = same_count prefix more o (omega arith) in
    record {
      within = omega arith;
      start = start-append prefix more i (omega arith);
      end = end-append prefix more i (omega arith);
    }

pub no_slice : (prefix : List ℕ) (fault : StoreFault) → IsSliceFlaw prefix (2 ^ 64 - 8) fault → IsNoStoreAfter prefix
no_slice prefix (PastEnd i) b more m o =
    let s = same_slice prefix more (2 ^ 64 - 8) i i o b.1.0 b.0 in
    let w = (table_of_one (prefix ++ more) o).within i s.within in
    let p = b.1.1 in
    let e = s.end in
    let k = o.store.whole in
    omega arith
no_slice prefix (Backwards i) b more m o =
    let s = same_slice prefix more (2 ^ 64 - 8) i i o b.1.0 b.0 in
    let w = (table_of_one (prefix ++ more) o).ordered i s.within in
    let p = b.1.1.1 in
    let e = s.end in
    let f = s.start in
    omega arith
no_slice prefix (NotWords i) b more m o = b
no_slice prefix (Empty i) b more m o = b
no_slice prefix (FirstOffset i) b more m o = b
no_slice prefix (Table i) b more m o = b
no_slice prefix (SliceCount i) b more m o = b
no_slice prefix (ElementSize i) b more m o = b
no_slice prefix (HeadSize i) b more m o = b
no_slice prefix (Parts i) b more m o = b
no_slice prefix (Bounds i) b more m o = b
no_slice prefix (Counts i) b more m o = b
no_slice prefix (TailBits i) b more m o = b
no_slice prefix (Value i) b more m o = b
no_slice prefix (Lookback i) b more m o = b
no_slice prefix (Stride i) b more m o = b
no_slice prefix (Variant i) b more m o = b
no_slice prefix (Tree i) b more m o = b
no_slice prefix (Length i) b more m o = b

-- the length that the table gives, whatever follows
pub known_after : (prefix : List ℕ) (limit : ℕ) → HasTable prefix limit (slice_count prefix) (slice_count prefix) → IsLengthAfter prefix (store_end prefix)
known_after prefix limit t more l =
    let n = slice_count prefix in
    let e = store_end prefix in
    let f = t.fits in
    let all = prefix ++ more in
    let starts : (i : ℕ) → i ≤ n → start_of all i ≡ start_of prefix i = λ i h. start-append prefix more i (omega arith) in
    let ends : (i : ℕ) → i < n → end_of all i ≡ end_of prefix i = λ i h. end-append prefix more i (omega arith) in
    one_in all limit n (take e all) (drop e all)
    (record {
      first = starts 0 (omega arith) ∙ t.first;
      fits = omega (arith, length-append prefix more);
      ordered = λ i h. let o = t.ordered i h in omega (arith, starts i (omega arith), ends i h);
      within = λ i h. let w = t.within i h in omega (arith, ends i h);
    })
    (sym (take-append-drop e all))
    (length-take-le e all l ∙ sym (starts n (omega arith)))
