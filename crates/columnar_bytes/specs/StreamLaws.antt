-- Consequences of the definitions of consecutive stores.
use Rattle.std.proofs.Common.{ℕ, zero, suc, Bool, true, false, List, [], ◌∷◌, ◌++◌, ◌≡◌, ◌⊎◌, inl, inr, ⊎_elim, ◌<◌, ◌≤◌, ◌+◌, ◌*◌, ◌%◌, ◌^◌, length, take, drop, refl, sym, ◌∙◌, ap, arith, append_assoc, length-append, append-nil, subst, ap₂}
use Rattle.std.specs.Prelude.{nat_le, ◌==◌, ◌&&◌}
use Rattle.std.specs.Int.{from_le_bytes, w64}
use Rattle.std.proofs.lemmas.Bool.{and_parts, and_from, le-leb, leb-true, eq-eqb, eqb-true, cases_Bool, cases_lt, cond-true, cond-false, false_from_ne_true}
use Rattle.std.proofs.lemmas.List.{take-append-le, drop-append-le, take-append-drop, length-take-le, length-drop, take_at, drop_at, append_cancel_left}
use Rattle.columnar_base.specs.WordViewLaws.{front_number}
use Rattle.columnar_core.specs.Bytes.{word, rounded}
use Rattle.columnar_core.specs.Frame.{IsStore, IsTable, IsPlaced, IsLegal, start_of, end_of, slice_count, framed_slices}
use Rattle.columnar_core.specs.FrameLaws.{legal_by_table, store_of, length-framed_slices, count_is}
use Rattle.columnar_core.specs.Words.{words, store_bytes}
use Rattle.columnar_core.specs.ByteLaws.{slices-store_bytes, store-store_bytes}
use Rattle.columnar_bytes.specs.Tight.{FramesTightly}
use Rattle.columnar_bytes.specs.TightLaws.{tight_words}
use Rattle.columnar_bytes.specs.Streams.{store_end, IsOneStore, BeginsStore, AreStores, joined, HasTable, has_table, in_order, begins_store, stores_within, rest_within, stores_in, rest_in, IsTornFrom}

-- bytes that follow do not change a complete word
pub word-append : (a b : List ℕ) (i : ℕ) → 8 * i + 8 ≤ length a → word (a ++ b) i ≡ word a i
unfolding word
word-append a b i l =
    let d : drop (8 * i) (a ++ b) ≡ drop (8 * i) a ++ b = drop-append-le (8 * i) a b (omega arith) in
    ap (from_le_bytes w64) d
    ∙ sym (front_number (drop (8 * i) a ++ b))
    ∙ ap (from_le_bytes w64) (take-append-le 8 (drop (8 * i) a) b (omega (arith, length-drop (8 * i) a)))
    ∙ front_number (drop (8 * i) a)

-- nor do they change the places of the slices of a complete table
pub end-append : (a b : List ℕ) (i : ℕ) → 8 * i + 16 ≤ length a → end_of (a ++ b) i ≡ end_of a i
end-append a b i l = word-append a b (i + 1) (omega arith)

pub start-append : (a b : List ℕ) (i : ℕ) → 8 * i + 8 ≤ length a → start_of (a ++ b) i ≡ start_of a i
start-append a b zero l = word-append a b 0 (omega arith)
start-append a b (suc i) l = ap rounded (end-append a b i (omega arith))

pub count_of_table : (bytes : List ℕ) (limit n : ℕ) → HasTable bytes limit n n → slice_count bytes ≡ n
count_of_table bytes limit n t = let e = t.first in omega arith

in_order_from : (bytes : List ℕ) (limit n : ℕ) → ((i : ℕ) → i < n → start_of bytes i ≤ end_of bytes i) → ((i : ℕ) → i < n → end_of bytes i ≤ limit) → in_order bytes limit n ≡ true
in_order_from bytes limit zero o w = refl
in_order_from bytes limit (suc n) o w =
    and_from _ _ (in_order_from bytes limit n (λ i l. o i (omega arith)) (λ i l. w i (omega arith)))
    (and_from _ _ (le-leb (start_of bytes n) (end_of bytes n) (o n (omega arith))) (le-leb (end_of bytes n) limit (w n (omega arith))))

order_at : (bytes : List ℕ) (limit n i : ℕ) → in_order bytes limit n ≡ true → i < n → (start_of bytes i ≤ end_of bytes i) × (end_of bytes i ≤ limit)
order_at bytes limit zero i h l = absurd (omega arith)
order_at bytes limit (suc n) i h l =
    let p = and_parts (in_order bytes limit n) (nat_le (start_of bytes n) (end_of bytes n) && nat_le (end_of bytes n) limit) h in
    let q = and_parts (nat_le (start_of bytes n) (end_of bytes n)) (nat_le (end_of bytes n) limit) p.1 in
    ⊎_elim (λ (k : i < n). order_at bytes limit n i p.0 k)
    (λ (k : n ≤ i).
    let e : n ≡ i = omega arith in
    subst (λ j. (start_of bytes j ≤ end_of bytes j) × (end_of bytes j ≤ limit)) e
    (leb-true (start_of bytes n) (end_of bytes n) q.0, leb-true (end_of bytes n) limit q.1))
    (cases_lt i n)

-- the test, from the table
pub begins_from : (bytes : List ℕ) (n : ℕ) → HasTable bytes (length bytes) n n → start_of bytes n ≤ length bytes → begins_store bytes ≡ true
begins_from bytes n t l =
    let e : slice_count bytes ≡ n = count_of_table bytes (length bytes) n t in
    let first = t.first in
    let fits = t.fits in
    and_from _ _
    (and_from _ _ (eq-eqb (word bytes 0) (8 * (slice_count bytes + 1)) (omega arith)) (le-leb (word bytes 0) (length bytes) (omega arith)))
    (rw e (and_from _ _ (in_order_from bytes (length bytes) n t.ordered t.within) (le-leb (start_of bytes n) (length bytes) l)))

-- what the test states about the bytes
pub record IsWholeIn (bytes : List ℕ) : Type 0 where
  pub table : HasTable bytes (length bytes) (slice_count bytes) (slice_count bytes)
  pub whole : store_end bytes ≤ length bytes

pub whole_in : (bytes : List ℕ) → begins_store bytes ≡ true → IsWholeIn bytes
whole_in bytes h =
    let n = slice_count bytes in
    let p = and_parts (has_table bytes) (in_order bytes (length bytes) n && nat_le (store_end bytes) (length bytes)) h in
    let t = and_parts (word bytes 0 == 8 * (n + 1)) (nat_le (word bytes 0) (length bytes)) p.0 in
    let q = and_parts (in_order bytes (length bytes) n) (nat_le (store_end bytes) (length bytes)) p.1 in
    let first : word bytes 0 ≡ 8 * (n + 1) = eqb-true (word bytes 0) (8 * (n + 1)) t.0 in
    let fits : word bytes 0 ≤ length bytes = leb-true (word bytes 0) (length bytes) t.1 in
    record {
      table = record {
        first = first;
        fits = omega arith;
        ordered = λ i l. (order_at bytes (length bytes) n i q.0 l).0;
        within = λ i l. (order_at bytes (length bytes) n i q.0 l).1;
      };
      whole = leb-true (store_end bytes) (length bytes) q.1;
    }

-- slices start and end no earlier than the table's end, and in increasing order
start_after : (bytes : List ℕ) (limit n i : ℕ) → HasTable bytes limit n n → i ≤ n → 8 * (n + 1) ≤ start_of bytes i
start_after bytes limit n zero t l = let e = t.first in omega arith
start_after bytes limit n (suc i) t l =
    let k = start_after bytes limit n i t (omega arith) in
    let o = t.ordered i (omega arith) in
    omega arith

starts_rise : (bytes : List ℕ) (limit n i j : ℕ) → HasTable bytes limit n n → i ≤ n → j ≤ i → start_of bytes j ≤ start_of bytes i
starts_rise bytes limit n zero j t l m = let e : j ≡ 0 = omega arith in rw e (omega arith)
starts_rise bytes limit n (suc i) j t l m =
    let o = t.ordered i (omega arith) in
    ⊎_elim (λ (k : j < suc i). let h = starts_rise bytes limit n i j t (omega arith) (omega arith) in omega arith)
    (λ (k : suc i ≤ j). let e : j ≡ suc i = omega arith in rw e (omega arith))
    (cases_lt j (suc i))

-- each slice ends before the end of the whole
pub end_before : (bytes : List ℕ) (limit n i : ℕ) → HasTable bytes limit n n → i < n → end_of bytes i ≤ start_of bytes n
end_before bytes limit n i t l = let h = starts_rise bytes limit n n (suc i) t (omega arith) (omega arith) in omega arith

pub end_is_after : (bytes : List ℕ) (limit n : ℕ) → HasTable bytes limit n n → 8 * (n + 1) ≤ start_of bytes n
end_is_after bytes limit n t = start_after bytes limit n n t (omega arith)

start_whole : (bytes : List ℕ) (limit n i : ℕ) → HasTable bytes limit n n → start_of bytes i % 8 ≡ 0
start_whole bytes limit n zero t = let e = t.first in omega arith
start_whole bytes limit n (suc i) t = omega arith

-- bytes with a complete table that end where its last slice does are one store
one_by_table : (bytes : List ℕ) (n : ℕ) → HasTable bytes (length bytes) n n → length bytes ≡ start_of bytes n → IsOneStore bytes
one_by_table bytes n t e =
    let table : IsTable bytes n = record { first = t.first; fits = t.fits; placed = λ i l. record { ordered = t.ordered i l; within = t.within i l } } in
    record {
      store = store_of bytes n (legal_by_table bytes n (omega (arith, e, start_whole bytes (length bytes) n n t)) table);
      nothing_after = e ∙ ap (start_of bytes) (sym (count_of_table bytes (length bytes) n t));
    }

-- a beginning of the bytes with a complete table and all its slices is one store
pub one_in : (bytes : List ℕ) (limit n : ℕ) (first rest : List ℕ) → HasTable bytes limit n n → bytes ≡ first ++ rest → length first ≡ start_of bytes n → IsOneStore first
one_in bytes limit n first rest t e l =
    let k = end_is_after bytes limit n t in
    let starts : (i : ℕ) → i ≤ n → start_of bytes i ≡ start_of first i = λ i h. ap (λ bs. start_of bs i) e ∙ start-append first rest i (omega arith) in
    let ends : (i : ℕ) → i < n → end_of bytes i ≡ end_of first i = λ i h. ap (λ bs. end_of bs i) e ∙ end-append first rest i (omega arith) in
    one_by_table first n
    (record {
      first = sym (starts 0 (omega arith)) ∙ t.first;
      fits = omega arith;
      ordered = λ i h. let o = t.ordered i h in omega (arith, starts i (omega arith), ends i h);
      within = λ i h. omega (arith, end_before bytes limit n i t h, ends i h);
    })
    (l ∙ starts n (omega arith))

-- the first store, if the test finds one
pub first_one : (bytes : List ℕ) → begins_store bytes ≡ true → IsOneStore (take (store_end bytes) bytes)
first_one bytes h =
    let w = whole_in bytes h in
    one_in bytes (length bytes) (slice_count bytes) (take (store_end bytes) bytes) (drop (store_end bytes) bytes) w.table (sym (take-append-drop (store_end bytes) bytes))
    (length-take-le (store_end bytes) bytes w.whole)

-- the facts about one store
pub table_of_one : (s : List ℕ) → IsOneStore s → HasTable s (length s) (slice_count s) (slice_count s)
table_of_one s o =
    let t = o.store.framed.table in
    let c = length-framed_slices s in
    record {
      first = let e = t.first in omega (arith, c);
      fits = let e = t.fits in omega (arith, c);
      ordered = λ i l. let p = t.placed i (omega (arith, c)) in p.ordered;
      within = λ i l. let p = t.placed i (omega (arith, c)) in p.within;
    }

pub one_has_bytes : (s : List ℕ) → IsOneStore s → 8 ≤ length s
one_has_bytes s o = let t = table_of_one s o in let f = t.fits in omega arith

-- a store is read in the same way if more bytes follow
pub table_with_more : (s more : List ℕ) → IsOneStore s → HasTable (s ++ more) (length s) (slice_count s) (slice_count s)
table_with_more s more o =
    let t = table_of_one s o in
    let f = t.fits in
    let n = slice_count s in
    record {
      first = start-append s more 0 (omega arith) ∙ t.first;
      fits = omega (arith, length-append s more);
      ordered = λ i l. let p = t.ordered i l in omega (arith, start-append s more i (omega arith), end-append s more i (omega arith));
      within = λ i l. let p = t.within i l in omega (arith, end-append s more i (omega arith));
    }

pub end_with_more : (s more : List ℕ) → IsOneStore s → store_end (s ++ more) ≡ length s
end_with_more s more o =
    let t = table_with_more s more o in
    let f = (table_of_one s o).fits in
    ap (start_of (s ++ more)) (count_of_table (s ++ more) (length s) (slice_count s) t) ∙ start-append s more (slice_count s) (omega arith) ∙ sym o.nothing_after

pub begins_with : (s more : List ℕ) → IsOneStore s → begins_store (s ++ more) ≡ true
begins_with s more o =
    let t = table_with_more s more o in
    let c = count_of_table (s ++ more) (length s) (slice_count s) t in
    let e = end_with_more s more o in
    begins_from (s ++ more) (slice_count s)
    (record { first = t.first; fits = t.fits; ordered = t.ordered; within = λ i l. let w = t.within i l in omega (arith, length-append s more) })
    (let l : store_end (s ++ more) ≤ length (s ++ more) = omega (arith, e, length-append s more) in subst (λ n. start_of (s ++ more) n ≤ length (s ++ more)) c l)

first_with_more : (s more : List ℕ) → IsOneStore s → take (store_end (s ++ more)) (s ++ more) ≡ s
first_with_more s more o = take_at s more (store_end (s ++ more)) (sym (end_with_more s more o))

rest_with_more : (s more : List ℕ) → IsOneStore s → drop (store_end (s ++ more)) (s ++ more) ≡ more
rest_with_more s more o = drop_at s more (store_end (s ++ more)) (sym (end_with_more s more o))

-- if the test finds no store, there is none
pub none_begins : (bytes : List ℕ) → begins_store bytes ≡ false → BeginsStore bytes → ⊥
none_begins bytes h b =
    let t : begins_store bytes ≡ true = ap begins_store b.1.1.0 ∙ begins_with b.0 b.1.0 b.1.1.1 in
    let k : false ≡ true = sym h ∙ t in
    cc

pub some_begins : (bytes : List ℕ) → begins_store bytes ≡ true → BeginsStore bytes
some_begins bytes h = (take (store_end bytes) bytes, (drop (store_end bytes) bytes, (sym (take-append-drop (store_end bytes) bytes), first_one bytes h)))

pub false_begins : (bytes : List ℕ) → (BeginsStore bytes → ⊥) → begins_store bytes ≡ false
false_begins bytes h = false_from_ne_true (begins_store bytes) (λ t. h (some_begins bytes t))

-- two stores with which the same bytes begin are equal
pub one_first : (a b x y : List ℕ) → IsOneStore a → IsOneStore b → a ++ x ≡ b ++ y → a ≡ b
one_first a b x y p q e = sym (first_with_more a x p) ∙ ap (λ bs. take (store_end bs) bs) e ∙ first_with_more b y q

-- the first store has bytes
first_bytes : (bytes : List ℕ) → begins_store bytes ≡ true → 8 ≤ store_end bytes
first_bytes bytes h = let w = whole_in bytes h in let k = end_is_after bytes (length bytes) (slice_count bytes) w.table in omega arith

empty_none : (bytes : List ℕ) → length bytes ≡ 0 → begins_store bytes ≡ false
empty_none bytes e = false_from_ne_true (begins_store bytes) (λ h. let w = whole_in bytes h in let f = w.table.fits in omega arith)

rest_shorter : (bytes : List ℕ) (n : ℕ) → begins_store bytes ≡ true → length bytes ≤ suc n → length (drop (store_end bytes) bytes) ≤ n
rest_shorter bytes n h l = let k = first_bytes bytes h in omega (arith, length-drop (store_end bytes) bytes)

-- more steps than bytes change nothing
within_same : (n m : ℕ) (bytes : List ℕ) → length bytes ≤ n → length bytes ≤ m → (stores_within n bytes ≡ stores_within m bytes) × (rest_within n bytes ≡ rest_within m bytes)
within_same zero zero bytes l k = (refl, refl)
within_same zero (suc m) bytes l k =
    let e = empty_none bytes (omega arith) in
    (sym (cond-false (begins_store bytes) _ _ e), sym (cond-false (begins_store bytes) _ _ e))
within_same (suc n) zero bytes l k =
    let e = empty_none bytes (omega arith) in
    (cond-false (begins_store bytes) _ _ e, cond-false (begins_store bytes) _ _ e)
within_same (suc n) (suc m) bytes l k =
    ⊎_elim
    (λ (t : begins_store bytes ≡ true).
    let h = within_same n m (drop (store_end bytes) bytes) (rest_shorter bytes n t l) (rest_shorter bytes m t k) in (
      cond-true (begins_store bytes) _ _ t ∙ ap (λ ss. take (store_end bytes) bytes ∷ ss) h.0 ∙ sym (cond-true (begins_store bytes) _ _ t),
      cond-true (begins_store bytes) _ _ t ∙ h.1 ∙ sym (cond-true (begins_store bytes) _ _ t),
    ))
    (λ (f : begins_store bytes ≡ false). (
      cond-false (begins_store bytes) _ _ f ∙ sym (cond-false (begins_store bytes) _ _ f),
      cond-false (begins_store bytes) _ _ f ∙ sym (cond-false (begins_store bytes) _ _ f),
    ))
    (cases_Bool (begins_store bytes))

-- one more store, or none
pub stores_step : (bytes : List ℕ) → begins_store bytes ≡ true → (stores_in bytes ≡ take (store_end bytes) bytes ∷ stores_in (drop (store_end bytes) bytes)) × (rest_in bytes ≡ rest_in (drop (store_end bytes) bytes))
stores_step bytes t =
    let n = length bytes in
    let more = within_same n (suc n) bytes (omega arith) (omega arith) in
    let rest = drop (store_end bytes) bytes in
    let less = within_same n (length rest) rest (rest_shorter bytes n t (omega arith)) (omega arith) in (
      more.0 ∙ cond-true (begins_store bytes) _ _ t ∙ ap (λ ss. take (store_end bytes) bytes ∷ ss) less.0,
      more.1 ∙ cond-true (begins_store bytes) _ _ t ∙ less.1,
    )

pub stores_none : (bytes : List ℕ) → begins_store bytes ≡ false → (stores_in bytes ≡ []) × (rest_in bytes ≡ bytes)
stores_none bytes f =
    let n = length bytes in
    let more = within_same n (suc n) bytes (omega arith) (omega arith) in
    (more.0 ∙ cond-false (begins_store bytes) _ _ f, more.1 ∙ cond-false (begins_store bytes) _ _ f)

step_with : (s more : List ℕ) → IsOneStore s → (stores_in (s ++ more) ≡ s ∷ stores_in more) × (rest_in (s ++ more) ≡ rest_in more)
step_with s more o =
    let h = stores_step (s ++ more) (begins_with s more o) in
    let f = first_with_more s more o in
    let r = rest_with_more s more o in
    (h.0 ∙ ap₂ (λ (x : List ℕ) (y : List ℕ). x ∷ stores_in y) f r, h.1 ∙ ap rest_in r)

-- the first store, and what follows it
pub one_more : (bytes first rest : List ℕ) → begins_store bytes ≡ true → (first ≡ take (store_end bytes) bytes) × (rest ≡ drop (store_end bytes) bytes) → (stores_in bytes ≡ first ∷ stores_in rest) × (rest_in bytes ≡ rest_in rest)
one_more bytes first rest t p =
    let h = stores_step bytes t in
    (h.0 ∙ ap₂ (λ (x : List ℕ) (y : List ℕ). x ∷ stores_in y) (sym p.0) (sym p.1), h.1 ∙ ap rest_in (sym p.1))

-- consecutive stores are found again
pub found_again : (all : List (List ℕ)) (rest : List ℕ) → AreStores all → begins_store rest ≡ false → (stores_in (joined all ++ rest) ≡ all) × (rest_in (joined all ++ rest) ≡ rest)
found_again [] rest a f = stores_none rest f
found_again (s ∷ ss) rest a f =
    let h = found_again ss rest a.1 f in
    let w = step_with s (joined ss ++ rest) a.0 in
    let e : joined (s ∷ ss) ++ rest ≡ s ++ (joined ss ++ rest) = append_assoc s (joined ss) rest in
    (ap stores_in e ∙ w.0 ∙ ap (λ t. s ∷ t) h.0, ap rest_in e ∙ w.1 ∙ h.1)

pub found_all : (all : List (List ℕ)) → AreStores all → (stores_in (joined all) ≡ all) × (rest_in (joined all) ≡ [])
found_all all a =
    let h = found_again all [] a (empty_none [] refl) in
    let e : joined all ++ [] ≡ joined all = append-nil (joined all) in
    (ap stores_in (sym e) ∙ h.0, ap rest_in (sym e) ∙ h.1)

-- a beginning of one store, but not all of it, begins with no store
pub torn_begins_none : (torn tail : List ℕ) → IsOneStore (torn ++ tail) → 0 < length tail → begins_store torn ≡ false
torn_begins_none torn tail o l =
    false_from_ne_true (begins_store torn)
    (λ t.
    let w = whole_in torn t in
    let first = take (store_end torn) torn in
    let more = drop (store_end torn) torn in
    let e : torn ++ tail ≡ first ++ (more ++ tail) = ap (λ bs. bs ++ tail) (sym (take-append-drop (store_end torn) torn)) ∙ append_assoc first more tail in
    let n : length (torn ++ tail) ≡ length first = o.nothing_after ∙ ap store_end e ∙ end_with_more first (more ++ tail) (first_one torn t) in
    omega (arith, n, length-append torn tail, length-take-le (store_end torn) torn w.whole, w.whole))

-- some bytes at the end are missing
pub found_torn : (all : List (List ℕ)) (front back : List ℕ) → AreStores all → joined all ≡ front ++ back → 0 < length back → IsTornFrom all (stores_in front) (rest_in front)
found_torn [] front back a e l = let n : 0 ≡ length (front ++ back) = ap length e in absurd (omega (arith, n, length-append front back))
found_torn (s ∷ ss) front back a e l =
    let k = length front in
    ⊎_elim
    (λ (p : k < length s).
    let same : front ≡ take k s = sym (take_at front back k refl) ∙ ap (take k) (sym e) ∙ take-append-le k s (joined ss) (omega arith) in
    let tail = drop k s in
    let is : s ≡ front ++ tail = sym (take-append-drop k s) ∙ ap (λ bs. bs ++ tail) (sym same) in
    let size : 0 < length tail = omega (arith, length-drop k s) in
    let none = stores_none front (torn_begins_none front tail (subst IsOneStore is a.0) size) in
    (s, (ss, (tail, (ap (λ (t : List (List ℕ)). t ++ s ∷ ss) (sym none.0), (is ∙ ap (λ t. t ++ tail) (sym none.1), size))))))
    (λ (p : length s ≤ k).
    let n = length s in
    let same : s ≡ take n front = sym (take_at s (joined ss) n refl) ∙ ap (take n) e ∙ take-append-le n front back p in
    let more = drop n front in
    let is : front ≡ s ++ more = sym (take-append-drop n front) ∙ ap (λ bs. bs ++ more) (sym same) in
    let left : joined ss ≡ more ++ back = append_cancel_left s (joined ss) (more ++ back) (e ∙ ap (λ bs. bs ++ back) is ∙ append_assoc s more back) in
    let h = found_torn ss more back a.1 left l in
    let w = step_with s more a.0 in
    let stores : stores_in front ≡ s ∷ stores_in more = ap stores_in is ∙ w.0 in
    let rest : rest_in front ≡ rest_in more = ap rest_in is ∙ w.1 in
    (h.0, (h.1.0, (h.1.1.0, (ap (λ t. s ∷ t) h.1.1.1.0 ∙ ap (λ (t : List (List ℕ)). t ++ h.0 ∷ h.1.0) (sym stores), (h.1.1.1.1.0 ∙ ap (λ t. t ++ h.1.1.0) (sym rest), h.1.1.1.1.1))))))
    (cases_lt k (length s))

-- the stores and the rest make up the bytes, and the rest begins with no store
within_all : (n : ℕ) (bytes : List ℕ) → length bytes ≤ n → (joined (stores_within n bytes) ++ rest_within n bytes ≡ bytes) × (AreStores (stores_within n bytes) × (begins_store (rest_within n bytes) ≡ false))
within_all zero bytes l = (refl, (tt, empty_none bytes (omega arith)))
within_all (suc n) bytes l =
    let first = take (store_end bytes) bytes in
    let more = drop (store_end bytes) bytes in
    let P : List (List ℕ) → List ℕ → Type 0 = λ ss r. (joined ss ++ r ≡ bytes) × (AreStores ss × (begins_store r ≡ false)) in
    ⊎_elim
    (λ (t : begins_store bytes ≡ true).
    let h = within_all n more (rest_shorter bytes n t l) in
    let both : P (first ∷ stores_within n more) (rest_within n more) =
    (append_assoc first (joined (stores_within n more)) (rest_within n more) ∙ ap (λ bs. first ++ bs) h.0 ∙ take-append-drop (store_end bytes) bytes, ((first_one bytes t, h.1.0), h.1.1)) in
    subst (λ ss. P ss (rest_within (suc n) bytes)) (sym (cond-true (begins_store bytes) _ _ t))
    (subst (λ r. P (first ∷ stores_within n more) r) (sym (cond-true (begins_store bytes) _ _ t)) both))
    (λ (f : begins_store bytes ≡ false).
    let both : P [] bytes = (refl, (tt, f)) in
    subst (λ ss. P ss (rest_within (suc n) bytes)) (sym (cond-false (begins_store bytes) _ _ f))
    (subst (λ r. P [] r) (sym (cond-false (begins_store bytes) _ _ f)) both))
    (cases_Bool (begins_store bytes))

pub all_found : (bytes : List ℕ) → (joined (stores_in bytes) ++ rest_in bytes ≡ bytes) × (AreStores (stores_in bytes) × (begins_store (rest_in bytes) ≡ false))
all_found bytes = within_all (length bytes) bytes (omega arith)

-- written bytes are one store
pub one_written : (slices : List (List ℕ)) → 8 * length (words slices) < 2 ^ 64 → IsOneStore (store_bytes slices)
one_written slices b =
    let e = slices-store_bytes slices b in
    record {
      store = store-store_bytes slices b;
      nothing_after = (tight_words slices b).nothing_after ∙ ap (start_of (store_bytes slices)) (sym (ap (λ (t : List (List ℕ)). length t) e) ∙ length-framed_slices (store_bytes slices));
    }
