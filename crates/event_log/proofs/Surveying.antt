-- The stores of a log, one at a time.
use Rattle.std.proofs.Common.{ℕ, Bool, true, false, List, [], ◌∷◌, ◌++◌, ◌≡◌, ◌≤◌, ◌+◌, ◌-◌, ◌%◌, ◌^◌, length, take, drop, refl, sym, ap, ◌∙◌, arith, append_assoc, append-nil, length-append}
use Rattle.std.specs.List.{All}
use Rattle.std.proofs.lemmas.Grind.{flat_map-append}
use Rattle.std.proofs.lemmas.List.Folds.{concat-append}
use Rattle.std.proofs.lemmas.List.Elements.{All-nil, All-push}
use Rattle.columnar_bytes.specs.Accepted.{Accepts, IsFirstFault}
use Rattle.columnar_core.specs.Format.{Format}
use Rattle.columnar_bytes.specs.Streams.{store_end, begins_store, joined, AreStores, IsOneStore, stores_in, rest_in}
use Rattle.columnar_bytes.specs.StreamLaws.{all_found, found_all, one_more, stores_none}
use Rattle.columnar_core.specs.declared.fault.StoreFault.{StoreFault}
use Rattle.event_log.specs.Batches.{store_rows}
use Rattle.event_log.specs.Counting.{AreCounted}
use Rattle.event_log.specs.Logs.{rows_of_stores, AreSurveyed, IsFound, IsWholeLog, IsForeign, IsForeignAt, IsForeignStore}
use Rattle.event_log.specs.Tables.{begins_with_table, table_bytes}
use Rattle.event_log.specs.Uses.{IsFoundBehind}
use Rattle.event_log.specs.declared.counts.Counts.{Counts}
use Rattle.event_log.specs.declared.survey.Foreign.{Foreign}
use Rattle.event_log.specs.declared.survey.Foreign.TheVariants.{Store, Tail}
use Rattle.event_log.proofs.Counting.{both_counted}

pub none_surveyed : (f : Format) (bytes : List ℕ) (counts : Counts) → AreCounted [] counts → AreSurveyed f bytes bytes 0 counts
none_surveyed f bytes counts none = record { done = []; stores = refl; tail = refl; accepted = All-nil (Accepts f); number = refl; counted = none }

-- the store is the first of the rest
pub record IsNext (rest store after : List ℕ) : Type 0 where
  pub begins : begins_store rest ≡ true
  pub parts : (store ≡ take (store_end rest) rest) × (after ≡ drop (store_end rest) rest)

one_store : (done : List (List ℕ)) (bytes rest store after : List ℕ) → stores_in bytes ≡ done ++ stores_in rest → IsNext rest store after → stores_in bytes ≡ done ++ store ∷ stores_in after
one_store done bytes rest store after e n = e ∙ ap (λ ss. done ++ ss) (one_more rest store after n.begins n.parts).0

-- the sums of two counts
pub record IsBoth (a b c : Counts) : Type 0 where
  pub debug : c.debug ≡ (a.debug + b.debug) % 2 ^ 64
  pub info : c.info ≡ (a.info + b.info) % 2 ^ 64
  pub warn : c.warn ≡ (a.warn + b.warn) % 2 ^ 64
  pub error : c.error ≡ (a.error + b.error) % 2 ^ 64

pub one_surveyed : (f : Format) (bytes rest store after : List ℕ) (batches next : ℕ) (a b c : Counts) → AreSurveyed f bytes rest batches a → IsNext rest store after → Accepts f store
    → AreCounted (store_rows f store) b → next ≡ (batches + 1) % 2 ^ 64 → IsBoth a b c → AreSurveyed f bytes after next c
one_surveyed f bytes rest store after batches next a b c s n ok counted more both =
    let number = s.number in
    let longer = length-append s.done (store ∷ []) in
    let rows : rows_of_stores f (s.done ++ (store ∷ [])) ≡ rows_of_stores f s.done ++ store_rows f store =
    flat_map-append (store_rows f) s.done (store ∷ []) ∙ ap (λ rs. rows_of_stores f s.done ++ rs) (append-nil (store_rows f store)) in
    record {
      done = s.done ++ (store ∷ []);
      stores = one_store s.done bytes rest store after s.stores n ∙ sym (append_assoc s.done (store ∷ []) (stores_in after));
      tail = s.tail ∙ (one_more rest store after n.begins n.parts).1;
      accepted = All-push (Accepts f) s.done store s.accepted ok;
      number = omega (arith, number, longer, more);
      counted = rw rows (both_counted (rows_of_stores f s.done) (store_rows f store) a b c s.counted counted both.debug both.info both.warn both.error);
    }

pub one_foreign : (f : Format) (bytes rest store after : List ℕ) (batches next : ℕ) (counts : Counts) (fault : StoreFault) → AreSurveyed f bytes rest batches counts → IsNext rest store after
    → (Accepts f store → ⊥) → IsFirstFault f store fault → next ≡ (batches + 1) % 2 ^ 64 → IsForeignStore f bytes next fault
one_foreign f bytes rest store after batches next counts fault s n none first more =
    let number = s.number in
    record {
      done = s.done;
      store = store;
      later = stores_in after;
      stores = one_store s.done bytes rest store after s.stores n;
      accepted = s.accepted;
      refused = none;
      first = first;
      number = omega (arith, number, more);
    }

-- if no store starts with the rest, all of them were processed
pub all_surveyed : (f : Format) (bytes rest : List ℕ) (batches : ℕ) (counts : Counts) → AreSurveyed f bytes rest batches counts → begins_store rest ≡ false → IsWholeLog f bytes batches counts rest
all_surveyed f bytes rest batches counts s none =
    let h = stores_none rest none in
    let e : stores_in bytes ≡ s.done = s.stores ∙ ap (λ ss. s.done ++ ss) h.0 ∙ append-nil s.done in
    record {
      accepted = rw e s.accepted;
      number = s.number ∙ ap (λ ss. length ss % 2 ^ 64) (sym e);
      counted = rw e s.counted;
      tail_is = sym (s.tail ∙ h.1);
    }

-- why the first store of the rest is not a batch, for all bytes
pub foreign_at : (f : Format) (bytes rest store after : List ℕ) (batches next : ℕ) (counts : Counts) → AreSurveyed f bytes rest batches counts → IsNext rest store after → next ≡ (batches + 1) % 2 ^ 64
    → (e : Foreign) → IsForeignAt f store next e → IsForeign f bytes e
foreign_at f bytes rest store after batches next counts s n more (Store count fault) h = one_foreign f bytes rest store after batches count counts fault s n h.1.0 h.1.1 (h.0 ∙ more)
foreign_at f bytes rest store after batches next counts s n more (Tail at) h = absurd h

-- the bytes after the stores are no longer than all bytes
pub tail_short : (f : Format) (bytes : List ℕ) (batches : ℕ) (counts : Counts) (tail : List ℕ) → IsWholeLog f bytes batches counts tail → length tail ≤ length bytes
tail_short f bytes batches counts tail w =
    let same = ap (λ (t : List ℕ). length t) w.tail_is in
    let all = ap (λ (t : List ℕ). length t) (all_found bytes).0 in
    let both = length-append (joined (stores_in bytes)) (rest_in bytes) in
    omega (arith, same, all, both)

-- the report on a tail, whether or not a batch could start with it
pub found_of : (f : Format) (bytes : List ℕ) (batches : ℕ) (counts : Counts) (tail : List ℕ) → IsWholeLog f bytes batches counts tail → begins_with_table (table_bytes f) tail ≡ true
    → IsFound f bytes (record { batches = batches; counts = counts; whole = length bytes - length tail; torn = length tail })
found_of f bytes batches counts tail w b =
    let same = ap (λ (t : List ℕ). length t) w.tail_is in
    let short = tail_short f bytes batches counts tail w in
    record {
      whole_log = record { accepted = w.accepted; number = w.number; counted = w.counted; tail_is = refl };
      torn = same;
      whole = omega (arith, same, short);
      begins = rw w.tail_is at b;
    }

pub foreign_tail : (f : Format) (bytes : List ℕ) (batches : ℕ) (counts : Counts) (tail : List ℕ) → IsWholeLog f bytes batches counts tail → begins_with_table (table_bytes f) tail ≡ false
    → IsForeign f bytes (Tail (length bytes - length tail))
foreign_tail f bytes batches counts tail w b =
    let same = ap (λ (t : List ℕ). length t) w.tail_is in
    let short = tail_short f bytes batches counts tail w in
    (w.accepted, omega (arith, same, short), rw w.tail_is at b)

one_more_store : (ss : List (List ℕ)) (s : List ℕ) → AreStores ss → IsOneStore s → AreStores (ss ++ (s ∷ []))
one_more_store [] s a o = (o, tt)
one_more_store (t ∷ ss) s a o = (a.0, one_more_store ss s a.1 o)

-- after stores and nothing else, one more store is the last one
pub found_behind : (old batch : List ℕ) → rest_in old ≡ [] → IsOneStore batch → IsFoundBehind old batch
found_behind old batch none one =
    let all = all_found old in
    let front : joined (stores_in old) ≡ old = sym (append-nil (joined (stores_in old))) ∙ ap (λ r. joined (stores_in old) ++ r) (sym none) ∙ all.0 in
    let both : joined (stores_in old ++ (batch ∷ [])) ≡ old ++ batch =
    concat-append (stores_in old) (batch ∷ []) ∙ ap (λ x. x ++ joined (batch ∷ [])) front ∙ ap (λ x. old ++ x) (append-nil batch) in
    let found = found_all (stores_in old ++ (batch ∷ [])) (one_more_store (stores_in old) batch all.1.0 one) in
    (ap stores_in (sym both) ∙ found.0, ap rest_in (sym both) ∙ found.1)
