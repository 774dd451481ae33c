-- The written bytes of a column are one store of its rows.
use Rattle.std.proofs.Common.{ℕ, Bool, false, List, [], ◌∷◌, ◌++◌, ◌≡◌, ◌<◌, ◌*◌, ◌^◌, length, refl, sym, ap, ◌∙◌, subst}
use Rattle.std.specs.Prelude.{Result, Ok, Err, IfOk, IsOk, OnOk}
use Rattle.columnar_bytes.specs.Accepted.{Accepts}
use Rattle.columnar_core.specs.AlikeLaws.{row_eq_exact}
use Rattle.columnar_core.specs.Change.{Took}
use Rattle.columnar_core.specs.ChangeLaws.{grew_exactly}
use Rattle.columnar_core.specs.Format.{Format, Content, IsExact, IsSound, slices_of}
use Rattle.columnar_core.specs.Frame.{framed_slices}
use Rattle.columnar_core.specs.Row.{Row, row_eq}
use Rattle.columnar_core.specs.TupleLaws.{pair_exact}
use Rattle.columnar_core.specs.Tuples.{pair_alike}
use Rattle.columnar_lists.specs.Lists.{list_alike}
use Rattle.columnar_core.specs.Words.{words, store_bytes}
use Rattle.columnar_bytes.specs.StreamLaws.{one_written}
use Rattle.columnar_core.specs.WordLaws.{length-store_bytes}
use Rattle.columnar_lists.specs.CutLaws.{list_exact}
use Rattle.event_log.specs.Batches.{IsStoreOf}

pub store_made : (f : Format) (c : Content) (held bs : List ℕ) → held ≡ [] → bs ≡ held ++ store_bytes (slices_of c) → length (store_bytes (slices_of c)) < 2 ^ 64
    → Accepts f (store_bytes (slices_of c)) → f.build (framed_slices (store_bytes (slices_of c))) ≡ c → IsStoreOf f (f.rows c) bs
store_made f c held bs none wrote short accepted same =
    let e : bs ≡ store_bytes (slices_of c) = wrote ∙ ap (λ h. h ++ store_bytes (slices_of c)) none in
    rw e (record {
      one = one_written (slices_of c) (rw (length-store_bytes (slices_of c)) at short);
      accepted = accepted;
      held = ap (λ x. f.rows x) same;
    })

-- a pushed row is the last row
pub row_added : {f : Format} {old new : Content} {r : Row} → IsExact f.alike → Took f old new (r ∷ []) → f.rows new ≡ f.rows old ++ (r ∷ [])
row_added e t = (grew_exactly e t).rows

-- what a successful call ensures
pub done_of : {T E P : Type 0} (r : Result T E) → IsOk r → OnOk r P → P
done_of (Ok x) h p = p
done_of (Err e) h p = cc

pub kept_row : {T E U F P Q : Type 0} (kept : Result T E) (pushed : Result U F) → OnOk kept (IsOk pushed) → OnOk pushed P → (P → Q) → IfOk kept (λ u. Q)
kept_row (Ok x) pushed k p h = h (done_of pushed k p)
kept_row (Err e) pushed k p h = tt

-- a row of the four columns represents an item if and only if they are equal
pub columns_exact : IsExact (pair_alike row_eq (pair_alike (list_alike row_eq) (pair_alike row_eq (list_alike row_eq))))
columns_exact =
    let texts = list_exact row_eq row_eq_exact in
    pair_exact row_eq _ row_eq_exact (pair_exact (list_alike row_eq) _ texts (pair_exact row_eq (list_alike row_eq) row_eq_exact texts))
