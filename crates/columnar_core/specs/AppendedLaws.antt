-- Elements are read from bytes one after the other, in the end all of them.
use Rattle.std.proofs.Common.{◌≡◌, ℕ, suc, ◌+◌, ◌*◌, List, [], ◌∷◌, ◌++◌, take, drop, map, zero, refl, sym, ◌∙◌, arith, append-nil, append_assoc}
use Rattle.std.specs.List.{flat_map}
use Rattle.std.proofs.lemmas.List.{take-map}
use Rattle.columnar_base.specs.Row.{Row}
use Rattle.columnar_base.specs.Elements.{elements, elements_rows, IsElement}
use Rattle.columnar_base.specs.ElementLaws.{rows_typed, read_more}
use Rattle.columnar_core.specs.Appended.{Appended}

pub map_drop : {A B : Type 0} (f : A → B) (n : ℕ) (xs : List A) → drop n (map f xs) ≡ map f (drop n xs)
map_drop f zero xs = refl
map_drop f (suc n) [] = refl
map_drop f (suc n) (x ∷ xs) = map_drop f n xs

pub appended_none : {T : Type 0} (bytes : T → List ℕ) (old new : List T) (size : ℕ) (bs : List ℕ) → new ≡ old → Appended bytes old new (take (size * 0) bs)
appended_none bytes old new size bs h = let e : size * 0 ≡ 0 = omega arith in record { fresh = []; items = h ∙ sym (append-nil old); same = rw e refl }

pub appended_more : {T : Type 0} {bytes : T → List ℕ} {old mid new : List T} (size i : ℕ) (x : T) (bs : List ℕ) → bytes x ≡ take size (drop (size * i) bs) → Appended bytes old mid (take (size * i) bs) → new ≡ mid ++ x ∷ [] → Appended bytes old new (take (size * (i + 1)) bs)
appended_more {T} {bytes} {old} size i x bs h a e =
    record {
      fresh = a.fresh ++ x ∷ [];
      items = e ∙ (rw a.items (append_assoc old a.fresh (x ∷ [])));
      same = read_more bytes size i a.fresh (a.fresh ++ x ∷ []) x bs a.same h refl;
    }

-- all bytes are read into an empty `Vec`
pub appended_all : {T : Type 0} {bytes : T → List ℕ} {old new : List T} {bs : List ℕ} → old ≡ [] → Appended bytes old new bs → flat_map bytes new ≡ bs
appended_all {T} {bytes} e a = rw (a.items, e) a.same

-- the rows of a range of elements
pub piece_means : {T : Type 0} {size : ℕ} {bytes : T → List ℕ} {row_of : List ℕ → Row} {meaning : T → Row} → IsElement size bytes row_of meaning → (xs ys : List T) (start n : ℕ) → ys ≡ take n (drop start xs) → map meaning ys ≡ take n (drop start (elements_rows size row_of (elements bytes xs)))
piece_means {T} {size} {bytes} {row_of} {meaning} e xs ys start n h =
    let d : drop start (map meaning xs) ≡ map meaning (drop start xs) = map_drop meaning start xs in
    rw (h, rows_typed e xs, d) (sym (take-map meaning n (drop start xs)))
