-- The texts and the flaws of the items of a list, one after the other.
use Rattle.std.proofs.Common.{◌≡◌, ℕ, zero, suc, ◌+◌, ◌-◌, ◌<◌, ◌≤◌, Bool, true, false, List, [], ◌∷◌, ◌++◌, length, take, drop, refl, sym, ◌∙◌, ap, subst, arith, append_assoc, append-nil}
use Rattle.std.specs.Prelude.{map, codes, nat_eq, Ok, Err}
use Rattle.std.specs.List.{flat_map}
use Rattle.std.proofs.lemmas.Bool.{eq-eqb, eqb-true}
use Rattle.columnar_base.specs.Row.{Row}
use Rattle.columnar_syntax.specs.declared.schema.Schema.{Schema}
use Rattle.columnar_json.specs.Json.{between, commas, flaws_of, json_of, row_at}
use Rattle.columnar_json.specs.Stored.{comma, items_flaws, items_json}
use Rattle.columnar_json.specs.Pieces.{Appended, Piece, plain}
use Rattle.columnar_json.specs.Written.{WroteRow}
use Rattle.columnar_json.specs.WrittenLaws.{appended_both, flaw_more}
use Rattle.columnar_json.specs.declared.unwritten.Unwritten.{Unwritten}

-- whether a list is empty
nothing : {A : Type 0} → List A → Bool
nothing [] = true
nothing (x ∷ xs) = false

abbrev after_comma : List Piece → List Piece
after_comma u = plain (codes ",") ++ u

later_more : (ts : List (List Piece)) (t : List Piece) → flat_map after_comma (ts ++ (t ∷ [])) ≡ flat_map after_comma ts ++ after_comma t
later_more [] t = append-nil (after_comma t)
later_more (s ∷ ts) t = ap (λ z. after_comma s ++ z) (later_more ts t) ∙ sym (append_assoc (after_comma s) (flat_map after_comma ts) (after_comma t))

commas_more : (ts : List (List Piece)) (t : List Piece) → commas (ts ++ (t ∷ [])) ≡ commas ts ++ (plain (comma (nothing ts)) ++ t)
unfolding nothing
commas_more [] t = append-nil t
commas_more (s ∷ ts) t = ap (λ z. s ++ z) (later_more ts t) ∙ sym (append_assoc s (flat_map after_comma ts) (after_comma t))

map_more : {A B : Type 0} (f : A → B) (xs : List A) (x : A) → map f (xs ++ (x ∷ [])) ≡ map f xs ++ (f x ∷ [])
map_more f [] x = refl
map_more f (y ∷ xs) x = ap (λ z. f y ∷ z) (map_more f xs x)

pub flat_more : {A B : Type 0} (f : A → List B) (xs : List A) (x : A) → flat_map f (xs ++ (x ∷ [])) ≡ flat_map f xs ++ f x
flat_more f [] x = append-nil (f x)
flat_more f (y ∷ xs) x = ap (λ z. f y ++ z) (flat_more f xs x) ∙ sym (append_assoc (f y) (flat_map f xs) (f x))

nothing_map : {A B : Type 0} (f : A → B) (xs : List A) → nothing (map f xs) ≡ nothing xs
unfolding nothing
nothing_map f [] = refl
nothing_map f (x ∷ xs) = refl

-- one more row
pub take_more : (rs : List Row) (l n i : ℕ) → i ≡ l + n → i < length rs → take (suc n) (drop l rs) ≡ take n (drop l rs) ++ (row_at rs i ∷ [])
take_more [] l n i e h = absurd (omega arith)
take_more (r ∷ rs) zero zero zero e h = refl
take_more (r ∷ rs) zero zero (suc i) e h = absurd (omega arith)
take_more (r ∷ rs) zero (suc n) zero e h = absurd (omega arith)
take_more (r ∷ rs) zero (suc n) (suc i) e h = ap (λ z. r ∷ z) (take_more rs zero n i (omega arith) (omega arith))
take_more (r ∷ rs) (suc l) n zero e h = absurd (omega arith)
take_more (r ∷ rs) (suc l) n (suc i) e h = take_more rs l n i (omega arith) (omega arith)

-- no rows were taken where none were wanted
none_taken : (rs : List Row) (l n : ℕ) (b : Bool) → l + n < length rs → (b ≡ true → n ≡ 0) → (b ≡ false → ¬ (n ≡ 0)) → nothing (take n (drop l rs)) ≡ b
unfolding nothing
none_taken [] l n b h p q = absurd (omega arith)
none_taken (r ∷ rs) zero zero true h p q = refl
none_taken (r ∷ rs) zero zero false h p q = absurd (q refl refl)
none_taken (r ∷ rs) zero (suc n) true h p q = let e = p refl in cc
none_taken (r ∷ rs) zero (suc n) false h p q = refl
none_taken (r ∷ rs) (suc l) n b h p q = none_taken rs l n b (omega arith) p q

-- the text grows by a comma, except before the first item, and an item
items_more : (t : Schema) (rs : List Row) (l n i : ℕ) (b : Bool) → i ≡ l + n → i < length rs → (b ≡ true → n ≡ 0) → (b ≡ false → ¬ (n ≡ 0)) → items_json t rs l (suc n) ≡ items_json t rs l n ++ (plain (comma b) ++ json_of t (row_at rs i))
items_more t rs l n i b e h p q =
    let xs = take n (drop l rs) in
    let x = row_at rs i in
    let e1 : items_json t rs l (suc n) ≡ commas (map (json_of t) (xs ++ (x ∷ []))) = ap (λ zs. commas (map (json_of t) zs)) (take_more rs l n i e h) in
    let e2 : commas (map (json_of t) (xs ++ (x ∷ []))) ≡ commas (map (json_of t) xs ++ (json_of t x ∷ [])) = ap commas (map_more (json_of t) xs x) in
    let e3 = commas_more (map (json_of t) xs) (json_of t x) in
    let e4 : nothing (map (json_of t) xs) ≡ b = nothing_map (json_of t) xs ∙ none_taken rs l n b (omega (arith, e, h)) p q in
    e1 ∙ (e2 ∙ (e3 ∙ ap (λ c. commas (map (json_of t) xs) ++ (plain (comma c) ++ json_of t x)) e4))

flaws_more : (t : Schema) (rs : List Row) (l n i : ℕ) → i ≡ l + n → i < length rs → items_flaws t rs l (suc n) ≡ items_flaws t rs l n ++ flaws_of t (row_at rs i)
flaws_more t rs l n i e h = ap (flat_map (flaws_of t)) (take_more rs l n i e h) ∙ flat_more (flaws_of t) (take n (drop l rs)) (row_at rs i)

-- what is written of the items before item i
pub record Items (t : Schema) (rs : List Row) (l i : ℕ) (old new : List ℕ) : Type 0 where
  pub text : Appended old new (items_json t rs l (i - l))
  pub flawless : items_flaws t rs l (i - l) ≡ []

-- a turn of the loop
pub more_items : (t : Schema) (rs : List Row) (l i : ℕ) (old mid new : List ℕ) → l ≤ i → i < length rs → Items t rs l i old mid → WroteRow mid new (between (comma (nat_eq i l)) [] (json_of t (row_at rs i))) (flaws_of t (row_at rs i)) (Ok tt) → Items t rs l (i + 1) old new
more_items t rs l i old mid new o h v w =
    let b = nat_eq i l in
    let k : i ≡ l + (i - l) = omega (arith, o) in
    let m : (i + 1) - l ≡ suc (i - l) = omega (arith, o) in
    let x = json_of t (row_at rs i) in
    let c = items_more t rs l (i - l) i b k h (λ z. let y : i ≡ l = eqb-true i l z in omega (arith, y)) (λ z y. let x : i ≡ l = omega (arith, y, o) in let v = eq-eqb i l x in cc) in
    let f = flaws_more t rs l (i - l) i k h in
    record {
      text = rw (m, c) (subst (λ (z : List Piece). Appended old new (items_json t rs l (i - l) ++ (plain (comma b) ++ z))) (append-nil x) (appended_both old mid new (items_json t rs l (i - l)) (plain (comma b) ++ (x ++ [])) v.text w.0));
      flawless = rw (m, f, v.flawless) w.1;
    }

-- the flaws of all items are those of the items up to one, and of the later ones
flaws_split : (t : Schema) (rs : List Row) (n m : ℕ) → n ≤ m → (rest : List Unwritten) × (flat_map (flaws_of t) (take m rs) ≡ flat_map (flaws_of t) (take n rs) ++ rest)
flaws_split t rs zero m h = (flat_map (flaws_of t) (take m rs), refl)
flaws_split t rs (suc n) zero h = absurd (omega arith)
flaws_split t [] (suc n) (suc m) h = ([], refl)
flaws_split t (r ∷ rs) (suc n) (suc m) h =
    let k = flaws_split t rs n m (omega arith) in
    (k.0, ap (λ z. flaws_of t r ++ z) k.1 ∙ sym (append_assoc (flaws_of t r) (flat_map (flaws_of t) (take n rs)) k.0))

-- an item failed
pub item_failed : (t : Schema) (rs : List Row) (l u i : ℕ) (old mid new : List ℕ) (e : Unwritten) → l ≤ i → i < u → i < length rs → Items t rs l i old mid → WroteRow mid new (between (comma (nat_eq i l)) [] (json_of t (row_at rs i))) (flaws_of t (row_at rs i)) (Err e) → WroteRow old new (items_json t rs l (u - l)) (items_flaws t rs l (u - l)) (Err e)
item_failed t rs l u i old mid new e o h k v w =
    let p : i ≡ l + (i - l) = omega (arith, o) in
    let f : items_flaws t rs l (suc (i - l)) ≡ flaws_of t (row_at rs i) = flaws_more t rs l (i - l) i p k ∙ ap (λ z. z ++ flaws_of t (row_at rs i)) v.flawless in
    let s = flaws_split t (drop l rs) (suc (i - l)) (u - l) (omega (arith, o, h)) in
    let g : items_flaws t rs l (u - l) ≡ flaws_of t (row_at rs i) ++ s.0 = s.1 ∙ ap (λ z. z ++ s.0) f in
    (record { more = v.text.0 ++ w.0.more; grown = w.0.grown ∙ (ap (λ z. z ++ w.0.more) v.text.1.0 ∙ append_assoc old v.text.0 w.0.more) }, rw g (flaw_more (flaws_of t (row_at rs i)) s.0 e w.1))
