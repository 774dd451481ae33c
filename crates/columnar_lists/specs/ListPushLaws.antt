-- The effect of a push of a list: its items were taken, then its end was taken or refused.
use Rattle.std.proofs.Common.{◌≡◌, ℕ, ◌+◌, List, [], ◌∷◌, ◌⊎◌, inl, inr, length, map, ap, ◌∙◌, arith}
use Rattle.std.specs.Prelude.{Option, Result, Ok, Err, OnOk, IfErr}
use Rattle.std.specs.Iterator.{Drains, Yields}
use Rattle.columnar_base.specs.Row.{Row, list, number}
use Rattle.columnar_base.specs.Format.{Format, Content, both, IsSound, IsLawful}
use Rattle.columnar_base.specs.Change.{Took, Refused, WasCut, IsTrueOf}
use Rattle.columnar_base.specs.AlikeLaws.{alike_length}
use Rattle.std.proofs.lemmas.List.{length-append, length-map}
use Rattle.columnar_base.specs.ChangeLaws.{undone, unchanged}
use Rattle.columnar_base.specs.declared.fault.GrowError.{GrowError}
use Rattle.columnar_core.specs.Bounds.{IsBounds}
use Rattle.columnar_lists.specs.Lists.{lists_format}
use Rattle.columnar_lists.specs.ListLaws.{lists_parts, list_took, list_refused_values, list_refused_bounds}

-- the number of rows after growth
took_count : {f : Format} {x y : Content} {us : List Row} → Took f x y us → length (f.rows y) ≡ length (f.rows x) + length us
took_count {f} {x} {y} {us} g = let n = ap length g.grew.rows in omega (arith, n, length-append (f.rows x) g.fresh, alike_length f.alike g.fresh us g.alike)

-- the values refused the items, and the bounds stayed
pub items_not_taken : (b t : Format) {x y y' : Content} {us : List Row} {error : GrowError} → IsSound (lists_format b t) (both x y) → Refused t y y' us error → Refused (lists_format b t) (both x y) (both x y') (list us ∷ []) error
items_not_taken b t s h = list_refused_values b t s (unchanged (lists_parts b t s).bounds) h

-- the bounds took the end
pub list_ended : (b t : Format) {x x' y mid y' : Content} {us : List Row} → IsBounds b → IsSound (lists_format b t) (both x y) → Took t y mid us → Took b x x' (number (length (t.rows mid)) ∷ []) × (y' ≡ mid) → Took (lists_format b t) (both x y) (both x' y') (list us ∷ [])
list_ended b t nb s g p = rw p.1 (list_took b t nb s g p.0)

-- the bounds refused the end, and the items were removed
pub list_not_ended : (b t : Format) {x x' y mid y' : Content} {us : List Row} {error : GrowError} (before : ℕ) → before ≡ length (t.rows y) → IsLawful t → IsSound (lists_format b t) (both x y) → Took t y mid us → Refused b x x' (number (length (t.rows mid)) ∷ []) error × WasCut t mid y' before → Refused (lists_format b t) (both x y) (both x' y') (list us ∷ []) error
list_not_ended b t before e law s g p = list_refused_bounds b t s g p.0 (undone law (lists_parts b t s).values g.grew (rw e at p.1))

-- the same, stated for the result of the call
pub on_list_ended : {A : Type 0} (r : Result A GrowError) (b t : Format) {x y mid : Content} (x' y' : Content) {us : List Row} → IsBounds b → IsSound (lists_format b t) (both x y) → Took t y mid us → OnOk r (Took b x x' (number (length (t.rows mid)) ∷ []) × (y' ≡ mid)) → OnOk r (Took (lists_format b t) (both x y) (both x' y') (list us ∷ []))
on_list_ended (Ok v) b t x' y' nb s g h = list_ended b t nb s g h
on_list_ended (Err e) b t x' y' nb s g h = h

pub on_list_refused : {A : Type 0} (r : Result A GrowError) (b t : Format) {x y mid : Content} (x' y' : Content) {us : List Row} (before : ℕ) → before ≡ length (t.rows y) → IsLawful t → IsSound (lists_format b t) (both x y) → Took t y mid us → IfErr r (λ e. Refused b x x' (number (length (t.rows mid)) ∷ []) e × WasCut t mid y' before) → IfErr r (λ e. Refused (lists_format b t) (both x y) (both x' y') (list us ∷ []) e)
on_list_refused (Ok v) b t x' y' before e law s g h = h
on_list_refused (Err error) b t x' y' before e law s g h = list_not_ended b t before e law s g h

-- the same for the items of an iterator
pub on_drained : {A S T : Type 0} (r : Result A GrowError) (b t : Format) {x y mid : Content} (x' y' : Content) (steps : S → Option T → S → Type 0) (items : S) (meaning : T → Row) (xs : List T) → IsBounds b → IsSound (lists_format b t) (both x y) → Drains steps items xs → Took t y mid (map meaning xs) → OnOk r (Took b x x' (number (length (t.rows mid)) ∷ []) × (y' ≡ mid)) → OnOk r ((ys : List T) × (Drains steps items ys × Took (lists_format b t) (both x y) (both x' y') (list (map meaning ys) ∷ [])))
on_drained (Ok v) b t x' y' steps items meaning xs nb s d g h = (xs, (d, list_ended b t nb s g h))
on_drained (Err e) b t x' y' steps items meaning xs nb s d g h = h

pub on_not_drained : {A S T : Type 0} (r : Result A GrowError) (b t : Format) {x y mid : Content} (x' y' : Content) (before : ℕ) (steps : S → Option T → S → Type 0) (items : S) (meaning : T → Row) (xs : List T) → before ≡ length (t.rows y) → IsLawful t → IsSound (lists_format b t) (both x y) → Drains steps items xs → Took t y mid (map meaning xs) → IfErr r (λ e. Refused b x x' (number (length (t.rows mid)) ∷ []) e × WasCut t mid y' before) → IfErr r (λ e. (ys : List T) × (rest : S) × (Yields steps items ys rest × Refused (lists_format b t) (both x y) (both x' y') (list (map meaning ys) ∷ []) e))
on_not_drained (Ok v) b t x' y' before steps items meaning xs e law s d g h = h
on_not_drained (Err error) b t x' y' before steps items meaning xs e law s d g h = (xs, d.1.0, (d.1.1, list_not_ended b t before e law s g h))

-- the bounds refused the end of all items
pub on_end_refused : {A S T : Type 0} (r : Result A GrowError) (b t : Format) {y mid : Content} (x x' y' : Content) (before : ℕ) (steps : S → Option T → S → Type 0) (items : S) (meaning : T → Row) (xs : List T) → Drains steps items xs → Took t y mid (map meaning xs) → IfErr r (λ e. Refused b x x' (number (length (t.rows mid)) ∷ []) e × WasCut t mid y' before) → IfErr r (λ e. (ys : List T) × (((rest : S) × (Yields steps items ys rest × IsTrueOf e t y (map meaning ys))) ⊎ (Drains steps items ys × IsTrueOf e b x (number (length (t.rows y) + length ys) ∷ []))))
on_end_refused (Ok v) b t x x' y' before steps items meaning xs d g h = h
on_end_refused (Err error) b t {y} {mid} x x' y' before steps items meaning xs d g h =
    let n : length (t.rows mid) ≡ length (t.rows y) + length xs = took_count g ∙ ap (λ (k : ℕ). length (t.rows y) + k) (length-map xs meaning) in
    (xs, inr (d, rw n at h.0.cause))
