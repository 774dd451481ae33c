-- Variants made from the parts of an older form represent the same rows.
use Rattle.std.proofs.Common.{◌≡◌, ℕ, zero, suc, ◌+◌, ◌<◌, ◌≤◌, List, [], length, take, refl, sym, ◌∙◌, ap, arith, ⊎_elim, inl, inr}
use Rattle.std.specs.Prelude.{slice_index_or, ◌⊎◌}
use Rattle.std.proofs.Math.Seq.{take-length}
use Rattle.std.proofs.lemmas.Bool.{or_left, or_right}
use Rattle.std.proofs.lemmas.List.{nil_from_length}
use Rattle.columnar_core.specs.Row.{Row, unit}
use Rattle.columnar_core.specs.Format.{Format, Content, both, IsSound}
use Rattle.columnar_core.specs.Change.{IsTrueOf}
use Rattle.columnar_core.specs.ChangeLaws.{true_from}
use Rattle.columnar_core.specs.TwoPartsLaws.{two_form}
use Rattle.columnar_core.specs.Elements.{past_count}
use Rattle.columnar_core.specs.Earlier.{IsEarlier, IsTrueOfNew, IsMadeOf}
use Rattle.columnar_core.specs.EarlierLaws.{earlier_le}
use Rattle.columnar_core.specs.declared.fault.GrowError.{GrowError}
use Rattle.columnar_sums.specs.Discriminants.{times, variants_of}
use Rattle.columnar_sums.specs.DiscriminantLaws.{times_most}
use Rattle.columnar_variants.specs.Variants.{Bank, IsBank, leaf, join, leaf_table, join_table, of_case, chosen, variants_format}
use Rattle.columnar_variants.specs.VariantLaws.{variants_parts, variants_sound, variants_number, length-chosen, chosen-same, beside_parts}
use Rattle.columnar_variants.specs.VariantRows.{IsBare}
use Rattle.columnar_variants.specs.VariantRowLaws.{beside_sound}
use Rattle.columnar_variants.specs.VariantCopyLaws.{of_chosen}
use Rattle.columnar_variants.specs.LawfulVariantLaws.{variants_form}
use Rattle.columnar_variants.specs.BankLaws.{same_leaf, same_join, same_variants}
use Rattle.columnar_variants.specs.BankEarlier.{IsEarlierBank, IsBankMadeOf, IsBankCause, IsTrueOfBare}
use Rattle.columnar_sums.specs.Results.{beside_format}
use Rattle.columnar_sums.specs.ResultLaws.{beside_two}

-- laws

pub earlier_leaf : (a' a : Format) → IsEarlier a' a → IsEarlierBank (leaf a') (leaf a)
earlier_leaf a' a h = ⊎_elim (λ (l : a'.count < a.count). inl l) (λ (e : a' ≡ a). inr (same_leaf e)) h

earlier_bank_le : (b' b : Bank) → IsEarlierBank b' b → b'.sides.count ≤ b.sides.count
earlier_bank_le b' b h = ⊎_elim (λ (l : b'.sides.count < b.sides.count). omega arith) (λ (e : b' ≡ b). let k : b'.sides.count ≡ b.sides.count = ap (λ (c : Bank). c.sides.count) e in omega arith) h

pub earlier_join : (a' a : Format) (b' b : Bank) → IsEarlier a' a → IsEarlierBank b' b → IsEarlierBank (join a' b') (join a b)
earlier_join a' a b' b g h =
    let m = earlier_le a' a g in
    let n = earlier_bank_le b' b h in
    ⊎_elim (λ (l : a'.count < a.count). inl (omega arith))
    (λ (e : a' ≡ a). ⊎_elim (λ (l : b'.sides.count < b.sides.count). inl (omega arith)) (λ (d : b' ≡ b). inr (same_join e d)) h)
    g

pub earlier_variants : (b' b : Bank) → IsEarlierBank b' b → IsEarlier (variants_format b') (variants_format b)
earlier_variants b' b h = ⊎_elim (λ (l : b'.sides.count < b.sides.count). inl (omega arith)) (λ (e : b' ≡ b). inr (same_variants e)) h

pub leaf_made : (a' a : Format) {x y : Content} → IsMadeOf a' a x y → IsBankMadeOf (leaf a') (leaf a) x y
leaf_made a' a {x} {y} t = record { sound = t.sound; values = values_at a' a x y t.rows }
  where
    values_at : (a' a : Format) (x y : Content) → a.rows y ≡ a'.rows x → (v : ℕ) → leaf_table a y v ≡ leaf_table a' x v
    values_at a' a x y h zero = h
    values_at a' a x y h (suc v) = refl

pub join_made : (a' a : Format) (b' b : Bank) {x x' y y' : Content} → IsMadeOf a' a x x' → IsBankMadeOf b' b y y' → IsBankMadeOf (join a' b') (join a b) (both x y) (both x' y')
join_made a' a b' b {x} {x'} {y} {y'} t u = record { sound = beside_sound a b.sides t.sound u.sound; values = values_at a' a b' b x x' y y' t.rows u.values }
  where
    values_at : (a' a : Format) (b' b : Bank) (x x' y y' : Content) → a.rows x' ≡ a'.rows x → ((v : ℕ) → b.table y' v ≡ b'.table y v) → (v : ℕ) → join_table a b (both x' y') v ≡ join_table a' b' (both x y) v
    values_at a' a b' b x x' y y' h k zero = h
    values_at a' a b' b x x' y y' h k (suc v) = k v

pub whole_made : (b' b : Bank) → IsBank b' → IsBank b → b'.size ≡ b.size → {x y z : Content} → IsSound (variants_format b') (both x z) → IsBankMadeOf b' b x y → IsMadeOf (variants_format b') (variants_format b) (both x z) (both y z)
whole_made b' b law' law e {x} {y} {z} s t =
    let p = variants_parts b' s in
    let vs = variants_of z in
    record {
      sound = variants_sound b (record { parts = t.sound; forms = p.forms; below = rw e at p.below; told = law.tells_back y (λ v. times v vs) t.sound (λ v l. ap length (t.values v) ∙ variants_number b' law' s v (let q = e in omega (arith, l, q))) });
      rows = chosen-same (b.table y) (b'.table x) [] vs (λ v o l. ap (λ rs. slice_index_or rs o unit) (t.values v));
    }

-- why it could not be made

pub leaf_not : (a : Format) {f : ℕ → List Row} {error : GrowError} → IsTrueOfNew error a (f 0) → IsTrueOfBare error (leaf a) f
leaf_not a {f} {error} h = λ x s e. record { format = a; content = x; asked = f 0; cause = h x s (nil_from_length (a.rows x) (e 0 (omega arith))); passes = λ w n l q. rw (l 0 (omega arith)) q }

pub first_not : (a : Format) (b : Bank) {f : ℕ → List Row} {error : GrowError} → IsTrueOfNew error a (f 0) → IsTrueOfBare error (join a b) f
first_not a b {f} {error} h = λ c s e.
    let t = two_form (beside_two a b.sides) c s in
    let x = t.left in
    let y = t.right in
    let s' : IsSound (beside_format a b.sides) (both x y) = rw t.is at s in
    let e' : IsBare (join a b) (both x y) = rw t.is at e in
    let q : IsBankCause (join a b) (both x y) f error = record {
      format = a;
      content = x;
      asked = f 0;
      cause = h x (beside_parts a b.sides s').0 (nil_from_length (a.rows x) (e' 0 (omega arith)));
      passes = λ w n l k. or_left (a.refuses w x (n 0) (f 0)) (b.refuses w y (λ v. n (suc v)) (λ v. f (suc v))) (rw (l 0 (omega arith)) k);
    } in
    rw t.is q

pub later_not : (a : Format) (b : Bank) {f : ℕ → List Row} {error : GrowError} → IsTrueOfBare error b (λ v. f (suc v)) → IsTrueOfBare error (join a b) f
later_not a b {f} {error} h = λ c s e.
    let t = two_form (beside_two a b.sides) c s in
    let x = t.left in
    let y = t.right in
    let s' : IsSound (beside_format a b.sides) (both x y) = rw t.is at s in
    let e' : IsBare (join a b) (both x y) = rw t.is at e in
    let u = h y (beside_parts a b.sides s').1 (λ v l. e' (suc v) (omega arith)) in
    let q : IsBankCause (join a b) (both x y) f error = record {
      format = u.format;
      content = u.content;
      asked = u.asked;
      cause = u.cause;
      passes = λ w n l k. or_right (a.refuses w x (n 0) (f 0)) (b.refuses w y (λ v. n (suc v)) (λ v. f (suc v))) (u.passes w (λ v. n (suc v)) (λ v i. l (suc v) (omega arith)) k);
    } in
    rw t.is q

-- the values of the rows of a variant are those of its column
values_are : (b : Bank) → IsBank b → {x z : Content} → IsSound (variants_format b) (both x z) → (v : ℕ) → v < b.size → of_case v ((variants_format b).rows (both x z)) ≡ b.table x v
values_are b law {x} {z} s v l =
    let n = variants_number b law s v l in
    of_chosen (b.table x) v [] (variants_of z) (omega (arith, n)) ∙ (ap (λ k. take k (b.table x v)) (sym n) ∙ take-length (b.table x v))

pub whole_not : (b' b : Bank) → IsBank b' → IsBank b → b'.size ≡ b.size → {x z : Content} (error : GrowError) → IsSound (variants_format b') (both x z) → IsTrueOfBare error b (b'.table x) → IsTrueOfNew error (variants_format b) ((variants_format b').rows (both x z))
whole_not b' b law' law e {x} {z} error s h = λ c u i.
    let t = variants_form b c u in
    let y = t.left in
    let w = t.right in
    let u' : IsSound (variants_format b) (both y w) = rw t.is at u in
    let i' : (variants_format b).rows (both y w) ≡ [] = rw t.is at i in
    let p = variants_parts b u' in
    let ws = variants_of w in
    let rs = (variants_format b').rows (both x z) in
    let n : length (chosen (b.table y) [] ws) ≡ length ws = length-chosen (b.table y) [] ws in
    let no : length (chosen (b.table y) [] ws) ≡ 0 = ap length i' in
    let all : take (length (chosen (b.table y) [] ws)) ws ≡ ws = ap (λ k. take k ws) n ∙ take-length ws in
    let bare : IsBare b y = λ v l. let k = variants_number b law u' v l in let m = times_most v ws in omega (arith, k, m, n, no) in
    let q = h y p.parts bare in
    let g : IsTrueOf error (variants_format b) (both y w) rs = true_from q.format (variants_format b) q.content (both y w) q.asked rs error (λ k j. or_right (past_count k (length (chosen (b.table y) [] ws) + length rs)) (b.refuses k y (λ v. times v (take (length (chosen (b.table y) [] ws)) ws)) (λ v. of_case v rs))
    (law.agrees k y (λ v. times v (take (length (chosen (b.table y) [] ws)) ws)) (λ v. times v (take (length (chosen (b.table y) [] ws)) ws)) (λ v. of_case v rs) (b'.table x) (λ v l. refl) (λ v l. values_are b' law' s v (let m = e in omega (arith, l, m)))
    ∙ q.passes k (λ v. times v (take (length (chosen (b.table y) [] ws)) ws)) (λ v l. ap (times v) all ∙ sym (variants_number b law u' v l)) j)) q.cause in
    rw t.is g
