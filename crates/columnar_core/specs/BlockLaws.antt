-- Words that are put into a block in order, and the bytes of a block.
use Rattle.std.proofs.Common.{ℕ, List, [], ◌∷◌, ◌++◌, ◌≡◌, ◌<◌, ◌≤◌, ◌+◌, ◌-◌, ◌*◌, ◌/◌, length, map, take, drop, replicate, refl, sym, ◌∙◌, ap, arith, ⊎_elim}
use Rattle.std.proofs.Math.Path.{fun_ext}
use Rattle.std.specs.Prelude.{slice_set}
use Rattle.std.specs.List.{range_with_len}
use Rattle.std.proofs.lemmas.Bool.{cases_lt}
use Rattle.std.proofs.lemmas.List.{take_more_set, take-take, take-append-le, take-append-drop, drop-append-le, drop-drop, drop_all, length-drop}
use Rattle.std.proofs.lemmas.List.FromFn.{map-range_with_len_more}
use Rattle.columnar_core.specs.Bytes.{word, rounded, le_bytes, AreBytes}
use Rattle.columnar_core.specs.Words.{padded}
use Rattle.columnar_core.specs.WordLaws.{length-padded}
use Rattle.columnar_core.specs.ByteLaws.{bytes-padded, word-padded, bytes-words}

-- one more word
pub put_more : (f : ℕ → ℕ) (from i : ℕ) (xs : List ℕ) (w : ℕ) → i < length xs → w ≡ f (from + i) → take i xs ≡ map f (range_with_len from i) → take (i + 1) (slice_set xs i w) ≡ map f (range_with_len from (i + 1))
put_more f from i xs w l e h =
    take_more_set xs i w l ∙ ap (λ t. t ++ w ∷ []) h ∙ ap (λ v. map f (range_with_len from i) ++ v ∷ []) e
    ∙ sym (map-range_with_len_more f from i (from + i) refl)

-- the k bytes of the next n words: all that remain, or all of these words
pub filled_out : (s : List ℕ) (at n k : ℕ) (bs p : List ℕ) → AreBytes s → 8 * at ≤ length s → at + n ≤ (length s + 7) / 8 → k ≤ 8 * n → 8 * at + k ≤ length s → (8 * (at + n) ≤ length s → k ≡ 8 * n) → (length s < 8 * (at + n) → 8 * at + k ≡ length s) → bs ≡ le_bytes (map (word s) (range_with_len at n)) → p ≡ take k bs → drop (8 * at) s ≡ p ++ drop (8 * (at + n)) s
filled_out s at n k bs p h a l m z full last e q =
    let zeros : List ℕ = replicate (rounded (length s) - length s) 0 in
    let ys = drop (8 * at) s in
    let b : bs ≡ take (8 * n) (drop (8 * at) (padded s)) =
    e ∙ ap (λ f. le_bytes (map f (range_with_len at n))) (fun_ext (λ i. sym (word-padded s i)))
    ∙ bytes-words (padded s) at n (bytes-padded s h) (omega (arith, length-padded s, l)) in
    let r : p ≡ take k ys =
    q ∙ ap (take k) b ∙ take-take k (8 * n) (drop (8 * at) (padded s)) m ∙ ap (take k) (drop-append-le (8 * at) s zeros a)
    ∙ take-append-le k ys zeros (omega (arith, length-drop (8 * at) s, z)) in
    let rest : drop (8 * at + k) s ≡ drop (8 * (at + n)) s = ⊎_elim
    (λ (c : length s < 8 * (at + n)). drop_all (8 * at + k) s (omega (arith, last c)) ∙ sym (drop_all (8 * (at + n)) s (omega (arith, c))))
    (λ (c : 8 * (at + n) ≤ length s). ap (λ i. drop i s) (omega (arith, full c)))
    (cases_lt (length s) (8 * (at + n))) in
    sym (take-append-drop k ys) ∙ ap (λ t. t ++ drop k ys) (sym r) ∙ ap (λ t. p ++ t) (drop-drop k (8 * at) s ∙ rest)
