use Rattle.std.proofs.Common.{ℕ, zero, suc, List, [], ◌∷◌, ◌≡◌, ⊎_elim, ◌<◌, ◌≤◌, ◌+◌, ◌-◌, ◌*◌, ◌%◌, ◌^◌, length, map, get_or, take, drop, refl, sym, ◌∙◌, ap, arith, length-append}
use Rattle.std.specs.List.{flat_map, range_with_len}
use Rattle.std.proofs.lemmas.List.{ext_get_or, get_or-take, get_or-drop, length-take-le, length-drop}
use Rattle.std.proofs.lemmas.Bool.{cases_lt}
use Rattle.columnar_core.specs.Bytes.{word, rounded, le_bytes, AreBytes}
use Rattle.columnar_core.specs.Frame.{Frame, end_of, start_of}
use Rattle.columnar_core.specs.Words.{words, padded, store_bytes}
use Rattle.columnar_core.specs.WordLaws.{framed_words, at_words, start_word, from_of, from_shift, length-store_bytes, length-words, length-flat_padded, length-padded}
use Rattle.columnar_core.specs.ByteLaws.{bytes-words}
use Rattle.columnar_bytes.specs.Tight.{FramesTightly}

from_all : (start : ℕ) (slices : List (List ℕ)) → start % 8 ≡ 0 → from_of start slices (length slices) ≡ start + length (flat_map padded slices)
from_all start [] m = omega arith
from_all start (s ∷ ss) m =
    from_shift start s ss (length ss) ∙ from_all (rounded (start + length s)) ss (omega arith)
    ∙ omega (arith, length-append (padded s) (flat_map padded ss), length-padded s)

after : (slices : List (List ℕ)) → 8 * length (words slices) < 2 ^ 64 → length (store_bytes slices) ≡ start_of (store_bytes slices) (length slices)
after slices b =
    omega (arith, length-store_bytes slices, length-words slices, length-flat_padded slices, from_all (8 * (length slices + 1)) slices (omega arith), start_word slices (length slices) b (omega arith))

-- written bytes frame the slices tightly
pub tight_words : (slices : List (List ℕ)) → 8 * length (words slices) < 2 ^ 64 → FramesTightly (store_bytes slices) slices
tight_words slices b = record {
  framed = framed_words slices b;
  zeros = λ i j l e h. let p = at_words slices i b l in p.padding j e h;
  nothing_after = after slices b;
}

-- the end of a slice, from its length
end_is : (bytes : List ℕ) (slices : List (List ℕ)) (i : ℕ) → Frame bytes slices → i < length slices → end_of bytes i ≡ start_of bytes i + length (get_or slices i [])
end_is bytes slices i f l =
    let p = f.table.placed i l in
    let o = p.ordered in
    let w = p.within in
    let e : length (get_or slices i []) ≡ end_of bytes i - start_of bytes i =
    ap (λ (t : List ℕ). length t) (f.each i l) ∙ length-take-le (end_of bytes i - start_of bytes i) (drop (start_of bytes i) bytes) (omega (arith, length-drop (start_of bytes i) bytes)) in
    omega arith

same_start : (a b : List ℕ) (slices : List (List ℕ)) (i : ℕ) → Frame a slices → Frame b slices → i ≤ length slices → start_of a i ≡ start_of b i
same_start a b slices zero f g l = f.table.first ∙ sym g.table.first
same_start a b slices (suc i) f g l =
    ap rounded (end_is a slices i f (omega arith) ∙ ap (λ n. n + length (get_or slices i [])) (same_start a b slices i f g (omega arith)) ∙ sym (end_is b slices i g (omega arith)))

same_end : (a b : List ℕ) (slices : List (List ℕ)) (i : ℕ) → Frame a slices → Frame b slices → i < length slices → end_of a i ≡ end_of b i
same_end a b slices i f g l =
    end_is a slices i f l ∙ ap (λ n. n + length (get_or slices i [])) (same_start a b slices i f g (omega arith)) ∙ sym (end_is b slices i g l)

same_word : (a b : List ℕ) (slices : List (List ℕ)) (i : ℕ) → Frame a slices → Frame b slices → i ≤ length slices → word a i ≡ word b i
same_word a b slices zero f g l = f.table.first ∙ sym g.table.first
same_word a b slices (suc i) f g l =
    let e : i + 1 ≡ suc i = omega arith in
    ap (word a) (sym e) ∙ same_end a b slices i f g (omega arith) ∙ ap (word b) e

same_words : (a b : List ℕ) (slices : List (List ℕ)) (from n : ℕ) → Frame a slices → Frame b slices → from + n ≤ length slices + 1 → map (word a) (range_with_len from n) ≡ map (word b) (range_with_len from n)
same_words a b slices from zero f g l = refl
same_words a b slices from (suc n) f g l =
    ap (λ w. w ∷ map (word a) (range_with_len (from + 1) n)) (same_word a b slices from f g (omega arith))
    ∙ ap (λ ws. word b from ∷ ws) (same_words a b slices (from + 1) n f g (omega arith))

same_table : (a b : List ℕ) (slices : List (List ℕ)) (j : ℕ) → AreBytes a → AreBytes b → Frame a slices → Frame b slices → j < 8 * (length slices + 1) → get_or a j 0 ≡ get_or b j 0
same_table a b slices j p q f g l =
    let n = length slices + 1 in
    let m = f.table.fits in
    let o = g.table.fits in
    let e : take (8 * n) a ≡ take (8 * n) b =
    sym (bytes-words a 0 n p (omega arith)) ∙ ap le_bytes (same_words a b slices 0 n f g (omega arith)) ∙ bytes-words b 0 n q (omega arith) in
    sym (get_or-take (8 * n) a j 0 l) ∙ ap (λ (t : List ℕ). get_or t j 0) e ∙ get_or-take (8 * n) b j 0 l

in_slice : (bytes : List ℕ) (slices : List (List ℕ)) (i j : ℕ) → Frame bytes slices → i < length slices → start_of bytes i ≤ j → j < end_of bytes i → get_or bytes j 0 ≡ get_or (get_or slices i []) (j - start_of bytes i) 0
in_slice bytes slices i j f l s e =
    let start = start_of bytes i in
    let end = end_of bytes i in
    let k : start + (j - start) ≡ j = omega arith in
    sym (ap (λ (t : List ℕ). get_or t (j - start) 0) (f.each i l)
    ∙ get_or-take (end - start) (drop start bytes) (j - start) 0 (omega arith)
    ∙ get_or-drop start bytes (j - start) 0 ∙ ap (λ m. get_or bytes m 0) k)

same_below : (a b : List ℕ) (slices : List (List ℕ)) (i j : ℕ) → AreBytes a → AreBytes b → FramesTightly a slices → FramesTightly b slices → i ≤ length slices → j < start_of a i → get_or a j 0 ≡ get_or b j 0
same_below a b slices zero j p q f g l h = let e = f.framed.table.first in same_table a b slices j p q f.framed g.framed (omega arith)
same_below a b slices (suc i) j p q f g l h =
    let s = same_start a b slices i f.framed g.framed (omega arith) in
    let e = same_end a b slices i f.framed g.framed (omega arith) in
    ⊎_elim (λ (x : j < start_of a i). same_below a b slices i j p q f g (omega arith) x)
    (λ (x : start_of a i ≤ j).
    ⊎_elim
    (λ (y : j < end_of a i).
    in_slice a slices i j f.framed (omega arith) x y
    ∙ ap (λ m. get_or (get_or slices i []) (j - m) 0) s
    ∙ sym (in_slice b slices i j g.framed (omega arith) (omega arith) (omega arith)))
    (λ (y : end_of a i ≤ j). f.zeros i j (omega arith) y h ∙ sym (g.zeros i j (omega arith) (omega arith) (omega arith)))
    (cases_lt j (end_of a i)))
    (cases_lt j (start_of a i))

-- only one store frames the slices tightly
pub tight_once : (a b : List ℕ) (slices : List (List ℕ)) → AreBytes a → AreBytes b → FramesTightly a slices → FramesTightly b slices → a ≡ b
tight_once a b slices p q f g =
    ext_get_or 0 a b (f.nothing_after ∙ same_start a b slices (length slices) f.framed g.framed (omega arith) ∙ sym g.nothing_after)
    (λ j l. same_below a b slices (length slices) j p q f g (omega arith) (let e = f.nothing_after in omega arith))
