-- One pass over the bounds accepts if and only if the rule of trees holds.
use Rattle.std.proofs.Common.{◌≡◌, ℕ, zero, suc, ◌+◌, ◌-◌, ◌<◌, ◌≤◌, true, false, ◌&&◌, List, [], ◌∷◌, length, refl, sym, ◌∙◌, ap, arith, inl, inr, get_or, drop}
use Rattle.std.proofs.Math.Seq.{drop-cons, drop-length}
use Rattle.std.specs.Prelude.{nat_eq, nat_le, slice_index}
use Rattle.std.proofs.lemmas.Bool.{and_parts, and_from, eq-eqb, eqb-true, le-leb, cases_eq, ne_eqb, false≢true}
use Rattle.columnar_nested.specs.Layout.{IsTreeRule, own_places, keeps}
use Rattle.columnar_nested.specs.LayoutLaws.{rule_passed, passed_rule}
use Rattle.columnar_nested.specs.Pass.{is_nil, follow, accepts}

own-here : (j b : ℕ) (bs : List ℕ) → b ≡ j → own_places j (b ∷ bs) ≡ j ∷ own_places (suc j) bs
own-here j b bs e = let t : nat_eq b j ≡ true = eq-eqb b j e in rw t refl

own-not : (j b : ℕ) (bs : List ℕ) → (b ≡ j → ⊥) → own_places j (b ∷ bs) ≡ own_places (suc j) bs
own-not j b bs e = let t : nat_eq b j ≡ false = ne_eqb b j e in rw t refl

pub follow-skip : (j last b : ℕ) (bs gs : List ℕ) (n : ℕ) → (b ≡ j → ⊥) → follow j last (b ∷ bs) gs n ≡ (nat_le last b && (nat_le j b && follow (suc j) b bs gs n))
follow-skip j last b bs [] n e = let t : nat_eq b j ≡ false = ne_eqb b j e in rw t refl
follow-skip j last b bs (g ∷ gs) n e = let t : nat_eq b j ≡ false = ne_eqb b j e in rw t refl

pub follow-meet : (j last b g : ℕ) (bs gs : List ℕ) (n : ℕ) → b ≡ j → follow j last (b ∷ bs) (g ∷ gs) n ≡ (nat_le last b && (nat_le j b && (nat_eq g j && follow (suc j) b bs gs n)))
follow-meet j last b g bs gs n e = let t : nat_eq b j ≡ true = eq-eqb b j e in rw t refl

pub follow-lack : (j last b : ℕ) (bs : List ℕ) (n : ℕ) → b ≡ j → follow j last (b ∷ bs) [] n ≡ (nat_le last b && (nat_le j b && false))
follow-lack j last b bs n e = let t : nat_eq b j ≡ true = eq-eqb b j e in rw t refl

lack-absurd : (j last b : ℕ) (bs : List ℕ) (n : ℕ) → b ≡ j → follow j last (b ∷ bs) [] n ≡ true → ⊥
lack-absurd j last b bs n e h =
    let x = rw (follow-lack j last b bs n e) at h in
    false≢true (and_parts (nat_le j b) false (and_parts (nat_le last b) (nat_le j b && false) x).1).1

nil-of : (gs : List ℕ) → is_nil gs ≡ true → gs ≡ []
nil-of [] h = refl
nil-of (g ∷ gs) h = absurd (false≢true h)

-- after node j
rest-kept : (bs : List ℕ) (j b : ℕ) (gs : List ℕ) (n : ℕ) → follow (suc j) b bs gs n ≡ true → (keeps j b bs n ≡ true) × (gs ≡ own_places (suc j) bs)
rest-kept [] j b gs n h =
    let p = and_parts (nat_eq b n) (nat_eq (suc j) (suc n) && is_nil gs) h in
    let q = and_parts (nat_eq (suc j) (suc n)) (is_nil gs) p.1 in
    let e : suc j ≡ suc n = eqb-true (suc j) (suc n) q.0 in
    (and_from _ _ p.0 (eq-eqb j n (omega (arith, e))), nil-of gs q.1)
rest-kept (c ∷ cs) j b [] n h = elim (cases_eq c (suc j)) [
  | inl e ↦ absurd (lack-absurd (suc j) b c cs n e h)
  | inr e ↦
      let p = and_parts (nat_le b c) (nat_le (suc j) c && follow (suc (suc j)) c cs [] n) (rw (follow-skip (suc j) b c cs [] n e) at h) in
      let q = and_parts (nat_le (suc j) c) (follow (suc (suc j)) c cs [] n) p.1 in
      let r = rest-kept cs (suc j) c [] n q.1 in
      (and_from _ _ (and_from _ _ p.0 q.0) r.0, r.1 ∙ sym (own-not (suc j) c cs e))
]
rest-kept (c ∷ cs) j b (g ∷ gs) n h = elim (cases_eq c (suc j)) [
  | inl e ↦
      let p = and_parts (nat_le b c) (nat_le (suc j) c && (nat_eq g (suc j) && follow (suc (suc j)) c cs gs n)) (rw (follow-meet (suc j) b c g cs gs n e) at h) in
      let q = and_parts (nat_le (suc j) c) (nat_eq g (suc j) && follow (suc (suc j)) c cs gs n) p.1 in
      let m = and_parts (nat_eq g (suc j)) (follow (suc (suc j)) c cs gs n) q.1 in
      let r = rest-kept cs (suc j) c gs n m.1 in
      let s : g ≡ suc j = eqb-true g (suc j) m.0 in
      (and_from _ _ (and_from _ _ p.0 q.0) r.0, (ap (λ x. x ∷ gs) s ∙ ap (λ x. suc j ∷ x) r.1) ∙ sym (own-here (suc j) c cs e))
  | inr e ↦
      let p = and_parts (nat_le b c) (nat_le (suc j) c && follow (suc (suc j)) c cs (g ∷ gs) n) (rw (follow-skip (suc j) b c cs (g ∷ gs) n e) at h) in
      let q = and_parts (nat_le (suc j) c) (follow (suc (suc j)) c cs (g ∷ gs) n) p.1 in
      let r = rest-kept cs (suc j) c (g ∷ gs) n q.1 in
      (and_from _ _ (and_from _ _ p.0 q.0) r.0, r.1 ∙ sym (own-not (suc j) c cs e))
]

kept-rest : (bs : List ℕ) (j b n : ℕ) → keeps j b bs n ≡ true → follow (suc j) b bs (own_places (suc j) bs) n ≡ true
kept-rest [] j b n h =
    let p = and_parts (nat_eq b n) (nat_eq j n) h in
    let e : j ≡ n = eqb-true j n p.1 in
    and_from _ _ p.0 (and_from _ _ (eq-eqb (suc j) (suc n) (omega (arith, e))) refl)
kept-rest (c ∷ cs) j b n h =
    let p = and_parts (nat_le b c && nat_le (suc j) c) (keeps (suc j) c cs n) h in
    let q = and_parts (nat_le b c) (nat_le (suc j) c) p.0 in
    let r = kept-rest cs (suc j) c n p.1 in
    elim (cases_eq c (suc j)) [
      | inl e ↦ ap (λ x. follow (suc j) b (c ∷ cs) x n) (own-here (suc j) c cs e) ∙ (follow-meet (suc j) b c (suc j) cs (own_places (suc (suc j)) cs) n e ∙ and_from _ _ q.0 (and_from _ _ q.1 (and_from _ _ (eq-eqb (suc j) (suc j) refl) r)))
      | inr e ↦ ap (λ x. follow (suc j) b (c ∷ cs) x n) (own-not (suc j) c cs e) ∙ (follow-skip (suc j) b c cs (own_places (suc (suc j)) cs) n e ∙ and_from _ _ q.0 (and_from _ _ q.1 r))
    ]

-- if the pass accepts, the rule holds
pub accepts_rule : (gs bs : List ℕ) (n : ℕ) → accepts gs bs n ≡ true → IsTreeRule gs bs n
accepts_rule gs [] n h = absurd (false≢true h)
accepts_rule [] (b ∷ bs) n h =
    let p = and_parts (nat_eq b 0) (follow 0 0 (b ∷ bs) [] n) h in
    absurd (lack-absurd 0 0 b bs n (eqb-true b 0 p.0) p.1)
accepts_rule (g ∷ gs) (b ∷ bs) n h =
    let p = and_parts (nat_eq b 0) (follow 0 0 (b ∷ bs) (g ∷ gs) n) h in
    let z : b ≡ 0 = eqb-true b 0 p.0 in
    let q = and_parts (nat_le 0 b) (nat_le 0 b && (nat_eq g 0 && follow 1 b bs gs n)) (rw (follow-meet 0 0 b g bs gs n z) at p.1) in
    let r = and_parts (nat_le 0 b) (nat_eq g 0 && follow 1 b bs gs n) q.1 in
    let s = and_parts (nat_eq g 0) (follow 1 b bs gs n) r.1 in
    let t = rest-kept bs 0 b gs n s.1 in
    let u : g ≡ 0 = eqb-true g 0 s.0 in
    passed_rule (record {
      keep = and_from _ _ p.0 t.0;
      at_own_places = (ap (λ x. x ∷ gs) u ∙ ap (λ x. 0 ∷ x) t.1) ∙ sym (own-here 0 b bs z);
    })

pub rule_accepts : (gs bs : List ℕ) (n : ℕ) → IsTreeRule gs bs n → accepts gs bs n ≡ true
rule_accepts gs [] n h = let c = h.count in absurd (omega (arith, c))
rule_accepts gs (b ∷ bs) n h =
    let k = rule_passed h in
    let p = and_parts (nat_eq b 0) (keeps 0 b bs n) k.keep in
    let z : b ≡ 0 = eqb-true b 0 p.0 in
    let r = kept-rest bs 0 b n p.1 in
    and_from _ _ p.0 (ap (λ x. follow 0 0 (b ∷ bs) x n) (k.at_own_places ∙ own-here 0 b bs z) ∙ (follow-meet 0 0 b 0 bs (own_places 1 bs) n z ∙ and_from _ _ (le-leb 0 b (omega arith)) (and_from _ _ (le-leb 0 b (omega arith)) (and_from _ _ refl r))))

-- one step of the pass
pub turn_meet : (xs gs : List ℕ) (j last met n : ℕ) → j < length xs → last ≤ get_or xs j 0 → get_or xs j 0 ≡ j → met < length gs → get_or gs met 0 ≡ get_or xs j 0
    → follow j last (drop j xs) (drop met gs) n ≡ follow (j + 1) (get_or xs j 0) (drop (j + 1) xs) (drop (met + 1) gs) n
turn_meet xs gs j last met n h l e m g =
    let a = drop-cons xs j 0 h in
    let b = drop-cons gs met 0 m in
    let p : nat_le last (get_or xs j 0) ≡ true = le-leb last (get_or xs j 0) l in
    let q : nat_le j (get_or xs j 0) ≡ true = le-leb j (get_or xs j 0) (omega (arith, e)) in
    let r : nat_eq (get_or gs met 0) j ≡ true = eq-eqb (get_or gs met 0) j (g ∙ e) in
    let s : j + 1 ≡ suc j = omega arith in
    let t : met + 1 ≡ suc met = omega arith in
    rw (a, b, s, t) (follow-meet j last (get_or xs j 0) (get_or gs met 0) (drop (suc j) xs) (drop (suc met) gs) n e ∙ rw (p, q, r) refl)

pub turn_skip : (xs gs : List ℕ) (j last n : ℕ) → j < length xs → last ≤ get_or xs j 0 → j < get_or xs j 0
    → follow j last (drop j xs) gs n ≡ follow (j + 1) (get_or xs j 0) (drop (j + 1) xs) gs n
turn_skip xs gs j last n h l e =
    let a = drop-cons xs j 0 h in
    let p : nat_le last (get_or xs j 0) ≡ true = le-leb last (get_or xs j 0) l in
    let q : nat_le j (get_or xs j 0) ≡ true = le-leb j (get_or xs j 0) (omega (arith, e)) in
    let s : j + 1 ≡ suc j = omega arith in
    rw (a, s) (follow-skip j last (get_or xs j 0) (drop (suc j) xs) gs n (λ f. omega (arith, e, f)) ∙ rw (p, q) refl)

nil-drop : (gs : List ℕ) (met : ℕ) → met ≤ length gs → is_nil (drop met gs) ≡ nat_eq met (length gs)
nil-drop [] zero h = refl
nil-drop [] (suc met) h = absurd (omega (arith, h))
nil-drop (g ∷ gs) zero h = sym (ne_eqb 0 (suc (length gs)) (λ e. omega (arith, e)))
nil-drop (g ∷ gs) (suc met) h = elim (cases_eq met (length gs)) [
  | inl e ↦ nil-drop gs met (omega (arith, h)) ∙ (eq-eqb met (length gs) e ∙ sym (eq-eqb (suc met) (suc (length gs)) (omega (arith, e))))
  | inr e ↦ nil-drop gs met (omega (arith, h)) ∙ (ne_eqb met (length gs) e ∙ sym (ne_eqb (suc met) (suc (length gs)) (λ f. e (omega (arith, f)))))
]

pub turn_end : (xs gs : List ℕ) (j last met n : ℕ) → j ≡ length xs → met ≤ length gs → follow j last (drop j xs) (drop met gs) n ≡ (nat_eq last n && (nat_eq j (suc n) && nat_eq met (length gs)))
turn_end xs gs j last met n h m =
    let a : drop j xs ≡ [] = rw h (drop-length xs) in
    let b = nil-drop gs met m in
    ap (λ x. follow j last x (drop met gs) n) a ∙ ap (λ x. nat_eq last n && (nat_eq j (suc n) && x)) b

-- one step, with the bound b that was read: it starts a tree, or it does not
pub met_one : (xs gs : List ℕ) (j last met n b : ℕ) → b ≡ slice_index xs j → j < length xs → last ≤ b → b ≡ j → met < length gs → slice_index gs met ≡ b
    → follow j last (drop j xs) (drop met gs) n ≡ follow (j + 1) b (drop (j + 1) xs) (drop (met + 1) gs) n
met_one xs gs j last met n b e h l q m k = turn_meet xs gs j last met n h (omega (arith, e, l)) (sym e ∙ q) m (k ∙ e) ∙ ap (λ x. follow (j + 1) x (drop (j + 1) xs) (drop (met + 1) gs) n) (sym e)

pub met_none : (xs gs : List ℕ) (j last met n b : ℕ) → b ≡ slice_index xs j → j < length xs → last ≤ b → j < b
    → follow j last (drop j xs) (drop met gs) n ≡ follow (j + 1) b (drop (j + 1) xs) (drop met gs) n
met_none xs gs j last met n b e h l k = turn_skip xs (drop met gs) j last n h (omega (arith, e, l)) (omega (arith, e, k)) ∙ ap (λ x. follow (j + 1) x (drop (j + 1) xs) (drop met gs) n) (sym e)

-- all bounds were read
pub met_all : (xs gs : List ℕ) (j last met n : ℕ) → j ≡ length xs → met ≤ length gs → last ≡ n → length xs ≡ suc n → follow j last (drop j xs) (drop met gs) n ≡ nat_eq met (length gs)
met_all xs gs j last met n h m e c =
    let p : nat_eq last n ≡ true = eq-eqb last n e in
    let q : nat_eq j (suc n) ≡ true = eq-eqb j (suc n) (h ∙ c) in
    turn_end xs gs j last met n h m ∙ rw (p, q) refl
