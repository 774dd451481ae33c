-- The steps of writing to a writer, or to a list.
use Rattle.std.proofs.Common.{ℕ, List, [], ◌++◌, ◌≡◌, ◌+◌, length, length-append, arith, refl, sym, ◌∙◌, ap, append_assoc, subst, ◌<◌, Option, Some, None}
use Rattle.std.proofs.lemmas.List.{append-nil}
use Rattle.std.specs.Io.KnownBytes.{Appends, Keeps}
use Rattle.columnar_core.specs.Sent.{WentOut, AppendsBeginning}

pub appends_both : (o m n : Option (List ℕ)) (front bs : List ℕ) → Appends o m front → Appends m n bs → Appends o n (front ++ bs)
appends_both None m n front bs p q = tt
appends_both (Some xs) None n front bs p q = absurd p
appends_both (Some xs) (Some ys) None front bs p q = absurd q
appends_both (Some xs) (Some ys) (Some zs) front bs p q = q ∙ ap (λ t. t ++ bs) p ∙ append_assoc xs front bs

pub appends_none : (o : Option (List ℕ)) → Appends o o []
appends_none None = tt
appends_none (Some xs) = sym (append-nil xs)

pub appends_kept : (o m n : Option (List ℕ)) (bs : List ℕ) → Appends o m bs → Keeps m n → Appends o n bs
appends_kept None m n bs p q = tt
appends_kept (Some xs) None n bs p q = absurd p
appends_kept (Some xs) (Some ys) None bs p q = absurd q
appends_kept (Some xs) (Some ys) (Some zs) bs p q = q ∙ p

pub sent_none : (o : Option (List ℕ)) (all : List ℕ) → WentOut o o all all
sent_none o all = record { front = []; split = refl; appended = appends_none o }

pub sent_more : (o m n : Option (List ℕ)) (rest bs after all : List ℕ) → WentOut o m rest all → rest ≡ bs ++ after → Appends m n bs → WentOut o n after all
sent_more o m n rest bs after all w e p = record {
  front = w.front ++ bs;
  split = w.split ∙ ap (λ t. w.front ++ t) e ∙ sym (append_assoc w.front bs after);
  appended = appends_both o m n w.front bs w.appended p;
}

pub sent_all : (o n : Option (List ℕ)) (rest all : List ℕ) → WentOut o n rest all → rest ≡ [] → Appends o n all
sent_all o n rest all w e = subst (λ (t : List ℕ). Appends o n t) (sym (w.split ∙ ap (λ t. w.front ++ t) e ∙ append-nil w.front)) w.appended

-- the writer failed at bs, before `after`
pub sent_part : (o m n : Option (List ℕ)) (rest bs after all : List ℕ) → WentOut o m rest all → rest ≡ bs ++ after → AppendsBeginning m n bs → AppendsBeginning o n all
sent_part o m n rest bs after all w e p = (
  p.0 ++ after,
  (
    omega (arith, p.1.0, length-append p.0 after),
    sent_more o m n rest p.1.1.front (p.0 ++ after) all w
        (e ∙ ap (λ t. t ++ after) p.1.1.split ∙ append_assoc p.1.1.front p.0 after) p.1.1.appended,
  ),
)

-- the writer kept its bytes, while some remained to be written
pub sent_kept : (o m n : Option (List ℕ)) (rest all : List ℕ) → WentOut o m rest all → 0 < length rest → Keeps m n → AppendsBeginning o n all
sent_kept o m n rest all w l k = (rest, (l, record { front = w.front; split = w.split; appended = appends_kept o m n w.front w.appended k }))

-- the written and the remaining bytes are as many as the earlier ones and all
pub sent_length : (xs ys rest all : List ℕ) → WentOut (Some xs) (Some ys) rest all → length ys + length rest ≡ length xs + length all
sent_length xs ys rest all w =
    let p : length ys ≡ length (xs ++ w.front) = ap length w.appended in
    let q : length all ≡ length (w.front ++ rest) = ap length w.split in
    omega (arith, p, q, length-append xs w.front, length-append w.front rest)
