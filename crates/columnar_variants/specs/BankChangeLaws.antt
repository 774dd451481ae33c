-- A bank after truncations, refusals and reserved space.
use Rattle.std.proofs.Common.{◌≡◌, ℕ, suc, ◌+◌, ◌<◌, ◌≤◌, List, [], ◌++◌, length, take, refl, sym, ◌∙◌, ap, subst, arith, ⊎_elim}
use Rattle.std.proofs.Math.Path.{fun_ext}
use Rattle.std.proofs.Math.Seq.{take-append_seam}
use Rattle.std.proofs.lemmas.Bool.{cases_lt}
use Rattle.columnar_core.specs.Row.{Row}
use Rattle.columnar_core.specs.Format.{Content, IsSound}
use Rattle.columnar_variants.specs.Variants.{Bank, IsLawfulBank, BankCut, BankStayed}
use Rattle.columnar_variants.specs.VariantCopies.{BankCopied}

-- equal numbers truncate equally
pub cut_as : (b : Bank) {x x' : Content} {n m : ℕ → ℕ} → ((v : ℕ) → n v ≡ m v) → BankCut b x x' n → BankCut b x x' m
cut_as b {x} {x'} h t = subst (λ k. BankCut b x x' k) (fun_ext h) t

pub told_as : (b : Bank) (c : Content) {n m : ℕ → ℕ} → ((v : ℕ) → n v ≡ m v) → b.told c n ≡ b.told c m
told_as b c h = ap (b.told c) (fun_ext h)

pub one_more : (n m : ℕ → ℕ) → ((v : ℕ) → n v ≡ m (v + 1)) → (v : ℕ) → n v ≡ m (suc v)
one_more n m h v = h v ∙ ap m (omega arith)

pub bank_unchanged : (b : Bank) (x : Content) → BankStayed b x x
bank_unchanged b x = record { same = λ v. refl; lengths_same = refl; rooms = λ n h. refl; limits = λ n h e f. refl; sound = λ s. s }

-- A copy followed by a truncation to the old numbers of values changes nothing.
pub bank_undone : (b : Bank) → IsLawfulBank b → ((c : Content) (v : ℕ) → b.size ≤ v → b.table c v ≡ []) → {x x' x'' : Content} {s : ℕ → ℕ} {f : ℕ → List Row} (n : ℕ → ℕ) → IsSound b.sides x → ((v : ℕ) → v < b.size → n v ≡ length (b.table x v)) → BankCopied b x x' s f → BankCut b x' x'' n → BankStayed b x x''
bank_undone b law beyond {x} {x'} {x''} {s} {f} n w h t u = record {
  same = λ v. ⊎_elim
      (λ (l : v < b.size). u.front v l ∙ (ap (take (n v)) (t.here v l) ∙ (ap (λ k. take k (b.table x v ++ t.fresh v)) (h v l) ∙ take-append_seam (b.table x v) (t.fresh v))))
      (λ (l : b.size ≤ v). beyond x'' v l ∙ sym (beyond x v l))
      (cases_lt v b.size);
  lengths_same = u.lengths_cut ∙ (t.rooms n (λ v l. let e = h v l in omega (arith, e)) ∙ law.full x n w h);
  rooms = λ m k. u.rooms m (λ v l. let e = h v l in let i = k v l in omega (arith, e, i)) ∙ t.rooms m k;
  limits = λ m k e g. u.limits m (λ v l. let j = h v l in let i = k v l in omega (arith, j, i)) e g ∙ t.limits m k e g;
  sound = λ q. u.sound (t.sound q);
}
