use Rattle.std.proofs.Common.{ℕ, ◌≡◌, ◌++◌, [], ◌∷◌, take, length, List, ap, sym, ◌∙◌, append-nil, append_assoc, arith}
use Rattle.std.specs.List.{range_with_len}
use Rattle.std.proofs.Math.Seq.{take-append_seam}
use Rattle.columnar_sums.specs.FormLaws.{range_more}
use Rattle.columnar_sums.proofs.discriminant.grow.count_up.Goals as goal

pub loop-number-init : goal.loop-number-init
loop-number-init c = sym (append-nil c.args.offsets.now.items)

pub returns-in-Err-clause-err : goal.returns-in-Err-clause-err
returns-in-Err-clause-err c =
    let n : c.len-before.result ≡ length c.args.offsets.now.items = omega (arith, c.len-before.ensures) in
    c.truncate.ensures.items ∙ (ap (take c.len-before.result) (c.in-Err.ensures.items ∙ c.loop-number.invariant) ∙ rw n (take-append_seam c.args.offsets.now.items (range_with_len 0 c.loop-number.number)))

pub loop-number-preserved : goal.loop-number-preserved
loop-number-preserved c = c.in-Ok.ensures.items ∙ (ap (λ (xs : List ℕ). xs ++ c.loop-number.number ∷ []) c.loop-number.invariant ∙ (append_assoc c.args.offsets.now.items (range_with_len 0 c.loop-number.number) (c.loop-number.number ∷ []) ∙ ap (λ (xs : List ℕ). c.args.offsets.now.items ++ xs) (sym (range_more c.loop-number.number))))

pub returns-clause-ok : goal.returns-clause-ok
returns-clause-ok c = let e : c.loop-number.number ≡ c.args.«end» = omega (arith, c.loop-number-test.false, c.loop-number.auto.number-end) in rw e at c.loop-number.invariant
