use Rattle.std.proofs.Common.{arith, ap, length, ◌∙◌, ◌++◌, sym}
use Rattle.columnar_bytes.specs.PlanLaws.{words_again}
use Rattle.columnar_bytes.proofs.indexed.encoding.append_words.Goals as goal

pub append_all-requires : goal.append_all-requires
append_all-requires c =
    let again = words_again c.args.words.now (λ i. (c.type_inv.words i).fits) in
    omega (arith, ap length again, c.requires)

pub returns-clause-items : goal.returns-clause-items
returns-clause-items c =
    let again = words_again c.args.words.now (λ i. (c.type_inv.words i).fits) in
    c.append_all.ensures.items ∙ ap (λ t. c.args.store.now.items ++ t) (sym again)
