use Rattle.std.proofs.Common.{◌≡◌, ◌-◌, ◌<◌, ◌+◌, suc, length, ◌∙◌, ap, arith, sym, nat_eq}
use Rattle.std.proofs.lemmas.Bool.{eqb-true}
use Rattle.columnar_base.specs.WordViews.{view_words}
use Rattle.columnar_nested.specs.Pass.{follow}
use Rattle.columnar_nested.specs.PassLaws.{met_one, met_none, met_all}
use Rattle.std.proofs.Common.{drop}
use Rattle.columnar_nested.proofs.trees.bytes.keep_rule.Goals as goal
use Rattle.columnar_nested.proofs.trees.bytes.keep_rule.Goals.{then-bound-j-2+else-met-trees+else-word_at-bound, else-bound-j-2, then-last-nodes, else-last-nodes}

pub loop-j-preserved : goal.loop-j-preserved
loop-j-preserved g c =
    let i = c.loop-j.invariant in
    let n = c.word_count-places.ensures.count in
    let k = c.word_count-trees.ensures.count in
    elim c.if-bound-j-2.branch [
      | then-bound-j-2+else-met-trees+else-word_at-bound w ↦
          let l : c.loop-j.met < length (view_words c.args.groups) = omega (arith, i.1, k, w.if-met-trees.false) in (
            i.0 ∙ (met_one (view_words c.args.bounds) (view_words c.args.groups) c.loop-j.j c.loop-j.last c.loop-j.met c.args.nodes c.word_at-bound.result c.word_at-bound.ensures (omega (arith, n, c.loop-j-test.true)) c.if-bound-last.false w.if-bound-j-2.true l (sym w.word_at-else-met-trees.ensures ∙ w.if-word_at-bound.false)
                ∙ ap (λ m. follow (c.loop-j.j + 1) c.word_at-bound.result (drop (c.loop-j.j + 1) (view_words c.args.bounds)) (drop m (view_words c.args.groups)) c.args.nodes) (sym w.met-is)),
            omega (arith, w.met-is, l),
            omega (arith, c.tick.ensures.turns, i.2),
          )
      | else-bound-j-2 w ↦ (
        i.0 ∙ (met_none (view_words c.args.bounds) (view_words c.args.groups) c.loop-j.j c.loop-j.last c.loop-j.met c.args.nodes c.word_at-bound.result c.word_at-bound.ensures (omega (arith, n, c.loop-j-test.true)) c.if-bound-last.false (omega (arith, c.if-bound-j.false, w.if-bound-j-2.false))
            ∙ ap (λ m. follow (c.loop-j.j + 1) c.word_at-bound.result (drop (c.loop-j.j + 1) (view_words c.args.bounds)) (drop m (view_words c.args.groups)) c.args.nodes) (sym w.met-is)),
        omega (arith, w.met-is, i.1),
        omega (arith, c.tick.ensures.turns, i.2),
      )
    ]

pub returns-then-places-nodes-clause-value : goal.returns-then-places-nodes-clause-value
returns-then-places-nodes-clause-value g c =
    let n = c.word_count-places.ensures.count in
    elim c.if-last-nodes.branch [
      | then-last-nodes w ↦
          let v : c.word_count-places.result - 1 ≡ c.args.nodes = eqb-true (c.word_count-places.result - 1) c.args.nodes (sym w.value-is ∙ c.if-places-nodes.true) in
          let e : c.loop-j.j ≡ length (view_words c.args.bounds) = omega (arith, n, c.loop-j-test.false, c.loop-j.auto.j-end) in
          let q : length (view_words c.args.bounds) ≡ suc c.args.nodes = omega (arith, v, n, c.if-places-eq0.false) in
          sym (c.loop-j.invariant.0 ∙ (met_all (view_words c.args.bounds) (view_words c.args.groups) c.loop-j.j c.loop-j.last c.loop-j.met c.args.nodes e c.loop-j.invariant.1 w.if-last-nodes.true q ∙ ap (nat_eq c.loop-j.met) (sym c.word_count-trees.ensures.count)))
      | else-last-nodes w ↦ absurd (w.if-last-nodes.false (eqb-true c.loop-j.last c.args.nodes (sym w.value-is ∙ c.if-places-nodes.true)))
    ]
