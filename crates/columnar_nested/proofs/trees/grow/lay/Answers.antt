use Rattle.std.proofs.Common.{◌≡◌, [], ◌∷◌, ◌++◌, ◌∙◌, ap, arith, length, ◌≤◌, ◌+◌, ◌<◌, ◌^◌}
use Rattle.columnar_base.specs.Format.{slice}
use Rattle.columnar_base.specs.WordViews.{le_bytes}
use Rattle.columnar_base.specs.ChangeLaws.{took_none, took_twice, passed_on, took_stayed}
use Rattle.columnar_nested.specs.TreeValues.{in_order}
use Rattle.columnar_nested.specs.PushStepLaws.{turn_fewer}
use Rattle.columnar_nested.specs.PushLaws.{laid_start, laid_more, laid_valid, laid_refused, laid_too_long}
use Rattle.columnar_nested.specs.declared.tree.Tree.TheViews.{out-Tree}
use Rattle.columnar_base.specs.Row.{Row}
use Rattle.columnar_nested.proofs.trees.grow.lay.Goals as goal

pub returns-in_err-push_back-clause-begun : goal.returns-in_err-push_back-clause-begun
returns-in_err-push_back-clause-begun g c = ([], took_none c.requires.sound)

pub loop-node-init : goal.loop-node-init
loop-node-init g c = laid_start g.T.Item.meaning c.args.bounds.now.items c.requires.sound c.requires.valid (c.in_ok-push_back.ensures.items ∙ ap (λ ts. ts ++ c.args.root ∷ []) c.new-waiting.ensures.items)

pub returns-in_default-bound_of-clause-cause : goal.returns-in_default-bound_of-clause-cause
returns-in_default-bound_of-clause-cause g c =
    let l1 : c.len.result ≡ length (g.TC.Column.format.rows (g.TC.Column.content c.loop-node.values)) = c.len.ensures in
    let l2 : c.len-in-Some.result ≡ length c.pop_front.new.self.items = c.len-in-Some.ensures ∙ c.pop_front.new.self.ok.0 in
    let l3 : c.len-in-Some-2.result ≡ length (out-Tree g.row.T.Denot c.in-Some.node).kids.items = c.len-in-Some-2.ensures ∙ (c.into_parts-value.result.1.ok.0 ∙ ap (λ k. length k.items) c.into_parts-value.ensures.kids) in
    let d : 2 ^ 64 ≤ (c.len.result + c.len-in-Some.result + 1) + c.len-in-Some-2.result = c.in_default-bound_of.ensures.none in
    laid_too_long g.row.T.Denot g.T.Item.meaning (slice (le_bytes c.args.bounds.now.items)) c.args.root c.in-Some.node c.pop_front.new.self.items c.loop-node.invariant c.in-Some.ensures.items (rw (l1, l2, l3) at d)

pub push_ref-requires-clause-valid : goal.push_ref-requires-clause-valid
push_ref-requires-clause-valid g c = rw c.into_parts-value.ensures.value (laid_valid g.row.T.Denot c.in-Some.node c.pop_front.new.self.items c.loop-node.invariant c.in-Some.ensures.items)

pub returns-in_err-push_ref-clause-begun : goal.returns-in_err-push_ref-clause-begun
returns-in_err-push_ref-clause-begun g c = (c.loop-node.invariant.taken, took_stayed c.loop-node.invariant.took c.in_err-push_ref.ensures.err.stayed)

pub returns-in_err-push_ref-clause-cause : goal.returns-in_err-push_ref-clause-cause
returns-in_err-push_ref-clause-cause g c = rw (passed_on c.from_residual-in_err-push_ref.result c.from_residual-in_err-push_ref.ensures.1) (laid_refused g.row.T.Denot g.T.Item.meaning (slice (le_bytes c.args.bounds.now.items)) c.args.root c.in-Some.node c.pop_front.new.self.items c.in_err-push_ref.field-0.0 g.met.TC.Truncate.lawful c.loop-node.invariant c.in-Some.ensures.items (rw c.into_parts-value.ensures.value at c.in_err-push_ref.ensures.err.cause))

pub returns-in_err-push-clause-begun : goal.returns-in_err-push-clause-begun
returns-in_err-push-clause-begun g c = (c.loop-node.invariant.taken ++ g.T.Item.meaning (out-Tree g.row.T.Denot c.in-Some.node).value ∷ [], took_twice c.loop-node.invariant.took (rw c.into_parts-value.ensures.value at c.in_ok-push_ref.ensures.ok))

pub returns-in_err-append-clause-begun : goal.returns-in_err-append-clause-begun
returns-in_err-append-clause-begun g c = (c.loop-node.invariant.taken ++ g.T.Item.meaning (out-Tree g.row.T.Denot c.in-Some.node).value ∷ [], took_twice c.loop-node.invariant.took (rw c.into_parts-value.ensures.value at c.in_ok-push_ref.ensures.ok))

pub loop-node-smaller : goal.loop-node-smaller
loop-node-smaller g c =
    let e : c.append.new.self.items ≡ c.pop_front.new.self.items ++ (out-Tree g.row.T.Denot c.in-Some.node).kids.items =
    c.in_ok-append.ensures.items ∙ ap (λ x. c.pop_front.new.self.items ++ x) (c.from_vec-next.ensures.items ∙ ap (λ k. k.items) c.into_parts-value.ensures.kids) in
    let f = turn_fewer g.row.T.Denot Row g.T.Item.meaning c.in-Some.node c.pop_front.new.self.items in
    let h : length (in_order g.T.Item.meaning c.append.new.self.items) < length (in_order g.T.Item.meaning c.loop-node.waiting.items) = rw (e, c.in-Some.ensures.items) f in
    h

pub loop-node-preserved : goal.loop-node-preserved
loop-node-preserved g c =
    let l1 : c.len.result ≡ length (g.TC.Column.format.rows (g.TC.Column.content c.loop-node.values)) = c.len.ensures in
    let l2 : c.len-in-Some.result ≡ length c.pop_front.new.self.items = c.len-in-Some.ensures ∙ c.pop_front.new.self.ok.0 in
    let l3 : c.len-in-Some-2.result ≡ length (out-Tree g.row.T.Denot c.in-Some.node).kids.items = c.len-in-Some-2.ensures ∙ (c.into_parts-value.result.1.ok.0 ∙ ap (λ k. length k.items) c.into_parts-value.ensures.kids) in
    let d : c.in-Some-bound_of.bound ≡ (c.len.result + c.len-in-Some.result + 1) + c.len-in-Some-2.result = c.in-Some-bound_of.ensures.some in
    laid_more g.row.T.Denot g.T.Item.meaning c.in-Some.node c.pop_front.new.self.items c.in-Some-bound_of.bound c.loop-node.invariant c.in-Some.ensures.items (rw (l1, l2, l3) at d) (omega arith)
    (rw c.into_parts-value.ensures.value at c.in_ok-push_ref.ensures.ok) c.in_ok-push.ensures.items (c.in_ok-append.ensures.items ∙ ap (λ x. c.pop_front.new.self.items ++ x) (c.from_vec-next.ensures.items ∙ ap (λ k. k.items) c.into_parts-value.ensures.kids))
