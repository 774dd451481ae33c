use Rattle.std.proofs.Common.{sym, ◌∙◌, arith}
use Rattle.std.specs.Prelude.{slice_index}
use Rattle.columnar_primitive.specs.StrideLaws.{head_of, owned_limits, took_bound, took_grown, strides_full_up, length-held}
use Rattle.columnar_primitive.proofs.offsets.strides.Strides+Vec+u64+array+2+u64.push.Goals as goal

pub overflow_add-length : goal.overflow_add-length
overflow_add-length c =
    let p = owned_limits (slice_index c.args.self.now.head 0) (slice_index c.args.self.now.head 1) c.args.self.now.bounds.items (head_of c.args.self.now.head (omega arith) (omega arith) (omega arith)) c.requires in
    omega (arith, p.few, c.len-count.ensures)

pub returns-then-length-count-clause-err : goal.returns-then-length-count-clause-err
returns-then-length-count-clause-err c = strides_full_up (slice_index c.args.self.now.head 0) (slice_index c.args.self.now.head 1) c.args.self.now.bounds.items _ (head_of c.args.self.now.head (omega arith) (omega arith) (omega arith)) c.requires (omega (arith, c.if-length-count.true, c.len-count.ensures))

pub returns-then-follows-clause-ok : goal.returns-then-follows-clause-ok
returns-then-follows-clause-ok c =
    let p = owned_limits (slice_index c.args.self.now.head 0) (slice_index c.args.self.now.head 1) c.args.self.now.bounds.items (head_of c.args.self.now.head (omega arith) (omega arith) (omega arith)) c.requires in
    rw c.grown-self.ensures (took_grown (slice_index c.args.self.now.head 0) (slice_index c.args.self.now.head 1) c.args.self.now.bounds.items c.args.item (head_of c.args.self.now.head (omega arith) (omega arith) (omega arith)) (omega (arith, c.if-count-eq0.true, c.len-count.ensures)) (sym c.follows.ensures ∙ c.if-follows.true) (omega arith) (omega arith) (omega (arith, p.few, c.if-length-count.false, c.len-count.ensures)))

pub returns-then-follows-clause-full : goal.returns-then-follows-clause-full
returns-then-follows-clause-full c = λ e. absurd (omega (arith, e, length-held (slice_index c.args.self.now.head 0) (slice_index c.args.self.now.head 1) c.args.self.now.bounds.items (head_of c.args.self.now.head (omega arith) (omega arith) (omega arith)), c.if-length-count.false, c.len-count.ensures))

pub returns-clause-ok : goal.returns-clause-ok
returns-clause-ok c =
    let p = owned_limits (slice_index c.args.self.now.head 0) (slice_index c.args.self.now.head 1) c.args.self.now.bounds.items (head_of c.args.self.now.head (omega arith) (omega arith) (omega arith)) c.requires in
    rw c.in_ok-push.ensures.items (took_bound (slice_index c.args.self.now.head 0) (slice_index c.args.self.now.head 1) c.args.self.now.bounds.items c.args.item (head_of c.args.self.now.head (omega arith) (omega arith) (omega arith)) p (omega (arith, p.few, c.if-length-count.false, c.len-count.ensures)))

pub returns-clause-full : goal.returns-clause-full
returns-clause-full c = λ e. absurd (omega (arith, e, length-held (slice_index c.args.self.now.head 0) (slice_index c.args.self.now.head 1) c.args.self.now.bounds.items (head_of c.args.self.now.head (omega arith) (omega arith) (omega arith)), c.if-length-count.false, c.len-count.ensures))

pub returns-in_err-push-clause-full : goal.returns-in_err-push-clause-full
returns-in_err-push-clause-full c = λ e. absurd (omega (arith, e, length-held (slice_index c.args.self.now.head 0) (slice_index c.args.self.now.head 1) c.args.self.now.bounds.items (head_of c.args.self.now.head (omega arith) (omega arith) (omega arith)), c.if-length-count.false, c.len-count.ensures))

pub returns-then-length-count-clause-no_memory : goal.returns-then-length-count-clause-no_memory
returns-then-length-count-clause-no_memory c = λ l j. absurd (omega (arith, l, length-held (slice_index c.args.self.now.head 0) (slice_index c.args.self.now.head 1) c.args.self.now.bounds.items (head_of c.args.self.now.head (omega arith) (omega arith) (omega arith)), c.if-length-count.true, c.len-count.ensures))
