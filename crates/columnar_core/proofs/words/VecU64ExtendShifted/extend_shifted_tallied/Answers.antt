use Rattle.std.proofs.Common.{◌≡◌, ◌+◌, ◌-◌, length, take, drop, sym, ap, ◌∙◌, arith}
use Rattle.std.specs.Prelude.{vec_len, vec_capacity}
use Rattle.std.proofs.lemmas.List.{length-map}
use Rattle.std.proofs.lemmas.Result.{on_ok_weaker}
use Rattle.columnar_base.specs.ChangeLaws.{passed_on}
use Rattle.columnar_base.specs.RoomLaws.{elements_wanted, roomier_leaves, roomier_full, length-range}
use Rattle.columnar_core.specs.Bounds.{numbers, shifted}
use Rattle.columnar_core.proofs.words.VecU64ExtendShifted.extend_shifted_tallied.Goals as goal

pub returns-in_err-reserve-clause-wanted : goal.returns-in_err-reserve-clause-wanted
returns-in_err-reserve-clause-wanted g c =
    let rs = g.W.Column.format.rows (g.W.Column.content c.args.view.now) in
    let n : length (shifted c.args.lower c.args.start (numbers rs)) ≡ length rs = length-map (numbers rs) _ ∙ length-map rs _ in
    let l = length-range c.args.range.start c.args.range.«end» (shifted c.args.lower c.args.start (numbers rs)) (rw n c.requires.in_range) in
    let ns = shifted c.args.lower c.args.start (numbers rs) in
    rw (passed_on c.from_residual.result c.from_residual.ensures.1) (elements_wanted (vec_len c.args.self.now) (vec_capacity c.args.self.now) (take (c.args.range.«end» - c.args.range.start) (drop c.args.range.start ns)) (c.args.range.«end» - c.args.range.start) l c.in_err-reserve.ensures.full)

pub returns-clause-left : goal.returns-clause-left
returns-clause-left g c = on_ok_weaker c.push_shifted.result (λ p. roomier_leaves _ _ _ _ c.reserve.ensures.len c.reserve.ensures.capacity p) c.push_shifted.ensures.left

pub returns-clause-wanted : goal.returns-clause-wanted
returns-clause-wanted g c = roomier_full _ _ _ _ _ c.push_shifted.result c.reserve.ensures.len c.reserve.ensures.capacity c.push_shifted.ensures.wanted
