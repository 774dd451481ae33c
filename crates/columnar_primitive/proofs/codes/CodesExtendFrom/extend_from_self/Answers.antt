use Rattle.std.proofs.Common.{◌-◌, take, drop}
use Rattle.std.proofs.lemmas.Result.{on_ok_weaker, IfErr-weaker}
use Rattle.columnar_primitive.specs.MappedLaws.{mapped_parts, mapped_piece, mapped_copied, mapped_refused, pass_take, pass_drop}
use Rattle.columnar_primitive.specs.MappedRoomLaws.{length-mapped_range}
use Rattle.columnar_base.specs.RoomLaws.{counted_leaves, counted_full}
use Rattle.columnar_primitive.proofs.codes.CodesExtendFrom.extend_from_self.Goals as goal

pub returns-clause-ok : goal.returns-clause-ok
returns-clause-ok g c =
    let n = c.args.range.«end» - c.args.range.start in
    let rs = g.V.Column.format.rows (g.V.Column.content c.args.view.values) in
    let p = (mapped_parts g.V.Column.format g.T.Coded.row_of g.T.Rule.is_code c.requires.view_sound).pass in
    on_ok_weaker c.extend_from_self.result (λ t. rw (mapped_piece g.T.Coded.row_of c.args.range.start n rs) (mapped_copied g.CV.Column.format g.T.Coded.row_of g.T.Rule.is_code c.args.range.start g.met.CV.Flat.flat c.requires.sound (pass_take g.T.Rule.is_code n (drop c.args.range.start rs) (pass_drop g.T.Rule.is_code c.args.range.start rs p)) t)) c.extend_from_self.ensures.ok

pub returns-clause-err : goal.returns-clause-err
returns-clause-err g c =
    let n = c.args.range.«end» - c.args.range.start in
    let rs = g.V.Column.format.rows (g.V.Column.content c.args.view.values) in
    IfErr-weaker c.extend_from_self.result _ _ (λ e h. rw (mapped_piece g.T.Coded.row_of c.args.range.start n rs) (mapped_refused g.CV.Column.format g.T.Coded.row_of g.T.Rule.is_code (take n (drop c.args.range.start rs)) g.met.CV.Flat.flat c.requires.sound h)) c.extend_from_self.ensures.err

pub returns-clause-wanted : goal.returns-clause-wanted
returns-clause-wanted g c =
    let l = length-mapped_range g.T.Coded.row_of c.args.range.start (c.args.range.«end» - c.args.range.start) (g.V.Column.format.rows (g.V.Column.content c.args.view.values)) in
    IfErr-weaker c.extend_from_self.result _ _ (λ e h. counted_full _ _ l (g.met.CV.CountedRoom.counted_room c.args.self.now.values) h) c.extend_from_self.ensures.wanted

pub returns-clause-left : goal.returns-clause-left
returns-clause-left g c =
    let l = length-mapped_range g.T.Coded.row_of c.args.range.start (c.args.range.«end» - c.args.range.start) (g.V.Column.format.rows (g.V.Column.content c.args.view.values)) in
    on_ok_weaker c.extend_from_self.result (λ h. counted_leaves _ _ l (g.met.CV.CountedRoom.counted_room c.args.self.now.values) h) c.extend_from_self.ensures.left
