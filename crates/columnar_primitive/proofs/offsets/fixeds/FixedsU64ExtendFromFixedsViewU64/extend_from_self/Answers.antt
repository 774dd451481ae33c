use Rattle.std.proofs.lemmas.Result.{err_from_is_err_and}
use Rattle.columnar_base.specs.ChangeLaws.{passed_on}
use Rattle.std.proofs.Common.{◌≡◌, ◌+◌, ◌-◌, sym, refl, arith}
use Rattle.columnar_core.specs.Views.{items_content}
use Rattle.std.specs.Int.{to_le_bytes, w64}
use Rattle.columnar_core.specs.Bytes.{word}
use Rattle.columnar_primitive.specs.FixedLaws.{first_next, first_stray, fixed_copy, fixed_copy_refused, fixed_within, length-fixed}
use Rattle.columnar_core.specs.WordViews.{bytes_of}
use Rattle.columnar_primitive.proofs.offsets.fixeds.FixedsU64ExtendFromFixedsViewU64.extend_from_self.Goals as goal

pub returns-in_err-self-clause-err : goal.returns-in_err-self-clause-err
returns-in_err-self-clause-err g c =
    let from = bytes_of (items_content (to_le_bytes w64) c.args.view.count.items) in
    let e = length-fixed g.row.K from in
    rw (passed_on c.from_residual.result c.from_residual.ensures.1) (fixed_copy_refused g.row.K c.args.self.now.count c.args.range.start (c.args.range.«end» - c.args.range.start) (word from 0) c.get.result c.in_err-self.field-0.0 (omega arith) (omega arith) (omega (arith, c.requires.in_range, c.requires.ordered)) (omega arith) c.requires.sound c.get.ensures.row c.in_err-self.ensures.err)

pub returns-clause-ok : goal.returns-clause-ok
returns-clause-ok g c =
    let from = bytes_of (items_content (to_le_bytes w64) c.args.view.count.items) in
    let e = length-fixed g.row.K from in
    let added = c.args.range.«end» - c.args.range.start in
    let f : c.args.self.now.count + added ≡ c.in_ok-self.field-0 = sym c.in_ok-self.ensures.ok.0 in
    rw f at (fixed_copy g.row.K c.args.self.now.count c.args.range.start added (c.args.self.now.count + 1) c.get.result {from = from} (omega arith) (omega arith) (omega arith) (omega (arith, c.requires.in_range, c.requires.ordered)) (omega arith) c.requires.view_sound c.get.ensures.row refl c.in_ok-self.ensures.ok.1)

pub returns-then-added-eq0-clause-length : goal.returns-then-added-eq0-clause-length
returns-then-added-eq0-clause-length g c = (λ e. cc, λ p. let z = fixed_within g.row.K c.args.self.now.count (c.args.range.«end» - c.args.range.start) (omega arith) (omega arith) c.requires.sound in cc)

pub returns-in_err-self-clause-offset : goal.returns-in_err-self-clause-offset
returns-in_err-self-clause-offset g c =
    let from = bytes_of (items_content (to_le_bytes w64) c.args.view.count.items) in
    let n = length-fixed g.row.K from in
    let added = c.args.range.«end» - c.args.range.start in
    let p = err_from_is_err_and c.from_residual.result c.from_residual.ensures.1 in
    let o = c.in_err-self.ensures.offset in
    let stray = first_stray g.row.K c.args.self.now.count c.args.range.start added (word from 0) c.get.result (omega arith) (omega (arith, c.requires.in_range, c.requires.ordered)) (omega arith) c.get.ensures.row in
    let next = first_next g.row.K c.args.self.now.count c.args.range.start added (word from 0) c.get.result (omega arith) (omega (arith, c.requires.in_range, c.requires.ordered)) (omega arith) c.get.ensures.row in (
      λ e. let q = o.0 cc in (q.0, stray q.1),
      λ s. let q = o.1 (s.0, λ x. let z = next x in let y = s.1 in cc) in cc,
    )

pub returns-clause-offset : goal.returns-clause-offset
returns-clause-offset g c =
    let from = bytes_of (items_content (to_le_bytes w64) c.args.view.count.items) in
    let e = length-fixed g.row.K from in
    let z = first_next g.row.K c.args.self.now.count c.args.range.start (c.args.range.«end» - c.args.range.start) (word from 0) c.get.result (omega arith) (omega (arith, c.requires.in_range, c.requires.ordered)) (omega arith) c.get.ensures.row c.in_ok-self.ensures.ok.1 in
    (λ f. cc, λ p. let q = p.1 in cc)
