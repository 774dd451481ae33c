use Rattle.std.proofs.Common.{sym, ◌∙◌}
use Rattle.columnar_json.specs.CsvLaws.{finite_wrote, no_float}
use Rattle.columnar_json.specs.Pieces.{single}
use Rattle.columnar_json.specs.RealLaws.{single_text}
use Rattle.columnar_json.proofs.real.push_finite_single.Goals as goal

pub returns-then-is_finite-clause-text : goal.returns-then-is_finite-clause-text
returns-then-is_finite-clause-text c =
    let t = c.push_finite.ensures in
    let e = sym c.is_finite.ensures.value ∙ c.if-is_finite.true in
    finite_wrote c.args.x (single c.args.x) c.args.out.now.items c.push_finite.new.out.items c.push_finite.result e (single_text c.args.x c.args.out.now.items c.push_finite.new.out.items t.0 c.push_finite.result e t.1.0 t.1.1.0 t.1.1.1)

pub returns-else-is_finite-clause-text : goal.returns-else-is_finite-clause-text
returns-else-is_finite-clause-text c = no_float c.args.x (single c.args.x) c.args.out.now.items c.push_bytes.new.out.items c.push_bytes.result (sym c.is_finite.ensures.value ∙ c.if-is_finite.false) c.push_bytes.ensures
