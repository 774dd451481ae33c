use Rattle.std.proofs.Common.{take}
use Rattle.columnar_json.proofs.real.push_finite.Goals as goal

pub returns : goal.returns
returns g c = (take c.format_with_plus-end.result c.format_with_plus-end.new.out, (c.format_with_plus-end.ensures.layout, (c.format_with_plus-end.ensures.parses, c.push_bytes.ensures)))
