use Rattle.std.proofs.Common.{◌≡◌}
use Rattle.std.specs.Prelude.{Some}
use Rattle.columnar_json.specs.Json.{json_of, row_at}
use Rattle.columnar_json.specs.Refusals.{all_rows}
use Rattle.serde_json.specs.Read.{read}
use Rattle.serde_json.specs.View.{view}
use Rattle.columnar_make.specs.LineLaws.{spelled_alone}
use Rattle.columnar_make.proofs.made.check_line.Goals as goal

pub returns-then-stands_for : goal.returns-then-stands_for
returns-then-stands_for c =
    let row = row_at (all_rows c.args.rows.now) c.args.index in
    let written : read c.write_row.new.out.items ≡ Some (view c.in_ok-row.row) = rw c.as_slice.ensures.value at c.in_ok-row.ensures in
    record {
      text = c.write_row.new.out.items;
      spelled = spelled_alone c.clear.new.self.items c.write_row.new.out.items (json_of c.args.rows.now.schema.now row) c.clear.ensures.items c.in-Ok.ensures.exact;
      given = view c.in_ok-given.given;
      is_given = c.in_ok-given.ensures;
      written = view c.in_ok-row.row;
      is_written = written;
      stands = c.stands_for.ensures c.if-stands_for.true;
    }
