use Rattle.std.proofs.Common.{drop}
use Rattle.columnar_core.specs.Store.{slices_in}
use Rattle.columnar_schema.specs.Formats.{leaf_format}
use Rattle.columnar_json.specs.CsvLaws.{character_value, double_value, single_value, text_value, unit_value}
use Rattle.columnar_json.specs.Json.{row_at}
use Rattle.columnar_json.proofs.leaf.write_plain.Goals as goal

pub returns-in-Text : goal.returns-in-Text
returns-in-Text c = text_value c.args.leaf ((leaf_format c.args.leaf).rows ((leaf_format c.args.leaf).build (drop c.args.offset (slices_in c.args.store.now)))) c.args.index c.text_at.result.now c.args.out.now.items c.push_plain_text.new.out.items c.push_plain_text.result c.in-Text.is (rw c.in-Text.is c.text_at.ensures) c.push_plain_text.ensures

pub returns-in-F32 : goal.returns-in-F32
returns-in-F32 c = single_value c.args.leaf ((leaf_format c.args.leaf).rows ((leaf_format c.args.leaf).build (drop c.args.offset (slices_in c.args.store.now)))) c.args.index c.row_in.result c.args.out.now.items c.push_finite_single.new.out.items c.push_finite_single.result c.in-F32.is c.push_finite_single.ensures.fits (rw c.in-F32.is c.row_in.ensures.row) c.push_finite_single.ensures.text

pub returns-in-F64 : goal.returns-in-F64
returns-in-F64 c = double_value c.args.leaf ((leaf_format c.args.leaf).rows ((leaf_format c.args.leaf).build (drop c.args.offset (slices_in c.args.store.now)))) c.args.index c.row_in-in-F64.result c.args.out.now.items c.push_finite_double.new.out.items c.push_finite_double.result c.in-F64.is c.push_finite_double.ensures.fits (rw c.in-F64.is c.row_in-in-F64.ensures.row) c.push_finite_double.ensures.text
