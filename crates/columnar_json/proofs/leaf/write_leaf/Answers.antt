use Rattle.std.proofs.Common.{drop, refl}
use Rattle.columnar_core.specs.Store.{slices_in}
use Rattle.columnar_primitive.specs.Counts.{number_in}
use Rattle.columnar_primitive.specs.Units.{units_format}
use Rattle.columnar_syntax.specs.declared.schema.Leaf.TheVariants.{Unit as UnitLeaf}
use Rattle.columnar_schema.specs.Formats.{leaf_format}
use Rattle.columnar_json.specs.RealLaws.{double_wrote, single_wrote, unit_wrote}
use Rattle.columnar_json.specs.RowTextLaws.{text_wrote}
use Rattle.columnar_json.proofs.leaf.write_leaf.Goals as goal

pub returns-in-Text : goal.returns-in-Text
returns-in-Text c = text_wrote c.args.leaf ((leaf_format c.args.leaf).rows ((leaf_format c.args.leaf).build (drop c.args.offset (slices_in c.args.store.now)))) c.args.index c.text_at.result.now c.args.out.now.items c.push_text.new.out.items c.push_text.result c.in-Text.is (rw c.in-Text.is c.text_at.ensures) c.push_text.ensures

pub returns-in-F32 : goal.returns-in-F32
returns-in-F32 c = single_wrote c.args.leaf ((leaf_format c.args.leaf).rows ((leaf_format c.args.leaf).build (drop c.args.offset (slices_in c.args.store.now)))) c.args.index c.row_in-in-F32.result c.args.out.now.items c.push_single.new.out.items c.push_single.result c.in-F32.is c.push_single.ensures.fits (rw c.in-F32.is c.row_in-in-F32.ensures.row) c.push_single.ensures.text

pub returns-in-F64 : goal.returns-in-F64
returns-in-F64 c = double_wrote c.args.leaf ((leaf_format c.args.leaf).rows ((leaf_format c.args.leaf).build (drop c.args.offset (slices_in c.args.store.now)))) c.args.index c.row_in-in-F64.result c.args.out.now.items c.push_double.new.out.items c.push_double.result c.in-F64.is c.push_double.ensures.fits (rw c.in-F64.is c.row_in-in-F64.ensures.row) c.push_double.ensures.text

pub returns-in-Unit : goal.returns-in-Unit
returns-in-Unit c =
    let n = number_in (units_format.build (drop c.args.offset (slices_in c.args.store.now))) in
    rw c.in-Unit.is (unit_wrote UnitLeaf n c.args.index c.args.out.now.items c.push_bytes.new.out.items c.push_bytes.result refl c.push_bytes.ensures)
