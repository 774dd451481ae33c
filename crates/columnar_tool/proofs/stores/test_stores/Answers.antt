use Rattle.std.proofs.Common.{◌∙◌, string_bytes}
use Rattle.columnar_tool.specs.StoreLaws.{is_none, testing_all, testing_more, testing_none, told_all, told_more, told_none, told_torn}
use Rattle.columnar_tool.proofs.stores.test_stores.Goals as goal

pub loop-rest-init : goal.loop-rest-init
loop-rest-init g c = record {
  tested = testing_none c.args.kind.now.schema c.args.bytes.now;
  told = told_none c.args.kind.now.schema c.args.wanted c.args.path.now c.args.bytes.now (g.O.WriteBytes.contents c.args.out.now);
}

pub returns-clause-exact : goal.returns-clause-exact
returns-clause-exact g c = testing_all c.args.kind.now.schema c.args.bytes.now c.loop-rest.rest.now c.loop-rest.number c.loop-rest.accepted c.loop-rest.invariant.tested (is_none c.loop-rest.rest.now c.is_empty.result c.is_empty.ensures c.loop-rest-test.false)

pub returns-clause-told : goal.returns-clause-told
returns-clause-told g c = told_all c.args.kind.now.schema c.args.wanted c.args.path.now c.args.bytes.now c.loop-rest.rest.now c.loop-rest.number c.loop-rest.accepted (g.O.WriteBytes.contents c.args.out.now) (g.O.WriteBytes.contents c.loop-rest.out) c.loop-rest.invariant.told (is_none c.loop-rest.rest.now c.is_empty.result c.is_empty.ensures c.loop-rest-test.false)

pub loop-rest-preserved : goal.loop-rest-preserved
loop-rest-preserved g c = rw c.both-accepted.ensures (record {
  tested = testing_more c.args.kind.now.schema c.args.wanted c.args.bytes.now c.loop-rest.rest.now c.in-Ok.store.now c.in-Ok.after.now c.as_str.result.now c.in_ok-one-in-Ok.ensures.0 c.loop-rest.number c.loop-rest.accepted c.in_ok-one-in-Ok.one c.loop-rest.invariant.tested c.in-Ok.ensures.stores c.in-Ok.ensures.rest c.in-Ok.ensures.shorter c.in_ok-one-in-Ok.ensures.1.0;
  told = told_more c.args.kind.now.schema c.args.wanted c.args.path.now c.args.bytes.now c.loop-rest.rest.now c.in-Ok.store.now c.in-Ok.after.now c.as_str.result.now c.in_ok-one-in-Ok.ensures.0 c.loop-rest.number c.loop-rest.accepted c.in_ok-one-in-Ok.one (g.O.WriteBytes.contents c.args.out.now) (g.O.WriteBytes.contents c.loop-rest.out) (g.O.WriteBytes.contents c.test_bytes.new.out) c.loop-rest.invariant.told c.in-Ok.ensures.stores c.in-Ok.ensures.rest (c.as_str.ensures.value ∙ c.in_ok-label.ensures) c.in_ok-one-in-Ok.ensures.1.0 c.in_ok-one-in-Ok.ensures.1.1;
})

pub returns-in-Err-clause-told : goal.returns-in-Err-clause-told
returns-in-Err-clause-told g c = told_torn c.args.kind.now.schema c.args.wanted c.args.path.now c.args.bytes.now c.loop-rest.rest.now c.as_str-in-Err.result.now (string_bytes c.in_ok-line-in-Err.line) c.loop-rest.number c.loop-rest.accepted c.in-Err.fault (g.O.WriteBytes.contents c.args.out.now) (g.O.WriteBytes.contents c.loop-rest.out) (g.O.WriteBytes.contents c.put.new.out) c.loop-rest.invariant.told c.in-Err.ensures.none c.in-Err.ensures.torn c.in-Err.ensures.fault (c.as_str-in-Err.ensures.value ∙ c.in_ok-label.ensures) c.in_ok-line-in-Err.ensures (rw c.as_bytes.ensures.value at c.in_ok-put-in-Err.ensures.printed)
