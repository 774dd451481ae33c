use Rattle.columnar_core.specs.ChangeLaws.{passed_on}
use Rattle.columnar_bytes.specs.StreamLaws.{first_one}
use Rattle.columnar_bytes.specs.Streams.{IsOneStore}
use Rattle.columnar_bytes.specs.StreamFaultLaws.{refused_exactly, done_exactly}
use Rattle.columnar_bytes.proofs.indexed.split.split_store.Goals as goal

pub returns-in_err-end-clause-exact : goal.returns-in_err-end-clause-exact
returns-in_err-end-clause-exact c = rw (passed_on c.from_residual.result c.from_residual.ensures.1) (refused_exactly c.args.bytes.now c.in_err-end.ensures.none)

pub returns-clause-exact : goal.returns-clause-exact
returns-clause-exact c = done_exactly c.args.bytes.now c.in_ok-end.ensures.begins

pub returns-clause-first : goal.returns-clause-first
returns-clause-first c = rw (c.in_ok-end.ensures.end.0) (first_one c.args.bytes.now c.in_ok-end.ensures.begins)
