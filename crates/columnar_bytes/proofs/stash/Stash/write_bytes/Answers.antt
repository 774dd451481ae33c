use Rattle.columnar_core.specs.Format.{slices_of}
use Rattle.columnar_bytes.specs.StashLaws.{counted_on_ok, accepted_on_ok, again_on_ok, left_if_err, stash_encoded}
use Rattle.columnar_bytes.proofs.stash.Stash.write_bytes.Goals as goal

pub returns-in-Typed-clause-counted : goal.returns-in-Typed-clause-counted
returns-in-Typed-clause-counted g c = rw c.in-Typed.is (counted_on_ok c.write.result (slices_of (g.C.Column.content c.in-Typed.column)) c.write.ensures.counted)

pub returns-in-Typed-clause-accepted : goal.returns-in-Typed-clause-accepted
returns-in-Typed-clause-accepted g c = rw c.in-Typed.is (accepted_on_ok c.write.result g.C.Column.format (g.C.Column.content c.in-Typed.column) g.met.C.Stored.storable (g.met.C.Stored.counted c.in-Typed.column) c.write.ensures.counted)

pub returns-in-Typed-clause-content : goal.returns-in-Typed-clause-content
returns-in-Typed-clause-content g c = rw c.in-Typed.is (again_on_ok c.write.result g.C.Column.format (g.C.Column.content c.in-Typed.column) g.met.C.Stored.storable c.write.ensures.counted)

pub returns-in-Typed-clause-err : goal.returns-in-Typed-clause-err
returns-in-Typed-clause-err g c = rw c.in-Typed.is (left_if_err c.write.result _ _ (slices_of (g.C.Column.content c.in-Typed.column)) c.write.ensures.err)

pub returns-in-Align-clause-encoded : goal.returns-in-Align-clause-encoded
returns-in-Align-clause-encoded g c = stash_encoded g.met.C.Stored.storable c.args.self.now
