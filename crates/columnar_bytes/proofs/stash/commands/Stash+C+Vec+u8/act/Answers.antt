use Rattle.std.proofs.Common.{[], take, refl, ap}
use Rattle.std.proofs.lemmas.Bool.{leb-true}
use Rattle.columnar_bytes.specs.Stashes.{stash_content}
use Rattle.columnar_bytes.specs.MachineLaws.{copy_ordered, copy_within, took_alike, same_alike}
use Rattle.columnar_bytes.specs.StashLaws.{typed_encoded, aligned_encoded, holds_written}
use Rattle.columnar_bytes.proofs.stash.commands.Stash+C+Vec+u8.act.Goals as goal

pub extend_from_self-requires-clause-ordered : goal.extend_from_self-requires-clause-ordered
extend_from_self-requires-clause-ordered g c = copy_ordered c.in-Copy.from c.in-Copy.to _ (rw c.in-Copy.is at c.requires.within)

pub extend_from_self-requires-clause-in_range : goal.extend_from_self-requires-clause-in_range
extend_from_self-requires-clause-in_range g c = copy_within c.in-Copy.from c.in-Copy.to _ (rw c.in-Copy.is at c.requires.within)

pub truncate-requires-clause-in_range : goal.truncate-requires-clause-in_range
truncate-requires-clause-in_range g c = leb-true c.in-Truncate.n _ (rw c.in-Truncate.is at c.requires.within)

pub returns-in-Ok-clause-answer : goal.returns-in-Ok-clause-answer
returns-in-Ok-clause-answer g c = rw c.in-Push.is (record { within = refl; alike = took_alike g.met.C.Truncate.lawful c.in-Ok.ensures.ok; change = c.in-Ok.ensures.ok; written = typed_encoded g.met.C.Stored.storable c.push_ref.new.self c.in-Ok.ensures.typed; counted = λ e. cc; variant = c.in-Ok.ensures.typed })

pub returns-in-Clear-clause-answer : goal.returns-in-Clear-clause-answer
returns-in-Clear-clause-answer g c = rw c.in-Clear.is (record { within = refl; alike = same_alike (g.C.Column.format.rows (stash_content c.clear.new.self)) [] g.met.C.Truncate.lawful c.clear.ensures.rows; change = c.clear.ensures.rows; written = typed_encoded g.met.C.Stored.storable c.clear.new.self c.clear.ensures.variant; counted = λ e. cc; variant = c.clear.ensures.variant })

pub returns-in-Ok-extend_from_self-clause-answer : goal.returns-in-Ok-extend_from_self-clause-answer
returns-in-Ok-extend_from_self-clause-answer g c = rw c.in-Copy.is (record { within = rw c.in-Copy.is at c.requires.within; alike = took_alike g.met.C.Truncate.lawful c.in-Ok-extend_from_self.ensures.ok.took; change = c.in-Ok-extend_from_self.ensures.ok; written = typed_encoded g.met.C.Stored.storable c.extend_from_self.new.self c.in-Ok-extend_from_self.ensures.typed; counted = λ e. cc; variant = c.in-Ok-extend_from_self.ensures.typed })

pub returns-in-Ok-truncate-clause-answer : goal.returns-in-Ok-truncate-clause-answer
returns-in-Ok-truncate-clause-answer g c = rw c.in-Truncate.is (record { within = rw c.in-Truncate.is at c.requires.within; alike = same_alike (g.C.Column.format.rows (stash_content c.truncate.new.self)) (take c.in-Truncate.n (g.C.Column.format.rows (stash_content c.args.self.now))) g.met.C.Truncate.lawful c.in-Ok-truncate.ensures.ok.rows; change = c.in-Ok-truncate.ensures.ok; written = typed_encoded g.met.C.Stored.storable c.truncate.new.self c.in-Ok-truncate.ensures.typed; counted = λ e. cc; variant = c.in-Ok-truncate.ensures.typed })

pub returns-in-Ok-load_in_place-clause-answer : goal.returns-in-Ok-load_in_place-clause-answer
returns-in-Ok-load_in_place-clause-answer g c = rw c.in-MakeTyped.is (record { within = refl; alike = same_alike (g.C.Column.format.rows (stash_content c.load_in_place.new.self)) (g.C.Column.format.rows (stash_content c.args.self.now)) g.met.C.Truncate.lawful (ap g.C.Column.format.rows c.in-Ok-load_in_place.ensures.content); change = c.in-Ok-load_in_place.ensures.content; written = typed_encoded g.met.C.Stored.storable c.load_in_place.new.self c.in-Ok-load_in_place.ensures.variant; counted = λ e. cc; variant = c.in-Ok-load_in_place.ensures.variant })

pub returns-in-Ok-align_in_place-clause-answer : goal.returns-in-Ok-align_in_place-clause-answer
returns-in-Ok-align_in_place-clause-answer g c = rw c.in-MakeAligned.is (record { within = refl; alike = same_alike (g.C.Column.format.rows (stash_content c.align_in_place.new.self)) (g.C.Column.format.rows (stash_content c.args.self.now)) g.met.C.Truncate.lawful (ap g.C.Column.format.rows c.in-Ok-align_in_place.ensures.content); change = c.in-Ok-align_in_place.ensures.content; written = aligned_encoded g.met.C.Stored.storable c.align_in_place.new.self c.in-Ok-align_in_place.ensures.variant; counted = λ _. c.in-Ok-align_in_place.ensures.counted; variant = c.in-Ok-align_in_place.ensures.variant })

pub returns-in-Ok-reopen-clause-answer : goal.returns-in-Ok-reopen-clause-answer
returns-in-Ok-reopen-clause-answer g c = rw c.in-Reopen.is (record { within = refl; alike = same_alike (g.C.Column.format.rows (stash_content c.reopen.new.self)) (g.C.Column.format.rows (stash_content c.args.self.now)) g.met.C.Truncate.lawful (ap g.C.Column.format.rows c.in-Ok-reopen.ensures.content); change = c.in-Ok-reopen.ensures.content; written = rw c.in-Ok-reopen.ensures.content (holds_written c.reopen.new.self _ c.in-Ok-reopen.ensures.bytes); counted = λ _. c.in-Ok-reopen.ensures.counted; variant = c.in-Ok-reopen.ensures.variant })
