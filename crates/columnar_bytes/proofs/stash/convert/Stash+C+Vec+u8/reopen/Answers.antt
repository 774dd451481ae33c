use Rattle.std.proofs.Common.{◌∙◌}
use Rattle.columnar_bytes.specs.Stashes.{stash_content}
use Rattle.columnar_bytes.specs.StashLaws.{stash_counted, encoding_accepted, encoding_again}
use Rattle.columnar_bytes.proofs.stash.convert.Stash+C+Vec+u8.reopen.Goals as goal

pub accept-checked-requires-clause-accepted : goal.accept-checked-requires-clause-accepted
accept-checked-requires-clause-accepted g c = encoding_accepted g.C.Column.format (stash_content c.args.self.now) _ g.met.C.Stored.storable (stash_counted g.met.C.Stored.storable g.met.C.Stored.counted c.args.self.now) c.in_ok-store.ensures.counted c.requires.sound c.in_ok-store.ensures.bytes

pub returns-clause-content : goal.returns-clause-content
returns-clause-content g c = encoding_again g.C.Column.format (stash_content c.args.self.now) _ g.met.C.Stored.storable c.in_ok-store.ensures.counted c.requires.sound (c.accept-checked.ensures ∙ c.in_ok-store.ensures.bytes)
