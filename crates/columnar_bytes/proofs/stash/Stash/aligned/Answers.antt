use Rattle.std.proofs.Common.{◌∙◌}
use Rattle.columnar_core.specs.Format.{slices_of}
use Rattle.columnar_bytes.specs.Stashes.{stash_content}
use Rattle.columnar_bytes.specs.StashLaws.{stash_counted, encoding_accepted, encoding_again, encoding_tight, encoding_short}
use Rattle.columnar_bytes.proofs.stash.Stash.aligned.Goals as goal

pub share-requires-clause-tight : goal.share-requires-clause-tight
share-requires-clause-tight g c = encoding_tight (slices_of (stash_content c.args.self.now)) _ c.in_ok-bytes.ensures.counted c.in_ok-bytes.ensures.bytes

pub share-requires-clause-counted : goal.share-requires-clause-counted
share-requires-clause-counted g c = encoding_short (slices_of (stash_content c.args.self.now)) _ c.in_ok-bytes.ensures.counted c.in_ok-bytes.ensures.bytes

pub accept-requires-clause-accepted : goal.accept-requires-clause-accepted
accept-requires-clause-accepted g c = encoding_accepted g.C.Column.format (stash_content c.args.self.now) _ g.met.C.Stored.storable (stash_counted g.met.C.Stored.storable g.met.C.Stored.counted c.args.self.now) c.in_ok-bytes.ensures.counted c.requires.sound (c.in-Ok.ensures ∙ c.in_ok-bytes.ensures.bytes)

pub returns-in-Ok-clause-content : goal.returns-in-Ok-clause-content
returns-in-Ok-clause-content g c = encoding_again g.C.Column.format (stash_content c.args.self.now) _ g.met.C.Stored.storable c.in_ok-bytes.ensures.counted c.requires.sound (c.accept.ensures ∙ (c.in-Ok.ensures ∙ c.in_ok-bytes.ensures.bytes))
