use Rattle.std.proofs.Common.{◌≡◌, length}
use Rattle.columnar_bytes.specs.Streams.{rest_in}
use Rattle.columnar_bytes.proofs.indexed.many.Stores.rest.Given as goal

abbrev pub invariant-loop-after : goal.invariant-loop-after
invariant-loop-after l = rest_in l.rest ≡ rest_in l.self.bytes.now

abbrev pub decreases-loop-after : goal.decreases-loop-after
decreases-loop-after l = length l.rest
