use Rattle.std.proofs.Common.{refl, arith}
use Rattle.columnar_bytes.specs.StashLaws.{stash_counts}
use Rattle.columnar_bytes.proofs.stash.Stash.align_in_place.Goals as goal

pub returns-in-Align-clause-counted : goal.returns-in-Align-clause-counted
returns-in-Align-clause-counted g c = stash_counts g.met.C.Stored.storable c.args.self.now (rw c.in-Align.is refl)

pub returns-in-Align-clause-length : goal.returns-in-Align-clause-length
returns-in-Align-clause-length g c =
    let l = stash_counts g.met.C.Stored.storable c.args.self.now (rw c.in-Align.is refl) in
    (λ e. cc, λ h. absurd (omega (arith, l, h)))
