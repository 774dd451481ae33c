use Rattle.std.proofs.Common.{◌≡◌, ◌≤◌, ◌<◌, length, arith, Some, None}
use Rattle.columnar_sums.specs.Counting.{ones}
use Rattle.columnar_sums.specs.CountsKeptLaws.{found_set, found_none}
use Rattle.columnar_sums.specs.RankColumns.{bits_ranked}
use Rattle.columnar_sums.specs.UnaryChangeLaws.{content_length}
use Rattle.columnar_sums.specs.UnaryColumns.{unaries_content}
use Rattle.columnar_sums.proofs.unaries.Unaries.place_of_tallied.Goals as goal

pub unreachable-requires : goal.unreachable-requires
unreachable-requires g c =
    let n = content_length (unaries_content g.CC.Words.bytes g.VC.Words.bytes g.WC.Words.bytes c.args.self.now) in
    let l = found_none (bits_ranked g.VC.Words.bytes g.WC.Words.bytes c.args.self.now.bits) c.args.index None c.in-None.ensures.value in
    let r = c.requires.in_range in
    omega (arith, n, l, r)

pub returns-clause-set : goal.returns-clause-set
returns-clause-set g c = (found_set (bits_ranked g.VC.Words.bytes g.WC.Words.bytes c.args.self.now.bits) c.args.index (Some c.in-Some.place) c.in-Some.ensures.value).0

pub returns-clause-rank : goal.returns-clause-rank
returns-clause-rank g c = (found_set (bits_ranked g.VC.Words.bytes g.WC.Words.bytes c.args.self.now.bits) c.args.index (Some c.in-Some.place) c.in-Some.ensures.value).1
