use Rattle.columnar_core.specs.Format.{bytes_held}
use Rattle.columnar_sums.specs.RankColumns.{ranks_content}
use Rattle.columnar_sums.specs.ResultLaws.{results_spread}
use Rattle.columnar_sums.proofs.result.bytes.ResultsCheck.check_from_tallied.Goals as goal

pub returns-clause-turns : goal.returns-clause-turns
returns-clause-turns g c = results_spread g.SC.Column.format.turns g.TC.Column.format.turns _ _ (bytes_held (ranks_content g.CC.Words.bytes g.VC.Words.bytes g.WC.Words.bytes c.args.self.now.indexes)) (bytes_held (g.SC.Column.content c.args.self.now.oks)) (bytes_held (g.TC.Column.content c.args.self.now.errs)) c.check_results.ensures.turns g.met.SC.Stored.storable.swift g.met.TC.Stored.storable.swift
