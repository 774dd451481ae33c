use Rattle.columnar_json.proofs.text.+push_large.Given as goal

abbrev pub decreases-push_large : goal.decreases-push_large
decreases-push_large l = l.n
