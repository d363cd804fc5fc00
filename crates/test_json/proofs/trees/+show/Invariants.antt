use Rattle.test_json.proofs.trees.+show.Given as goal

abbrev pub decreases-show : goal.decreases-show
decreases-show l = l.levels
