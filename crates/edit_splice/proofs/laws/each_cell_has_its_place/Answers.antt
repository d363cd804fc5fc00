use Rattle.edit_splice.proofs.Cellwise.{cell-before, cell-between, cell-behind}
use Rattle.edit_splice.proofs.laws.each_cell_has_its_place.Goals as goal

pub returns-clause-before : goal.returns-clause-before
returns-clause-before c = cell-before

pub returns-clause-between : goal.returns-clause-between
returns-clause-between c = cell-between

pub returns-clause-behind : goal.returns-clause-behind
returns-clause-behind c = cell-behind
