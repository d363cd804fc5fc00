use Rattle.std.proofs.Common.{sym, ◌∙◌}
use Rattle.list_import.proofs.ReelFacts.{side_there}
use Rattle.list_import.proofs.naming.enter_side.Goals as goal

pub returns-clause-side : goal.returns-clause-side
returns-clause-side c =
    side_there c.args.table.now c.enter_reel.new.self c.args.reel.now c.text_of.result.now c.in_ok-number.number c.args.source
    (sym c.is_black.ensures ∙ c.if-is_black.false) c.text_of.ensures c.in_ok-number.ensures.ok c.in_ok-number.ensures.number
