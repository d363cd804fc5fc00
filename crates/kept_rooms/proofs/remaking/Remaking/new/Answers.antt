use Rattle.std.proofs.Common.{length}
use Rattle.kept_rooms.proofs.Making.{made_first}
use Rattle.kept_rooms.proofs.remaking.Remaking.new.Goals as goal

pub returns-clause-made : goal.returns-clause-made
returns-clause-made g c =
    let passes = c.args.passes.items in
    rw (c.new.ensures.items, c.in_ok-held.ensures) (made_first g.J.Naming.opening (length passes) c.new-2.result passes c.new-2.ensures c.requires)
