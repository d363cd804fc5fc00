use Rattle.json_tree.proofs.SoundSteps.{items_sound}
use Rattle.json_tree.proofs.tree.Items.push.Goals as goal

pub invariant_of-self-2 : goal.invariant_of-self-2
invariant_of-self-2 c = rw c.in_ok-push.ensures.items (items_sound c.self.inside.list.items c.args.item c.self.invariant c.keeps_utf8_and_least_places.ensures)
