use Rattle.json_tree.proofs.SoundSteps.{members_sound}
use Rattle.json_tree.proofs.tree.Members.push.Goals as goal

pub invariant_of-self-2 : goal.invariant_of-self-2
invariant_of-self-2 c = rw c.in_ok-push.ensures.items (members_sound c.self.inside.list.items c.args.member c.self.invariant c.keeps_utf8_and_least_places.ensures.name c.keeps_utf8_and_least_places.ensures.value)
