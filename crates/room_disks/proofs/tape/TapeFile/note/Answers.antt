use Rattle.room_disks.proofs.Noted.{still_held}
use Rattle.room_disks.proofs.tape.TapeFile.note.Goals as goal

pub invariant_of-self-2 : goal.invariant_of-self-2
invariant_of-self-2 c = (
  still_held c.self.inside.start.items c.self.inside.bytes.items c.self.inside.calls.items _ c.args.call
      c.in_ok-push.ensures.items c.requires c.self.invariant.0,
  c.self.invariant.1,
)
