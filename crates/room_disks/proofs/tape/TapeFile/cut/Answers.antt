use Rattle.std.proofs.Common.{◌∙◌, arith, refl}
use Rattle.room_disks.proofs.Noted.{held_cut}
use Rattle.room_disks.proofs.tape.TapeFile.cut.Goals as goal

pub invariant_of-self-2 : goal.invariant_of-self-2
invariant_of-self-2 c = (
  c.truncate.ensures.items ∙ held_cut c.self.inside.start.items c.self.inside.bytes.items c.args.len
      c.self.inside.calls.items _ _ c.in_ok-push.ensures.items refl c.self.invariant.0,
  omega (arith, c.truncate.ensures.len, c.self.invariant.1),
)
