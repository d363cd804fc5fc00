use Rattle.std.proofs.Common.{sym}
use Rattle.edit_roll.proofs.LinkedSlides.{refuse-absent}
use Rattle.edit_roll.proofs.linked_slides.links_refuse.Goals as goal

pub returns-in-None-clause-refusal : goal.returns-in-None-clause-refusal
returns-in-None-clause-refusal g c = sym (refuse-absent c.args.table.now c.args.named.now c.args.call.now c.args.track.now (rw c.in-None.is at c.requires.found))
