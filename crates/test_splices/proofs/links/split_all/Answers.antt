use Rattle.std.proofs.Common.{◌≡◌, List, None, sym, ◌∙◌, arith, subst}
use Rattle.composables.specs.Links.{cells_from, link_outside}
use Rattle.composables.specs.TrackState.{TrackState}
use Rattle.link_groups.proofs.Meant.{may-split}
use Rattle.test_splices.proofs.links.split_all.Goals as goal

pub renumber-requires-clause-room : goal.renumber-requires-clause-room
renumber-requires-clause-room g c = may-split c.args.table.now c.args.named.now.items 3 c.requires.good c.requires.roomy c.requires.named

pub renumber-requires-clause-inside : goal.renumber-requires-clause-inside
renumber-requires-clause-inside g c =
    subst (λ (ts : List TrackState). link_outside ts (cells_from 0 ts) ≡ None) c.deref.ensures.value (sym c.check.ensures.refusal ∙ c.in-None.is)

pub renumber-requires-clause-own : goal.renumber-requires-clause-own
renumber-requires-clause-own g c = λ k d lt. (c.requires.good k d lt).links

pub renumber-requires-clause-uncut : goal.renumber-requires-clause-uncut
renumber-requires-clause-uncut g c = λ k d lt i v e begins ends. absurd (omega (arith, begins))
