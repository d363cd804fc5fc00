use Rattle.std.proofs.Common.{◌≡◌, drop}
use Rattle.composables.specs.Links.{is_named}
use Rattle.link_groups.proofs.outside.is_named.Given as goal

abbrev pub invariant-loop-track : goal.invariant-loop-track
invariant-loop-track l = is_named l.named l.number ≡ is_named (drop l.track-index l.named) l.number
