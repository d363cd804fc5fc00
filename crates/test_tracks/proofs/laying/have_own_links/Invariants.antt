use Rattle.std.proofs.Common.{◌↔◌, drop}
use Rattle.composables.specs.Good.{EachLinkOf}
use Rattle.test_tracks.proofs.laying.have_own_links.Given as goal

abbrev pub invariant-loop-view : goal.invariant-loop-view
invariant-loop-view l = EachLinkOf l.number (drop l.view-index l.views) ↔ EachLinkOf l.number l.views
