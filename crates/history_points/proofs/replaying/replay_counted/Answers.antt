use Rattle.std.proofs.Common.{All, ◌++◌, take, arith}
use Rattle.std.proofs.lemmas.List.{length-append, length-take-le}
use Rattle.room_core.specs.Whole.{whole}
use Rattle.history_points.proofs.Renumbered.{comes_to, comes_further}
use Rattle.history_points.proofs.replaying.replay_counted.Goals as goal

pub apply_in_place-requires-clause-count : goal.apply_in_place-requires-clause-count
apply_in_place-requires-clause-count g c =
    let from = c.requires.from in
    (g.met.O.PartObject.opening c.args.object.now from.opening from.opens_so).1

pub apply_in_place-requires-clause-roomy : goal.apply_in_place-requires-clause-roomy
apply_in_place-requires-clause-roomy g c =
    let o = c.args.object.now in
    let from = c.requires.from in
    let so_far = take c.loop-k.k c.args.entries.now in
    comes_to (whole (g.O.PartObject.meaning o)) from.opening c.loop-k.parts (All (g.O.PartObject.roomy o)) (from.entries ++ so_far)
    (λ entries legal comes. g.met.O.PartObject.stays_roomy o from.opening c.loop-k.parts entries from.opens_so legal comes)
    (omega (arith, length-append from.entries so_far, length-take-le c.loop-k.k c.args.entries.now (omega (arith, c.loop-k-test.true, c.requires.within)), c.loop-k-test.true, from.room))
    (comes_further (whole (g.O.PartObject.meaning o)) from.opening c.args.from.now c.loop-k.parts from.entries so_far from.comes c.loop-k.invariant.comes)
