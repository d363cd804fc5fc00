use Rattle.std.proofs.Common.{◌≤◌, length, sym, ap, ◌∙◌, arith, subst}
use Rattle.composables.specs.declared.TheConstants.{MAX_FRAMES}
use Rattle.edl_write.specs.Limits.{AreShort, EachCanBeWritten}
use Rattle.edl_write.proofs.Limits.{events_limited}
use Rattle.edl_write.proofs.Passing.{can_be_written}
use Rattle.edl_write.proofs.list.write_list.Goals as goal

pub check-requires-clause-short : goal.check-requires-clause-short
check-requires-clause-short g c =
    subst AreShort (sym c.as_slice.ensures.value) (events_limited c.args.table.now c.args.tracks.now c.in_ok-events.events.items c.requires.tracks c.in_ok-events.ensures.events).short

pub check-requires-clause-few : goal.check-requires-clause-few
check-requires-clause-few g c =
    let few = (events_limited c.args.table.now c.args.tracks.now c.in_ok-events.events.items c.requires.tracks c.in_ok-events.ensures.events).few in
    omega (arith, ap length c.as_slice.ensures.value, few)

pub list_text-requires-clause-events : goal.list_text-requires-clause-events
list_text-requires-clause-events g c =
    let small : c.day.result ≤ MAX_FRAMES = omega (arith, c.day.ensures.most) in
    subst (EachCanBeWritten c.args.start) (c.as_slice.ensures.value ∙ sym c.as_slice-3.ensures.value)
    (can_be_written c.day.result c.args.start c.as_slice.result.now small c.in_ok-check.ensures.long c.in_ok-check.ensures.past)
