use Rattle.std.proofs.Common.{Result, sym, subst, w32, SFits, rules}
use Rattle.composables.specs.declared.calls.End.TheVariants.{Head, Tail}
use Rattle.composables.specs.declared.refusals.Done.{Done}
use Rattle.composables.specs.declared.refusals.Refusal.{Refusal}
use Rattle.out_of_memory.specs.Answers.{Answers}
use Rattle.composables.specs.TrackState.{TrackState}
use Rattle.edit_trim.proofs.Trims.{track-means}
use Rattle.edit_trim.proofs.trimming.trim_track.Goals as goal

pub returns-in-Head-clause-answers : goal.returns-in-Head-clause-answers
returns-in-Head-clause-answers g c =
    let fits : SFits w32 c.args.call.now.by = search rules in
    subst (λ (m : Result (TrackState × Done) Refusal). Answers m c.args.track.now c.trim_head.new.track c.trim_head.result)
    (sym (track-means c.args.table.now c.args.call.now c.args.track.now c.item_by_id.result c.in-Some.found Head fits c.item_by_id.ensures.range c.in-Some.is c.in-Head.is)) c.trim_head.ensures.answers

pub returns-in-Tail-clause-answers : goal.returns-in-Tail-clause-answers
returns-in-Tail-clause-answers g c =
    let fits : SFits w32 c.args.call.now.by = search rules in
    subst (λ (m : Result (TrackState × Done) Refusal). Answers m c.args.track.now c.trim_tail.new.track c.trim_tail.result)
    (sym (track-means c.args.table.now c.args.call.now c.args.track.now c.item_by_id.result c.in-Some.found Tail fits c.item_by_id.ensures.range c.in-Some.is c.in-Tail.is)) c.trim_tail.ensures.answers
