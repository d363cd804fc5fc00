use Rattle.std.proofs.Common.{ℕ, ap, ◌∙◌, arith}
use Rattle.composables.specs.TrackState.{next_past_all}
use Rattle.edit_splice.proofs.Numbers.{below-weaker}
use Rattle.edit_splice.proofs.Placed.{seams-reach, end-fits, ends-ordered, replaced-is, kept-replaced, filled-made, below-made}
use Rattle.edit_splice.proofs.splicing.splice_at.Goals as goal

pub number_past_all-fresh-requires : goal.number_past_all-fresh-requires
number_past_all-fresh-requires g c = below-weaker 4294967294 4294967295 c.args.items.now (omega arith) c.requires.numbers

pub parts_between-requires-clause-right : goal.parts_between-requires-clause-right
parts_between-requires-clause-right g c =
    seams-reach c.args.track.now.cells c.args.x c.args.y c.args.seams.now c.a_track_is_kept.ensures.each c.requires.seams

pub end_index-to-requires : goal.end_index-to-requires
end_index-to-requires g c =
    end-fits c.args.track.now.cells c.args.x c.args.y c.count.result c.args.seams.now c.requires.seams c.count.ensures

pub replace-requires-clause-order : goal.replace-requires-clause-order
replace-requires-clause-order g c =
    ends-ordered c.args.track.now.cells c.args.x c.args.y c.count.result c.first_index-from.result c.end_index-to.result c.args.seams.now c.requires.order c.requires.seams c.count.ensures c.first_index-from.ensures c.end_index-to.ensures

pub replace-requires-clause-within : goal.replace-requires-clause-within
replace-requires-clause-within g c =
    omega (
      arith,
      c.end_index-to.ensures,
      c.count.ensures,
      end-fits c.args.track.now.cells c.args.x c.args.y c.count.result c.args.seams.now c.requires.seams c.count.ensures,
    )

pub replace-requires-clause-filled : goal.replace-requires-clause-filled
replace-requires-clause-filled g c =
    filled-made c.args.keep c.args.track.now.cells c.args.x c.args.y c.number_past_all-fresh.result c.args.seams.now c.args.items.now c.in_ok-parts.parts.items c.a_track_is_kept.ensures.each c.requires.seams c.requires.filled c.in_ok-parts.ensures

pub replace-requires-clause-numbers : goal.replace-requires-clause-numbers
replace-requires-clause-numbers g c =
    below-made c.args.keep c.args.track.now c.args.x c.args.y c.number_past_all-fresh.result 4294967294 c.args.seams.now c.args.items.now c.in_ok-parts.parts.items c.a_track_is_kept.ensures c.requires.seams
    (omega (arith, c.requires.next)) c.requires.numbers (c.number_past_all-fresh.ensures ∙ ap (λ (k : ℕ). next_past_all k c.args.items.now) c.next_item.ensures) (below-weaker 4294967294 4294967295 c.args.items.now (omega arith) c.requires.numbers) c.in_ok-parts.ensures

pub replace-requires-clause-kept : goal.replace-requires-clause-kept
replace-requires-clause-kept g c =
    kept-replaced c.args.keep c.args.track.now c.args.x c.args.y c.count.result c.number_past_all-fresh.result c.first_index-from.result c.end_index-to.result c.args.seams.now c.args.items.now c.in_ok-parts.parts.items
    c.a_track_is_kept.ensures c.requires.order c.requires.seams c.count.ensures (c.number_past_all-fresh.ensures ∙ ap (λ (k : ℕ). next_past_all k c.args.items.now) c.next_item.ensures) c.first_index-from.ensures c.end_index-to.ensures c.in_ok-parts.ensures c.requires.kept

pub returns-clause-ok : goal.returns-clause-ok
returns-clause-ok g c =
    rw (← replaced-is c.args.keep c.args.track.now c.args.x c.args.y c.count.result c.number_past_all-fresh.result c.first_index-from.result c.end_index-to.result c.args.seams.now c.args.items.now c.in_ok-parts.parts.items
    c.a_track_is_kept.ensures c.requires.order c.requires.seams c.count.ensures (c.number_past_all-fresh.ensures ∙ ap (λ (k : ℕ). next_past_all k c.args.items.now) c.next_item.ensures) c.first_index-from.ensures c.end_index-to.ensures
    c.in_ok-parts.ensures) c.replace.ensures.ok
