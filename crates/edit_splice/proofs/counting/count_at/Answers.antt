use Rattle.std.proofs.Common.{ℕ, ap, ◌∙◌, arith, false}
use Rattle.composables.specs.TrackState.{next_past_all}
use Rattle.composables.proofs.Joining.{length-items_of}
use Rattle.edit_splice.specs.Splicing.{spliced_track}
use Rattle.edit_splice.proofs.Outcomes.{length-spliced_track}
use Rattle.edit_splice.proofs.Counted.{counted, left-within, right-within}
use Rattle.edit_splice.proofs.counting.count_at.Goals as goal

pub count_by-requires : goal.count_by-requires
count_by-requires g c =
    omega (arith, left-within c.args.track.now.cells c.args.x c.args.seams.now.left c.requires.seams.left, length-items_of c.args.track.now.cells, c.a_track_is_kept.ensures.short)

pub count_past-past-requires : goal.count_past-past-requires
count_past-past-requires g c = right-within c.args.track.now.cells c.args.y c.count.result c.args.seams.now.right c.requires.seams.right c.count.ensures

pub total-requires : goal.total-requires
total-requires g c =
    omega (
      arith,
      length-items_of (spliced_track false c.args.track.now c.args.x c.args.y c.args.items.now).cells,
      length-spliced_track false c.args.track.now c.args.x c.args.y c.args.items.now c.requires.order c.requires.within,
      c.requires.short,
      counted false c.args.track.now c.args.x c.args.y c.number_past_all-fresh.result c.count.result c.count_by.result c.begun-between.result c.count_past-past.result c.args.seams.now c.split_between-split.result
          c.number_of.result c.back_number.result c.args.items.now c.a_track_is_kept.ensures c.requires.order c.requires.filled c.requires.seams
          (c.number_past_all-fresh.ensures ∙ ap (λ (k : ℕ). next_past_all k c.args.items.now) c.next_item.ensures) c.split_between-split.ensures c.count.ensures c.number_of.ensures c.back_number.ensures
          c.count_by.ensures c.begun-between.ensures.begun c.count_past-past.ensures,
    )

pub returns-clause-count : goal.returns-clause-count
returns-clause-count g c keep =
    c.total.ensures
    ∙ counted keep c.args.track.now c.args.x c.args.y c.number_past_all-fresh.result c.count.result c.count_by.result c.begun-between.result c.count_past-past.result c.args.seams.now c.split_between-split.result
    c.number_of.result c.back_number.result c.args.items.now c.a_track_is_kept.ensures c.requires.order c.requires.filled c.requires.seams
    (c.number_past_all-fresh.ensures ∙ ap (λ (k : ℕ). next_past_all k c.args.items.now) c.next_item.ensures) c.split_between-split.ensures c.count.ensures c.number_of.ensures c.back_number.ensures
    c.count_by.ensures c.begun-between.ensures.begun c.count_past-past.ensures
