use Rattle.std.proofs.Common.{ap, ◌∙◌, arith}
use Rattle.composables.specs.Joined.{frames_in}
use Rattle.edit_splice.proofs.Moving.{length-moved}
use Rattle.edit_splice.proofs.shifting.items_after.Goals as goal

pub count_after-requires-clause-short : goal.count_after-requires-clause-short
count_after-requires-clause-short g c =
    omega (
      arith,
      length-moved c.args.shift.now c.args.track.now c.requires.order,
      ap frames_in (c.as_slice.ensures ∙ c.put_views-views.ensures),
      c.min.ensures,
      c.min-2.ensures,
      c.length-length.ensures.value,
      c.requires.short,
    )
