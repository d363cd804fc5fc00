use Rattle.std.proofs.Common.{◌-◌, ap, ◌∙◌, arith, None}
use Rattle.composables.specs.Joined.{frames_in}
use Rattle.edit_splice.proofs.Moving.{frames-put}
use Rattle.edit_splice.proofs.Places.{place-order, place-within}
use Rattle.edit_insert.proofs.removing.remove_track.Goals as goal

pub overflow_sub-found : goal.overflow_sub-found
overflow_sub-found g c = place-order c.args.track.now c.in-Some.found c.in-Some.ensures.found

pub place-requires-clause-order : goal.place-requires-clause-order
place-requires-clause-order g c = place-order c.args.track.now c.in-Some.found c.in-Some.ensures.found

pub place-requires-clause-within : goal.place-requires-clause-within
place-requires-clause-within g c = place-within c.args.track.now c.in-Some.found c.requires.kept c.in-Some.ensures.found

pub place-requires-clause-short : goal.place-requires-clause-short
place-requires-clause-short g c =
    omega (
      arith,
      ap frames_in (c.as_slice.ensures ∙ c.of-items.ensures),
      frames-put (c.in-Some.found.to - c.in-Some.found.from) None,
      place-order c.args.track.now c.in-Some.found c.in-Some.ensures.found,
      place-within c.args.track.now c.in-Some.found c.requires.kept c.in-Some.ensures.found,
      c.requires.frames,
    )
