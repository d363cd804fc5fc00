use Rattle.std.proofs.Common.{ℕ, List, map, ap, arith, ◌∙◌}
use Rattle.flatten.specs.Hiding.{Seen, nothing, seen_on}
use Rattle.flatten.specs.Marks.{extent, seen_of}
use Rattle.flatten.proofs.FadePlaces.{video_extent}
use Rattle.flatten.proofs.hiding.video_sights.Goals as goal

pub returns-clause-shows : goal.returns-clause-shows
returns-clause-shows c =
    let are = ap (map seen_of) c.as_slice-4.ensures ∙ c.in_ok-layers.ensures.seen in
    record { composed = c.in_ok-seen.ensures.shows.composed; sights = λ (q : ℕ). c.in_ok-seen.ensures.shows.sights q ∙ ap (λ (ls : List Seen). seen_on nothing ls q) are }

pub returns-clause-short : goal.returns-clause-short
returns-clause-short c =
    let are = ap (map seen_of) c.as_slice-4.ensures ∙ c.in_ok-layers.ensures.seen in
    omega (arith, c.in_ok-seen.ensures.extent, ap extent are, video_extent c.args.table.now c.args.tracks.now c.requires.tracks)
