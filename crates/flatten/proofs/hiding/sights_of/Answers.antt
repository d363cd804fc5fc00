use Rattle.std.proofs.Common.{map, ap, ◌∙◌}
use Rattle.frame_meaning.specs.Render.{render}
use Rattle.dissolves.specs.Pieces.{cut}
use Rattle.flatten.specs.Marks.{hides_of, is_hiding}
use Rattle.flatten.specs.Strips.{frames_of}
use Rattle.flatten.proofs.FadePlaces.{layer_meant, within_each}
use Rattle.flatten.proofs.hiding.sights_of.Goals as goal

pub returns-clause-seen : goal.returns-clause-seen
returns-clause-seen c =
    let places = cut c.args.from c.args.to (render c.args.track.now.cells) in
    layer_meant c.args.media.now (map frames_of c.args.nests.now) (map hides_of c.args.marks.now) places (record { frames = c.in_ok-frames.frames; marks = c.in_ok-marks.marks }) c.in_ok-frames.ensures.are
    (ap (map is_hiding) c.in_ok-marks.ensures.are ∙ within_each c.args.marks.now places)
