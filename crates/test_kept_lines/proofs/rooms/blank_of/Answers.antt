use Rattle.std.proofs.Common.{◌∙◌, ap, List, map}
use Rattle.composables.specs.TrackState.{TrackState}
use Rattle.take_back.specs.Parts.{fresh}
use Rattle.test_kept_lines.proofs.Opened.{two_open}
use Rattle.test_kept_lines.proofs.rooms.blank_of.Goals as goal

pub new-requires-clause-opens : goal.new-requires-clause-opens
new-requires-clause-opens c =
    rw (c.in_ok-parts.ensures ∙ ap (λ (ts : List TrackState). map fresh ts) c.into_vec.ensures)
    (two_open c.in_ok-table.field-0 c.in_ok-table.ensures.plain c.in_ok-table.ensures.sound)
