use Rattle.std.proofs.Common.{◌≡◌, Option, ap, ◌∙◌, arith, subst, slice_get, ◌+◌}
use Rattle.frame_meaning.specs.declared.cells.Mark.{Mark}
use Rattle.composables.specs.Items.{items_of}
use Rattle.composables.specs.TrackFacts.{left_reach, right_reach}
use Rattle.edit_trim.specs.LinkedSlips.{RoomOf}
use Rattle.edit_trim.specs.Slipping.{mark_of}
use Rattle.edit_trim.proofs.LinkedRooms.{ends-of, room-of}
use Rattle.edit_trim.proofs.Slipped.{less-lies, less-source}
use Rattle.edit_trim.proofs.linked_slips.room_to_slip.Goals as goal

pub room_earlier-requires : goal.room_earlier-requires
room_earlier-requires c =
    let e = ends-of c.args.table.now c.args.track.now c.args.index c.args.view.now c.mark_of-tail.result c.requires.good c.requires.view (c.mark_of-tail.ensures ∙ ap mark_of c.item.ensures) in
    record { lies = less-lies c.args.table.now c.args.view.now.first c.args.view.now.len (left_reach c.args.view.now.mark) (right_reach c.mark_of-tail.result) (left_reach c.args.view.now.mark) 0 (omega arith) (omega arith) e.lies }

pub room_later-requires-clause-filled : goal.room_later-requires-clause-filled
room_later-requires-clause-filled c =
    (ends-of c.args.table.now c.args.track.now c.args.index c.args.view.now c.mark_of-tail.result c.requires.good c.requires.view (c.mark_of-tail.ensures ∙ ap mark_of c.item.ensures)).filled

pub room_later-requires-clause-lies : goal.room_later-requires-clause-lies
room_later-requires-clause-lies c =
    let e = ends-of c.args.table.now c.args.track.now c.args.index c.args.view.now c.mark_of-tail.result c.requires.good c.requires.view (c.mark_of-tail.ensures ∙ ap mark_of c.item.ensures) in
    less-lies c.args.table.now c.args.view.now.first c.args.view.now.len (left_reach c.args.view.now.mark) (right_reach c.mark_of-tail.result) 0 (right_reach c.mark_of-tail.result) (omega arith) (omega arith) e.lies

pub room_later-requires-clause-source : goal.room_later-requires-clause-source
room_later-requires-clause-source c =
    let e = ends-of c.args.table.now c.args.track.now c.args.index c.args.view.now c.mark_of-tail.result c.requires.good c.requires.view (c.mark_of-tail.ensures ∙ ap mark_of c.item.ensures) in
    less-source c.args.view.now.first c.args.view.now.len (left_reach c.args.view.now.mark) (right_reach c.mark_of-tail.result) e.source

pub returns : goal.returns
returns c =
    let is : c.mark_of-tail.result ≡ mark_of (slice_get (items_of c.args.track.now.cells) (c.args.index + 1)) = c.mark_of-tail.ensures ∙ ap mark_of c.item.ensures in
    let e = ends-of c.args.table.now c.args.track.now c.args.index c.args.view.now c.mark_of-tail.result c.requires.good c.requires.view is in
    subst (λ (m : Option Mark). RoomOf c.args.table.now c.args.view.now m (record { earlier = c.room_earlier.result; later = c.room_later.result })) is
    (room-of c.args.table.now c.args.view.now c.mark_of-tail.result c.room_earlier.result c.room_later.result e.filled e.lies e.source c.room_earlier.ensures c.room_later.ensures.reach c.room_later.ensures.numbered c.room_earlier.type_inv c.room_later.type_inv)
