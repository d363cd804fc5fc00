use Rattle.std.proofs.Common.{◌≡◌, List, Some, Ok, map, refl, is_ok, sym, ap, ◌∙◌, subst}
use Rattle.composables.specs.Links.{outside_refusal}
use Rattle.composables.specs.TrackState.{TrackState}
use Rattle.out_of_memory.proofs.Answered.{answers-memory}
use Rattle.edit_splice.specs.Standing.{EachStaysGood}
use Rattle.edit_splice.proofs.Standing.{each-self}
use Rattle.edit_trim.specs.LinkedSlips.{AllMove, RoomAmong, back_of, moved_by, on_of}
use Rattle.edit_trim.specs.Slipping.{slip_linked}
use Rattle.edit_trim.proofs.LinkedMoves.{all-stay}
use Rattle.edit_trim.proofs.LinkedSlip.{link-done, link-slip}
use Rattle.edit_trim.proofs.linked_slips.slip_linked.Goals as goal

pub returns-in-Some-clause-good : goal.returns-in-Some-clause-good
returns-in-Some-clause-good g c = each-self c.args.table.now c.args.named.now.items c.requires.good

pub move_all-requires-clause-moves : goal.move_all-requires-clause-moves
move_all-requires-clause-moves g c =
    let room = subst (λ (ts : List TrackState). RoomAmong c.args.table.now c.args.link ts c.room_among-room.result) c.deref-2.ensures.value c.room_among-room.ensures.room in
    let copied : c.in_ok-slipped.slipped.items ≡ c.args.named.now.items = c.in_ok-slipped.ensures ∙ c.deref-3.ensures.value in
    subst (λ (ts : List TrackState). AllMove c.args.table.now c.args.link ts (on_of c.used_within-used.result.way) (back_of c.used_within-used.result.way)) (sym copied)
    (link-slip c.args.table.now c.args.link c.args.named.now.items c.args.by c.room_among-room.result c.used_within-used.result c.ranges.by room c.used_within-used.ensures).moves

pub returns-clause-answers : goal.returns-clause-answers
returns-clause-answers g c =
    let room = subst (λ (ts : List TrackState). RoomAmong c.args.table.now c.args.link ts c.room_among-room.result) c.deref-2.ensures.value c.room_among-room.ensures.room in
    let slip = link-slip c.args.table.now c.args.link c.args.named.now.items c.args.by c.room_among-room.result c.used_within-used.result c.ranges.by room c.used_within-used.ensures in
    let inside = ap (λ (ts : List TrackState). outside_refusal ts (Some c.args.link)) (sym c.deref.ensures.value) ∙ (sym c.outside_refusal.ensures ∙ c.in-None.is) in
    let copied : c.in_ok-slipped.slipped.items ≡ c.args.named.now.items = c.in_ok-slipped.ensures ∙ c.deref-3.ensures.value in
    let moved : c.move_all.new.named.items ≡ map (moved_by c.args.link c.used_within-used.result.way) c.args.named.now.items = c.in_ok-move_all.ensures.moved ∙ ap (map (moved_by c.args.link c.used_within-used.result.way)) copied in
    link-done c.args.table.now c.args.named.now.items c.args.link c.args.by c.used_within-used.result inside slip
    ∙ ap (λ (us : List TrackState). Ok (us, c.used_within-used.result.done)) (sym {A = List TrackState} moved)

pub returns-clause-good : goal.returns-clause-good
returns-clause-good g c =
    let room = subst (λ (ts : List TrackState). RoomAmong c.args.table.now c.args.link ts c.room_among-room.result) c.deref-2.ensures.value c.room_among-room.ensures.room in
    let slip = link-slip c.args.table.now c.args.link c.args.named.now.items c.args.by c.room_among-room.result c.used_within-used.result c.ranges.by room c.used_within-used.ensures in
    let copied : c.in_ok-slipped.slipped.items ≡ c.args.named.now.items = c.in_ok-slipped.ensures ∙ c.deref-3.ensures.value in
    let moved : c.move_all.new.named.items ≡ map (moved_by c.args.link c.used_within-used.result.way) c.args.named.now.items = c.in_ok-move_all.ensures.moved ∙ ap (map (moved_by c.args.link c.used_within-used.result.way)) copied in
    subst (EachStaysGood c.args.table.now c.args.named.now.items) (sym {A = List TrackState} moved)
    (all-stay c.args.table.now c.args.link (on_of c.used_within-used.result.way) (back_of c.used_within-used.result.way) c.args.named.now.items c.requires.good slip.moves)

pub returns-in_err-slipped-clause-answers : goal.returns-in_err-slipped-clause-answers
returns-in_err-slipped-clause-answers g c =
    let room = subst (λ (ts : List TrackState). RoomAmong c.args.table.now c.args.link ts c.room_among-room.result) c.deref-2.ensures.value c.room_among-room.ensures.room in
    let slip = link-slip c.args.table.now c.args.link c.args.named.now.items c.args.by c.room_among-room.result c.used_within-used.result c.ranges.by room c.used_within-used.ensures in
    let inside = ap (λ (ts : List TrackState). outside_refusal ts (Some c.args.link)) (sym c.deref.ensures.value) ∙ (sym c.outside_refusal.ensures ∙ c.in-None.is) in
    answers-memory (slip_linked c.args.table.now c.args.named.now.items c.args.link c.args.by) c.args.named.now.items c.args.named.now.items c.from_residual.result c.from_residual.ensures.1
    (ap is_ok (link-done c.args.table.now c.args.named.now.items c.args.link c.args.by c.used_within-used.result inside slip)) refl

pub returns-in_err-slipped-clause-good : goal.returns-in_err-slipped-clause-good
returns-in_err-slipped-clause-good g c = each-self c.args.table.now c.args.named.now.items c.requires.good

pub returns-in_err-move_all-clause-answers : goal.returns-in_err-move_all-clause-answers
returns-in_err-move_all-clause-answers g c =
    let room = subst (λ (ts : List TrackState). RoomAmong c.args.table.now c.args.link ts c.room_among-room.result) c.deref-2.ensures.value c.room_among-room.ensures.room in
    let slip = link-slip c.args.table.now c.args.link c.args.named.now.items c.args.by c.room_among-room.result c.used_within-used.result c.ranges.by room c.used_within-used.ensures in
    let inside = ap (λ (ts : List TrackState). outside_refusal ts (Some c.args.link)) (sym c.deref.ensures.value) ∙ (sym c.outside_refusal.ensures ∙ c.in-None.is) in
    answers-memory (slip_linked c.args.table.now c.args.named.now.items c.args.link c.args.by) c.args.named.now.items c.args.named.now.items c.from_residual-in_err-move_all.result c.from_residual-in_err-move_all.ensures.1
    (ap is_ok (link-done c.args.table.now c.args.named.now.items c.args.link c.args.by c.used_within-used.result inside slip)) refl

pub returns-in_err-move_all-clause-good : goal.returns-in_err-move_all-clause-good
returns-in_err-move_all-clause-good g c = each-self c.args.table.now c.args.named.now.items c.requires.good
