-- The page of a room and its policy, made by tools/page/embed of page/room.html. Change that, and make this again.
use Rattle.std.specs.Prelude.{ℕ, List, [], ◌∷◌, ◌++◌, codes, flat_map}
use Rattle.room_page.specs.PageMarkup.{markup_1, markup_2, markup_3}
use Rattle.room_page.specs.PageStyle.{style_1}
use Rattle.room_page.specs.PageCut.{cut_1, cut_2, cut_3, cut_4}
use Rattle.room_page.specs.PageSeat.{seat_1, seat_2}
use Rattle.room_page.specs.PageRoom.{room_1, room_2, room_3, room_4, room_5}
use Rattle.room_page.specs.PagePicture.{picture_1, picture_2, picture_3, picture_4}
use Rattle.room_page.specs.PageEdits.{edits_1, edits_2, edits_3, edits_4}
use Rattle.room_page.specs.PagePast.{past_1, past_2}
use Rattle.room_page.specs.PageHands.{hands_1, hands_2, hands_3, hands_4}

-- the text of the page: its parts, one after the other
abbrev pub page_text : List ℕ
page_text = flat_map (λ part. part) (
    markup_1 ∷ style_1 ∷ markup_2 ∷ cut_1 ∷ cut_2 ∷ cut_3 ∷ cut_4 ∷ seat_1 ∷ seat_2 ∷ room_1 ∷
    room_2 ∷ room_3 ∷ room_4 ∷ room_5 ∷ picture_1 ∷ picture_2 ∷ picture_3 ∷ picture_4 ∷ edits_1 ∷
    edits_2 ∷ edits_3 ∷ edits_4 ∷ past_1 ∷ past_2 ∷ hands_1 ∷ hands_2 ∷ hands_3 ∷ hands_4 ∷
    markup_3 ∷ [])

-- what the page may do in a browser
abbrev pub page_policy : List ℕ
page_policy =
    codes "default-src 'none'; "
    ++ codes "script-src 'sha256-lIzSPpeII8AtwCuv88eHGWFJiwIjDwMERdRTxXiiWqM='; "
    ++ codes "style-src 'sha256-qUHbo6+TUn78HDeJYJN6wpVVZnMtlnv1CWDBYxRZtOM='; "
    ++ codes "connect-src 'self'; "
    ++ codes "base-uri 'none'; "
    ++ codes "form-action 'none'; "
    ++ codes "require-trusted-types-for 'script'; "
    ++ codes "frame-ancestors 'none'"
