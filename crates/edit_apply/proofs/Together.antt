-- Each call keeps the tracks of a room together.
use Rattle.std.proofs.Common.{◌≡◌, ℕ, zero, suc, ◌+◌, ◌≤◌, List, [], ◌∷◌, All, length, take, Option, Some, None, IsSomeAnd, refl, sym, ap, arith, subst}
use Rattle.composables.specs.declared.media.Table.{Table}
use Rattle.composables.specs.Good.{IsGood}
use Rattle.composables.specs.Ranges.{offset_of}
use Rattle.composables.specs.TrackState.{TrackState}
use Rattle.edit_splice.proofs.Standing.{all_head, all_tail}
use Rattle.room_core.specs.declared.entry.Entry.{Entry}
use Rattle.room_core.specs.History.{replay, state_in}
use Rattle.room_core.specs.Parts.{AreGood, numbers}
use Rattle.room_core.specs.Whole.{whole}
use Rattle.link_laws.specs.Together.{Together}
use Rattle.link_laws.specs.Wholes.{Numbered}
use Rattle.link_laws.specs.Histories.{CallsKeepTogether}
use Rattle.link_laws.specs.Rooms.{KeepsTogether}
use Rattle.link_laws.proofs.Edits.{dissolving-keeps, moving-keeps, putting-keeps, unlinking-keeps}
use Rattle.link_laws.proofs.Histories.{histories-together}
use Rattle.link_laws.proofs.Linking.{linking-keeps}
use Rattle.link_laws.proofs.Openings.{bare-given}
use Rattle.link_laws.proofs.RippleLaw.{ripple-keeps}
use Rattle.link_laws.proofs.ShiftEdits.{shifting-keeps}
use Rattle.link_laws.proofs.Shifting.{home-bit}
use Rattle.link_laws.proofs.SlideLaw.{sliding-keeps}
use Rattle.link_laws.proofs.SlipLaw.{slipping-keeps}
use Rattle.link_laws.proofs.Tied.{stands-sees}
use Rattle.link_laws.proofs.Wholes.{unlinked-together}
use Rattle.edit_calls.specs.declared.asks.Call.{Call}
use Rattle.edit_calls.specs.declared.asks.Call.TheVariants as call
use Rattle.edit_apply.specs.Apply.{applied_on, editing, track_count}
use Rattle.edit_apply.specs.LinkLaws.{editing-given, tracks-bare, tracks-good, tracks-numbered}
use Rattle.edit_apply.specs.RoomTracks.{IsTrackOf}
use Rattle.edit_apply.specs.RoomyLaws.{editing-roomy}
use Rattle.edit_apply.specs.TogetherLaws.{AreRoomTracks, AreTogetherAndRoomy, CallsKeepRooms, RoomsStayRoomy, RoomsStayTogether}
use Rattle.edit_apply.proofs.Fronts.{front-applies, front-legal}
use Rattle.edit_apply.proofs.Goodness.{IsRoomAt, LeavesRoom, are-tracks, good-before, room-call}

together_applied : (table : Table) (c : Call) → KeepsTogether table (λ named. applied_on table named c)
together_applied table (call.Overwrite c) = putting-keeps.overwrite table c
together_applied table (call.Insert c) = shifting-keeps.insert table c
together_applied table (call.Remove c) = putting-keeps.remove table c
together_applied table (call.Extract c) = shifting-keeps.extract table c
together_applied table (call.Slice c) = putting-keeps.slice table c
together_applied table (call.Dissolve c) = dissolving-keeps.dissolve table c
together_applied table (call.Undissolve c) = dissolving-keeps.undissolve table c
together_applied table (call.Trim c) = moving-keeps.trim table c
together_applied table (call.Slip c) = slipping-keeps table c
together_applied table (call.Roll c) = moving-keeps.roll table c
together_applied table (call.Slide c) = sliding-keeps table c
together_applied table (call.Fill c) = putting-keeps.fill table c
together_applied table (call.Ripple c) = ripple-keeps table c
together_applied table (call.Link3 c) = linking-keeps table c
together_applied table (call.Unlink c) = unlinking-keeps table c

editing_together : (table : Table) → CallsKeepTogether table (track_count table) (editing table)
editing_together table = record { keeps = together_applied table; given = editing-given table }

-- a history that begins with an opening
pub rooms-together : RoomsStayTogether
rooms-together table ps qs entries opens comes =
    let r = tracks-numbered table 0 (track_count table) ps opens.good in
    let bare = tracks-bare table ps (tracks-good table (numbers 0 (track_count table)) ps opens.good) opens.unlinked in
    let keeps : CallsKeepTogether table (length ps) (editing table) = subst (λ (n : ℕ). CallsKeepTogether table n (editing table)) (sym r.1) (editing_together table) in
    (histories-together table (editing table) ps qs entries keeps r.0 (omega (arith, r.1)) (bare-given table ps bare) (unlinked-together table ps bare) (good-before table ps qs entries opens comes) comes).together

-- one call on tracks of a room that are together: their links were given away by their homes

room_tracks : (table : Table) (from count : ℕ) (ts : List TrackState) → Numbered from ts → length ts ≡ count → All (IsGood table) ts → AreGood (IsTrackOf table) (numbers from count) ts
room_tracks table from zero [] h e g = tt
room_tracks table from zero (t ∷ ts) h e g = absurd (omega (arith, e))
room_tracks table from (suc count) [] h e g = absurd (omega (arith, e))
room_tracks table from (suc count) (t ∷ ts) h e g = (
  record { good = all_head (IsGood table) t ts g; number_is = h.0 },
  room_tracks table (from + 1) count ts h.1 (omega (arith, e)) (all_tail (IsGood table) t ts g),
)

room_at : (table : Table) (ts : List TrackState) → AreRoomTracks table ts → Together ts → IsRoomAt table ts
room_at table ts h g =
    let r = tracks-numbered table 0 (track_count table) ts h in
    let good = tracks-good table (numbers 0 (track_count table)) ts h in
    record {
      numbered = r.0;
      count = r.1;
      given = λ p c l s e. (g.below p c l s e, home-bit table ts l (offset_of c.side p) (are-tracks table 0 ts r.0 (omega (arith, r.1)) good) (stands-sees ts p c l s e));
      good = good;
    }

pub calls-keep-rooms : CallsKeepRooms
calls-keep-rooms table ts us c d bounded tracks g e =
    let h = room_at table ts tracks g in
    let keeps : CallsKeepTogether table (length ts) (editing table) = subst (λ (n : ℕ). CallsKeepTogether table n (editing table)) (sym h.count) (editing_together table) in
    let one : Entry Call = record { station = 0; number = 0; call = c } in
    let comes : replay (whole (editing table)) ts (one ∷ []) ≡ Some us = ap state_in e in
    let few : length ts ≤ 32 = omega (arith, h.count) in
    let after = histories-together table (editing table) ts us (one ∷ []) keeps h.numbered few h.given g (are-tracks table 0 ts h.numbered (omega (arith, h.count)) h.good, tt) comes in
    let room : IsRoomAt table us = subst (LeavesRoom table) e (room-call table bounded ts c h) in
    (after.together, room_tracks table 0 (track_count table) us room.numbered room.count room.good)

-- a legal history, at every point
pub rooms-roomy : RoomsStayRoomy
rooms-roomy table ps entries n opens legal = by (replay (whole (editing table)) ps (take n entries)) refl where
  by : (o : Option (List TrackState)) → replay (whole (editing table)) ps (take n entries) ≡ o → IsSomeAnd o AreTogetherAndRoomy
  by None e = absurd (front-applies (whole (editing table)) ps entries n legal.applies e)
  by (Some qs) e = record {
    together = rooms-together table ps qs (take n entries) opens e;
    roomy = editing-roomy table ps qs (take n entries) opens (front-legal (whole (editing table)) ps qs entries n legal e) e;
  }
