-- Each call keeps the tracks of a room good, so they are good at every point of its history.
use Rattle.std.proofs.Common.{◌≡◌, ℕ, ◌+◌, ◌≤◌, List, [], ◌∷◌, All, fold, length, Option, Some, None, Ok, Err, refl, sym, ap, ◌∙◌, arith, subst}
use Rattle.composables.specs.declared.media.Table.{Table}
use Rattle.composables.specs.declared.refusals.Refusal.{Refusal}
use Rattle.composables.specs.Answers.{Applied}
use Rattle.composables.specs.Good.{IsGood}
use Rattle.composables.specs.OwnTracks.{numbers_of}
use Rattle.composables.specs.TrackState.{TrackState}
use Rattle.edit_splice.proofs.Standing.{all_head, all_tail}
use Rattle.room_core.specs.declared.entry.Entry.{Entry}
use Rattle.room_core.specs.History.{after_entry, replay, state_in}
use Rattle.room_core.specs.Parts.{AscendBetween, numbers}
use Rattle.room_core.proofs.WholeParts.{roomy_picked}
use Rattle.room_core.specs.Whole.{on_whole, picked, put_back, unless_refused, whole}
use Rattle.link_laws.specs.Given.{AreGiven, LeavesGiven}
use Rattle.link_laws.specs.Histories.{GoodBefore}
use Rattle.link_laws.specs.Rooms.{AreNamed, AreTracks, IsNumbered, with_tracks}
use Rattle.link_laws.specs.Wholes.{Numbered}
use Rattle.link_laws.proofs.Histories.{numbered-room, numbers-picked, ordered-back}
use Rattle.link_laws.proofs.Openings.{bare-given}
use Rattle.link_laws.proofs.Wholes.{among-picked, ascend-picked, put-back}
use Rattle.track_laws.specs.Goods.{IsBounded, KeepsGood}
use Rattle.track_laws.proofs.DeltaLaw.{moving-keeps}
use Rattle.track_laws.proofs.Linking.{linking-keeps}
use Rattle.track_laws.proofs.Marking.{dissolving-keeps}
use Rattle.track_laws.proofs.Putting.{putting-keeps}
use Rattle.track_laws.proofs.Shifting.{shifting-keeps}
use Rattle.edit_calls.specs.declared.asks.Call.{Call}
use Rattle.edit_calls.specs.declared.asks.Call.TheVariants as call
use Rattle.edit_apply.specs.Apply.{applied_on, editing, names_of, refuse_names_of, track_count}
use Rattle.edit_apply.specs.LinkLaws.{editing-given, tracks-bare, tracks-good, tracks-numbered}
use Rattle.edit_apply.specs.NamingLaws.{editing-named}
use Rattle.edit_apply.specs.RoomTracks.{IsOpening}
use Rattle.edit_apply.specs.RoomyLaws.{all-put, no_state}
use Rattle.edit_apply.specs.TogetherLaws.{RoomsStayGood}

-- on the tracks that it names
good_applied : (table : Table) (c : Call) → KeepsGood table (names_of c) (λ named. applied_on table named c)
good_applied table (call.Overwrite c) = putting-keeps.overwrite table c
good_applied table (call.Insert c) = shifting-keeps.insert table c
good_applied table (call.Remove c) = putting-keeps.remove table c
good_applied table (call.Extract c) = shifting-keeps.extract table c
good_applied table (call.Slice c) = putting-keeps.slice table c
good_applied table (call.Dissolve c) = dissolving-keeps.dissolve table c
good_applied table (call.Undissolve c) = dissolving-keeps.undissolve table c
good_applied table (call.Trim c) = moving-keeps.trim table c
good_applied table (call.Slip c) = moving-keeps.slip table c
good_applied table (call.Roll c) = moving-keeps.roll table c
good_applied table (call.Slide c) = moving-keeps.slide table c
good_applied table (call.Fill c) = putting-keeps.fill table c
good_applied table (call.Ripple c) = moving-keeps.ripple table c
good_applied table (call.Link3 c) = linking-keeps.link table c
good_applied table (call.Unlink c) = linking-keeps.unlink table c

-- the tracks of a room at a point of its history

pub record IsRoomAt (table : Table) (all : List TrackState) : Type 0 where
  pub numbered : Numbered 0 all
  pub count : length all ≡ track_count table
  pub given : AreGiven all
  pub good : All (IsGood table) all

pub are-tracks : (table : Table) (from : ℕ) (ts : List TrackState) → Numbered from ts → from + length ts ≤ 32 → All (IsGood table) ts → AreTracks table ts
are-tracks table from [] h le g = tt
are-tracks table from (t ∷ ts) h le g =
    (omega (arith, h.0, le), all_head (IsGood table) t ts g, are-tracks table (from + 1) ts h.1 (omega (arith, le)) (all_tail (IsGood table) t ts g))

abbrev pub LeavesRoom : Table → Applied → Type 0
LeavesRoom table (Ok (us, d)) = IsRoomAt table us
LeavesRoom table (Err why) = Unit {0}

module _ (table : Table) (bounded : IsBounded table) where
  room_back : (all : List TrackState) (c : Call) (r : Applied) → IsRoomAt table all → AscendBetween 0 (length all) (names_of c) → numbers_of (picked all (names_of c)) ≡ names_of c
      → applied_on table (picked all (names_of c)) c ≡ r → LeavesGiven all (picked all (names_of c)) r → LeavesRoom table (on_whole all (names_of c) r)
  room_back all c (Err why) h a n e s = tt
  room_back all c (Ok (us, d)) h a n e s =
      let same : numbers_of us ≡ names_of c = s.numbers ∙ n in
      let asc : AscendBetween 0 (length all) (numbers_of us) = subst (AscendBetween 0 (length all)) (sym same) a in
      let put : put_back all (names_of c) us ≡ with_tracks all us = ap (λ (ns : List ℕ). put_back all ns us) (sym same) ∙ put-back 0 all us h.numbered asc in
      let order : Numbered 0 (put_back all (names_of c) us) × (length (put_back all (names_of c) us) ≡ length all) =
      subst (λ (ns : List ℕ). Numbered 0 (put_back all ns us) × (length (put_back all ns us) ≡ length all)) same (ordered-back all us h.numbered) in
      record {
        numbered = order.0;
        count = order.1 ∙ h.count;
        given = subst AreGiven (sym put) s.given;
        good = all-put (IsGood table) all (names_of c) us h.good (good_applied table c (picked all (names_of c)) us d bounded n (roomy_picked (IsGood table) all (names_of c) h.good) e);
      }

  pub room-call : (all : List TrackState) (c : Call) → IsRoomAt table all → LeavesRoom table (whole (editing table) all c)
  room-call all c h = by (refuse_names_of table c) refl where
    by : (o : Option Refusal) → refuse_names_of table c ≡ o → LeavesRoom table (unless_refused o (on_whole all (names_of c) (applied_on table (picked all (names_of c)) c)))
    by (Some why) e = tt
    by None e =
        let few : length all ≤ 32 = omega (arith, h.count) in
        let a : AscendBetween 0 (length all) (names_of c) = subst (λ (n : ℕ). AscendBetween 0 n (names_of c)) (sym h.count) (editing-named table c e).ascend in
        let n : numbers_of (picked all (names_of c)) ≡ names_of c = numbers-picked all 0 (names_of c) h.numbered a in
        let room : IsNumbered all = numbered-room all h.numbered few in
        let named : AreNamed all (picked all (names_of c)) = record { among = among-picked all (names_of c) h.numbered; ascend = ascend-picked all 0 (names_of c) h.numbered a } in
        room_back all c (applied_on table (picked all (names_of c)) c) h a n refl ((editing-given table).keeps c all (picked all (names_of c)) n room named h.given)

  -- before each entry, and after the last
  pub room-history : (all qs : List TrackState) (es : List (Entry Call)) → IsRoomAt table all → replay (whole (editing table)) all es ≡ Some qs
      → GoodBefore table (whole (editing table)) (Some all) es × IsRoomAt table qs
  room-history all qs [] h comes = let same : all ≡ qs = Prim.grind (arith, comes) in (tt, subst (IsRoomAt table) same h)
  room-history all qs (e ∷ es) h comes =
      let r = by (whole (editing table) all e.call) (room-call all e.call h) comes (λ us. room-history us qs es) in
      ((are-tracks table 0 all h.numbered (omega (arith, h.count)) h.good, r.0), r.1) where
        by : (r : Applied) → LeavesRoom table r → fold (after_entry (whole (editing table))) (state_in r) es ≡ Some qs
            → ((us : List TrackState) → IsRoomAt table us → replay (whole (editing table)) us es ≡ Some qs → GoodBefore table (whole (editing table)) (Some us) es × IsRoomAt table qs)
            → GoodBefore table (whole (editing table)) (state_in r) es × IsRoomAt table qs
        by (Ok (us, d)) s cs later = later us s cs
        by (Err why) s cs later = let none = sym (no_state (whole (editing table)) es) ∙ cs in absurd (Prim.grind (arith, none))

opening_room : (table : Table) (ps : List TrackState) → IsOpening table ps → IsRoomAt table ps
opening_room table ps opens =
    let r = tracks-numbered table 0 (track_count table) ps opens.good in
    let good = tracks-good table (numbers 0 (track_count table)) ps opens.good in
    record { numbered = r.0; count = r.1; given = bare-given table ps (tracks-bare table ps good opens.unlinked); good = good }

-- a history that begins with an opening
pub good-before : (table : Table) (ps qs : List TrackState) (entries : List (Entry Call)) → IsOpening table ps → replay (whole (editing table)) ps entries ≡ Some qs
    → GoodBefore table (whole (editing table)) (Some ps) entries
good-before table ps qs entries opens comes = (room-history table opens.bounded ps qs entries (opening_room table ps opens) comes).0

pub rooms-good : RoomsStayGood
rooms-good table ps qs entries opens comes = (room-history table opens.bounded ps qs entries (opening_room table ps opens) comes).1.good
