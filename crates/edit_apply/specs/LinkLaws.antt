-- The links of a room's tracks: each call keeps them given away, and link numbers do not run out.
use Rattle.std.proofs.Common.{◌≡◌, ℕ, zero, suc, ◌+◌, ◌^◌, ◌≤◌, List, [], ◌∷◌, All, length, Some, refl, sym, ap, arith, subst}
use Rattle.std.proofs.lemmas.List.Elements.{All-cons}
use Rattle.composables.specs.declared.media.Table.{Table}
use Rattle.composables.specs.Good.{IsGood}
use Rattle.composables.specs.OwnTracks.{numbers_of}
use Rattle.composables.specs.TrackState.{TrackState}
use Rattle.edit_splice.proofs.Standing.{all_head, all_none, all_tail}
use Rattle.room_core.specs.declared.entry.Entry.{Entry}
use Rattle.room_core.specs.History.{most_entries, replay}
use Rattle.room_core.specs.Parts.{AreGood, numbers}
use Rattle.room_core.specs.Whole.{whole}
use Rattle.link_laws.specs.Given.{AreGiven, LeavesGiven}
use Rattle.link_laws.specs.Histories.{CallsKeepGiven}
use Rattle.link_laws.specs.Rooms.{AreNamed, IsNumbered}
use Rattle.link_laws.specs.Weights.{NextsWithin}
use Rattle.link_laws.specs.Wholes.{AreBare, Numbered}
use Rattle.link_laws.proofs.GivenLaw.{edits-keep-given}
use Rattle.link_laws.proofs.GivenLinks.{linking-given, unlinking-given}
use Rattle.link_laws.proofs.GivenSlips.{sliding-given, slipping-given}
use Rattle.link_laws.proofs.Histories.{numbers-last}
use Rattle.link_laws.proofs.Openings.{are-in, bare-given}
use Rattle.edit_calls.specs.declared.asks.Call.{Call}
use Rattle.edit_calls.specs.declared.asks.Call.TheVariants as call
use Rattle.edit_apply.specs.Apply.{applied_on, editing, names_of, track_count}
use Rattle.edit_apply.specs.NamingLaws.{editing-named}
use Rattle.edit_apply.specs.RoomTracks.{IsOpening, IsTrackOf, IsUnlinked}

-- a call on the named tracks
given_applied : (table : Table) (c : Call) (all named : List TrackState) → numbers_of named ≡ names_of c → IsNumbered all → AreNamed all named → AreGiven all
    → LeavesGiven all named (applied_on table named c)
given_applied table (call.Overwrite c) all named e room names g = edits-keep-given.overwrite table c all named room names g
given_applied table (call.Insert c) all named e room names g = edits-keep-given.insert table c all named room names g
given_applied table (call.Remove c) all named e room names g = edits-keep-given.remove table c all named room names g
given_applied table (call.Extract c) all named e room names g = edits-keep-given.extract table c all named room names g
given_applied table (call.Slice c) all named e room names g = edits-keep-given.slice table c all named room names g
given_applied table (call.Dissolve c) all named e room names g = edits-keep-given.dissolve table c all named room names g
given_applied table (call.Undissolve c) all named e room names g = edits-keep-given.undissolve table c all named room names g
given_applied table (call.Trim c) all named e room names g = edits-keep-given.trim table c all named room names g
given_applied table (call.Slip c) all named e room names g = slipping-given table c all named room names g
given_applied table (call.Roll c) all named e room names g = edits-keep-given.roll table c all named room names g
given_applied table (call.Slide c) all named e room names g = sliding-given table c all named room names g
given_applied table (call.Fill c) all named e room names g = edits-keep-given.fill table c all named room names g
given_applied table (call.Ripple c) all named e room names g = edits-keep-given.ripple table c all named room names g
given_applied table (call.Link3 c) all named e room names g = linking-given c all named room names (are-in c.tracks named e) g
given_applied table (call.Unlink c) all named e room names g = unlinking-given c all named room names g

-- so does each call of a room
pub editing-given : (table : Table) → CallsKeepGiven (track_count table) (editing table)
editing-given table = record { keeps = λ c all named e room names g. given_applied table c all named e room names g; names = λ c h. (editing-named table c h).ascend }

-- the tracks of an opening
pub tracks-good : (table : Table) (ns : List ℕ) (ts : List TrackState) → AreGood (IsTrackOf table) ns ts → All (λ (t : TrackState). IsGood table t) ts
tracks-good table [] [] h = all_none (IsGood table)
tracks-good table [] (t ∷ ts) h = absurd h
tracks-good table (n ∷ ns) [] h = absurd h
tracks-good table (n ∷ ns) (t ∷ ts) h = All-cons (IsGood table) t ts h.0.good (tracks-good table ns ts h.1)

pub tracks-numbered : (table : Table) (from count : ℕ) (ts : List TrackState) → AreGood (IsTrackOf table) (numbers from count) ts → Numbered from ts × (length ts ≡ count)
tracks-numbered table from zero [] h = (tt, refl)
tracks-numbered table from zero (t ∷ ts) h = absurd h
tracks-numbered table from (suc count) [] h = absurd h
tracks-numbered table from (suc count) (t ∷ ts) h =
    let r = tracks-numbered table (from + 1) count ts h.1 in ((h.0.number_is, r.0), ap suc r.1)

pub tracks-bare : (table : Table) (ts : List TrackState) → All (λ (t : TrackState). IsGood table t) ts → All IsUnlinked ts → AreBare table ts
tracks-bare table [] g u = tt
tracks-bare table (t ∷ ts) g u =
    (all_head (IsGood table) t ts g, all_head IsUnlinked t ts u, tracks-bare table ts (all_tail (IsGood table) t ts g) (all_tail IsUnlinked t ts u))

nexts_none : (ts : List TrackState) → All (λ (t : TrackState). t.next_link ≡ 0) ts → NextsWithin 0 ts
nexts_none [] l = tt
nexts_none (t ∷ ts) l =
    (omega (arith, all_head (λ (t : TrackState). t.next_link ≡ 0) t ts l), nexts_none ts (all_tail (λ (t : TrackState). t.next_link ≡ 0) t ts l))

-- the tracks that a history comes to
pub links-last : (table : Table) (ps qs : List TrackState) (entries : List (Entry Call)) → IsOpening table ps → length entries ≤ most_entries
    → replay (whole (editing table)) ps entries ≡ Some qs → NextsWithin (2 ^ 31) qs
links-last table ps qs entries opens within comes =
    let r = tracks-numbered table 0 (track_count table) ps opens.good in
    let good = tracks-good table (numbers 0 (track_count table)) ps opens.good in
    let keeps : CallsKeepGiven (length ps) (editing table) = subst (λ (n : ℕ). CallsKeepGiven n (editing table)) (sym r.1) (editing-given table) in
    numbers-last (editing table) ps qs entries keeps r.0 (omega (arith, r.1)) (bare-given table ps (tracks-bare table ps good opens.unlinked)) (nexts_none ps opens.links) within comes
