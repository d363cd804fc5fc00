-- What a sound opening, and what a history of it comes to, give to the list of a cut.
use Rattle.std.proofs.Common.{◌≡◌, ℕ, zero, suc, ◌+◌, ◌^◌, ◌<◌, ◌≤◌, All, List, [], ◌∷◌, length, Err, refl, arith, subst}
use Rattle.std.proofs.lemmas.List.{length-map}
use Rattle.std.proofs.lemmas.List.Elements.{All-head, All-tail}
use Rattle.cut_steps.specs.CutSteps.{CutStep, KeptTrack, stepping, fresh_tracks}
use Rattle.cut_steps.proofs.Left.{can_open}
use Rattle.take_back.specs.Parts.{CanOpen, nows}
use Rattle.composables.specs.TrackState.{TrackState}
use Rattle.composables.specs.declared.media.Layer.{Layer}
use Rattle.composables.specs.declared.media.Nest.{Nest}
use Rattle.composables.specs.declared.media.Table.{Table}
use Rattle.journal_text.specs.Journals.{HasText}
use Rattle.edit_apply.specs.Apply.{track_count}
use Rattle.edit_apply.specs.RoomTracks.{IsOpening, IsTrackOf}
use Rattle.edl_write.specs.Limits.{AreLimited}
use Rattle.flatten.specs.Channels.{AreSound, EachLiesInTrack}
use Rattle.history_points.specs.declared.fault.ReplayFault.{ReplayFault}
use Rattle.history_points.specs.declared.fault.ReplayFault.TheVariants.{Refused}
use Rattle.history_points.specs.Reached.{IsReached}
use Rattle.history_points.specs.Replays.{IsFirstRefused, Replays}
use Rattle.command_files.proofs.Openings.{sound_opens}
use Rattle.otio_json.specs.declared.opening.Opening.{Opening}
use Rattle.otio_json.specs.Soundness.{IsSoundLayer, IsSoundNest, IsSoundOpening}
use Rattle.room_core.specs.declared.entry.Entry.{Entry}
use Rattle.room_core.specs.Parts.{AreGood, numbers}

-- good tracks have at most as many frames as a track may have
pub limited : (table : Table) (ns : List ℕ) (ts : List TrackState) → AreGood (IsTrackOf table) ns ts → AreLimited ts
limited table [] [] good = tt
limited table [] (t ∷ ts) good = absurd good
limited table (n ∷ ns) [] good = absurd good
limited table (n ∷ ns) (t ∷ ts) good = (good.0.good.frames, limited table ns ts good.1)

-- there are as many of them as numbers
pub as_many : (table : Table) (from count : ℕ) (ts : List TrackState) → AreGood (IsTrackOf table) (numbers from count) ts → length ts ≡ count
as_many table from zero [] good = omega arith
as_many table from zero (t ∷ ts) good = absurd good
as_many table from (suc count) [] good = absurd good
as_many table from (suc count) (t ∷ ts) good = omega (arith, as_many table (from + 1) count ts good.1)

-- each layer of a sound nest lies in its track
layers_lie : (table : Table) (ls : List Layer) → All (IsSoundLayer table 7) ls → EachLiesInTrack ls
layers_lie table [] sound = tt
layers_lie table (l ∷ ls) sound =
    let first = All-head (IsSoundLayer table 7) l ls sound in (
      record { order = first.ordered; within = first.within; short = omega (arith, first.track.good.frames) },
      layers_lie table ls (All-tail (IsSoundLayer table 7) l ls sound),
    )

pub nests_lie : (table : Table) (ns : List Nest) → All (IsSoundNest table 7) ns → AreSound ns
nests_lie table [] sound = tt
nests_lie table (n ∷ ns) sound = (
  layers_lie table n.layers (All-head (IsSoundNest table 7) n ns sound).layers,
  nests_lie table ns (All-tail (IsSoundNest table 7) n ns sound),
)

-- there are few of them
pub few_tracks : (o : Opening) (ts : List TrackState) → IsSoundOpening o → 0 < length o.tracks → AreGood (IsTrackOf o.table) (numbers 0 (track_count o.table)) ts
    → length ts < 2 ^ 32
few_tracks o ts sound some good =
    let opens = sound_opens o sound some in
    omega (arith, as_many o.table 0 (track_count o.table) ts good, opens.most)

-- as few are kept
pub few_kept : (o : Opening) (ks : List KeptTrack) → IsSoundOpening o → 0 < length o.tracks → AreGood (IsTrackOf o.table) (numbers 0 (track_count o.table)) (nows ks)
    → length ks < 2 ^ 32
few_kept o ks sound some good = omega (arith, length-map ks (λ (k : KeptTrack). k.now), few_tracks o (nows ks) sound some good)

-- an opening is what no entry of it comes to
pub reached : (o : Opening) (entries : List (Entry CutStep)) (point : ℕ) → IsSoundOpening o → 0 < length o.tracks → HasText entries → point ≤ length entries
    → IsReached (stepping o.table) (CanOpen (IsOpening o.table)) point (fresh_tracks o.tracks)
reached o entries point sound some text within = record {
  opening = fresh_tracks o.tracks;
  entries = [];
  opens_so = can_open o.table o.tracks (sound_opens o sound some);
  comes = refl;
  room = omega (arith, text.within, within);
}

-- the first entry that a replay refused
pub refused_at : (o : Opening) (from : List KeptTrack) (entries : List (Entry CutStep)) (point place : ℕ) (fault : ReplayFault) → from ≡ fresh_tracks o.tracks → fault ≡ Refused place
    → Replays (stepping o.table) from entries point (Err fault) → IsFirstRefused (stepping o.table) (fresh_tracks o.tracks) entries point place
refused_at o from entries point place fault e f r =
    let at_place = subst (λ (x : ReplayFault). Replays (stepping o.table) from entries point (Err x)) f r in
    subst (λ (ps : List KeptTrack). IsFirstRefused (stepping o.table) ps entries point place) e at_place
