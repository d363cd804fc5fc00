use Rattle.std.proofs.Common.{◌≡◌, ◌≤◌, ℕ, List, Some, length, map, take, refl, ap, arith, subst, ◌∙◌}
use Rattle.command_files.proofs.Openings.{sound_opens}
use Rattle.composables.specs.TrackState.{TrackState}
use Rattle.cut_steps.specs.CutSteps.{CutStep, KeptTrack, fresh_tracks, stepping}
use Rattle.cut_steps.proofs.Left.{good_fresh, good_nows}
use Rattle.edit_apply.specs.Apply.{track_count}
use Rattle.otio_json.specs.declared.opening.Opening.{Opening}
use Rattle.room_core.specs.declared.entry.Entry.{Entry}
use Rattle.room_core.specs.History.{replay}
use Rattle.room_core.specs.Parts.{numbers}
use Rattle.room_core.specs.Whole.{whole}
use Rattle.take_back.specs.Parts.{fresh, nows}
use Rattle.list_commands.specs.Points.{IsCutAt}
use Rattle.list_commands.proofs.Sound.{limited, nests_lie, reached}
use Rattle.list_commands.proofs.fades.fades_at.Goals as goal

pub replay-requires-clause-from : goal.replay-requires-clause-from
replay-requires-clause-from c =
    let from = c.deref.ensures.value ∙ (c.in-Ok.ensures ∙ ap (λ (ts : List TrackState). map fresh ts) c.into_vec.ensures) in
    rw from (reached c.args.opening c.args.entries.now c.args.point c.requires.sound c.requires.some c.requires.text (omega (arith, c.if-entries-point.false)))

pub replay-requires-clause-good : goal.replay-requires-clause-good
replay-requires-clause-good c =
    let table = c.args.opening.table in
    let from = c.deref.ensures.value ∙ (c.in-Ok.ensures ∙ ap (λ (ts : List TrackState). map fresh ts) c.into_vec.ensures) in
    rw from (good_fresh table (numbers 0 (track_count table)) c.args.opening.tracks (sound_opens c.args.opening c.requires.sound c.requires.some).good)

pub cut_fades-requires-clause-layers : goal.cut_fades-requires-clause-layers
cut_fades-requires-clause-layers c = nests_lie c.args.opening.table c.args.opening.table.nests c.requires.sound.table.nests

pub cut_fades-requires-clause-tracks : goal.cut_fades-requires-clause-tracks
cut_fades-requires-clause-tracks c =
    let table = c.args.opening.table in
    let ns = numbers 0 (track_count table) in
    rw c.deref-in-Ok-replay.ensures.value (limited table ns _ (good_nows table ns c.in-Ok-replay.cut.items c.in-Ok-replay.ensures.good))

-- the cut that entries come to
cut_at : (o : Opening) (from kept : List KeptTrack) (entries : List (Entry CutStep)) (point : ℕ) → from ≡ fresh_tracks o.tracks → point ≤ length entries
    → replay (whole (stepping o.table)) from (take point entries) ≡ Some kept → IsCutAt o entries point (nows kept)
cut_at o from kept entries point e within comes =
    let there = subst (λ (ps : List KeptTrack). replay (whole (stepping o.table)) ps (take point entries) ≡ Some kept) e comes in
    record { within = within; kept = kept; comes = there; tracks_are = refl }

pub returns-in-Ok-replay : goal.returns-in-Ok-replay
returns-in-Ok-replay c =
    let from = c.deref.ensures.value ∙ (c.in-Ok.ensures ∙ ap (λ (ts : List TrackState). map fresh ts) c.into_vec.ensures) in
    let within : c.args.point ≤ length c.args.entries.now = omega (arith, c.if-entries-point.false) in
    record {
      tracks = nows c.in-Ok-replay.cut.items;
      cut = cut_at c.args.opening c.deref.result.now c.in-Ok-replay.cut.items c.args.entries.now c.args.point from within c.in-Ok-replay.ensures.replays;
      start = c.in_ok-found-in-Ok-replay.ensures.0;
      fades = rw c.deref-in-Ok-replay.ensures.value at c.in_ok-found-in-Ok-replay.ensures.1;
    }
