-- How the command ends, of how following its stream ends.
use Rattle.std.proofs.Common.{◌≡◌, ℕ, ◌≤◌, ◌<◌, ◌⊎◌, inl, inr, List, [], ◌∷◌, Option, Some, None, IfSome, Result, Ok, Err, false, length, map, refl, sym, ap, ◌∙◌, subst, arith}
use Rattle.command_files.specs.Ports.{Change, InputTold, OutputTold}
use Rattle.command_files.specs.Texts.{PutsWith}
use Rattle.command_files.specs.declared.status.Status.{Status}
use Rattle.command_files.specs.declared.status.Status.TheVariants as ended
use Rattle.command_files.proofs.Openings.{sound_opens}
use Rattle.composables.specs.declared.media.Table.{Table}
use Rattle.cut_mirror.specs.Following.{Follows as FollowsFrom}
use Rattle.cut_mirror.specs.Mirrors.{IsMirrorOf}
use Rattle.cut_steps.specs.CutSteps.{CutObject, CutStep, KeptTrack, fresh_tracks}
use Rattle.cut_steps.proofs.Left.{can_open}
use Rattle.edit_apply.specs.RoomTracks.{IsOpening}
use Rattle.input_lines.specs.Inputs.{AllTaken, InputEnds, TakenInPart}
use Rattle.input_lines.specs.declared.taking.InputStop.{InputStop}
use Rattle.input_lines.specs.declared.taking.InputStop.TheVariants.{ReadFault, TooMuch, Stopped}
use Rattle.line_words.specs.Lines.{Line as InputLine}
use Rattle.otio_json.specs.Soundness.{IsSoundOpening}
use Rattle.otio_json.specs.declared.opening.Opening.{Opening}
use Rattle.room_core.specs.History.{IsLegal, replay}
use Rattle.room_core.specs.Whole.{whole}
use Rattle.room_core.specs.declared.entry.Entry.{Entry}
use Rattle.take_back.specs.Parts.{CanOpen, nows}
use Rattle.follow_command.specs.Follows.{ComesTo, FirstRefused, IsStreamOf, MirrorEnds, StopEnds, WritesCut, WritesMirror}
use Rattle.follow_command.specs.Goes.{CutMirror, Goes, cut_meaning, cut_opens, first_mirror}
use Rattle.follow_command.specs.MirrorTexts.{mirror_text}
use Rattle.follow_command.specs.NewsLines.{is_news_line}
use Rattle.follow_command.specs.Refusals.{StopsAtCut, StopsAtLine}
use Rattle.follow_command.specs.declared.refusal.Stop.{Stop}
use Rattle.follow_command.specs.declared.refusal.Stop.TheVariants as stop

-- the tracks of a document that was read can be those of a room's opening
opens : (o : Opening) → IsSoundOpening o → 0 < length o.tracks → cut_opens (record { object = record { table = o.table } }) (fresh_tracks o.tracks)
opens o sound some = can_open o.table o.tracks (sound_opens o sound some)

-- what a mirror of an opening has
comes_to : (o : Opening) (m : CutMirror) → m.object ≡ (first_mirror o).object → IsMirrorOf cut_meaning cut_opens (fresh_tracks o.tracks) m → ComesTo o m.entries m.parts
comes_to o m same h =
    let there = subst (λ (x : CutObject). IsLegal (whole (cut_meaning x)) (fresh_tracks o.tracks) m.entries × (replay (whole (cut_meaning x)) (fresh_tracks o.tracks) m.entries ≡ Some m.parts)) same (h.legal, h.comes) in
    record { legal = there.0; comes = there.1 }

some_one : {A : Type 0} (x y : A) → Some x ≡ Some y → x ≡ y
some_one x y h = Prim.grind (arith, h)

-- a mirror that has taken no entry yet is the first one
is_first : (o : Opening) (m : CutMirror) → m.object.object.table ≡ o.table → m.entries ≡ [] → IsMirrorOf cut_meaning cut_opens (fresh_tracks o.tracks) m → m ≡ first_mirror o
is_first o m table none h =
    let comes = subst (λ (es : List (Entry CutStep)). replay (whole (cut_meaning m.object)) (fresh_tracks o.tracks) es ≡ Some m.parts) none h.comes in
    let parts = some_one (fresh_tracks o.tracks) m.parts comes in
    λ i. record { object = record { object = record { table = table i } }; entries = none i; parts = sym parts i }

-- a mirror that was opened on a document's tracks
pub opened : (o : Opening) (first made : CutMirror) (object : CutObject) (parts : List KeptTrack) → first ≡ made → made.object ≡ object
    → object.object.table ≡ o.table → made.entries ≡ [] → parts ≡ fresh_tracks o.tracks → IsMirrorOf cut_meaning cut_opens parts made
    → (first ≡ first_mirror o) × IsMirrorOf cut_meaning cut_opens (fresh_tracks o.tracks) first
opened o first made object parts same is table none fresh mirror =
    let here = subst (λ (m : CutMirror). IsMirrorOf cut_meaning cut_opens (fresh_tracks o.tracks) m) (sym same)
    (subst (λ (ps : List KeptTrack). IsMirrorOf cut_meaning cut_opens ps made) fresh mirror) in (
      is_first o first (ap (λ (m : CutMirror). m.object.object.table) same ∙ (ap (λ (x : CutObject). x.object.table) is ∙ table))
          (ap (λ (m : CutMirror). m.entries) same ∙ none) here,
      here,
    )

-- tracks with which it can be opened
pub can_open_so : (o : Opening) (object : CutObject) (parts : List KeptTrack) → IsSoundOpening o → 0 < length o.tracks → object.object.table ≡ o.table → parts ≡ fresh_tracks o.tracks
    → cut_opens object parts
can_open_so o object parts sound some table fresh =
    subst (λ (x : Table × List KeptTrack). CanOpen (IsOpening x.0) x.1) (λ i. (sym table i, sym fresh i)) (opens o sound some)

-- the stream was followed to its end
pub ends_done : (o : Opening) (first m : CutMirror) (input : Change InputTold) (output : Change OutputTold) (status : Status)
    → first ≡ first_mirror o → IsMirrorOf cut_meaning cut_opens (fresh_tracks o.tracks) first
    → input.after.faults ≡ input.before.faults
    → AllTaken Goes (λ line. is_news_line line ≡ false) first m input.before.left input.after.left
    → WritesMirror m output status → MirrorEnds o input output status
ends_done o first m input output status is mirror quiet all (inr none) = inr (inr (inr (inr (none.0, quiet, none.1))))
ends_done o first m input output status is mirror quiet all (inl put) = inl (record {
  entries = m.entries;
  kept = m.parts;
  quiet = quiet;
  text = all.got;
  gives = all.gives;
  within = all.within;
  stream = record {
    items = all.taken.0;
    told = all.taken.1;
    follows = subst (λ (es : List (Entry CutStep)). FollowsFrom es all.taken.0 m.entries) (ap (λ (x : CutMirror). x.entries) is) all.taken.2.follows;
    whole = all.last;
  };
  comes = comes_to o m (all.taken.2.object ∙ ap (λ (x : CutMirror). x.object) is) (all.taken.2.mirror (fresh_tracks o.tracks) mirror);
  put = put;
})

-- it was not
pub ends_stopped : (o : Opening) (first m : CutMirror) (input : Change InputTold) (output : Change OutputTold) (status : Status) (why : InputStop Stop)
    → first ≡ first_mirror o
    → InputEnds Goes StopsAtLine (λ line. is_news_line line ≡ false) StopsAtCut first m input.before.left input.after.left input.before.faults input.after.faults (Err why)
    → StopEnds why output status → MirrorEnds o input output status
ends_stopped o first m input output status ReadFault is ends t = inr (inr (inr (inl (t.0, ends, t.1))))
ends_stopped o first m input output status TooMuch is ends t =
    inr (inr (inl (record {
      quiet = ends.0;
      there = m;
      goes = subst (λ (x : CutMirror). TakenInPart Goes x m input.before.left input.after.left) is ends.1;
      untouched = t.1;
      is = t.0;
    })))
ends_stopped o first m input output status (Stopped (stop.Refused refusal)) is ends put =
    inr (inl (record {
      refusal = refusal;
      quiet = ends.0;
      first = subst (λ (x : CutMirror). FirstRefused x refusal input.before input.after) is ends.1;
      put = put;
    }))
ends_stopped o first m input output status (Stopped stop.Memory) is ends t = inr (inr (inr (inr (t.0, ends.0, t.1))))
