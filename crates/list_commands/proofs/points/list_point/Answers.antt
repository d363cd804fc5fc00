use Rattle.std.proofs.Common.{inl, inr, refl, List, length, map, ap, arith, codes, ◌∙◌}
use Rattle.command_files.proofs.Openings.{sound_opens}
use Rattle.composables.specs.TrackState.{TrackState}
use Rattle.cut_steps.proofs.Left.{good_fresh, good_nows}
use Rattle.edit_apply.specs.Apply.{track_count}
use Rattle.room_core.specs.Parts.{numbers}
use Rattle.take_back.specs.Parts.{fresh}
use Rattle.list_commands.proofs.Sound.{few_kept, limited, nests_lie, reached, refused_at}
use Rattle.list_commands.proofs.points.list_point.Goals as goal

pub returns-then-entries-point : goal.returns-then-entries-point
returns-then-entries-point g c =
    inr (inl (record {
      code = codes "H5";
      number = length c.args.entries.now;
      why = inl (c.if-entries-point.true, refl, refl);
      put = rw (c.as_bytes.ensures.text ∙ c.refusal_line.ensures) at c.end_with.ensures;
    }))

pub replay-requires-clause-from : goal.replay-requires-clause-from
replay-requires-clause-from g c =
    let from = c.deref.ensures.value ∙ (c.in-Ok.ensures ∙ ap (λ (ts : List TrackState). map fresh ts) c.into_vec.ensures) in
    rw from (reached c.args.opening c.args.entries.now c.args.point c.requires.sound c.requires.some c.requires.text (omega (arith, c.if-entries-point.false)))

pub replay-requires-clause-good : goal.replay-requires-clause-good
replay-requires-clause-good g c =
    let table = c.args.opening.table in
    let from = c.deref.ensures.value ∙ (c.in-Ok.ensures ∙ ap (λ (ts : List TrackState). map fresh ts) c.into_vec.ensures) in
    rw from (good_fresh table (numbers 0 (track_count table)) c.args.opening.tracks (sound_opens c.args.opening c.requires.sound c.requires.some).good)

pub put_cut-requires-clause-layers : goal.put_cut-requires-clause-layers
put_cut-requires-clause-layers g c = nests_lie c.args.opening.table c.args.opening.table.nests c.requires.sound.table.nests

pub put_cut-requires-clause-tracks : goal.put_cut-requires-clause-tracks
put_cut-requires-clause-tracks g c =
    let table = c.args.opening.table in
    let ns = numbers 0 (track_count table) in
    rw c.deref-in-Ok-replay.ensures.value (limited table ns _ (good_nows table ns c.in-Ok-replay.cut.items c.in-Ok-replay.ensures.good))

pub put_cut-requires-clause-few : goal.put_cut-requires-clause-few
put_cut-requires-clause-few g c =
    let table = c.args.opening.table in
    let ns = numbers 0 (track_count table) in
    rw c.deref-in-Ok-replay.ensures.value
    (few_kept c.args.opening c.in-Ok-replay.cut.items c.requires.sound c.requires.some (good_nows table ns c.in-Ok-replay.cut.items c.in-Ok-replay.ensures.good))

pub returns-in-Err-Refused : goal.returns-in-Err-Refused
returns-in-Err-Refused g c =
    let from = c.deref.ensures.value ∙ (c.in-Ok.ensures ∙ ap (λ (ts : List TrackState). map fresh ts) c.into_vec.ensures) in
    inr (inl (record {
      code = codes "H3";
      number = c.in-Err-Refused.place;
      why =
          inr (
            omega (arith, c.if-entries-point.false),
            refused_at c.args.opening c.deref.result.now c.args.entries.now c.args.point c.in-Err-Refused.place c.in-Err-Refused.field-0 from c.in-Err-Refused.field-0-is c.in-Err-Refused.ensures.replays,
            refl,
          );
      put = rw (c.as_bytes-in-Err-Refused.ensures.text ∙ c.refusal_line-in-Err-Refused.ensures, c.in-Err-Refused.place-is) at c.end_with-in-Err-Refused.ensures;
    }))
