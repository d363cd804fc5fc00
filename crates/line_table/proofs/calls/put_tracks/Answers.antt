use Rattle.std.proofs.Common.{sym, ap, ◌∙◌, arith}
use Rattle.line_table.proofs.TrackSets.{begun, went_with, went_without, ended}
use Rattle.line_table.proofs.calls.put_tracks.Goals as goal
use Rattle.line_table.proofs.calls.put_tracks.Goals.{then-has_track, else-has_track}

pub loop-track-init : goal.loop-track-init
loop-track-init c = record {
  text = begun c.args.out.now.items c.args.first.now c.as_slice-lead.result.now c.put.new.out.items c.args.tracks c.put.ensures.text c.as_slice-lead.ensures;
  lead = rw c.as_slice-lead.ensures (omega arith);
  len = omega (arith, c.put.ensures.len);
  room = c.put.ensures.room;
}

pub loop-track-preserved : goal.loop-track-preserved
loop-track-preserved c =
    let before = c.loop-track.invariant in
    elim c.if-has_track.branch [
      | then-has_track w ↦ record {
        text = went_with c.loop-track.out.items c.loop-track.lead.now c.if-has_track.out.items c.if-has_track.lead.now _ c.args.tracks c.loop-track.track
            c.loop-track-test.true (sym c.has_track.ensures ∙ w.if-has_track.true) (ap (λ o. o.items) w.out-is ∙ w.put_track.ensures.text) (ap (λ b. b.now) w.lead-is) before.text;
        lead = rw w.lead-is (omega arith);
        len = rw w.out-is (omega (arith, w.put_track.ensures.len, before.lead, before.len));
        room = rw w.out-is (omega (arith, w.put_track.ensures.room, before.room));
      }
      | else-has_track w ↦ rw (w.out-is, w.lead-is) (record {
        text = went_without c.loop-track.out.items c.loop-track.lead.now _ c.args.tracks c.loop-track.track
            c.loop-track-test.true (sym c.has_track.ensures ∙ w.if-has_track.false) before.text;
        lead = before.lead;
        len = omega (arith, before.len);
        room = before.room;
      })
    ]

pub returns-clause-text : goal.returns-clause-text
returns-clause-text c = ended _ _ _ c.args.tracks c.loop-track.track (omega (arith, c.loop-track-test.false, c.loop-track.auto.track-end)) c.loop-track.invariant.text
