use Rattle.otio_text.specs.Documents.{timeline_open, time_text, timeline_tracks, tracks_text, timeline_close, timeline_text}
use Rattle.otio_text.proofs.Growing.{put5}
use Rattle.otio_text.proofs.writing.put_timeline.Goals as goal

pub returns : goal.returns
unfolding timeline_text
returns c = put5 c.put-3.result
    c.args.out.now c.put.new.self c.put_time.new.out c.put-2.new.self c.put_tracks.new.out c.put-3.new.self
    timeline_open (time_text c.args.counting.now.rate c.args.start) timeline_tracks (tracks_text c.args.table.now c.args.counting.now.rate c.args.tracks.now) timeline_close
    c.in_ok-put.ensures (rw c.rate-rate.ensures at c.in_ok-put_time.ensures) c.in_ok-put-2.ensures (rw c.rate-rate.ensures at c.in_ok-put_tracks.ensures) c.put-3.ensures
