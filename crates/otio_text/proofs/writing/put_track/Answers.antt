use Rattle.std.proofs.Common.{length}
use Rattle.otio_text.specs.Documents.{track_open, kind_text, track_children, items_text, children_close, track_text}
use Rattle.otio_text.proofs.Growing.{put5}
use Rattle.otio_text.proofs.writing.put_track.Goals as goal

pub returns : goal.returns
unfolding track_text
returns c = put5 c.put-4.result
    c.args.out.now c.put.new.self c.put-2.new.self c.put-3.new.self c.put_items.new.out c.put-4.new.self
    track_open (kind_text c.args.kind) track_children (items_text c.args.table.now c.args.rate (length c.args.table.now.nests) c.args.track.now) children_close
    c.in_ok-put.ensures (rw c.kind_bytes.ensures at c.in_ok-put-2.ensures) c.in_ok-put-3.ensures (rw c.as_slice.ensures at c.in_ok-put_items.ensures) c.put-4.ensures
