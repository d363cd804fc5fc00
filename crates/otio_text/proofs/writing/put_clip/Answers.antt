use Rattle.std.proofs.Common.{◌-◌}
use Rattle.json_tree.specs.Writing.{quoted}
use Rattle.otio_text.specs.Documents.{clip_open, clip_reel, clip_range, clip_media, clip_close, range_text, clip_text}
use Rattle.otio_text.proofs.Growing.{put9}
use Rattle.otio_text.proofs.writing.put_clip.Goals as goal

pub returns : goal.returns
unfolding clip_text
returns c = put9 c.put-5.result
    c.args.out.now c.put.new.self c.put_quoted.new.self c.put-2.new.self c.put_quoted-2.new.self c.put-3.new.self c.put_range.new.out c.put-4.new.self c.put_range-2.new.out c.put-5.new.self
    clip_open (quoted c.args.reel.now) clip_reel (quoted c.args.reel.now) clip_range (range_text c.args.rate c.args.source c.args.len) clip_media (range_text c.args.rate c.args.media.now.from (c.args.media.now.to - c.args.media.now.from)) clip_close
    c.in_ok-put.ensures c.in_ok-put_quoted.ensures c.in_ok-put-2.ensures c.in_ok-put_quoted-2.ensures c.in_ok-put-3.ensures c.in_ok-put_range.ensures c.in_ok-put-4.ensures (rw c.saturating_sub.ensures at c.in_ok-put_range-2.ensures) c.put-5.ensures
