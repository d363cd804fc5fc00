use Rattle.std.proofs.Common.{decimal}
use Rattle.otio_text.specs.Documents.{time_open, rate_text, time_value, time_close, time_text}
use Rattle.otio_text.proofs.Growing.{put5}
use Rattle.otio_text.proofs.writing.put_time.Goals as goal

pub returns : goal.returns
unfolding time_text
returns c = put5 c.put-4.result
    c.args.out.now c.put.new.self c.put-2.new.self c.put-3.new.self c.put_number.new.self c.put-4.new.self
    time_open (rate_text c.args.rate) time_value (decimal c.args.frames) time_close
    c.in_ok-put.ensures (rw c.rate_bytes.ensures at c.in_ok-put-2.ensures) c.in_ok-put-3.ensures c.in_ok-put_number.ensures c.put-4.ensures
