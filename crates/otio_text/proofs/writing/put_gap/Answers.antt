use Rattle.otio_text.specs.Documents.{gap_open, range_text, gap_close, gap_text}
use Rattle.otio_text.proofs.Growing.{put3}
use Rattle.otio_text.proofs.writing.put_gap.Goals as goal

pub returns : goal.returns
unfolding gap_text
returns c = put3 c.put-2.result
    c.args.out.now c.put.new.self c.put_range.new.out c.put-2.new.self
    gap_open (range_text c.args.rate 0 c.args.len) gap_close
    c.in_ok-put.ensures c.in_ok-put_range.ensures c.put-2.ensures
