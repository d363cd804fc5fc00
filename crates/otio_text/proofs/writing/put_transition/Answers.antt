use Rattle.otio_text.specs.Documents.{transition_open, time_text, transition_out, brace, transition_text}
use Rattle.otio_text.proofs.Growing.{put5}
use Rattle.otio_text.proofs.writing.put_transition.Goals as goal

pub returns : goal.returns
unfolding transition_text
returns c = put5 c.put-3.result
    c.args.out.now c.put.new.self c.put_time.new.out c.put-2.new.self c.put_time-2.new.out c.put-3.new.self
    transition_open (time_text c.args.rate c.args.mark.a) transition_out (time_text c.args.rate c.args.mark.b) brace
    c.in_ok-put.ensures c.in_ok-put_time.ensures c.in_ok-put-2.ensures c.in_ok-put_time-2.ensures c.put-3.ensures
