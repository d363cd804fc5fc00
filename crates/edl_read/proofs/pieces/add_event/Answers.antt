use Rattle.std.proofs.Common.{ℕ, ◌-◌, ◌++◌, List, sym, ap, ◌∙◌, append_assoc}
use Rattle.frame_meaning.specs.declared.frames.Frame.{Frame}
use Rattle.frame_meaning.specs.RunFrames.{frames_from}
use Rattle.edl_events.specs.declared.event.Event.{Event}
use Rattle.edl_events.specs.Tape.{event_frame}
use Rattle.edl_read.specs.Pieces.{text_on}
use Rattle.edl_read.proofs.EventFrames.{dissolve_is_even, rest_is_even, two_parts}
use Rattle.edl_read.proofs.pieces.add_event.Goals as goal

pub add_part-requires-clause-even : goal.add_part-requires-clause-even
add_part-requires-clause-even c = dissolve_is_even c.args.event.now c.requires.event

pub add_part-requires-2-clause-even : goal.add_part-requires-2-clause-even
add_part-requires-2-clause-even c = rest_is_even c.args.event.now c.args.event.now.len

pub returns-clause-text : goal.returns-clause-text
returns-clause-text c rest =
    let e : Event = c.args.event.now in
    let mixed : List (Frame (List ℕ)) = frames_from (event_frame e 0) (e.frames - 0) in
    let behind : List (Frame (List ℕ)) = frames_from (event_frame e e.frames) (e.len - e.frames) in
    c.in_ok-all.ensures.text rest
    ∙ (c.in_ok-mixed.ensures.text (behind ++ rest)
    ∙ ap (λ (fs : List (Frame (List ℕ))). c.args.out.now.items ++ text_on c.args.channel c.args.held fs)
    (sym (append_assoc mixed behind rest) ∙ ap (λ (fs : List (Frame (List ℕ))). fs ++ rest) (sym (two_parts e c.requires.event))))
