use Rattle.std.proofs.Common.{◌≡◌, take}
use Rattle.edl_read.proofs.tape.Tape.play.Given as goal

-- the events so far are played
abbrev pub invariant-loop-event : goal.invariant-loop-event
invariant-loop-event l = l.laid ≡ take l.event-index l.events
