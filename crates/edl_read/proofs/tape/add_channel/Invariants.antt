use Rattle.std.proofs.Common.{◌≡◌, ◌≤◌, ◌-◌, ◌++◌}
use Rattle.timecode12.specs.declared.counting.TheConstants.{MAX_DAY_FRAMES}
use Rattle.edl_read.specs.Laying.{HaveEnded}
use Rattle.edl_read.specs.Pieces.{EndsAt, text_on}
use Rattle.edl_read.specs.TapeText.{channel_text, frames_on}
use Rattle.edl_read.proofs.tape.add_channel.Given as goal

-- the text so far, of what is held, and of the frames to come is that of all
abbrev pub invariant-loop-event : goal.invariant-loop-event
invariant-loop-event l = record {
  text : l.out.items ++ text_on l.channel l.held (frames_on l.laid l.channel l.at) ≡ l.fn.out.items ++ channel_text l.laid l.channel;
  held : EndsAt l.held l.at;
  ended : HaveEnded l.laid l.channel l.at;
  within : l.at ≤ MAX_DAY_FRAMES;
}

abbrev pub decreases-loop-event : goal.decreases-loop-event
decreases-loop-event l = MAX_DAY_FRAMES - l.at
