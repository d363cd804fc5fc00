use Rattle.std.proofs.Common.{◌≡◌, ◌++◌, drop}
use Rattle.take_back.specs.Parts.{nows}
use Rattle.follow_command.specs.MirrorTexts.{track_lines}
use Rattle.follow_command.proofs.mirror_text.put_tracks.Given as goal

-- what is written so far, and the tracks to come
abbrev pub invariant-loop-number : goal.invariant-loop-number
invariant-loop-number l = l.text.items ++ track_lines l.number (nows (drop l.number l.parts)) ≡ l.fn.text.items ++ track_lines 0 (nows l.parts)
