use Rattle.std.proofs.Common.{◌≡◌, ◌+◌, ◌*◌, ◌≤◌, ◌++◌, length}
use Rattle.line_table.specs.CallTexts.{numbers_after, tracks_text}
use Rattle.line_table.proofs.TrackSets.{tracks_after}
use Rattle.line_table.proofs.calls.put_tracks.Given as goal

-- what is written so far, and the tracks to come; each takes at most two digits and a comma
abbrev pub invariant-loop-track : goal.invariant-loop-track
invariant-loop-track l = record {
  text : l.out.items ++ numbers_after l.lead (tracks_after l.tracks l.track) ≡ l.fn.out.items ++ (l.first ++ tracks_text l.tracks);
  lead : length l.lead ≤ 1;
  len : l.out.len ≤ l.fn.out.len + length l.first + 3 * l.track;
  room : l.fn.out.cap ≤ l.out.cap;
}
