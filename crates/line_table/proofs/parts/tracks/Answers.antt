use Rattle.std.proofs.Common.{◌≡◌, Ok, sym, rules, arith}
use Rattle.line_table.specs.Spelling.{tracks_of}
use Rattle.line_table.proofs.ListWords.{next_track, bit_of, set_within}
use Rattle.line_table.proofs.ReadParts.{tracks_some}
use Rattle.line_table.proofs.parts.tracks.Goals as goal

pub loop-rest-preserved : goal.loop-rest-preserved
loop-rest-preserved c =
    let track = c.in_ok-track.track in
    let bit = bit_of track c.in_ok-track.ensures.bound in
    let left = rw c.in-Some.is at c.loop-rest.invariant.0 in
    rw bit (
      next_track c.in-Some.listed.now c.first_listed.result.0.now _ track c.loop-rest.least c.loop-rest.set _ c.first_listed.ensures.words c.in_ok-track.ensures.read c.if-track-least.false left,
      set_within c.loop-rest.set c.loop-rest.least track c.loop-rest.invariant.1 c.if-track-least.false,
      omega (arith, c.in_ok-track.ensures.bound),
    )

pub returns-clause-some : goal.returns-clause-some
returns-clause-some c =
    let read : Ok c.loop-rest.set ≡ tracks_of c.args.list.now = search rules in
    tracks_some c.args.list.now c.loop-rest.set (sym read)
