use Rattle.std.proofs.Common.{◌≡◌, ℕ, List, drop, ◌∙◌, subst}
use Rattle.frame_meaning.specs.declared.frames.Run.{Run}
use Rattle.flatten.specs.Strips.{IsSpot, frames_of, left_from}
use Rattle.flatten.proofs.Spots.{found_frames, found_spot}
use Rattle.flatten.proofs.finding.Strip.spot_at.Goals as goal

pub returns-clause-spot : goal.returns-clause-spot
returns-clause-spot c =
    let found = c.spot_in.ensures in
    subst (λ (rs : List (Run ℕ)). IsSpot rs c.spot_in.result) c.self.view_is
    (found_spot c.self.inside.runs c.as_slice.result.now c.args.place c.spot_in.result.index c.spot_in.result.used (c.as_slice.ensures ∙ c.self.invariant)
    (record { begun = found.begun; behind = found.behind; used_there = found.used; used_at_end = found.end }))

pub returns-clause-frames : goal.returns-clause-frames
returns-clause-frames c =
    let found = c.spot_in.ensures in
    subst (λ (rs : List (Run ℕ)). left_from rs c.spot_in.result ≡ drop c.args.place (frames_of rs)) c.self.view_is
    (found_frames c.self.inside.runs c.as_slice.result.now c.args.place c.spot_in.result.index c.spot_in.result.used (c.as_slice.ensures ∙ c.self.invariant)
    (record { begun = found.begun; behind = found.behind; used_there = found.used; used_at_end = found.end }))
