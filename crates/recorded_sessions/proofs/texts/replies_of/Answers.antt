use Rattle.std.proofs.Common.{ap, map, ◌∙◌}
use Rattle.recorded_sessions.proofs.Parting.{all_but_last}
use Rattle.recorded_sessions.proofs.texts.replies_of.Goals as goal

pub returns : goal.returns
returns c =
    ap (map (λ reply. reply.now)) c.pop.ensures.rest
    ∙ all_but_last (λ reply. reply.now) c.in_ok-parts.parts.items _ _ c.in_ok-parts.parts.ok.0 c.in_ok-parts.ensures
