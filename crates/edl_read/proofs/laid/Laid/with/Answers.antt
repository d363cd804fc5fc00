use Rattle.std.proofs.Common.{List, length, ap, ◌∙◌}
use Rattle.edl_events.specs.declared.event.Event.{Event}
use Rattle.edl_read.specs.Overlaps.{first_overlap}
use Rattle.edl_read.proofs.LaidFacts.{laid_more_at}
use Rattle.edl_read.proofs.laid.Laid.with.Goals as goal

pub invariant_of-result : goal.invariant_of-result
invariant_of-result c =
    let es : List Event = c.self.inside.events in
    let e : Event = c.args.event.now in
    laid_more_at es c.in_ok-added.added e (length c.as_slice-index.result.now) c.self.inside.picture c.self.inside.sound c.self.inside.second_sound c.begin.new.starts c.begin-2.new.starts c.begin-3.new.starts
    (ap length c.as_slice-index.ensures) c.self.invariant c.requires.event (ap (λ (l : List Event). first_overlap l e) c.self.view_is ∙ c.requires.apart) c.in_ok-added.ensures c.in_ok-begin.ensures
    c.in_ok-begin-2.ensures c.in_ok-begin-3.ensures
