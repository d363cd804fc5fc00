use Rattle.std.proofs.Common.{◌≡◌, ℕ, List, sym, ◌∙◌, subst}
use Rattle.list_import.specs.declared.shots.Shot.{Shot}
use Rattle.list_import.specs.ListReels.{shots_of}
use Rattle.list_import.specs.ShotFacts.{CanBeOrdered}
use Rattle.list_import.proofs.Counting.{few_events}
use Rattle.list_import.proofs.ShotsGood.{can_be_ordered}
use Rattle.list_import.proofs.importing.opening_of.Goals as goal

pub shots_of-requires : goal.shots_of-requires
shots_of-requires c = few_events c.args.events.now c.requires.read

pub tracks_of-requires : goal.tracks_of-requires
tracks_of-requires c =
    let shots : c.deref.result.now ≡ shots_of c.args.events.now = c.deref.ensures.value ∙ c.in_ok-shots.ensures.shots in
    subst (λ (ss : List Shot). CanBeOrdered c.args.start ss) (sym shots)
    (subst (λ (n : ℕ). CanBeOrdered n (shots_of c.args.events.now)) (sym c.requires.start) (can_be_ordered c.args.events.now c.requires.read c.requires.events_fit).0)
