use Rattle.std.proofs.Common.{◌∙◌}
use Rattle.dissolves.proofs.Numbers.{kept_numbered}
use Rattle.test_pictures.proofs.views.difference.Goals as goal

pub rendered-requires-clause-numbered : goal.rendered-requires-clause-numbered
rendered-requires-clause-numbered c =
    rw (c.deref.ensures.value ∙ c.in_ok-cells.ensures) (kept_numbered c.args.track.now c.length-length.ensures.kept c.requires)
