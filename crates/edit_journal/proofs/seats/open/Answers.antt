use Rattle.edit_journal.specs.Seats.{all_names}
use Rattle.edit_journal.proofs.Moves.{begins}
use Rattle.edit_journal.proofs.seats.open.Goals as goal

pub of_words-requires : goal.of_words-requires
of_words-requires g c =
    let b = c.args.beginning.now in
    begins (λ o. (g.O.PartObject.meaning o).names) (b.object, b.parts.items) (all_names b.part_count b.station_count)
