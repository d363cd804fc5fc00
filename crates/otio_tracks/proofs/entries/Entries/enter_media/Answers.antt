use Rattle.std.proofs.Common.{refl, sym, ap, ◌∙◌}
use Rattle.std.specs.Option.{is_some}
use Rattle.otio_tracks.specs.EntriesInside.{table_of}
use Rattle.otio_tracks.proofs.MediaKeys.{stands_there, stands_last, table_stays, table_grows}
use Rattle.otio_tracks.proofs.entries.Entries.enter_media.Goals as goal

pub returns-in-Some-clause-number : goal.returns-in-Some-clause-number
returns-in-Some-clause-number c =
    rw (← c.self.view_is, ← c.key_of-key.ensures)
    (stands_there c.key_of-key.result c.self.inside.media.keys c.in-Some.at (sym c.get_index_of.ensures.index ∙ c.in-Some.is))

pub returns-in-Some-clause-ok : goal.returns-in-Some-clause-ok
returns-in-Some-clause-ok c =
    rw (← c.self.view_is, ← c.key_of-key.ensures)
    (table_stays (table_of c.self.inside) c.key_of-key.result c.self.inside.media.keys c.in-Some.at refl (sym c.get_index_of.ensures.index ∙ c.in-Some.is))

pub returns-clause-number : goal.returns-clause-number
returns-clause-number c =
    rw (← c.self.view_is, ← c.key_of-key.ensures)
    (stands_last c.key_of-key.result c.self.inside.media.keys c.len-number.result c.len-number.ensures.len (sym c.get_index_of.ensures.index ∙ c.in-None.is))

pub returns-clause-ok : goal.returns-clause-ok
returns-clause-ok c =
    rw (← c.self.view_is, ← c.key_of-key.ensures)
    (table_grows (table_of c.self.inside) c.key_of-key.result c.self.inside.media.keys c.insert.new.self.keys refl
    (sym c.get_index_of.ensures.index ∙ c.in-None.is) (sym c.get_index_of.ensures.found ∙ ap is_some c.in-None.is) c.in_ok-insert.ensures.keys)
