-- The table of a document that is being read, as it is kept.
use Rattle.std.specs.Prelude.{map}
use Rattle.composables.specs.declared.media.Table.{Table}
use Rattle.otio_tracks.specs.declared.entries.Entries.TheInside.{Inside}
use Rattle.otio_tracks.specs.Clips.{media_of}

abbrev pub table_of : Inside → Table
table_of e = record { kinds = e.kinds; reels = e.reels; media = map media_of e.media.keys; nests = e.nests }
