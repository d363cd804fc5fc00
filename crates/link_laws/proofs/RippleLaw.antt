-- A ripple keeps the tracks of a room together.
use Rattle.std.proofs.Common.{List, false}
use Rattle.composables.specs.declared.media.Table.{Table}
use Rattle.composables.specs.TrackState.{TrackState}
use Rattle.edit_trim.specs.Rippling.{ripple_own}
use Rattle.link_laws.specs.Laws.{RippleKeepsTogether}
use Rattle.link_laws.specs.Rooms.{AreNamed, IsRoom, StaysTogether, with_tracks}
use Rattle.link_laws.specs.Together.{Together}
use Rattle.link_laws.proofs.RippleCases.{ripple-leaves}
use Rattle.link_laws.proofs.ShiftEdits.{own-room, shifts-together}
use Rattle.link_laws.proofs.Tied.{Keeps, each-left, each-self, keeps-self, kept-tied, tied-of, together-of}
use Rattle.link_laws.proofs.Weighing.{kept-little, numbered-of}

same_keeps : (table : Table) (all named : List TrackState) → IsRoom table all → AreNamed all named → Together all → StaysTogether all (with_tracks all named)
same_keeps table all named room names g =
    let each = each-left Keeps keeps-self all named named all names.among (each-self Keeps keeps-self named) room.apart in
    record {
      together = together-of (with_tracks all named) (kept-tied all (with_tracks all named) each (tied-of all g));
      little = kept-little all (with_tracks all named) (numbered-of table all room) each;
    }

pub ripple-keeps : RippleKeepsTogether
ripple-keeps table c =
    own-room table c.track (ripple_own table c)
    (λ all named t room names g e.
    ripple-leaves (λ (news : List TrackState). StaysTogether all (with_tracks all news)) table c all named t names e (same_keeps table all named room names g) (shifts-together false table all named room names g))
