-- Rows: the items and gaps of a track, as they are read one after another. An item without frames is left out, two
-- gaps that meet are one, and a transition waits for the item after it.
use Rattle.std.specs.Prelude.{ℕ, ◌+◌, nat_eq, true, false, List, [], ◌∷◌, ◌++◌, Option, Some, None, Ok, if◌then◌else◌}
use Rattle.frame_meaning.specs.declared.cells.Mark.{Mark}
use Rattle.json_tokens.specs.Reading.{◌>>=◌}
use Rattle.json_tree.specs.Tree.{Tree}
use Rattle.json_tree.specs.Parts.{place_of}
use Rattle.otio_tracks.specs.declared.faults.DocCode.TheVariants.{O8}
use Rattle.otio_tracks.specs.declared.parts.Part.{Part}
use Rattle.otio_tracks.specs.declared.transitions.Waiting.{Waiting}
use Rattle.otio_tracks.specs.Reading.{Read, refuse}
use Rattle.otio_tracks.specs.Transitions.{transition_read, joins, dissolve_between}

-- the items kept but the last, the last, the item read last, and the transition that waits
pub record RowState : Type 0 where
  pub done : List Part
  pub last : Option Part
  pub before : Option Part
  pub waiting : Option Waiting

abbrev pub empty_row : RowState
empty_row = record { done = []; last = None; before = None; waiting = None }

-- ---- a transition

abbrev pub waiting_with : ℕ × ℕ → Option Waiting → Tree → Waiting
waiting_with rate None t = record { at = place_of t; offsets = transition_read rate t; crowded = false }
waiting_with rate (Some w) t = record w { crowded = true }

abbrev pub waits : ℕ × ℕ → RowState → Tree → RowState
waits rate row t = record row { waiting = Some (waiting_with rate row.waiting t) }

abbrev pub dissolve_if : Option Waiting → Option Part → Option Part → Part → Read (Option Mark)
dissolve_if None last before next = Ok None
dissolve_if (Some w) last before next = dissolve_between last before w next

abbrev pub dissolve_before : RowState → Part → Read (Option Mark)
dissolve_before row next = dissolve_if row.waiting row.last row.before next

-- ---- an item

abbrev pub longer : Option Part → ℕ → Option Part
longer None n = None
longer (Some p) n = Some (record p { len = p.len + n })

-- the last item behind the others
abbrev pub all_kept : List Part → Option Part → List Part
all_kept done None = done
all_kept done (Some p) = done ++ p ∷ []

abbrev pub kept : RowState → Part → Option Mark → RowState
kept row next mark =
    if nat_eq next.len 0 then record row { before = Some next; waiting = None }
    else if joins row.last next then record row { last = longer row.last next.len; before = Some next; waiting = None }
    else record { done = all_kept row.done row.last; last = Some (record next { mark = mark }); before = Some next; waiting = None }

abbrev pub row_with : RowState → Part → Read RowState
row_with row next = dissolve_before row next >>= λ mark. Ok (kept row next mark)

-- ---- the end of the list

abbrev pub ended : Option Waiting → List Part → Read (List Part)
ended None parts = Ok parts
ended (Some w) parts = refuse O8 w.at

abbrev pub row_end : RowState → Read (List Part)
row_end row = ended row.waiting (all_kept row.done row.last)

-- ---- its frames

abbrev pub frames_in_all : List Part → ℕ
frames_in_all [] = 0
frames_in_all (p ∷ ps) = p.len + frames_in_all ps

abbrev pub row_frames : RowState → ℕ
row_frames row = frames_in_all (all_kept row.done row.last)
