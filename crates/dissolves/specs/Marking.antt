-- A dissolve put at a cut, or taken away: the mark of the cell there is set.
use Rattle.std.specs.Prelude.{ℕ, zero, suc, List, [], ◌∷◌, Option, Some, None, Result, Ok}
use Rattle.frame_meaning.specs.declared.cells.Mark.{Mark}
use Rattle.frame_meaning.specs.declared.cells.Cell.{Cell}
use Rattle.frame_meaning.specs.Render.{cell_at}
use Rattle.composables.specs.declared.calls.Dissolve.{Dissolve}
use Rattle.composables.specs.declared.calls.Undissolve.{Undissolve}
use Rattle.composables.specs.declared.media.Table.{Table}
use Rattle.composables.specs.declared.refusals.Done.{Done}
use Rattle.composables.specs.declared.refusals.Done.TheVariants.{Plain}
use Rattle.composables.specs.declared.refusals.Refusal.{Refusal}
use Rattle.composables.specs.declared.refusals.Refusal.TheVariants.{NotACut}
use Rattle.composables.specs.TrackState.{TrackState}
use Rattle.composables.specs.Answers.{Applied, unless}
use Rattle.composables.specs.OwnTracks.{on_own}
use Rattle.dissolves.specs.Cuts.{dissolve_refusal}

-- the cells with this mark at a place
abbrev pub mark_at_place : List Cell → ℕ → Option Mark → List Cell
mark_at_place [] p mark = []
mark_at_place (c ∷ cs) zero mark = record c { mark = mark } ∷ cs
mark_at_place (c ∷ cs) (suc p) mark = c ∷ mark_at_place cs p mark

abbrev pub marked_track : TrackState → ℕ → Option Mark → TrackState
marked_track t p mark = record t { cells = mark_at_place t.cells p mark }

abbrev pub mark_asked : Dissolve → Mark
mark_asked call = record { a = call.a; b = call.b }

-- the dissolve in place of an earlier one at its cut
abbrev pub dissolve_on : Table → TrackState → Dissolve → Result (TrackState × Done) Refusal
dissolve_on table t call =
    unless (dissolve_refusal table t.cells call.at (mark_asked call)) (Ok (marked_track t call.at (Some (mark_asked call)), Plain))

abbrev pub dissolve_named : Table → List TrackState → Dissolve → Applied
dissolve_named table named call = on_own call.track (λ t. dissolve_on table t call) named

-- why no dissolve can be taken away from a place, if none stands there
abbrev pub undissolve_refusal : Option Mark → ℕ → Option Refusal
undissolve_refusal None p = Some (NotACut p)
undissolve_refusal (Some m) p = None

-- no dissolve, where one stood
abbrev pub undissolve_on : TrackState → Undissolve → Result (TrackState × Done) Refusal
undissolve_on t call =
    unless (undissolve_refusal (cell_at t.cells call.at).mark call.at) (Ok (marked_track t call.at None, Plain))

abbrev pub undissolve_named : List TrackState → Undissolve → Applied
undissolve_named named call = on_own call.track (λ t. undissolve_on t call) named
