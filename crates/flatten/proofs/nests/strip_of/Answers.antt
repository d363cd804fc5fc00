use Rattle.std.proofs.Common.{◌≡◌, List, IfOk, map, sym, ap, ◌∙◌, subst}
use Rattle.std.specs.List.{flat_map}
use Rattle.frame_meaning.specs.declared.cells.What.{What}
use Rattle.frame_meaning.specs.declared.frames.Frame.{Frame}
use Rattle.frame_meaning.specs.Going.{same_what}
use Rattle.frame_meaning.specs.RunFrames.{run_frames}
use Rattle.frame_meaning.specs.Render.{render}
use Rattle.frame_meaning.proofs.Maximal.{frames-runs, one-what}
use Rattle.dissolves.specs.Pieces.{cut}
use Rattle.flatten.specs.Nests.{resolved}
use Rattle.flatten.specs.Strips.{AreTrackRuns, Show, frames_of}
use Rattle.flatten.proofs.Resolving.{shown_sound}
use Rattle.flatten.proofs.nests.strip_of.Goals as goal

pub resolve_runs-requires-clause-runs : goal.resolve_runs-requires-clause-runs
resolve_runs-requires-clause-runs c =
    subst AreTrackRuns (sym c.deref.ensures.value) (shown_sound c.args.track.now c.args.from c.args.to c.in_ok-shown.shown.items c.length.ensures.kept c.requires.short c.in_ok-shown.ensures)

pub returns : goal.returns
returns c =
    let change = resolved c.args.media.now (map frames_of c.args.nests.now) in
    let are : flat_map run_frames c.deref.result.now ≡ cut c.args.from c.args.to (render c.args.track.now.cells) =
    ap (flat_map run_frames) (c.deref.ensures.value ∙ c.in_ok-shown.ensures) ∙ frames-runs What same_what one-what (cut c.args.from c.args.to (render c.args.track.now.cells)) in
    subst (λ (fs : List (Frame What)). IfOk c.resolve_runs.result (λ all. Show all (map change fs))) are c.resolve_runs.ensures
