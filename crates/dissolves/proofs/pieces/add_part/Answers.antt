use Rattle.std.proofs.Common.{◌-◌, ◌<◌, ◌++◌, sym, ap, ◌∙◌, arith, refl, List}
use Rattle.std.proofs.lemmas.List.{append-nil}
use Rattle.frame_meaning.specs.declared.cells.What.{What}
use Rattle.frame_meaning.specs.declared.frames.Frame.{Frame}
use Rattle.frame_meaning.specs.declared.frames.Run.{Run}
use Rattle.frame_meaning.specs.Going.{same_what}
use Rattle.frame_meaning.specs.Runs.{runs}
use Rattle.dissolves.specs.Pieces.{push_run, len_of}
use Rattle.dissolves.proofs.Behind.{runs-behind}
use Rattle.dissolves.proofs.Cutting.{cut-run, cut-none}
use Rattle.dissolves.proofs.Walk.{walk_more, len_of-push}
use Rattle.dissolves.proofs.pieces.add_part.Goals as goal

pub returns-in_ok-push_run-clause-walked : goal.returns-in_ok-push_run-clause-walked
returns-in_ok-push_run-clause-walked c rest frames =
    let part : Run What = record { frame = c.frame_later.result; len = c.min-end.result - c.max-begin.result } in
    let filled : 0 < c.min-end.result - c.max-begin.result = omega (arith, c.if-begin-end.true) in
    walk_more c.args.all.now.items c.push_run.new.all.items c.args.from c.args.a c.args.b c.args.run rest frames c.requires.order
    (λ fs is.
    c.in_ok-push_run.ensures
    ∙ (ap (λ (rs : List (Run What)). push_run same_what rs part) is
    ∙ (sym (runs-behind fs part filled)
    ∙ ap (λ (gs : List (Frame What)). runs same_what (fs ++ gs))
    (sym (cut-run c.args.a c.args.b c.args.from c.max-begin.result c.min-end.result c.args.run part c.max-begin.ensures c.min-end.ensures c.requires.order c.frame_later.ensures refl)))))

pub returns-in_ok-push_run-clause-room : goal.returns-in_ok-push_run-clause-room
returns-in_ok-push_run-clause-room c =
    let part : Run What = record { frame = c.frame_later.result; len = c.min-end.result - c.max-begin.result } in
    omega (arith, c.requires.room, c.max-begin.ensures, c.min-end.ensures, ap len_of c.in_ok-push_run.ensures, len_of-push c.args.all.now.items part)

pub returns-else-begin-end-clause-walked : goal.returns-else-begin-end-clause-walked
returns-else-begin-end-clause-walked c rest frames =
    walk_more c.args.all.now.items c.args.all.now.items c.args.from c.args.a c.args.b c.args.run rest frames c.requires.order
    (λ fs is.
    is
    ∙ ap (runs same_what)
    (sym (append-nil fs)
    ∙ ap (λ (gs : List (Frame What)). fs ++ gs)
    (sym (cut-none c.args.a c.args.b c.args.from c.max-begin.result c.min-end.result c.args.run c.max-begin.ensures c.min-end.ensures c.requires.order c.if-begin-end.false))))
