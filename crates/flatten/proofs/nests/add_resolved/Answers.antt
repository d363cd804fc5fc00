use Rattle.std.proofs.Common.{ℕ, ◌++◌, List, map, sym, ap, ◌∙◌, subst}
use Rattle.frame_meaning.specs.declared.frames.Frame.{Frame}
use Rattle.frame_meaning.specs.declared.frames.Run.{Run}
use Rattle.frame_meaning.specs.RunFrames.{frames_from}
use Rattle.dissolves.specs.Pieces.{Reaches}
use Rattle.flatten.specs.Strips.{frames_of}
use Rattle.flatten.proofs.Parts.{frames_of-push, pushed_fit}
use Rattle.flatten.proofs.Resolving.{frame_reaches, run_in_nest, run_of_reel}
use Rattle.flatten.proofs.nests.add_resolved.Goals as goal

pub returns-in_ok-add_nest-in-Some-clause-added : goal.returns-in_ok-add_nest-in-Some-clause-added
returns-in_ok-add_nest-in-Some-clause-added c =
    c.in_ok-add_nest-in-Some.ensures.added
    ∙ ap (λ (fs : List (Frame ℕ)). frames_of c.args.all.now ++ fs)
    (sym (run_in_nest c.args.media.now (map frames_of c.args.nests.now) c.args.run.frame c.in-Some.nest c.in-Some.source c.args.run.len (sym c.nest_in.ensures ∙ c.in-Some.is)))

pub returns-in_ok-push-in-None-clause-added : goal.returns-in_ok-push-in-None-clause-added
returns-in_ok-push-in-None-clause-added c =
    let r : Run ℕ = record { frame = c.reel_frame-frame.result; len = c.args.run.len } in
    ap frames_of c.in_ok-push-in-None.ensures.ok
    ∙ (frames_of-push c.args.all.now r
    ∙ ap (λ (fs : List (Frame ℕ)). frames_of c.args.all.now ++ fs)
    (ap (λ (f : Frame ℕ). frames_from f c.args.run.len) c.reel_frame-frame.ensures
    ∙ sym (run_of_reel c.args.media.now (map frames_of c.args.nests.now) c.args.run.frame c.args.run.len (sym c.nest_in.ensures ∙ c.in-None.is))))

pub returns-in_ok-push-in-None-clause-all : goal.returns-in_ok-push-in-None-clause-all
returns-in_ok-push-in-None-clause-all c =
    pushed_fit c.args.all.now c.push.new.self (record { frame = c.reel_frame-frame.result; len = c.args.run.len }) c.in_ok-push-in-None.ensures.ok c.requires.all
    (record { filled = c.requires.run.filled; reaches = subst (λ (f : Frame ℕ). Reaches f c.args.run.len) (sym c.reel_frame-frame.ensures) (frame_reaches c.args.media.now c.args.run.frame c.args.run.len c.requires.run.reaches) })
