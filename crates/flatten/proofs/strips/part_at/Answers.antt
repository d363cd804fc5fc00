use Rattle.std.proofs.Common.{◌≡◌, ℕ, ◌+◌, ◌-◌, ◌++◌, Some, List, drop, suc, sym, ap, ◌∙◌, slice_get, arith, subst, add-one}
use Rattle.frame_meaning.specs.declared.frames.Frame.{Frame}
use Rattle.frame_meaning.specs.declared.frames.Run.{Run}
use Rattle.frame_meaning.specs.RunFrames.{frames_from}
use Rattle.dissolves.specs.Pieces.{Reaches}
use Rattle.flatten.specs.Strips.{frames_of}
use Rattle.flatten.proofs.Moving.{reaches_less, reaches_moved}
use Rattle.flatten.proofs.Parts.{at_start, behind, fit_at, front_part, none_left, still_behind, whole_part}
use Rattle.flatten.proofs.strips.part_at.Goals as goal

pub later_frame-frame-requires : goal.later_frame-frame-requires
later_frame-frame-requires c =
    let rs = c.args.runs.now in
    let r = c.in_ok-run.run' in
    let is : slice_get rs c.args.spot.index ≡ Some r = sym c.run_at.ensures.run ∙ c.in_ok-run.was in
    reaches_less r.frame (c.args.spot.used + 1) r.len (omega (arith, behind rs c.args.spot.index c.args.spot.used r c.requires.spot is)) (fit_at rs c.args.spot.index r c.requires.fit is).reaches

pub overflow_sub-len : goal.overflow_sub-len
overflow_sub-len c =
    let rs = c.args.runs.now in
    let is : slice_get rs c.args.spot.index ≡ Some c.in_ok-run.run' = sym c.run_at.ensures.run ∙ c.in_ok-run.was in
    omega (arith, behind rs c.args.spot.index c.args.spot.used c.in_ok-run.run' c.requires.spot is)

pub returns-then-len-most-clause-frames : goal.returns-then-len-most-clause-frames
returns-then-len-most-clause-frames c =
    let rs = c.args.runs.now in
    let i = c.args.spot.index in
    let used = c.args.spot.used in
    let r = c.in_ok-run.run' in
    let is : slice_get rs i ≡ Some r = sym c.run_at.ensures.run ∙ c.in_ok-run.was in
    let past : drop (suc i) rs ≡ drop (i + 1) rs = rw add-one in
    whole_part rs i used r is (behind rs i used r c.requires.spot is)
    ∙ (ap (λ (f : Frame ℕ). frames_from f (r.len - used) ++ frames_of (drop (suc i) rs)) (sym c.later_frame-frame.ensures)
    ∙ ap (λ (qs : List (Run ℕ)). frames_from c.later_frame-frame.result (r.len - used) ++ frames_of qs) past)

pub returns-then-len-most-clause-fit : goal.returns-then-len-most-clause-fit
returns-then-len-most-clause-fit c =
    let rs = c.args.runs.now in
    let i = c.args.spot.index in
    let used = c.args.spot.used in
    let r = c.in_ok-run.run' in
    let is : slice_get rs i ≡ Some r = sym c.run_at.ensures.run ∙ c.in_ok-run.was in
    let within = behind rs i used r c.requires.spot is in
    record {
      filled = omega (arith, within);
      reaches = subst (λ (f : Frame ℕ). Reaches f (r.len - used)) (sym c.later_frame-frame.ensures) (reaches_moved r.frame used (r.len - used) r.len (omega (arith, within)) (fit_at rs i r c.requires.fit is).reaches);
    }

pub returns-then-len-most-clause-spot : goal.returns-then-len-most-clause-spot
returns-then-len-most-clause-spot c = at_start c.args.runs.now (c.args.spot.index + 1) c.requires.fit

pub returns-clause-frames : goal.returns-clause-frames
returns-clause-frames c =
    let rs = c.args.runs.now in
    let i = c.args.spot.index in
    let used = c.args.spot.used in
    let most = c.args.most in
    let r = c.in_ok-run.run' in
    let is : slice_get rs i ≡ Some r = sym c.run_at.ensures.run ∙ c.in_ok-run.was in
    front_part rs i used most r is (behind rs i used r c.requires.spot is) (omega (arith, c.if-len-most.false))
    ∙ ap (λ (f : Frame ℕ). frames_from f most ++ drop (used + most) (frames_of (drop i rs))) (sym c.later_frame-frame.ensures)

pub returns-clause-fit : goal.returns-clause-fit
returns-clause-fit c =
    let rs = c.args.runs.now in
    let i = c.args.spot.index in
    let used = c.args.spot.used in
    let r = c.in_ok-run.run' in
    let is : slice_get rs i ≡ Some r = sym c.run_at.ensures.run ∙ c.in_ok-run.was in
    record {
      filled = omega (arith, c.requires.most);
      reaches = subst (λ (f : Frame ℕ). Reaches f c.args.most) (sym c.later_frame-frame.ensures) (reaches_moved r.frame used c.args.most r.len (omega (arith, c.if-len-most.false)) (fit_at rs i r c.requires.fit is).reaches);
    }

pub returns-clause-spot : goal.returns-clause-spot
returns-clause-spot c =
    let rs = c.args.runs.now in
    let i = c.args.spot.index in
    let r = c.in_ok-run.run' in
    let is : slice_get rs i ≡ Some r = sym c.run_at.ensures.run ∙ c.in_ok-run.was in
    still_behind rs i (c.args.spot.used + c.args.most) r is (omega (arith, c.if-len-most.false))

pub returns-in_err-run-clause-end : goal.returns-in_err-run-clause-end
returns-in_err-run-clause-end c n = none_left c.args.runs.now c.args.spot.index c.args.spot.used (sym c.run_at.ensures.run ∙ c.in_err-run.was)
