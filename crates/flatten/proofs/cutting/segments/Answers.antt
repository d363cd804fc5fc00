use Rattle.std.proofs.Common.{◌≡◌, ℕ, ◌+◌, sym, ap, arith, subst}
use Rattle.frame_meaning.specs.declared.frames.Frame.TheVariants.{Dark}
use Rattle.frame_meaning.specs.declared.frames.Run.{Run}
use Rattle.flatten.specs.Joined.{lens_of}
use Rattle.flatten.specs.Segments.{AreApart, ArePlaced, EachIsSegment, first_partial}
use Rattle.flatten.specs.Strips.{frames_of}
use Rattle.flatten.proofs.CutRuns.{frames_more_cut, partial_more, told, within}
use Rattle.flatten.proofs.Segmenting.{apart_joined, each_joined, lens_joined, placed_joined}
use Rattle.flatten.proofs.cutting.segments.Goals as goal

pub join-requires : goal.join-requires
join-requires c =
    let rs = c.args.runs.now in
    let none : Run ℕ = record { frame = Dark; len = 0 } in
    let one = told c.loop-run.at rs c.loop-run.run-index none c.in_ok-segment.segment c.in_ok-segment.ensures.segment c.loop-run-test.true c.requires.filled in
    omega (
      arith,
      one.2,
      c.requires.short,
      c.loop-run.invariant.lens,
      within c.loop-run.all.items c.loop-run.at rs c.loop-run.run-index none (frames_of rs) c.loop-run-test.true c.loop-run.invariant.each c.loop-run.invariant.lens c.loop-run.invariant.frames,
    )

pub overflow_add-at : goal.overflow_add-at
overflow_add-at c =
    let rs = c.args.runs.now in
    omega (
      arith,
      c.requires.short,
      within c.loop-run.all.items c.loop-run.at rs c.loop-run.run-index (record { frame = Dark; len = 0 }) (frames_of rs) c.loop-run-test.true c.loop-run.invariant.each c.loop-run.invariant.lens c.loop-run.invariant.frames,
    )

pub loop-run-preserved : goal.loop-run-preserved
loop-run-preserved c =
    let rs = c.args.runs.now in
    let i = c.loop-run.run-index in
    let at = c.loop-run.at in
    let ss = c.loop-run.all.items in
    let t = c.in_ok-segment.segment in
    let none : Run ℕ = record { frame = Dark; len = 0 } in
    let inv = c.loop-run.invariant in
    let new = c.in_ok-join.ensures in
    let one = told at rs i none t c.in_ok-segment.ensures.segment c.loop-run-test.true c.requires.filled in
    let here : t.at ≡ 0 + lens_of ss = omega (arith, one.1, inv.lens) in
    record {
      frames = frames_more_cut ss c.join.new.all.items t at rs i none (frames_of rs) c.loop-run-test.true c.in_ok-segment.ensures.whole inv.each c.in_ok-segment.ensures.segment new inv.frames;
      each = subst EachIsSegment (sym new) (each_joined ss t inv.each one.0);
      placed = subst (ArePlaced 0) (sym new) (placed_joined 0 ss t inv.placed here);
      apart = subst AreApart (sym new) (apart_joined ss t inv.apart);
      lens = omega (arith, ap lens_of new, lens_joined ss t, inv.lens, one.2);
      partial = partial_more at rs i none (first_partial 0 rs) c.loop-run-test.true c.in_ok-segment.ensures.whole inv.partial;
    }
