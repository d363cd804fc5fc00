use Rattle.std.proofs.Common.{◌≡◌, ℕ, List, map, sym, ap, ◌∙◌, subst}
use Rattle.frame_meaning.specs.declared.frames.Frame.{Frame}
use Rattle.frame_meaning.specs.declared.frames.Run.{Run}
use Rattle.composables.specs.declared.media.Media.{Media}
use Rattle.flatten.specs.Channels.{AreSound}
use Rattle.flatten.specs.Hiding.{hides_of_nests, nest_hides}
use Rattle.flatten.specs.Marks.{hides_of}
use Rattle.flatten.specs.Nests.{frames_of_nests}
use Rattle.flatten.specs.Strips.{frames_of}
use Rattle.flatten.proofs.Building.{fit_more, nest_lies}
use Rattle.flatten.proofs.FadePlaces.{marks_more, next_hides}
use Rattle.flatten.proofs.hiding.nest_marks.Goals as goal

pub marks_of_nest-requires-clause-layers : goal.marks_of_nest-requires-clause-layers
marks_of_nest-requires-clause-layers c =
    nest_lies c.as_slice-nest-items.result.now c.loop-nest.nest-index c.nest-item.result c.loop-nest-test.true c.nest-item.is
    (subst AreSound (sym c.as_slice-nest-items.ensures) c.requires.layers)

pub loop-nest-preserved : goal.loop-nest-preserved
loop-nest-preserved c =
    let media = c.args.table.now.media in
    let shown = frames_of_nests c.args.table.now in
    let n = c.nest-item.result in
    let done = map hides_of c.loop-nest.all in
    let pushed = c.in_ok-push.ensures.ok in
    let are : hides_of c.in_ok-strip.strip ≡ nest_hides media shown done n =
    c.in_ok-strip.ensures.hides
    ∙ (ap (λ (m : List Media). nest_hides m (map frames_of c.args.nests.now) (map hides_of c.as_slice-in-loop-nest.result.now) n) c.as_slice.ensures
    ∙ (ap (λ (fs : List (List (Frame ℕ))). nest_hides media fs (map hides_of c.as_slice-in-loop-nest.result.now) n) c.requires.nests.are
    ∙ ap (λ (rss : List (List (Run ℕ))). nest_hides media shown (map hides_of rss) n) c.as_slice-in-loop-nest.ensures)) in
    record {
      all = fit_more c.loop-nest.all c.push.new.self c.in_ok-strip.strip pushed c.loop-nest.invariant.all c.in_ok-strip.ensures.fit;
      same =
          next_hides media shown c.as_slice-nest-items.result.now c.args.table.now.nests c.loop-nest.nest-index n done (map hides_of c.push.new.self) (hides_of_nests c.args.table.now) c.as_slice-nest-items.ensures c.loop-nest-test.true c.nest-item.is
          (marks_more c.loop-nest.all c.push.new.self c.in_ok-strip.strip (nest_hides media shown done n) pushed are) c.loop-nest.invariant.same;
    }
