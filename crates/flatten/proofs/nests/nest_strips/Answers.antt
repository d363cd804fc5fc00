use Rattle.std.proofs.Common.{◌≡◌, ℕ, List, map, sym, ap, ◌∙◌, subst}
use Rattle.frame_meaning.specs.declared.frames.Run.{Run}
use Rattle.composables.specs.declared.media.Media.{Media}
use Rattle.flatten.specs.Channels.{AreSound}
use Rattle.flatten.specs.Nests.{frames_of_nests, nest_frames}
use Rattle.flatten.specs.Strips.{frames_of}
use Rattle.flatten.proofs.Building.{fit_more, nest_lies, next_nest, strip_more}
use Rattle.flatten.proofs.nests.nest_strips.Goals as goal

pub nest_strip-requires-clause-layers : goal.nest_strip-requires-clause-layers
nest_strip-requires-clause-layers c =
    nest_lies c.as_slice-nest-items.result.now c.loop-nest.nest-index c.nest-item.result c.loop-nest-test.true c.nest-item.is
    (subst AreSound (sym c.as_slice-nest-items.ensures) c.requires)

pub loop-nest-preserved : goal.loop-nest-preserved
loop-nest-preserved c =
    let media = c.args.table.now.media in
    let ns = c.args.table.now.nests in
    let n = c.nest-item.result in
    let pushed = c.in_ok-push.ensures.ok in
    let done = map frames_of c.loop-nest.all in
    let are : frames_of c.in_ok-strip.strip ≡ nest_frames media done n =
    c.in_ok-strip.ensures.are
    ∙ (ap (λ (m : List Media). nest_frames m (map frames_of c.as_slice-in-loop-nest.result.now) n) c.as_slice.ensures
    ∙ ap (λ (rss : List (List (Run ℕ))). nest_frames media (map frames_of rss) n) c.as_slice-in-loop-nest.ensures) in
    record {
      all = fit_more c.loop-nest.all c.push.new.self c.in_ok-strip.strip pushed c.loop-nest.invariant.all c.in_ok-strip.ensures.fit;
      same =
          next_nest media c.as_slice-nest-items.result.now ns c.loop-nest.nest-index n done (map frames_of c.push.new.self) (frames_of_nests c.args.table.now) c.as_slice-nest-items.ensures c.loop-nest-test.true c.nest-item.is
          (strip_more c.loop-nest.all c.push.new.self c.in_ok-strip.strip (nest_frames media done n) pushed are) c.loop-nest.invariant.same;
    }
