use Rattle.std.proofs.Common.{◌+◌, ◌++◌, List, drop, map, sym, ap, ◌∙◌, subst}
use Rattle.composables.specs.declared.media.Kind.TheVariants.{Video}
use Rattle.flatten.specs.declared.sights.Sights.{Sights}
use Rattle.flatten.specs.Channels.{of_kind}
use Rattle.flatten.specs.Hiding.{hides_of_nests, track_layer}
use Rattle.flatten.specs.Marks.{AllComposed, hides_of, seen_of}
use Rattle.flatten.specs.Nests.{frames_of_nests}
use Rattle.flatten.specs.Strips.{frames_of}
use Rattle.flatten.proofs.Building.{track_short}
use Rattle.flatten.proofs.FadePlaces.{composed_more, last_track_layer, layers_more, next_track_layer, other_track_layer, whole_layer}
use Rattle.flatten.proofs.hiding.video_layers.Goals as goal
use Rattle.flatten.proofs.hiding.video_layers.Goals.{then-is_of_kind+in_ok-sights+in_ok-push, else-is_of_kind}

pub sights_of-requires-clause-short : goal.sights_of-requires-clause-short
sights_of-requires-clause-short c = track_short c.args.tracks.now c.loop-index.index c.index-tracks-index.result c.loop-index-test.true c.index-tracks-index.is c.requires.tracks

pub loop-index-preserved : goal.loop-index-preserved
loop-index-preserved c =
    let table = c.args.table.now in
    let ts = c.args.tracks.now in
    let i = c.loop-index.index in
    let t = c.index-tracks-index.result in
    let meant = map (track_layer table) (of_kind Video table.kinds ts) in
    elim c.if-is_of_kind.branch [
      | then-is_of_kind+in_ok-sights+in_ok-push w ↦
          (let pushed = w.all-is ∙ w.in_ok-push.ensures.ok in
          let shown =
          whole_layer table.media w.as_slice-media.result.now (frames_of_nests table) (map frames_of c.args.nests.now) (hides_of_nests table) (map hides_of c.args.marks.now) t w.length.result w.as_slice-media.ensures c.requires.nests.are c.requires.hides w.length.ensures.value in
          record {
            all = composed_more c.loop-index.all c.if-is_of_kind.all w.in_ok-sights.sights pushed c.loop-index.invariant.all w.in_ok-sights.ensures.composed;
            same =
                next_track_layer Video table ts i t c.is_of_kind.result (map seen_of c.loop-index.all) (map seen_of c.if-is_of_kind.all) meant c.loop-index-test.true c.index-tracks-index.is c.is_of_kind.ensures w.if-is_of_kind.true
                (layers_more c.loop-index.all c.if-is_of_kind.all w.in_ok-sights.sights (track_layer table t) pushed (w.in_ok-sights.ensures.seen ∙ shown)) c.loop-index.invariant.same;
          })
      | else-is_of_kind w ↦
          record {
            all = subst AllComposed (sym w.all-is) c.loop-index.invariant.all;
            same =
                ap (λ (ss : List Sights). map seen_of ss ++ map (track_layer table) (of_kind Video (drop (i + 1) table.kinds) (drop (i + 1) ts))) w.all-is
                ∙ other_track_layer Video table ts i c.is_of_kind.result (map seen_of c.loop-index.all) meant c.loop-index-test.true c.is_of_kind.ensures w.if-is_of_kind.false c.loop-index.invariant.same;
          }
    ]

pub returns-clause-seen : goal.returns-clause-seen
returns-clause-seen c =
    last_track_layer Video c.args.table.now c.args.tracks.now c.loop-index.index (map seen_of c.loop-index.all) (map (track_layer c.args.table.now) (of_kind Video c.args.table.now.kinds c.args.tracks.now)) c.loop-index-test.false c.loop-index.invariant.same
