use Rattle.std.proofs.Common.{ℕ, ◌+◌, ◌++◌, List, drop, map, sym, ap, ◌∙◌, subst}
use Rattle.frame_meaning.specs.declared.frames.Run.{Run}
use Rattle.flatten.specs.Nests.{frames_of_nests, track_frames}
use Rattle.flatten.specs.Strips.{AllFit, frames_of}
use Rattle.flatten.specs.Channels.{channels, of_kind}
use Rattle.flatten.proofs.Building.{fit_more, last_track, next_track, other_track, shown_track, strip_more, track_short}
use Rattle.flatten.proofs.channels.kind_strips.Goals as goal
use Rattle.flatten.proofs.channels.kind_strips.Goals.{then-is_of_kind+in_ok-strip+in_ok-push, else-is_of_kind}

pub strip_of-requires-clause-short : goal.strip_of-requires-clause-short
strip_of-requires-clause-short c = track_short c.args.tracks.now c.loop-index.index c.index-tracks-index.result c.loop-index-test.true c.index-tracks-index.is c.requires.tracks

pub loop-index-preserved : goal.loop-index-preserved
loop-index-preserved c =
    let table = c.args.table.now in
    let nests = frames_of_nests table in
    let ts = c.args.tracks.now in
    let i = c.loop-index.index in
    let t = c.index-tracks-index.result in
    let meant = channels c.args.kind table ts in
    elim c.if-is_of_kind.branch [
      | then-is_of_kind+in_ok-strip+in_ok-push w ↦
          (let pushed = w.all-is ∙ w.in_ok-push.ensures.ok in
          let shown = shown_track table.media w.as_slice-media.result.now nests (map frames_of c.args.nests.now) t w.length.result w.as_slice-media.ensures c.requires.nests.are w.length.ensures.value in
          record {
            all = fit_more c.loop-index.all c.if-is_of_kind.all w.in_ok-strip.strip pushed c.loop-index.invariant.all w.in_ok-strip.ensures.fit;
            same =
                next_track c.args.kind table nests ts i t c.is_of_kind.result (map frames_of c.loop-index.all) (map frames_of c.if-is_of_kind.all) meant c.loop-index-test.true c.index-tracks-index.is c.is_of_kind.ensures w.if-is_of_kind.true
                (strip_more c.loop-index.all c.if-is_of_kind.all w.in_ok-strip.strip (track_frames table.media nests t) pushed (w.in_ok-strip.ensures.are ∙ shown)) c.loop-index.invariant.same;
          })
      | else-is_of_kind w ↦
          record {
            all = subst AllFit (sym w.all-is) c.loop-index.invariant.all;
            same =
                ap (λ (rss : List (List (Run ℕ))). map frames_of rss ++ map (track_frames table.media nests) (of_kind c.args.kind (drop (i + 1) table.kinds) (drop (i + 1) ts))) w.all-is
                ∙ other_track c.args.kind table nests ts i c.is_of_kind.result (map frames_of c.loop-index.all) meant c.loop-index-test.true c.is_of_kind.ensures w.if-is_of_kind.false c.loop-index.invariant.same;
          }
    ]

pub returns : goal.returns
returns c = record {
  are = last_track c.args.kind c.args.table.now (frames_of_nests c.args.table.now) c.args.tracks.now c.loop-index.index (map frames_of c.loop-index.all) (channels c.args.kind c.args.table.now c.args.tracks.now) c.loop-index-test.false c.loop-index.invariant.same;
  fit = c.loop-index.invariant.all;
}
