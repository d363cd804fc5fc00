use Rattle.std.proofs.Common.{◌+◌, drop, sym, ap, ◌∙◌}
use Rattle.otio_text.specs.Texts.{grown}
use Rattle.otio_text.specs.Documents.{comma, track_text, kind_at, later_tracks}
use Rattle.otio_text.proofs.Growing.{two_more}
use Rattle.otio_text.proofs.TextLaws.{next_tracks}
use Rattle.otio_text.proofs.writing.put_other_tracks.Goals as goal

pub loop-index-preserved : goal.loop-index-preserved
loop-index-preserved c =
    let ts = c.args.others.now in
    let i = c.loop-index.index in
    let t = c.index-others-index.result in
    two_more c.loop-index.out c.put.new.self c.put_track.new.out
    comma (track_text c.args.table.now c.args.rate (kind_at c.args.table.now (i + 1)) t) (later_tracks c.args.table.now c.args.rate (i + 1 + 1) (drop (i + 1) ts))
    c.in_ok-put.ensures (rw c.kind_at.ensures at c.in_ok-put_track.ensures)
    ∙ (ap (grown c.loop-index.out) (sym (next_tracks c.args.table.now c.args.rate (i + 1) ts i t c.loop-index-test.true c.index-others-index.is)) ∙ c.loop-index.invariant)
