use Rattle.std.proofs.Common.{◌≡◌, OnOk, drop, sym, subst}
use Rattle.otio_text.specs.Texts.{grown}
use Rattle.otio_text.specs.Documents.{track_text, kind_at, later_tracks}
use Rattle.otio_text.proofs.Growing.{put2}
use Rattle.otio_text.proofs.TextLaws.{all_behind, first_tracks}
use Rattle.otio_text.proofs.writing.put_tracks.Goals as goal

pub returns-in_ok-put_track-in-len1-up : goal.returns-in_ok-put_track-in-len1-up
returns-in_ok-put_track-in-len1-up c =
    let ts = c.args.tracks.now in
    subst (λ text. OnOk c.put_other_tracks.result (c.put_other_tracks.new.out ≡ grown c.args.out.now text)) (sym (first_tracks c.args.table.now c.args.rate ts c.first-item.result c.in-len1-up.len_at_least c.first-item.is))
    (put2 c.put_other_tracks.result c.args.out.now c.put_track.new.out c.put_other_tracks.new.out
    (track_text c.args.table.now c.args.rate (kind_at c.args.table.now 0) c.first-item.result) (later_tracks c.args.table.now c.args.rate 1 (drop 1 ts))
    (rw c.kind_at.ensures at c.in_ok-put_track-in-len1-up.ensures)
    (subst (λ us. OnOk c.put_other_tracks.result (c.put_other_tracks.new.out ≡ grown c.put_track.new.out (later_tracks c.args.table.now c.args.rate 1 us))) (all_behind ts) c.put_other_tracks.ensures))
