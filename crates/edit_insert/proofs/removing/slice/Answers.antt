use Rattle.std.proofs.Common.{refl}
use Rattle.composables.specs.Good.{IsGood}
use Rattle.edit_insert.specs.Edits.{slice_track}
use Rattle.edit_splice.specs.Standing.{StaysGood}
use Rattle.edit_splice.proofs.OneTrack.{is-one, one-answers, one-each, one-holds}
use Rattle.edit_splice.proofs.Standing.{each-good}
use Rattle.edit_insert.proofs.Removals.{slice-stays}
use Rattle.edit_insert.proofs.removing.slice.Goals as goal

pub returns-clause-answers : goal.returns-clause-answers
returns-clause-answers g c =
    let o = is-one c.args.call.now.track c.args.named.now.items c.index_mut.result.now c.requires.named c.index_mut.ensures.value in
    let s : StaysGood c.args.table.now c.index_mut.result.now c.slice_track.new.track = slice-stays c.args.table.now c.args.call.now c.index_mut.result.now c.slice_track.new.track c.slice_track.result (one-holds (IsGood c.args.table.now) c.args.call.now.track c.args.named.now.items c.index_mut.result.now o c.requires.good) c.slice_track.ensures.answers in
    one-answers c.args.call.now.track (slice_track c.args.call.now) c.args.named.now.items _ c.index_mut.result.now c.slice_track.new.track c.slice_track.result o refl s.number c.slice_track.ensures.answers

pub returns-clause-good : goal.returns-clause-good
returns-clause-good g c =
    let o = is-one c.args.call.now.track c.args.named.now.items c.index_mut.result.now c.requires.named c.index_mut.ensures.value in
    let s : StaysGood c.args.table.now c.index_mut.result.now c.slice_track.new.track = slice-stays c.args.table.now c.args.call.now c.index_mut.result.now c.slice_track.new.track c.slice_track.result (one-holds (IsGood c.args.table.now) c.args.call.now.track c.args.named.now.items c.index_mut.result.now o c.requires.good) c.slice_track.ensures.answers in
    each-good c.args.table.now c.args.named.now.items _ (one-each c.args.table.now c.args.call.now.track c.args.named.now.items _ c.index_mut.result.now c.slice_track.new.track o refl s)
