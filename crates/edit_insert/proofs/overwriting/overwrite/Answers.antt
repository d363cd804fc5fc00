use Rattle.std.proofs.Common.{refl}
use Rattle.edit_insert.specs.Edits.{overwrite_track}
use Rattle.edit_splice.specs.Standing.{StaysGood}
use Rattle.edit_splice.proofs.OneTrack.{is-one, one-answers, one-each}
use Rattle.edit_splice.proofs.Standing.{each-good}
use Rattle.edit_insert.proofs.overwriting.overwrite.Goals as goal

pub returns-clause-answers : goal.returns-clause-answers
returns-clause-answers g c =
    let o = is-one c.args.call.now.track c.args.named.now.items c.index_mut.result.now c.requires.named c.index_mut.ensures.value in
    let s : StaysGood c.args.table.now c.index_mut.result.now c.overwrite_track.new.track = c.overwrite_track.ensures.good in
    one-answers c.args.call.now.track (overwrite_track c.args.table.now c.args.call.now) c.args.named.now.items _ c.index_mut.result.now c.overwrite_track.new.track c.overwrite_track.result o refl s.number c.overwrite_track.ensures.answers

pub returns-clause-good : goal.returns-clause-good
returns-clause-good g c =
    let o = is-one c.args.call.now.track c.args.named.now.items c.index_mut.result.now c.requires.named c.index_mut.ensures.value in
    let s : StaysGood c.args.table.now c.index_mut.result.now c.overwrite_track.new.track = c.overwrite_track.ensures.good in
    each-good c.args.table.now c.args.named.now.items _ (one-each c.args.table.now c.args.call.now.track c.args.named.now.items _ c.index_mut.result.now c.overwrite_track.new.track o refl s)
