use Rattle.std.proofs.Common.{refl}
use Rattle.edit_roll.specs.Rolling.{roll_track}
use Rattle.edit_splice.specs.Standing.{StaysGood}
use Rattle.edit_splice.proofs.OneTrack.{is-one, one-answers, one-each}
use Rattle.edit_splice.proofs.Standing.{each-good}
use Rattle.edit_roll.proofs.rolling.roll.Goals as goal

pub returns-clause-answers : goal.returns-clause-answers
returns-clause-answers g c =
    let o = is-one c.args.call.now.track c.args.named.now.items c.index_mut.result.now c.requires.named c.index_mut.ensures.value in
    let s : StaysGood c.args.table.now c.index_mut.result.now c.roll_track.new.track = c.roll_track.ensures.good in
    one-answers c.args.call.now.track (roll_track c.args.table.now c.args.call.now) c.args.named.now.items _ c.index_mut.result.now c.roll_track.new.track c.roll_track.result o refl s.number c.roll_track.ensures.answers

pub returns-clause-good : goal.returns-clause-good
returns-clause-good g c =
    let o = is-one c.args.call.now.track c.args.named.now.items c.index_mut.result.now c.requires.named c.index_mut.ensures.value in
    let s : StaysGood c.args.table.now c.index_mut.result.now c.roll_track.new.track = c.roll_track.ensures.good in
    each-good c.args.table.now c.args.named.now.items _ (one-each c.args.table.now c.args.call.now.track c.args.named.now.items _ c.index_mut.result.now c.roll_track.new.track o refl s)
