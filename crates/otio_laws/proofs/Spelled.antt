-- What is written of a sound cut is spelled by the grammar, and so it is read as a tree.
use Rattle.std.proofs.Common.{◌≡◌, ◌*◌, ◌^◌, ◌<◌, ◌≤◌, length, refl, sym, arith}
use Rattle.timecode12.specs.Numbers.{numbers_a_second, Counted}
use Rattle.timecode12.specs.declared.rate.SequenceRate.{SequenceRate}
use Rattle.timecode12.specs.declared.rate.SequenceRate.TheVariants.{F23976, F24, F25, F2997, F30}
use Rattle.timecode12.specs.Labels.{day_of}
use Rattle.timecode12.specs.Places.{hour}
use Rattle.timecode12.proofs.Places.{dropped_by}
use Rattle.timecode12.proofs.Told.{day_is}
use Rattle.json_tree.proofs.WriteLaws.{spelled_again}
use Rattle.otio_laws.specs.SoundCuts.{IsSoundCut}
use Rattle.otio_json.specs.declared.opening.Opening.{Opening}
use Rattle.otio_laws.specs.Meanings.{text_of_cut, tree_of_cut, WrittenIsSpelled}
use Rattle.otio_laws.proofs.CutTexts.{timeline_spelled}
use Rattle.otio_laws.proofs.CutLawful.{cut_lawful}

numbers_few : (r : SequenceRate) → numbers_a_second r ≤ 30
numbers_few F23976 = omega arith
numbers_few F24 = omega arith
numbers_few F25 = omega arith
numbers_few F2997 = omega arith
numbers_few F30 = omega arith

pub day_short : (c : Counted) → length (day_of c) ≤ 2592000
day_short c =
    let n = numbers_a_second c.rate in
    let d = dropped_by c.drop_frame in
    let e : 24 * hour n d ≡ length (day_of c) = day_is c n d (24 * hour n d) refl refl refl in
    omega (arith, e, numbers_few c.rate)

pub start_small : (o : Opening) → IsSoundCut o → o.start < 2592000
start_small o sound = omega (arith, sound.start, day_short o.counting)

pub written_is_spelled : WrittenIsSpelled
written_is_spelled o sound texts =
    let small : o.start < 10 ^ 18 = omega (arith, start_small o sound) in
    let lawful = cut_lawful o sound texts small in
    spelled_again (tree_of_cut o) 64 (text_of_cut o) lawful.writable lawful.sound (sym (timeline_spelled o sound small))
