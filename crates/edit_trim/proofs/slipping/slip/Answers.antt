use Rattle.std.proofs.Common.{◌≡◌, sym, ap, ◌∙◌, arith, None, length}
use Rattle.std.proofs.lemmas.List.Sums.{get_or-le-sum_by}
use Rattle.composables.specs.OwnTracks.{track_numbered}
use Rattle.composables.specs.Sizes.{size_of}
use Rattle.edit_splice.proofs.Bridging.{named-found}
use Rattle.edit_splice.proofs.Standing.{each-good, each-numbers}
use Rattle.edit_trim.proofs.RippleTracks.{no_track}
use Rattle.edit_trim.proofs.slipping.slip.Goals as goal

pub unreachable-requires : goal.unreachable-requires
unreachable-requires g c =
    let found : track_numbered c.args.call.now.track c.args.named.now.items ≡ None = ap (track_numbered c.args.call.now.track) (sym c.deref.ensures.value) ∙ c.in-None.ensures.found in
    named-found c.args.call.now.track c.args.call.now.tracks c.args.named.now.items c.requires.named c.requires.own found

pub returns-clause-named : goal.returns-clause-named
returns-clause-named g c = each-numbers c.args.table.now c.args.named.now.items c.slip_at.new.named.items c.slip_at.ensures.good ∙ c.requires.named

pub returns-clause-good : goal.returns-clause-good
returns-clause-good g c = each-good c.args.table.now c.args.named.now.items c.slip_at.new.named.items c.slip_at.ensures.good

pub returns-clause-most : goal.returns-clause-most
returns-clause-most g c =
    omega (arith, c.slip_at.ensures.most, c.tick.ensures, get_or-le-sum_by size_of c.args.named.now.items c.in-Some.index no_track (omega (arith, c.in-Some.ensures.within, ap length c.deref.ensures.value)))
