use Rattle.std.proofs.Common.{◌≡◌, ◌<◌, length, refl, sym, subst, arith}
use Rattle.std.proofs.lemmas.Option.{slice_get_read}
use Rattle.kept_rooms.proofs.Making.{last_there, made_more}
use Rattle.kept_rooms.proofs.remaking.Remaking.make.Goals as goal

pub make-requires-clause-station : goal.make-requires-clause-station
make-requires-clause-station g c =
    let passes = c.args.self.now.passes.items in
    let at = slice_get_read passes (length passes) c.args.entry.station c.index_mut.result.now refl c.requires.station c.index_mut.ensures.value in
    let own = c.requires.made.each c.args.entry.station c.index_mut.result.now at in
    rw c.in_ok-copy.ensures (sym own.number_is)

pub make-requires-clause-number : goal.make-requires-clause-number
make-requires-clause-number g c =
    let passes = c.args.self.now.passes.items in
    let at = slice_get_read passes (length passes) c.args.entry.station c.index_mut.result.now refl c.requires.station c.index_mut.ensures.value in
    let own = c.requires.made.each c.args.entry.station c.index_mut.result.now at in
    let last = last_there c.args.self.now.entries.items c.args.entry.station c.index_mut.result.now own in
    rw c.in_ok-copy.ensures (subst (λ n. n < c.args.entry.number) (sym last) c.requires.above)

pub returns-clause-made : goal.returns-clause-made
returns-clause-made g c =
    let entries = c.args.self.now.entries.items in
    let passes = c.args.self.now.passes.items in
    let at = slice_get_read passes (length passes) c.args.entry.station c.index_mut.result.now refl c.requires.station c.index_mut.ensures.value in
    let place : c.len-place.result ≡ length entries = omega (arith, c.len-place.ensures, c.args.self.now.entries.ok.0) in
    let made = rw (c.in_ok-copy.ensures, place) at c.in_ok-make.ensures.made in
    rw (c.in_ok-push.ensures.items, c.note.ensures)
    (made_more entries c.args.self.now.lasts passes c.args.entry c.index_mut.result.now c.make.new.self c.requires.made (omega (arith, c.requires.station, c.requires.few)) c.requires.above at made)
