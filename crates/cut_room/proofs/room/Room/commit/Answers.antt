use Rattle.std.proofs.Common.{◌+◌, ◌<◌, ◌++◌, [], ◌∷◌, map, refl, sym, ap, ◌∙◌, subst, arith, length}
use Rattle.std.proofs.lemmas.List.{length-map}
use Rattle.room_core.specs.History.{most_entries}
use Rattle.room_core.specs.Parts.{AscendBetween}
use Rattle.edit_journal.specs.declared.name.Name.TheVariants.{Station}
use Rattle.edit_journal.specs.Seats.{In}
use Rattle.history_points.proofs.NamedCalls.{good-length}
use Rattle.cut_room.proofs.Gathering.{has_names, last_there}
use Rattle.cut_room.proofs.Passes.{at_point, behind_point, committed, held_parts, is_some, no_room}
use Rattle.cut_room.proofs.Putting.{applies_there, good_for, history_more, homes_back, stand_more}
use Rattle.cut_room.proofs.room.Room.commit.Goals as goal

pub append-appended-requires-clause-names : goal.append-appended-requires-clause-names
append-appended-requires-clause-names g c =
    let s = c.self.inside in
    let e = c.args.entry in
    let all = c.gather.ensures.gathered in
    let m = g.O.PartObject.meaning s.object in
    let names = rw (← c.self.view_is) at c.requires.numbers in
    let have = c.gather.new.turn.journal.names in (
      (s.object, s.opening.items),
      all.opening_is ∙ c.self.invariant.0,
      λ x t. has_names m.names e c.args.held.numbers have names all.has_parts (subst (λ k. In (Station k) have) (sym c.requires.station) all.has_pass) x t,
    )

pub append-appended-requires-clause-above : goal.append-appended-requires-clause-above
append-appended-requires-clause-above g c =
    let s = c.self.inside in
    let all = c.gather.ensures.gathered in
    last_there g.O.PartObject.meaning g.J.Naming.opening (s.object, s.opening.items) c.gather.new.turn.journal.entries c.args.pass c.args.entry
    c.self.invariant.0 all.pass_stands c.requires.station c.requires.number

pub append-appended-requires-clause-applies : goal.append-appended-requires-clause-applies
append-appended-requires-clause-applies g c =
    let s = c.self.inside in
    let h = c.args.held in
    let e = c.args.entry in
    let all = c.gather.ensures.gathered in
    let m = g.O.PartObject.meaning s.object in
    let entries = c.gather.new.turn.journal.entries in
    let comes = held_parts g.O.PartObject.meaning g.O.PartObject.opens g.J.Naming.opening (s.object, s.opening.items) entries h.numbers h.parts h.versions
    c.self.invariant.0 all.journal all.parts_stand c.requires.homes.parts c.requires.homes.versions in
    let there = applies_there m s.opening.items entries e h.numbers h.parts c.args.parts.items c.args.done comes
    (rw (← c.self.view_is) at c.requires.named) (rw (← c.self.view_is) at c.requires.numbers) (rw (← c.self.view_is) at c.requires.applies) in
    ((s.object, s.opening.items), all.opening_is ∙ c.self.invariant.0, is_some _ _ there.2)

pub give_back-pass-requires-clause-parts : goal.give_back-pass-requires-clause-parts
give_back-pass-requires-clause-parts g c = rw (c.append-appended.ensures.same.0, c.gather.ensures.seats) c.gather.ensures.gathered.has_parts

pub give_back-pass-requires-clause-station : goal.give_back-pass-requires-clause-station
give_back-pass-requires-clause-station g c = rw (c.append-appended.ensures.same.0, c.station-station.ensures.number) c.gather.ensures.gathered.has_pass

pub give_back-pass-requires-clause-tokens : goal.give_back-pass-requires-clause-tokens
give_back-pass-requires-clause-tokens g c = rw (c.append-appended.ensures.tokens, c.gather.ensures.seats) c.gather.ensures.gathered.tokens

pub settle-requires-clause-homes : goal.settle-requires-clause-homes
settle-requires-clause-homes g c =
    let s = c.self.inside in
    let h = c.args.held in
    let e = c.args.entry in
    let homes = c.requires.homes in
    let all = c.gather.ensures.gathered in
    let m = g.O.PartObject.meaning s.object in
    let journal = c.gather.new.turn.journal in
    let none = rw (← c.self.view_is) at c.requires.named in
    let names = rw (← c.self.view_is) at c.requires.numbers in
    let comes = held_parts g.O.PartObject.meaning g.O.PartObject.opens g.J.Naming.opening (s.object, s.opening.items) journal.entries h.numbers h.parts h.versions
    c.self.invariant.0 all.journal all.parts_stand homes.parts homes.versions in
    let there = applies_there m s.opening.items journal.entries e h.numbers h.parts c.args.parts.items c.args.done comes none names (rw (← c.self.view_is) at c.requires.applies) in
    let added = rw c.in-At.is at c.append-appended.ensures.appends in
    let above = last_there g.O.PartObject.meaning g.J.Naming.opening (s.object, s.opening.items) journal.entries c.args.pass e c.self.invariant.0 all.pass_stands c.requires.station c.requires.number in
    let few : length journal.entries < most_entries = omega (arith, added.1, added.2) in
    let history = history_more g.O.PartObject.meaning g.O.PartObject.opens g.J.Naming.opening (s.object, s.opening.items) journal.entries e _ c.self.invariant.0 c.self.invariant.1 all.journal there.2 few above in
    let law = g.met.O.PartObject.named s.object e.call none in
    let ascend = subst (λ l. AscendBetween 0 (g.O.PartObject.count s.object) l) (sym names) law.ascend in
    let stand = stand_more g.O.PartObject.meaning g.J.Naming.opening (s.object, s.opening.items) journal.entries e 0 (g.O.PartObject.count s.object) h.numbers h.parts c.args.parts.items there.0 h.versions
    c.self.invariant.0 ascend names homes.parts all.parts_stand there.1 there.2 homes.versions in
    let back = c.give_back-pass.ensures in
    let same = c.gather.ensures.seats in
    let parts = good-length (g.O.PartObject.good s.object) h.numbers c.args.parts.items (rw (← c.self.view_is) at c.requires.good_now) in
    rw (back.same.0, back.same.2, same)
    (homes_back g.O.PartObject.meaning g.O.PartObject.opens g.J.Naming.opening c.append-appended.new.turn.journal.opening (journal.entries ++ e ∷ []) c.append-appended.new.turn.journal.entries
    h.numbers c.args.parts.items (map (λ v. v + 1) h.versions) c.give_back-pass.new.held.seats parts (length-map h.versions (λ v. v + 1) ∙ homes.versions) stand history
    (back.seats ∙ ap (λ h. h.numbers) same) (c.append-appended.ensures.same.1 ∙ all.opening_is) (ap (λ j. j.entries) added.0) back.know)

pub settle-requires-clause-good : goal.settle-requires-clause-good
settle-requires-clause-good g c =
    let s = c.self.inside in
    rw (c.give_back-pass.ensures.same.0, c.gather.ensures.seats)
    (good_for g.O.PartObject.good g.J.Naming.opening (s.object, s.opening.items) c.args.held.numbers c.args.parts.items c.self.invariant.0 (rw (← c.self.view_is) at c.requires.good_now))

pub release-requires-in-Full-clause-homes : goal.release-requires-in-Full-clause-homes
release-requires-in-Full-clause-homes g c =
    let h = c.args.held in
    let all = c.gather.ensures.gathered in
    let back = c.give_back-pass.ensures in
    let same = c.gather.ensures.seats in
    let journal = c.gather.new.turn.journal in
    let kept = rw c.in-Full.is at c.append-appended.ensures.appends in
    rw (back.same.0, back.same.1, back.same.2, same)
    (homes_back g.O.PartObject.meaning g.O.PartObject.opens g.J.Naming.opening c.append-appended.new.turn.journal.opening journal.entries c.append-appended.new.turn.journal.entries
    h.numbers h.parts h.versions c.give_back-pass.new.held.seats c.requires.homes.parts c.requires.homes.versions all.parts_stand all.journal
    (back.seats ∙ ap (λ h. h.numbers) same) (c.append-appended.ensures.same.1 ∙ all.opening_is) (ap (λ j. j.entries) kept.0) back.know)

pub release-requires-in-Full-clause-good : goal.release-requires-in-Full-clause-good
release-requires-in-Full-clause-good g c = rw (c.give_back-pass.ensures.same.0, c.give_back-pass.ensures.same.1, c.gather.ensures.seats) c.requires.good

pub release-requires-in-Memory-clause-homes : goal.release-requires-in-Memory-clause-homes
release-requires-in-Memory-clause-homes g c =
    let h = c.args.held in
    let all = c.gather.ensures.gathered in
    let back = c.give_back-pass.ensures in
    let same = c.gather.ensures.seats in
    let journal = c.gather.new.turn.journal in
    let kept = rw c.in-Memory.is at c.append-appended.ensures.appends in
    rw (back.same.0, back.same.1, back.same.2, same)
    (homes_back g.O.PartObject.meaning g.O.PartObject.opens g.J.Naming.opening c.append-appended.new.turn.journal.opening journal.entries c.append-appended.new.turn.journal.entries
    h.numbers h.parts h.versions c.give_back-pass.new.held.seats c.requires.homes.parts c.requires.homes.versions all.parts_stand all.journal
    (back.seats ∙ ap (λ h. h.numbers) same) (c.append-appended.ensures.same.1 ∙ all.opening_is) (ap (λ j. j.entries) kept) back.know)

pub release-requires-in-Memory-clause-good : goal.release-requires-in-Memory-clause-good
release-requires-in-Memory-clause-good g c = rw (c.give_back-pass.ensures.same.0, c.give_back-pass.ensures.same.1, c.gather.ensures.seats) c.requires.good

pub returns-in-At-clause-edited : goal.returns-in-At-clause-edited
returns-in-At-clause-edited g c =
    let s = c.self.inside in
    let h = c.args.held in
    let e = c.args.entry in
    let all = c.gather.ensures.gathered in
    let journal = c.gather.new.turn.journal in
    let added = rw c.in-At.is at c.append-appended.ensures.appends in
    let back = c.give_back-pass.ensures.pass in
    let comes = held_parts g.O.PartObject.meaning g.O.PartObject.opens g.J.Naming.opening (s.object, s.opening.items) journal.entries h.numbers h.parts h.versions
    c.self.invariant.0 all.journal all.parts_stand c.requires.homes.parts c.requires.homes.versions in
    let above = last_there g.O.PartObject.meaning g.J.Naming.opening (s.object, s.opening.items) journal.entries c.args.pass e c.self.invariant.0 all.pass_stands c.requires.station c.requires.number in
    rw (← c.self.view_is) (committed g.O.PartObject.meaning g.O.PartObject.opens g.J.Naming.opening (s.object, s.opening.items) journal.entries e c.args.pass c.give_back-pass.result c.in-At.point
    h.numbers h.parts c.args.parts.items c.args.done c.self.invariant.0 all.journal all.pass_stands comes
    (rw (← c.self.view_is) at c.requires.named) (rw (← c.self.view_is) at c.requires.numbers) (rw (← c.self.view_is) at c.requires.applies)
    c.requires.station above added.1 added.2 (back.0 ∙ c.station-station.ensures.number)
    (back.1 ∙ (c.append-appended.ensures.same.1 ∙ (all.opening_is ∙ sym c.station-station.ensures.opening)))
    (back.2 ∙ ap (λ j. j.entries) added.0))

pub returns-in-Full-clause-edited : goal.returns-in-Full-clause-edited
returns-in-Full-clause-edited g c =
    let s = c.self.inside in
    let h = c.args.held in
    let e = c.args.entry in
    let all = c.gather.ensures.gathered in
    let journal = c.gather.new.turn.journal in
    let kept = rw c.in-Full.is at c.append-appended.ensures.appends in
    let back = c.give_back-pass.ensures.pass in
    let comes = held_parts g.O.PartObject.meaning g.O.PartObject.opens g.J.Naming.opening (s.object, s.opening.items) journal.entries h.numbers h.parts h.versions
    c.self.invariant.0 all.journal all.parts_stand c.requires.homes.parts c.requires.homes.versions in
    let entries = back.2 ∙ ap (λ j. j.entries) kept.0 in
    let at = at_point g.O.PartObject.meaning g.O.PartObject.opens g.J.Naming.opening (s.object, s.opening.items) journal.entries c.args.pass c.give_back-pass.result 100000
    c.self.invariant.0 all.journal all.pass_stands (back.0 ∙ c.station-station.ensures.number)
    (back.1 ∙ (c.append-appended.ensures.same.1 ∙ (all.opening_is ∙ sym c.station-station.ensures.opening))) entries (sym kept.1) in
    rw (← c.self.view_is) (no_room (g.O.PartObject.meaning s.object) s.opening.items e.call c.args.pass c.give_back-pass.result 100000 h.numbers h.parts c.args.parts.items c.args.done at
    (rw entries comes) (rw (← c.self.view_is) at c.requires.named) (rw (← c.self.view_is) at c.requires.numbers) (rw (← c.self.view_is) at c.requires.applies) refl)

pub returns-in-Memory-clause-edited : goal.returns-in-Memory-clause-edited
returns-in-Memory-clause-edited g c =
    let s = c.self.inside in
    let all = c.gather.ensures.gathered in
    let journal = c.gather.new.turn.journal in
    let kept = rw c.in-Memory.is at c.append-appended.ensures.appends in
    let back = c.give_back-pass.ensures.pass in
    let at = at_point g.O.PartObject.meaning g.O.PartObject.opens g.J.Naming.opening (s.object, s.opening.items) journal.entries c.args.pass c.give_back-pass.result (length journal.entries)
    c.self.invariant.0 all.journal all.pass_stands (back.0 ∙ c.station-station.ensures.number)
    (back.1 ∙ (c.append-appended.ensures.same.1 ∙ (all.opening_is ∙ sym c.station-station.ensures.opening))) (back.2 ∙ ap (λ j. j.entries) kept) refl in
    rw (← c.self.view_is) (at.stays, rw (← c.self.view_is) at c.requires.named)

pub returns-in-At-clause-parts : goal.returns-in-At-clause-parts
returns-in-At-clause-parts g c =
    let s = c.self.inside in
    let h = c.args.held in
    let all = c.gather.ensures.gathered in
    let journal = c.gather.new.turn.journal in
    let comes = held_parts g.O.PartObject.meaning g.O.PartObject.opens g.J.Naming.opening (s.object, s.opening.items) journal.entries h.numbers h.parts h.versions
    c.self.invariant.0 all.journal all.parts_stand c.requires.homes.parts c.requires.homes.versions in
    let added = rw c.in-At.is at c.append-appended.ensures.appends in
    let entries = c.give_back-pass.ensures.pass.2 ∙ ap (λ j. j.entries) added.0 in
    rw (← c.self.view_is, behind_point journal.entries c.give_back-pass.result.entries c.args.entry c.in-At.point entries added.1) comes

pub returns-in-Full-clause-parts : goal.returns-in-Full-clause-parts
returns-in-Full-clause-parts g c =
    let s = c.self.inside in
    let h = c.args.held in
    let all = c.gather.ensures.gathered in
    let journal = c.gather.new.turn.journal in
    let comes = held_parts g.O.PartObject.meaning g.O.PartObject.opens g.J.Naming.opening (s.object, s.opening.items) journal.entries h.numbers h.parts h.versions
    c.self.invariant.0 all.journal all.parts_stand c.requires.homes.parts c.requires.homes.versions in
    let kept = rw c.in-Full.is at c.append-appended.ensures.appends in
    rw (← c.self.view_is, c.give_back-pass.ensures.pass.2 ∙ ap (λ j. j.entries) kept.0) comes

pub returns-in-Memory-clause-parts : goal.returns-in-Memory-clause-parts
returns-in-Memory-clause-parts g c =
    let s = c.self.inside in
    let h = c.args.held in
    let all = c.gather.ensures.gathered in
    let journal = c.gather.new.turn.journal in
    let comes = held_parts g.O.PartObject.meaning g.O.PartObject.opens g.J.Naming.opening (s.object, s.opening.items) journal.entries h.numbers h.parts h.versions
    c.self.invariant.0 all.journal all.parts_stand c.requires.homes.parts c.requires.homes.versions in
    let kept = rw c.in-Memory.is at c.append-appended.ensures.appends in
    rw (← c.self.view_is, c.give_back-pass.ensures.pass.2 ∙ ap (λ j. j.entries) kept) comes
