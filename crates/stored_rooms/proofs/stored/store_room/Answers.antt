use Rattle.std.proofs.Common.{◌≡◌, ℕ, List, length, subst, sym, ap, ◌∙◌, refl, arith}
use Rattle.cut_steps.proofs.Left.{can_open}
use Rattle.cut_steps.specs.CutSteps.{KeptTrack, stepping}
use Rattle.take_back.specs.Parts.{CanOpen}
use Rattle.composables.specs.declared.media.Table.{Table}
use Rattle.edit_apply.specs.RoomTracks.{IsOpening}
use Rattle.edit_journal.specs.Turns.{AreFresh}
use Rattle.kept_rooms.specs.Kept.{AreKept, IsKeptFault}
use Rattle.command_files.specs.Ports.{change, disk_told, output_told}
use Rattle.station_sessions.specs.Rooms.{Setting}
use Rattle.served_rooms.proofs.Seating.{fresh_count}
use Rattle.stored_rooms.specs.Inside.{DeskEnds}
use Rattle.stored_rooms.proofs.Files.{unmade_ends}
use Rattle.stored_rooms.proofs.Ends.{goes_on}
use Rattle.stored_rooms.proofs.stored.store_room.Goals as goal

pub without_reader-passes-requires-clause-fresh : goal.without_reader-passes-requires-clause-fresh
without_reader-passes-requires-clause-fresh g c =
    subst (λ (n : ℕ). AreFresh g.J.Naming.opening n c.args.passes.items) (fresh_count c.args.passes.items 0 c.args.room.stations c.requires.passes.0) c.requires.passes

pub without_reader-passes-requires-clause-some : goal.without_reader-passes-requires-clause-some
without_reader-passes-requires-clause-some g c = let n = fresh_count c.args.passes.items 0 c.args.room.stations c.requires.passes.0 in omega (arith, n, c.requires.stations)

pub make_again-requires-clause-opens : goal.make_again-requires-clause-opens
make_again-requires-clause-opens g c =
    let b = c.requires.begins in
    let table = ap (λ (s : Setting). s.table) b.1.setting in
    subst (λ (x : Table × List KeptTrack). CanOpen (IsOpening x.0) x.1) (λ i. (sym table i, sym b.1.tracks i)) (can_open b.0.table b.0.tracks b.1.opens)

pub make_again-requires-clause-stations : goal.make_again-requires-clause-stations
make_again-requires-clause-stations g c =
    let n = fresh_count c.args.passes.items 0 c.args.room.stations c.requires.passes.0 in
    omega (arith, n, c.requires.stations, c.requires.few, c.without_reader-passes.ensures.count)

pub make_again-requires-clause-within : goal.make_again-requires-clause-within
make_again-requires-clause-within g c = rw c.deref.ensures.value (omega (arith, c.requires.stands.0, c.requires.most))

pub serve_remade-requires-clause-stations : goal.serve_remade-requires-clause-stations
serve_remade-requires-clause-stations g c κs within =
    let n = fresh_count c.args.passes.items 0 c.args.room.stations c.requires.passes.0 in
    omega (arith, n, c.in-Ok.ensures.stations, c.without_reader-passes.ensures.count)

pub serve_remade-requires-clause-few : goal.serve_remade-requires-clause-few
serve_remade-requires-clause-few g c κs within =
    let n = fresh_count c.args.passes.items 0 c.args.room.stations c.requires.passes.0 in
    omega (arith, n, c.in-Ok.ensures.stations, c.without_reader-passes.ensures.count, c.requires.stations, c.requires.few)

pub serve_remade-requires-clause-entries : goal.serve_remade-requires-clause-entries
serve_remade-requires-clause-entries g c κs within = (
  c.args.opened.records.items,
  subst (λ (x : ℕ × List (List ℕ)). AreKept (stepping c.args.room.object.object.table) c.args.room.parts x.0 x.1 c.in-Ok.remade.entries.items)
      (λ i. (sym c.in-Ok.ensures.stations i, c.deref.ensures.value i)) c.in-Ok.ensures.entries,
  c.requires.stands,
)

pub returns-in-Ok : goal.returns-in-Ok
returns-in-Ok g c = λ o name before of is.
    let D = g.D.Disk in
    let n = fresh_count c.args.passes.items 0 c.args.room.stations c.requires.passes.0 in
    let place = c.args.place.now in
    let all : length c.without_reader-passes.result.0.items ≡ place.stations = omega (arith, n, c.without_reader-passes.ensures.count, c.requires.stations) in
    let records = c.args.opened.records.items in
    let kept = c.in-Ok.remade.entries.items in
    let after = disk_told D.file D.course D.faults c.serve_remade.result.1 in
    let old = g.H.Hall.told c.args.hall.now in
    let new = g.H.Hall.told c.serve_remade.new.hall in
    let out = c.args.output.now in
    let are : AreKept (stepping c.args.room.object.object.table) c.args.room.parts place.stations records kept =
    subst (λ (x : ℕ × List (List ℕ)). AreKept (stepping c.args.room.object.object.table) c.args.room.parts x.0 x.1 kept) (λ i. (all i, c.deref.ensures.value i)) c.in-Ok.ensures.entries in
    let ends : DeskEnds o kept place.stations place.address.now name records before after old new c.serve_remade.result.0 =
    subst (λ (k : ℕ). DeskEnds o kept k place.address.now name records before after old new c.serve_remade.result.0) (c.in-Ok.ensures.stations ∙ all)
    (c.serve_remade.ensures o name before records of is) in
    goes_on o place.stations place.address.now name (change (output_told g.K.Sink.taken g.K.Sink.write_faults) out out) (change g.H.Hall.told c.args.hall.now c.serve_remade.new.hall) before after
    c.args.room c.args.setting.counting c.args.setting.start kept records c.serve_remade.result.0 of are refl ends

pub returns-in-Err : goal.returns-in-Err
returns-in-Err g c = λ o name before of is.
    let D = g.D.Disk in
    let n = fresh_count c.args.passes.items 0 c.args.room.stations c.requires.passes.0 in
    let place = c.args.place.now in
    let all : length c.without_reader-passes.result.0.items ≡ place.stations = omega (arith, n, c.without_reader-passes.ensures.count, c.requires.stations) in
    let records = c.args.opened.records.items in
    let fault : IsKeptFault (stepping c.args.room.object.object.table) c.args.room.parts place.stations records c.in-Err.fault =
    subst (λ (x : ℕ × List (List ℕ)). IsKeptFault (stepping c.args.room.object.object.table) c.args.room.parts x.0 x.1 c.in-Err.fault) (λ i. (all i, c.deref.ensures.value i)) c.in-Err.ensures.refused in
    unmade_ends o place.stations place.address.now name (change (output_told g.K.Sink.taken g.K.Sink.write_faults) c.args.output.now c.end_unmade.new.output)
    (change g.H.Hall.told c.args.hall.now c.args.hall.now) before (disk_told D.file D.course D.faults c.close.result) refl D.course D.faults c.args.opened.file records is (ap D.course (sym c.close.ensures))
    c.args.room c.args.setting.counting c.args.setting.start of c.in-Err.fault c.end_unmade.result fault c.end_unmade.ensures
