use Rattle.std.proofs.Common.{ℕ, List, [], length, map, subst, sym, ap, ◌∙◌}
use Rattle.journal_file.specs.Standing.{JournalState, StandsFor}
use Rattle.journal_text.specs.Journals.{entry_text}
use Rattle.command_files.specs.Ports.{disk_told}
use Rattle.station_sessions.specs.Rooms.{History}
use Rattle.served_rooms.specs.Seated.{AreOrigins}
use Rattle.stored_rooms.specs.Inside.{DeskEnds, IsOpenFile}
use Rattle.stored_rooms.proofs.KeptPasses.{are_origins, can_begin, taken_good, taken_texts}
use Rattle.stored_rooms.proofs.remaking.serve_filed.Goals as goal

pub new-desk-requires-clause-stands : goal.new-desk-requires-clause-stands
new-desk-requires-clause-stands g c =
    let e = c.requires.entries in
    let texts = taken_texts (length c.args.remade.passes.items) [] e.0 c.args.remade.entries.items e.1.taken in
    subst (λ (lines : List (List ℕ)). StandsFor g.D.Disk.course c.args.counted.file lines) (texts ∙ ap (map entry_text) (sym c.requires.kept)) e.2

pub serve_desk-requires-clause-passes : goal.serve_desk-requires-clause-passes
serve_desk-requires-clause-passes g c κs within =
    let e = c.requires.entries in
    can_begin c.args.room c.args.remade.entries.items (taken_good (length c.args.remade.passes.items) [] e.0 c.args.remade.entries.items e.1.taken) c.args.remade.passes.items c.requires.passes

pub returns : goal.returns
returns g c = λ o name before records of is.
    let e = c.requires.entries in
    let kept = c.args.remade.entries.items in
    let passes = c.args.remade.passes.items in
    let origins = are_origins c.args.room kept (taken_good (length passes) [] e.0 kept e.1.taken) passes c.requires.passes in
    let D = g.D.Disk in
    subst (λ (es : History). DeskEnds o es (length passes) c.args.place.now.address.now name records before (disk_told D.file D.course D.faults c.serve_desk.result.1)
    (g.H.Hall.told c.args.hall.now) (g.H.Hall.told c.serve_desk.new.hall) c.serve_desk.result.0) c.requires.kept
    (c.serve_desk.ensures o name before records of (subst (λ (es : History). AreOrigins es passes) (sym c.requires.kept) origins)
    (subst (λ (f : JournalState g.row.D.Denot). IsOpenFile D.course D.faults name before f records) (sym (ap (λ d. d.file) c.new-desk.ensures)) is))
