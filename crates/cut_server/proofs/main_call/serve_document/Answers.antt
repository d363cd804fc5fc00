use Rattle.std.proofs.Common.{inl, inr, refl}
use Rattle.command_files.specs.Ports.{change, output_told}
use Rattle.room_files.specs.Files.{FitsIn}
use Rattle.command_files.specs.declared.documents.TheConstants.{MAX_DOCUMENT}
use Rattle.command_files.specs.Documents.{Describes, IsDocumentRefused, document_line}
use Rattle.command_files.proofs.Endings.{unopened}
use Rattle.served_rooms.proofs.HallRuns.{hall_ends}
use Rattle.cut_server.proofs.main_call.serve_document.Goals as goal

pub returns-in-Ok : goal.returns-in-Ok
returns-in-Ok g c =
    let before = g.F.Files.told c.args.files.now in
    let mid = g.F.Files.told c.open_document.new.files in
    let after = g.F.Files.told c.serve_opened.new.files in
    inl (record {
      opening = c.in-Ok.opening;
      described = c.in-Ok.ensures.opens;
      unwritten = refl;
      ends = hall_ends before mid after c.in-Ok.ensures.same c.in-Ok.ensures.counts c.in-Ok.opening _ _ _ _ _ c.serve_opened.result c.serve_opened.ensures;
    })

pub returns-in-Err : goal.returns-in-Err
returns-in-Err g c =
    let before = g.F.Files.told c.args.files.now in
    let after = g.F.Files.told c.open_document.new.files in
    let content = before.file c.args.name.now in
    inr (
      refl,
      c.in-Err.ensures.same,
      unopened (Describes c.args.counting.now content) (IsDocumentRefused c.args.counting.now content) (FitsIn content MAX_DOCUMENT) document_line before after
          (change (output_told g.K.Sink.taken g.K.Sink.write_faults) c.args.output.now c.end_unopened.new.output) c.in-Err.fault c.end_unopened.result c.in-Err.ensures.opens
          c.in-Err.ensures.counts c.end_unopened.ensures,
    )
