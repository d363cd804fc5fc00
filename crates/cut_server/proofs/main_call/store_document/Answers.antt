use Rattle.std.proofs.Common.{inl, inr, refl}
use Rattle.command_files.specs.Ports.{change, output_told}
use Rattle.room_files.specs.Files.{FitsIn}
use Rattle.command_files.specs.declared.documents.TheConstants.{MAX_DOCUMENT}
use Rattle.command_files.specs.Documents.{Describes, IsDocumentRefused, document_line}
use Rattle.command_files.proofs.Endings.{unopened}
use Rattle.cut_server.proofs.main_call.store_document.Goals as goal

pub returns-in-Ok : goal.returns-in-Ok
returns-in-Ok g c = (
  c.in-Ok.ensures.same,
  inl (record { opening = c.in-Ok.opening; described = c.in-Ok.ensures.opens; quiet = c.in-Ok.ensures.counts; ends = c.store_opened.ensures }),
)

pub returns-in-Err : goal.returns-in-Err
returns-in-Err g c =
    let before = g.F.Files.told c.args.files.now in
    let after = g.F.Files.told c.open_document.new.files in
    let content = before.file c.args.name.now in (
      c.in-Err.ensures.same,
      inr (
        refl,
        refl,
        unopened (Describes c.args.counting.now content) (IsDocumentRefused c.args.counting.now content) (FitsIn content MAX_DOCUMENT) document_line before after
            (change (output_told g.K.Sink.taken g.K.Sink.write_faults) c.args.output.now c.end_unopened.new.output) c.in-Err.fault c.end_unopened.result c.in-Err.ensures.opens
            c.in-Err.ensures.counts c.end_unopened.ensures,
      ),
    )
