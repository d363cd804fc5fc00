use Rattle.std.proofs.Common.{inl}
use Rattle.command_files.proofs.Unchanged.{read_then}
use Rattle.audit_command.proofs.auditing.audit.Goals as goal

pub returns-in-Ok : goal.returns-in-Ok
returns-in-Ok g c =
    let before = g.F.Files.told c.args.files.now in
    let between = g.F.Files.told c.open_document.new.files in
    let after = g.F.Files.told c.audit_opened.new.files in record {
      ends = (
        read_then before between after c.in-Ok.ensures.same c.audit_opened.ensures.0,
        inl (record {
          opening = c.in-Ok.opening;
          described = c.in-Ok.ensures.opens;
          between = between;
          quiet = (c.in-Ok.ensures.same, c.in-Ok.ensures.counts);
          ends = c.audit_opened.ensures;
        }),
      );
    }
