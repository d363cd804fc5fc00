use Rattle.std.proofs.Common.{inl}
use Rattle.command_files.proofs.Unchanged.{read_then}
use Rattle.audit_command.proofs.auditing.audit_opened.Goals as goal

pub audit_entries-requires-clause-text : goal.audit_entries-requires-clause-text
audit_entries-requires-clause-text g c = rw c.deref.ensures.value c.in-Ok.ensures.opens.3.0

pub returns-in-Ok : goal.returns-in-Ok
returns-in-Ok g c =
    let before = g.F.Files.told c.args.files.now in
    let between = g.F.Files.told c.open_journal.new.files in
    let after = g.F.Files.told c.audit_entries.new.files in
    let ended = rw c.deref.ensures.value at c.audit_entries.ensures in (
      read_then before between after c.in-Ok.ensures.same ended.0,
      inl (record {
        entries = c.in-Ok.entries.items;
        holds = c.in-Ok.ensures.opens;
        between = between;
        quiet = (c.in-Ok.ensures.same, c.in-Ok.ensures.counts);
        ends = ended;
      }),
    )
