use Rattle.std.proofs.Common.{arith, ap, length, map}
use Rattle.std.proofs.lemmas.List.{length-map}
use Rattle.command_words.specs.Records.{named_by}
use Rattle.audit_command.specs.Stations.{recording_told}
use Rattle.audit_command.proofs.ReadMore.{read_length}
use Rattle.audit_command.proofs.auditing.audit_legal.Goals as goal

pub end_audit-requires-clause-few : goal.end_audit-requires-clause-few
end_audit-requires-clause-few g c =
    let same = read_length (g.F.Files.told c.args.files.now) (g.F.Files.told c.read_records.new.files) (map named_by c.args.records.now)
    (map recording_told c.in-Ok.texts.items) c.in-Ok.ensures.reads in
    omega (
      arith,
      same,
      length-map c.args.records.now named_by,
      length-map c.in-Ok.texts.items recording_told,
      ap length c.deref.ensures.value,
      c.requires.few,
    )
