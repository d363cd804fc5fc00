use Rattle.std.proofs.Common.{◌≡◌, length, map, take, vec_capacity}
use Rattle.command_files.specs.Unopened.{OnlyRead}
use Rattle.command_words.specs.Records.{named_by}
use Rattle.audit_command.specs.Reads.{Reads}
use Rattle.audit_command.specs.Stations.{recording_told}
use Rattle.audit_command.proofs.reading.read_records.Given as goal

abbrev pub invariant-loop-names : goal.invariant-loop-names
invariant-loop-names g l = record {
  same : OnlyRead (g.F.Files.told l.fn.files) (g.F.Files.told l.files);
  so_far : Reads (g.F.Files.told l.fn.files) (map named_by (take l.names-index l.records)) (map recording_told l.all.items) (g.F.Files.told l.files);
  count : length l.all.items ≡ l.names-index;
  room : vec_capacity l.all ≡ length l.records;
}
