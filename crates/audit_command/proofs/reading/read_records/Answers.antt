use Rattle.std.proofs.Common.{◌+◌, List, ◌∷◌, [], ap, map, subst, sym, take, length, length-append, arith, ◌∙◌}
use Rattle.std.proofs.lemmas.List.{map-append}
use Rattle.command_files.proofs.Unchanged.{read_then}
use Rattle.command_words.specs.Records.{named_by}
use Rattle.audit_command.specs.Reads.{Reads}
use Rattle.audit_command.specs.Recordings.{Recording}
use Rattle.audit_command.specs.Stations.{recording_told}
use Rattle.audit_command.proofs.ReadMore.{reads_next, stops_next}
use Rattle.audit_command.proofs.reading.read_records.Goals as goal

pub returns-in-Err-read_record-clause-stops : goal.returns-in-Err-read_record-clause-stops
returns-in-Err-read_record-clause-stops g c =
    stops_next named_by c.args.records.now c.loop-names.names-index _ c.loop-names-test.true (g.F.Files.told c.args.files.now)
    (g.F.Files.told c.loop-names.files) (g.F.Files.told c.read_record.new.files) (map recording_told c.loop-names.all.items)
    c.in-Err-read_record.fault c.loop-names.invariant.so_far c.in-Err-read_record.ensures.stops c.read_record.ensures.same

pub loop-names-preserved : goal.loop-names-preserved
loop-names-preserved g c =
    let old = g.F.Files.told c.args.files.now in
    let there = g.F.Files.told c.loop-names.files in
    let new = g.F.Files.told c.read_record.new.files in
    let before = c.loop-names.all.items in
    let i = c.loop-names.invariant in
    let texts = c.in-Ok-read_record.texts in
    let grown = ap (map recording_told) c.push_reserved.ensures.items ∙ map-append recording_told before (texts ∷ []) in
    let more = ap length c.push_reserved.ensures.items ∙ length-append before (texts ∷ []) in
    record {
      same = read_then old there new i.same c.read_record.ensures.same;
      so_far = subst (λ (rs : List Recording). Reads old (map named_by (take (c.loop-names.names-index + 1) c.args.records.now)) rs new) (sym grown)
          (reads_next named_by c.args.records.now c.loop-names.names-index _ c.loop-names-test.true old there new (map recording_told before)
          (recording_told texts) i.so_far c.in-Ok-read_record.ensures.reads);
      count = omega (arith, more, i.count);
      room = c.push_reserved.ensures.capacity ∙ i.room;
    }
