use Rattle.std.proofs.Common.{ap, inl, map, refl, ◌∙◌}
use Rattle.take_back.specs.Parts.{fresh}
use Rattle.command_files.specs.Ports.{change, output_told}
use Rattle.command_words.specs.Records.{named_by}
use Rattle.audit_command.proofs.Along.{CutWalk, at_end}
use Rattle.audit_command.proofs.LegalEnds.{can_open_so, legal_so, records_end, setting_so, unfit_so}
use Rattle.audit_command.proofs.ReadMore.{quiet_same}
use Rattle.audit_command.proofs.auditing.audit_entries.Goals as goal

pub begin-requires-clause-opens : goal.begin-requires-clause-opens
begin-requires-clause-opens g c =
    can_open_so c.args.opening c.cut_object-object.result c.deref.result.now c.requires.sound c.requires.some c.cut_object-object.ensures
    (c.deref.ensures.value ∙ (c.in-Ok.ensures ∙ ap (map fresh) c.into_vec.ensures))

pub audit_legal-requires-clause-audited : goal.audit_legal-requires-clause-audited
audit_legal-requires-clause-audited g c =
    at_end _ c.in-Ok-begin.walk c.go_to.new.self (ap (λ (w : CutWalk). w.object) c.in-Ok-begin.ensures)
    (ap (λ (w : CutWalk). w.entries) c.in-Ok-begin.ensures) c.in-Ok-go_to.ensures.along c.in-Ok-go_to.ensures.ok c.point.ensures.walk.legal

pub returns-in-Ok-go_to : goal.returns-in-Ok-go_to
returns-in-Ok-go_to g c =
    let fresh_is = c.in-Ok.ensures ∙ ap (map fresh) c.into_vec.ensures in
    let opening_is = c.in-Ok-go_to.ensures.along.opening ∙ (ap (λ (w : CutWalk). w.opening) c.in-Ok-begin.ensures ∙ (c.deref.ensures.value ∙ fresh_is)) in
    let audited = at_end (record {
      object = record { ref_ptr = (0, 0); now = c.cut_object-object.result };
      counting = c.args.opening.counting;
      start = c.args.opening.start;
      entries = c.args.entries;
    }) c.in-Ok-begin.walk c.go_to.new.self (ap (λ (w : CutWalk). w.object) c.in-Ok-begin.ensures)
    (ap (λ (w : CutWalk). w.entries) c.in-Ok-begin.ensures) c.in-Ok-go_to.ensures.along c.in-Ok-go_to.ensures.ok c.point.ensures.walk.legal in
    records_end
    (λ o h station lines replies. (
      c.sessions_are_transcripts.ensures.explained o h station lines replies,
      c.sessions_are_transcripts.ensures.transcripts o h station lines replies,
      c.sessions_are_transcripts.ensures.cut o h station lines replies,
      c.sessions_are_transcripts.ensures.cut_transcripts o h station lines replies,
    ))
    c.args.opening c.args.entries.now (map named_by c.args.records.now) (g.F.Files.told c.args.files.now) (g.F.Files.told c.audit_legal.new.files)
    (change (output_told g.K.Sink.taken g.K.Sink.write_faults) c.args.output.now c.audit_legal.new.output) c.audit_legal.result
    (legal_so c.args.opening c.cut_object-object.result c.go_to.new.self.opening c.args.entries.now c.cut_object-object.ensures opening_is audited.legal)
    c.audit_legal.ensures.same
    _ _
    (setting_so c.args.opening c.cut_object-object.result c.cut_object-object.ensures)
    (c.deref-in-Ok-go_to.ensures.value ∙ fresh_is)
    c.audit_legal.ensures.ends

pub returns-in-Err-Refused : goal.returns-in-Err-Refused
returns-in-Err-Refused g c =
    let fresh_is = c.in-Ok.ensures ∙ ap (map fresh) c.into_vec.ensures in (
      (quiet_same (g.F.Files.told c.args.files.now) (g.F.Files.told c.args.files.now) refl).0,
      inl (record {
        place = c.in-Err-Refused.place;
        unfit = unfit_so c.args.opening c.in-Ok-begin.walk c.args.entries.now c.in-Err-Refused.place
            (ap (λ (w : CutWalk). w.object.object.table) c.in-Ok-begin.ensures ∙ c.cut_object-object.ensures)
            (ap (λ (w : CutWalk). w.opening) c.in-Ok-begin.ensures ∙ (c.deref.ensures.value ∙ fresh_is))
            (ap (λ (w : CutWalk). w.entries) c.in-Ok-begin.ensures)
            (rw c.in-Err-Refused.field-0-is at c.in-Err-Refused.ensures.fault);
        same = refl;
        put = rw (c.as_bytes.ensures.text ∙ c.refusal_line.ensures, c.in-Err-Refused.place-is) at c.end_with.ensures;
      }),
    )
