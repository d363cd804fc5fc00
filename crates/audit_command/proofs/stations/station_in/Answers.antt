use Rattle.std.proofs.Common.{arith, ap, length, ◌∙◌}
use Rattle.std.proofs.lemmas.List.{length-map}
use Rattle.recorded_sessions.specs.Recordings.{line_seen}
use Rattle.audit_command.proofs.LineCounts.{few_lines, few_replies}
use Rattle.audit_command.proofs.stations.station_in.Goals as goal

pub invariant_of-result : goal.invariant_of-result
invariant_of-result c = record {
  lines_within = omega (
    arith,
    few_lines c.deref.result.now,
    ap length c.in_ok-lines.ensures,
    length-map c.in_ok-lines.lines.items line_seen,
    ap length c.deref.ensures.value,
    c.args.texts.now.lines_within,
  );
  replies_within = omega (
    arith,
    few_replies c.deref-2.result.now,
    ap length c.in_ok-replies.ensures,
    length-map c.in_ok-replies.replies.items (λ reply. reply.now),
    ap length c.deref-2.ensures.value,
    c.args.texts.now.replies_within,
  );
  signs = omega (
    arith,
    c.in_ok-has_no_entry.ensures.count,
    c.min.ensures,
    c.len.ensures ∙ c.in_ok-lines.lines.ok.0,
    c.len-2.ensures ∙ c.in_ok-replies.replies.ok.0,
  );
}
