use Rattle.std.proofs.Common.{◌≡◌, ◌∙◌, ◌∷◌, [], take, drop, refl, sym, ap}
use Rattle.std.proofs.Common.{rules}
use Rattle.journal_file.specs.Layout.{header}
use Rattle.journal_file.proofs.Files.{front_parts, with_first, with_none, ends_at_plus, ends_at_end, has_gate}
use Rattle.journal_file.proofs.reading.measured.Goals as goal

pub returns-then-gate-eq43-clause-fault : goal.returns-then-gate-eq43-clause-fault
returns-then-gate-eq43-clause-fault c =
    let h : take 18 c.args.bytes.now ≡ header = search rules in
    let parts = front_parts c.args.bytes.now c.behind_records-count.ensures.begins.lines c.behind_records-count.result.1.now h
    (sym c.split_at.ensures.back ∙ c.behind_records-count.ensures.begins.parts) in
    let first : c.behind_records-count.result.1.now ≡ c.in-Some.gate.now ∷ drop 1 c.behind_records-count.result.1.now =
    with_first c.behind_records-count.result.1.now c.in-Some.gate.now c.in-Some.ensures.value in
    ends_at_plus c.args.bytes.now c.behind_records-count.ensures.begins.lines c.behind_records-count.result.1.now _ _ c.requires.long
    c.behind_records-count.ensures.begins.are_lines parts (first ∙ ap (λ b. b ∷ drop 1 c.behind_records-count.result.1.now) c.if-gate-eq43.true)
    c.behind_records-count.ensures.no_more refl

pub returns-else-gate-eq43-clause-kept : goal.returns-else-gate-eq43-clause-kept
returns-else-gate-eq43-clause-kept c =
    let h : take 18 c.args.bytes.now ≡ header = search rules in
    let parts = front_parts c.args.bytes.now c.behind_records-count.ensures.begins.lines c.behind_records-count.result.1.now h
    (sym c.split_at.ensures.back ∙ c.behind_records-count.ensures.begins.parts) in
    let first : c.behind_records-count.result.1.now ≡ c.in-Some.gate.now ∷ drop 1 c.behind_records-count.result.1.now =
    with_first c.behind_records-count.result.1.now c.in-Some.gate.now c.in-Some.ensures.value in
    record {
      lines = c.behind_records-count.ensures.begins.lines;
      counts = c.behind_records-count.ensures.begins.counts;
      gate = has_gate c.args.bytes.now c.behind_records-count.ensures.begins.lines c.behind_records-count.result.1.now _
          c.in-Some.gate.now _ c.behind_records-count.ensures.begins.are_lines parts first c.if-gate-eq43.false refl;
    }

pub returns-in-None-clause-fault : goal.returns-in-None-clause-fault
returns-in-None-clause-fault c =
    let h : take 18 c.args.bytes.now ≡ header = search rules in
    let parts = front_parts c.args.bytes.now c.behind_records-count.ensures.begins.lines c.behind_records-count.result.1.now h
    (sym c.split_at.ensures.back ∙ c.behind_records-count.ensures.begins.parts) in
    let end : c.behind_records-count.result.1.now ≡ [] = with_none c.behind_records-count.result.1.now c.in-None.ensures.value in
    ends_at_end c.args.bytes.now c.behind_records-count.ensures.begins.lines c.behind_records-count.result.1.now _ c.requires.long
    c.behind_records-count.ensures.begins.are_lines parts end refl
