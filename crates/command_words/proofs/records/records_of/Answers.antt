use Rattle.std.proofs.Common.{◌∷◌, [], ◌++◌, ap, ◌∙◌, arith, map, drop}
use Rattle.std.specs.Prelude.{option_map}
use Rattle.std.proofs.lemmas.List.{length-map, map-append}
use Rattle.command_words.specs.Commands.{most_stations}
use Rattle.command_words.specs.Records.{named_by, or_none, records_in}
use Rattle.command_words.proofs.RecordWords.{no_record_at, room_for, rows_after}
use Rattle.command_words.proofs.records.records_of.Goals as goal

pub push-requires : goal.push-requires
push-requires c =
    let room = room_for (map named_by c.loop-at.records.items) (drop c.loop-at.at c.args.words.now) (records_in (drop 5 c.args.words.now)) most_stations
    (named_by c.in-Some.record) (drop c.in-Some.next c.args.words.now) c.loop-at.invariant.same c.requires.some c.requires.few c.in-Some.ensures.record in
    omega (arith, room, length-map c.loop-at.records.items named_by)

pub loop-at-preserved : goal.loop-at-preserved
loop-at-preserved c = record {
  within = (omega (arith, c.loop-at.invariant.within.0, c.in-Some.ensures.on.0), c.in-Some.ensures.on.1);
  same =
      ap (λ xs. option_map (λ more. map named_by xs ++ more) (records_in (drop c.in-Some.next c.args.words.now))) c.push.ensures.items
      ∙ (ap (λ ns. option_map (λ more. ns ++ more) (records_in (drop c.in-Some.next c.args.words.now))) (map-append named_by c.loop-at.records.items (c.in-Some.record ∷ []))
      ∙ (rows_after (map named_by c.loop-at.records.items) (drop c.loop-at.at c.args.words.now) (named_by c.in-Some.record) (drop c.in-Some.next c.args.words.now) c.in-Some.ensures.record
      ∙ c.loop-at.invariant.same));
}

pub returns-in-None : goal.returns-in-None
returns-in-None c =
    let none = no_record_at c.args.words.now c.loop-at.at c.in-None.ensures.record (omega (arith, c.loop-at-test.true, c.count.ensures)) in
    ap (map named_by) c.new.ensures
    ∙ ap or_none (ap (λ found. option_map (λ more. map named_by c.loop-at.records.items ++ more) found) none ∙ c.loop-at.invariant.same)
