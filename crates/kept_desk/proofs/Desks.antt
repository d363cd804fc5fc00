-- What a desk's type says holds on from step to step.
use Rattle.std.proofs.Common.{◌≡◌, ◌≢◌, ℕ, zero, suc, ◌+◌, ◌<◌, ◌≤◌, List, ◌++◌, length, map, take, drop, Option, Some, None, IsSome, refl, sym, ◌∙◌, ap, subst, arith}
use Rattle.std.proofs.lemmas.List.{length-map}
use Rattle.atomic_table.specs.Seated.{TableId}
use Rattle.room_ports.specs.Counts.{HasRisen, counted}
use Rattle.room_disks.specs.Crashes.{AtMost, Course, Told}
use Rattle.journal_file.specs.Standing.{JournalState, StandsFor}
use Rattle.append_receipts.specs.States.{Counts}
use Rattle.room_core.specs.declared.entry.Entry.{Entry}
use Rattle.room_core.specs.Projection.{of_station}
use Rattle.room_core.specs.Whole.{Meaning}
use Rattle.edit_journal.specs.Seats.{Opening, Begins}
use Rattle.edit_journal.specs.Turns.{Known}
use Rattle.cut_room.specs.Rooms.{IsAtPoint}
use Rattle.kept_desk.specs.Desks.{DeskState, IsReader, IsTold, IsDesk, ArePending}
use Rattle.kept_desk.proofs.Fronts.{front_within, front_more, rest_within, front_stays, pending_stays, begins_on, front_of_begins}

-- ---- faults of the disk

risen_on : (start before after : ℕ) → HasRisen start before → HasRisen before after → HasRisen start after
risen_on start before after a b = omega (arith, a, b)

counted_some : (n : ℕ) → counted n ≢ 0
counted_some n is = absurd (omega (arith, is))

-- an append failed, and was counted
pub told_failed : (table : TableId) (start count before after : ℕ) (counts : Counts) → IsTold table start count before counts
    → HasRisen before after → IsTold table start count after (record counts { failed = counted counts.failed })
told_failed table start count before after counts told risen = record {
  table_is = told.table_is;
  kept_is = told.kept_is;
  quiet = λ is. absurd (counted_some counts.failed is);
  cause = λ _. risen_since counts.failed refl;
}
  where
    risen_since : (f : ℕ) → counts.failed ≡ f → HasRisen start after
    risen_since zero is = subst (λ b. HasRisen b after) (told.quiet is) risen
    risen_since (suc f) is = risen_on start before after (told.cause (λ none. absurd (omega (arith, is, none)))) risen

-- records were added, and the disk counted no fault
pub told_more : (table : TableId) (start count more before after : ℕ) (counts : Counts) → IsTold table start count before counts
    → after ≡ before → IsTold table start (count + more) after (record counts { kept = counts.kept + more })
told_more table start count more before after counts told same = record {
  table_is = told.table_is;
  kept_is = ap (λ k. k + more) told.kept_is;
  quiet = λ is. same ∙ told.quiet is;
  cause = λ some. subst (HasRisen start) (sym same) (told.cause some);
}

-- what the disk tells now it told before
told_before : (R : Course → Course → Type 0) (before after : Option Course) → Told R before after → IsSome after
    → IsSome before
told_before R (Some c) after calls now = refl
told_before R None (Some c) calls now = absurd calls
told_before R None None calls now = now

-- ---- the steps of a desk

module _ {D O P C R X : Type 0} (meaning : O → Meaning P C R X) (opening : Option (Opening O P))
    (line_of : Entry C → List ℕ) (course : D → Option Course) (faults : D → ℕ) (table : TableId) (number : ℕ)
    (kept : List (Entry C)) (first : Option Course) (start : ℕ) where
  -- the file has no more records than the history has entries
  pub within : (d : DeskState D O P C) → IsDesk meaning opening line_of course faults table number kept first start d
      → d.file.count ≤ length d.pass.entries
  within d is = front_within line_of d.file.count d.pass.entries is.holds.stands.0

  -- what is pending fits into the most records
  pub fits : (d : DeskState D O P C) (batch : List (List ℕ)) → IsDesk meaning opening line_of course faults table number kept first start d
      → batch ≡ map line_of (take (length batch) (drop d.file.count d.pass.entries)) → d.file.count + length batch ≤ 100000
  fits d batch is next =
      let most = is.reader.legal.2.within in
      omega (arith, most, rest_within line_of d.file.count (length batch) d.pass.entries batch (within d is) refl next)

  -- a new desk
  pub begun : (file : JournalState D) (pass : Known O P C) (counts : Counts) → IsReader meaning opening pass → number ≡ pass.number → Begins pass.entries kept
      → StandsFor course file (map line_of kept) → file.pending ≡ None → first ≡ course file.disk → start ≡ faults file.disk → counts ≡ record { table = table; kept = file.count; failed = 0 }
      → IsDesk meaning opening line_of course faults table number kept first start (record { file = file; pass = pass; counts = counts })
  begun file pass counts reader is_number begins stands settled same quiet are =
      let count : length kept ≡ file.count = sym (length-map kept line_of) ∙ stands.0 in
      let front : take file.count pass.entries ≡ kept = ap (λ n. take n pass.entries) (sym count) ∙ front_of_begins kept pass.entries begins in
      record {
        reader = reader;
        number_is = sym is_number;
        holds = record {
          stands = subst (λ l. StandsFor course file (map line_of l)) (sym front) stands;
          pending = subst (ArePending line_of (drop file.count pass.entries)) (sym settled) tt;
        };
        told = record {
          table_is = ap (λ c. c.table) are;
          kept_is = ap (λ c. c.kept) are;
          quiet = λ _. sym quiet;
          cause = λ some. absurd (some (ap (λ c. c.failed) are));
        };
        begins = begins;
        least = omega (arith, count);
        was_told = λ now. subst IsSome (sym same) now;
      }

  -- the pass has read on
  pub read_on : (d : DeskState D O P C) (pass : Known O P C) (o : Opening O P) (point : ℕ) → IsDesk meaning opening line_of course faults table number kept first start d
      → opening ≡ Some o → IsAtPoint (meaning o.0) o.1 d.pass pass point
      → IsDesk meaning opening line_of course faults table number kept first start (record d { pass = pass })
  read_on d pass o point is opened at =
      let front = at.stays.goes_on.front in
      let lines = within d is in
      record {
        reader = record {
          own = ap (λ n. of_station n pass.entries) at.stays.goes_on.number_is ∙ (at.stays.own ∙ is.reader.own);
          legal = (o, opened, at.legal);
        };
        number_is = at.stays.goes_on.number_is ∙ is.number_is;
        holds = record {
          stands = subst (λ l. StandsFor course d.file (map line_of l)) (sym (front_stays d.file.count d.pass.entries pass.entries lines front)) is.holds.stands;
          pending = pending_stays line_of d.file.count d.pass.entries pass.entries d.file.pending lines front is.holds.pending;
        };
        told = is.told;
        begins = begins_on kept d.pass.entries pass.entries is.begins front;
        least = is.least;
        was_told = is.was_told;
      }

  -- the lines of the entries after those of the file were put
  pub put : (d : DeskState D O P C) (file : JournalState D) (batch : List (List ℕ)) (more : ℕ) → IsDesk meaning opening line_of course faults table number kept first start d
      → batch ≡ map line_of (take (length batch) (drop d.file.count d.pass.entries))
      → ((lines : List (List ℕ)) → StandsFor course d.file lines → StandsFor course file (lines ++ batch))
      → file.pending ≡ None → file.count ≡ d.file.count + length batch → faults file.disk ≡ faults d.file.disk → Told (AtMost 4) (course d.file.disk) (course file.disk) → more ≡ length batch
      → IsDesk meaning opening line_of course faults table number kept first start (record { file = file; pass = d.pass; counts = record d.counts { kept = d.counts.kept + more } })
  put d file batch more is next ok settled count quiet calls added =
      let lines : map line_of (take file.count d.pass.entries) ≡ map line_of (take d.file.count d.pass.entries) ++ batch =
      ap (λ n. map line_of (take n d.pass.entries)) count ∙ (front_more line_of d.file.count (length batch) d.pass.entries
      ∙ ap (λ l. map line_of (take d.file.count d.pass.entries) ++ l) (sym next)) in
      record {
        reader = is.reader;
        number_is = is.number_is;
        holds = record {
          stands = subst (StandsFor course file) (sym lines) (ok (map line_of (take d.file.count d.pass.entries)) is.holds.stands);
          pending = subst (ArePending line_of (drop file.count d.pass.entries)) (sym settled) tt;
        };
        told = subst (λ n. IsTold table start n (faults file.disk) (record d.counts { kept = d.counts.kept + more })) (ap (λ m. d.file.count + m) added ∙ sym count)
            (told_more table start d.file.count more (faults d.file.disk) (faults file.disk) d.counts is.told quiet);
        begins = is.begins;
        least = omega (arith, is.least, count);
        was_told = λ now. is.was_told (told_before (AtMost 4) (course d.file.disk) (course file.disk) calls now);
      }

  -- the disk failed, and lines are pending
  pub failed : (d : DeskState D O P C) (file : JournalState D) (batch : List (List ℕ)) → IsDesk meaning opening line_of course faults table number kept first start d
      → 0 < length batch → batch ≡ map line_of (take (length batch) (drop d.file.count d.pass.entries))
      → ((lines : List (List ℕ)) → StandsFor course d.file lines → StandsFor course file lines)
      → file.pending ≡ Some batch → file.count ≡ d.file.count → HasRisen (faults d.file.disk) (faults file.disk) → Told (AtMost 4) (course d.file.disk) (course file.disk)
      → IsDesk meaning opening line_of course faults table number kept first start (record { file = file; pass = d.pass; counts = record d.counts { failed = counted d.counts.failed } })
  failed d file batch is some next err pending count risen calls =
      let after : ArePending line_of (drop file.count d.pass.entries) (Some batch) =
      (some, next ∙ ap (λ n. map line_of (take (length batch) (drop n d.pass.entries))) (sym count)) in
      record {
        reader = is.reader;
        number_is = is.number_is;
        holds = record {
          stands = subst (λ n. StandsFor course file (map line_of (take n d.pass.entries))) (sym count) (err (map line_of (take d.file.count d.pass.entries)) is.holds.stands);
          pending = subst (ArePending line_of (drop file.count d.pass.entries)) (sym pending) after;
        };
        told = subst (λ n. IsTold table start n (faults file.disk) (record d.counts { failed = counted d.counts.failed })) (sym count)
            (told_failed table start d.file.count (faults d.file.disk) (faults file.disk) d.counts is.told risen);
        begins = is.begins;
        least = subst (λ n. length kept ≤ n) (sym count) is.least;
        was_told = λ now. is.was_told (told_before (AtMost 4) (course d.file.disk) (course file.disk) calls now);
      }

  -- the file has no more records than a kept file takes
  pub short : (d : DeskState D O P C) → IsDesk meaning opening line_of course faults table number kept first start d
      → d.file.count ≤ 100000
  short d is = let most = is.reader.legal.2.within in omega (arith, most, within d is)

  -- zeros were put after the gate
  pub roomed : (d : DeskState D O P C) (file : JournalState D) → IsDesk meaning opening line_of course faults table number kept first start d
      → ((lines : List (List ℕ)) → StandsFor course d.file lines → StandsFor course file lines)
      → file.pending ≡ None → file.count ≡ d.file.count → faults file.disk ≡ faults d.file.disk → Told (AtMost 2) (course d.file.disk) (course file.disk)
      → IsDesk meaning opening line_of course faults table number kept first start (record { file = file; pass = d.pass; counts = d.counts })
  roomed d file is stands settled count quiet calls = record {
    reader = is.reader;
    number_is = is.number_is;
    holds = record {
      stands = subst (λ n. StandsFor course file (map line_of (take n d.pass.entries))) (sym count) (stands (map line_of (take d.file.count d.pass.entries)) is.holds.stands);
      pending = subst (ArePending line_of (drop file.count d.pass.entries)) (sym settled) tt;
    };
    told = subst (λ n. IsTold table start n (faults file.disk) d.counts) (sym count)
        (subst (λ n. IsTold table start d.file.count n d.counts) (sym quiet) is.told);
    begins = is.begins;
    least = subst (λ n. length kept ≤ n) (sym count) is.least;
    was_told = λ now. is.was_told (told_before (AtMost 2) (course d.file.disk) (course file.disk) calls now);
  }

  -- the disk failed there
  pub not_roomed : (d : DeskState D O P C) (file : JournalState D) → IsDesk meaning opening line_of course faults table number kept first start d
      → ((lines : List (List ℕ)) → StandsFor course d.file lines → StandsFor course file lines)
      → file.pending ≡ None → file.count ≡ d.file.count → HasRisen (faults d.file.disk) (faults file.disk) → Told (AtMost 2) (course d.file.disk) (course file.disk)
      → IsDesk meaning opening line_of course faults table number kept first start (record { file = file; pass = d.pass; counts = record d.counts { failed = counted d.counts.failed } })
  not_roomed d file is stands settled count risen calls = record {
    reader = is.reader;
    number_is = is.number_is;
    holds = record {
      stands = subst (λ n. StandsFor course file (map line_of (take n d.pass.entries))) (sym count) (stands (map line_of (take d.file.count d.pass.entries)) is.holds.stands);
      pending = subst (ArePending line_of (drop file.count d.pass.entries)) (sym settled) tt;
    };
    told = subst (λ n. IsTold table start n (faults file.disk) (record d.counts { failed = counted d.counts.failed })) (sym count)
        (told_failed table start d.file.count (faults d.file.disk) (faults file.disk) d.counts is.told risen);
    begins = is.begins;
    least = subst (λ n. length kept ≤ n) (sym count) is.least;
    was_told = λ now. is.was_told (told_before (AtMost 2) (course d.file.disk) (course file.disk) calls now);
  }
