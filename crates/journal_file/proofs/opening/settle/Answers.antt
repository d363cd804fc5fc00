use Rattle.std.proofs.Common.{◌≡◌, ◌++◌, ◌∷◌, [], length, refl, arith, rules, ap}
use Rattle.std.proofs.lemmas.Result.{err_from_is_err_and}
use Rattle.journal_file.specs.Layout.{front_of}
use Rattle.journal_file.proofs.Openings.{told_new_moments, told_new_harmless, told_new_stands, told_cut_moments}
use Rattle.journal_file.proofs.Openings.{told_cut_harmless, told_cut_stands}
use Rattle.journal_file.proofs.opening.settle.Goals as goal

pub returns-in_err-write_and_sync-clause-harmless : goal.returns-in_err-write_and_sync-clause-harmless
returns-in_err-write_and_sync-clause-harmless g c =
    let n : c.as_slice.result.now ≡ front_of [] ++ 45 ∷ [] = search rules in
    let long : length c.as_slice.result.now ≡ 19 = ap length n in
    let p = err_from_is_err_and c.from_residual.result c.from_residual.ensures.1 in
    rw p.1 (told_new_harmless c.args.bytes.now (g.D.Disk.course c.args.disk.now) c.requires.settled
    c.as_slice.result.now long c.if-bytes-le-MOST_NEW.true _ c.write_and_sync.ensures.moments)

pub returns-then-bytes-le-MOST_NEW-clause-opened : goal.returns-then-bytes-le-MOST_NEW-clause-opened
returns-then-bytes-le-MOST_NEW-clause-opened g c =
    let n : c.as_slice.result.now ≡ front_of [] ++ 45 ∷ [] = search rules in
    let long : length c.as_slice.result.now ≡ 19 = ap length n in
    rw c.new.ensures.items (record {
      are_lines = tt;
      place = refl;
      stands = told_new_stands c.args.bytes.now (g.D.Disk.course c.args.disk.now) c.requires.settled
          c.as_slice.result.now long c.if-bytes-le-MOST_NEW.true _ n c.in_ok-write_and_sync.ensures.ok;
    })

pub returns-then-bytes-le-MOST_NEW-clause-moments : goal.returns-then-bytes-le-MOST_NEW-clause-moments
returns-then-bytes-le-MOST_NEW-clause-moments g c =
    let n : c.as_slice.result.now ≡ front_of [] ++ 45 ∷ [] = search rules in
    let long : length c.as_slice.result.now ≡ 19 = ap length n in
    rw c.new.ensures.items (told_new_moments c.args.bytes.now (g.D.Disk.course c.args.disk.now) c.requires.settled
    c.as_slice.result.now long c.if-bytes-le-MOST_NEW.true _ c.write_and_sync.ensures.moments)

pub returns-in_err-cut_and_sync-clause-harmless : goal.returns-in_err-cut_and_sync-clause-harmless
returns-in_err-cut_and_sync-clause-harmless g c =
    let p = err_from_is_err_and c.from_residual-in_err-cut_and_sync.result
    c.from_residual-in_err-cut_and_sync.ensures.1 in
    rw p.1 (told_cut_harmless c.args.bytes.now (g.D.Disk.course c.args.disk.now) c.requires.settled
    c.in_ok-records.records.items c.in_ok-records.gate c.in_ok-records.ensures.kept
    (omega (arith, c.if-bytes-le-MOST_NEW.false)) _ c.cut_and_sync.ensures.moments)

pub returns-clause-opened : goal.returns-clause-opened
returns-clause-opened g c = record {
  are_lines = c.in_ok-records.ensures.kept.has.are_lines;
  place = c.in_ok-records.ensures.kept.place;
  stands = told_cut_stands c.args.bytes.now (g.D.Disk.course c.args.disk.now) c.requires.settled
      c.in_ok-records.records.items c.in_ok-records.gate c.in_ok-records.ensures.kept
      (omega (arith, c.if-bytes-le-MOST_NEW.false)) _ c.in_ok-cut_and_sync.ensures.ok;
}

pub returns-clause-moments : goal.returns-clause-moments
returns-clause-moments g c =
    told_cut_moments c.args.bytes.now (g.D.Disk.course c.args.disk.now) c.requires.settled c.in_ok-records.records.items
    c.in_ok-records.gate c.in_ok-records.ensures.kept (omega (arith, c.if-bytes-le-MOST_NEW.false)) _
    c.cut_and_sync.ensures.moments
