use Rattle.std.proofs.Common.{◌≡◌, ◌∙◌, [], length, refl, sym, subst, arith, rules}
use Rattle.room_disks.specs.Crashes.{Told}
use Rattle.journal_file.specs.Stages.{HasRead}
use Rattle.journal_file.proofs.Openings.{told_read_start, told_read_stays, told_read_more_at, told_forget}
use Rattle.journal_file.proofs.opening.whole_file.Goals as goal

pub returns-in_err-len-clause-looks : goal.returns-in_err-len-clause-looks
returns-in_err-len-clause-looks g c = told_read_stays [] _ _ _ (told_read_start (g.D.Disk.course c.args.disk.now))
    c.len.ensures.stays

pub returns-then-branch-gt-MOST_BYTES-clause-looks : goal.returns-then-branch-gt-MOST_BYTES-clause-looks
returns-then-branch-gt-MOST_BYTES-clause-looks g c = told_read_stays [] _ _ _
    (told_read_start (g.D.Disk.course c.args.disk.now)) c.len.ensures.stays

pub loop-piece-init : goal.loop-piece-init
loop-piece-init g c = record {
  room = refl;
  so_far = subst (λ bytes. Told (HasRead bytes) (g.D.Disk.course c.args.disk.now) (g.D.Disk.course c.len.new.self))
      (sym c.new-bytes.ensures.items) (told_read_stays [] _ _ _ (told_read_start (g.D.Disk.course c.args.disk.now))
      c.len.ensures.stays);
  quiet = c.in_ok-len.ensures.quiet;
}

pub returns-in_err-count-clause-looks : goal.returns-in_err-count-clause-looks
returns-in_err-count-clause-looks g c = told_forget c.loop-piece.bytes.items _ _
    (told_read_stays c.loop-piece.bytes.items _ _ _ c.loop-piece.invariant.so_far c.read.ensures.stays)

pub returns-then-count-eq0-clause-looks : goal.returns-then-count-eq0-clause-looks
returns-then-count-eq0-clause-looks g c = told_forget c.loop-piece.bytes.items _ _
    (told_read_stays c.loop-piece.bytes.items _ _ _ c.loop-piece.invariant.so_far c.read.ensures.stays)

pub loop-piece-preserved : goal.loop-piece-preserved
loop-piece-preserved g c =
    let e : c.len-in-loop-piece-2.result ≡ length c.loop-piece.bytes.items =
    omega (arith, c.len-in-loop-piece-2.ensures, c.loop-piece.bytes.ok) in
    let more = told_read_more_at c.loop-piece.bytes.items c.read.new.into c.in_ok-count.count
    c.len-in-loop-piece-2.result _ _ _ e c.loop-piece.invariant.so_far c.in_ok-count.ensures.gives
    c.read.ensures.stays in
    record {
      room = search rules;
      so_far = subst (λ bytes. Told (HasRead bytes) (g.D.Disk.course c.args.disk.now) (g.D.Disk.course c.read.new.self))
          (sym c.in_ok-extend_from_slice.ensures.items) more;
      quiet = c.in_ok-count.ensures.quiet ∙ c.loop-piece.invariant.quiet;
    }

pub returns-in_err-extend_from_slice-clause-looks : goal.returns-in_err-extend_from_slice-clause-looks
returns-in_err-extend_from_slice-clause-looks g c = told_forget c.loop-piece.bytes.items _ _
    (told_read_stays c.loop-piece.bytes.items _ _ _ c.loop-piece.invariant.so_far c.read.ensures.stays)
