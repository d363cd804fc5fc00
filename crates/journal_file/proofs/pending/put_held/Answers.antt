use Rattle.std.proofs.Common.{◌∷◌, [], IfSome, length, drop, sym, ap, subst, arith, length-append}
use Rattle.std.proofs.lemmas.Result.{err_from_is_err_and}
use Rattle.room_disks.specs.Crashes.{Told, Since}
use Rattle.journal_file.specs.Layout.{records_of}
use Rattle.journal_file.specs.Stages.{held_by, IsAppended, IsEither, Stands}
use Rattle.journal_file.proofs.Standings.{filed_ok, filed_err, filed_meanwhile}
use Rattle.journal_file.proofs.pending.put_held.Goals as goal

pub piece-piece-requires : goal.piece-piece-requires
piece-piece-requires g c = c.requires.fits.0.1

pub put_pending-requires : goal.put_pending-requires
put_pending-requires g c = omega (
  arith,
  c.requires.gate,
  ap length c.piece-piece.ensures,
  length-append (drop 1 (records_of (held_by c.args.held.now))) (45 ∷ []),
)

pub returns-in_err-put_pending-clause-err : goal.returns-in_err-put_pending-clause-err
returns-in_err-put_pending-clause-err g c =
    let p = err_from_is_err_and c.from_residual.result c.from_residual.ensures.1 in
    rw p.1 (λ lines f.
    let h = subst (λ b. IfSome (g.D.Disk.course c.args.disk.now) (Stands c.args.stage.now lines b))
    (sym c.piece-piece.ensures) f.stands in
    filed_err (g.D.Disk.course c.args.disk.now) (g.D.Disk.course c.put_pending.new.disk) lines
    (held_by c.args.held.now) c.args.count.now c.args.gate.now c.args.stage.now c.requires.fits f
    c.put_pending.new.stage
    (subst (λ b. IfSome (g.D.Disk.course c.put_pending.new.disk) (Stands c.put_pending.new.stage lines b))
    c.piece-piece.ensures (c.in_err-put_pending.ensures.err lines f.place h)))

pub returns-in_err-put_pending-clause-moments : goal.returns-in_err-put_pending-clause-moments
returns-in_err-put_pending-clause-moments g c = λ lines f.
    let h = subst (λ b. IfSome (g.D.Disk.course c.args.disk.now) (Stands c.args.stage.now lines b))
    (sym c.piece-piece.ensures) f.stands in
    filed_meanwhile (g.D.Disk.course c.args.disk.now) (g.D.Disk.course c.put_pending.new.disk) lines
    (held_by c.args.held.now) c.args.count.now c.args.gate.now c.args.stage.now c.requires.fits f
    (subst (λ b. Told (Since (IsEither lines b)) (g.D.Disk.course c.args.disk.now)
    (g.D.Disk.course c.put_pending.new.disk)) c.piece-piece.ensures (c.put_pending.ensures.moments lines f.place h))

pub returns-clause-ok : goal.returns-clause-ok
returns-clause-ok g c = λ lines f.
    let h = subst (λ b. IfSome (g.D.Disk.course c.args.disk.now) (Stands c.args.stage.now lines b))
    (sym c.piece-piece.ensures) f.stands in
    let n = ap length c.piece-piece.ensures in
    filed_ok (g.D.Disk.course c.args.disk.now) (g.D.Disk.course c.put_pending.new.disk) lines
    (held_by c.args.held.now) c.args.count.now c.args.gate.now c.args.stage.now c.requires.fits f _ _
    (omega (arith, c.count.ensures)) (omega (arith, n))
    (subst (λ b. IfSome (g.D.Disk.course c.put_pending.new.disk) (IsAppended lines b)) c.piece-piece.ensures
    (c.in_ok-put_pending.ensures.ok lines f.place h))

pub returns-clause-moments : goal.returns-clause-moments
returns-clause-moments g c = λ lines f.
    let h = subst (λ b. IfSome (g.D.Disk.course c.args.disk.now) (Stands c.args.stage.now lines b))
    (sym c.piece-piece.ensures) f.stands in
    filed_meanwhile (g.D.Disk.course c.args.disk.now) (g.D.Disk.course c.put_pending.new.disk) lines
    (held_by c.args.held.now) c.args.count.now c.args.gate.now c.args.stage.now c.requires.fits f
    (subst (λ b. Told (Since (IsEither lines b)) (g.D.Disk.course c.args.disk.now)
    (g.D.Disk.course c.put_pending.new.disk)) c.piece-piece.ensures (c.put_pending.ensures.moments lines f.place h))
