use Rattle.std.proofs.Common.{◌≡◌, ◌≤◌, None, sym, ◌∙◌, ap, subst, arith}
use Rattle.room_disks.specs.Crashes.{Told, Since}
use Rattle.journal_file.specs.Layout.{Kept}
use Rattle.journal_file.specs.Standing.{StandsFor}
use Rattle.journal_file.specs.Stages.{held_by, pending_of}
use Rattle.journal_file.proofs.Moments.{law_of}
use Rattle.journal_file.proofs.Appends.{Honest, told_fewer}
use Rattle.journal_file.proofs.Standings.{closed_now, still_filed, gate_short, stands_err, stands_unchanged}
use Rattle.journal_file.proofs.journal_file.JournalFile.make_room.Goals as goal

pub put_zeros-requires : goal.put_zeros-requires
put_zeros-requires g c =
    let few : c.self.inside.count ≤ 100000 = omega (arith, c.requires.few, ap (λ j. j.count) c.self.view_is) in
    gate_short (g.D.Disk.course c.self.inside.disk) c.self.invariant.0 c.self.inside.count c.self.inside.gate
    c.self.inside.stage (held_by c.self.inside.held) c.self.invariant.1 few

pub invariant_of-self : goal.invariant_of-self
invariant_of-self g c =
    let f = c.self.invariant.1 in
    let lines = c.self.invariant.0 in
    let a = g.D.Disk.course c.self.inside.disk in
    let b = g.D.Disk.course c.put_zeros.new.disk in
    let batch = held_by c.self.inside.held in
    let none : pending_of c.self.inside.stage batch ≡ None = ap (λ j. j.pending) c.self.view_is ∙ c.requires.settled in
    let closed = closed_now a lines c.self.inside.count c.self.inside.gate c.self.inside.stage batch none f in
    let filed = still_filed a b lines c.self.inside.count c.self.inside.gate c.self.inside.stage batch none f
    (c.put_zeros.ensures.closed lines f.place closed) in
    (lines, filed)

pub returns-clause-stands : goal.returns-clause-stands
returns-clause-stands g c = λ ms s.
    let f = c.self.invariant.1 in
    let lines = c.self.invariant.0 in
    let a = g.D.Disk.course c.self.inside.disk in
    let b = g.D.Disk.course c.put_zeros.new.disk in
    let batch = held_by c.self.inside.held in
    let none : pending_of c.self.inside.stage batch ≡ None = ap (λ j. j.pending) c.self.view_is ∙ c.requires.settled in
    let closed = closed_now a lines c.self.inside.count c.self.inside.gate c.self.inside.stage batch none f in
    let filed = still_filed a b lines c.self.inside.count c.self.inside.gate c.self.inside.stage batch none f
    (c.put_zeros.ensures.closed lines f.place closed) in
    let old = subst (λ j. StandsFor g.D.Disk.course j ms) (sym c.self.view_is) s in
    let honest = law_of Honest a (g.met.D.Disk.reads_are_an_image c.self.inside.disk) in
    let calls = told_fewer 2 4 a b (omega arith) c.put_zeros.ensures.calls in (
      old.0,
      stands_err a b lines ms batch batch c.self.inside.count c.self.inside.gate c.self.inside.stage f honest calls old.0
          old.1 c.self.inside.count c.self.inside.gate c.self.inside.stage filed,
    )

pub returns-clause-moments : goal.returns-clause-moments
returns-clause-moments g c = λ ms s.
    let f = c.self.invariant.1 in
    let lines = c.self.invariant.0 in
    let a = g.D.Disk.course c.self.inside.disk in
    let b = g.D.Disk.course c.put_zeros.new.disk in
    let batch = held_by c.self.inside.held in
    let none : pending_of c.self.inside.stage batch ≡ None = ap (λ j. j.pending) c.self.view_is ∙ c.requires.settled in
    let closed = closed_now a lines c.self.inside.count c.self.inside.gate c.self.inside.stage batch none f in
    let filed = still_filed a b lines c.self.inside.count c.self.inside.gate c.self.inside.stage batch none f
    (c.put_zeros.ensures.closed lines f.place closed) in
    let old = subst (λ j. StandsFor g.D.Disk.course j ms) (sym c.self.view_is) s in
    let honest = law_of Honest a (g.met.D.Disk.reads_are_an_image c.self.inside.disk) in
    let calls = told_fewer 2 4 a b (omega arith) c.put_zeros.ensures.calls in
    let all = stands_unchanged a b lines ms batch batch c.self.inside.count c.self.inside.gate c.self.inside.stage f
    honest calls old.0 old.1 (c.put_zeros.ensures.moments lines f.are_lines f.place closed) in
    subst (λ j. Told (Since (λ bytes. Kept bytes ms)) (g.D.Disk.course j.disk) b) c.self.view_is all
