use Rattle.std.proofs.Common.{◌≡◌, ◌++◌, length, Some, IfSome, IsSome, sym, ◌∙◌, ap, subst}
use Rattle.std.proofs.Common.{arith, length-append}
use Rattle.std.proofs.lemmas.Result.{err_from_is_err_and}
use Rattle.room_disks.specs.Crashes.{Within, Told, Since}
use Rattle.journal_file.specs.Standing.{StandsFor, HoldsLines}
use Rattle.journal_file.specs.Stages.{held_by, pending_of, Fits}
use Rattle.journal_file.proofs.Moments.{law_of}
use Rattle.journal_file.proofs.Appends.{Honest}
use Rattle.journal_file.proofs.Standings.{refiled, gate_room, stands_ok, stands_err, stands_meanwhile, is_pending}
use Rattle.journal_file.proofs.Standings.{fits_pending, own_pending, some_pending}
use Rattle.std.proofs.lemmas.Option.{same_Some}
use Rattle.journal_file.proofs.journal_file.JournalFile.retry.Goals as goal

pub put_held-requires : goal.put_held-requires
put_held-requires g c =
    let f = c.self.invariant.1 in
    let lines = c.self.invariant.0 in
    let batch = held_by c.self.inside.held in
    let fits : Fits c.self.inside.count batch = fits_pending c.self.inside.stage c.self.inside.count (held_by c.self.inside.held) (subst (λ j. IsSome j.pending) (sym c.self.view_is) c.requires.pending) f.held in
    record {
      fits = fits;
      gate = gate_room (g.D.Disk.course c.self.inside.disk) lines c.self.inside.count c.self.inside.gate
          c.self.inside.stage (held_by c.self.inside.held) batch f fits;
    }

pub returns-in_err-put_held-clause-err : goal.returns-in_err-put_held-clause-err
returns-in_err-put_held-clause-err g c =
    let p = err_from_is_err_and c.from_residual.result c.from_residual.ensures.1 in
    rw p.1 (λ ms s.
    let f = c.self.invariant.1 in
    let lines = c.self.invariant.0 in
    let batch = held_by c.self.inside.held in
    let fits : Fits c.self.inside.count batch = fits_pending c.self.inside.stage c.self.inside.count (held_by c.self.inside.held) (subst (λ j. IsSome j.pending) (sym c.self.view_is) c.requires.pending) f.held in
    let again : IfSome (pending_of c.self.inside.stage (held_by c.self.inside.held)) (λ p. p ≡ batch) = own_pending c.self.inside.stage (held_by c.self.inside.held) in
    let filed = refiled (g.D.Disk.course c.self.inside.disk) lines c.self.inside.count c.self.inside.gate
    c.self.inside.stage (held_by c.self.inside.held) batch again fits f in
    let old = subst (λ j. StandsFor g.D.Disk.course j ms) (sym c.self.view_is) s in
    let honest = law_of Honest (g.D.Disk.course c.self.inside.disk)
    (g.met.D.Disk.reads_are_an_image c.self.inside.disk) in (
      old.0 ∙ sym c.in_err-put_held.ensures.same,
      stands_err (g.D.Disk.course c.self.inside.disk) (g.D.Disk.course c.put_held.new.disk) lines ms
          (held_by c.self.inside.held) batch c.self.inside.count c.self.inside.gate c.self.inside.stage f honest
          c.put_held.ensures.calls old.0 old.1
          _ _ c.put_held.new.stage (c.in_err-put_held.ensures.err lines filed),
    ))

pub returns-in_err-put_held-clause-pending : goal.returns-in_err-put_held-clause-pending
returns-in_err-put_held-clause-pending g c =
    let p = err_from_is_err_and c.from_residual.result c.from_residual.ensures.1 in
    let f = c.self.invariant.1 in
    let lines = c.self.invariant.0 in
    let batch = held_by c.self.inside.held in
    let fits : Fits c.self.inside.count batch = fits_pending c.self.inside.stage c.self.inside.count (held_by c.self.inside.held) (subst (λ j. IsSome j.pending) (sym c.self.view_is) c.requires.pending) f.held in
    let again : IfSome (pending_of c.self.inside.stage (held_by c.self.inside.held)) (λ p. p ≡ batch) = own_pending c.self.inside.stage (held_by c.self.inside.held) in
    let filed = refiled (g.D.Disk.course c.self.inside.disk) lines c.self.inside.count c.self.inside.gate
    c.self.inside.stage (held_by c.self.inside.held) batch again fits f in
    let own : Some batch ≡ c.args.self.now.pending = sym (some_pending c.self.inside.stage batch
    (subst (λ j. IsSome j.pending) (sym c.self.view_is) c.requires.pending)) ∙ ap (λ j. j.pending) c.self.view_is in
    rw p.1 (is_pending c.put_held.new.stage batch c.in_err-put_held.ensures.pending ∙ own)

pub returns-in_err-put_held-clause-moments : goal.returns-in_err-put_held-clause-moments
returns-in_err-put_held-clause-moments g c = λ ms s.
    let f = c.self.invariant.1 in
    let lines = c.self.invariant.0 in
    let batch = held_by c.self.inside.held in
    let fits : Fits c.self.inside.count batch = fits_pending c.self.inside.stage c.self.inside.count (held_by c.self.inside.held) (subst (λ j. IsSome j.pending) (sym c.self.view_is) c.requires.pending) f.held in
    let again : IfSome (pending_of c.self.inside.stage (held_by c.self.inside.held)) (λ p. p ≡ batch) = own_pending c.self.inside.stage (held_by c.self.inside.held) in
    let filed = refiled (g.D.Disk.course c.self.inside.disk) lines c.self.inside.count c.self.inside.gate
    c.self.inside.stage (held_by c.self.inside.held) batch again fits f in
    let old = subst (λ j. StandsFor g.D.Disk.course j ms) (sym c.self.view_is) s in
    let honest = law_of Honest (g.D.Disk.course c.self.inside.disk)
    (g.met.D.Disk.reads_are_an_image c.self.inside.disk) in
    let own : Some batch ≡ c.args.self.now.pending = sym (some_pending c.self.inside.stage batch
    (subst (λ j. IsSome j.pending) (sym c.self.view_is) c.requires.pending)) ∙ ap (λ j. j.pending) c.self.view_is in
    let all = stands_meanwhile (g.D.Disk.course c.self.inside.disk) (g.D.Disk.course c.put_held.new.disk) lines ms
    (held_by c.self.inside.held) batch c.self.inside.count c.self.inside.gate c.self.inside.stage f honest
    c.put_held.ensures.calls old.0 old.1
    (c.put_held.ensures.moments lines filed) in
    subst (λ o. Told (Since (HoldsLines o ms)) (g.D.Disk.course c.args.self.now.disk)
    (g.D.Disk.course c.put_held.new.disk)) own
    (subst (λ j. Told (Since (HoldsLines (Some batch) ms)) (g.D.Disk.course j.disk)
    (g.D.Disk.course c.put_held.new.disk)) c.self.view_is all)

pub invariant_of-self : goal.invariant_of-self
invariant_of-self g c =
    let f = c.self.invariant.1 in
    let lines = c.self.invariant.0 in
    let batch = held_by c.self.inside.held in
    let fits : Fits c.self.inside.count batch = fits_pending c.self.inside.stage c.self.inside.count (held_by c.self.inside.held) (subst (λ j. IsSome j.pending) (sym c.self.view_is) c.requires.pending) f.held in
    let again : IfSome (pending_of c.self.inside.stage (held_by c.self.inside.held)) (λ p. p ≡ batch) = own_pending c.self.inside.stage (held_by c.self.inside.held) in
    let filed = refiled (g.D.Disk.course c.self.inside.disk) lines c.self.inside.count c.self.inside.gate
    c.self.inside.stage (held_by c.self.inside.held) batch again fits f in
    (lines, c.in_err-put_held.ensures.err lines filed)

pub invariant_of-self-2 : goal.invariant_of-self-2
invariant_of-self-2 g c =
    let f = c.self.invariant.1 in
    let lines = c.self.invariant.0 in
    let batch = held_by c.self.inside.held in
    let fits : Fits c.self.inside.count batch = fits_pending c.self.inside.stage c.self.inside.count (held_by c.self.inside.held) (subst (λ j. IsSome j.pending) (sym c.self.view_is) c.requires.pending) f.held in
    let again : IfSome (pending_of c.self.inside.stage (held_by c.self.inside.held)) (λ p. p ≡ batch) = own_pending c.self.inside.stage (held_by c.self.inside.held) in
    let filed = refiled (g.D.Disk.course c.self.inside.disk) lines c.self.inside.count c.self.inside.gate
    c.self.inside.stage (held_by c.self.inside.held) batch again fits f in
    (lines ++ batch, c.in_ok-put_held.ensures.ok lines filed)

pub returns-clause-ok : goal.returns-clause-ok
returns-clause-ok g c = λ ms b is s.
    let f = c.self.invariant.1 in
    let lines = c.self.invariant.0 in
    let batch = held_by c.self.inside.held in
    let fits : Fits c.self.inside.count batch = fits_pending c.self.inside.stage c.self.inside.count (held_by c.self.inside.held) (subst (λ j. IsSome j.pending) (sym c.self.view_is) c.requires.pending) f.held in
    let again : IfSome (pending_of c.self.inside.stage (held_by c.self.inside.held)) (λ p. p ≡ batch) = own_pending c.self.inside.stage (held_by c.self.inside.held) in
    let filed = refiled (g.D.Disk.course c.self.inside.disk) lines c.self.inside.count c.self.inside.gate
    c.self.inside.stage (held_by c.self.inside.held) batch again fits f in
    let old = subst (λ j. StandsFor g.D.Disk.course j ms) (sym c.self.view_is) s in
    let honest = law_of Honest (g.D.Disk.course c.self.inside.disk)
    (g.met.D.Disk.reads_are_an_image c.self.inside.disk) in
    let own : Some batch ≡ c.args.self.now.pending = sym (some_pending c.self.inside.stage batch
    (subst (λ j. IsSome j.pending) (sym c.self.view_is) c.requires.pending)) ∙ ap (λ j. j.pending) c.self.view_is in
    let same : batch ≡ b = same_Some batch b (own ∙ is) in
    let all = stands_ok (g.D.Disk.course c.self.inside.disk) (g.D.Disk.course c.put_held.new.disk) lines ms
    (held_by c.self.inside.held) batch c.self.inside.count c.self.inside.gate c.self.inside.stage f honest
    c.put_held.ensures.calls old.0 old.1 _ _ c.put_held.new.stage (c.in_ok-put_held.ensures.ok lines filed) in (
      omega (arith, length-append ms b, old.0, c.in_ok-put_held.ensures.counted, ap length same),
      subst (λ l. IfSome (g.D.Disk.course c.put_held.new.disk) (λ k. Within (HoldsLines (pending_of c.put_held.new.stage batch) (ms ++ l)) k.now)) same all,
    )

pub returns-clause-counted : goal.returns-clause-counted
returns-clause-counted g c = λ b is.
    let own : Some (held_by c.self.inside.held) ≡ c.args.self.now.pending = sym (some_pending c.self.inside.stage (held_by c.self.inside.held)
    (subst (λ j. IsSome j.pending) (sym c.self.view_is) c.requires.pending)) ∙ ap (λ j. j.pending) c.self.view_is in
    let same : held_by c.self.inside.held ≡ b = same_Some (held_by c.self.inside.held) b (own ∙ is) in
    omega (arith, c.in_ok-put_held.ensures.counted, ap length same, ap (λ j. j.count) c.self.view_is)

pub returns-clause-moments : goal.returns-clause-moments
returns-clause-moments g c = λ ms s.
    let f = c.self.invariant.1 in
    let lines = c.self.invariant.0 in
    let batch = held_by c.self.inside.held in
    let fits : Fits c.self.inside.count batch = fits_pending c.self.inside.stage c.self.inside.count (held_by c.self.inside.held) (subst (λ j. IsSome j.pending) (sym c.self.view_is) c.requires.pending) f.held in
    let again : IfSome (pending_of c.self.inside.stage (held_by c.self.inside.held)) (λ p. p ≡ batch) = own_pending c.self.inside.stage (held_by c.self.inside.held) in
    let filed = refiled (g.D.Disk.course c.self.inside.disk) lines c.self.inside.count c.self.inside.gate
    c.self.inside.stage (held_by c.self.inside.held) batch again fits f in
    let old = subst (λ j. StandsFor g.D.Disk.course j ms) (sym c.self.view_is) s in
    let honest = law_of Honest (g.D.Disk.course c.self.inside.disk)
    (g.met.D.Disk.reads_are_an_image c.self.inside.disk) in
    let own : Some batch ≡ c.args.self.now.pending = sym (some_pending c.self.inside.stage batch
    (subst (λ j. IsSome j.pending) (sym c.self.view_is) c.requires.pending)) ∙ ap (λ j. j.pending) c.self.view_is in
    let all = stands_meanwhile (g.D.Disk.course c.self.inside.disk) (g.D.Disk.course c.put_held.new.disk) lines ms
    (held_by c.self.inside.held) batch c.self.inside.count c.self.inside.gate c.self.inside.stage f honest
    c.put_held.ensures.calls old.0 old.1
    (c.put_held.ensures.moments lines filed) in
    subst (λ o. Told (Since (HoldsLines o ms)) (g.D.Disk.course c.args.self.now.disk)
    (g.D.Disk.course c.put_held.new.disk)) own
    (subst (λ j. Told (Since (HoldsLines (Some batch) ms)) (g.D.Disk.course j.disk)
    (g.D.Disk.course c.put_held.new.disk)) c.self.view_is all)
