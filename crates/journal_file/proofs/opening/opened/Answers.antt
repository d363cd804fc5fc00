use Rattle.std.proofs.Common.{◌≡◌, ◌≤◌, ◌^◌, length, sym, subst}
use Rattle.std.proofs.lemmas.Result.{err_from_is_err_and}
use Rattle.room_disks.specs.Crashes.{Told}
use Rattle.journal_file.specs.Layout.{Kept}
use Rattle.journal_file.proofs.Openings.{told_opened, told_only_read, told_not_settled, told_within}
use Rattle.journal_file.proofs.opening.opened.Goals as goal

pub returns-in_err-bytes-clause-harmless : goal.returns-in_err-bytes-clause-harmless
returns-in_err-bytes-clause-harmless g c =
    let p = err_from_is_err_and c.from_residual-in_err-bytes.result c.from_residual-in_err-bytes.ensures.1 in
    rw p.1 (told_only_read _ _ _ c.in_ok-sync.ensures.syncs c.whole_file.ensures.looks)

pub returns-in_err-records-clause-harmless : goal.returns-in_err-records-clause-harmless
returns-in_err-records-clause-harmless g c =
    let p = err_from_is_err_and c.from_residual-in_err-records.result c.from_residual-in_err-records.ensures.1 in
    let whole = subst (λ bs. Told (λ o n. bs ≡ o.now.reads) (g.D.Disk.course c.sync.new.self)
    (g.D.Disk.course c.whole_file.new.disk)) (sym c.as_slice.ensures.value) c.in_ok-bytes.ensures.whole in
    rw p.1 (told_not_settled c.as_slice.result.now _ _ _ _ c.in_ok-sync.ensures.syncs c.whole_file.ensures.looks whole
    c.in_err-records.ensures.harmless)

pub returns-clause-moments : goal.returns-clause-moments
returns-clause-moments g c =
    let whole = subst (λ bs. Told (λ o n. bs ≡ o.now.reads) (g.D.Disk.course c.sync.new.self)
    (g.D.Disk.course c.whole_file.new.disk)) (sym c.as_slice.ensures.value) c.in_ok-bytes.ensures.whole in
    told_opened (λ image. Kept image c.in_ok-records.records.items) c.as_slice.result.now _ _ _ _
    c.in_ok-records.ensures.kept c.in_ok-sync.ensures.syncs c.whole_file.ensures.looks whole
    c.in_ok-records.ensures.moments

pub returns-clause-within : goal.returns-clause-within
returns-clause-within g c =
    let whole = subst (λ bs. Told (λ o n. bs ≡ o.now.reads) (g.D.Disk.course c.sync.new.self)
    (g.D.Disk.course c.whole_file.new.disk)) (sym c.as_slice.ensures.value) c.in_ok-bytes.ensures.whole in
    let short = subst (λ bs. length bs ≤ 2 ^ 27) (sym c.as_slice.ensures.value) c.in_ok-bytes.ensures.within in
    told_within (λ image. Kept image c.in_ok-records.records.items) c.as_slice.result.now _ _ _ _ short
    c.in_ok-sync.ensures.syncs whole c.in_ok-records.ensures.moments
