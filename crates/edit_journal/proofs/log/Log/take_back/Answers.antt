use Rattle.std.proofs.Common.{◌∙◌, ap}
use Rattle.edit_journal.specs.declared.name.Name.TheVariants.{Station}
use Rattle.edit_journal.proofs.Fresh.{in_last}
use Rattle.edit_journal.proofs.log.Log.take_back.Goals as goal

pub returns-clause-agrees : goal.returns-clause-agrees
returns-clause-agrees g c = λ o e.
    let p = c.args.pass in
    let at = c.gather_pass.ensures.at in
    let agree = c.look.ensures.agree o (Station p.number) p.opening p.entries (c.look.ensures.opening ∙ e) (rw (ap (λ v. v.told) at) (in_last (Station p.number, (p.opening, p.entries)) c.args.self.now.0.told)) in
    rw (ap (λ v. v.entries) at) at agree.1
