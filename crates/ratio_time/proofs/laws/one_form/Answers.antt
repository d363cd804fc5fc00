use Rattle.ratio_time.proofs.OneForm.{one_form_lem}
use Rattle.ratio_time.proofs.laws.one_form.Goals as goal

pub returns : goal.returns
returns c = one_form_lem
