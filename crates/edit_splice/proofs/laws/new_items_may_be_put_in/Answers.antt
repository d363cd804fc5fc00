use Rattle.edit_splice.proofs.Keeping.{kept_spliced}
use Rattle.edit_splice.proofs.laws.new_items_may_be_put_in.Goals as goal

pub returns : goal.returns
returns c = kept_spliced
