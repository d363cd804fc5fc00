use Rattle.std.proofs.Common.{◌∙◌, Some, ap, arith}
use Rattle.mirror_laws.proofs.Gaps.{gaps}
use Rattle.mirror_laws.proofs.Transcripts.{replies_of, sent_so}
use Rattle.mirror_laws.proofs.laws.only_gaps_are_refused.Goals as goal

pub returns : goal.returns
returns c = λ o h from station lines replies before after refusal opens legal all transcript told first.
    gaps h all (omega (arith, legal.within)) o opens legal replies before after refusal (replies_of o h from station lines replies transcript)
    (told ∙ ap Some (sent_so replies)) first
