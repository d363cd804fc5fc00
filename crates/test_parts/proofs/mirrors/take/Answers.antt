use Rattle.test_parts.proofs.Pairs.{one_pair}
use Rattle.test_parts.proofs.mirrors.take.Goals as goal

pub take-requires : goal.take-requires
take-requires c = record { equality = one_pair }
