use Rattle.std.proofs.Common.{arith}
use Rattle.test_lists.proofs.Unnamed.{one_more, unnamed_still}
use Rattle.test_lists.proofs.forgetful.ForgetfulReelNamer.name.Goals as goal

pub invariant_of-self-2 : goal.invariant_of-self-2
invariant_of-self-2 c =
    let was = c.self.invariant.1 c.if-self-ge999.false in (
      c.in_ok-name.ensures.names,
      λ few. rw c.in_ok-name.ensures.grows (
        omega (arith, was.0, one_more c.self.inside.namer c.args.reel c.in_ok-name.name),
        unnamed_still c.self.inside.namer c.args.reel c.in_ok-name.name c.self.inside.reel c.if-reel-self.false was.1,
      ),
    )
