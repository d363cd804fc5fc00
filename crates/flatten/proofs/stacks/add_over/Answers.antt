use Rattle.flatten.specs.Strips.{left_from}
use Rattle.flatten.proofs.Over.{hidden, lit_not_dark, seen_through}
use Rattle.flatten.proofs.Parts.{pushed_fit}
use Rattle.flatten.proofs.stacks.add_over.Goals as goal

pub returns-in_ok-push-in_default : goal.returns-in_ok-push-in_default
returns-in_ok-push-in_default c = record {
  added = λ rest. hidden c.args.all.now c.push.new.self c.args.run rest (left_from c.args.lower.now c.args.spot) (left_from c.args.lower.now c.passed.result) (lit_not_dark c.args.run.frame c.in_default.not-Dark) c.in_ok-push-in_default.ensures.ok c.passed.ensures.frames;
  all = pushed_fit c.args.all.now c.push.new.self c.args.run c.in_ok-push-in_default.ensures.ok c.requires.all c.requires.run;
  spot = c.passed.ensures.spot;
}

pub returns-in_ok-behind-in-Dark-clause-added : goal.returns-in_ok-behind-in-Dark-clause-added
returns-in_ok-behind-in-Dark-clause-added c rest =
    seen_through c.args.all.now c.add_padded.new.all c.args.run rest (left_from c.args.lower.now c.args.spot) (left_from c.args.lower.now c.in_ok-behind-in-Dark.behind) c.in-Dark.is c.in_ok-behind-in-Dark.ensures.added c.in_ok-behind-in-Dark.ensures.frames
