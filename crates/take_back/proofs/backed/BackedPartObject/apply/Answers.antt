use Rattle.std.proofs.Common.{ap, length, ◌∙◌}
use Rattle.take_back.specs.Parts.{IsGoodKept}
use Rattle.take_back.specs.Steps.{names_of}
use Rattle.take_back.proofs.Changes.{good_either, good_length}
use Rattle.take_back.proofs.Costs.{cost_within}
use Rattle.take_back.proofs.backed.BackedPartObject.apply.Goals as goal

pub take_back-requires-clause-as_many : goal.take_back-requires-clause-as_many
take_back-requires-clause-as_many g c =
    let o = c.args.self.now.object in
    let names = (g.O.PartObject.meaning o).names in
    good_length (IsGoodKept (g.O.PartObject.good o)) (names_of names c.args.step.now.act) c.args.parts.now.items
    c.requires.good
    ∙ ap (λ a. length (names_of names a)) c.in-Back.is

pub returns-in-Back-clause-good : goal.returns-in-Back-clause-good
returns-in-Back-clause-good g c =
    let o = c.args.self.now.object in
    good_either (g.O.PartObject.good o) (names_of (g.O.PartObject.meaning o).names c.args.step.now.act)
    c.args.parts.now.items c.take_back.new.parts.items
    c.take_back.result c.requires.good c.take_back.ensures.given c.take_back.ensures.kept

pub returns-in-Back-clause-most : goal.returns-in-Back-clause-most
returns-in-Back-clause-most g c =
    cost_within g.O.PartObject.size c.args.parts.now.items c.args.steps.now c.take_back.new.steps
    c.take_back.ensures.most
