use Rattle.std.proofs.Common.{◌≡◌}
use Rattle.take_back.specs.RoomyLaws.{left-comes, left-legal, remains}
use Rattle.take_back.proofs.laws.what_is_left_is_a_history.Goals as goal

pub returns-clause-parts : goal.returns-clause-parts
returns-clause-parts g c = λ o opening now entries can comes.
    left-comes (g.O.PartObject.meaning o) (g.O.PartObject.good o) (g.O.PartObject.count o) (g.O.PartObject.opens o)
    opening now entries
    (g.met.O.PartObject.named o) (g.met.O.PartObject.opening o) can comes

pub returns-clause-answers : goal.returns-clause-answers
returns-clause-answers g c = λ o opening now told can leads.
    let r = remains (g.O.PartObject.meaning o) (g.O.PartObject.good o) (g.O.PartObject.count o) (g.O.PartObject.opens o)
    opening now told
    (g.met.O.PartObject.named o) (g.met.O.PartObject.opening o) can leads in
    (r.answers, r.leads, r.same)

pub returns-clause-legal : goal.returns-clause-legal
returns-clause-legal g c = λ o opening now entries can legal comes.
    left-legal (g.O.PartObject.meaning o) (g.O.PartObject.good o) (g.O.PartObject.count o) (g.O.PartObject.opens o)
    opening now entries
    (g.met.O.PartObject.named o) (g.met.O.PartObject.opening o) can legal comes
