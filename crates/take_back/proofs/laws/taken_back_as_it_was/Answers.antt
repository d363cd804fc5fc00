use Rattle.take_back.proofs.AsItWas.{as_it_was}
use Rattle.take_back.proofs.laws.taken_back_as_it_was.Goals as goal

pub returns : goal.returns
returns g c = λ o opening before done after entries between by call answer can comes does apart leads.
    as_it_was (g.O.PartObject.meaning o) (g.O.PartObject.good o) (g.O.PartObject.count o) (g.O.PartObject.opens o)
    opening before done after entries between by call answer
    (g.met.O.PartObject.named o) (g.met.O.PartObject.opening o) can comes does apart leads
