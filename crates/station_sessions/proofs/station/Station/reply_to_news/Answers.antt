use Rattle.station_sessions.proofs.Replying.{at_most_one, has_pass, news_replied, news_seated}
use Rattle.station_sessions.proofs.station.Station.reply_to_news.Goals as goal

pub taken-pass-requires : goal.taken-pass-requires
taken-pass-requires g c = let s = c.self.inside in has_pass s.room.now s.pass s.line c.self.invariant.0

pub returns : goal.returns
returns g c =
    let s = c.self.inside in
    let is = c.taken-pass.ensures in
    rw (← c.self.view_is, is)
    (news_replied s.room.now c.taken-pass.result c.entries-pass.result.0 s.counting s.start (record { held = g.P.Keeping.upto s.taken; failures = g.P.Keeping.failures s.taken }) s.line (rw is at c.self.invariant.0) c.args.n c.entries-pass.result.1 c.news_reply.result.0 c.news_reply.result.1
    c.entries-pass.ensures c.news_reply.ensures)

pub invariant_of-self : goal.invariant_of-self
invariant_of-self g c =
    let s = c.self.inside in
    let is = c.taken-pass.ensures in (
      news_seated s.room.now c.taken-pass.result c.entries-pass.result.0 s.counting s.start (record { held = g.P.Keeping.upto s.taken; failures = g.P.Keeping.failures s.taken }) s.line (rw is at c.self.invariant.0) c.args.n c.entries-pass.result.1 c.entries-pass.ensures,
      c.self.invariant.1,
    )

-- at most one was asked for
pub news_reply-requires : goal.news_reply-requires
news_reply-requires g c =
    let s = c.self.inside in
    let is = c.taken-pass.ensures in
    at_most_one s.room.now c.taken-pass.result c.entries-pass.result.0 s.counting s.start (record { held = g.P.Keeping.upto s.taken; failures = g.P.Keeping.failures s.taken }) s.line (rw is at c.self.invariant.0) c.args.n c.entries-pass.result.1 c.entries-pass.ensures
