use Rattle.std.proofs.Common.{sym, ◌∙◌}
use Rattle.station_sessions.specs.Outside.{outside}
use Rattle.station_sessions.specs.Served.{Knows, KnowsBut}
use Rattle.room_keepers.specs.Faults.{IsCounted}
use Rattle.room_keepers.specs.declared.fault.KeepFault.{KeepFault}
use Rattle.served_rooms.specs.Origins.{origin_of}
use Rattle.served_rooms.proofs.Seating.{still_ends}
use Rattle.served_rooms.proofs.seated.SeatedStation.serve.Goals as goal

pub unreachable-requires : goal.unreachable-requires
unreachable-requires g c = rw (sym c.take.ensures.value ∙ c.in-None.is) at (rw (← c.self.view_is) at c.requires.ready)

pub serve_session-pass-requires-clause-legal : goal.serve_session-pass-requires-clause-legal
serve_session-pass-requires-clause-legal g c κs within = (rw (sym c.take.ensures.value ∙ c.in-Some.is) at (rw (← c.self.view_is) at c.requires.ready)).legal

pub serve_session-pass-requires-clause-base : goal.serve_session-pass-requires-clause-base
serve_session-pass-requires-clause-base g c κs within = (rw (sym c.take.ensures.value ∙ c.in-Some.is) at (rw (← c.self.view_is) at c.requires.ready)).base

pub returns : goal.returns
returns g c =
    let is = sym c.take.ensures.value ∙ c.in-Some.is in
    let s = c.self.inside in
    let number = c.in-Some.pass.number in
    let known = c.serve_session-pass.result.pass.entries in
    let held = g.P.Keeping.upto c.serve_session-pass.result.taken in
    let line = outside (g.L.Source.left s.line) (g.L.Source.read_faults s.line) (g.L.Sink.taken s.line) (g.L.Sink.write_faults s.line) in
    rw (← c.self.view_is, is) (
      c.serve_session-pass.ensures.station,
      λ o kept room origin fits. record {
        ends = still_ends (Knows o (origin_of kept number) number known held) (KnowsBut o (origin_of kept number) number known held)
            (λ (fault : KeepFault). g.P.Keeping.may_fail fault × IsCounted fault (g.P.Keeping.failures c.serve_session-pass.result.taken)) line _ _ _ _ _ _ _ _ _
            c.leave.ensures.read c.leave.ensures.written (c.serve_session-pass.ensures.ends o (origin_of kept number) room origin fits);
        written = c.serve_session-pass.ensures.written origin.written;
      },
    )
