use Rattle.std.proofs.Common.{◌++◌, ◌∷◌, [], inl, ap, subst, ◌∙◌, arith}
use Rattle.station_sessions.specs.Outside.{Outside, outside}
use Rattle.station_sessions.specs.Rooms.{History}
use Rattle.station_sessions.specs.Transcript.{new_room}
use Rattle.station_sessions.proofs.Knowing.{fresh_base, fresh_legal, fresh_origin}
use Rattle.cut_server.specs.Runs.{JournalEnds}
use Rattle.station_sessions.specs.declared.serve.End.TheVariants as end
use Rattle.served_rooms.proofs.Closing.{closed, has_zero}
use Rattle.cut_server.proofs.Telling.{session_ends, run_ends, text_by}
use Rattle.cut_server.proofs.main_call.run_session.Goals as goal

pub serve_session-pass-requires-clause-legal : goal.serve_session-pass-requires-clause-legal
serve_session-pass-requires-clause-legal g c κs within = fresh_legal c.args.room c.only_pass-passes.result.1 c.only_pass-passes.ensures.pass.1

pub serve_session-pass-requires-clause-base : goal.serve_session-pass-requires-clause-base
serve_session-pass-requires-clause-base g c κs within = fresh_base c.only_pass-passes.result.1 c.only_pass-passes.ensures.pass.1

pub close-entries-requires : goal.close-entries-requires
close-entries-requires g c =
    let are = c.push_reserved.ensures.items ∙ ap (λ ps. ps ++ c.serve_session-pass.result.pass ∷ []) c.only_pass-passes.ensures.none in
    rw (c.requires.stations, are, c.serve_session-pass.ensures.station, c.only_pass-passes.ensures.pass.0) (record { all = has_zero })

pub put_journal-requires-clause-text : goal.put_journal-requires-clause-text
put_journal-requires-clause-text g c =
    let o = c.requires.opened.0 in
    let are = c.push_reserved.ensures.items ∙ ap (λ ps. ps ++ c.serve_session-pass.result.pass ∷ []) c.only_pass-passes.ensures.none in
    let journal = c.close-entries.ensures in
    let closes = closed o c.args.room c.args.setting.counting c.args.setting.start c.push_reserved.new.self.items c.serve_session-pass.result.pass c.close-entries.result.items c.requires.opened.1 are
    (c.serve_session-pass.ensures.station ∙ c.only_pass-passes.ensures.pass.0) journal.legal journal.passes journal.stations in
    let written = c.serve_session-pass.ensures.written (fresh_origin c.only_pass-passes.result.1 c.only_pass-passes.ensures.pass.1).written in
    rw c.deref.ensures.value (text_by o c.serve_session-pass.result.pass.entries c.close-entries.result.items closes (rw c.only_pass-passes.ensures.pass.0 at written))

pub returns-in-Ended-clause-ends : goal.returns-in-Ended-clause-ends
returns-in-Ended-clause-ends g c = λ o is.
    let are = c.push_reserved.ensures.items ∙ ap (λ ps. ps ++ c.serve_session-pass.result.pass ∷ []) c.only_pass-passes.ensures.none in
    let journal = c.close-entries.ensures in
    let closes = closed o c.args.room c.args.setting.counting c.args.setting.start c.push_reserved.new.self.items c.serve_session-pass.result.pass c.close-entries.result.items is are
    (c.serve_session-pass.ensures.station ∙ c.only_pass-passes.ensures.pass.0) journal.legal journal.passes journal.stations in
    let ended = rw (c.only_pass-passes.ensures.pass.0, c.in-Ended.is) at (c.serve_session-pass.ensures.ends o new_room is (fresh_origin c.only_pass-passes.result.1 c.only_pass-passes.ensures.pass.1) (omega arith)) in
    let mid : Outside = outside (g.L.Source.left c.serve_session-pass.new.line) (g.L.Source.read_faults c.serve_session-pass.new.line) (g.L.Sink.taken c.serve_session-pass.new.line) (g.L.Sink.write_faults c.serve_session-pass.new.line) in
    let new : Outside = outside (g.L.Source.left c.put_journal.new.line) (g.L.Source.read_faults c.put_journal.new.line) (g.L.Sink.taken c.put_journal.new.line) (g.L.Sink.write_faults c.put_journal.new.line) in
    run_ends o 100000 c.serve_session-pass.result.pass.entries c.close-entries.result.items
    (outside (g.L.Source.left c.args.line.now) (g.L.Source.read_faults c.args.line.now) (g.L.Sink.taken c.args.line.now) (g.L.Sink.write_faults c.args.line.now))
    mid new c.put_journal.result closes ended
    (subst (λ (h : History). JournalEnds h mid new c.put_journal.result) c.deref.ensures.value c.put_journal.ensures.ends)

pub returns-in-ReadFault-clause-ends : goal.returns-in-ReadFault-clause-ends
returns-in-ReadFault-clause-ends g c = λ o is.
    let are = c.push_reserved.ensures.items ∙ ap (λ ps. ps ++ c.serve_session-pass.result.pass ∷ []) c.only_pass-passes.ensures.none in
    let journal = c.close-entries.ensures in
    let closes = closed o c.args.room c.args.setting.counting c.args.setting.start c.push_reserved.new.self.items c.serve_session-pass.result.pass c.close-entries.result.items is are
    (c.serve_session-pass.ensures.station ∙ c.only_pass-passes.ensures.pass.0) journal.legal journal.passes journal.stations in
    let ended = rw (c.only_pass-passes.ensures.pass.0, c.in-ReadFault.is) at (c.serve_session-pass.ensures.ends o new_room is (fresh_origin c.only_pass-passes.result.1 c.only_pass-passes.ensures.pass.1) (omega arith)) in
    session_ends o 100000 0 c.serve_session-pass.result.pass.entries c.close-entries.result.items _ _ end.ReadFault closes ended

pub returns-in-WriteFault-clause-ends : goal.returns-in-WriteFault-clause-ends
returns-in-WriteFault-clause-ends g c = λ o is.
    let are = c.push_reserved.ensures.items ∙ ap (λ ps. ps ++ c.serve_session-pass.result.pass ∷ []) c.only_pass-passes.ensures.none in
    let journal = c.close-entries.ensures in
    let closes = closed o c.args.room c.args.setting.counting c.args.setting.start c.push_reserved.new.self.items c.serve_session-pass.result.pass c.close-entries.result.items is are
    (c.serve_session-pass.ensures.station ∙ c.only_pass-passes.ensures.pass.0) journal.legal journal.passes journal.stations in
    let ended = rw (c.only_pass-passes.ensures.pass.0, c.in-WriteFault.is) at (c.serve_session-pass.ensures.ends o new_room is (fresh_origin c.only_pass-passes.result.1 c.only_pass-passes.ensures.pass.1) (omega arith)) in
    inl (session_ends o 100000 0 c.serve_session-pass.result.pass.entries c.close-entries.result.items _ _ end.WriteFault closes ended)

pub returns-in-TooMuchInput-clause-ends : goal.returns-in-TooMuchInput-clause-ends
returns-in-TooMuchInput-clause-ends g c = λ o is.
    let are = c.push_reserved.ensures.items ∙ ap (λ ps. ps ++ c.serve_session-pass.result.pass ∷ []) c.only_pass-passes.ensures.none in
    let journal = c.close-entries.ensures in
    let closes = closed o c.args.room c.args.setting.counting c.args.setting.start c.push_reserved.new.self.items c.serve_session-pass.result.pass c.close-entries.result.items is are
    (c.serve_session-pass.ensures.station ∙ c.only_pass-passes.ensures.pass.0) journal.legal journal.passes journal.stations in
    let ended = rw (c.only_pass-passes.ensures.pass.0, c.in-TooMuchInput.is) at (c.serve_session-pass.ensures.ends o new_room is (fresh_origin c.only_pass-passes.result.1 c.only_pass-passes.ensures.pass.1) (omega arith)) in
    session_ends o 100000 0 c.serve_session-pass.result.pass.entries c.close-entries.result.items _ _ end.TooMuchInput closes ended

pub unreachable-requires : goal.unreachable-requires
unreachable-requires g c =
    let o = c.requires.opened in
    let ended = rw c.in-DiskFault.is at (c.serve_session-pass.ensures.ends o.0 new_room o.1 (fresh_origin c.only_pass-passes.result.1 c.only_pass-passes.ensures.pass.1) (omega arith)) in
    absurd ended.0.0

pub unreachable-requires-in-KeepMemory : goal.unreachable-requires-in-KeepMemory
unreachable-requires-in-KeepMemory g c =
    let o = c.requires.opened in
    let ended = rw c.in-KeepMemory.is at (c.serve_session-pass.ensures.ends o.0 new_room o.1 (fresh_origin c.only_pass-passes.result.1 c.only_pass-passes.ensures.pass.1) (omega arith)) in
    absurd ended.0.0
