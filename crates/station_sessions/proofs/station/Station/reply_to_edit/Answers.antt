use Rattle.std.proofs.Common.{ℕ, ◌∙◌, ap, arith}
use Rattle.station_sessions.proofs.Replying.{edit_seated, edit_within, has_pass, own_edit_replied}
use Rattle.station_sessions.proofs.station.Station.reply_to_edit.Goals as goal
use Rattle.take_back.specs.Steps.{asked_by}

pub taken-pass-requires : goal.taken-pass-requires
taken-pass-requires g c = let s = c.self.inside in has_pass s.room.now s.pass s.line c.self.invariant.0

pub edit_uncounted-pass-requires : goal.edit_uncounted-pass-requires
edit_uncounted-pass-requires g c = (rw c.taken-pass.ensures at c.self.invariant.0).before

pub told_by_answer-requires : goal.told_by_answer-requires
told_by_answer-requires g c =
    let s = c.self.inside in
    let is = c.taken-pass.ensures in
    edit_within s.room.now c.taken-pass.result c.edit_uncounted-pass.result.0 s.counting s.start (record { held = g.P.Keeping.upto s.taken; failures = g.P.Keeping.failures s.taken }) s.line (rw is at c.self.invariant.0) c.asked_by-call.result c.edit_uncounted-pass.result.1 c.edit_uncounted-pass.ensures

pub returns : goal.returns
returns g c =
    let s = c.self.inside in
    let is = c.taken-pass.ensures in
    let low = rw (← c.self.view_is) at c.requires.line in
    let own = c.asked_by-call.ensures ∙ ap (λ (n : ℕ). asked_by n c.args.step) c.station.ensures.number in
    rw (← c.self.view_is, is)
    (own_edit_replied s.room.now c.taken-pass.result c.edit_uncounted-pass.result.0 s.counting s.start (record { held = g.P.Keeping.upto s.taken; failures = g.P.Keeping.failures s.taken }) s.line (rw is at c.self.invariant.0) c.args.step c.asked_by-call.result c.edit_uncounted-pass.result.1 c.short.result c.told_by_answer.result
    own (omega (arith, low)) c.requires.written c.edit_uncounted-pass.ensures (c.short.ensures ∙ c.answer_text.ensures.text) c.told_by_answer.ensures)

pub invariant_of-self : goal.invariant_of-self
invariant_of-self g c =
    let s = c.self.inside in
    let is = c.taken-pass.ensures in (
      edit_seated s.room.now c.taken-pass.result c.edit_uncounted-pass.result.0 s.counting s.start (record { held = g.P.Keeping.upto s.taken; failures = g.P.Keeping.failures s.taken }) s.line (rw is at c.self.invariant.0) c.asked_by-call.result c.edit_uncounted-pass.result.1 c.edit_uncounted-pass.ensures,
      c.self.invariant.1,
    )
