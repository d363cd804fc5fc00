use Rattle.timecode12.specs.Labels.{label_with}
use Rattle.timecode12.proofs.Digits.{is_written, spelled, read_some}
use Rattle.timecode12.proofs.spelling.read_label.Goals as goal

pub returns-clause-some : goal.returns-clause-some
returns-clause-some c =
    read_some c.args.text.now (label_with c.in_ok-hours.hours c.in_ok-minutes.minutes c.in_ok-seconds.seconds c.in_ok-frames.frames)
    (is_written c.args.text.now c.in_ok-hours.hours c.in_ok-minutes.minutes c.in_ok-seconds.seconds c.in_ok-frames.frames (c.has_marks.ensures.0 c.if-not-has_marks.false)
    ((c.number.ensures.some c.in_ok-hours.hours).0 c.in_ok-hours.was) ((c.number-2.ensures.some c.in_ok-minutes.minutes).0 c.in_ok-minutes.was)
    ((c.number-3.ensures.some c.in_ok-seconds.seconds).0 c.in_ok-seconds.was) ((c.number-4.ensures.some c.in_ok-frames.frames).0 c.in_ok-frames.was))

pub returns-clause-none : goal.returns-clause-none
returns-clause-none c = (
  (λ e. cc),
  (λ none. absurd (none (label_with c.in_ok-hours.hours c.in_ok-minutes.minutes c.in_ok-seconds.seconds c.in_ok-frames.frames)
      (spelled c.args.text.now (label_with c.in_ok-hours.hours c.in_ok-minutes.minutes c.in_ok-seconds.seconds c.in_ok-frames.frames)
      (is_written c.args.text.now c.in_ok-hours.hours c.in_ok-minutes.minutes c.in_ok-seconds.seconds c.in_ok-frames.frames (c.has_marks.ensures.0 c.if-not-has_marks.false)
      ((c.number.ensures.some c.in_ok-hours.hours).0 c.in_ok-hours.was) ((c.number-2.ensures.some c.in_ok-minutes.minutes).0 c.in_ok-minutes.was)
      ((c.number-3.ensures.some c.in_ok-seconds.seconds).0 c.in_ok-seconds.was) ((c.number-4.ensures.some c.in_ok-frames.frames).0 c.in_ok-frames.was))))),
)
