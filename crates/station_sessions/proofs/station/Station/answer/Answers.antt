use Rattle.line_words.specs.Told.{line_told}
use Rattle.station_sessions.proofs.Replying.{told_line}
use Rattle.station_sessions.proofs.station.Station.answer.Goals as goal

pub returns : goal.returns
returns g c =
    told_line _ _ (line_told c.args.end c.args.text.now) c.meaning_of-read.result c.reply_to.result.0 c.reply_to.result.1 c.meaning_of-read.ensures.meant c.reply_to.ensures
