use Rattle.station_sessions.proofs.Transcripts.{transcripts_stay}
use Rattle.station_sessions.proofs.laws.transcripts_stay.Goals as goal

pub returns : goal.returns
returns c = transcripts_stay
