use Rattle.flatten.proofs.RunsOfReels.{audio_cut, video_cut}
use Rattle.flatten.proofs.channels.flatten.Goals as goal

pub returns-clause-video_cut : goal.returns-clause-video_cut
returns-clause-video_cut c = video_cut c.args.table.now c.args.tracks.now c.in_ok-video.video c.requires.tracks c.in_ok-video.ensures

pub returns-clause-audio_cut : goal.returns-clause-audio_cut
returns-clause-audio_cut c = audio_cut c.args.table.now c.args.tracks.now c.in_ok-audio.audio c.requires.tracks c.in_ok-audio.ensures
