use Rattle.flatten.proofs.RunsOfReels.{frames_runs}
use Rattle.flatten.proofs.laws.the_runs_of_a_channel_are_its_frames.Goals as goal

pub returns : goal.returns
returns c = frames_runs
