use Rattle.std.proofs.Common.{◌<◌, length}
use Rattle.json_tree.specs.View.{tree_of}
use Rattle.otio_json.specs.Soundness.{IsSoundOpening}
use Rattle.otio_json.specs.Timelines.{timeline_read}
use Rattle.otio_json.proofs.SoundOpening.{timeline_sound, timeline_some, told_so}
use Rattle.otio_json.proofs.timeline.read_timeline.Goals as goal

pub returns-clause-sound : goal.returns-clause-sound
returns-clause-sound c = told_so c.timeline.result (timeline_read c.args.counting.now (tree_of c.in_ok-tree.tree)) IsSoundOpening c.timeline.ensures.read (timeline_sound c.args.counting.now (tree_of c.in_ok-tree.tree))

pub returns-clause-some : goal.returns-clause-some
returns-clause-some c = told_so c.timeline.result (timeline_read c.args.counting.now (tree_of c.in_ok-tree.tree)) (λ o. 0 < length o.tracks) c.timeline.ensures.read (timeline_some c.args.counting.now (tree_of c.in_ok-tree.tree))
