use Rattle.timecode12.proofs.Blocks.{get_within}
use Rattle.timecode12.proofs.Told.{each_frame, each_label, one_frame, no_large, no_dropped}
use Rattle.timecode12.proofs.laws.frames_and_labels.Goals as goal

pub returns-clause-each_frame : goal.returns-clause-each_frame
returns-clause-each_frame c = each_frame

pub returns-clause-each_label : goal.returns-clause-each_label
returns-clause-each_label c = each_label

pub returns-clause-one_frame : goal.returns-clause-one_frame
returns-clause-one_frame c = one_frame

pub returns-clause-within : goal.returns-clause-within
returns-clause-within c = λ counted f l found. get_within _ f l found

pub returns-clause-small : goal.returns-clause-small
returns-clause-small c = λ counted f l found large. no_large counted l f found large

pub returns-clause-not_dropped : goal.returns-clause-not_dropped
returns-clause-not_dropped c = λ counted f l found dropped. no_dropped counted l f found dropped
