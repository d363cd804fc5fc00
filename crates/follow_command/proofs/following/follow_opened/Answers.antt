use Rattle.std.proofs.Common.{◌≡◌, List, map, ap, ◌∙◌, subst}
use Rattle.command_files.specs.Ports.{change, input_told, output_told}
use Rattle.cut_steps.specs.CutSteps.{fresh_tracks}
use Rattle.take_back.specs.Parts.{fresh}
use Rattle.follow_command.specs.Follows.{WritesMirror}
use Rattle.follow_command.specs.Goes.{CutMirror}
use Rattle.follow_command.proofs.Ending.{can_open_so, ends_done, ends_stopped, opened}
use Rattle.follow_command.proofs.following.follow_opened.Goals as goal

pub open-mirror-requires : goal.open-mirror-requires
open-mirror-requires g c = record {
  opens = can_open_so c.args.opening c.cut_object.result c.in-Ok.parts.items c.requires.sound c.requires.some c.cut_object.ensures
      (c.in-Ok.ensures ∙ ap (map fresh) c.into_vec.ensures);
}

pub returns-in-Ok-take_lines : goal.returns-in-Ok-take_lines
returns-in-Ok-take_lines g c =
    let input = change (input_told g.S.Source.left g.S.Source.read_faults) c.args.input.now c.take_lines.new.input in
    let output = change (output_told g.K.Sink.taken g.K.Sink.write_faults) c.args.output.now c.write_mirror.new.output in
    let first = opened c.args.opening c.new-follower.result c.open-mirror.result c.cut_object.result c.in-Ok.parts.items c.new-follower.ensures
    c.open-mirror.ensures.object c.cut_object.ensures c.open-mirror.ensures.entries (c.in-Ok.ensures ∙ ap (map fresh) c.into_vec.ensures) c.open-mirror.ensures.mirror in
    ends_done c.args.opening c.new-follower.result c.take_lines.new.taker input output c.write_mirror.result first.0 first.1
    c.in-Ok-take_lines.ensures.0 c.in-Ok-take_lines.ensures.1
    (subst (λ (m : CutMirror). WritesMirror m output c.write_mirror.result) c.mirror.ensures c.write_mirror.ensures)

pub returns : goal.returns
returns g c =
    let input = change (input_told g.S.Source.left g.S.Source.read_faults) c.args.input.now c.take_lines.new.input in
    let output = change (output_told g.K.Sink.taken g.K.Sink.write_faults) c.args.output.now c.end_stopped.new.output in
    let first = opened c.args.opening c.new-follower.result c.open-mirror.result c.cut_object.result c.in-Ok.parts.items c.new-follower.ensures
    c.open-mirror.ensures.object c.cut_object.ensures c.open-mirror.ensures.entries (c.in-Ok.ensures ∙ ap (map fresh) c.into_vec.ensures) c.open-mirror.ensures.mirror in
    ends_stopped c.args.opening c.new-follower.result c.take_lines.new.taker input output c.end_stopped.result c.in-Err-take_lines.stop first.0
    c.in-Err-take_lines.ensures c.end_stopped.ensures
