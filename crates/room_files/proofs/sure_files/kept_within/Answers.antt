use Rattle.std.proofs.Common.{refl}
use Rattle.room_files.proofs.Cutting.{goes_untold, is_told_still}
use Rattle.room_files.proofs.sure_files.kept_within.Goals as goal

pub returns-then-not-has_room-clause-keeps : goal.returns-then-not-has_room-clause-keeps
returns-then-not-has_room-clause-keeps c =
    goes_untold c.args.room c.args.written c.in-Some.kept c.args.name.now c.args.bytes.now c.in-Some.is (rw c.in-Some.is at c.requires) c.if-not-has_room.ensures.1

pub returns-in-Ok-clause-keeps : goal.returns-in-Ok-clause-keeps
returns-in-Ok-clause-keeps c =
    is_told_still c.args.room c.args.written c.in-Some.kept c.add.new.self c.args.name.now c.args.bytes.now c.in-Some.is (rw c.in-Some.is at c.requires) (c.if-not-has_room.ensures.0 refl) c.in-Ok.ensures.added
