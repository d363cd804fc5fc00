use Rattle.std.proofs.Common.{true}
use Rattle.edit_apply.specs.Apply.{applied_on, names_of}
use Rattle.edit_apply.specs.LinkLaws.{tracks-good}
use Rattle.edit_apply.proofs.Answering.{answers-call}
use Rattle.edit_apply.proofs.Standing.{tracks-again, tracks-named}
use Rattle.edit_apply.proofs.editor.EditorPartObject.apply.Goals as goal

pub edit-requires-clause-named : goal.edit-requires-clause-named
edit-requires-clause-named g c =
    tracks-named c.args.self.now.table (names_of c.args.call.now) c.args.parts.now.items c.requires.good

pub edit-requires-clause-good : goal.edit-requires-clause-good
edit-requires-clause-good g c =
    tracks-good c.args.self.now.table (names_of c.args.call.now) c.args.parts.now.items c.requires.good

pub returns-clause-meant : goal.returns-clause-meant
returns-clause-meant g c =
    answers-call true (applied_on c.args.self.now.table c.args.parts.now.items c.args.call.now) c.args.parts.now.items c.edit.new.parts.items c.edit.result c.edit.ensures.answers

pub returns-clause-good : goal.returns-clause-good
returns-clause-good g c =
    tracks-again c.args.self.now.table (names_of c.args.call.now) c.edit.new.parts.items c.edit.ensures.named c.edit.ensures.good
