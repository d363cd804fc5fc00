use Rattle.list_commands.proofs.Importing.{events_end}
use Rattle.list_commands.proofs.imports.import_events.Goals as goal

pub returns-in-Ok : goal.returns-in-Ok
returns-in-Ok g c =
    events_end c.args.list.now c.args.counting.now c.in-Ok.opening c.in-Ok.ensures.imports c.in-Ok.ensures.sound c.in-Ok.ensures.texts _ c.put_document.result
    c.in-Ok.ensures.allowed c.in-Ok.ensures.shows c.put_document.ensures
