use Rattle.made_sessions.proofs.Coming.{made_opens}
use Rattle.served_rooms.proofs.made.serve_session_lines.Goals as goal

pub begin_room-requires-clause-opens : goal.begin_room-requires-clause-opens
begin_room-requires-clause-opens g c = made_opens c.in-Ok.opening c.in-Ok.ensures.opening c.in-Ok.ensures.sound
