use Rattle.std.proofs.Common.{arith}
use Rattle.station_sessions.specs.Rooms.{room_of}
use Rattle.reply_audits.proofs.Goings.{goings_rows, known_there, own_there, rows_goings}
use Rattle.reply_audits.proofs.laws.rows_are_goings.Goals as goal

pub returns-clause-known : goal.returns-clause-known
returns-clause-known c = λ setting opening h station lines replies.
    known_there (room_of setting) opening h station lines replies

pub returns-clause-own : goal.returns-clause-own
returns-clause-own c = λ setting opening h station lines replies.
    own_there (room_of setting) opening h station lines replies

pub returns-clause-goings : goal.returns-clause-goings
returns-clause-goings c = λ setting opening h station lines replies count told points few enough goes.
    goings_rows (room_of setting) opening h station lines replies 0 count 0 told points (omega (arith, few)) (omega (arith, enough)) goes

pub returns-clause-rows : goal.returns-clause-rows
returns-clause-rows c = λ setting opening h station lines replies count told points few enough rows.
    rows_goings (room_of setting) opening h station lines replies 0 count 0 told points (omega (arith, few)) (omega (arith, enough)) rows
