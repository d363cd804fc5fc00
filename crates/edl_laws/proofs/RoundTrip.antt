-- A list that is written makes the round trip.
use Rattle.edl_write.specs.ListEvents.{events_of}
use Rattle.edl_laws.specs.Meanings.{WrittenListsRoundTrip}
use Rattle.edl_laws.proofs.EventsPlay.{events_play_as_their_cut}
use Rattle.edl_laws.proofs.ListsRead.{written_is_read_again, written_is_short}

pub written_lists_round_trip : WrittenListsRoundTrip
written_lists_round_trip table tracks counting start rule given list lawful listed unique =
    let es = listed.0 in record {
      short = written_is_short table tracks counting start rule given es list listed.1 listed.2 unique;
      read = (
        events_of start list.names es,
        written_is_read_again table tracks counting start rule given es list lawful listed.1 listed.2 unique,
        events_play_as_their_cut table tracks counting start rule given es list listed.1 listed.2 unique,
      );
    }
