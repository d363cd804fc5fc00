use Rattle.std.proofs.Common.{inl}
use Rattle.edl_laws.proofs.RoundTrip.{written_lists_round_trip}
use Rattle.list_commands.proofs.cuts.put_list.Goals as goal

pub returns-in-Ok : goal.returns-in-Ok
returns-in-Ok g c =
    inl (record {
      list = c.in-Ok.list;
      is_list = c.in-Ok.ensures.list;
      names = c.in-Ok.ensures.names;
      again =
          written_lists_round_trip c.args.table.now c.args.tracks.now c.args.counting.now c.args.start ((goal.ReelNamer-dyn g (c.args.namer.vtable, c.args.namer.value)).rule c.args.namer.value)
          ((goal.ReelNamer-dyn g (c.args.namer.vtable, c.args.namer.value)).given c.args.namer.value) c.in-Ok.list (rw c.drop_frame-lawful.ensures.value at c.drop_frame-lawful.ensures.only) c.in-Ok.ensures.list c.in-Ok.ensures.names;
      put = rw c.as_slice.ensures at c.end_with.ensures;
    })
