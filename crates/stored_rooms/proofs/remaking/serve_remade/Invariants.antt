use Rattle.stored_rooms.proofs.remaking.serve_remade.Given as goal

abbrev pub ghosts-serve_filed : goal.ghosts-serve_filed
ghosts-serve_filed g a = record {
  table = a.counted.receipts;
  reader = a.remade.reader.number;
  kept = a.remade.entries.items;
  begun = g.D.Disk.course a.counted.file.disk;
  faults = g.D.Disk.faults a.counted.file.disk;
}
