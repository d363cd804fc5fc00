use Rattle.std.proofs.Common.{◌≡◌, drop, map, option_map}
use Rattle.room_files.specs.Files.{or_earlier, content_in, found_content}
use Rattle.room_files.specs.FilesInside.{named}
use Rattle.room_files.proofs.memory_files.find.Given as goal

abbrev pub invariant-loop-file : goal.invariant-loop-file
invariant-loop-file l = or_earlier (content_in (map named (drop l.file-index l.files)) l.name) (found_content (option_map (λ b. b.now) l.found)) ≡ content_in (map named l.files) l.name
