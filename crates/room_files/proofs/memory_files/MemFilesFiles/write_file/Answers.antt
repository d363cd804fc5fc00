use Rattle.std.proofs.Common.{ap, map, option_map}
use Rattle.room_files.specs.FilesInside.{named}
use Rattle.room_files.proofs.Contents.{keeps-whole, keeps-others, put-keeps}
use Rattle.room_files.proofs.memory_files.MemFilesFiles.write_file.Goals as goal

pub returns-in-Ok-put-clause-holds : goal.returns-in-Ok-put-clause-holds
returns-in-Ok-put-clause-holds c =
    let k = put-keeps (option_map (λ v. map named v.items) c.self.inside.files) c.put.new.self.files c.args.name.now c.args.bytes.now (ap (λ s. s.files) c.in-Ok-put.ensures.ok) in
    keeps-whole _ _ _ _ k

pub returns-in-Ok-put-clause-others : goal.returns-in-Ok-put-clause-others
returns-in-Ok-put-clause-others c =
    let k = put-keeps (option_map (λ v. map named v.items) c.self.inside.files) c.put.new.self.files c.args.name.now c.args.bytes.now (ap (λ s. s.files) c.in-Ok-put.ensures.ok) in
    rw (← c.self.view_is) (keeps-others _ _ _ _ k)
