use Rattle.std.proofs.Common.{ap, sym}
use Rattle.otio_text.specs.Documents.{clip_if, clip_of}
use Rattle.otio_text.proofs.Growing.{stays}
use Rattle.otio_text.proofs.writing.put_media.Goals as goal

pub returns-in-None : goal.returns-in-None
returns-in-None c =
    stays c.args.out.now (clip_if c.args.table.now c.args.rate c.args.number c.args.source c.args.len)
    (ap (λ o. clip_of c.args.table.now.reels c.args.rate o c.args.source c.args.len) (sym c.in-None.ensures))
