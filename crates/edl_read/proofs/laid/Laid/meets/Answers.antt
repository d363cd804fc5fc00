use Rattle.std.proofs.Common.{◌+◌, ◌-◌, refl}
use Rattle.std.proofs.lemmas.Bool.{ltb-false}
use Rattle.edl_read.specs.Laying.{start_of}
use Rattle.edl_read.proofs.LaidFacts.{clear_last, clear_none}
use Rattle.edl_read.proofs.laid.Laid.meets.Goals as goal

pub returns-in-None : goal.returns-in-None
returns-in-None c off =
    clear_none c.args.self.now c.args.channel (start_of c.starts.result.now) c.args.event.now (c.args.event.now.place + (c.args.event.now.len - 1)) c.starts.ensures c.requires refl c.in-None.ensures.none

pub returns-in-Some : goal.returns-in-Some
returns-in-Some c off =
    clear_last c.args.self.now c.args.channel (start_of c.starts.result.now) c.args.event.now (c.args.event.now.place + (c.args.event.now.len - 1)) c.in-Some.field-0-0 c.in-Some.index
    c.event-other.result.now c.event-other.ensures.read c.starts.ensures c.requires refl c.in-Some.ensures.begins.1 c.event-other.ensures.event c.in-Some.ensures.last (ltb-false _ _ off)
