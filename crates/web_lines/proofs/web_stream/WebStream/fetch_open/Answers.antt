use Rattle.std.proofs.Common.{inl, inr, refl}
use Rattle.web_lines.proofs.LinesRead.{comes_line, on_ok}
use Rattle.web_lines.proofs.web_stream.WebStream.fetch_open.Goals as goal

pub returns-in-Ok-Some-clause-ok : goal.returns-in-Ok-Some-clause-ok
returns-in-Ok-Some-clause-ok g c =
    let reads = rw c.in-Ok-Some.field-0-is at c.in-Ok-Some.ensures.text in
    rw (← c.self.view_is) (on_ok c.keep.result (λ kept. inl (comes_line g.S.Read.remaining c.self.inside.socket c.next_text.new.socket c.keep.new.self c.in-Ok-Some.text reads kept.0 kept.1 kept.2)) c.keep.ensures.ok)

pub returns-in-Ok-None-clause-ok : goal.returns-in-Ok-None-clause-ok
returns-in-Ok-None-clause-ok g c =
    let none = rw (← c.self.view_is) at c.requires in
    rw (← c.self.view_is) (inr (none, refl, inr (rw c.in-Ok-None.field-0-is at c.in-Ok-None.ensures.end)))
