use Rattle.std.proofs.Common.{ap, ◌∙◌}
use Rattle.std.specs.Prelude.{decimal}
use Rattle.web_lines.proofs.PageHeads.{head_of_page}
use Rattle.web_lines.proofs.responses.page_head.Goals as goal

pub returns : goal.returns
returns c =
    let counted = c.as_bytes.ensures.value ∙ (c.format-length.ensures.text ∙ ap decimal c.in_ok-page_len.ensures) in
    head_of_page c.put_head.new.out.items c.new-out.result.items c.as_bytes.result.now c.as_bytes-2.result.now c.args.page c.new-out.ensures.items counted c.as_bytes-2.ensures.value
    c.in_ok-put_head.ensures
