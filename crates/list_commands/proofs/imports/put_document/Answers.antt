use Rattle.std.proofs.Common.{inl, inr, ◌∙◌}
use Rattle.list_commands.proofs.Importing.{too_long}
use Rattle.list_commands.proofs.imports.put_document.Goals as goal

pub returns-in-Err-TooLarge : goal.returns-in-Err-TooLarge
returns-in-Err-TooLarge g c =
    inr (inl (
      too_long c.args.opening.now c.in-Err-TooLarge.field-0 c.in-Err-TooLarge.field-0-is c.in-Err-TooLarge.ensures,
      rw (c.as_bytes.ensures.text ∙ c.refusal_line.ensures) at c.end_with-in-Err-TooLarge.ensures,
    ))
