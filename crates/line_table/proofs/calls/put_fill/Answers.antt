use Rattle.std.proofs.Common.{◌≡◌, ℕ, List, ◌++◌, refl, append_assoc, codes}
use Rattle.std.specs.Fmt.{decimal}
use Rattle.protocol_parts.specs.Things.{what_text}
use Rattle.line_table.specs.CallTexts.{length_text, keep_text}
use Rattle.line_table.proofs.calls.put_fill.Goals as goal

-- piece by piece, and as one text
pieces : (out t a w f l k : List ℕ)
    → out ++ (codes "fill " ++ t ++ codes " " ++ a) ++ codes " " ++ w ++ (codes " " ++ f) ++ codes " " ++ l ++ k ≡ out ++ (codes "fill " ++ t ++ codes " " ++ a ++ codes " " ++ w ++ codes " " ++ f ++ codes " " ++ l ++ k)
pieces out t a w f l k = simp append_assoc refl

pub returns-clause-text : goal.returns-clause-text
returns-clause-text c =
    let edit = c.args.edit.now in
    let whole = rw (c.put_length.ensures.text, c.put-2.ensures.text, c.put_number.ensures.text, c.put_what.ensures.text, c.put.ensures.text, c.put_numbers.ensures.text) at c.put_keep.ensures.text in
    rw (pieces c.args.out.now.items (decimal edit.track) (decimal edit.at) (what_text edit.what) (decimal edit.from) (length_text edit.length) (keep_text edit.keep)) at whole
