use Rattle.edit_journal.proofs.journal.Blank.new.Goals as goal

pub invariant_of-result : goal.invariant_of-result
invariant_of-result g c =
    let e = c.in_ok-words.ensures in
    let b = c.args.beginning.now in
    (e.0, e.1, c.in_ok-lasts.ensures.items_if_clones_equal (λ y h. h), ((b.object, b.parts.items), c.requires.opens, e.2))
