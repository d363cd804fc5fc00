use Rattle.std.proofs.Common.{◌≡◌, ℕ, ◌++◌, List, [], sym, ap, ◌∙◌, arith, subst}
use Rattle.edl_read.specs.declared.pieces.Piece.{Piece}
use Rattle.edl_read.specs.Pieces.{text_on}
use Rattle.edl_read.proofs.RunTexts.{alone_text}
use Rattle.edl_read.proofs.pieces.Pending.end.Goals as goal

pub returns : goal.returns
returns c =
    let p : Piece = c.self.inside.piece in
    subst (λ (q : Piece). c.put_run.new.out.items ≡ c.args.out.now.items ++ text_on c.args.channel q []) c.self.view_is
    (c.in_ok-put_run.ensures ∙ ap (λ (text : List ℕ). c.args.out.now.items ++ text) (sym (alone_text c.args.channel p.place p.len p.first (omega (arith, c.if-piece-eq0.false)))))
