use Rattle.std.proofs.Common.{List, ℕ, ◌++◌, ap, sym, ◌∙◌, arith}
use Rattle.edl_read.proofs.RunTexts.{apart_text, follows, joined_last, joined_text}
use Rattle.edl_read.proofs.pieces.append_to_piece.Goals as goal

pub returns-then-goes_on-clause-text : goal.returns-then-goes_on-clause-text
returns-then-goes_on-clause-text c rest =
    let p = c.args.held.now in
    let q = c.args.piece.now in
    ap (λ (text : List ℕ). c.args.out.now.items ++ text)
    (joined_text c.args.channel p.place p q rest (follows p q c.requires.some c.requires.held.piece (sym c.goes_on.ensures ∙ c.if-goes_on.true)))

pub returns-then-goes_on-clause-held : goal.returns-then-goes_on-clause-held
returns-then-goes_on-clause-held c =
    let p = c.args.held.now in
    let q = c.args.piece.now in
    record {
      piece = λ some. joined_last p q c.requires.more c.requires.piece (follows p q c.requires.some c.requires.held.piece (sym c.goes_on.ensures ∙ c.if-goes_on.true));
      end = omega (arith, c.requires.held.end);
    }

pub returns-clause-text : goal.returns-clause-text
returns-clause-text c rest =
    apart_text c.args.channel c.args.out.now.items c.put_run.new.out.items c.args.held.now c.args.piece.now rest c.in_ok-put_run.ensures c.requires.some c.requires.more c.requires.held.piece c.requires.held.end
    (sym c.goes_on.ensures ∙ c.if-goes_on.false)
