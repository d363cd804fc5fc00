-- What a piece does to the pending bytes.
use Rattle.std.proofs.Common.{◌≡◌, ◌+◌, [], ◌∷◌, List, ℕ, length, take, Some, None, position, sym, ap, ◌∙◌, arith, add-one}
use Rattle.std.proofs.lemmas.List.{take_all}
use Rattle.line_words.specs.Lines.{Line, is_lf, ended_line}
use Rattle.line_words.specs.Pieces.{grown, ended, pending_after}
use Rattle.line_words.proofs.PieceLaws.{grown_none, no_line, one_line}
use Rattle.line_words.proofs.reader.LineReader.feed.Goals as goal

all_bytes : (xs : List ℕ) → take (length xs) xs ≡ xs
all_bytes xs = take_all (length xs) xs (omega arith)

none_told : (p : Line) (xs : List ℕ) → grown p [] ≡ p → position is_lf xs ≡ None → [] ≡ ended p (take (length xs) xs)
none_told p xs w h = let n = no_line p xs w h in sym (ap (ended p) (all_bytes xs) ∙ n.lines)

none_pending : (p q : Line) (xs : List ℕ) → grown p [] ≡ p → position is_lf xs ≡ None → q ≡ grown p xs → q ≡ pending_after p (take (length xs) xs)
none_pending p q xs w h e = let n = no_line p xs w h in e ∙ sym (ap (pending_after p) (all_bytes xs) ∙ n.pending)

one_told : (p q r : Line) (xs : List ℕ) (i : ℕ) → grown p [] ≡ p → position is_lf xs ≡ Some i → q ≡ grown p (take i xs) → r ≡ ended_line q → r ∷ [] ≡ ended p (take (i + 1) xs)
one_told p q r xs i w h e f = rw add-one (ap (λ l. l ∷ []) (f ∙ ap ended_line e) ∙ sym (one_line p xs i w h).lines)

one_pending : (p q : Line) (xs : List ℕ) (i : ℕ) → grown p [] ≡ p → position is_lf xs ≡ Some i → q ≡ Some [] → q ≡ pending_after p (take (i + 1) xs)
one_pending p q xs i w h e = rw add-one (e ∙ sym (one_line p xs i w h).pending)

pub returns-in-None-clause-lines : goal.returns-in-None-clause-lines
returns-in-None-clause-lines c =
    let whole : grown c.args.self.now.pending [] ≡ c.args.self.now.pending = rw (← c.self.view_is) (grown_none _ _ c.self.invariant) in
    none_told _ c.args.piece.now whole (sym c.in-None.ensures.at)

pub returns-in-None-clause-pending : goal.returns-in-None-clause-pending
returns-in-None-clause-pending c =
    let whole : grown c.args.self.now.pending [] ≡ c.args.self.now.pending = rw (← c.self.view_is) (grown_none _ _ c.self.invariant) in
    none_pending _ _ c.args.piece.now whole (sym c.in-None.ensures.at) c.keep.ensures.pending

pub returns-in-Some-clause-lines : goal.returns-in-Some-clause-lines
returns-in-Some-clause-lines c =
    let whole : grown c.args.self.now.pending [] ≡ c.args.self.now.pending = rw (← c.self.view_is) (grown_none _ _ c.self.invariant) in
    one_told _ _ _ c.args.piece.now _ whole (sym c.in-Some.ensures.at) c.keep-in-Some.ensures.pending (c.end.ensures.line ∙ c.drop_cr.ensures.pending)

pub returns-in-Some-clause-pending : goal.returns-in-Some-clause-pending
returns-in-Some-clause-pending c =
    let whole : grown c.args.self.now.pending [] ≡ c.args.self.now.pending = rw (← c.self.view_is) (grown_none _ _ c.self.invariant) in
    one_pending _ _ c.args.piece.now _ whole (sym c.in-Some.ensures.at) c.end.ensures.pending
