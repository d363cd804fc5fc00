use Rattle.std.proofs.Common.{◌≡◌, ◌+◌, ◌++◌, drop, length, sym, ap, ◌∙◌, arith}
use Rattle.composables.specs.Ranges.{range_from}
use Rattle.composables.proofs.Frames.{frames_in-sum, frames_in-take_le}
use Rattle.composables.proofs.Finding.{behind_piece, frames_whole, number_in, piece_fits, range_here, range_past, smaller_left, stands_in, stands_past}
use Rattle.composables.proofs.places.find_item.Goals as goal

pub overflow_add-index : goal.overflow_add-index
overflow_add-index g c =
    let xs = c.args.items.now in
    let p = c.pass_others-passed.result in
    let st = stands_past xs c.loop-left.left c.pass_others-passed.new.left c.loop-left.index c.loop-left.from c.args.item p.count p.places
    c.loop-left.invariant.stands c.pass_others-passed.ensures.within c.pass_others-passed.ensures.left c.pass_others-passed.ensures.frames (c.pass_others-passed.ensures.range c.loop-left.from) in
    omega (arith, st.within, c.total.ensures.fits.0)

pub overflow_add-from : goal.overflow_add-from
overflow_add-from g c =
    let xs = c.args.items.now in
    let p = c.pass_others-passed.result in
    let st = stands_past xs c.loop-left.left c.pass_others-passed.new.left c.loop-left.index c.loop-left.from c.args.item p.count p.places
    c.loop-left.invariant.stands c.pass_others-passed.ensures.within c.pass_others-passed.ensures.left c.pass_others-passed.ensures.frames (c.pass_others-passed.ensures.range c.loop-left.from) in
    omega (arith, st.from_is, frames_in-take_le (c.loop-left.index + p.count) xs, frames_in-sum xs, c.total.ensures.fits.1)

pub find_in-requires-clause-frames : goal.find_in-requires-clause-frames
find_in-requires-clause-frames g c =
    let xs = c.args.items.now in
    let p = c.pass_others-passed.result in
    let st = stands_past xs c.loop-left.left c.pass_others-passed.new.left c.loop-left.index c.loop-left.from c.args.item p.count p.places
    c.loop-left.invariant.stands c.pass_others-passed.ensures.within c.pass_others-passed.ensures.left c.pass_others-passed.ensures.frames (c.pass_others-passed.ensures.range c.loop-left.from) in
    let ps = c.next_piece-piece.result.now in
    let rest = c.next_piece-piece.new.self in
    let n = c.loop-left.index + p.count in
    let from = c.loop-left.from + p.places in
    let e : drop n xs ≡ ps ++ rest = sym st.left_is ∙ c.next_piece-piece.ensures.parts in
    let h = st.within in
    omega (arith, st.from_is, frames_whole n xs ps rest h e, frames_in-take_le (n + length ps) xs, frames_in-sum xs, c.total.ensures.fits.1)

pub find_in-requires-clause-count : goal.find_in-requires-clause-count
find_in-requires-clause-count g c =
    let xs = c.args.items.now in
    let p = c.pass_others-passed.result in
    let st = stands_past xs c.loop-left.left c.pass_others-passed.new.left c.loop-left.index c.loop-left.from c.args.item p.count p.places
    c.loop-left.invariant.stands c.pass_others-passed.ensures.within c.pass_others-passed.ensures.left c.pass_others-passed.ensures.frames (c.pass_others-passed.ensures.range c.loop-left.from) in
    let ps = c.next_piece-piece.result.now in
    let rest = c.next_piece-piece.new.self in
    let n = c.loop-left.index + p.count in
    let from = c.loop-left.from + p.places in
    let e : drop n xs ≡ ps ++ rest = sym st.left_is ∙ c.next_piece-piece.ensures.parts in
    let h = st.within in
    omega (arith, piece_fits n xs ps rest h e, c.total.ensures.fits.0)

pub returns-in-Ok-clause-found : goal.returns-in-Ok-clause-found
returns-in-Ok-clause-found g c =
    let xs = c.args.items.now in
    let p = c.pass_others-passed.result in
    let st = stands_past xs c.loop-left.left c.pass_others-passed.new.left c.loop-left.index c.loop-left.from c.args.item p.count p.places
    c.loop-left.invariant.stands c.pass_others-passed.ensures.within c.pass_others-passed.ensures.left c.pass_others-passed.ensures.frames (c.pass_others-passed.ensures.range c.loop-left.from) in
    let ps = c.next_piece-piece.result.now in
    let rest = c.next_piece-piece.new.self in
    let n = c.loop-left.index + p.count in
    let from = c.loop-left.from + p.places in
    let e : drop n xs ≡ ps ++ rest = sym st.left_is ∙ c.next_piece-piece.ensures.parts in
    let h = st.within in
    stands_in n xs ps rest from c.in-Ok.place h e st.from_is c.in-Ok.ensures.found

pub returns-in-Ok-clause-number : goal.returns-in-Ok-clause-number
returns-in-Ok-clause-number g c =
    let xs = c.args.items.now in
    let p = c.pass_others-passed.result in
    let st = stands_past xs c.loop-left.left c.pass_others-passed.new.left c.loop-left.index c.loop-left.from c.args.item p.count p.places
    c.loop-left.invariant.stands c.pass_others-passed.ensures.within c.pass_others-passed.ensures.left c.pass_others-passed.ensures.frames (c.pass_others-passed.ensures.range c.loop-left.from) in
    let ps = c.next_piece-piece.result.now in
    let rest = c.next_piece-piece.new.self in
    let n = c.loop-left.index + p.count in
    let from = c.loop-left.from + p.places in
    let e : drop n xs ≡ ps ++ rest = sym st.left_is ∙ c.next_piece-piece.ensures.parts in
    let h = st.within in
    number_in n xs ps rest from c.in-Ok.place c.args.item e c.in-Ok.ensures.found c.in-Ok.ensures.number

pub returns-in-Ok-clause-range : goal.returns-in-Ok-clause-range
returns-in-Ok-clause-range g c =
    let xs = c.args.items.now in
    let p = c.pass_others-passed.result in
    let st = stands_past xs c.loop-left.left c.pass_others-passed.new.left c.loop-left.index c.loop-left.from c.args.item p.count p.places
    c.loop-left.invariant.stands c.pass_others-passed.ensures.within c.pass_others-passed.ensures.left c.pass_others-passed.ensures.frames (c.pass_others-passed.ensures.range c.loop-left.from) in
    let ps = c.next_piece-piece.result.now in
    let rest = c.next_piece-piece.new.self in
    let n = c.loop-left.index + p.count in
    let from = c.loop-left.from + p.places in
    let e : drop n xs ≡ ps ++ rest = sym st.left_is ∙ c.next_piece-piece.ensures.parts in
    let h = st.within in
    sym st.range
    ∙ (ap (λ ys. range_from from ys c.args.item) c.next_piece-piece.ensures.parts ∙ range_here from ps rest c.args.item (c.in-Ok.place.from, c.in-Ok.place.to) c.in-Ok.ensures.range)

pub returns-in-Ok-clause-most : goal.returns-in-Ok-clause-most
returns-in-Ok-clause-most g c =
    let xs = c.args.items.now in
    let p = c.pass_others-passed.result in
    let st = stands_past xs c.loop-left.left c.pass_others-passed.new.left c.loop-left.index c.loop-left.from c.args.item p.count p.places
    c.loop-left.invariant.stands c.pass_others-passed.ensures.within c.pass_others-passed.ensures.left c.pass_others-passed.ensures.frames (c.pass_others-passed.ensures.range c.loop-left.from) in
    let ps = c.next_piece-piece.result.now in
    let rest = c.next_piece-piece.new.self in
    let n = c.loop-left.index + p.count in
    let from = c.loop-left.from + p.places in
    let e : drop n xs ≡ ps ++ rest = sym st.left_is ∙ c.next_piece-piece.ensures.parts in
    let h = st.within in
    omega (arith, c.loop-left.invariant.most, c.find_in.ensures.most, piece_fits n xs ps rest h e)

pub overflow_cast-index : goal.overflow_cast-index
overflow_cast-index g c =
    let xs = c.args.items.now in
    let p = c.pass_others-passed.result in
    let st = stands_past xs c.loop-left.left c.pass_others-passed.new.left c.loop-left.index c.loop-left.from c.args.item p.count p.places
    c.loop-left.invariant.stands c.pass_others-passed.ensures.within c.pass_others-passed.ensures.left c.pass_others-passed.ensures.frames (c.pass_others-passed.ensures.range c.loop-left.from) in
    let ps = c.next_piece-piece.result.now in
    let rest = c.next_piece-piece.new.self in
    let n = c.loop-left.index + p.count in
    let from = c.loop-left.from + p.places in
    let e : drop n xs ≡ ps ++ rest = sym st.left_is ∙ c.next_piece-piece.ensures.parts in
    let h = st.within in
    omega (arith, piece_fits n xs ps rest h e, c.total.ensures.fits.0)

pub overflow_add-index-in-loop-left : goal.overflow_add-index-in-loop-left
overflow_add-index-in-loop-left g c =
    let xs = c.args.items.now in
    let p = c.pass_others-passed.result in
    let st = stands_past xs c.loop-left.left c.pass_others-passed.new.left c.loop-left.index c.loop-left.from c.args.item p.count p.places
    c.loop-left.invariant.stands c.pass_others-passed.ensures.within c.pass_others-passed.ensures.left c.pass_others-passed.ensures.frames (c.pass_others-passed.ensures.range c.loop-left.from) in
    let ps = c.next_piece-piece.result.now in
    let rest = c.next_piece-piece.new.self in
    let n = c.loop-left.index + p.count in
    let from = c.loop-left.from + p.places in
    let e : drop n xs ≡ ps ++ rest = sym st.left_is ∙ c.next_piece-piece.ensures.parts in
    let h = st.within in
    omega (arith, piece_fits n xs ps rest h e, c.total.ensures.fits.0)

pub loop-left-preserved : goal.loop-left-preserved
loop-left-preserved g c =
    let xs = c.args.items.now in
    let p = c.pass_others-passed.result in
    let st = stands_past xs c.loop-left.left c.pass_others-passed.new.left c.loop-left.index c.loop-left.from c.args.item p.count p.places
    c.loop-left.invariant.stands c.pass_others-passed.ensures.within c.pass_others-passed.ensures.left c.pass_others-passed.ensures.frames (c.pass_others-passed.ensures.range c.loop-left.from) in
    let ps = c.next_piece-piece.result.now in
    let rest = c.next_piece-piece.new.self in
    let n = c.loop-left.index + p.count in
    let from = c.loop-left.from + p.places in
    let e : drop n xs ≡ ps ++ rest = sym st.left_is ∙ c.next_piece-piece.ensures.parts in
    let h = st.within in
    record {
      stands = record {
        within = piece_fits n xs ps rest h e;
        left_is = behind_piece n xs ps rest e;
        from_is = omega (arith, c.in-Err.ensures.past, st.from_is, frames_whole n xs ps rest h e);
        range =
            ap (λ k. range_from k rest c.args.item) c.in-Err.ensures.past
            ∙ (sym (range_past from ps rest c.args.item c.in-Err.ensures.none)
            ∙ (sym (ap (λ ys. range_from from ys c.args.item) c.next_piece-piece.ensures.parts) ∙ st.range));
      };
      least = omega (arith, c.loop-left.invariant.least, c.find_in.ensures.least);
      most = omega (arith, c.loop-left.invariant.most, c.find_in.ensures.most);
    }

pub loop-left-smaller : goal.loop-left-smaller
loop-left-smaller g c =
    smaller_left c.loop-left.left c.pass_others-passed.new.left c.next_piece-piece.result.now c.next_piece-piece.new.self c.pass_others-passed.result.count
    c.pass_others-passed.ensures.left c.next_piece-piece.ensures.parts (sym c.is_empty.ensures ∙ c.if-is_empty.false)
