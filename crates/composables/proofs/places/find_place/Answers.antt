use Rattle.std.proofs.Common.{◌+◌, refl, arith, take}
use Rattle.composables.proofs.Frames.{frames_in-sum, frames_in-take_le, frames_at}
use Rattle.composables.proofs.places.find_place.Goals as goal

pub returns-in_err-found-clause-none : goal.returns-in_err-found-clause-none
returns-in_err-found-clause-none g c =
    (λ n. omega (arith, frames_in-sum c.args.items.now, c.in_err-found.ensures.none.0 refl), λ h. rw c.from_residual.ensures cc)

pub overflow_add-result : goal.overflow_add-result
overflow_add-result g c =
    let xs = c.args.items.now in
    let h = c.in_ok-found.ensures.found in
    omega (arith, c.total.ensures.fits.1, frames_in-sum xs, frames_in-sum (take c.in_ok-found.found.index xs), h.from, frames_at xs c.in_ok-found.found.index c.view_at-view.result c.view_at-view.ensures, frames_in-take_le (c.in_ok-found.found.index + 1) xs)

pub returns-clause-found : goal.returns-clause-found
returns-clause-found g c =
    let xs = c.args.items.now in
    let h = c.in_ok-found.ensures.found in
    let n = c.in_ok-found.found.index in
    record {
      index = h.index;
      from = omega (arith, h.from, frames_in-sum (take n xs));
      to = omega (arith, h.from, frames_in-sum (take n xs), frames_at xs n c.view_at-view.result c.view_at-view.ensures);
    }

pub returns-clause-holds : goal.returns-clause-holds
returns-clause-holds g c =
    let xs = c.args.items.now in
    let h = c.in_ok-found.ensures.found in
    let n = c.in_ok-found.found.index in
    (h.begins, omega (arith, h.ends, h.from, frames_in-sum (take n xs), frames_in-sum (take (n + 1) xs), frames_at xs n c.view_at-view.result c.view_at-view.ensures))

pub returns-clause-none : goal.returns-clause-none
returns-clause-none g c =
    let xs = c.args.items.now in
    let h = c.in_ok-found.ensures.found in
    let n = c.in_ok-found.found.index in
    (λ none. cc, λ past. absurd (omega (arith, past, h.ends, frames_in-sum (take (n + 1) xs), frames_in-take_le (n + 1) xs)))
