use Rattle.std.proofs.Common.{◌≡◌, ◌<◌, All, length, map, sym, subst, arith}
use Rattle.track_locks.proofs.Several.{all_within}
use Rattle.track_locks.proofs.held.Held.release.Goals as goal

pub put_back-requires-clause-within : goal.put_back-requires-clause-within
put_back-requires-clause-within g c =
    let top : length c.deref.result.now ≡ c.self.inside.tracks.now = omega (arith, c.deref.ensures.len, c.tracks.view_is) in
    subst (λ m. All (λ n. n < m) (map (λ h. h.number) c.self.inside.homes.items)) (sym top) (all_within 0 c.self.inside.tracks.now (map (λ h. h.number) c.self.inside.homes.items) c.self.invariant)
