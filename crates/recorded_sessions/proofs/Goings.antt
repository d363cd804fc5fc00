-- Replies that are explained one after another: one more of them, or the first that is not.
use Rattle.std.proofs.Common.{◌≡◌, ℕ, zero, suc, ◌+◌, ◌<◌, List, [], ◌++◌, Some, None, length, get_or, refl, sym, ap, ◌∙◌, subst, arith, append_assoc}
use Rattle.std.proofs.lemmas.List.{append-nil}
use Rattle.std.proofs.lemmas.Option.{slice_get-get_or}
use Rattle.recorded_sessions.specs.Stopping.{StopsAtReply}
use Rattle.recorded_sessions.specs.Telling.{AreKnown, Explaining, Goes, IsKnown, own_points, told_after}
use Rattle.recorded_sessions.specs.declared.telling.Told.{Told}

-- at the end of those that are explained
pub goes_more : (explains : Explaining) (number count told mid after : ℕ) (points here : List ℕ)
    → Goes explains number count told mid points → explains (number + count) mid after here
    → Goes explains number (suc count) told after (points ++ here)
goes_more explains number zero told mid after points here goes one =
    let at : number + 0 ≡ number = omega arith in (
      after,
      here,
      [],
      subst (λ m. explains number m after here) goes.0 (subst (λ n. explains n mid after here) at one),
      (refl, refl),
      ap (λ ps. ps ++ here) goes.1 ∙ sym (append-nil here),
    )
goes_more explains number (suc count) told mid after points here goes one =
    let at : number + suc count ≡ number + 1 + count = omega arith in (
      goes.0,
      goes.1,
      goes.2 ++ here,
      goes.3,
      goes_more explains (number + 1) count goes.0 mid after goes.2 here goes.4 (subst (λ n. explains n mid after here) at one),
      ap (λ ps. ps ++ here) goes.5 ∙ append_assoc goes.1 goes.2 here,
    )

clash : {A B : Type 0} (x : A) → None ≡ Some x → B
clash x e = absurd (Prim.grind (arith, e))

-- the next of the replies, of which it is known what it tells
module _ (explains : Explaining) (tells : List Told) (known : AreKnown explains tells) (index : ℕ) (d : Told) (within : index < length tells)
    (told : ℕ) (points : List ℕ) (goes : Goes explains 1 index 0 told points) where
  abbrev next : Told
  next = get_or tells index d

  known_next : IsKnown (explains (index + 1)) next
  known_next = known index next (slice_get-get_or tells index d within)

  pub goes_on : (after : ℕ) (all : List ℕ) → told_after (get_or tells index d) told ≡ Some after → all ≡ points ++ own_points (get_or tells index d)
      → Goes explains 1 (index + 1) 0 after all
  goes_on after all e is =
      let one : index + 1 ≡ 1 + index = omega arith in
      let more : suc index ≡ index + 1 = omega arith in
      subst (λ ps. Goes explains 1 (index + 1) 0 after ps) (sym is)
      (subst (λ n. Goes explains 1 n 0 after (points ++ own_points next)) more
      (goes_more explains 1 index 0 told after points (own_points next) goes
      (subst (λ n. explains n told after (own_points next)) one (known_next.right told after e))))

  pub stops_there : told_after (get_or tells index d) told ≡ None → StopsAtReply explains (length tells) (index + 1) told
  stops_there none = record {
    before = index;
    points = points;
    number_is = refl;
    within = within;
    explained = goes;
    unexplained = λ after here e. clash after (sym none ∙ (known_next.only told after here e).0);
  }
