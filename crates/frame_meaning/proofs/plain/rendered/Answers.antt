use Rattle.std.proofs.Common.{◌≡◌, ℕ, ◌+◌, List, [], ◌∷◌, ◌++◌, map, arith, ap, sym, ◌∙◌}
use Rattle.std.specs.List.{range_with_len}
use Rattle.std.proofs.lemmas.List.FromFn.{map-range_with_len_more}
use Rattle.frame_meaning.specs.declared.cells.What.{What}
use Rattle.frame_meaning.specs.declared.frames.Frame.{Frame}
use Rattle.frame_meaning.specs.Render.{shown_at}
use Rattle.frame_meaning.proofs.plain.rendered.Goals as goal

one_more : (shown : ℕ → Frame What) (before after : List (Frame What)) (f : Frame What) (n : ℕ)
    → after ≡ before ++ f ∷ [] → before ≡ map shown (range_with_len 0 n) → f ≡ shown n → after ≡ map shown (range_with_len 0 (n + 1))
one_more shown before after f n more so_far next =
    more
    ∙ (ap (λ fs. fs ++ f ∷ []) so_far
    ∙ (ap (λ g. map shown (range_with_len 0 n) ++ g ∷ []) next
    ∙ sym (map-range_with_len_more shown 0 n n (omega arith))))

pub loop-place-preserved : goal.loop-place-preserved
loop-place-preserved c =
    one_more (shown_at c.args.cells.now) c.loop-place.frames.items c.push.new.self.items c.frame_at.result c.loop-place.place
    c.in_ok-push.ensures.items c.loop-place.invariant c.frame_at.ensures
