-- A channel over another, run by run.
use Rattle.std.proofs.Common.{◌≡◌, ℕ, zero, suc, ◌<◌, List, [], ◌∷◌, ◌++◌, length, get_or, drop, refl, sym, ap, ◌∙◌, arith, append_assoc, subst}
use Rattle.frame_meaning.specs.declared.frames.Frame.{Frame}
use Rattle.frame_meaning.specs.declared.frames.Frame.TheVariants.{Dark, Pic, Mix}
use Rattle.frame_meaning.specs.declared.frames.Run.{Run}
use Rattle.frame_meaning.specs.RunFrames.{next_frame, frames_from, run_frames}
use Rattle.flatten.specs.Stacks.{over}
use Rattle.flatten.specs.Strips.{AllFit, AreFit, IsFit, frames_of, laid_over, padded}
use Rattle.flatten.proofs.Parts.{frames_of-push}

-- dark frames let the lower channel be seen

over_dark : (n : ℕ) (rest lower : List (Frame ℕ)) → laid_over (frames_from Dark n ++ rest) lower ≡ padded n lower ++ laid_over rest (drop n lower)
over_dark zero rest lower = refl
over_dark (suc n) rest [] = ap (λ (fs : List (Frame ℕ)). Dark ∷ fs) (over_dark n rest [] ∙ ap (λ (gs : List (Frame ℕ)). padded n [] ++ laid_over rest gs) (nothing n)) where
  nothing : (k : ℕ) → ◌≡◌ {A = List (Frame ℕ)} (drop k []) []
  nothing zero = refl
  nothing (suc k) = refl
over_dark (suc n) rest (g ∷ lower) = ap (λ (fs : List (Frame ℕ)). g ∷ fs) (over_dark n rest lower)

pub seen_through : (all new : List (Run ℕ)) (r : Run ℕ) (rest lower after : List (Frame ℕ)) → r.frame ≡ Dark → frames_of new ≡ frames_of all ++ padded r.len lower → after ≡ drop r.len lower
    → frames_of new ++ laid_over rest after ≡ frames_of all ++ laid_over (run_frames r ++ rest) lower
seen_through all new r rest lower after dark added passed =
    ap (λ (fs : List (Frame ℕ)). fs ++ laid_over rest after) added
    ∙ (append_assoc (frames_of all) (padded r.len lower) (laid_over rest after)
    ∙ ap (λ (fs : List (Frame ℕ)). frames_of all ++ fs)
    (ap (λ (gs : List (Frame ℕ)). padded r.len lower ++ laid_over rest gs) passed
    ∙ (sym (over_dark r.len rest lower)
    ∙ ap (λ (f : Frame ℕ). laid_over (frames_from f r.len ++ rest) lower) (sym dark))))

-- others hide it

abbrev pub IsLit : Frame ℕ → Type 0
IsLit Dark = ⊥
IsLit (Pic w s) = Unit {0}
IsLit (Mix l r n d) = Unit {0}

lit_over : (f g : Frame ℕ) → IsLit f → over f g ≡ f
lit_over Dark g h = absurd h
lit_over (Pic w s) g h = refl
lit_over (Mix l r n d) g h = refl

lit_next : (f : Frame ℕ) → IsLit f → IsLit (next_frame f)
lit_next Dark h = absurd h
lit_next (Pic w s) h = tt
lit_next (Mix l r n d) h = tt

over_lit : (f : Frame ℕ) (n : ℕ) (rest lower : List (Frame ℕ)) → IsLit f → laid_over (frames_from f n ++ rest) lower ≡ frames_from f n ++ laid_over rest (drop n lower)
over_lit f zero rest lower h = refl
over_lit f (suc n) rest [] h = ap (λ (fs : List (Frame ℕ)). f ∷ fs) (over_lit (next_frame f) n rest [] (lit_next f h) ∙ ap (λ (gs : List (Frame ℕ)). frames_from (next_frame f) n ++ laid_over rest gs) (nothing n)) where
  nothing : (k : ℕ) → ◌≡◌ {A = List (Frame ℕ)} (drop k []) []
  nothing zero = refl
  nothing (suc k) = refl
over_lit f (suc n) rest (g ∷ lower) h =
    ap (λ (x : Frame ℕ). x ∷ laid_over (frames_from (next_frame f) n ++ rest) lower) (lit_over f g h)
    ∙ ap (λ (fs : List (Frame ℕ)). f ∷ fs) (over_lit (next_frame f) n rest lower (lit_next f h))

pub lit_not_dark : (f : Frame ℕ) → (f ≡ Dark → ⊥) → IsLit f
lit_not_dark Dark h = h refl
lit_not_dark (Pic w s) h = tt
lit_not_dark (Mix l r n d) h = tt

pub hidden : (all new : List (Run ℕ)) (r : Run ℕ) (rest lower after : List (Frame ℕ)) → IsLit r.frame → new ≡ all ++ r ∷ [] → after ≡ drop r.len lower
    → frames_of new ++ laid_over rest after ≡ frames_of all ++ laid_over (run_frames r ++ rest) lower
hidden all new r rest lower after lit pushed passed =
    ap (λ (rs : List (Run ℕ)). frames_of rs ++ laid_over rest after) pushed
    ∙ (ap (λ (fs : List (Frame ℕ)). fs ++ laid_over rest after) (frames_of-push all r)
    ∙ (append_assoc (frames_of all) (run_frames r) (laid_over rest after)
    ∙ ap (λ (fs : List (Frame ℕ)). frames_of all ++ fs)
    (ap (λ (gs : List (Frame ℕ)). run_frames r ++ laid_over rest gs) passed ∙ sym (over_lit r.frame r.len rest lower lit))))

-- run by run

pub drop_at : {A : Type 0} (xs : List A) (i : ℕ) (d : A) → i < length xs → drop i xs ≡ get_or xs i d ∷ drop (suc i) xs
drop_at [] i d h = absurd (omega arith)
drop_at (x ∷ xs) zero d h = refl
drop_at (x ∷ xs) (suc i) d h = drop_at xs i d (omega arith)

pub fit_get : (rs : List (Run ℕ)) (i : ℕ) (d : Run ℕ) → i < length rs → AreFit rs → IsFit (get_or rs i d)
fit_get [] i d h f = absurd (omega arith)
fit_get (r ∷ rs) zero d h f = f.0
fit_get (r ∷ rs) (suc i) d h f = fit_get rs i d (omega arith) f.1

pub each_fit : (rss : List (List (Run ℕ))) (i : ℕ) (rs : List (Run ℕ)) → i < length rss → rs ≡ get_or rss i rs → AllFit rss → AreFit rs
each_fit [] i rs h is f = absurd (omega arith)
each_fit (qs ∷ rss) zero rs h is f = subst AreFit (sym is) f.0
each_fit (qs ∷ rss) (suc i) rs h is f = each_fit rss i rs (omega arith) is f.1
