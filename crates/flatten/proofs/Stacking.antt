-- Channels laid over one another show the topmost frame at each place.
use Rattle.std.proofs.Common.{◌≡◌, ℕ, zero, suc, ◌+◌, max, List, [], ◌∷◌, map, length, drop, refl, sym, ap, ◌∙◌, arith}
use Rattle.std.specs.List.{range_with_len}
use Rattle.frame_meaning.specs.declared.frames.Frame.{Frame}
use Rattle.frame_meaning.specs.declared.frames.Frame.TheVariants.{Dark, Pic, Mix}
use Rattle.flatten.specs.Stacks.{frame_at, longest, over, stacked, topmost}
use Rattle.flatten.specs.Strips.{laid_on, laid_over, padded}

over_dark : (f : Frame ℕ) → over f Dark ≡ f
over_dark Dark = refl
over_dark (Pic w s) = refl
over_dark (Mix l r n d) = refl

over_both : (f g h : Frame ℕ) → over (over f g) h ≡ over f (over g h)
over_both Dark g h = refl
over_both (Pic w s) g h = refl
over_both (Mix l r n d) g h = refl

pub over_at : (upper lower : List (Frame ℕ)) (q : ℕ) → frame_at (laid_over upper lower) q ≡ over (frame_at upper q) (frame_at lower q)
over_at [] lower q = refl
over_at (f ∷ upper) [] zero = sym (over_dark f)
over_at (f ∷ upper) [] (suc q) = over_at upper [] q
over_at (f ∷ upper) (g ∷ lower) zero = refl
over_at (f ∷ upper) (g ∷ lower) (suc q) = over_at upper lower q

laid_at : (below : List (Frame ℕ)) (channels : List (List (Frame ℕ))) (q : ℕ) → frame_at (laid_on below channels) q ≡ over (topmost channels q) (frame_at below q)
laid_at below [] q = refl
laid_at below (fs ∷ above) q =
    laid_at (laid_over fs below) above q
    ∙ (ap (over (topmost above q)) (over_at fs below q) ∙ sym (over_both (topmost above q) (frame_at fs q) (frame_at below q)))

-- the frames at the places from one on

pub next_at : (fs : List (Frame ℕ)) (s n : ℕ) → padded (suc n) (drop s fs) ≡ frame_at fs s ∷ padded n (drop (suc s) fs)
next_at [] zero n = refl
next_at [] (suc s) n = refl
next_at (f ∷ fs) zero n = refl
next_at (f ∷ fs) (suc s) n = next_at fs s n

pub places : (fs : List (Frame ℕ)) (s n : ℕ) → map (frame_at fs) (range_with_len s n) ≡ padded n (drop s fs)
places fs s zero = refl
places fs s (suc n) =
    let e : s + 1 ≡ suc s = omega arith in
    ap (λ (gs : List (Frame ℕ)). frame_at fs s ∷ gs) (places fs (s + 1) n ∙ ap (λ (k : ℕ). padded n (drop k fs)) e) ∙ sym (next_at fs s n)

map_same : (f g : ℕ → Frame ℕ) (qs : List ℕ) → ((q : ℕ) → f q ≡ g q) → map f qs ≡ map g qs
map_same f g [] h = refl
map_same f g (q ∷ qs) h = ap (λ (x : Frame ℕ). x ∷ map f qs) (h q) ∙ ap (λ (xs : List (Frame ℕ)). g q ∷ xs) (map_same f g qs h)

pub first_stacked : (n : ℕ) (channels : List (List (Frame ℕ))) → padded n (laid_on [] channels) ≡ stacked n channels
first_stacked n channels =
    sym (places (laid_on [] channels) 0 n)
    ∙ map_same (frame_at (laid_on [] channels)) (topmost channels) (range_with_len 0 n) (λ (q : ℕ). laid_at [] channels q ∙ over_dark (topmost channels q))

-- all of them

pub over_length : (upper lower : List (Frame ℕ)) → length (laid_over upper lower) ≡ max (length upper) (length lower)
over_length [] lower = omega arith
over_length (f ∷ upper) [] = omega (arith, over_length upper [])
over_length (f ∷ upper) (g ∷ lower) = omega (arith, over_length upper lower)

laid_length : (below : List (Frame ℕ)) (channels : List (List (Frame ℕ))) → length (laid_on below channels) ≡ max (length below) (longest channels)
laid_length below [] = omega arith
laid_length below (fs ∷ above) = omega (arith, laid_length (laid_over fs below) above, over_length fs below)

padded_all : (fs : List (Frame ℕ)) → padded (length fs) fs ≡ fs
padded_all [] = refl
padded_all (f ∷ fs) = ap (λ (gs : List (Frame ℕ)). f ∷ gs) (padded_all fs)

pub laid_longest : (channels : List (List (Frame ℕ))) → length (laid_on [] channels) ≡ longest channels
laid_longest channels = let e : max 0 (longest channels) ≡ longest channels = omega arith in laid_length [] channels ∙ e

pub all_stacked : (channels : List (List (Frame ℕ))) → laid_on [] channels ≡ stacked (longest channels) channels
all_stacked channels =
    sym (padded_all (laid_on [] channels))
    ∙ (ap (λ (n : ℕ). padded n (laid_on [] channels)) (laid_longest channels) ∙ first_stacked (longest channels) channels)
