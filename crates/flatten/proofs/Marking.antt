-- Marks of layers laid over one another say where a fade hides something.
use Rattle.std.proofs.Common.{◌≡◌, ℕ, zero, suc, ◌+◌, ◌<◌, ◌≤◌, ◌^◌, max, Bool, true, false, cond, ◌||◌, ◌==◌, List, [], ◌∷◌, ◌++◌, map, length, get_or, drop, slice_index_or, refl, sym, ap, ◌∙◌, arith, subst}
use Rattle.std.proofs.lemmas.List.{length-map, map-append}
use Rattle.frame_meaning.specs.declared.frames.Side.TheVariants as side
use Rattle.frame_meaning.specs.declared.frames.Frame.{Frame}
use Rattle.frame_meaning.specs.declared.frames.Frame.TheVariants.{Dark, Pic, Mix}
use Rattle.frame_meaning.specs.declared.frames.Run.{Run}
use Rattle.frame_meaning.specs.RunFrames.{next_frame, frames_from, run_frames}
use Rattle.dissolves.specs.Pieces.{Reaches}
use Rattle.flatten.specs.declared.sights.Marking.{Marking}
use Rattle.flatten.specs.declared.sights.Marking.TheVariants.{Fades, Below, Open, Within}
use Rattle.flatten.specs.declared.sights.Sights.{Sights}
use Rattle.flatten.specs.Hiding.{Seen, Sight, hides_below, nothing, seen_on, sight_at, sight_over}
use Rattle.flatten.specs.Marks.{AllComposed, IsComposed, extent, hides_of, is_hiding, laid_marks, marked, marked_run, seen_of}
use Rattle.flatten.specs.Stacks.{frame_at, over}
use Rattle.flatten.specs.Strips.{AreFit, frames_of, laid_over}
use Rattle.flatten.proofs.Building.{drop_read}
use Rattle.flatten.proofs.Stacking.{over_at, over_length}

-- a run that is marked has its frames marked

next_open : (t : Bool) (s : ℕ) → next_frame {W = ℕ} (cond t Dark (Pic 0 s)) ≡ cond t Dark (Pic 0 (s + 1))
next_open true s = refl
next_open false s = refl

next_within : (t : Bool) (s : ℕ) → next_frame {W = ℕ} (cond t (Pic 1 s) Dark) ≡ cond t (Pic 1 (s + 1)) Dark
next_within true s = refl
next_within false s = refl

next_marked : (how : Marking) (f : Frame ℕ) → next_frame (marked how f) ≡ marked how (next_frame f)
next_marked Fades Dark = refl
next_marked Fades (Pic w s) = refl
next_marked Fades (Mix side.Dark side.Dark n d) = refl
next_marked Fades (Mix side.Dark (side.Pic w s) n d) = refl
next_marked Fades (Mix (side.Pic w s) side.Dark n d) = refl
next_marked Fades (Mix (side.Pic w s) (side.Pic v t) n d) = refl
next_marked Below Dark = refl
next_marked Below (Pic w s) = refl
next_marked Below (Mix l r n d) = refl
next_marked Open Dark = refl
next_marked Open (Pic w s) = next_open (w == 2) s
next_marked Open (Mix l r n d) = refl
next_marked Within Dark = refl
next_marked Within (Pic w s) = next_within (w == 1) s
next_marked Within (Mix l r n d) = refl

frames_marked : (how : Marking) (f : Frame ℕ) (n : ℕ) → frames_from (marked how f) n ≡ map (marked how) (frames_from f n)
frames_marked how f zero = refl
frames_marked how f (suc n) =
    ap (λ (fs : List (Frame ℕ)). marked how f ∷ fs) (ap (λ (g : Frame ℕ). frames_from g n) (next_marked how f) ∙ frames_marked how (next_frame f) n)

pub runs_marked : (how : Marking) (rs : List (Run ℕ)) → frames_of (map (marked_run how) rs) ≡ map (marked how) (frames_of rs)
runs_marked how [] = refl
runs_marked how (r ∷ rs) =
    ap (λ (fs : List (Frame ℕ)). fs ++ frames_of (map (marked_run how) rs)) (frames_marked how r.frame r.len)
    ∙ (ap (λ (fs : List (Frame ℕ)). map (marked how) (run_frames r) ++ fs) (runs_marked how rs) ∙ sym (map-append (marked how) (run_frames r) (frames_of rs)))

open_reaches : (t : Bool) (s n : ℕ) → s + n ≤ 2 ^ 32 → Reaches {W = ℕ} (cond t Dark (Pic 0 s)) n
open_reaches true s n h = tt
open_reaches false s n h = h

within_reaches : (t : Bool) (s n : ℕ) → s + n ≤ 2 ^ 32 → Reaches {W = ℕ} (cond t (Pic 1 s) Dark) n
within_reaches true s n h = h
within_reaches false s n h = tt

marked_reaches : (how : Marking) (f : Frame ℕ) (n : ℕ) → Reaches f n → Reaches (marked how f) n
marked_reaches Fades Dark n h = tt
marked_reaches Fades (Pic w s) n h = h
marked_reaches Fades (Mix l r k d) n h = h.2
marked_reaches Below Dark n h = tt
marked_reaches Below (Pic w s) n h = h
marked_reaches Below (Mix l r k d) n h = h.2
marked_reaches Open Dark n h = tt
marked_reaches Open (Pic w s) n h = open_reaches (w == 2) s n h
marked_reaches Open (Mix l r k d) n h = tt
marked_reaches Within Dark n h = tt
marked_reaches Within (Pic w s) n h = within_reaches (w == 1) s n h
marked_reaches Within (Mix l r k d) n h = tt

pub fit_marked : (how : Marking) (rs : List (Run ℕ)) → AreFit rs → AreFit (map (marked_run how) rs)
fit_marked how [] f = tt
fit_marked how (r ∷ rs) f = (record { filled = f.0.filled; reaches = marked_reaches how r.frame r.len f.0.reaches }, fit_marked how rs f.1)

-- at a place

at_marked : (how : Marking) (fs : List (Frame ℕ)) (q : ℕ) → frame_at (map (marked how) fs) q ≡ marked how (frame_at fs q)
at_marked how [] q = sym (dark how) where
  dark : (m : Marking) → marked m Dark ≡ Dark
  dark Fades = refl
  dark Below = refl
  dark Open = refl
  dark Within = refl
at_marked how (f ∷ fs) zero = refl
at_marked how (f ∷ fs) (suc q) = at_marked how fs q

pub hides_there : (fs : List (Frame ℕ)) (q : ℕ) → slice_index_or (map is_hiding fs) q false ≡ is_hiding (frame_at fs q)
hides_there [] q = refl
hides_there (f ∷ fs) zero = refl
hides_there (f ∷ fs) (suc q) = hides_there fs q

within_over : (m f : Frame ℕ) → is_hiding (over (marked Within m) f) ≡ (is_hiding m || is_hiding f)
within_over Dark f = refl
within_over (Pic w s) f = by_mark (w == 1) where
  by_mark : (t : Bool) → is_hiding (over (cond t (Pic 1 s) Dark) f) ≡ (t || is_hiding f)
  by_mark true = refl
  by_mark false = refl
within_over (Mix l r n d) f = refl

layer_over : (f g b : Frame ℕ) → is_hiding (over (marked Open (over (marked Below g) (marked Fades f))) (over (marked Fades f) b)) ≡ hides_below f (record { frame = g; hides = is_hiding b })
layer_over Dark Dark b = refl
layer_over Dark (Pic w s) b = refl
layer_over Dark (Mix l r n d) b = refl
layer_over (Pic v t) Dark b = refl
layer_over (Pic v t) (Pic w s) b = refl
layer_over (Pic v t) (Mix l r n d) b = refl
layer_over (Mix side.Dark side.Dark k e) Dark b = refl
layer_over (Mix side.Dark side.Dark k e) (Pic w s) b = refl
layer_over (Mix side.Dark side.Dark k e) (Mix l r n d) b = refl
layer_over (Mix side.Dark (side.Pic u x) k e) Dark b = refl
layer_over (Mix side.Dark (side.Pic u x) k e) (Pic w s) b = refl
layer_over (Mix side.Dark (side.Pic u x) k e) (Mix l r n d) b = refl
layer_over (Mix (side.Pic v t) side.Dark k e) Dark b = refl
layer_over (Mix (side.Pic v t) side.Dark k e) (Pic w s) b = refl
layer_over (Mix (side.Pic v t) side.Dark k e) (Mix l r n d) b = refl
layer_over (Mix (side.Pic v t) (side.Pic u x) k e) Dark b = refl
layer_over (Mix (side.Pic v t) (side.Pic u x) k e) (Pic w s) b = refl
layer_over (Mix (side.Pic v t) (side.Pic u x) k e) (Mix l r n d) b = refl

-- a layer with these frames and marks over what is below it

module _ (fs ms gs ns : List (Frame ℕ)) (q : ℕ) where
  fades_at : frame_at (map (marked Fades) fs) q ≡ marked Fades (frame_at fs q)
  fades_at = at_marked Fades fs q

  both_at : frame_at (laid_over (map (marked Below) gs) (map (marked Fades) fs)) q ≡ over (marked Below (frame_at gs q)) (marked Fades (frame_at fs q))
  both_at =
      over_at (map (marked Below) gs) (map (marked Fades) fs) q
      ∙ (ap (λ (x : Frame ℕ). over x (frame_at (map (marked Fades) fs) q)) (at_marked Below gs q) ∙ ap (over (marked Below (frame_at gs q))) fades_at)

  open_at : frame_at (map (marked Open) (laid_over (map (marked Below) gs) (map (marked Fades) fs))) q ≡ marked Open (over (marked Below (frame_at gs q)) (marked Fades (frame_at fs q)))
  open_at = at_marked Open (laid_over (map (marked Below) gs) (map (marked Fades) fs)) q ∙ ap (marked Open) both_at

  plain_at : frame_at (laid_over (map (marked Fades) fs) ns) q ≡ over (marked Fades (frame_at fs q)) (frame_at ns q)
  plain_at = over_at (map (marked Fades) fs) ns q ∙ ap (λ (x : Frame ℕ). over x (frame_at ns q)) fades_at

  marks_at : frame_at (laid_marks fs ms gs ns) q
      ≡ over (marked Within (frame_at ms q)) (over (marked Open (over (marked Below (frame_at gs q)) (marked Fades (frame_at fs q)))) (over (marked Fades (frame_at fs q)) (frame_at ns q)))
  marks_at =
      over_at (map (marked Within) ms) (laid_over (map (marked Open) (laid_over (map (marked Below) gs) (map (marked Fades) fs))) (laid_over (map (marked Fades) fs) ns)) q
      ∙ (ap (λ (x : Frame ℕ). over x (frame_at (laid_over (map (marked Open) (laid_over (map (marked Below) gs) (map (marked Fades) fs))) (laid_over (map (marked Fades) fs) ns)) q)) (at_marked Within ms q)
      ∙ ap (over (marked Within (frame_at ms q)))
      (over_at (map (marked Open) (laid_over (map (marked Below) gs) (map (marked Fades) fs))) (laid_over (map (marked Fades) fs) ns) q
      ∙ (ap (λ (x : Frame ℕ). over x (frame_at (laid_over (map (marked Fades) fs) ns) q)) open_at
      ∙ ap (over (marked Open (over (marked Below (frame_at gs q)) (marked Fades (frame_at fs q))))) plain_at)))

  -- whether a fade hides something there
  hides_laid : slice_index_or (map is_hiding (laid_marks fs ms gs ns)) q false
      ≡ (slice_index_or (map is_hiding ms) q false || hides_below (frame_at fs q) (record { frame = frame_at gs q; hides = slice_index_or (map is_hiding ns) q false }))
  hides_laid =
      let f = frame_at fs q in
      let g = frame_at gs q in
      let b = frame_at ns q in
      let m = frame_at ms q in
      let rest = over (marked Open (over (marked Below g) (marked Fades f))) (over (marked Fades f) b) in
      hides_there (laid_marks fs ms gs ns) q
      ∙ (ap is_hiding marks_at
      ∙ (within_over m rest
      ∙ (ap (λ (t : Bool). is_hiding m || t) (layer_over f g b)
      ∙ (ap (λ (t : Bool). t || hides_below f (record { frame = g; hides = is_hiding b })) (sym (hides_there ms q))
      ∙ ap (λ (t : Bool). slice_index_or (map is_hiding ms) q false || hides_below f (record { frame = g; hides = t })) (sym (hides_there ns q))))))

  sight_laid : ◌≡◌ {A = Sight}
      (record { frame = frame_at (laid_over fs gs) q; hides = slice_index_or (map is_hiding (laid_marks fs ms gs ns)) q false })
      (sight_over (record { frame = frame_at fs q; hides = slice_index_or (map is_hiding ms) q false }) (record { frame = frame_at gs q; hides = slice_index_or (map is_hiding ns) q false }))
  sight_laid =
      ap (λ (x : Frame ℕ). record { frame = x; hides = slice_index_or (map is_hiding (laid_marks fs ms gs ns)) q false }) (over_at fs gs q)
      ∙ ap (λ (t : Bool). record { frame = over (frame_at fs q) (frame_at gs q); hides = t }) hides_laid

-- layers, each over those before it

pub no_layers : (below : Sights) (q : ℕ) → below ≡ record { frames = []; marks = [] } → sight_at (seen_of below) q ≡ nothing
no_layers below q is = ap (λ (s : Sights). sight_at (seen_of s) q) is

pub next_sight : (layers : List Sights) (i q : ℕ) (x below more : Sights) (meant : Sight) → i < length layers → x ≡ get_or layers i x
    → frames_of more.frames ≡ laid_over (frames_of x.frames) (frames_of below.frames)
    → frames_of more.marks ≡ laid_marks (frames_of x.frames) (frames_of x.marks) (frames_of below.frames) (frames_of below.marks)
    → seen_on (sight_at (seen_of below) q) (map seen_of (drop i layers)) q ≡ meant → seen_on (sight_at (seen_of more) q) (map seen_of (drop (i + 1) layers)) q ≡ meant
next_sight layers i q x below more meant h is frames marks same =
    let rest : List Seen = map seen_of (drop (i + 1) layers) in
    let step : sight_at (seen_of more) q ≡ sight_over (sight_at (seen_of x) q) (sight_at (seen_of below) q) =
    ap (λ (fs : List (Frame ℕ)). record { frame = frame_at fs q; hides = slice_index_or (hides_of more.marks) q false }) frames
    ∙ (ap (λ (ms : List (Frame ℕ)). record { frame = frame_at (laid_over (frames_of x.frames) (frames_of below.frames)) q; hides = slice_index_or (map is_hiding ms) q false }) marks
    ∙ sight_laid (frames_of x.frames) (frames_of x.marks) (frames_of below.frames) (frames_of below.marks) q) in
    ap (λ (s : Sight). seen_on s rest q) step
    ∙ (sym (ap (λ (ls : List Sights). seen_on (sight_at (seen_of below) q) (map seen_of ls) q) (drop_read layers i x h is)) ∙ same)

pub composed_get : (layers : List Sights) (i : ℕ) (x : Sights) → i < length layers → x ≡ get_or layers i x → AllComposed layers → IsComposed x
composed_get [] i x h is all = absurd (omega arith)
composed_get (s ∷ layers) zero x h is all = subst IsComposed (sym is) all.0
composed_get (s ∷ layers) (suc i) x h is all = composed_get layers i x (omega arith) is all.1

-- how long they are

marks_length : (fs ms gs ns : List (Frame ℕ)) → length (laid_marks fs ms gs ns) ≤ max (max (length fs) (length ms)) (max (length gs) (length ns))
marks_length fs ms gs ns =
    let f = map (marked Fades) fs in
    let o = map (marked Open) (laid_over (map (marked Below) gs) f) in
    omega (
      arith,
      over_length (map (marked Within) ms) (laid_over o (laid_over f ns)),
      over_length o (laid_over f ns),
      over_length f ns,
      over_length (map (marked Below) gs) f,
      length-map ms (marked Within),
      length-map fs (marked Fades),
      length-map gs (marked Below),
      length-map (laid_over (map (marked Below) gs) f) (marked Open),
    )

pub next_extent : (layers : List Sights) (i n : ℕ) (x below more : Sights) → i < length layers → x ≡ get_or layers i x
    → frames_of more.frames ≡ laid_over (frames_of x.frames) (frames_of below.frames)
    → frames_of more.marks ≡ laid_marks (frames_of x.frames) (frames_of x.marks) (frames_of below.frames) (frames_of below.marks)
    → max (max (length (frames_of below.frames)) (length (frames_of below.marks))) (extent (map seen_of (drop i layers))) ≤ n
    → max (max (length (frames_of more.frames)) (length (frames_of more.marks))) (extent (map seen_of (drop (i + 1) layers))) ≤ n
next_extent layers i n x below more h is frames marks most =
    let fs = frames_of x.frames in
    let ms = frames_of x.marks in
    let gs = frames_of below.frames in
    let ns = frames_of below.marks in
    let at_x : extent (map seen_of (drop i layers)) ≡ max (max (length fs) (length (map is_hiding ms))) (extent (map seen_of (drop (i + 1) layers))) =
    ap (λ (ls : List Sights). extent (map seen_of ls)) (drop_read layers i x h is) in
    omega (arith, most, at_x, length-map ms is_hiding, ap length frames, ap length marks, over_length fs gs, marks_length fs ms gs ns)
