-- The links and offsets of a track of which a range was replaced.
use Rattle.std.proofs.Common.{◌≡◌, ℕ, ◌+◌, ◌-◌, ◌<◌, ◌≤◌, ◌⊎◌, inl, inr, ℤ, pos, ◌-ℤ◌, Bool, true, false, List, [], ◌∷◌, ◌++◌, take, drop, length, Option, Some, None, refl, sym, ap, ◌∙◌, arith, subst}
use Rattle.std.proofs.lemmas.Bool.{leb-true}
use Rattle.std.proofs.lemmas.List.{drop_all, length-append, length-take-le}
use Rattle.frame_meaning.specs.declared.cells.Cell.{Cell}
use Rattle.frame_meaning.specs.declared.cells.Link.{Link}
use Rattle.frame_meaning.specs.declared.cells.What.{What}
use Rattle.frame_meaning.specs.declared.frames.Side.{Side}
use Rattle.frame_meaning.specs.declared.frames.Side.TheVariants.{Dark, Pic}
use Rattle.frame_meaning.specs.Cells.{next_side}
use Rattle.frame_meaning.specs.Render.{cell_at}
use Rattle.composables.specs.declared.items.ItemView.{ItemView}
use Rattle.composables.specs.declared.media.Table.{Table}
use Rattle.composables.specs.Bounds.{bounds_of}
use Rattle.composables.specs.Good.{AllUnlinked}
use Rattle.composables.specs.Items.{cells_of, view_cells}
use Rattle.composables.specs.Joined.{frames_in}
use Rattle.composables.specs.Ranges.{offset_of}
use Rattle.composables.specs.TrackState.{TrackState}
use Rattle.composables.specs.Views.{gap_views, earlier_side}
use Rattle.composables.proofs.Joining.{length-cells_of}
use Rattle.edit_delta.specs.Reaching.{going_on, has_before, has_before_in, reaching_back}
use Rattle.edit_splice.specs.Padding.{padded_track}
use Rattle.edit_splice.specs.Splicing.{spliced_track}
use Rattle.edit_splice.proofs.Padding.{frames-gap}
use Rattle.link_groups.proofs.ShiftLinks.{gap-bare}
use Rattle.link_laws.specs.Weights.{runs_in}
use Rattle.link_laws.proofs.Parting.{behind-alike, behind_of, front-alike, front_of}
use Rattle.link_laws.proofs.Runs.{count, runs-append, runs-bare, runs-first, runs-one, runs-spliced}
use Rattle.link_laws.proofs.Sights.{Shows, alike-length, int-shift, offset-next, shows-alike, shows-append, shows-at, shows-cell, shows-drop, shows-none, shows-take, shows-view}
use Rattle.link_laws.proofs.Tied.{Keeps}

-- what stands before the range, what is put in, and what stands behind it

abbrev pub start_of : TrackState → ℕ → ℕ
start_of t x = length (take x t.cells)

pub spliced-parts : (keep : Bool) (t : TrackState) (x y : ℕ) (views : List ItemView) (l : Link) (o : Option ℤ) → Shows 0 (spliced_track keep t x y views).cells l o
    → Shows 0 (take x t.cells) l o ⊎ (Shows (start_of t x) (cells_of views) l o ⊎ Shows (start_of t x + frames_in views) (drop y t.cells) l o)
spliced-parts keep t x y views l o h = outer (shows-append 0 (front_of keep t x y ++ cells_of views) (behind_of keep t x y views) l o h) where
  same : length (front_of keep t x y) ≡ start_of t x
  same = alike-length (front_of keep t x y) (take x t.cells) (front-alike keep t x y)

  Found : Type 0
  Found = Shows 0 (take x t.cells) l o ⊎ (Shows (start_of t x) (cells_of views) l o ⊎ Shows (start_of t x + frames_in views) (drop y t.cells) l o)

  inner : Shows 0 (front_of keep t x y) l o ⊎ Shows (0 + length (front_of keep t x y)) (cells_of views) l o → Found
  inner (inl a) = inl (shows-alike 0 (front_of keep t x y) (take x t.cells) l o (front-alike keep t x y) a)
  inner (inr m) = inr (inl (shows-at (0 + length (front_of keep t x y)) (start_of t x) (cells_of views) l o (omega (arith, same)) m))

  outer : Shows 0 (front_of keep t x y ++ cells_of views) l o ⊎ Shows (0 + length (front_of keep t x y ++ cells_of views)) (behind_of keep t x y views) l o → Found
  outer (inl a) = inner (shows-append 0 (front_of keep t x y) (cells_of views) l o a)
  outer (inr b) =
      let e : 0 + length (front_of keep t x y ++ cells_of views) ≡ start_of t x + frames_in views = omega (arith, same, length-append (front_of keep t x y) (cells_of views), length-cells_of views) in
      let there = shows-at (0 + length (front_of keep t x y ++ cells_of views)) (start_of t x + frames_in views) (behind_of keep t x y views) l o e b in
      inr (inr (shows-alike (start_of t x + frames_in views) (behind_of keep t x y views) (drop y t.cells) l o (behind-alike keep t x y views) there))

-- where what stands behind the range stays at its place, or nothing does, and what is put in has no other link or offset
pub keeps-spliced : (keep : Bool) (t : TrackState) (x y : ℕ) (views : List ItemView) → x ≤ length t.cells → (x + frames_in views ≡ y) ⊎ (length t.cells ≤ y)
    → ((l : Link) (o : Option ℤ) → Shows x (cells_of views) l o → Shows 0 t.cells l o)
    → (ws : List (Option Link)) → length ws ≤ 3 → ((h n : ℕ) → runs_in h n false (cells_of views) ≤ count h n ws) → Keeps t (spliced_track keep t x y views)
keeps-spliced keep t x y views le way each ws few put = record {
  shows = λ l o h. by l o way (spliced-parts keep t x y views l o h);
  next = refl;
  grown = ((cell_at t.cells y).link ∷ ws, omega (arith, few), λ h n. omega (arith, runs-spliced h n keep t x y views (order way), put h n));
} where
  order : (x + frames_in views ≡ y) ⊎ (length t.cells ≤ y) → x ≤ y
  order (inl e) = omega (arith, e)
  order (inr past) = omega (arith, past, le)

  at : start_of t x ≡ x
  at = length-take-le x t.cells le

  by : (l : Link) (o : Option ℤ) → (x + frames_in views ≡ y) ⊎ (length t.cells ≤ y)
      → Shows 0 (take x t.cells) l o ⊎ (Shows (start_of t x) (cells_of views) l o ⊎ Shows (start_of t x + frames_in views) (drop y t.cells) l o)
      → Shows 0 t.cells l o
  by l o w (inl a) = shows-take x 0 t.cells l o a
  by l o w (inr (inl m)) = each l o (shows-at (start_of t x) x (cells_of views) l o at m)
  by l o (inl e) (inr (inr b)) = shows-drop y 0 t.cells l o (shows-at (start_of t x + frames_in views) (0 + y) (drop y t.cells) l o (omega (arith, at, e)) b)
  by l o (inr past) (inr (inr b)) = absurd (subst (λ (cs : List Cell). Shows (start_of t x + frames_in views) cs l o) (drop_all y t.cells past) b)

-- without links in what is put in
pub keeps-bare : (keep : Bool) (t : TrackState) (x y : ℕ) (views : List ItemView) → x ≤ length t.cells → (x + frames_in views ≡ y) ⊎ (length t.cells ≤ y) → AllUnlinked views
    → Keeps t (spliced_track keep t x y views)
keeps-bare keep t x y views le way bare =
    keeps-spliced keep t x y views le way (λ l o h. absurd (shows-none x views l o bare h)) [] (omega arith) (λ h n. omega (arith, runs-bare h n views bare))

-- with one item or gap put in
pub keeps-one : (keep : Bool) (t : TrackState) (x y : ℕ) (v : ItemView) → x ≤ length t.cells → (x + frames_in (v ∷ []) ≡ y) ⊎ (length t.cells ≤ y)
    → ((l : Link) (o : Option ℤ) → Shows x (cells_of (v ∷ [])) l o → Shows 0 t.cells l o) → Keeps t (spliced_track keep t x y (v ∷ []))
keeps-one keep t x y v le way each = keeps-spliced keep t x y (v ∷ []) le way each (v.link ∷ []) (omega arith) (λ h n. omega (arith, runs-one h n v))

-- dark frames have no run of a link
pub dark-runs : (h n k : ℕ) (b : Bool) → runs_in h n b (cells_of (gap_views k)) ≤ 0
dark-runs h n k b = omega (arith, (runs-first h n b (cells_of (gap_views k))).0, runs-bare h n (gap_views k) (gap-bare k))

pub padded-runs : (t : TrackState) (at h n : ℕ) → runs_in h n false (padded_track t at).cells ≤ runs_in h n false t.cells
padded-runs t at h n =
    omega (arith, runs-append h n false t.cells (cells_of (gap_views (at - length t.cells))), dark-runs h n (at - length t.cells) false)

pub length-pad : (t : TrackState) (at : ℕ) → length (padded_track t at).cells ≡ length t.cells + (at - length t.cells)
length-pad t at = omega (arith, length-append t.cells (cells_of (gap_views (at - length t.cells))), length-cells_of (gap_views (at - length t.cells)), frames-gap (at - length t.cells))

pub keeps-padded : (t : TrackState) (at : ℕ) → Keeps t (padded_track t at)
keeps-padded t at = record { shows = λ l o h. by l o (shows-append 0 t.cells (cells_of (gap_views (at - length t.cells))) l o h); next = refl; grown = ([], omega arith, λ h n. omega (arith, padded-runs t at h n)) } where
  by : (l : Link) (o : Option ℤ) → Shows 0 t.cells l o ⊎ Shows (0 + length t.cells) (cells_of (gap_views (at - length t.cells))) l o → Shows 0 t.cells l o
  by l o (inl a) = a
  by l o (inr g) = absurd (shows-none (0 + length t.cells) (gap_views (at - length t.cells)) l o (gap-bare (at - length t.cells)) g)

-- frames by which an item goes on or reaches back have its offset

pub shows-one : (p : ℕ) (v : ItemView) (l : Link) (o : Option ℤ) → Shows p (cells_of (v ∷ [])) l o → (v.link ≡ Some l) × (offset_of v.first p ≡ o)
shows-one p v l o h = by (shows-append p (view_cells v) [] l o h) where
  by : Shows p (view_cells v) l o ⊎ Shows (p + length (view_cells v)) [] l o → (v.link ≡ Some l) × (offset_of v.first p ≡ o)
  by (inl a) = shows-view p v l o a
  by (inr b) = absurd b

pub shows-on : (t : TrackState) (y n : ℕ) (l : Link) (o : Option ℤ) → 0 < y → Shows y (cells_of (going_on (cell_at t.cells (y - 1)) n ∷ [])) l o
    → ((cell_at t.cells (y - 1)).link ≡ Some l) × (offset_of (cell_at t.cells (y - 1)).side (y - 1) ≡ o)
shows-on t y n l o some h =
    let r = shows-one y (going_on (cell_at t.cells (y - 1)) n) l o h in
    let e : y - 1 + 1 ≡ y = omega (arith, some) in
    (r.0, sym (offset-next (cell_at t.cells (y - 1)).side (y - 1)) ∙ (ap (λ (k : ℕ). offset_of (next_side (cell_at t.cells (y - 1)).side) k) e ∙ r.1))

pub seen-on : (t : TrackState) (y n : ℕ) (l : Link) (o : Option ℤ) → 0 < y → Shows y (cells_of (going_on (cell_at t.cells (y - 1)) n ∷ [])) l o → Shows 0 t.cells l o
seen-on t y n l o some h =
    let r = shows-on t y n l o some h in
    subst (λ (a : Option ℤ). Shows 0 t.cells l a) r.1 (shows-cell (y - 1) t.cells l r.0)

pub has-frames : (o : Option (ℕ × ℕ)) (s n : ℕ) → has_before_in o s n ≡ true → n ≤ s
has-frames None s n h = absurd cc
has-frames (Some (a, b)) s n h = omega (arith, leb-true (a + n) s h)

pub offset-earlier : (table : Table) (s : Side What) (z n : ℕ) → has_before table s n ≡ true → offset_of (earlier_side s n) z ≡ offset_of s (z + n)
offset-earlier table Dark z n h = refl
offset-earlier table (Pic w s) z n h =
    let e : s - n + n ≡ s = omega (arith, has-frames (bounds_of table w) s n h) in
    ap Some (sym (int-shift z (s - n) n) ∙ ap (λ (k : ℕ). pos (z + n) -ℤ pos k) e)

pub shows-back : (table : Table) (c : Cell) (z n : ℕ) (l : Link) (o : Option ℤ) → has_before table c.side n ≡ true → Shows z (cells_of (reaching_back c n ∷ [])) l o
    → (c.link ≡ Some l) × (offset_of c.side (z + n) ≡ o)
shows-back table c z n l o has h =
    let r = shows-one z (reaching_back c n) l o h in
    (r.0, sym (offset-earlier table c.side z n has) ∙ r.1)

pub seen-back : (table : Table) (t : TrackState) (x z n : ℕ) (l : Link) (o : Option ℤ) → x ≡ z + n → has_before table (cell_at t.cells x).side n ≡ true
    → Shows z (cells_of (reaching_back (cell_at t.cells x) n ∷ [])) l o → Shows 0 t.cells l o
seen-back table t x z n l o e has h =
    let r = shows-back table (cell_at t.cells x) z n l o has h in
    subst (λ (a : Option ℤ). Shows 0 t.cells l a) (ap (λ (k : ℕ). offset_of (cell_at t.cells x).side k) e ∙ r.1) (shows-cell x t.cells l r.0)
