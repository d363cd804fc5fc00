-- A ripple: an end of an item moves, and all that is behind it, on all named tracks. What it is by its shifts.
use Rattle.std.proofs.Common.{◌≡◌, ℕ, zero, suc, ◌+◌, ◌-◌, ◌<◌, ◌≤◌, ◌⊎◌, inl, inr, ℤ, pos, negsuc, Bool, true, false, cond, eqb, List, [], ◌∷◌, take, length, Option, Some, None, refl, sym, ap, ◌∙◌, arith, subst}
use Rattle.std.proofs.lemmas.Bool.{and_parts, ltb-true}
use Rattle.std.proofs.lemmas.List.{get_or-take}
use Rattle.std.proofs.lemmas.Option.{same_Some}
use Rattle.frame_meaning.specs.declared.cells.Cell.{Cell}
use Rattle.frame_meaning.specs.declared.cells.Link.{Link}
use Rattle.frame_meaning.specs.Cells.{dark_cell}
use Rattle.frame_meaning.specs.Render.{cell_at}
use Rattle.composables.specs.declared.calls.End.{End}
use Rattle.composables.specs.declared.calls.End.TheVariants.{Head, Tail}
use Rattle.composables.specs.declared.calls.Ripple.{Ripple}
use Rattle.composables.specs.declared.media.Table.{Table}
use Rattle.composables.specs.declared.refusals.Done.{Done}
use Rattle.composables.specs.declared.refusals.Done.TheVariants.{By}
use Rattle.composables.specs.Answers.{Applied}
use Rattle.composables.specs.Items.{cells_of}
use Rattle.composables.specs.OwnTracks.{track_numbered}
use Rattle.composables.specs.Ranges.{on_range, offset_of, range_of}
use Rattle.composables.specs.TrackState.{TrackState}
use Rattle.edit_delta.specs.Nearest.{nearest}
use Rattle.edit_delta.specs.Reaching.{going_on, has_before, reaching_back}
use Rattle.edit_delta.proofs.Greatest.{is-nearest}
use Rattle.edit_delta.specs.Using.{used_from}
use Rattle.edit_trim.specs.Rippling.{as_split, have_room, ripple_allows, ripple_end, ripple_own, rippled}
use Rattle.link_laws.specs.Rooms.{AreNamed, Leaves}
use Rattle.link_laws.proofs.FreeRanges.{item-range}
use Rattle.link_laws.proofs.Reaching.{reached}
use Rattle.link_laws.proofs.Sights.{Shows, shows-cell}
use Rattle.link_laws.proofs.ShiftCases.{ByShifts, PutAt, ShiftCase, nothing-case}
use Rattle.link_laws.proofs.Shifting.{SeesBefore}
use Rattle.link_laws.proofs.ShiftTracks.{HasPlace, few-one, has-place, shifts-each}
use Rattle.link_laws.proofs.Splices.{shows-on}
use Rattle.link_laws.proofs.Tied.{among-numbered}

numbered_before : (n x : ℕ) (ts : List TrackState) (t : TrackState) (l : Link) (o : Option ℤ) → track_numbered n ts ≡ Some t → Shows 0 (take x t.cells) l o → SeesBefore x ts l o
numbered_before n x [] t l o e h = absurd cc
numbered_before n x (u ∷ us) t l o e h = by (eqb u.number n) e (λ k. numbered_before n x us t l o k h) where
  by : (b : Bool) → cond b (Some u) (track_numbered n us) ≡ Some t → (track_numbered n us ≡ Some t → SeesBefore x us l o) → SeesBefore x (u ∷ us) l o
  by true k later = inl (subst (λ (v : TrackState). Shows 0 (take x v.cells) l o) (sym (same_Some u t k)) h)
  by false k later = inr (later k)

-- the last frame before a place stands before it
last_before : (t : TrackState) (y : ℕ) (l : Link) → 0 < y → (cell_at t.cells (y - 1)).link ≡ Some l → Shows 0 (take y t.cells) l (offset_of (cell_at t.cells (y - 1)).side (y - 1))
last_before t y l some e =
    let same : cell_at (take y t.cells) (y - 1) ≡ cell_at t.cells (y - 1) = get_or-take y t.cells (y - 1) dark_cell (omega (arith, some)) in
    subst (λ (c : Cell). Shows 0 (take y t.cells) l (offset_of c.side (y - 1))) same (shows-cell (y - 1) (take y t.cells) l (ap (λ (c : Cell). c.link) same ∙ e))

module _ (all named : List TrackState) (t : TrackState) (own : ℕ) (names : AreNamed all named) (e : track_numbered own named ≡ Some t) where
  has : (x : ℕ) → x ≤ length t.cells → HasPlace own x named
  has x le = has-place all own x named t names.among (among-numbered all named own t names.among e) le

  on_case : (y n : ℕ) → 0 < y → 0 < n → y ≤ length t.cells → ShiftCase false all named named own y y (going_on (cell_at t.cells (y - 1)) n ∷ [])
  on_case y n some grows le = record {
    moves = λ z. omega (arith, z, grows);
    each = shifts-each false own y y (going_on (cell_at t.cells (y - 1)) n ∷ []) (PutAt y (going_on (cell_at t.cells (y - 1)) n ∷ [])) named (omega arith) (has y le) (λ l o h. h) (few-one (going_on (cell_at t.cells (y - 1)) n));
    sees = λ l b s. s;
    same = λ m. refl;
    put = λ l o h. inl (inl (numbered_before own y named t l o e (before l o h)));
  } where
    before : (l : Link) (o : Option ℤ) → Shows y (cells_of (going_on (cell_at t.cells (y - 1)) n ∷ [])) l o → Shows 0 (take y t.cells) l o
    before l o h =
        let r = shows-on t y n l o some h in
        subst (λ (a : Option ℤ). Shows 0 (take y t.cells) l a) r.1 (last_before t y l some r.0)

  back_case : (table : Table) (x n : ℕ) → 0 < n → x ≤ length t.cells → has_before table (cell_at t.cells x).side n ≡ true
      → ShiftCase false all named named own x x (reaching_back (cell_at (as_split x named t).cells x) n ∷ [])
  back_case table x n grows le before = record {
    moves = λ z. omega (arith, z, grows);
    each = shifts-each false own x x (reaching_back (cell_at (as_split x named t).cells x) n ∷ []) (PutAt x (reaching_back (cell_at (as_split x named t).cells x) n ∷ [])) named (omega arith) (has x le) (λ l o h. h)
        (few-one (reaching_back (cell_at (as_split x named t).cells x) n));
    sees = λ l b s. s;
    same = λ m. refl;
    put = λ l o h. inr (reached table named t own x n l o e (has x le) before h);
  }

rippled_leaves : (P : List TrackState → Type 0) (table : Table) (all named : List TrackState) (t : TrackState) (own x y : ℕ) (end : End) (done : Done) (d : ℤ) → AreNamed all named
    → track_numbered own named ≡ Some t → x < y → y ≤ length t.cells → ripple_allows table own named t x y end d ≡ true → (d ≡ pos 0 → ⊥) → ByShifts false P all named
    → Leaves P (rippled own named t x y end done d)
rippled_leaves P table all named t own x y end done (pos zero) names e less within a differs shifts = absurd (differs refl)
rippled_leaves P table all named t own x y Head done (pos (suc k)) names e less within a differs shifts =
    shifts named own x (x + suc k) [] done (nothing-case false all named t own x (x + suc k) names e (omega arith) (omega (arith, less, within)))
rippled_leaves P table all named t own x y Head done (negsuc k) names e less within a differs shifts =
    shifts named own x x (reaching_back (cell_at (as_split x named t).cells x) (suc k) ∷ []) done
    (back_case all named t own names e table x (suc k) (omega arith) (omega (arith, less, within)) (and_parts (have_room own x named (suc k)) (has_before table (cell_at t.cells x).side (suc k)) a).1)
rippled_leaves P table all named t own x y Tail done (pos (suc k)) names e less within a differs shifts =
    shifts named own y y (going_on (cell_at t.cells (y - 1)) (suc k) ∷ []) done (on_case all named t own names e y (suc k) (omega (arith, less)) (omega arith) within)
rippled_leaves P table all named t own x y Tail done (negsuc k) names e less within a differs shifts =
    let fits : x + suc k < y = ltb-true (x + suc k) y a in
    shifts named own (y - suc k) y [] done (nothing-case false all named t own (y - suc k) y names e (omega (arith, fits)) (omega (arith, within)))

used_leaves : (P : List TrackState → Type 0) (named : List TrackState) (moved : Done → ℤ → Applied) (allowed : ℤ → Bool) (by : ℤ) → P named
    → ((done : Done) (d : ℤ) → allowed d ≡ true → (d ≡ pos 0 → ⊥) → Leaves P (moved done d)) → Leaves P (used_from named moved (nearest allowed by))
used_leaves P named moved allowed by same each = at (nearest allowed by) (is-nearest allowed by).member where
  at : (d : ℤ) → (d ≡ pos 0) ⊎ (allowed d ≡ true) → Leaves P (used_from named moved d)
  at (pos zero) m = same
  at (pos (suc k)) (inl e) = absurd cc
  at (pos (suc k)) (inr e) = each (By (pos (suc k))) (pos (suc k)) e (λ z. absurd cc)
  at (negsuc k) (inl e) = absurd cc
  at (negsuc k) (inr e) = each (By (negsuc k)) (negsuc k) e (λ z. absurd cc)

pub ripple-leaves : (P : List TrackState → Type 0) (table : Table) (c : Ripple) (all named : List TrackState) (t : TrackState) → AreNamed all named → track_numbered c.track named ≡ Some t
    → P named → ByShifts false P all named → Leaves P (ripple_own table c named t)
ripple-leaves P table c all named t names e same shifts = by (range_of t.cells c.item) refl where
  by : (o : Option (ℕ × ℕ)) → range_of t.cells c.item ≡ o → Leaves P (on_range (ripple_end table c.track named t c.end c.by) o)
  by None f = tt
  by (Some (x, y)) f =
      let r = item-range t c.item x y f in
      used_leaves P named (rippled c.track named t x y c.end) (ripple_allows table c.track named t x y c.end) c.by same
      (λ done d a differs. rippled_leaves P table all named t c.track x y c.end done d names e r.0 r.1 a differs shifts)
