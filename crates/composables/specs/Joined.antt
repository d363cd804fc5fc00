-- Items and gaps put one after another, where those that belong together become one.
use Rattle.std.specs.Prelude.{◌≡◌, ℕ, ◌+◌, ◌<◌, false, List, [], ◌∷◌, ◌++◌, take, drop, if◌then◌else◌}
use Rattle.frame_meaning.specs.Cells.{same_number}
use Rattle.composables.specs.declared.items.ItemView.{ItemView}

-- an item or gap in front of others
abbrev pub with_view : ItemView → List ItemView → List ItemView
with_view r [] = r ∷ []
with_view r (v ∷ vs) = if same_number r.item v.item then record r { len = r.len + v.len } ∷ vs else r ∷ v ∷ vs

abbrev pub joined : List ItemView → List ItemView
joined [] = []
joined (v ∷ vs) = with_view v (joined vs)

-- an item or gap behind others
abbrev pub push_view : List ItemView → ItemView → List ItemView
push_view [] v = v ∷ []
push_view (r ∷ []) v = with_view r (v ∷ [])
push_view (r ∷ s ∷ rs) v = r ∷ push_view (s ∷ rs) v

abbrev pub push_views : List ItemView → List ItemView → List ItemView
push_views rs [] = rs
push_views rs (v ∷ vs) = push_views (push_view rs v) vs

-- no two neighbours belong together
abbrev pub IsTight : List ItemView → Type 0
IsTight [] = Unit {0}
IsTight (r ∷ []) = Unit {0}
IsTight (r ∷ s ∷ rs) = (same_number r.item s.item ≡ false) × IsTight (s ∷ rs)

-- none is empty
abbrev pub AllFilled : List ItemView → Type 0
AllFilled [] = Unit {0}
AllFilled (v ∷ vs) = (0 < v.len) × AllFilled vs

-- how many frames they have
abbrev pub frames_in : List ItemView → ℕ
frames_in [] = 0
frames_in (v ∷ vs) = v.len + frames_in vs

-- these items and gaps with others in place of those from index from up to before to, and how many frames they have
abbrev pub around : List ItemView → List ItemView → ℕ → ℕ → List ItemView
around views middle from to = take from views ++ middle ++ drop to views

abbrev pub frames_around : List ItemView → List ItemView → ℕ → ℕ → ℕ
frames_around views middle from to = frames_in (take from views) + frames_in middle + frames_in (drop to views)
