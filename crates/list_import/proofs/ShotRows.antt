-- The items and gaps of shots that follow one another are rows.
use Rattle.std.proofs.Common.{◌≡◌, ℕ, ◌+◌, ◌-◌, ◌<◌, ◌≤◌, Bool, true, false, cond, List, [], ◌∷◌, ◌++◌, Option, Some, None, nat_lt, nat_eq, refl, sym, ap, ◌∙◌, subst, arith, append_assoc, drop, get_or, length}
use Rattle.std.proofs.lemmas.Bool.{ltb-false, ltb-true}
use Rattle.std.proofs.lemmas.List.{drop_more}
use Rattle.frame_meaning.specs.declared.cells.What.{What}
use Rattle.frame_meaning.specs.declared.cells.What.TheVariants.{Media, Nest}
use Rattle.frame_meaning.specs.declared.cells.Mark.{Mark}
use Rattle.frame_meaning.specs.declared.frames.Side.{Side}
use Rattle.frame_meaning.specs.declared.frames.Side.TheVariants.{Dark, Pic}
use Rattle.frame_meaning.specs.Cells.{later_side}
use Rattle.frame_meaning.specs.Numbered.{SideIsNumbered}
use Rattle.composables.specs.declared.items.ItemView.{ItemView}
use Rattle.composables.specs.Joined.{frames_in}
use Rattle.composables.specs.TrackFacts.{ShowsAsItem, first_mark, left_reach}
use Rattle.composables.specs.Views.{gap_view, gap_views}
use Rattle.timecode12.specs.declared.counting.TheConstants.{MAX_DAY_FRAMES}
use Rattle.list_import.specs.declared.shots.Shot.{Shot}
use Rattle.list_import.specs.TrackItems.{cut_of, dissolve_views, item_of, mark_of, number_behind, number_by, number_past, shot_views, track_views, view_of, views_by}
use Rattle.list_import.specs.ShotFacts.{AreLaid, CanBeLaid, HasRoom, IsNotDark, IsShot, IsSideOf}
use Rattle.list_import.proofs.TrackRows.{AreRows, IsBare, IsNext, IsRow, SideFits, after, bare_unmarked}

-- ---- sides and numbers

shows : (number : ℕ) (side : Side What) → ShowsAsItem (item_of number side) side None
shows number Dark = tt
shows number (Pic w s) = tt

numbered : (number : ℕ) (side : Side What) → IsNext (item_of number side) number
numbered number Dark = tt
numbered number (Pic w s) = refl

after_side : (number : ℕ) (side : Side What) → after (item_of number side) number ≡ number_past number side
after_side number Dark = refl
after_side number (Pic w s) = refl

past_later : (number k : ℕ) (side : Side What) → number_past number (later_side side k) ≡ number_past number side
past_later number k Dark = refl
past_later number k (Pic w s) = refl

fits_here : (media : ℕ) (side : Side What) (total len behind : ℕ) → IsSideOf media side total → len + behind ≤ total → SideFits media side len 0 behind
fits_here media Dark total len behind h le = tt
fits_here media (Pic (Media m) s) total len behind h le = (h.0, omega arith, omega (arith, h.1, le))
fits_here media (Pic (Nest j) s) total len behind h le = absurd h

fits_on : (media : ℕ) (side : Side What) (total k len before behind : ℕ) → IsSideOf media side total → before ≤ k → k + len + behind ≤ total → SideFits media (later_side side k) len before behind
fits_on media Dark total k len before behind h low le = tt
fits_on media (Pic (Media m) s) total k len before behind h low le = (h.0, omega (arith, low), omega (arith, h.1, le))
fits_on media (Pic (Nest j) s) total k len before behind h low le = absurd h

-- a source frame of a shot is a number of the program
pub numbered_later : (media : ℕ) (side : Side What) (len k : ℕ) → IsSideOf media side len → k ≤ len → SideIsNumbered (later_side side k)
numbered_later media Dark len k h le = tt
numbered_later media (Pic (Media m) s) len k h le = omega (arith, h.1, le)
numbered_later media (Pic (Nest j) s) len k h le = absurd h

-- ---- the cut of a dissolve

pub record IsCut (n len cut : ℕ) : Type 0 where
  pub filled : 0 < cut
  pub within : cut < len
  pub short : cut ≤ n
  pub near : n ≤ cut + 1

pub cut_facts : (n len : ℕ) → 0 < n → n ≤ len → 1 < len → IsCut n len (cut_of n len)
cut_facts n len some within two = by (nat_lt n len) refl where
  by : (b : Bool) → nat_lt n len ≡ b → IsCut n len (cond b n (n - 1))
  by true e =
      let low : n < len = ltb-true n len e in
      record { filled = some; within = low; short = omega arith; near = omega arith }
  by false e =
      let high : len ≤ n = ltb-false n len e in
      record { filled = omega (arith, high, two); within = omega (arith, within, some); short = omega arith; near = omega arith }

-- ---- rows

nat_eq_false : (n : ℕ) → nat_eq n 0 ≡ false → 0 < n
nat_eq_false n t = grind arith

gap_rows : (media n number : ℕ) (vs : List ItemView) → first_mark vs ≡ None → AreRows media number vs → AreRows media number (gap_views n ++ vs)
gap_rows media n number vs first rows = by (nat_eq n 0) refl where
  by : (b : Bool) → nat_eq n 0 ≡ b → AreRows media number (cond b [] (gap_view n ∷ []) ++ vs)
  by true e = rows
  by false e =
      let none : left_reach (first_mark vs) ≡ 0 = ap left_reach first in
      let own : IsRow media (gap_view n) (first_mark vs) = record {
        filled = nat_eq_false n e;
        shows = tt;
        unlinked = refl;
        mark_filled = tt;
        room = omega (arith, none);
        side = tt;
      } in
      (own, tt, bare_unmarked None vs first, rows)

-- the first of a shot has no mark
shot_first : (number : ℕ) (o : Option (Side What)) (n : ℕ) (side : Side What) (len : ℕ) (vs : List ItemView) → first_mark (views_by number o n side len ++ vs) ≡ None
shot_first number None n side len vs = refl
shot_first number (Some left) n side len vs = refl

gap_first : (n : ℕ) (vs : List ItemView) → first_mark vs ≡ None → first_mark (gap_views n ++ vs) ≡ None
gap_first n vs first = by (nat_eq n 0) where
  by : (b : Bool) → first_mark (cond b [] (gap_view n ∷ []) ++ vs) ≡ None
  by true = first
  by false = refl

pub views_first : (at number : ℕ) (ss : List Shot) → first_mark (track_views at number ss) ≡ None
views_first at number [] = refl
views_first at number (s ∷ ss) =
    gap_first (s.place - at) (shot_views number s ++ track_views (s.place + s.len) (number_behind number s) ss)
    (shot_first number s.from s.frames s.side s.len (track_views (s.place + s.len) (number_behind number s) ss))

bare_between : (number k cut len : ℕ) (left side : Side What) (m : Option Mark) (vs : List ItemView) → IsNotDark left side → IsBare (item_of number left) (view_of k (later_side side cut) len m ∷ vs)
bare_between number k cut len Dark Dark m vs h = absurd h
bare_between number k cut len Dark (Pic w s) m vs h = λ e. absurd cc
bare_between number k cut len (Pic w s) side m vs h = tt

plain_rows : (media number len : ℕ) (side : Side What) (vs : List ItemView) → 0 < len → IsSideOf media side len → first_mark vs ≡ None → AreRows media (number_past number side) vs
    → AreRows media number (view_of number side len None ∷ vs)
plain_rows media number len side vs filled fits first rest =
    let alone : IsRow media (view_of number side len None) None = record {
      filled = filled;
      shows = shows number side;
      unlinked = refl;
      mark_filled = tt;
      room = omega arith;
      side = fits_here media side len len 0 fits (omega arith);
    } in (
      subst (λ (m : Option Mark). IsRow media (view_of number side len None) m) (sym first) alone,
      numbered number side,
      bare_unmarked (item_of number side) vs first,
      subst (λ (k : ℕ). AreRows media k vs) (sym (after_side number side)) rest,
    )

dissolve_rows : (media number n len cut : ℕ) (left side : Side What) (vs : List ItemView) → IsCut n len cut → n ≤ len → 0 < n → IsSideOf media left len → IsSideOf media side len → IsNotDark left side
    → first_mark vs ≡ None → AreRows media (number_past (number_past number left) side) vs → AreRows media number (dissolve_views number left n side len cut ++ vs)
dissolve_rows media number n len cut left side vs c within some fits_left fits light first rest =
    let next : ℕ = number_past number left in
    let later : Side What = later_side side cut in
    let right : ItemView = view_of next later (len - cut) (Some (mark_of n cut)) in
    let head : IsRow media (view_of number left cut None) (Some (mark_of n cut)) = record {
      filled = c.filled;
      shows = shows number left;
      unlinked = refl;
      mark_filled = tt;
      room = omega arith;
      side = fits_here media left len cut (n - cut) fits_left (omega (arith, c.short, within));
    } in
    let alone : IsRow media right None = record {
      filled = omega (arith, c.within);
      shows = shows next later;
      unlinked = refl;
      mark_filled = omega (arith, c.filled);
      room = omega (arith, c.near, c.within);
      side = fits_on media side len cut (len - cut) cut 0 fits (omega arith) (omega (arith, c.within));
    } in
    let begun : after (item_of number left) number ≡ next = after_side number left in
    let behind : after (item_of next later) (after (item_of number left) number) ≡ number_past next side =
    ap (after (item_of next later)) begun ∙ (after_side next later ∙ past_later next cut side) in (
      head,
      numbered number left,
      bare_between number next cut (len - cut) left side (Some (mark_of n cut)) vs light,
      (
        subst (λ (m : Option Mark). IsRow media right m) (sym first) alone,
        subst (λ (k : ℕ). IsNext (item_of next later) k) (sym begun) (numbered next later),
        bare_unmarked (item_of next later) vs first,
        subst (λ (k : ℕ). AreRows media k vs) (sym behind) rest,
      ),
    )

shot_rows : (media number : ℕ) (o : Option (Side What)) (n : ℕ) (side : Side What) (len : ℕ) (vs : List ItemView) → 0 < len → IsSideOf media side len → HasRoom media o n side len
    → first_mark vs ≡ None → AreRows media (number_by number o side) vs → AreRows media number (views_by number o n side len ++ vs)
shot_rows media number None n side len vs filled fits room first rest = plain_rows media number len side vs filled fits first rest
shot_rows media number (Some left) n side len vs filled fits room first rest =
    dissolve_rows media number n len (cut_of n len) left side vs (cut_facts n len room.0 room.1 room.2) room.1 room.0 room.3 fits room.4 first rest

pub rows_views : (media at number : ℕ) (ss : List Shot) → AreLaid media at ss → AreRows media number (track_views at number ss)
rows_views media at number [] h = tt
rows_views media at number (s ∷ ss) h =
    let behind : List ItemView = track_views (s.place + s.len) (number_behind number s) ss in
    gap_rows media (s.place - at) number (shot_views number s ++ behind) (shot_first number s.from s.frames s.side s.len behind)
    (shot_rows media number s.from s.frames s.side s.len behind h.0.filled h.0.side h.0.dissolve (views_first (s.place + s.len) (number_behind number s) ss)
    (rows_views media (s.place + s.len) (number_behind number s) ss h.1))

-- ---- frames

gap_frames : (n : ℕ) (vs : List ItemView) → frames_in (gap_views n ++ vs) ≡ n + frames_in vs
gap_frames n vs = by (nat_eq n 0) refl where
  nat_eq_true : (n : ℕ) → nat_eq n 0 ≡ true → n ≡ 0
  nat_eq_true n t = grind arith

  by : (b : Bool) → nat_eq n 0 ≡ b → frames_in (cond b [] (gap_view n ∷ []) ++ vs) ≡ n + frames_in vs
  by true e = omega (arith, nat_eq_true n e)
  by false e = omega arith

shot_frames : (media number : ℕ) (o : Option (Side What)) (n : ℕ) (side : Side What) (len : ℕ) (vs : List ItemView) → HasRoom media o n side len → frames_in (views_by number o n side len ++ vs) ≡ len + frames_in vs
shot_frames media number None n side len vs room = refl
shot_frames media number (Some left) n side len vs room = let c = cut_facts n len room.0 room.1 room.2 in omega (arith, c.within)

pub views_frames : (media at number : ℕ) (ss : List Shot) → AreLaid media at ss → at < MAX_DAY_FRAMES → at + frames_in (track_views at number ss) < MAX_DAY_FRAMES
views_frames media at number [] h low = omega (arith, low)
views_frames media at number (s ∷ ss) h low =
    let behind : List ItemView = track_views (s.place + s.len) (number_behind number s) ss in
    omega (
      arith,
      gap_frames (s.place - at) (shot_views number s ++ behind),
      shot_frames media number s.from s.frames s.side s.len behind h.0.dissolve,
      views_frames media (s.place + s.len) (number_behind number s) ss h.1 h.0.ends,
      h.0.begins,
    )

pub short_views : (media start : ℕ) (ss : List Shot) → AreLaid media start ss → frames_in (track_views start 0 ss) < MAX_DAY_FRAMES
short_views media start [] h = omega arith
short_views media start (s ∷ ss) h =
    let low : start < MAX_DAY_FRAMES = omega (arith, h.0.begins, h.0.ends) in
    omega (arith, views_frames media start 0 (s ∷ ss) h low)

-- ---- numbers: no more items than frames

past_side : (number : ℕ) (side : Side What) → number_past number side ≤ number + 1
past_side number Dark = omega arith
past_side number (Pic w s) = omega arith

number_near : (media number : ℕ) (o : Option (Side What)) (n : ℕ) (side : Side What) (len : ℕ) → 0 < len → HasRoom media o n side len → number_by number o side ≤ number + len
number_near media number None n side len filled room = omega (arith, past_side number side, filled)
number_near media number (Some left) n side len filled room = omega (arith, past_side number left, past_side (number_past number left) side, room.2)

pub number_within : (media at number : ℕ) (s : Shot) → IsShot media at s → number_behind number s ≤ number + s.len
number_within media at number s h = number_near media number s.from s.frames s.side s.len h.filled h.dissolve

-- ---- a shot more

-- a shot among those that are laid, and those behind it
pub record NextLaid (at : ℕ) (ss : List Shot) (i : ℕ) (s : Shot) : Type 0 where
  pub media : ℕ
  pub shot : IsShot media at s
  pub rest : CanBeLaid (s.place + s.len) (drop (i + 1) ss)

pub next_laid : (at : ℕ) (ss : List Shot) (i : ℕ) (d s : Shot) → i < length ss → s ≡ get_or ss i d → CanBeLaid at (drop i ss) → NextLaid at ss i s
next_laid at ss i d s inside there laid =
    let split : drop i ss ≡ s ∷ drop (i + 1) ss = drop_more ss i d inside ∙ ap (λ (x : Shot). x ∷ drop (i + 1) ss) (sym there) in
    let all : AreLaid laid.0 at (s ∷ drop (i + 1) ss) = subst (λ (l : List Shot). AreLaid laid.0 at l) split laid.1 in
    record { media = laid.0; shot = all.0; rest = (laid.0, all.1) }

pub views_more : (at number n : ℕ) (ss : List Shot) (i : ℕ) (d s : Shot) (v0 v1 v2 all : List ItemView) → i < length ss → s ≡ get_or ss i d → v1 ≡ v0 ++ gap_views (s.place - at) → v2 ≡ v1 ++ shot_views number s
    → n ≡ number_behind number s → v0 ++ track_views at number (drop i ss) ≡ all → v2 ++ track_views (s.place + s.len) n (drop (i + 1) ss) ≡ all
views_more at number n ss i d s v0 v1 v2 all inside there gap shot behind so_far =
    let gaps : List ItemView = gap_views (s.place - at) in
    let own : List ItemView = shot_views number s in
    let rest : List ItemView = track_views (s.place + s.len) (number_behind number s) (drop (i + 1) ss) in
    let split : drop i ss ≡ s ∷ drop (i + 1) ss = drop_more ss i d inside ∙ ap (λ (x : Shot). x ∷ drop (i + 1) ss) (sym there) in
    ap (λ (k : ℕ). v2 ++ track_views (s.place + s.len) k (drop (i + 1) ss)) behind
    ∙ (ap (λ (vs : List ItemView). vs ++ rest) (shot ∙ ap (λ (vs : List ItemView). vs ++ own) gap)
    ∙ (append_assoc (v0 ++ gaps) own rest
    ∙ (append_assoc v0 gaps (own ++ rest)
    ∙ (ap (λ (l : List Shot). v0 ++ track_views at number l) (sym split) ∙ so_far))))
