-- What an edit by a delta puts into a track: a gap in place of frames that an item gives up, or frames by which an item
-- or gap grows.
use Rattle.std.proofs.Common.{◌≡◌, ℕ, ◌+◌, ◌-◌, ◌<◌, ◌≤◌, ◌^◌, Bool, true, false, cond, eqb, [], ◌∷◌, length, Option, Some, None, refl, sym, ap, ◌∙◌, arith, subst, ⊎_elim}
use Rattle.std.proofs.lemmas.Bool.{eqb-true, leb-true, le-leb, lt-leb, lt-ltb, le-ltb, cases_lt, ltb-true}
use Rattle.frame_meaning.specs.declared.cells.What.{What}
use Rattle.frame_meaning.specs.declared.frames.Side.{Side}
use Rattle.frame_meaning.specs.declared.frames.Side.TheVariants.{Dark, Pic}
use Rattle.frame_meaning.specs.Cells.{later_side, next_side}
use Rattle.frame_meaning.specs.Numbered.{SideIsNumbered}
use Rattle.composables.specs.declared.items.ItemView.{ItemView}
use Rattle.composables.specs.declared.media.Table.{Table}
use Rattle.composables.specs.Bounds.{bounds_of}
use Rattle.composables.specs.declared.TheConstants.{MAX_FRAMES}
use Rattle.composables.specs.Good.{IsGood, LiesIn, SideLiesIn}
use Rattle.composables.specs.Items.{cell_in}
use Rattle.composables.specs.TrackFacts.{HasSource, Holds}
use Rattle.composables.specs.TrackState.{TrackState}
use Rattle.composables.specs.Views.{gap_view, gap_views, earlier_side}
use Rattle.composables.proofs.Spans.{later-zero, next-later}
use Rattle.edit_delta.specs.Reaching.{going_on, has_after, has_after_in, has_before, has_before_in, keeps_a_cell, reaching_back}
use Rattle.edit_delta.proofs.Spots.{Spot}
use Rattle.edit_splice.specs.PutIn.{alone, going_on as goes, reaching_back as reaches, GoesOn, ReachesBack, StandAlone}
use Rattle.edit_delta.specs.Nearest.{AreUpTo}
use Rattle.edit_delta.specs.Parts.{AreParts}

pub gap-alone : (n : ℕ) → 0 < n → gap_views n ≡ gap_view n ∷ []
gap-alone n h = by (eqb n 0) refl where
  by : (b : Bool) → eqb n 0 ≡ b → cond b [] (gap_view n ∷ []) ≡ gap_view n ∷ []
  by true e = let z = eqb-true n 0 e in absurd (omega (arith, z, h))
  by false e = refl

pub none-alone : (table : Table) (t : TrackState) (x y : ℕ) → StandAlone table t x y []
none-alone table t x y = record { each = tt; first = refl; meet = tt; apart = tt; free = tt; ranges = tt; links = tt }

holds_gap : (n : ℕ) → 0 < n → Holds (gap_view n) None
holds_gap n h = record { filled = h; shows = tt; mark_filled = tt; room = omega arith; source = tt; head_no_nest = tt; tail_no_nest = tt }

pub gap-parts : (table : Table) (t : TrackState) (x y n : ℕ) → IsGood table t → y ≡ x + n → y ≤ length t.cells → 0 < n → AreParts table t x y (gap_view n ∷ [])
gap-parts table t x y n good e within h = record {
  order = omega (arith, e);
  within = within;
  few = omega arith;
  filled = (h, tt);
  may = alone (record { each = (holds_gap n h, tt); first = refl; meet = (tt, tt); apart = (tt, tt); free = (tt, tt); ranges = (tt, tt); links = (tt, tt) });
  numbers = (tt, tt);
  short = omega (arith, e, within, good.frames);
}

-- source frames before an item's
pub record Before (table : Table) (s : Side What) (n : ℕ) : Type 0 where
  pub source : HasSource s 0 n 0
  pub part : HasSource (earlier_side s n) n 0 0
  pub lies : SideLiesIn table (earlier_side s n) n 0 0
  pub side : s ≡ later_side (earlier_side s n) n

pub before-of : (table : Table) (s : Side What) (len n : ℕ) → has_before table s n ≡ true → HasSource s len 0 0 → SideLiesIn table s len 0 0 → Before table s n
before-of table Dark len n e h lies = record { source = tt; part = tt; lies = tt; side = refl }
before-of table (Pic w s) len n e h lies = by (bounds_of table w) refl e lies where
  by : (o : Option (ℕ × ℕ)) → bounds_of table w ≡ o → has_before_in o s n ≡ true → LiesIn o s len 0 0 → Before table (Pic w s) n
  by None b e l = absurd l
  by (Some r) b e l =
      let le : r.0 + n ≤ s = leb-true (r.0 + n) s e in
      let back : s ≡ s - n + n = omega (arith, le) in
      record {
        source = (omega (arith, le), omega (arith, h.1));
        part = (omega arith, omega (arith, h.1, le));
        lies = subst (λ (o : Option (ℕ × ℕ)). LiesIn o (s - n) n 0 0) (sym b) (omega (arith, le), omega (arith, le, l.1));
        side = ap (λ (k : ℕ). Pic w k) back;
      }

-- and after them
pub record After (table : Table) (s : Side What) (len n : ℕ) : Type 0 where
  pub part : HasSource (later_side s len) n 0 0
  pub lies : SideLiesIn table (later_side s len) n 0 0

pub after-of : (table : Table) (s : Side What) (len n most : ℕ) → 0 < len → n ≤ most → has_after table (later_side s (len - 1)) n ≡ true → HasSource s len 0 most → SideLiesIn table s len 0 0 → After table s len n
after-of table Dark len n most f le e h l = record { part = tt; lies = tt }
after-of table (Pic w s) len n most f le e h l = by (bounds_of table w) refl e l where
  by : (o : Option (ℕ × ℕ)) → bounds_of table w ≡ o → has_after_in o (s + (len - 1)) n ≡ true → LiesIn o s len 0 0 → After table (Pic w s) len n
  by None b e l = absurd l
  by (Some r) b e l =
      let lt : s + (len - 1) + n < r.1 = ltb-true (s + (len - 1) + n) r.1 e in
      record {
        part = (omega arith, omega (arith, h.1, le));
        lies = subst (λ (o : Option (ℕ × ℕ)). LiesIn o (s + len) n 0 0) (sym b) (omega (arith, l.0), omega (arith, lt, f));
      }

pub up-true : (f : ℕ → Bool) (m n : ℕ) → AreUpTo f m → n ≤ m → m < 2 ^ 32 → f n ≡ true
up-true f m n h le small = h n (omega (arith, le, small)) ∙ le-leb n m le

-- as the code finds them
pub grown-before : (table : Table) (t : TrackState) (i : ℕ) (v : ItemView) (x y reach n : ℕ) → Spot table t i v x y → AreUpTo (has_before table v.first) reach → reach < 2 ^ 32 → n ≤ reach → Before table v.first n
grown-before table t i v x y reach n s r small le =
    before-of table v.first v.len n (up-true (has_before table v.first) reach n r le small) s.source s.lies

pub grown-after : (table : Table) (t : TrackState) (i : ℕ) (v : ItemView) (x y reach n : ℕ) → Spot table t i v x y → AreUpTo (has_after table (later_side v.first (v.len - 1))) reach → HasSource v.first v.len 0 reach
    → reach < 2 ^ 32 → n ≤ reach → After table v.first v.len n
grown-after table t i v x y reach n s r numbered small le =
    after-of table v.first v.len n reach s.filled le (up-true (has_after table (later_side v.first (v.len - 1))) reach n r le small) numbered s.lies

-- the source frame after an item's last is a number of the program
pub numbered-after : (s : Side What) (len reach n : ℕ) → 0 < n → n ≤ reach → HasSource s len 0 reach → SideIsNumbered (later_side s len)
numbered-after Dark len reach n h le m = tt
numbered-after (Pic w s) len reach n h le m = omega (arith, m.1, h, le)

-- an item or gap keeps a cell
pub keeps-up : (table : Table) (t : TrackState) (i : ℕ) (v : ItemView) (x y : ℕ) → Spot table t i v x y → AreUpTo (keeps_a_cell x y) (v.len - 1)
keeps-up table t i v x y s n small =
    ⊎_elim
    (λ (less : v.len - 1 < n). le-ltb (x + n) y (omega (arith, less, s.long, s.filled)) ∙ sym (lt-leb n (v.len - 1) less))
    (λ (le : n ≤ v.len - 1). lt-ltb (x + n) y (omega (arith, le, s.long, s.filled)) ∙ sym (le-leb n (v.len - 1) le))
    (cases_lt (v.len - 1) n)

-- what goes on behind a place, and what reaches back before it
pub goes-on : (table : Table) (t : TrackState) (i : ℕ) (v : ItemView) (x y n : ℕ) → Spot table t i v x y → 0 < n → After table v.first v.len n → GoesOn table t y (going_on (cell_in v (v.len - 1)) n)
goes-on table t i v x y n s h a = record {
  part = record {
    filled = h;
    bare = refl;
    source = subst (λ (d : Side What). HasSource d n 0 0) (sym same) a.part;
    range = subst (λ (d : Side What). SideLiesIn table d n 0 0) (sym same) a.lies;
  };
  index = i;
  before = v;
  from = x;
  stands = record { read = s.read; starts = s.starts; stops = s.stops };
  item = refl;
  link = refl;
  side = same;
} where
  e : v.len - 1 + 1 ≡ v.len
  e = omega (arith, s.filled)

  same : next_side (cell_in v (v.len - 1)).side ≡ later_side v.first v.len
  same = next-later v.first (v.len - 1) ∙ ap (later_side v.first) e

pub reaches-back : (table : Table) (t : TrackState) (i : ℕ) (v : ItemView) (x y n : ℕ) → Spot table t i v x y → 0 < n → Before table v.first n → ReachesBack table t x (reaching_back (cell_in v 0) n)
reaches-back table t i v x y n s h before = record {
  part = record {
    filled = h;
    bare = refl;
    source = subst (λ (d : Side What). HasSource d n 0 0) (sym same) before.part;
    range = subst (λ (d : Side What). SideLiesIn table d n 0 0) (sym same) before.lies;
  };
  index = i;
  after = v;
  to = y;
  stands = record { read = s.read; starts = s.starts; stops = s.stops };
  item = refl;
  link = refl;
  side = before.side ∙ ap (λ (d : Side What). later_side d n) (sym same);
} where
  same : earlier_side (cell_in v 0).side n ≡ earlier_side v.first n
  same = ap (λ (d : Side What). earlier_side d n) (later-zero v.first)

-- each put in by itself
pub back-parts : (table : Table) (t : TrackState) (i : ℕ) (v b : ItemView) (x y z n : ℕ) → IsGood table t → Spot table t i v x y → 0 < n → x ≡ z + n → Before table v.first n → b ≡ reaching_back (cell_in v 0) n
    → AreParts table t z x (b ∷ [])
back-parts table t i v b x y z n good s h e before is = subst (λ (u : ItemView). AreParts table t z x (u ∷ [])) (sym is) back where
  back : AreParts table t z x (reaching_back (cell_in v 0) n ∷ [])
  back = record {
    order = omega (arith, e);
    within = omega (arith, s.within, s.long);
    few = omega arith;
    filled = (h, tt);
    may = reaches {views = []} (reaches-back table t i v x y n s h before) (none-alone table t z x);
    numbers = (s.number, tt);
    short = omega (arith, e, s.within, s.long, good.frames);
  }

pub on-parts : (table : Table) (t : TrackState) (i : ℕ) (v g : ItemView) (x y z n : ℕ) → Spot table t i v x y → 0 < n → y ≤ z → z ≤ length t.cells → y + n + (length t.cells - z) ≤ MAX_FRAMES → After table v.first v.len n
    → g ≡ going_on (cell_in v (v.len - 1)) n → AreParts table t y z (g ∷ [])
on-parts table t i v g x y z n s h le within short a is = subst (λ (u : ItemView). AreParts table t y z (u ∷ [])) (sym is) on where
  on : AreParts table t y z (going_on (cell_in v (v.len - 1)) n ∷ [])
  on = record {
    order = le;
    within = within;
    few = omega arith;
    filled = (h, tt);
    may = goes {views = []} (goes-on table t i v x y n s h a) (none-alone table t y z);
    numbers = (s.number, tt);
    short = omega (arith, short);
  }
