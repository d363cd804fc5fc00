-- What the parts of a track at the ends of a range show lies in the ranges of the table, and their links are the
-- track's own.
use Rattle.std.proofs.Common.{◌≡◌, ℕ, ◌+◌, ◌-◌, ◌<◌, ◌≤◌, Bool, true, false, cond, leb, ltb, ◌&&◌, List, [], ◌∷◌, ◌++◌, min, Option, Some, None, IfSome, refl, sym, arith, subst}
use Rattle.std.proofs.lemmas.Bool.{cond_both}
use Rattle.frame_meaning.specs.declared.cells.What.{What}
use Rattle.frame_meaning.specs.declared.cells.Mark.{Mark}
use Rattle.frame_meaning.specs.declared.frames.Side.{Side}
use Rattle.frame_meaning.specs.declared.frames.Side.TheVariants.{Dark, Pic}
use Rattle.frame_meaning.specs.Cells.{later_side, same_number}
use Rattle.composables.specs.declared.items.ItemView.{ItemView}
use Rattle.composables.specs.declared.media.Table.{Table}
use Rattle.composables.specs.Bounds.{bounds_of}
use Rattle.composables.specs.Good.{LiesIn, SideLiesIn, EachLiesIn, IsLinkOf, EachLinkOf}
use Rattle.composables.specs.Joined.{with_view, joined}
use Rattle.composables.specs.TrackFacts.{ShowsAsItem, EachHolds, Apart, Lacks, first_mark, left_reach, right_reach}
use Rattle.composables.proofs.Joining.{same-is}
use Rattle.composables.specs.Views.{later_view}
use Rattle.edit_splice.specs.Parts.{kept_before, kept_behind, front_view, renumbered_view}
use Rattle.edit_splice.proofs.Ends.{first_kept}
use Rattle.edit_splice.proofs.Meeting.{mark-joined, if-lacks, lacks-joined, never_some, gap_shows}

-- fewer source frames are needed
bounded_less : (o : Option (ℕ × ℕ)) (s len n before after b a : ℕ) → n ≤ len → b ≤ before → a ≤ after → LiesIn o s len before after → LiesIn o s n b a
bounded_less None s len n before after b a x y z h = h
bounded_less (Some (from, to)) s len n before after b a x y z h =
    let end : s + n + a ≤ to = omega (arith, x, z, h.1) in
    (omega (arith, y, h.0), end)

bounded_later : (o : Option (ℕ × ℕ)) (s len k before after : ℕ) → k < len → LiesIn o s len before after → LiesIn o (s + k) (len - k) 0 after
bounded_later None s len k before after lt h = h
bounded_later (Some (from, to)) s len k before after lt h =
    let end : s + k + (len - k) + after ≤ to = omega (arith, lt, h.1) in
    (omega (arith, h.0), end)

pub lies-less : (table : Table) (s : Side What) (len n before after b a : ℕ) → n ≤ len → b ≤ before → a ≤ after → SideLiesIn table s len before after → SideLiesIn table s n b a
lies-less table Dark len n before after b a x y z h = tt
lies-less table (Pic w s) len n before after b a x y z h = bounded_less (bounds_of table w) s len n before after b a x y z h

lies_later : (table : Table) (s : Side What) (len k before after : ℕ) → k < len → SideLiesIn table s len before after → SideLiesIn table (later_side s k) (len - k) 0 after
lies_later table Dark len k before after lt h = tt
lies_later table (Pic w s) len k before after lt h = bounded_later (bounds_of table w) s len k before after lt h

-- a dissolve that may be dropped, or made shorter, reaches no further
before_left : (keep : Bool) (n : ℕ) (m : Option Mark) → left_reach (kept_before keep n m) ≤ left_reach m
before_left keep n None = omega arith
before_left true n (Some m) = omega arith
before_left false n (Some m) = by_test (leb m.b n) where
  by_test : (t : Bool) → left_reach (cond t (Some m) None) ≤ m.a
  by_test true = omega arith
  by_test false = omega arith

before_right : (keep : Bool) (n : ℕ) (m : Option Mark) → right_reach (kept_before keep n m) ≤ right_reach m
before_right keep n None = omega arith
before_right true n (Some m) = omega arith
before_right false n (Some m) = by_test (leb m.b n) where
  by_test : (t : Bool) → right_reach (cond t (Some m) None) ≤ m.b
  by_test true = omega arith
  by_test false = omega arith

behind_both : (keep : Bool) (n : ℕ) (m : Option Mark) → (left_reach (kept_behind keep n m) ≤ left_reach m) × (right_reach (kept_behind keep n m) ≤ right_reach m)
behind_both keep n None = (omega arith, omega arith)
behind_both true n (Some m) = by_test (ltb 0 n) where
  by_test : (t : Bool) → (left_reach (cond t (Some (record m { a = min m.a n })) None) ≤ m.a) × (right_reach (cond t (Some (record m { a = min m.a n })) None) ≤ m.b)
  by_test true = (omega arith, omega arith)
  by_test false = (omega arith, omega arith)
behind_both false n (Some m) = by_test (ltb 0 n && leb m.a n) where
  by_test : (t : Bool) → (left_reach (cond t (Some m) None) ≤ m.a) × (right_reach (cond t (Some m) None) ≤ m.b)
  by_test true = (omega arith, omega arith)
  by_test false = (omega arith, omega arith)

same_len : (n : ℕ) → n ≤ n
same_len n = omega arith

none_most : (n : ℕ) → 0 ≤ n
none_most n = omega arith

-- before the range
pub lies-front : (keep : Bool) (table : Table) (us : List ItemView) (v : ItemView) (ws : List ItemView) (n : ℕ) → n ≤ v.len → EachLiesIn table (us ++ v ∷ ws) → EachLiesIn table (us ++ front_view keep v n ∷ [])
lies-front keep table [] v ws n le h =
    (lies-less table v.first v.len n (left_reach v.mark) (right_reach (first_mark ws)) (left_reach (kept_before keep n v.mark)) 0 le (before_left keep n v.mark) (none_most (right_reach (first_mark ws))) h.0, tt)
lies-front keep table (u ∷ []) v ws n le h =
    (lies-less table u.first u.len u.len (left_reach u.mark) (right_reach v.mark) (left_reach u.mark) (right_reach (kept_before keep n v.mark)) (same_len u.len) (same_len (left_reach u.mark)) (before_right keep n v.mark) h.0, lies-front keep table [] v ws n le h.1)
lies-front keep table (u ∷ w ∷ us) v ws n le h = (h.0, lies-front keep table (w ∷ us) v ws n le h.1)

-- behind it
pub lies-at : (table : Table) (us : List ItemView) (v : ItemView) (ws : List ItemView) → EachLiesIn table (us ++ v ∷ ws) → EachLiesIn table (v ∷ ws)
lies-at table [] v ws h = h
lies-at table (u ∷ us) v ws h = lies-at table us v ws h.1

renumbered_lies : (table : Table) (s : Option ℕ) (fresh : ℕ) (v : ItemView) (tail : ℕ) → SideLiesIn table v.first v.len (left_reach v.mark) tail
    → SideLiesIn table (renumbered_view s fresh v).first (renumbered_view s fresh v).len (left_reach (renumbered_view s fresh v).mark) tail
renumbered_lies table None fresh v tail h = h
renumbered_lies table (Some j) fresh v tail h =
    cond_both (same_number v.item (Some j)) (record v { item = Some fresh }) v (λ (w : ItemView). SideLiesIn table w.first w.len (left_reach w.mark) tail) (λ t. h) (λ t. h)

later_lies : (table : Table) (s : Option ℕ) (fresh k after tail : ℕ) (v : ItemView) → k < v.len → tail ≤ after → SideLiesIn table v.first v.len (left_reach v.mark) after
    → SideLiesIn table (renumbered_view s fresh (later_view v k)).first (renumbered_view s fresh (later_view v k)).len (left_reach (renumbered_view s fresh (later_view v k)).mark) tail
later_lies table s fresh k after tail v lt le h =
    renumbered_lies table s fresh (later_view v k) tail
    (lies-less table (later_side v.first k) (v.len - k) (v.len - k) 0 after 0 tail (same_len (v.len - k)) (same_len 0) le (lies_later table v.first v.len k (left_reach v.mark) after lt h))

pub lies-back : (keep : Bool) (table : Table) (s : Option ℕ) (fresh k : ℕ) (v : ItemView) (ws : List ItemView) → k < v.len → EachLiesIn table (v ∷ ws) → EachLiesIn table (renumbered_view s fresh (later_view v k) ∷ first_kept keep (v.len - k) ws)
lies-back keep table s fresh k v [] lt h = (later_lies table s fresh k 0 0 v lt (same_len 0) h.0, tt)
lies-back keep table s fresh k v (w ∷ ws) lt h =
    let most = behind_both keep (v.len - k) w.mark in (
      later_lies table s fresh k (right_reach w.mark) (right_reach (kept_behind keep (v.len - k) w.mark)) v lt most.1 h.0,
      (lies-less table w.first w.len w.len (left_reach w.mark) (right_reach (first_mark ws)) (left_reach (kept_behind keep (v.len - k) w.mark)) (right_reach (first_mark ws)) (same_len w.len) most.0 (same_len (right_reach (first_mark ws))) h.1.0, h.1.1),
    )

-- in a row
pub lies-append : (table : Table) (xs ys : List ItemView) → EachLiesIn table xs → EachLiesIn table ys → first_mark ys ≡ None → EachLiesIn table (xs ++ ys)
lies-append table [] ys h k e = k
lies-append table (x ∷ []) ys h k e = (let P : Option Mark → Type 0 = λ m. SideLiesIn table x.first x.len (left_reach x.mark) (right_reach m) in subst P (sym e) h.0, k)
lies-append table (x ∷ z ∷ xs) ys h k e = (h.0, lies-append table (z ∷ xs) ys h.1 k e)

-- once gaps that meet are one
dark_lies : (table : Table) (s : Side What) (len before after : ℕ) → s ≡ Dark → SideLiesIn table s len before after
dark_lies table Dark len before after e = tt
dark_lies table (Pic w s) len before after e = absurd cc

lies_with_view : (table : Table) (r : ItemView) (zs : List ItemView) → ShowsAsItem r.item r.first r.link → IfSome r.item (λ i. Lacks i zs) → SideLiesIn table r.first r.len (left_reach r.mark) (right_reach (first_mark zs)) → EachLiesIn table zs
    → EachLiesIn table (with_view r zs)
lies_with_view table r [] shows a p q = (p, tt)
lies_with_view table r (v ∷ vs) shows a p q = by_test (same_number r.item v.item) refl where
  by_test : (b : Bool) → same_number r.item v.item ≡ b → EachLiesIn table (cond b (record r { len = r.len + v.len } ∷ vs) (r ∷ v ∷ vs))
  by_test true e =
      let none = never_some r.item v vs a (sym (same-is r.item v.item e)) in
      (dark_lies table r.first (r.len + v.len) (left_reach r.mark) (right_reach (first_mark vs)) (gap_shows r.item r.first r.link none shows).0, q.1)
  by_test false e = (p, q)

pub lies-joined : (table : Table) (vs : List ItemView) → EachHolds vs → Apart vs → EachLiesIn table vs → EachLiesIn table (joined vs)
lies-joined table [] h a p = tt
lies-joined table (v ∷ vs) h a p =
    let P : Option Mark → Type 0 = λ m. SideLiesIn table v.first v.len (left_reach v.mark) (right_reach m) in
    lies_with_view table v (joined vs) h.0.shows (if-lacks v.item vs (joined vs) (λ i. lacks-joined i vs) a.0) (subst P (sym (mark-joined vs)) p.0) (lies-joined table vs h.1 a.1 p.1)

-- links
pub links-front : (keep : Bool) (number : ℕ) (us : List ItemView) (v : ItemView) (ws : List ItemView) (n : ℕ) → EachLinkOf number (us ++ v ∷ ws) → EachLinkOf number (us ++ front_view keep v n ∷ [])
links-front keep number [] v ws n h = (h.0, tt)
links-front keep number (u ∷ us) v ws n h = (h.0, links-front keep number us v ws n h.1)

pub links-at : (number : ℕ) (us : List ItemView) (v : ItemView) (ws : List ItemView) → EachLinkOf number (us ++ v ∷ ws) → EachLinkOf number (v ∷ ws)
links-at number [] v ws h = h
links-at number (u ∷ us) v ws h = links-at number us v ws h.1

renumbered_link : (number : ℕ) (s : Option ℕ) (fresh : ℕ) (v : ItemView) → IsLinkOf number v.link → IsLinkOf number (renumbered_view s fresh v).link
renumbered_link number None fresh v h = h
renumbered_link number (Some j) fresh v h =
    cond_both (same_number v.item (Some j)) (record v { item = Some fresh }) v (λ (w : ItemView). IsLinkOf number w.link) (λ t. h) (λ t. h)

links_kept : (keep : Bool) (number n : ℕ) (ws : List ItemView) → EachLinkOf number ws → EachLinkOf number (first_kept keep n ws)
links_kept keep number n [] h = tt
links_kept keep number n (w ∷ ws) h = h

pub links-back : (keep : Bool) (number : ℕ) (s : Option ℕ) (fresh k n : ℕ) (v : ItemView) (ws : List ItemView) → EachLinkOf number (v ∷ ws) → EachLinkOf number (renumbered_view s fresh (later_view v k) ∷ first_kept keep n ws)
links-back keep number s fresh k n v ws h = (renumbered_link number s fresh (later_view v k) h.0, links_kept keep number n ws h.1)

pub links-append : (number : ℕ) (xs ys : List ItemView) → EachLinkOf number xs → EachLinkOf number ys → EachLinkOf number (xs ++ ys)
links-append number [] ys h k = k
links-append number (x ∷ xs) ys h k = (h.0, links-append number xs ys h.1 k)

links_with_view : (number : ℕ) (r : ItemView) (zs : List ItemView) → IsLinkOf number r.link → EachLinkOf number zs → EachLinkOf number (with_view r zs)
links_with_view number r [] p q = (p, tt)
links_with_view number r (v ∷ vs) p q = by_test (same_number r.item v.item) where
  by_test : (b : Bool) → EachLinkOf number (cond b (record r { len = r.len + v.len } ∷ vs) (r ∷ v ∷ vs))
  by_test true = (p, q.1)
  by_test false = (p, q)

pub links-joined : (number : ℕ) (vs : List ItemView) → EachLinkOf number vs → EachLinkOf number (joined vs)
links-joined number [] h = tt
links-joined number (v ∷ vs) h = links_with_view number v (joined vs) h.0 (links-joined number vs h.1)
