-- How far what has a link may show other source frames: item by item, and track by track.
use Rattle.std.proofs.Common.{◌≡◌, ℕ, zero, suc, ◌+◌, ◌-◌, ◌<◌, ◌≤◌, ◌^◌, Bool, true, false, cond, ◌&&◌, min, List, [], ◌∷◌, ◌++◌, take, length, get_or, Option, Some, None, slice_get, refl, sym, ap, ◌∙◌, arith, subst}
use Rattle.std.proofs.lemmas.Bool.{leb-true, ltb-true, le-leb}
use Rattle.std.proofs.lemmas.List.{take_all, take_more}
use Rattle.std.proofs.lemmas.Option.{slice_get_within}
use Rattle.frame_meaning.specs.declared.cells.Link.{Link}
use Rattle.frame_meaning.specs.declared.cells.Mark.{Mark}
use Rattle.frame_meaning.specs.declared.cells.What.{What}
use Rattle.frame_meaning.specs.declared.frames.Side.{Side}
use Rattle.frame_meaning.specs.declared.frames.Side.TheVariants.{Dark, Pic}
use Rattle.frame_meaning.specs.Cells.{later_side}
use Rattle.frame_meaning.specs.Render.{moved}
use Rattle.composables.specs.declared.items.ItemView.{ItemView}
use Rattle.composables.specs.declared.media.Table.{Table}
use Rattle.composables.specs.Bounds.{bounds_of}
use Rattle.composables.specs.Good.{IsGood, LiesIn, SideLiesIn}
use Rattle.composables.specs.Items.{items_of}
use Rattle.composables.specs.TrackFacts.{HasSource, first_mark, left_reach, right_reach}
use Rattle.composables.specs.TrackState.{TrackState}
use Rattle.edit_delta.specs.Nearest.{AreUpTo}
use Rattle.edit_delta.specs.Reaching.{has_after, has_after_in, has_before, has_before_in}
use Rattle.edit_delta.proofs.Answered.{up-both}
use Rattle.edit_delta.proofs.Pieces.{up-true}
use Rattle.edit_trim.specs.declared.linked_slips.SlipRoom.{SlipRoom}
use Rattle.edit_trim.specs.LinkedSlips.{AllMove, EachMoves, IsRoom, ReachesBack, RoomAmong, RoomOf, RoomOn, ShowsMoved}
use Rattle.edit_trim.specs.Slipping.{each_linked, each_linked_on, item_may_slip_earlier, item_may_slip_later, mark_of, may_slip_earlier, may_slip_later}
use Rattle.edit_trim.proofs.Slips.{first-of-rest}
use Rattle.edit_trim.proofs.Slipped.{lies-ends, source-ends}
use Rattle.link_groups.specs.ItemLinks.{carries}
use Rattle.link_groups.proofs.LeastLinks.{filled-at}

-- what a side shows later, and earlier, of its thing

abbrev pub Shows : Table → Side What → ℕ → ℕ → ℕ → ℕ → ℕ → Type 0
Shows table d len a b on back = ReachesBack d back × HasSource (moved d on back) len a b × SideLiesIn table (moved d on back) len a b

shows_later : (table : Table) (d : Side What) (len a b n room : ℕ) → 0 < len → SideLiesIn table d len a b → HasSource d len a b → HasSource d len 0 (b + room) → n ≤ room
    → has_after table (later_side d (len - 1)) (b + n) ≡ true → Shows table d len a b n 0
shows_later table Dark len a b n room f l k h le e = (tt, tt, tt)
shows_later table (Pic w s) len a b n room f l k h le e = (omega arith, (omega (arith, k.0), omega (arith, h.1, le)), by (bounds_of table w) e l) where
  by : (o : Option (ℕ × ℕ)) → has_after_in o (s + (len - 1)) (b + n) ≡ true → LiesIn o s len a b → LiesIn o (s + n - 0) len a b
  by None e h = absurd h
  by (Some q) e h =
      let lt : s + (len - 1) + (b + n) < q.1 = ltb-true (s + (len - 1) + (b + n)) q.1 e in
      (omega (arith, h.0), omega (arith, lt, f))

pub shows-earlier : (table : Table) (d : Side What) (len a b n : ℕ) → SideLiesIn table d len a b → HasSource d len a b → has_before table d (a + n) ≡ true → Shows table d len a b 0 n
shows-earlier table Dark len a b n l k e = (tt, tt, tt)
shows-earlier table (Pic w s) len a b n l k e = by (bounds_of table w) e l where
  by : (o : Option (ℕ × ℕ)) → has_before_in o s (a + n) ≡ true → LiesIn o s len a b → (n ≤ s) × ((a ≤ s + 0 - n) × (s + 0 - n + len + b ≤ 2 ^ 32)) × LiesIn o (s + 0 - n) len a b
  by None e h = absurd h
  by (Some q) e h =
      let le : q.0 + (a + n) ≤ s = leb-true (q.0 + (a + n)) s e in
      (omega (arith, le), (omega (arith, le), omega (arith, k.1)), (omega (arith, le), omega (arith, h.1)))

pub shows-moved : (table : Table) (v : ItemView) (tail : Option Mark) (on back : ℕ) → Shows table v.first v.len (left_reach v.mark) (right_reach tail) on back → ShowsMoved table v tail on back
shows-moved table v tail on back h = record { reaches = h.0; source = h.1; lies = h.2 }

pub room-of : (table : Table) (v : ItemView) (tail : Option Mark) (e l : ℕ) → 0 < v.len → SideLiesIn table v.first v.len (left_reach v.mark) (right_reach tail) → HasSource v.first v.len (left_reach v.mark) (right_reach tail)
    → AreUpTo (may_slip_earlier table v.first v.mark) e → AreUpTo (may_slip_later table (later_side v.first (v.len - 1)) tail) l → HasSource v.first v.len 0 (right_reach tail + l) → e < 2 ^ 32 → l < 2 ^ 32
    → RoomOf table v tail (record { earlier = e; later = l })
room-of table v tail e l filled lies source up down numbered es ls = record {
  later = down;
  earlier = up;
  on = λ n le. shows-moved table v tail n 0
      (shows_later table v.first v.len (left_reach v.mark) (right_reach tail) n l filled lies source numbered le (up-true (may_slip_later table (later_side v.first (v.len - 1)) tail) l n down le ls));
  back = λ n le. shows-moved table v tail 0 n
      (shows-earlier table v.first v.len (left_reach v.mark) (right_reach tail) n lies source (up-true (may_slip_earlier table v.first v.mark) e n up le es));
}

-- an item of a good track lies in the range of its thing with what the dissolves at its ends show past it
pub record AtEnds (table : Table) (v : ItemView) (tail : Option Mark) : Type 0 where
  pub filled : 0 < v.len
  pub lies : SideLiesIn table v.first v.len (left_reach v.mark) (right_reach tail)
  pub source : HasSource v.first v.len (left_reach v.mark) (right_reach tail)

pub ends-of : (table : Table) (t : TrackState) (i : ℕ) (v : ItemView) (tail : Option Mark) → IsGood table t → slice_get (items_of t.cells) i ≡ Some v → tail ≡ mark_of (slice_get (items_of t.cells) (i + 1)) → AtEnds table v tail
ends-of table t i v tail good read is =
    let vs = items_of t.cells in
    let more : i + 1 ≡ suc i = omega arith in
    let here : tail ≡ mark_of (slice_get vs (suc i)) = is ∙ ap (λ (k : ℕ). mark_of (slice_get vs k)) more in
    record {
      filled = filled-at vs i v read good.kept.each;
      lies = subst (λ (m : Option Mark). SideLiesIn table v.first v.len (left_reach v.mark) (right_reach m)) (sym here) (lies-ends table vs i v read good.ranges);
      source = subst (λ (m : Option Mark). HasSource v.first v.len (left_reach v.mark) (right_reach m)) (sym here) (source-ends vs i v read good.kept.each);
    }

-- rooms of several

room_both : (f g h k : ℕ → Bool) (M N : ℕ → ℕ → Type 0) (a b r : SlipRoom) → r.earlier ≡ min a.earlier b.earlier → r.later ≡ min a.later b.later → IsRoom f g M a → IsRoom h k N b
    → IsRoom (λ n. f n && h n) (λ n. g n && k n) (λ i j. M i j × N i j) r
room_both f g h k M N a b r x y p q = record {
  later = up-both f h a.later b.later r.later y p.later q.later;
  earlier = up-both g k a.earlier b.earlier r.earlier x p.earlier q.earlier;
  on = λ n le. (p.on n (omega (arith, le, y)), q.on n (omega (arith, le, y)));
  back = λ n le. (p.back n (omega (arith, le, x)), q.back n (omega (arith, le, x)));
}

room_as : (f g h k : ℕ → Bool) (M N : ℕ → ℕ → Type 0) (r : SlipRoom) → ((n : ℕ) → h n ≡ f n) → ((n : ℕ) → k n ≡ g n) → ((i j : ℕ) → M i j → N i j) → IsRoom f g M r → IsRoom h k N r
room_as f g h k M N r x y z p = record {
  later = λ n small. x n ∙ p.later n small;
  earlier = λ n small. y n ∙ p.earlier n small;
  on = λ n le. z n 0 (p.on n le);
  back = λ n le. z 0 n (p.back n le);
}

room_all : (M : ℕ → ℕ → Type 0) (r : SlipRoom) → r.earlier ≡ 4294967295 → r.later ≡ 4294967295 → ((i j : ℕ) → M i j) → IsRoom (λ n. true) (λ n. true) M r
room_all M r x y z = record {
  later = λ n small. sym (le-leb n r.later (omega (arith, small, y)));
  earlier = λ n small. sym (le-leb n r.earlier (omega (arith, small, x)));
  on = λ n le. z n 0;
  back = λ n le. z 0 n;
}

and_true : (b : Bool) → b && true ≡ b
and_true true = refl
and_true false = refl

and_assoc : (a b c : Bool) → a && (b && c) ≡ (a && b) && c
and_assoc true b c = refl
and_assoc false b c = refl

-- the first items and gaps of a track

abbrev pub front_linked : Link → (ItemView → Option Mark → Bool) → ℕ → List ItemView → Bool
front_linked l holds zero vs = true
front_linked l holds (suc i) [] = true
front_linked l holds (suc i) (v ∷ vs) = cond (carries l v.link) (holds v (first_mark vs)) true && front_linked l holds i vs

abbrev pub FrontMoves : Table → Link → ℕ → List ItemView → ℕ → ℕ → Type 0
FrontMoves table l zero vs on back = Unit {0}
FrontMoves table l (suc i) [] on back = Unit {0}
FrontMoves table l (suc i) (v ∷ vs) on back = (carries l v.link ≡ true → ShowsMoved table v (first_mark vs) on back) × FrontMoves table l i vs on back

abbrev pub RoomFront : Table → Link → ℕ → List ItemView → SlipRoom → Type 0
RoomFront table l i vs r = IsRoom (λ n. front_linked l (item_may_slip_later table n) i vs) (λ n. front_linked l (item_may_slip_earlier table n) i vs) (FrontMoves table l i vs) r

front_more : (l : Link) (holds : ItemView → Option Mark → Bool) (i : ℕ) (vs : List ItemView) (v : ItemView) → slice_get vs i ≡ Some v
    → front_linked l holds (suc i) vs ≡ front_linked l holds i vs && cond (carries l v.link) (holds v (mark_of (slice_get vs (suc i)))) true
front_more l holds i [] v e = absurd (omega (arith, slice_get_within [] i v e))
front_more l holds zero (w ∷ ws) v e =
    let same : w ≡ v = cc in
    and_true (cond (carries l w.link) (holds w (first_mark ws)) true)
    ∙ (ap (λ (m : Option Mark). cond (carries l w.link) (holds w m) true) (first-of-rest ws)
    ∙ ap (λ (u : ItemView). cond (carries l u.link) (holds u (mark_of (slice_get ws 0))) true) same)
front_more l holds (suc i) (w ∷ ws) v e =
    ap (λ (b : Bool). cond (carries l w.link) (holds w (first_mark ws)) true && b) (front_more l holds i ws v e)
    ∙ and_assoc (cond (carries l w.link) (holds w (first_mark ws)) true) (front_linked l holds i ws) (cond (carries l v.link) (holds v (mark_of (slice_get ws (suc i)))) true)

moves_more : (table : Table) (l : Link) (i : ℕ) (vs : List ItemView) (v : ItemView) (on back : ℕ) → slice_get vs i ≡ Some v → FrontMoves table l i vs on back
    → (carries l v.link ≡ true → ShowsMoved table v (mark_of (slice_get vs (suc i))) on back) → FrontMoves table l (suc i) vs on back
moves_more table l i [] v on back e k h = absurd (omega (arith, slice_get_within [] i v e))
moves_more table l zero (w ∷ ws) v on back e k h =
    let same : w ≡ v = cc in (
      λ c. subst (λ (m : Option Mark). ShowsMoved table w m on back) (sym (first-of-rest ws))
          (subst (λ (u : ItemView). ShowsMoved table u (mark_of (slice_get ws 0)) on back) (sym same) (h (subst (λ (u : ItemView). carries l u.link ≡ true) same c))),
      tt,
    )
moves_more table l (suc i) (w ∷ ws) v on back e k h = (k.0, moves_more table l i ws v on back e k.1 h)

pub front-start : (table : Table) (l : Link) (vs : List ItemView) (r : SlipRoom) → r.earlier ≡ 4294967295 → r.later ≡ 4294967295 → RoomFront table l 0 vs r
front-start table l vs r x y = room_all (FrontMoves table l 0 vs) r x y (λ i j. tt)

passed_test : (l : Link) (holds : ItemView → Option Mark → Bool) (i : ℕ) (vs : List ItemView) (v : ItemView) → slice_get vs i ≡ Some v → carries l v.link ≡ false
    → front_linked l holds (suc i) vs ≡ front_linked l holds i vs
passed_test l holds i vs v e c =
    front_more l holds i vs v e
    ∙ (ap (λ (b : Bool). front_linked l holds i vs && cond b (holds v (mark_of (slice_get vs (suc i)))) true) c ∙ and_true (front_linked l holds i vs))

not_both : (b : Bool) → b ≡ false → b ≡ true → ⊥
not_both true p q = Prim.grind (arith, p)
not_both false p q = Prim.grind (arith, q)

pub front-passed : (table : Table) (l : Link) (i : ℕ) (vs : List ItemView) (v : ItemView) (r : SlipRoom) → slice_get vs i ≡ Some v → carries l v.link ≡ false → RoomFront table l i vs r → RoomFront table l (i + 1) vs r
front-passed table l i vs v r e c p =
    let more : suc i ≡ i + 1 = omega arith in
    subst (λ (k : ℕ). RoomFront table l k vs r) more
    (room_as (λ n. front_linked l (item_may_slip_later table n) i vs) (λ n. front_linked l (item_may_slip_earlier table n) i vs)
    (λ n. front_linked l (item_may_slip_later table n) (suc i) vs) (λ n. front_linked l (item_may_slip_earlier table n) (suc i) vs)
    (FrontMoves table l i vs) (FrontMoves table l (suc i) vs) r
    (λ n. passed_test l (item_may_slip_later table n) i vs v e c) (λ n. passed_test l (item_may_slip_earlier table n) i vs v e c)
    (λ x y k. moves_more table l i vs v x y e k (λ t. absurd (not_both (carries l v.link) c t))) p)

met_test : (l : Link) (holds : ItemView → Option Mark → Bool) (i : ℕ) (vs : List ItemView) (v : ItemView) → slice_get vs i ≡ Some v → carries l v.link ≡ true
    → front_linked l holds (suc i) vs ≡ front_linked l holds i vs && holds v (mark_of (slice_get vs (suc i)))
met_test l holds i vs v e c =
    front_more l holds i vs v e ∙ ap (λ (b : Bool). front_linked l holds i vs && cond b (holds v (mark_of (slice_get vs (suc i)))) true) c

pub front-met : (table : Table) (l : Link) (i : ℕ) (vs : List ItemView) (v : ItemView) (tail : Option Mark) (a b r : SlipRoom) → slice_get vs i ≡ Some v → carries l v.link ≡ true → tail ≡ mark_of (slice_get vs (i + 1))
    → r.earlier ≡ min a.earlier b.earlier → r.later ≡ min a.later b.later → RoomFront table l i vs a → RoomOf table v tail b → RoomFront table l (i + 1) vs r
front-met table l i vs v tail a b r e c is x y p q =
    let more : suc i ≡ i + 1 = omega arith in
    let here : RoomOf table v (mark_of (slice_get vs (suc i))) b = subst (λ (m : Option Mark). RoomOf table v m b) (is ∙ ap (λ (k : ℕ). mark_of (slice_get vs k)) (sym more)) q in
    subst (λ (k : ℕ). RoomFront table l k vs r) more
    (room_as (λ n. front_linked l (item_may_slip_later table n) i vs && item_may_slip_later table n v (mark_of (slice_get vs (suc i))))
    (λ n. front_linked l (item_may_slip_earlier table n) i vs && item_may_slip_earlier table n v (mark_of (slice_get vs (suc i))))
    (λ n. front_linked l (item_may_slip_later table n) (suc i) vs) (λ n. front_linked l (item_may_slip_earlier table n) (suc i) vs)
    (λ j k. FrontMoves table l i vs j k × ShowsMoved table v (mark_of (slice_get vs (suc i))) j k) (FrontMoves table l (suc i) vs) r
    (λ n. met_test l (item_may_slip_later table n) i vs v e c) (λ n. met_test l (item_may_slip_earlier table n) i vs v e c)
    (λ j k h. moves_more table l i vs v j k e h.0 (λ t. h.1))
    (room_both (λ n. front_linked l (item_may_slip_later table n) i vs) (λ n. front_linked l (item_may_slip_earlier table n) i vs)
    (λ n. item_may_slip_later table n v (mark_of (slice_get vs (suc i)))) (λ n. item_may_slip_earlier table n v (mark_of (slice_get vs (suc i))))
    (FrontMoves table l i vs) (ShowsMoved table v (mark_of (slice_get vs (suc i)))) a b r x y p here))

front_all : (l : Link) (holds : ItemView → Option Mark → Bool) (i : ℕ) (vs : List ItemView) → length vs ≤ i → each_linked l holds vs ≡ front_linked l holds i vs
front_all l holds zero [] h = refl
front_all l holds zero (v ∷ vs) h = absurd (omega (arith, h))
front_all l holds (suc i) [] h = refl
front_all l holds (suc i) (v ∷ vs) h = ap (λ (b : Bool). cond (carries l v.link) (holds v (first_mark vs)) true && b) (front_all l holds i vs (omega (arith, h)))

moves_all : (table : Table) (l : Link) (i : ℕ) (vs : List ItemView) (on back : ℕ) → length vs ≤ i → FrontMoves table l i vs on back → EachMoves table l vs on back
moves_all table l zero [] on back h k = tt
moves_all table l zero (v ∷ vs) on back h k = absurd (omega (arith, h))
moves_all table l (suc i) [] on back h k = tt
moves_all table l (suc i) (v ∷ vs) on back h k = (k.0, moves_all table l i vs on back (omega (arith, h)) k.1)

pub front-end : (table : Table) (l : Link) (i : ℕ) (vs : List ItemView) (r : SlipRoom) → length vs ≤ i → RoomFront table l i vs r → RoomOn table l vs r
front-end table l i vs r h p =
    room_as (λ n. front_linked l (item_may_slip_later table n) i vs) (λ n. front_linked l (item_may_slip_earlier table n) i vs)
    (λ n. each_linked l (item_may_slip_later table n) vs) (λ n. each_linked l (item_may_slip_earlier table n) vs) (FrontMoves table l i vs) (EachMoves table l vs) r
    (λ n. front_all l (item_may_slip_later table n) i vs h) (λ n. front_all l (item_may_slip_earlier table n) i vs h) (λ x y k. moves_all table l i vs x y h k) p

-- the first tracks

on_append : (l : Link) (holds : ItemView → Option Mark → Bool) (us : List TrackState) (t : TrackState) → each_linked_on l holds (us ++ t ∷ []) ≡ each_linked_on l holds us && each_linked l holds (items_of t.cells)
on_append l holds [] t = and_true (each_linked l holds (items_of t.cells))
on_append l holds (u ∷ us) t =
    ap (λ (b : Bool). each_linked l holds (items_of u.cells) && b) (on_append l holds us t)
    ∙ and_assoc (each_linked l holds (items_of u.cells)) (each_linked_on l holds us) (each_linked l holds (items_of t.cells))

all_append : (table : Table) (l : Link) (us : List TrackState) (t : TrackState) (on back : ℕ) → AllMove table l us on back → EachMoves table l (items_of t.cells) on back → AllMove table l (us ++ t ∷ []) on back
all_append table l [] t on back h k = (k, tt)
all_append table l (u ∷ us) t on back h k = (h.0, all_append table l us t on back h.1 k)

pub among-start : (table : Table) (l : Link) (ts : List TrackState) (r : SlipRoom) → r.earlier ≡ 4294967295 → r.later ≡ 4294967295 → RoomAmong table l (take 0 ts) r
among-start table l ts r x y = room_all (AllMove table l []) r x y (λ i j. tt)

pub among-more : (table : Table) (l : Link) (i : ℕ) (ts : List TrackState) (t : TrackState) (a b r : SlipRoom) → i < length ts → t ≡ get_or ts i t → r.earlier ≡ min a.earlier b.earlier → r.later ≡ min a.later b.later
    → RoomAmong table l (take i ts) a → RoomOn table l (items_of t.cells) b → RoomAmong table l (take (i + 1) ts) r
among-more table l i ts t a b r lt is x y p q =
    let us : List TrackState = take i ts in
    let more : take (i + 1) ts ≡ us ++ t ∷ [] = take_more ts i t lt ∙ ap (λ (u : TrackState). us ++ u ∷ []) (sym is) in
    subst (λ (ts : List TrackState). RoomAmong table l ts r) (sym more)
    (room_as (λ n. each_linked_on l (item_may_slip_later table n) us && each_linked l (item_may_slip_later table n) (items_of t.cells))
    (λ n. each_linked_on l (item_may_slip_earlier table n) us && each_linked l (item_may_slip_earlier table n) (items_of t.cells))
    (λ n. each_linked_on l (item_may_slip_later table n) (us ++ t ∷ [])) (λ n. each_linked_on l (item_may_slip_earlier table n) (us ++ t ∷ []))
    (λ j k. AllMove table l us j k × EachMoves table l (items_of t.cells) j k) (AllMove table l (us ++ t ∷ [])) r
    (λ n. on_append l (item_may_slip_later table n) us t) (λ n. on_append l (item_may_slip_earlier table n) us t) (λ j k h. all_append table l us t j k h.0 h.1)
    (room_both (λ n. each_linked_on l (item_may_slip_later table n) us) (λ n. each_linked_on l (item_may_slip_earlier table n) us)
    (λ n. each_linked l (item_may_slip_later table n) (items_of t.cells)) (λ n. each_linked l (item_may_slip_earlier table n) (items_of t.cells))
    (AllMove table l us) (EachMoves table l (items_of t.cells)) a b r x y p q))

pub among-end : (table : Table) (l : Link) (i : ℕ) (ts : List TrackState) (r : SlipRoom) → length ts ≤ i → RoomAmong table l (take i ts) r → RoomAmong table l ts r
among-end table l i ts r h p = subst (λ (us : List TrackState). RoomAmong table l us r) (take_all i ts h) p
