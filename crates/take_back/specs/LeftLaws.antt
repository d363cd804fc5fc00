-- Whatever is done and taken back, the parts are those that the entries lead to that are left.
use Rattle.std.proofs.Common.{append_assoc, ◌≡◌, ℕ, zero, suc, ◌+◌, ◌<◌, ◌≤◌, List, [], ◌∷◌, ◌++◌, Bool, true, false}
use Rattle.std.proofs.Common.{◌&&◌, ◌||◌, ◌==◌, not, nat_lt, Option, Some, None, Result, Ok, Err, IsSome, All, cond}
use Rattle.std.proofs.Common.{fold, length, map, option_map, reverse, slice_get, slice_set, refl, sym, ap, ◌∙◌, subst}
use Rattle.std.proofs.Common.{arith, length-append}
use Rattle.std.specs.List.{list_all, list_any}
use Rattle.std.proofs.lemmas.Bool.Decides.{nat_tests}
use Rattle.std.proofs.lemmas.List.{append-nil, length-map, length-reverse, map-append}
use Rattle.std.proofs.lemmas.Grind.{reverse_onto}
use Rattle.part_sets.specs.Members.{members, first_absent}
use Rattle.part_sets.specs.MemberLaws.{ascend}
use Rattle.room_core.specs.History.{after_entry, replay, most_entries, IsLegal, NumbersRise, RiseAfter}
use Rattle.room_core.specs.Machine.{is_above}
use Rattle.room_core.specs.Parts.{AscendBetween, IsNaming}
use Rattle.room_core.specs.Whole.{Meaning, picked, put_back, on_whole, set_of, unless_refused, whole, with_picked}
use Rattle.room_core.specs.declared.entry.Entry.{Entry}
use Rattle.room_core.proofs.Histories.{both_true, rise-more}
use Rattle.room_core.proofs.WholeParts.{get-put_back, get-set_other, whole_done}
use Rattle.take_back.specs.Backs.{Before, Each, Naming, TakenOut, former-named, former-unnamed, taken_out}
use Rattle.take_back.specs.History.{Answered, Comes, Falls, HasFormer, Ordered, answered, in_order, leads-replay}
use Rattle.take_back.specs.Left.{Leads, after_deed, as_own, deed_with, entered, is_among, left, left_of, left_told}
use Rattle.take_back.specs.Left.{meet, without_newest}
use Rattle.take_back.specs.Lists.{among_below, is_itself, or_true, same_number, get-map, get-map_same, get-put, get-set}
use Rattle.take_back.specs.Lists.{get-there, length-put_back, longer, map-picked, map-put_back, none_some, not_below}
use Rattle.take_back.specs.Lists.{Paired, paired-map, picked-set, same_at_each, set-itself, some_is, true_false}
use Rattle.take_back.specs.Parts.{changed, changed_by, first_not, fresh, given_back, former_or, has_names, is_by, nows}
use Rattle.take_back.specs.Parts.{CanOpen}
use Rattle.take_back.specs.StepLaws.{none_mapped, none_missing}
use Rattle.take_back.specs.Steps.{applied_to, backed, done_by, missing, names_of, refusal_of, taken_back}
use Rattle.take_back.specs.declared.answers.BackDone.{BackDone}
use Rattle.take_back.specs.declared.answers.BackDone.TheVariants.{Own, Plain}
use Rattle.take_back.specs.declared.answers.BackRefusal.{BackRefusal}
use Rattle.take_back.specs.declared.answers.BackRefusal.TheVariants.{NotYours, OtherTracks}
use Rattle.take_back.specs.declared.kept.Kept.{Kept}
use Rattle.take_back.specs.declared.kept.Former.{Former}
use Rattle.take_back.specs.declared.step.Deed.{Deed}
use Rattle.take_back.specs.declared.step.Deed.TheVariants.{Do, Back}
use Rattle.take_back.specs.declared.step.Step.{Step}

-- what stands after some entries: the entries left, the newest first, lead to the parts, and each former part is that
-- before the newest that names the part
pub record Stands {P C D R : Type 0} (m : Meaning P C D R) (count : ℕ) (opening : List P)
    (es : List (Entry C × BackDone D)) (ks : List (Kept P)) : Type 0 where
  pub comes : Comes m opening es (nows ks)
  pub formers : (x : ℕ) (k : Kept P) (f : Former P) → slice_get ks x ≡ Some k → k.before ≡ Some f
      → HasFormer m opening es x f
  pub as_many : length ks ≡ count

pub all_there : (least count : ℕ) (names : List ℕ) (more : ℕ) → count ≡ more → AscendBetween least count names
    → AscendBetween least more names
all_there least count names more e a = subst (λ (k : ℕ). AscendBetween least k names) e a

-- A call that is done.
pub paired-changed : {P : Type 0} (names by : ℕ) (ks : List (Kept P)) (ps : List P)
    → Paired (λ k t. (p : P) × (t ≡ changed_by names by k p)) ks (changed names by ks ps)
paired-changed names by [] ps = tt
paired-changed names by (k ∷ ks) [] = ((k.now, refl), paired-changed names by ks [])
paired-changed names by (k ∷ ks) (p ∷ ps) = ((p, refl), paired-changed names by ks ps)

put_none : {A : Type 0} (xs : List A) (names : List ℕ) → put_back xs names [] ≡ xs
put_none xs [] = refl
put_none xs (n ∷ ns) = refl

-- the parts now after a call are what the call left, put back
put_now : {P : Type 0} (set by : ℕ) (xs : List (Kept P)) (zs : List P) (least : ℕ) (names : List ℕ) (ps : List P)
    → AscendBetween least (length xs) names
    → ((k : ℕ) → is_among names k ≡ true → slice_get zs k ≡ slice_get (nows xs) k)
    → put_back zs names (nows (changed set by (picked xs names) ps)) ≡ put_back zs names ps
put_now set by xs zs least [] ps a same = refl
put_now set by xs zs least (n ∷ ns) [] a same =
    let there = get-there xs n a.1 in
    let k = there.0 in
    let at = same n (ap (λ b. b || is_among ns n) (is_itself n)) ∙ get-map (λ (j : Kept _). j.now) xs n k there.1 in
    ap (λ o. put_back zs (n ∷ ns) (nows (changed set by (with_picked o (picked xs ns)) []))) there.1
    ∙ (ap (λ ys. put_back ys ns (nows (changed set by (picked xs ns) []))) (set-itself zs n k.now at)
    ∙ (put_now set by xs zs (n + 1) ns [] a.2 (λ j among. same j (or_true (n == j) (is_among ns j) among))
    ∙ put_none zs ns))
put_now set by xs zs least (n ∷ ns) (p ∷ ps) a same =
    let there = get-there xs n a.1 in
    ap (λ o. put_back zs (n ∷ ns) (nows (changed set by (with_picked o (picked xs ns)) (p ∷ ps)))) there.1
    ∙ put_now set by xs (slice_set zs n p) (n + 1) ns ps a.2
    (λ j among. get-set_other zs n j p (λ e. true_false (sym among ∙ not_below (n + 1) (length xs) j ns a.2
    (omega (arith, e)))) ∙ same j (or_true (n == j) (is_among ns j) among))

-- what was done of a call
pub record Done {P C D R : Type 0} (m : Meaning P C D R) (by : ℕ) (c : C) (ks now : List (Kept P))
    (a : BackDone D) : Type 0 where
  pub named : m.refuses c ≡ None
  pub left : List P
  pub answer : D
  pub own : a ≡ Own answer
  pub applied : m.applied (nows (picked ks (m.names c))) c ≡ Ok (left, answer)
  pub parts : put_back ks (m.names c) (changed (set_of (m.names c)) by (picked ks (m.names c)) left) ≡ now

done_result : {P D R : Type 0} (names by : ℕ) (ks ts : List (Kept P)) (a : BackDone D) (r : Result (List P × D) R)
    → done_by names by ks r ≡ Ok (ts, a)
    → (left : List P) × (d : D) × (r ≡ Ok (left, d)) × (a ≡ Own d) × (changed names by ks left ≡ ts)
done_result names by ks ts a (Ok (ps, d)) h = (ps, d, refl, Prim.grind (arith, h), Prim.grind (arith, h))
done_result names by ks ts a (Err r) h = absurd (Prim.grind (arith, h))

pub done_call : {P C D R : Type 0} (m : Meaning P C D R) (count by : ℕ) (c : C) (ks now : List (Kept P))
    (a : BackDone D)
    → whole (backed count m) ks (record { by = by; act = Do c }) ≡ Ok (now, a) → Done m by c ks now a
done_call m count by c ks now a h =
    let names = m.names c in
    let set = set_of names in
    let done = whole_done ks names (refusal_of count m.refuses (Do c))
    (done_by set by (picked ks names) (m.applied (nows (picked ks names)) c)) now a h in
    let r = done_result set by (picked ks names) done.1 a (m.applied (nows (picked ks names)) c) done.2 in
    record {
      named = none_mapped _ (m.refuses c) done.0;
      left = r.0;
      answer = r.1;
      own = r.3;
      applied = r.2;
      parts = ap (put_back ks names) r.4 ∙ done.3;
    }

former_of_done : {P C D R : Type 0} (m : Meaning P C D R) (opening : List P) (es : List (Entry C × BackDone D))
    (e : Entry C) (by : ℕ) (ks now : List (Kept P))
    (a : BackDone D) (d : Done m by e.call ks now a) (x : ℕ) (k : Kept P) (f : Former P) (b : Bool)
    → AscendBetween 0 (length ks) (m.names e.call) → Comes m opening es (nows ks)
    → ((k : Kept P) (f : Former P) → slice_get ks x ≡ Some k → k.before ≡ Some f → HasFormer m opening es x f)
    → is_among (m.names e.call) x ≡ b → slice_get now x ≡ Some k → k.before ≡ Some f
    → HasFormer m opening ((e, a) ∷ es) x f
former_of_done m opening es e by ks now a d x k f true a0 comes was among there is =
    let names = m.names e.call in
    let old = get-there ks x (among_below 0 (length ks) x names a0 among) in
    let put = get-put _ ks 0 names (changed (set_of names) by (picked ks names) d.left) x old.0 a0
    (paired-changed (set_of names) by (picked ks names) d.left) among old.1 in
    let one : put.0 ≡ k = some_is put.0 k (sym put.1 ∙ (ap (λ ys. slice_get ys x) d.parts ∙ there)) in
    let before : Some (record { part = old.0.now; names = set_of names; by = by }) ≡ Some f =
    ap (λ (j : Kept _). j.before) (sym put.2.1) ∙ (ap (λ (j : Kept _). j.before) one ∙ is) in
    let former = some_is _ f before in
    former-named m opening (e, a) es x f among (record {
      names = ap (λ (g : Former _). g.names) former;
      parts = nows ks;
      comes = comes;
      part = get-map (λ (j : Kept _). j.now) ks x old.0 old.1 ∙ ap (λ (g : Former _). Some g.part) former;
    })
former_of_done m opening es e by ks now a d x k f false a0 comes was among there is =
    let names = m.names e.call in
    let same = sym (get-put_back ks names (changed (set_of names) by (picked ks names) d.left) x among)
    ∙ (ap (λ ys. slice_get ys x) d.parts ∙ there) in
    former-unnamed m opening (e, a) es x f among (was k f same is)

stands_done : {P C D R : Type 0} (m : Meaning P C D R) (count : ℕ) (opening : List P) (es : List (Entry C × BackDone D))
    (station number by : ℕ) (c : C)
    (ks now : List (Kept P)) (a : BackDone D) → Naming m count → Stands m count opening es ks
    → whole (backed count m) ks (record { by = by; act = Do c }) ≡ Ok (now, a)
    → Stands m count opening ((record { station = station; number = number; call = c }, a) ∷ es) now
stands_done m count opening es station number by c ks now a naming s h =
    let d = done_call m count by c ks now a h in
    let names = m.names c in
    let set = set_of names in
    let a0 = all_there 0 count names (length ks) (sym s.as_many) (naming c d.named).ascend in
    let seen = map-picked (λ (k : Kept _). k.now) ks names in
    let left_now : put_back (nows ks) names d.left ≡ nows now =
    sym (put_now set by ks (nows ks) 0 names d.left a0 (λ k among. refl))
    ∙ (sym (map-put_back (λ (k : Kept _). k.now) ks names (changed set by (picked ks names) d.left))
    ∙ ap nows d.parts) in
    let does : whole m (nows ks) c ≡ Ok (nows now, d.answer) =
    ap (λ r. unless_refused r (on_whole (nows ks) names (m.applied (picked (nows ks) names) c))) d.named
    ∙ (ap (λ ps. on_whole (nows ks) names (m.applied ps c)) (sym seen)
    ∙ (ap (on_whole (nows ks) names) d.applied ∙ ap (λ ps. Ok (ps, d.answer)) left_now)) in
    record {
      comes = (nows ks, s.comes, d.answer, d.own, does);
      formers = λ x k f there is.
          former_of_done m opening es (record { station = station; number = number; call = c }) by ks now a d x k f
          (is_among names x) a0 s.comes (s.formers x) refl there is;
      as_many = sym (ap length d.parts) ∙ (length-put_back ks names _ ∙ s.as_many);
    }

-- A call that is taken back.
pass_at : {P : Type 0} (test : Option (Former P) → Bool) (ks : List (Kept P)) (n x : ℕ) (ns : List ℕ) (y k : Kept P)
    (b : Bool) → slice_get ks n ≡ Some y
    → slice_get ks x ≡ Some k → test y.before ≡ true → (n == x) ≡ b → (b || is_among ns x) ≡ true
    → (is_among ns x ≡ true → test k.before ≡ true)
    → test k.before ≡ true
pass_at test ks n x ns y k true at there passes same among rest =
    let is = some_is y k (sym at ∙ (ap (slice_get ks) (same_number n x same) ∙ there)) in
    ap (λ (j : Kept _). test j.before) (sym is) ∙ passes
pass_at test ks n x ns y k false at there passes same among rest = rest among

pass_by : (b : Bool) (first : Option ℕ) (n : ℕ) → cond b first (Some n) ≡ None → (b ≡ true) × (first ≡ None)
pass_by true first n h = (refl, h)
pass_by false first n h = none_some n (sym h)

all_pass : {P : Type 0} (test : Option (Former P) → Bool) (ks : List (Kept P)) (least : ℕ) (names : List ℕ) (x : ℕ)
    (k : Kept P) → AscendBetween least (length ks) names
    → first_not test names (picked ks names) ≡ None → is_among names x ≡ true → slice_get ks x ≡ Some k
    → test k.before ≡ true
all_pass test ks least [] x k a h among there = true_false (sym among)
all_pass test ks least (n ∷ ns) x k a h among there =
    let at = get-there ks n a.1 in
    let two = pass_by (test at.0.before) (first_not test ns (picked ks ns)) n
    (ap (λ o. first_not test (n ∷ ns) (with_picked o (picked ks ns))) (sym at.1) ∙ h) in
    pass_at test ks n x ns at.0 k (n == x) at.1 there two.0 refl among
    (λ later. all_pass test ks (n + 1) ns x k a.2 two.1 later there)

back_result : {P D R : Type 0} (by tracks : ℕ) (qs ts : List (Kept P)) (a : BackDone D) (first second : Option ℕ)
    → unless_refused {A = List (Kept P) × BackDone D} {R = BackRefusal R} (option_map NotYours first)
    (unless_refused {A = List (Kept P) × BackDone D} {R = BackRefusal R} (option_map OtherTracks second)
    (Ok (map given_back qs, Plain))) ≡ Ok (ts, a)
    → (first ≡ None) × (second ≡ None) × (map given_back qs ≡ ts) × (a ≡ Plain)
back_result by tracks qs ts a (Some n) second h = absurd (Prim.grind (arith, h))
back_result by tracks qs ts a None (Some n) h = absurd (Prim.grind (arith, h))
back_result by tracks qs ts a None None h = (refl, refl, Prim.grind (arith, h), Prim.grind (arith, h))

has_former : {P : Type 0} (names : ℕ) (o : Option (Former P)) → has_names names o ≡ true → (f : Former P) × (o ≡ Some f)
    × (f.names ≡ names)
has_former names None h = true_false (sym h)
has_former names (Some f) h = (f, refl, Prim.grind (arith, nat_tests, h))

some_member : (ns : List ℕ) → 0 < length ns → (n : ℕ) × (is_among ns n ≡ true)
some_member [] h = absurd (omega (arith, h))
some_member (n ∷ ns) h = (n, ap (λ b. b || is_among ns n) (is_itself n))

-- what was done of a taking back
record TookBack {P C D R : Type 0} (m : Meaning P C D R) (count tracks : ℕ) (ks now : List (Kept P)) : Type 0 where
  pub member : ℕ
  pub among : is_among (members tracks) member ≡ true
  pub ascend : AscendBetween 0 count (members tracks)
  pub named : first_not (has_names tracks) (members tracks) (picked ks (members tracks)) ≡ None
  pub parts : put_back ks (members tracks) (map given_back (picked ks (members tracks))) ≡ now

took_back : {P C D R : Type 0} (m : Meaning P C D R) (count by tracks : ℕ) (ks now : List (Kept P)) (a : BackDone D)
    → whole (backed count m) ks (record { by = by; act = Back tracks }) ≡ Ok (now, a) → TookBack m count tracks ks now
took_back m count by tracks ks now a h =
    let names = members tracks in
    let done = whole_done ks names (refusal_of count m.refuses (Back tracks)) (taken_back by tracks (picked ks names))
    now a h in
    let there = none_missing count names (none_mapped _ (missing count names) done.0) in
    let r = back_result by tracks (picked ks names) done.1 a _ _ done.2 in
    let one = some_member names there.0 in
    record {
      member = one.0;
      among = one.1;
      ascend = ascend tracks count there.1;
      named = r.1;
      parts = ap (put_back ks names) r.2 ∙ done.3;
    }

-- a part that was given back
given_at : {P : Type 0} (ks now : List (Kept P)) (names : List ℕ) (x : ℕ) (k : Kept P) (f : Former P)
    → AscendBetween 0 (length ks) names
    → put_back ks names (map given_back (picked ks names)) ≡ now → is_among names x ≡ true → slice_get ks x ≡ Some k
    → k.before ≡ Some f
    → slice_get now x ≡ Some (fresh f.part)
given_at ks now names x k f a is among there before =
    let put = get-put _ ks 0 names (map given_back (picked ks names)) x k a (paired-map given_back (picked ks names))
    among there in
    ap (λ ys. slice_get ys x) (sym is) ∙ (put.1 ∙ ap Some (put.2 ∙ ap (former_or k) before))

given_now : {P C D R : Type 0} (m : Meaning P C D R) (opening : List P) (es after : List (Entry C × BackDone D))
    (names : List ℕ) (ks now : List (Kept P)) (tracks : ℕ)
    (each : (x : ℕ) → is_among names x ≡ true → (k : Kept P) × (f : Former P) × (slice_get ks x ≡ Some k)
    × (k.before ≡ Some f) × HasFormer m opening es x f × (f.names ≡ tracks))
    → AscendBetween 0 (length ks) names → put_back ks names (map given_back (picked ks names)) ≡ now
    → (out : TakenOut m opening names es after (nows ks)) → (x : ℕ) (b : Bool) → is_among names x ≡ b
    → slice_get (nows now) x ≡ slice_get out.parts x
given_now m opening es after names ks now tracks each a is out x true among =
    let at = each x among in
    get-map (λ (k : Kept _). k.now) now x (fresh at.1.part) (given_at ks now names x at.0 at.1 a is among at.2 at.3)
    ∙ sym (out.given x at.1 among at.4)
given_now m opening es after names ks now tracks each a is out x false among =
    get-map_same (λ (k : Kept _). k.now) now ks x
    (ap (λ ys. slice_get ys x) (sym is) ∙ get-put_back ks names (map given_back (picked ks names)) x among)
    ∙ sym (out.others x among)

former_of_back : {P C D R : Type 0} (m : Meaning P C D R) (opening : List P) (es after : List (Entry C × BackDone D))
    (names : List ℕ) (ks now : List (Kept P)) (tracks : ℕ)
    (each : (x : ℕ) → is_among names x ≡ true → (k : Kept P) × (f : Former P) × (slice_get ks x ≡ Some k)
    × (k.before ≡ Some f) × HasFormer m opening es x f × (f.names ≡ tracks))
    → AscendBetween 0 (length ks) names → put_back ks names (map given_back (picked ks names)) ≡ now
    → TakenOut m opening names es after (nows ks)
    → (x : ℕ) (k : Kept P) (f : Former P) (b : Bool) → ((k : Kept P) (f : Former P) → slice_get ks x ≡ Some k
    → k.before ≡ Some f → HasFormer m opening es x f)
    → is_among names x ≡ b → slice_get now x ≡ Some k → k.before ≡ Some f → HasFormer m opening after x f
former_of_back m opening es after names ks now tracks each a is out x k f true was among there before =
    let at = each x among in
    let one = some_is k (fresh at.1.part) (sym there ∙ given_at ks now names x at.0 at.1 a is among at.2 at.3) in
    none_some f (ap (λ (j : Kept _). j.before) (sym one) ∙ before)
former_of_back m opening es after names ks now tracks each a is out x k f false was among there before =
    out.formers x f among (was k f (sym (ap (λ ys. slice_get ys x) (sym is)
    ∙ get-put_back ks names (map given_back (picked ks names)) x among) ∙ there) before)

stands_back : {P C D R : Type 0} (m : Meaning P C D R) (count : ℕ) (opening : List P) (es : List (Entry C × BackDone D))
    (by tracks : ℕ)
    (ks now : List (Kept P)) (a : BackDone D) → Naming m count → count ≤ 32 → Stands m count opening es ks
    → whole (backed count m) ks (record { by = by; act = Back tracks }) ≡ Ok (now, a)
    → Stands m count opening (without_newest (λ (t : Entry C × BackDone D). m.names t.0.call) (members tracks) es) now
stands_back {P} {C} {D} m count opening es by tracks ks now a naming few s h =
    let names = members tracks in
    let took = took_back m count by tracks ks now a h in
    let a0 = all_there 0 count names (length ks) (sym s.as_many) took.ascend in
    let each : (x : ℕ) → is_among names x ≡ true → (k : Kept P) × (f : Former P) × (slice_get ks x ≡ Some k)
    × (k.before ≡ Some f) × HasFormer m opening es x f × (f.names ≡ tracks) =
    λ x among.
    let at = get-there ks x (among_below 0 (length ks) x names a0 among) in
    let f = has_former tracks at.0.before (all_pass (has_names tracks) ks 0 names x at.0 a0 took.named among at.1) in
    (at.0, f.0, at.1, f.1, s.formers x at.0 f.0 at.1 f.1, f.2) in
    let out = taken_out m count opening tracks es (nows ks) took.member naming few s.comes took.among
    (λ x among. let at = each x among in (at.1, at.4, at.5)) in
    let after = without_newest (λ (t : Entry C × BackDone D). m.names t.0.call) names es in
    record {
      comes = subst (λ ps. Comes m opening after ps)
          (sym (same_at_each (nows now) out.parts (λ x. given_now m opening es after names ks now tracks each a0
          took.parts out x (is_among names x) refl))) out.comes;
      formers = λ x k f there before.
          former_of_back m opening es after names ks now tracks each a0 took.parts out x k f (is_among names x)
          (s.formers x) refl there before;
      as_many = sym (ap length took.parts) ∙ (length-put_back ks names _ ∙ s.as_many);
    }

-- one step, and many
stands_deed : {P C D R : Type 0} (m : Meaning P C D R) (count : ℕ) (opening : List P) (es : List (Entry C × BackDone D))
    (station number by : ℕ) (act : Deed C)
    (ks now : List (Kept P)) (a : BackDone D) → Naming m count → count ≤ 32 → Stands m count opening es ks
    → whole (backed count m) ks (record { by = by; act = act }) ≡ Ok (now, a)
    → Stands m count opening (after_deed (λ (t : Entry C × BackDone D). m.names t.0.call) es
    (deed_with a (entered station number act))) now
stands_deed m count opening es station number by (Do c) ks now a naming few s h = stands_done m count opening es station
    number by c ks now a naming s h
stands_deed m count opening es station number by (Back tracks) ks now a naming few s h =
    stands_back m count opening es by tracks ks now a naming few s h

-- a step that was entered, as what is done to the entries that are left
abbrev pub deed_of : {C A : Type 0} → Entry (Step C) × A → Deed (Entry C × A)
deed_of t = deed_with t.1 (entered t.0.station t.0.number t.0.call.act)

pub stands : {P C D R : Type 0} (m : Meaning P C D R) (count : ℕ) (opening : List P) (es : List (Entry C × BackDone D))
    (ks now : List (Kept P)) (ts : List (Entry (Step C) × BackDone D)) → Naming m count → count ≤ 32
    → Stands m count opening es ks
    → Leads (whole (backed count m)) ks ts now
    → Stands m count opening (fold (after_deed (λ (t : Entry C × BackDone D). m.names t.0.call)) es
    (map deed_of ts)) now
stands m count opening es ks now [] naming few s h = subst (λ ys. Stands m count opening es ys) h s
stands {P} {C} {D} {R} m count opening es ks now (t ∷ ts) naming few s h =
    stands m count opening (after_deed (λ (u : Entry C × BackDone D). m.names u.0.call) es (deed_of t)) h.0 now ts
    naming few
    (stands_deed m count opening es t.0.station t.0.number t.0.call.by t.0.call.act ks h.0 t.1 naming few s h.1) h.2
