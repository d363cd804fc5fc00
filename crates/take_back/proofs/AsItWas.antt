-- A call, whatever is done on other parts, and its taking back.
use Rattle.std.proofs.Common.{◌≡◌, ℕ, zero, suc, ◌+◌, ◌<◌, ◌≤◌, List, [], ◌∷◌, Bool, true, false, ◌||◌, ◌==◌, Option}
use Rattle.std.proofs.Common.{Some, None, Result, Ok, Err, cond, length, map, option_map, slice_get, refl, sym, ap, ◌∙◌}
use Rattle.std.proofs.Common.{subst, arith}
use Rattle.std.proofs.lemmas.Bool.Decides.{nat_tests}
use Rattle.part_sets.specs.Members.{first_absent, members}
use Rattle.part_sets.specs.MemberLaws.{all_below, higher, members-set}
use Rattle.room_core.specs.Parts.{AscendBetween}
use Rattle.room_core.specs.Projection.{of_part}
use Rattle.room_core.specs.Whole.{Meaning, picked, put_back, on_whole, set_of, unless_refused, whole, with_picked}
use Rattle.room_core.specs.History.{replay}
use Rattle.room_core.specs.declared.entry.Entry.{Entry}
use Rattle.room_core.proofs.WholeParts.{replay-leaves}
use Rattle.take_back.specs.Backs.{Naming}
use Rattle.take_back.specs.History.{answered}
use Rattle.take_back.specs.Left.{is_among}
use Rattle.take_back.specs.LeftLaws.{Done, done_call, paired-changed, all_there, stands}
use Rattle.take_back.specs.Lists.{among_below, get-map, get-put, get-there, map-picked, picked-same, or_true, is_itself}
use Rattle.take_back.specs.Lists.{some_is}
use Rattle.take_back.specs.Parts.{changed, changed_by, first_not, fresh, given_back, former_or, has_names, is_by, nows}
use Rattle.take_back.specs.Parts.{CanOpen}
use Rattle.take_back.specs.RoomyLaws.{Opening, stands_open}
use Rattle.take_back.specs.Steps.{backed, missing, refusal_of, taken_back}
use Rattle.take_back.specs.declared.answers.BackDone.{BackDone}
use Rattle.take_back.specs.declared.answers.BackDone.TheVariants.{Plain}
use Rattle.take_back.specs.declared.answers.BackRefusal.{BackRefusal}
use Rattle.take_back.specs.declared.answers.BackRefusal.TheVariants.{NoPart, NotYours, OtherTracks}
use Rattle.take_back.specs.declared.kept.Kept.{Kept}
use Rattle.take_back.specs.declared.kept.Former.{Former}
use Rattle.take_back.specs.declared.step.Deed.TheVariants.{Do, Back}
use Rattle.take_back.specs.declared.step.Step.{Step}

-- each named part stands as a call of this station on these parts left it
pub record StandsChanged {P : Type 0} (set by : ℕ) (before after : List (Kept P)) (x : ℕ) : Type 0 where
  pub was : Kept P
  pub left : P
  pub there : slice_get before x ≡ Some was
  pub stands : slice_get after x ≡ Some (changed_by set by was left)

-- where each named part passes a test none is the first that does not
none_fails : {P : Type 0} (test : Option (Former P) → Bool) (ks : List (Kept P)) (names : List ℕ)
    → ((x : ℕ) → is_among names x ≡ true → (k : Kept P) × (slice_get ks x ≡ Some k) × (test k.before ≡ true))
    → first_not test names (picked ks names) ≡ None
none_fails test ks [] h = refl
none_fails {P} test ks (n ∷ ns) h =
    let at = h n (ap (λ b. b || is_among ns n) (is_itself n)) in
    ap (λ o. first_not test (n ∷ ns) (with_picked o (picked ks ns))) at.1
    ∙ (ap (λ b. cond b (first_not test ns (picked ks ns)) (Some n)) at.2
    ∙ none_fails test ks ns (λ x among. h x (or_true (n == x) (is_among ns x) among)))

none_missing_of : (count : ℕ) (names : List ℕ) → 0 < length names → AscendBetween 0 count names
    → missing count names ≡ None
none_missing_of count [] some a = absurd (omega (arith, some))
none_missing_of count (n ∷ ns) some a = all_below 0 count (n ∷ ns) a

back_again : {P D R : Type 0} (by tracks : ℕ) (names : List ℕ) (ks : List (Kept P)) (qs : List (Kept P))
    → first_not (is_by by) names ks ≡ None → first_not (has_names tracks) names ks ≡ None → map given_back ks ≡ qs
    → unless_refused {A = List (Kept P) × BackDone D} {R = BackRefusal R}
    (option_map NotYours (first_not (is_by by) names ks))
    (unless_refused {A = List (Kept P) × BackDone D} {R = BackRefusal R}
    (option_map OtherTracks (first_not (has_names tracks) names ks)) (Ok (map given_back ks, Plain)))
    ≡ Ok (qs, Plain)
back_again {P} {D} {R} by tracks names ks qs first second same =
    let given : Result (List (Kept P) × BackDone D) (BackRefusal R) = Ok (map given_back ks, Plain) in
    ap (λ o. unless_refused (option_map NotYours o) (unless_refused
    (option_map OtherTracks (first_not (has_names tracks) names ks)) given)) first
    ∙ (ap (λ o. unless_refused (option_map OtherTracks o) given) second ∙ ap (λ xs. Ok (xs, Plain)) same)

changed_still : {P C D R : Type 0} (m : Meaning P C D R) (count by : ℕ) (c : C) (before done after : List (Kept P))
    (a : BackDone D) (between : List (Entry (Step C))) (x : ℕ)
    → Done m by c before done a → AscendBetween 0 (length before) (m.names c)
    → of_part (backed count m).names x between ≡ []
    → replay (whole (backed count m)) done between ≡ Some after → is_among (m.names c) x ≡ true
    → StandsChanged (set_of (m.names c)) by before after x
changed_still m count by c before done after a between x d a0 none comes among =
    let names = m.names c in
    let old = get-there before x (among_below 0 (length before) x names a0 among) in
    let put = get-put _ before 0 names (changed (set_of names) by (picked before names) d.left) x old.0 a0
    (paired-changed (set_of names) by (picked before names) d.left) among old.1 in
    record {
      was = old.0;
      left = put.2.0;
      there = old.1;
      stands = replay-leaves (backed count m) x done after between none comes
          ∙ (ap (λ ys. slice_get ys x) (sym d.parts) ∙ (put.1 ∙ ap Some put.2.1));
    }

pub as_it_was : {P C D R : Type 0} (m : Meaning P C D R) (good : ℕ → P → Type 0) (count : ℕ) (opens : List P → Type 0)
    (opening before done after : List (Kept P))
    (entries between : List (Entry (Step C))) (by : ℕ) (c : C) (answer : BackDone D) → Naming m count
    → Opening good count opens → CanOpen opens opening
    → replay (whole (backed count m)) opening entries ≡ Some before
    → whole (backed count m) before (record { by = by; act = Do c }) ≡ Ok (done, answer)
    → ((x : ℕ) → is_among (m.names c) x ≡ true → of_part (backed count m).names x between ≡ [])
    → replay (whole (backed count m)) done between ≡ Some after
    → whole (backed count m) after (record { by = by; act = Back (set_of (m.names c)) })
    ≡ Ok (put_back after (m.names c) (map fresh (picked (nows before) (m.names c))), Plain)
as_it_was {P} {C} {D} {R} m good count opens opening before done after entries between by c answer naming open_law can
    comes does apart leads =
    let names = m.names c in
    let set = set_of names in
    let few = (open_law (nows opening) can.0).1 in
    let past = answered (whole (backed count m)) opening before entries comes in
    let s = stands m count (nows opening) [] opening before past.answers naming few
    (stands_open m good count opens opening open_law can) past.leads in
    let d = done_call m count by c before done answer does in
    let n = naming c d.named in
    let a0 = all_there 0 count names (length before) (sym s.as_many) n.ascend in
    let each : (x : ℕ) → is_among names x ≡ true → StandsChanged set by before after x =
    λ x among. changed_still m count by c before done after answer between x d a0 (apart x among) leads among in
    let mine = none_fails (is_by by) after names (λ x among. let at = each x among in
    (changed_by set by at.was at.left, at.stands, is_itself by)) in
    let whole_call = none_fails (has_names set) after names (λ x among. let at = each x among in
    (changed_by set by at.was at.left, at.stands, is_itself set)) in
    let given : map given_back (picked after names) ≡ map fresh (picked (nows before) names) =
    map-picked given_back after names
    ∙ (picked-same (map given_back after) (map fresh (nows before)) names
    (λ x among.
    let at = each x among in
    get-map given_back after x (changed_by set by at.was at.left) at.stands
    ∙ sym (get-map fresh (nows before) x at.was.now (get-map (λ (k : Kept _). k.now) before x at.was at.there)))
    ∙ sym (map-picked fresh (nows before) names)) in
    let back : List ℕ → Result (List (Kept P) × BackDone D) (BackRefusal R) = λ ns.
    unless_refused (option_map NotYours (first_not (is_by by) ns (picked after ns)))
    (unless_refused (option_map OtherTracks (first_not (has_names set) ns (picked after ns)))
    (Ok (map given_back (picked after ns), Plain))) in
    ap (λ ns. unless_refused (option_map NoPart (missing count ns)) (on_whole after ns (back ns)))
    (members-set names (higher 0 count 32 names few n.ascend))
    ∙ (ap (λ o. unless_refused (option_map NoPart o) (on_whole after names (back names)))
    (none_missing_of count names n.some n.ascend)
    ∙ ap (on_whole after names) (back_again by set names (picked after names) (map fresh (picked (nows before) names))
    mine whole_call given))
