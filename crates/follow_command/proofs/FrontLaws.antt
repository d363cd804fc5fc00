-- What a stream of the entries of a history comes to.
use Rattle.std.proofs.Common.{◌≡◌, ℕ, zero, suc, ◌+◌, ◌<◌, ◌≤◌, ◌⊎◌, inl, inr, List, [], ◌∷◌, ◌++◌, All, Bool, true, false, not, ◌||◌, ◌&&◌, ◌==◌, nat_lt, Option, Some, None, IsSome, fold, length, slice_get, refl, sym, ap, ◌∙◌, subst, arith, append_assoc}
use Rattle.std.proofs.lemmas.Bool.Decides.{nat_tests}
use Rattle.std.proofs.lemmas.List.{length-append}
use Rattle.std.proofs.lemmas.List.Elements.{All-head, All-tail}
use Rattle.std.proofs.lemmas.List.Sums.{fold-append}
use Rattle.cut_mirror.specs.Following.{Follows, GoesOn}
use Rattle.cut_mirror.specs.Mirrors.{IsWhy, Mirrored}
use Rattle.cut_mirror.specs.declared.fault.MirrorFault.{MirrorFault}
use Rattle.cut_mirror.specs.declared.fault.MirrorFault.TheVariants.{Gap, Differs, Full, Late, Refused, Memory}
use Rattle.cut_steps.specs.CutSteps.{CutStep}
use Rattle.room_core.specs.History.{IsLegal, NumbersRise, RiseAfter, after_entry, most_entries, replay}
use Rattle.room_core.specs.Machine.{is_above}
use Rattle.room_core.specs.Whole.{Meaning, whole}
use Rattle.room_core.specs.declared.entry.Entry.{Entry}
use Rattle.follow_command.specs.Fronts.{AreOf, IsFront}
use Rattle.follow_command.specs.NewsLines.{Item}

some_one : {A : Type 0} (x y : A) → Some x ≡ Some y → x ≡ y
some_one x y h = Prim.grind (arith, h)

get_front : {A : Type 0} (xs ys : List A) (k : ℕ) → k < length xs → slice_get (xs ++ ys) k ≡ slice_get xs k
get_front [] ys k l = absurd (omega (arith, l))
get_front (x ∷ xs) ys zero l = refl
get_front (x ∷ xs) ys (suc k) l = get_front xs ys k (omega (arith, l))

get_at : {A : Type 0} (xs ys : List A) (e : A) → slice_get (xs ++ ys) (length xs) ≡ Some e → (rest : List A) × (ys ≡ e ∷ rest)
get_at [] [] e h = absurd (Prim.grind (arith, h))
get_at [] (y ∷ ys) e h = (ys, ap (λ z. z ∷ ys) (some_one y e h))
get_at (x ∷ xs) ys e h = get_at xs ys e h

-- what stands behind a front of a history, where this entry stands at its end
behind : {C : Type 0} (h before : List (Entry C)) (f : IsFront before h) (place : ℕ) (e : Entry C) → place ≡ length before
    → slice_get h place ≡ Some e → (rest : List (Entry C)) × (f.0 ≡ e ∷ rest)
behind h before f place e is at =
    get_at before f.0 e (ap (λ l. slice_get l (length before)) (sym f.1) ∙ (ap (λ k. slice_get h k) (sym is) ∙ at))

front_more : {C : Type 0} (h before : List (Entry C)) (f : IsFront before h) (place : ℕ) (e : Entry C) → place ≡ length before
    → slice_get h place ≡ Some e → IsFront (before ++ e ∷ []) h
front_more h before f place e is at =
    let b = behind h before f place e is at in
    (b.0, f.1 ∙ (ap (λ l. before ++ l) b.1 ∙ sym (append_assoc before (e ∷ []) b.0)))

front_step : {C : Type 0} (h before next : List (Entry C)) (place : ℕ) (e : Entry C) → IsFront before h → slice_get h place ≡ Some e
    → GoesOn before place e next → IsFront next h
front_step h before next place e f at (inl g) = subst (λ l. IsFront l h) (sym g.1) f
front_step h before next place e f at (inr g) = subst (λ l. IsFront l h) (sym g.1) (front_more h before f place e g.0 at)

pub front : (h before after : List (Entry CutStep)) (items : List Item) → IsFront before h → AreOf h items → Follows before items after → IsFront after h
front h before after [] f are is = subst (λ l. IsFront l h) (sym is) f
front h before after (item ∷ items) f are follows =
    front h follows.0 after items
    (front_step h before follows.0 item.0 item.1 f (All-head (λ (i : Item). slice_get h i.0 ≡ Some i.1) item items are) follows.1)
    (All-tail (λ (i : Item). slice_get h i.0 ≡ Some i.1) item items are) follows.2

-- ---- the numbers rise

above_test : (a b m n : ℕ) → (b ≡ a → m < n) → (not (a == b) || nat_lt m n) ≡ true
above_test a b m n h = by (a == b) refl where
  by : (t : Bool) → (a == b) ≡ t → (not t || nat_lt m n) ≡ true
  by true e = let l = h (grind (arith, nat_tests, e)) in grind (arith, nat_tests, l)
  by false e = refl

rise_to : {C : Type 0} (f e : Entry C) (fs rest : List (Entry C)) → RiseAfter f (fs ++ e ∷ rest) → e.station ≡ f.station → f.number < e.number
rise_to f e [] rest h = h.0
rise_to f e (g ∷ fs) rest h = rise_to f e fs rest h.1

above : {C : Type 0} (es : List (Entry C)) (e : Entry C) (rest : List (Entry C)) → NumbersRise (es ++ e ∷ rest) → is_above e.station e.number es ≡ true
above [] e rest h = refl
above (f ∷ fs) e rest h =
    let first = above_test f.station e.station f.number e.number (rise_to f e fs rest h.0) in
    let more = above fs e rest h.1 in
    rw (first, more) refl

-- ---- each entry applies

no_state : {P C D R : Type 0} (m : Meaning P C D R) (es : List (Entry C)) → fold (after_entry (whole m)) None es ≡ None
no_state m [] = refl
no_state m (e ∷ es) = no_state m es

true_false : true ≡ false → ⊥
true_false h = Prim.grind (arith, h)

is_none : {A : Type 0} (r : Option A) → r ≡ None → IsSome r → ⊥
is_none None e h = true_false (sym h)
is_none (Some x) e h = Prim.grind (arith, e)

applies : {P C D R : Type 0} (m : Meaning P C D R) (opening parts : List P) (entries rest : List (Entry C)) (e : Entry C)
    → IsSome (replay (whole m) opening (entries ++ e ∷ rest)) → replay (whole m) opening entries ≡ Some parts
    → after_entry (whole m) (Some parts) e ≡ None → ⊥
applies m opening parts entries rest e some comes none =
    is_none (replay (whole m) opening (entries ++ e ∷ rest))
    (fold-append (after_entry (whole m)) (Some opening) entries (e ∷ rest)
    ∙ (ap (λ s. fold (after_entry (whole m)) (after_entry (whole m) s e) rest) comes
    ∙ (ap (λ s. fold (after_entry (whole m)) s rest) none ∙ no_state m rest))) some

-- ---- why an entry of a legal history is not taken

pub never : {O P C D R : Type 0} (meaning : Meaning P C D R) (opening : List P) (h : List (Entry C)) (m : Mirrored O P C) (place : ℕ) (e : Entry C) (why : MirrorFault)
    → IsLegal (whole meaning) opening h → replay (whole meaning) opening m.entries ≡ Some m.parts → IsFront m.entries h → slice_get h place ≡ Some e
    → IsWhy meaning m place e why → (why ≡ Gap (length m.entries)) ⊎ (why ≡ Memory)
never meaning opening h m place e (Gap point) legal comes f at w = inl (ap Gap w.0)
never meaning opening h m place e (Differs there) legal comes f at w =
    absurd (w.2 (sym (get_front m.entries f.0 place w.1) ∙ (ap (λ l. slice_get l place) (sym f.1) ∙ at)))
never meaning opening h m place e Full legal comes f at w =
    let b = behind h m.entries f place e w.0 at in
    absurd (omega (arith, legal.within, w.1, ap length f.1, length-append m.entries f.0, ap length b.1))
never meaning opening h m place e (Late there) legal comes f at w =
    let b = behind h m.entries f place e w.1 at in
    let rise = subst NumbersRise (f.1 ∙ ap (λ l. m.entries ++ l) b.1) legal.rise in
    absurd (true_false (sym (above m.entries e b.0 rise) ∙ w.3))
never meaning opening h m place e (Refused there) legal comes f at w =
    let b = behind h m.entries f place e w.1.at at in
    absurd (applies meaning opening m.parts m.entries b.0 e (subst (λ l. IsSome (replay (whole meaning) opening l)) (f.1 ∙ ap (λ l. m.entries ++ l) b.1) legal.applies) comes w.2)
never meaning opening h m place e Memory legal comes f at w = inr refl
