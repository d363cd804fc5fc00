-- Names while a list asks for them.
use Rattle.std.proofs.Common.{◌≡◌, ℕ, ◌+◌, ◌<◌, length, drop, get_or, Bool, true, false, cond, ◌==◌, ◌||◌, List, [], ◌∷◌, ◌++◌, Option, Some, None, Result, Err, refl, sym, ap, ◌∙◌, subst, inl, inr}
use Rattle.std.proofs.lemmas.Bool.{cases_Bool, eqb-true, eq-eqb, true≢false}
use Rattle.std.specs.Str.{bytes_eq}
use Rattle.reel_names.specs.declared.namer.ReelName.{ReelName}
use Rattle.reel_names.specs.Names.{fits}
use Rattle.reel_names.specs.Namers.{AreNames, NamerRule, has_name, has_reel, name_for, name_of, new_name, or_new, with_name}
use Rattle.reel_names.proofs.GivenNames.{named_reel, names_more, same_text, text_same, unnamed_reel}
use Rattle.edl_write.specs.declared.fault.ListFault.{ListFault}
use Rattle.edl_write.specs.declared.fault.ListFault.TheVariants.{Channels, DissolveTooLong, Events, Memory, PartialDissolve, PastDay, Reel}
use Rattle.edl_write.specs.declared.ordering.ChannelSegment.{ChannelSegment}
use Rattle.edl_write.specs.Naming.{Names, asked, naming, reels_of, reels_of_all}
use Rattle.edl_write.specs.NamingSteps.{AreAmong, AreUsed, IsRefusal}
use Rattle.edl_write.proofs.Merging.{next}

pub naming_append : (rule : NamerRule) (texts : List (List ℕ)) (st : Result Names ℕ) (xs ys : List ℕ) → naming rule texts st (xs ++ ys) ≡ naming rule texts (naming rule texts st xs) ys
naming_append rule texts st [] ys = refl
naming_append rule texts st (x ∷ xs) ys = naming_append rule texts (asked rule texts st x) xs ys

pub naming_refused : (rule : NamerRule) (texts : List (List ℕ)) (reel : ℕ) (xs : List ℕ) → naming rule texts (Err reel) xs ≡ Err reel
naming_refused rule texts reel [] = refl
naming_refused rule texts reel (x ∷ xs) = naming_refused rule texts reel xs

named_before : (xs ys : List ReelName) (q : ℕ) (n : List ℕ) → name_of xs q ≡ Some n → name_of (xs ++ ys) q ≡ Some n
named_before [] ys q n h = absurd cc
named_before (x ∷ xs) ys q n h =
    elim (cases_Bool (x.reel == q)) [
      | inl t ↦ rw t (sym (ap (λ (b : Bool). cond b (Some x.name) (name_of xs q)) t) ∙ h)
      | inr t ↦ rw t (named_before xs ys q n (sym (ap (λ (b : Bool). cond b (Some x.name) (name_of xs q)) t) ∙ h))
    ]

named_last : (xs : List ReelName) (p : ReelName) → has_reel xs p.reel ≡ false → name_of (xs ++ p ∷ []) p.reel ≡ Some p.name
named_last [] p h = let same : (p.reel == p.reel) ≡ true = eq-eqb p.reel p.reel refl in rw same refl
named_last (x ∷ xs) p h =
    elim (cases_Bool (x.reel == p.reel)) [
      | inl t ↦ absurd (true≢false (sym (ap (λ (b : Bool). b || has_reel xs p.reel) t) ∙ h))
      | inr t ↦ rw t (named_last xs p (sym (ap (λ (b : Bool). b || has_reel xs p.reel) t) ∙ h))
    ]

pub named_still : (given : List ReelName) (reel : ℕ) (name : List ℕ) (q : ℕ) (n : List ℕ) → name_of given q ≡ Some n → name_of (with_name given reel name) q ≡ Some n
named_still given reel name q n h =
    elim (cases_Bool (has_reel given reel)) [
      | inl t ↦ rw t h
      | inr t ↦ rw t (named_before given (record { reel = reel; name = name } ∷ []) q n h)
    ]

-- a reel that was asked for has the name that was answered
by_name : (rule : NamerRule) (given : List ReelName) (reel : ℕ) (text name : List ℕ) (o : Option (List ℕ)) → name_of given reel ≡ o → or_new o (new_name rule given reel text) ≡ Some name
    → name_of (with_name given reel name) reel ≡ Some name
by_name rule given reel text name None e h = let none = unnamed_reel given reel e in rw none (named_last given (record { reel = reel; name = name }) none)
by_name rule given reel text name (Some n) e h = let some = named_reel given reel n e in rw some (e ∙ h)

pub named_now : (rule : NamerRule) (given : List ReelName) (reel : ℕ) (text name : List ℕ) → name_for rule given reel text ≡ Some name → name_of (with_name given reel name) reel ≡ Some name
named_now rule given reel text name h = by_name rule given reel text name (name_of given reel) refl h

has_text : (g : List ReelName) (r : ℕ) (n : List ℕ) → name_of g r ≡ Some n → has_name g n ≡ true
has_text [] r n h = absurd cc
has_text (p ∷ ps) r n h =
    elim (cases_Bool (p.reel == r)) [
      | inl t ↦
          let is : Some p.name ≡ Some n = sym (ap (λ (b : Bool). cond b (Some p.name) (name_of ps r)) t) ∙ h in
          let name : p.name ≡ n = cc in
          rw (same_text p.name n name) refl
      | inr t ↦
          let rest = has_text ps r n (sym (ap (λ (b : Bool). cond b (Some p.name) (name_of ps r)) t) ∙ h) in
          elim (cases_Bool (bytes_eq p.name n)) [ inl u ↦ rw u refl | inr u ↦ rw (u, rest) refl ]
    ]

-- no two reels have one name
one_reel : (g : List ReelName) (r q : ℕ) (n : List ℕ) → AreNames g → name_of g r ≡ Some n → name_of g q ≡ Some n → r ≡ q
one_reel [] r q n names h k = absurd cc
one_reel (p ∷ ps) r q n names h k =
    elim (cases_Bool (p.reel == r)) [
      | inl t ↦ elim (cases_Bool (p.reel == q)) [
        | inl u ↦ sym (eqb-true p.reel r t) ∙ eqb-true p.reel q u
        | inr u ↦ absurd (twice q (of_first r t h) (of_rest q u k))
      ]
      | inr t ↦ elim (cases_Bool (p.reel == q)) [
        | inl u ↦ absurd (twice r (of_first q u k) (of_rest r t h))
        | inr u ↦ one_reel ps r q n names.1.1.1 (of_rest r t h) (of_rest q u k)
      ]
    ]
  where
    of_first : (s : ℕ) → (p.reel == s) ≡ true → name_of (p ∷ ps) s ≡ Some n → p.name ≡ n
    of_first s t h = let is : Some p.name ≡ Some n = sym (ap (λ (b : Bool). cond b (Some p.name) (name_of ps s)) t) ∙ h in cc

    of_rest : (s : ℕ) → (p.reel == s) ≡ false → name_of (p ∷ ps) s ≡ Some n → name_of ps s ≡ Some n
    of_rest s t h = sym (ap (λ (b : Bool). cond b (Some p.name) (name_of ps s)) t) ∙ h

    twice : (s : ℕ) → p.name ≡ n → name_of ps s ≡ Some n → ⊥
    twice s is h = true≢false (sym (has_text ps s n h) ∙ (ap (has_name ps) (sym is) ∙ names.1.1.0))

fits_among : (g : List ReelName) (r : ℕ) (n : List ℕ) → AreNames g → name_of g r ≡ Some n → fits n ≡ true
fits_among [] r n names h = absurd cc
fits_among (p ∷ ps) r n names h =
    elim (cases_Bool (p.reel == r)) [
      | inl t ↦
          let is : Some p.name ≡ Some n = sym (ap (λ (b : Bool). cond b (Some p.name) (name_of ps r)) t) ∙ h in
          let name : p.name ≡ n = cc in
          ap fits (sym name) ∙ names.0
      | inr t ↦ fits_among ps r n names.1.1.1 (sym (ap (λ (b : Bool). cond b (Some p.name) (name_of ps r)) t) ∙ h)
    ]

text_unused : (given used : List ReelName) (reel : ℕ) (name : List ℕ) → AreNames given → name_of given reel ≡ Some name → AreAmong given used → has_reel used reel ≡ false
    → has_name used name ≡ false
text_unused given [] reel name names h among free = refl
text_unused given (u ∷ us) reel name names h among free =
    elim (cases_Bool (u.reel == reel)) [
      | inl t ↦ absurd (true≢false (sym (ap (λ (b : Bool). b || has_reel us reel) t) ∙ free))
      | inr t ↦
          let rest = text_unused given us reel name names h among.1 (sym (ap (λ (b : Bool). b || has_reel us reel) t) ∙ free) in
          elim (cases_Bool (bytes_eq u.name name)) [
            | inl same ↦
                let reels : u.reel ≡ reel = one_reel given u.reel reel name names (among.0 ∙ ap (λ n. Some n) (text_same u.name name same)) h in
                absurd (true≢false (sym (eq-eqb u.reel reel reels) ∙ t))
            | inr other ↦ rw (other, rest) refl
          ]
    ]

among_still : (given used : List ReelName) (reel : ℕ) (name : List ℕ) → AreAmong given used → AreAmong (with_name given reel name) used
among_still given [] reel name h = tt
among_still given (u ∷ us) reel name h = (named_still given reel name u.reel u.name h.0, among_still given us reel name h.1)

among_more : (given used : List ReelName) (p : ReelName) → AreAmong given used → name_of given p.reel ≡ Some p.name → AreAmong given (used ++ p ∷ [])
among_more given [] p h n = (n, tt)
among_more given (u ∷ us) p h n = (h.0, among_more given us p h.1 n)

-- a reel that is used keeps its name
pub used_already : (used : List ReelName) (reel : ℕ) (n name : List ℕ) → name_of used reel ≡ Some n → used ≡ with_name used reel name
used_already used reel n name h = rw (named_reel used reel n h) refl

reels_next : (es : List ChannelSegment) (i : ℕ) (d : ChannelSegment) → i < length es → reels_of_all (drop i es) ≡ reels_of (get_or es i d) ++ reels_of_all (drop (i + 1) es)
reels_next es i d h = ap reels_of_all (next es i d h)

refusal_more : (rule : NamerRule) (texts : List (List ℕ)) (st : Result Names ℕ) (xs ys : List ℕ) (f : ListFault) → IsRefusal f (naming rule texts st xs) → IsRefusal f (naming rule texts st (xs ++ ys))
refusal_more rule texts st xs ys (Channels n) h = h
refusal_more rule texts st xs ys (PartialDissolve n) h = h
refusal_more rule texts st xs ys (DissolveTooLong n) h = h
refusal_more rule texts st xs ys (Events n) h = h
refusal_more rule texts st xs ys (PastDay n) h = h
refusal_more rule texts st xs ys (Reel n) h =
    naming_append rule texts st xs ys ∙ (ap (λ (s : Result Names ℕ). naming rule texts s ys) h ∙ naming_refused rule texts n ys)
refusal_more rule texts st xs ys Memory h = tt

-- the first refusal is that of all
pub refused_among : (rule : NamerRule) (texts : List (List ℕ)) (st : Result Names ℕ) (es : List ChannelSegment) (i : ℕ) (d : ChannelSegment) (f : ListFault) (meant : Result Names ℕ) → i < length es
    → IsRefusal f (naming rule texts st (reels_of (get_or es i d))) → naming rule texts st (reels_of_all (drop i es)) ≡ meant → IsRefusal f meant
refused_among rule texts st es i d f meant h refused same =
    subst (IsRefusal f) (sym (ap (naming rule texts st) (reels_next es i d h)) ∙ same)
    (refusal_more rule texts st (reels_of (get_or es i d)) (reels_of_all (drop (i + 1) es)) f refused)

-- names used, with one more
pub used_more : (rule : NamerRule) (given used : List ReelName) (reel : ℕ) (text name : List ℕ) → AreUsed given used → name_for rule given reel text ≡ Some name
    → AreNames (with_name given reel name) → AreUsed (with_name given reel name) (with_name used reel name)
used_more rule given used reel text name h answered names =
    let now = named_now rule given reel text name answered in
    let among = among_still given used reel name h.among in
    elim (cases_Bool (has_reel used reel)) [
      | inl t ↦ rw t (record { among = among; names = h.names })
      | inr t ↦
          let p : ReelName = record { reel = reel; name = name } in
          rw t (record {
            among = among_more (with_name given reel name) used p among now;
            names = names_more used p h.names (fits_among (with_name given reel name) reel name names now) t (text_unused (with_name given reel name) used reel name names now among t);
          })
    ]

pub used_after : (rule : NamerRule) (given used : List ReelName) (reel : ℕ) (text name : List ℕ) (given_after used_now : List ReelName) → AreUsed given used
    → name_for rule given reel text ≡ Some name → given_after ≡ with_name given reel name → used_now ≡ with_name used reel name → AreNames given_after → AreUsed given_after used_now
used_after rule given used reel text name given_after used_now h answered grows more names =
    let all = used_more rule given used reel text name h answered (subst AreNames grows names) in
    subst (λ (g : List ReelName). AreUsed g used_now) (sym grows) (subst (AreUsed (with_name given reel name)) (sym more) all)
