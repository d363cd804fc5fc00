-- A mirror that has taken one entry more.
use Rattle.std.proofs.Common.{◌≡◌, ◌≢◌, ◌⊎◌, inl, inr, ℕ, ◌<◌, ◌≤◌, List, [], ◌∷◌, ◌++◌, Option, Some, None, Result, Ok}
use Rattle.std.proofs.Common.{Err, IsSome, OnOk, true, length, slice_get, slice_index_or, length-append, refl, sym, ap}
use Rattle.std.proofs.Common.{◌∙◌, subst, arith}
use Rattle.room_core.specs.History.{after_entry, replay, most_entries, IsLegal, NumbersRise}
use Rattle.room_core.specs.Machine.{is_above}
use Rattle.room_core.specs.Whole.{Meaning, whole}
use Rattle.room_core.specs.declared.entry.Entry.{Entry}
use Rattle.room_core.proofs.Histories.{replay-more, rise-more}
use Rattle.cut_mirror.specs.Following.{GoesOn}
use Rattle.cut_mirror.specs.Mirrors.{Mirrored, IsMirrorOf, Stands, CanCome, Adds, Takes}
use Rattle.cut_mirror.proofs.Named.{get-index}
use Rattle.cut_mirror.specs.declared.fault.MirrorFault.{MirrorFault}

is_some : {A : Type 0} (o : Option A) (a : A) → o ≡ Some a → IsSome o
is_some o a h = rw h refl

-- what an opening and its history come to goes on with the history
pub added_mirror : {O P C D R : Type 0} (meaning : O → Meaning P C D R) (opens : O → List P → Type 0)
    (opening : List P) (o : O)
    (entries : List (Entry C)) (parts now : List P) (e : Entry C)
    → length entries < most_entries → is_above e.station e.number entries ≡ true → after_entry (whole (meaning o))
    (Some parts) e ≡ Some now
    → IsMirrorOf meaning opens opening (record { object = o; entries = entries; parts = parts })
    → IsMirrorOf meaning opens opening (record { object = o; entries = entries ++ e ∷ []; parts = now })
added_mirror meaning opens opening o entries parts now e few above does h =
    let comes = replay-more (whole (meaning o)) opening entries e
    ∙ (ap (λ s. after_entry (whole (meaning o)) s e) h.comes ∙ does) in
    record {
      opens_so = h.opens_so;
      legal = record {
        within = omega (arith, length-append entries (e ∷ []), few);
        applies = is_some _ _ comes;
        rise = rise-more entries e h.legal.rise above;
      };
      comes = comes;
    }

one_added : {O P C D R : Type 0} (meaning : O → Meaning P C D R) (opens : O → List P → Type 0) (opening : List P)
    (before after : Mirrored O P C) (place : ℕ)
    (e : Entry C) → CanCome before.entries place e → Adds (meaning before.object) before e after
    → IsMirrorOf meaning opens opening before → IsMirrorOf meaning opens opening after
one_added meaning opens opening before after place e can adds h =
    let next = added_mirror meaning opens opening before.object before.entries before.parts after.parts e can.room
    can.above adds.parts h in
    let same : record { object = before.object; entries = before.entries ++ e ∷ []; parts = after.parts } ≡ after =
    Prim.grind (arith, adds.object, adds.entries) in
    subst (λ m. IsMirrorOf meaning opens opening m) same next

pub takes-mirror : {O P C D R A : Type 0} (meaning : O → Meaning P C D R) (opens : O → List P → Type 0)
    (opening : List P) (before after : Mirrored O P C)
    (place : ℕ) (e : Entry C) (result : Result A MirrorFault) → Takes (meaning before.object) before place e
    after result
    → IsMirrorOf meaning opens opening before → IsMirrorOf meaning opens opening after
takes-mirror meaning opens opening before after place e (Ok a) (inl t) h =
    subst (λ m. IsMirrorOf meaning opens opening m) (sym t.1) h
takes-mirror meaning opens opening before after place e (Ok a) (inr t) h = one_added meaning opens opening before after
    place e t.0 t.1 h
takes-mirror meaning opens opening before after place e (Err f) t h = subst (λ m. IsMirrorOf meaning opens opening m)
    (sym t.1) h

-- what stands at a place of a mirror
pub there : {O P C : Type 0} (m now : Mirrored O P C) (place : ℕ) (x : Entry C) → m ≡ now → place < length now.entries
    → x ≡ slice_index_or m.entries place x
    → slice_get now.entries place ≡ Some x
there m now place x same within is =
    subst (λ (n : Mirrored _ _ _). place < length n.entries → slice_get n.entries place ≡ Some x) same
    (λ w. get-index m.entries place x w ∙ ap Some (sym is)) within

pub is_other : {C : Type 0} (es : List (Entry C)) (place : ℕ) (x e : Entry C) → slice_get es place ≡ Some x → x ≢ e
    → slice_get es place ≢ Some e
is_other es place x e at apart is = let same = sym at ∙ is in apart (Prim.grind (arith, same))
