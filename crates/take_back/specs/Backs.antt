-- The newest entry on some parts, taken out from among the entries: what they lead to without it.
use Rattle.std.proofs.Common.{◌≡◌, ℕ, zero, suc, ◌<◌, ◌≤◌, List, [], ◌∷◌, Bool, true, false, ◌||◌, ◌==◌, Option, Some}
use Rattle.std.proofs.Common.{None, Result, Ok, Err, cond, length, slice_get, refl, sym, ap, ◌∙◌, subst, arith}
use Rattle.part_sets.specs.Members.{members}
use Rattle.part_sets.specs.MemberLaws.{higher, members-set}
use Rattle.room_core.specs.Parts.{AscendBetween, IsNaming}
use Rattle.room_core.specs.Whole.{Meaning, picked, put_back, on_whole, set_of, unless_refused, whole}
use Rattle.room_core.specs.declared.entry.Entry.{Entry}
use Rattle.room_core.proofs.WholeParts.{get-put_back, whole_done}
use Rattle.take_back.specs.History.{Comes, HasFormer, one_state}
use Rattle.take_back.specs.Left.{is_among, meet, without_newest}
use Rattle.take_back.specs.Lists.{either, is_itself, or_true, picked-same, put_back-same, same_number, true_false}
use Rattle.take_back.specs.declared.answers.BackDone.{BackDone}
use Rattle.take_back.specs.declared.kept.Former.{Former}

common_by : (n : ℕ) (ns others : List ℕ) (b : Bool) → is_among others n ≡ b → (b || meet ns others) ≡ true
    → (meet ns others ≡ true → (k : ℕ) × (is_among ns k ≡ true) × (is_among others k ≡ true))
    → (k : ℕ) × (is_among (n ∷ ns) k ≡ true) × (is_among others k ≡ true)
common_by n ns others true e h rest = (n, ap (λ b. b || is_among ns n) (is_itself n), e)
common_by n ns others false e h rest = let later = rest h in
    (later.0, or_true (n == later.0) (is_among ns later.0) later.1, later.2)

-- numbers that meet others have one in common
pub common : (numbers others : List ℕ) → meet numbers others ≡ true → (n : ℕ) × (is_among numbers n ≡ true)
    × (is_among others n ≡ true)
common [] others h = true_false (sym h)
common (n ∷ ns) others h = common_by n ns others (is_among others n) refl h (λ e. common ns others e)

outside_by : (k n : ℕ) (ks others : List ℕ) (b : Bool) → is_among others k ≡ false → (k == n) ≡ b
    → (b || is_among ks n) ≡ true
    → (is_among ks n ≡ true → is_among others n ≡ false) → is_among others n ≡ false
outside_by k n ks others true first e a rest = ap (is_among others) (sym (same_number k n e)) ∙ first
outside_by k n ks others false first e a rest = rest a

pub outside : (numbers others : List ℕ) (n : ℕ) → meet numbers others ≡ false → is_among numbers n ≡ true
    → is_among others n ≡ false
outside [] others n h among = true_false (sym among)
outside (k ∷ ks) others n h among =
    let both = either (is_among others k) (meet ks others) h in
    outside_by k n ks others (k == n) both.0 refl among (λ a. outside ks others n both.1 a)

not_true : (a : Bool) → (a ≡ true → ⊥) → a ≡ false
not_true true h = absurd (h refl)
not_true false h = refl

pub outside_back : (numbers others : List ℕ) (n : ℕ) → meet numbers others ≡ false → is_among others n ≡ true
    → is_among numbers n ≡ false
outside_back numbers others n h among =
    not_true (is_among numbers n) (λ e. true_false (sym among ∙ outside numbers others n h e))

-- what is known of an object's calls: those that are not refused name parts that are there
abbrev pub Naming : {P C D R : Type 0} → Meaning P C D R → ℕ → Type 0
Naming m count = (c : _) → m.refuses c ≡ None → IsNaming count (m.names c)

-- what a part was before the newest entry, where that names it
pub record Before {P C D R : Type 0} (m : Meaning P C D R) (opening : List P) (t : Entry C × BackDone D)
    (ts : List (Entry C × BackDone D)) (x : ℕ) (f : Former P) : Type 0 where
  pub names : set_of (m.names t.0.call) ≡ f.names
  pub parts : List P
  pub comes : Comes m opening ts parts
  pub part : slice_get parts x ≡ Some f.part

named_of : {P C D R : Type 0} (m : Meaning P C D R) (opening : List P) (t : Entry C × BackDone D)
    (ts : List (Entry C × BackDone D)) (x : ℕ) (f : Former P) (b : Bool)
    → b ≡ true
    → cond b ((set_of (m.names t.0.call) ≡ f.names) × (qs : List P) × Comes m opening ts qs
    × (slice_get qs x ≡ Some f.part)) (HasFormer m opening ts x f)
    → Before m opening t ts x f
named_of m opening t ts x f true e h = record { names = h.0; parts = h.1; comes = h.2; part = h.3 }
named_of m opening t ts x f false e h = true_false (sym e)

unnamed_of : {P C D R : Type 0} (m : Meaning P C D R) (opening : List P) (t : Entry C × BackDone D)
    (ts : List (Entry C × BackDone D)) (x : ℕ) (f : Former P) (b : Bool)
    → b ≡ false
    → cond b ((set_of (m.names t.0.call) ≡ f.names) × (qs : List P) × Comes m opening ts qs
    × (slice_get qs x ≡ Some f.part)) (HasFormer m opening ts x f)
    → HasFormer m opening ts x f
unnamed_of m opening t ts x f true e h = true_false e
unnamed_of m opening t ts x f false e h = h

of_named : {P C D R : Type 0} (m : Meaning P C D R) (opening : List P) (t : Entry C × BackDone D)
    (ts : List (Entry C × BackDone D)) (x : ℕ) (f : Former P) (b : Bool)
    → b ≡ true → Before m opening t ts x f
    → cond b ((set_of (m.names t.0.call) ≡ f.names) × (qs : List P) × Comes m opening ts qs
    × (slice_get qs x ≡ Some f.part)) (HasFormer m opening ts x f)
of_named m opening t ts x f true e h = (h.names, h.parts, h.comes, h.part)
of_named m opening t ts x f false e h = true_false (sym e)

of_unnamed : {P C D R : Type 0} (m : Meaning P C D R) (opening : List P) (t : Entry C × BackDone D)
    (ts : List (Entry C × BackDone D)) (x : ℕ) (f : Former P) (b : Bool)
    → b ≡ false → HasFormer m opening ts x f
    → cond b ((set_of (m.names t.0.call) ≡ f.names) × (qs : List P) × Comes m opening ts qs
    × (slice_get qs x ≡ Some f.part)) (HasFormer m opening ts x f)
of_unnamed m opening t ts x f true e h = true_false e
of_unnamed m opening t ts x f false e h = h

pub named-former : {P C D R : Type 0} (m : Meaning P C D R) (opening : List P) (t : Entry C × BackDone D)
    (ts : List (Entry C × BackDone D)) (x : ℕ) (f : Former P)
    → is_among (m.names t.0.call) x ≡ true → HasFormer m opening (t ∷ ts) x f → Before m opening t ts x f
named-former m opening t ts x f e h = named_of m opening t ts x f (is_among (m.names t.0.call) x) e h

pub unnamed-former : {P C D R : Type 0} (m : Meaning P C D R) (opening : List P) (t : Entry C × BackDone D)
    (ts : List (Entry C × BackDone D)) (x : ℕ) (f : Former P)
    → is_among (m.names t.0.call) x ≡ false → HasFormer m opening (t ∷ ts) x f → HasFormer m opening ts x f
unnamed-former m opening t ts x f e h = unnamed_of m opening t ts x f (is_among (m.names t.0.call) x) e h

pub former-named : {P C D R : Type 0} (m : Meaning P C D R) (opening : List P) (t : Entry C × BackDone D)
    (ts : List (Entry C × BackDone D)) (x : ℕ) (f : Former P)
    → is_among (m.names t.0.call) x ≡ true → Before m opening t ts x f → HasFormer m opening (t ∷ ts) x f
former-named m opening t ts x f e h = of_named m opening t ts x f (is_among (m.names t.0.call) x) e h

pub former-unnamed : {P C D R : Type 0} (m : Meaning P C D R) (opening : List P) (t : Entry C × BackDone D)
    (ts : List (Entry C × BackDone D)) (x : ℕ) (f : Former P)
    → is_among (m.names t.0.call) x ≡ false → HasFormer m opening ts x f → HasFormer m opening (t ∷ ts) x f
former-unnamed m opening t ts x f e h = of_unnamed m opening t ts x f (is_among (m.names t.0.call) x) e h

-- the newest of these parts has this call, of all these parts
abbrev pub Each : {P C D R : Type 0} → Meaning P C D R → List P → List (Entry C × BackDone D) → ℕ → List ℕ → Type 0
Each m opening ts tracks names = (x : ℕ) → is_among names x ≡ true → (f : Former _) × HasFormer m opening ts x f
    × (f.names ≡ tracks)

-- entries without the newest that names some parts, and what they lead to
pub record TakenOut {P C D R : Type 0} (m : Meaning P C D R) (opening : List P) (names : List ℕ)
    (before after : List (Entry C × BackDone D)) (ps : List P) : Type 0 where
  pub parts : List P
  pub comes : Comes m opening after parts
  pub given : (x : ℕ) (f : Former P) → is_among names x ≡ true → HasFormer m opening before x f
      → slice_get parts x ≡ Some f.part
  pub others : (x : ℕ) → is_among names x ≡ false → slice_get parts x ≡ slice_get ps x
  pub formers : (x : ℕ) (f : Former P) → is_among names x ≡ false → HasFormer m opening before x f
      → HasFormer m opening after x f

names_are : {P C D R : Type 0} (m : Meaning P C D R) (count : ℕ) (c : C) (tracks k : ℕ) → Naming m count → count ≤ 32
    → m.refuses c ≡ None
    → set_of (m.names c) ≡ k → k ≡ tracks → m.names c ≡ members tracks
names_are m count c tracks k naming few none is same =
    sym (members-set (m.names c) (higher 0 count 32 (m.names c) few (naming c none).ascend)) ∙ ap members (is ∙ same)

-- the newest entry itself is taken out
taken_first : {P C D R : Type 0} (m : Meaning P C D R) (count : ℕ) (opening : List P) (tracks : ℕ)
    (t : Entry C × BackDone D) (ts : List (Entry C × BackDone D))
    (ps : List P) → Naming m count → count ≤ 32 → Comes m opening (t ∷ ts) ps → m.names t.0.call ≡ members tracks
    → TakenOut m opening (members tracks) (t ∷ ts) ts ps
taken_first m count opening tracks t ts ps naming few comes is =
    let c = t.0.call in
    let done = whole_done comes.0 (m.names c) (m.refuses c) (m.applied (picked comes.0 (m.names c)) c) ps comes.2
    comes.4 in
    record {
      parts = comes.0;
      comes = comes.1;
      given = λ x f among has.
          let b = named-former m opening t ts x f (ap (λ ns. is_among ns x) is ∙ among) has in
          ap (λ qs. slice_get qs x) (one_state m opening ts comes.0 b.parts comes.1 b.comes) ∙ b.part;
      others = λ x among.
          sym (get-put_back comes.0 (m.names c) done.1 x (ap (λ ns. is_among ns x) is ∙ among))
          ∙ ap (λ qs. slice_get qs x) done.3;
      formers = λ x f among has. unnamed-former m opening t ts x f (ap (λ ns. is_among ns x) is ∙ among) has;
    }

former_stays : {P C D R : Type 0} (m : Meaning P C D R) (opening : List P) (names : List ℕ) (t : Entry C × BackDone D)
    (before after : List (Entry C × BackDone D))
    (ps : List P) (x : ℕ) (f : Former P) (b : Bool) → Comes m opening before ps
    → TakenOut m opening names before after ps
    → is_among names x ≡ false → is_among (m.names t.0.call) x ≡ b → HasFormer m opening (t ∷ before) x f
    → HasFormer m opening (t ∷ after) x f
former_stays m opening names t before after ps x f true comes out among named has =
    let was = named-former m opening t before x f named has in
    let same = one_state m opening before was.parts ps was.comes comes in
    former-named m opening t after x f named (record {
      names = was.names;
      parts = out.parts;
      comes = out.comes;
      part = out.others x among ∙ (ap (λ qs. slice_get qs x) (sym same) ∙ was.part);
    })
former_stays m opening names t before after ps x f false comes out among named has =
    former-unnamed m opening t after x f named (out.formers x f among (unnamed-former m opening t before x f named has))

-- an entry that names none of the parts stays, with its answer
kept_first : {P C D R : Type 0} (m : Meaning P C D R) (opening : List P) (names : List ℕ) (t : Entry C × BackDone D)
    (before after : List (Entry C × BackDone D))
    (ps : List P) (comes : Comes m opening (t ∷ before) ps) → meet names (m.names t.0.call) ≡ false
    → TakenOut m opening names before after comes.0 → TakenOut m opening names (t ∷ before) (t ∷ after) ps
kept_first m opening names t before after ps comes apart out =
    let c = t.0.call in
    let done = whole_done comes.0 (m.names c) (m.refuses c) (m.applied (picked comes.0 (m.names c)) c) ps comes.2
    comes.4 in
    let now = put_back out.parts (m.names c) done.1 in
    let seen = picked-same out.parts comes.0 (m.names c) (λ k among. out.others k
    (outside_back names (m.names c) k apart among)) in
    let again : whole m out.parts c ≡ Ok (now, comes.2) =
    ap (λ r. unless_refused r (on_whole out.parts (m.names c) (m.applied (picked out.parts (m.names c)) c))) done.0
    ∙ (ap (λ qs. on_whole out.parts (m.names c) (m.applied qs c)) seen ∙ ap (on_whole out.parts (m.names c)) done.2) in
    record {
      parts = now;
      comes = (out.parts, out.comes, comes.2, comes.3, again);
      given = λ x f among has.
          let unnamed = outside names (m.names c) x apart among in
          get-put_back out.parts (m.names c) done.1 x unnamed
          ∙ out.given x f among (unnamed-former m opening t before x f unnamed has);
      others = λ x among.
          put_back-same out.parts comes.0 (m.names c) done.1 x (out.others x among) ∙ ap (λ qs. slice_get qs x) done.3;
      formers = λ x f among has. former_stays m opening names t before after comes.0 x f (is_among (m.names c) x)
          comes.1 out among refl has;
    }

taken_by : {P C D R : Type 0} (m : Meaning P C D R) (count : ℕ) (opening : List P) (tracks : ℕ)
    (t : Entry C × BackDone D) (ts rest : List (Entry C × BackDone D))
    (ps : List P) (b : Bool) → Naming m count → count ≤ 32 → Comes m opening (t ∷ ts) ps
    → Each m opening (t ∷ ts) tracks (members tracks)
    → meet (members tracks) (m.names t.0.call) ≡ b
    → ((qs : List P) → Comes m opening ts qs → Each m opening ts tracks (members tracks)
    → TakenOut m opening (members tracks) ts rest qs)
    → TakenOut m opening (members tracks) (t ∷ ts) (cond b ts (t ∷ rest)) ps
taken_by m count opening tracks t ts rest ps true naming few comes each meets later =
    let c = t.0.call in
    let n = common (members tracks) (m.names c) meets in
    let former = each n.0 n.1 in
    let was = named-former m opening t ts n.0 former.0 n.2 former.1 in
    let done = whole_done comes.0 (m.names c) (m.refuses c) (m.applied (picked comes.0 (m.names c)) c) ps comes.2
    comes.4 in
    taken_first m count opening tracks t ts ps naming few comes
    (names_are m count c tracks former.0.names naming few done.0 was.names former.2)
taken_by m count opening tracks t ts rest ps false naming few comes each meets later =
    let out = later comes.0 comes.1 (λ x among.
    let former = each x among in (
      former.0,
      unnamed-former m opening t ts x former.0 (outside (members tracks) (m.names t.0.call) x meets among)
          former.1,
      former.2,
    )) in
    kept_first m opening (members tracks) t ts rest ps comes meets out

pub taken_out : {P C D R : Type 0} (m : Meaning P C D R) (count : ℕ) (opening : List P) (tracks : ℕ)
    (ts : List (Entry C × BackDone D)) (ps : List P) (n : ℕ)
    → Naming m count → count ≤ 32 → Comes m opening ts ps → is_among (members tracks) n ≡ true
    → Each m opening ts tracks (members tracks)
    → TakenOut m opening (members tracks) ts (without_newest (λ (t : Entry C × BackDone D). m.names t.0.call)
    (members tracks) ts) ps
taken_out m count opening tracks [] ps n naming few comes some each = absurd ((each n some).1)
taken_out m count opening tracks (t ∷ ts) ps n naming few comes some each =
    taken_by m count opening tracks t ts (without_newest (λ (u : Entry _ × BackDone _). m.names u.0.call)
    (members tracks) ts) ps
    (meet (members tracks) (m.names t.0.call)) naming few comes each refl
    (λ qs h e. taken_out m count opening tracks ts qs n naming few h some e)
