-- Each reel that a list was to name has a name.
use Rattle.std.proofs.Common.{◌≡◌, ℕ, Bool, true, false, cond, ◌==◌, ◌||◌, List, [], ◌∷◌, ◌++◌, Option, Some, None, IsSome, Result, Ok, Err, slice_index_or, refl, sym, ap, ◌∙◌, subst}
use Rattle.std.proofs.lemmas.Bool.{eq-eqb}
use Rattle.frame_meaning.specs.declared.frames.Side.{Side}
use Rattle.frame_meaning.specs.declared.frames.Side.TheVariants as side
use Rattle.reel_names.specs.declared.namer.ReelName.{ReelName}
use Rattle.reel_names.specs.Namers.{NamerRule, has_reel, name_for, name_of, with_name}
use Rattle.edl_write.specs.declared.ordering.ChannelSegment.{ChannelSegment}
use Rattle.edl_write.specs.Naming.{Names, naming, reels_of, reels_of_all, reels_of_left, reels_of_side, with_answer}
use Rattle.edl_laws.specs.Meanings.{HasName}

-- ---- each of some reels has a name

abbrev pub HaveNames : List ReelName → List ℕ → Type 0
HaveNames names [] = Unit {0}
HaveNames names (reel ∷ reels) = IsSome (name_of names reel) × HaveNames names reels

some_in_first : (b : Bool) (n : List ℕ) (o : Option (List ℕ)) → IsSome o → IsSome (cond b (Some n) o)
some_in_first true n o h = refl
some_in_first false n o h = h

some_either : (b : Bool) (n : List ℕ) (o p : Option (List ℕ)) → (IsSome o → IsSome p) → IsSome (cond b (Some n) o) → IsSome (cond b (Some n) p)
some_either true n o p h k = refl
some_either false n o p h k = h k

some_more : (names : List ReelName) (p : ReelName) (reel : ℕ) → IsSome (name_of names reel) → IsSome (name_of (names ++ p ∷ []) reel)
some_more [] p reel h = absurd cc
some_more (q ∷ qs) p reel h = some_either (q.reel == reel) q.name (name_of qs reel) (name_of (qs ++ p ∷ []) reel) (some_more qs p reel) h

some_still : (names : List ReelName) (reel : ℕ) (name : List ℕ) (q : ℕ) → IsSome (name_of names q) → IsSome (name_of (with_name names reel name) q)
some_still names reel name q h = by (has_reel names reel)
  where
    by : (b : Bool) → IsSome (name_of (cond b names (names ++ record { reel = reel; name = name } ∷ [])) q)
    by true = h
    by false = some_more names (record { reel = reel; name = name }) q h

some_of : (b t : Bool) (n : List ℕ) (o : Option (List ℕ)) → (t ≡ true → IsSome o) → (b || t) ≡ true → IsSome (cond b (Some n) o)
some_of true t n o h k = refl
some_of false t n o h k = h k

some_there : (names : List ReelName) (reel : ℕ) → has_reel names reel ≡ true → IsSome (name_of names reel)
some_there [] reel h = absurd cc
some_there (q ∷ qs) reel h = some_of (q.reel == reel) (has_reel qs reel) q.name (name_of qs reel) (some_there qs reel) h

some_last : (names : List ReelName) (p : ReelName) → IsSome (name_of (names ++ p ∷ []) p.reel)
some_last [] p = let same : (p.reel == p.reel) ≡ true = eq-eqb p.reel p.reel refl in rw same refl
some_last (q ∷ qs) p = some_in_first (q.reel == p.reel) q.name (name_of (qs ++ p ∷ []) p.reel) (some_last qs p)

some_now : (names : List ReelName) (reel : ℕ) (name : List ℕ) → IsSome (name_of (with_name names reel name) reel)
some_now names reel name = by (has_reel names reel) refl
  where
    by : (b : Bool) → has_reel names reel ≡ b → IsSome (name_of (cond b names (names ++ record { reel = reel; name = name } ∷ [])) reel)
    by true e = some_there names reel e
    by false e = some_last names (record { reel = reel; name = name })

-- ---- reels asked for

refused_for_good : (rule : NamerRule) (texts : List (List ℕ)) (reel : ℕ) (reels : List ℕ) → naming rule texts (Err reel) reels ≡ Err reel
refused_for_good rule texts reel [] = refl
refused_for_good rule texts reel (r ∷ reels) = refused_for_good rule texts reel reels

never : (reel : ℕ) (m : Names) → ◌≡◌ {A = Result Names ℕ} (Err reel) (Ok m) → ⊥
never reel m h = absurd cc

one_names : (n m : Names) → ◌≡◌ {A = Result Names ℕ} (Ok n) (Ok m) → n ≡ m
one_names n m h = cc

-- what has a name keeps one, and each that is asked for gets one
record Answered (before after : List ReelName) (reels : List ℕ) : Type 0 where
  still : (q : ℕ) → IsSome (name_of before q) → IsSome (name_of after q)
  all : HaveNames after reels

answered : (rule : NamerRule) (texts : List (List ℕ)) (reels : List ℕ) (n m : Names) → naming rule texts (Ok n) reels ≡ Ok m → Answered n.used m.used reels
answered rule texts [] n m h =
    let same : n.used ≡ m.used = ap (λ (x : Names). x.used) (one_names n m h) in
    record { still = λ q has. subst (λ (g : List ReelName). IsSome (name_of g q)) same has; all = tt }
answered rule texts (reel ∷ reels) n m h =
    by (λ k. answered rule texts reels k m) (name_for rule n.given reel (slice_index_or texts reel [])) h
  where
    by : ((k : Names) → naming rule texts (Ok k) reels ≡ Ok m → Answered k.used m.used reels) → (o : Option (List ℕ)) → naming rule texts (with_answer n reel o) reels ≡ Ok m
        → Answered n.used m.used (reel ∷ reels)
    by behind None k = absurd (never reel m (sym (refused_for_good rule texts reel reels) ∙ k))
    by behind (Some name) k =
        let rest = behind (record { given = with_name n.given reel name; used = with_name n.used reel name }) k in
        record {
          still = λ q has. rest.still q (some_still n.used reel name q has);
          all = (rest.still reel (some_now n.used reel name), rest.all);
        }

-- ---- the reels of events

abbrev pub HasLeft : List ReelName → Option (Side ℕ) → Type 0
HasLeft names None = Unit {0}
HasLeft names (Some left) = HasName names left

pub record IsNamed (names : List ReelName) (e : ChannelSegment) : Type 0 where
  pub left : HasLeft names e.segment.from
  pub right : HasName names e.segment.side

abbrev pub AreNamed : List ReelName → List ChannelSegment → Type 0
AreNamed names [] = Unit {0}
AreNamed names (e ∷ es) = IsNamed names e × AreNamed names es

both : (names : List ReelName) (xs ys : List ℕ) → HaveNames names (xs ++ ys) → HaveNames names xs × HaveNames names ys
both names [] ys h = (tt, h)
both names (x ∷ xs) ys h = let rest = both names xs ys h.1 in ((h.0, rest.0), rest.1)

side_named : (names : List ReelName) (s : Side ℕ) → HaveNames names (reels_of_side s) → HasName names s
side_named names side.Dark h = tt
side_named names (side.Pic reel source) h = h.0

left_named : (names : List ReelName) (from : Option (Side ℕ)) → HaveNames names (reels_of_left from) → HasLeft names from
left_named names None h = tt
left_named names (Some left) h = side_named names left h

each_named : (names : List ReelName) (es : List ChannelSegment) → HaveNames names (reels_of_all es) → AreNamed names es
each_named names [] h = tt
each_named names (e ∷ es) h =
    let parts = both names (reels_of e) (reels_of_all es) h in
    let own = both names (reels_of_left e.segment.from) (reels_of_side e.segment.side) parts.0 in
    (record { left = left_named names e.segment.from own.0; right = side_named names e.segment.side own.1 }, each_named names es parts.1)

pub events_are_named : (rule : NamerRule) (texts : List (List ℕ)) (es : List ChannelSegment) (n m : Names) → naming rule texts (Ok n) (reels_of_all es) ≡ Ok m → AreNamed m.used es
events_are_named rule texts es n m h = each_named m.used es (answered rule texts (reels_of_all es) n m h).all
