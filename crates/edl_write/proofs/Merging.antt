-- Channels made events, and two lists one, step by step.
use Rattle.std.proofs.Common.{◌≡◌, ℕ, suc, ◌+◌, ◌<◌, ◌≤◌, Bool, true, false, cond, List, [], ◌∷◌, ◌++◌, None, length, get_or, drop, refl, sym, ap, ◌∙◌, arith, append_assoc, inl, inr}
use Rattle.std.proofs.lemmas.Bool.{cases_Bool}
use Rattle.std.proofs.lemmas.List.{append-nil}
use Rattle.std.proofs.Math.ListN.{drop_of_length-le}
use Rattle.flatten.specs.declared.cutting.Segment.{Segment}
use Rattle.flatten.proofs.Over.{drop_at}
use Rattle.frame_meaning.specs.declared.frames.Side.TheVariants.{Dark}
use Rattle.edl_events.specs.declared.channel.Channel.{Channel}
use Rattle.edl_events.specs.declared.channel.Channel.TheVariants.{V}
use Rattle.edl_write.specs.declared.ordering.ChannelSegment.{ChannelSegment}
use Rattle.edl_write.specs.Merging.{before, behind, events_on, merged, on}
use Rattle.edl_write.specs.Order.{comes_before, is_dark}

-- an event of no frame, in place of one that is not there
abbrev pub no_event : ChannelSegment
no_event = record { channel = V; segment = record { at = 0; len = 0; from = None; frames = 0; side = Dark } }

pub next : {A : Type 0} (xs : List A) (i : ℕ) (d : A) → i < length xs → drop i xs ≡ get_or xs i d ∷ drop (i + 1) xs
next xs i d h = let e : suc i ≡ i + 1 = omega arith in drop_at xs i d h ∙ ap (λ (k : ℕ). get_or xs i d ∷ drop k xs) e

events_first : (c : Channel) (s : Segment) (ss : List Segment) → events_on c (s ∷ ss) ≡ events_on c (s ∷ []) ++ events_on c ss
events_first c s ss = elim (cases_Bool (is_dark s)) [ inl t ↦ rw t refl | inr t ↦ rw t refl ]

pub dark_added : (c : Channel) (s : Segment) (all : List ChannelSegment) → is_dark s ≡ true → all ≡ all ++ events_on c (s ∷ [])
dark_added c s all t = rw t (sym (append-nil all))

pub shown_added : (c : Channel) (s : Segment) (all new : List ChannelSegment) → is_dark s ≡ false → new ≡ all ++ on c s ∷ [] → new ≡ all ++ events_on c (s ∷ [])
shown_added c s all new t is = rw t is

pub events_more : (c : Channel) (ss : List Segment) (i : ℕ) (d : Segment) (all new meant : List ChannelSegment) → i < length ss → new ≡ all ++ events_on c (get_or ss i d ∷ [])
    → all ++ events_on c (drop i ss) ≡ meant → new ++ events_on c (drop (i + 1) ss) ≡ meant
events_more c ss i d all new meant h is same =
    let s : Segment = get_or ss i d in
    let rest : List ChannelSegment = events_on c (drop (i + 1) ss) in
    ap (λ (x : List ChannelSegment). x ++ rest) is
    ∙ (append_assoc all (events_on c (s ∷ [])) rest
    ∙ (ap (λ (x : List ChannelSegment). all ++ x) (sym (events_first c s (drop (i + 1) ss)) ∙ sym (ap (events_on c) (next ss i d h))) ∙ same))

pub events_end : (c : Channel) (ss : List Segment) (i : ℕ) (all meant : List ChannelSegment) → length ss ≤ i → all ++ events_on c (drop i ss) ≡ meant → all ≡ meant
events_end c ss i all meant h same = sym (append-nil all) ∙ (ap (λ (x : List Segment). all ++ events_on c x) (sym (drop_of_length-le ss h)) ∙ same)

-- two lists

pub merged_step : (es fs : List ChannelSegment) (i done after : ℕ) (d : ChannelSegment) (all mid new meant : List ChannelSegment) → i < length es
    → mid ≡ all ++ before (get_or es i d) (drop done fs) → drop after fs ≡ behind (get_or es i d) (drop done fs) → new ≡ mid ++ get_or es i d ∷ []
    → all ++ merged (drop i es) (drop done fs) ≡ meant → new ++ merged (drop (i + 1) es) (drop after fs) ≡ meant
merged_step es fs i done after d all mid new meant h front rest is same =
    let e : ChannelSegment = get_or es i d in
    let others : List ChannelSegment = merged (drop (i + 1) es) (behind e (drop done fs)) in
    ap (λ (x : List ChannelSegment). new ++ merged (drop (i + 1) es) x) rest
    ∙ (ap (λ (x : List ChannelSegment). x ++ others) (is ∙ ap (λ (x : List ChannelSegment). x ++ e ∷ []) front)
    ∙ (append_assoc (all ++ before e (drop done fs)) (e ∷ []) others
    ∙ (append_assoc all (before e (drop done fs)) (e ∷ others)
    ∙ (ap (λ (x : List ChannelSegment). all ++ merged x (drop done fs)) (sym (next es i d h)) ∙ same))))

pub merged_end : (es fs : List ChannelSegment) (i done : ℕ) (all new meant : List ChannelSegment) → length es ≤ i → new ≡ all ++ drop done fs
    → all ++ merged (drop i es) (drop done fs) ≡ meant → new ≡ meant
merged_end es fs i done all new meant h is same = is ∙ (ap (λ (x : List ChannelSegment). all ++ merged x (drop done fs)) (sym (drop_of_length-le es h)) ∙ same)

pub before_step : (fs : List ChannelSegment) (i : ℕ) (d e : ChannelSegment) (all new meant : List ChannelSegment) → i < length fs → comes_before (get_or fs i d) e ≡ true
    → new ≡ all ++ get_or fs i d ∷ [] → all ++ before e (drop i fs) ≡ meant → new ++ before e (drop (i + 1) fs) ≡ meant
before_step fs i d e all new meant h t is same =
    let f : ChannelSegment = get_or fs i d in
    let rest : List ChannelSegment = before e (drop (i + 1) fs) in
    let here : before e (drop i fs) ≡ f ∷ rest = ap (before e) (next fs i d h) ∙ ap (λ (b : Bool). cond b (f ∷ rest) []) t in
    ap (λ (x : List ChannelSegment). x ++ rest) is ∙ (append_assoc all (f ∷ []) rest ∙ (ap (λ (x : List ChannelSegment). all ++ x) (sym here) ∙ same))

pub behind_step : (fs : List ChannelSegment) (i : ℕ) (d e : ChannelSegment) (meant : List ChannelSegment) → i < length fs → comes_before (get_or fs i d) e ≡ true
    → behind e (drop i fs) ≡ meant → behind e (drop (i + 1) fs) ≡ meant
behind_step fs i d e meant h t same =
    let f : ChannelSegment = get_or fs i d in
    let rest : List ChannelSegment = drop (i + 1) fs in
    sym (ap (behind e) (next fs i d h) ∙ ap (λ (b : Bool). cond b (behind e rest) (f ∷ rest)) t) ∙ same

pub record IsEnd (fs : List ChannelSegment) (i : ℕ) (e : ChannelSegment) : Type 0 where
  pub none_before : before e (drop i fs) ≡ []
  pub all_behind : behind e (drop i fs) ≡ drop i fs

pub end_at : (fs : List ChannelSegment) (i : ℕ) (d e : ChannelSegment) → i < length fs → comes_before (get_or fs i d) e ≡ false → IsEnd fs i e
end_at fs i d e h t =
    let f : ChannelSegment = get_or fs i d in
    let rest : List ChannelSegment = drop (i + 1) fs in
    record {
      none_before = ap (before e) (next fs i d h) ∙ ap (λ (b : Bool). cond b (f ∷ before e rest) []) t;
      all_behind = ap (behind e) (next fs i d h) ∙ (ap (λ (b : Bool). cond b (behind e rest) (f ∷ rest)) t ∙ sym (next fs i d h));
    }

pub end_past : (fs : List ChannelSegment) (i : ℕ) (e : ChannelSegment) → length fs ≤ i → IsEnd fs i e
end_past fs i e h =
    let none : drop i fs ≡ [] = drop_of_length-le fs h in
    record { none_before = ap (before e) none; all_behind = ap (behind e) none ∙ sym none }

pub added_all : (fs : List ChannelSegment) (i : ℕ) (e : ChannelSegment) (all meant : List ChannelSegment) → IsEnd fs i e → all ++ before e (drop i fs) ≡ meant → all ≡ meant
added_all fs i e all meant end same = sym (append-nil all) ∙ (ap (λ (x : List ChannelSegment). all ++ x) (sym end.none_before) ∙ same)
