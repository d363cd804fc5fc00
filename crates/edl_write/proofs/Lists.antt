-- The list of a cut, or why there is none.
use Rattle.std.proofs.Common.{◌≡◌, ℕ, ◌+◌, ◌<◌, List, [], ◌∷◌, ◌++◌, None, Ok, length, drop, get_or, refl, sym, ap, ◌∙◌, append_assoc}
use Rattle.composables.specs.declared.media.Table.{Table}
use Rattle.composables.specs.TrackState.{TrackState}
use Rattle.timecode12.specs.Numbers.{Counted}
use Rattle.timecode12.specs.Labels.{day_of}
use Rattle.reel_names.specs.declared.namer.ReelName.{ReelName}
use Rattle.reel_names.specs.Namers.{NamerRule}
use Rattle.edl_write.specs.declared.fault.ListFault.{ListFault}
use Rattle.edl_write.specs.declared.fault.ListFault.TheVariants.{Channels, DissolveTooLong, Events, Memory, PartialDissolve, PastDay, Reel}
use Rattle.edl_write.specs.declared.ordering.ChannelSegment.{ChannelSegment}
use Rattle.edl_write.specs.ListEvents.{event_of, events_behind, events_of, lines_in, times_of_all}
use Rattle.edl_write.specs.Naming.{naming, no_names, reels_of_all}
use Rattle.edl_write.specs.NamingSteps.{IsRefusal, names_at}
use Rattle.edl_write.specs.Order.{AreEventsOf}
use Rattle.edl_write.specs.Refusals.{IsListOf, IsRefused, IsRefusedBefore, IsRefusedForChannels, first_past, list_written, long_in, named, over_999}
use Rattle.edl_write.specs.Text.{event_text, events_text, list_text}
use Rattle.edl_write.proofs.Merging.{next}

-- what the events and the namer are
record Passes (counting : Counted) (start : ℕ) (es : List ChannelSegment) : Type 0 where
  long : long_in es ≡ None
  count : over_999 (length es) ≡ None
  past : first_past (length (day_of counting)) (times_of_all start es) ≡ None

to_names : (counting : Counted) (start : ℕ) (rule : NamerRule) (given : List ReelName) (texts : List (List ℕ)) (es : List ChannelSegment) → Passes counting start es
    → list_written counting start rule given texts es ≡ named counting start es (naming rule texts (Ok (no_names given)) (reels_of_all es))
to_names counting start rule given texts es p = rw (p.long, p.count, p.past) refl

pub listed : (table : Table) (tracks : List TrackState) (counting : Counted) (start : ℕ) (rule : NamerRule) (given after used : List ReelName) (es : List ChannelSegment) (text : List ℕ)
    → AreEventsOf table tracks es → long_in es ≡ None → over_999 (length es) ≡ None → first_past (length (day_of counting)) (times_of_all start es) ≡ None
    → naming rule table.reels (Ok (no_names given)) (reels_of_all es) ≡ Ok (names_at after used) → text ≡ list_text counting (events_of start used es)
    → IsListOf table tracks counting start rule given (record { text = text; names = used })
listed table tracks counting start rule given after used es text are long count past names is = (
  es,
  are,
  to_names counting start rule given table.reels es (record { long = long; count = count; past = past })
      ∙ (ap (named counting start es) names ∙ ap (λ (t : List ℕ). Ok (record { text = t; names = used })) (sym is)),
)

pub refused_for_channels : (table : Table) (tracks : List TrackState) (counting : Counted) (start : ℕ) (rule : NamerRule) (given : List ReelName) (f : ListFault)
    → IsRefusedForChannels table tracks f → IsRefused table tracks counting start rule given f
refused_for_channels table tracks counting start rule given (Channels n) h = h
refused_for_channels table tracks counting start rule given (PartialDissolve n) h = h
refused_for_channels table tracks counting start rule given (DissolveTooLong n) h = absurd h
refused_for_channels table tracks counting start rule given (Events n) h = absurd h
refused_for_channels table tracks counting start rule given (PastDay n) h = absurd h
refused_for_channels table tracks counting start rule given (Reel n) h = absurd h
refused_for_channels table tracks counting start rule given Memory h = tt

pub refused_before : (table : Table) (tracks : List TrackState) (counting : Counted) (start : ℕ) (rule : NamerRule) (given : List ReelName) (es : List ChannelSegment) (day : ℕ) (f : ListFault)
    → AreEventsOf table tracks es → day ≡ length (day_of counting) → IsRefusedBefore day start es f → IsRefused table tracks counting start rule given f
refused_before table tracks counting start rule given es day (Channels n) are is h = absurd h
refused_before table tracks counting start rule given es day (PartialDissolve n) are is h = absurd h
refused_before table tracks counting start rule given es day (DissolveTooLong n) are is h = (es, are, rw h refl)
refused_before table tracks counting start rule given es day (Events n) are is h = (es, are, rw (h.0, h.1) refl)
refused_before table tracks counting start rule given es day (PastDay n) are is h =
    let past = ap (λ (d : ℕ). first_past d (times_of_all start es)) (sym is) ∙ h.2 in
    (es, are, rw (h.0, h.1, past) refl)
refused_before table tracks counting start rule given es day (Reel n) are is h = absurd h
refused_before table tracks counting start rule given es day Memory are is h = absurd h

pub refused_reel : (table : Table) (tracks : List TrackState) (counting : Counted) (start : ℕ) (rule : NamerRule) (given : List ReelName) (es : List ChannelSegment) (f : ListFault)
    → AreEventsOf table tracks es → long_in es ≡ None → over_999 (length es) ≡ None → first_past (length (day_of counting)) (times_of_all start es) ≡ None
    → IsRefusal f (naming rule table.reels (Ok (no_names given)) (reels_of_all es)) → IsRefused table tracks counting start rule given f
refused_reel table tracks counting start rule given es (Channels n) are long count past h = absurd h
refused_reel table tracks counting start rule given es (PartialDissolve n) are long count past h = absurd h
refused_reel table tracks counting start rule given es (DissolveTooLong n) are long count past h = absurd h
refused_reel table tracks counting start rule given es (Events n) are long count past h = absurd h
refused_reel table tracks counting start rule given es (PastDay n) are long count past h = absurd h
refused_reel table tracks counting start rule given es (Reel n) are long count past h =
    (es, are, to_names counting start rule given table.reels es (record { long = long; count = count; past = past }) ∙ ap (named counting start es) h)
refused_reel table tracks counting start rule given es Memory are long count past h = tt

-- the text does not tell how many lines stand before events
same_lines : (counting : Counted) (start : ℕ) (names : List ReelName) (number a b : ℕ) (es : List ChannelSegment)
    → events_text counting number (events_behind start names a es) ≡ events_text counting number (events_behind start names b es)
same_lines counting start names number a b [] = refl
same_lines counting start names number a b (e ∷ es) =
    ap (λ (t : List ℕ). event_text counting number (event_of start names a e) ++ t) (same_lines counting start names (number + 1) (a + lines_in e.segment.from) (b + lines_in e.segment.from) es)

first_text : (counting : Counted) (start : ℕ) (names : List ReelName) (number : ℕ) (e : ChannelSegment) (es : List ChannelSegment)
    → events_text counting number (events_behind start names 2 (e ∷ es)) ≡ event_text counting number (event_of start names 0 e) ++ events_text counting (number + 1) (events_behind start names 2 es)
first_text counting start names number e es =
    ap (λ (t : List ℕ). event_text counting number (event_of start names (2 + lines_in e.segment.from) e) ++ t) (same_lines counting start names (number + 1) (2 + lines_in e.segment.from) 2 es)

-- one event more
pub text_more : (counting : Counted) (start : ℕ) (names : List ReelName) (number i : ℕ) (all : List ChannelSegment) (d : ChannelSegment) (text new meant : List ℕ) → i < length all
    → new ≡ text ++ event_text counting (number + 1) (event_of start names 0 (get_or all i d))
    → text ++ events_text counting (number + 1) (events_behind start names 2 (drop i all)) ≡ meant
    → new ++ events_text counting (number + 1 + 1) (events_behind start names 2 (drop (i + 1) all)) ≡ meant
text_more counting start names number i all d text new meant h is same =
    let e : ChannelSegment = get_or all i d in
    let es : List ChannelSegment = drop (i + 1) all in
    let this : List ℕ = event_text counting (number + 1) (event_of start names 0 e) in
    let rest : List ℕ = events_text counting (number + 1 + 1) (events_behind start names 2 es) in
    let listed_rest : text ++ events_text counting (number + 1) (events_behind start names 2 (e ∷ es)) ≡ meant =
    ap (λ (xs : List ChannelSegment). text ++ events_text counting (number + 1) (events_behind start names 2 xs)) (sym (next all i d h)) ∙ same in
    ap (λ (t : List ℕ). t ++ rest) is
    ∙ (append_assoc text this rest ∙ (ap (λ (t : List ℕ). text ++ t) (sym (first_text counting start names (number + 1) e es)) ∙ listed_rest))
