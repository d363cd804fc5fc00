-- The text of an event.
use Rattle.std.proofs.Common.{◌≡◌, ℕ, ◌+◌, ◌≤◌, List, [], ◌∷◌, ◌++◌, Option, Some, None, Result, Ok, Err, OnOk, length, sym, ap, ◌∙◌, append_assoc}
use Rattle.std.proofs.lemmas.List.{append-nil}
use Rattle.std.proofs.lemmas.Option.{slice_get_past}
use Rattle.std.specs.List.{flat_map}
use Rattle.frame_meaning.specs.declared.frames.Side.{Side}
use Rattle.timecode12.specs.Labels.{day_of}
use Rattle.timecode12.specs.Numbers.{Counted}
use Rattle.reel_names.specs.declared.namer.ReelName.{ReelName}
use Rattle.edl_events.specs.Channels.{set_of}
use Rattle.edl_write.specs.declared.lines.EventText.{EventText}
use Rattle.edl_write.specs.declared.ordering.ChannelSegment.{ChannelSegment}
use Rattle.edl_write.specs.ListEvents.{event_of, from_of, name_of_side, source_of}
use Rattle.edl_write.specs.Text.{event_text, label_text, line_text, lines_from, lines_of, time_text}

pub on_ok : {A E P Q : Type 0} (r : Result A E) → (P → Q) → OnOk r P → OnOk r Q
on_ok (Ok x) f h = f h
on_ok (Err e) f h = tt

pub no_label : (counting : Counted) (frame : ℕ) (out : List ℕ) → length (day_of counting) ≤ frame → out ≡ out ++ time_text counting frame
no_label counting frame out h = sym (ap (λ (t : List ℕ). out ++ t) (ap label_text (slice_get_past (day_of counting) frame h)) ∙ append-nil out)

joined_two : (f : EventText → List ℕ) (a b : EventText) (out mid new : List ℕ) → mid ≡ out ++ f a → new ≡ mid ++ f b → new ≡ out ++ flat_map f (a ∷ b ∷ [])
joined_two f a b out mid new one two =
    two ∙ (ap (λ (t : List ℕ). t ++ f b) one ∙ (append_assoc out (f a) (f b) ∙ ap (λ (t : List ℕ). out ++ (f a ++ t)) (sym (append-nil (f b)))))

abbrev opening : ℕ → ℕ → ℕ → List ℕ → ℕ → EventText
opening number channels place reel source = record { number = number; reel = reel; channels = channels; dissolve = None; source = source; place = place; len = 0 }

abbrev closing : ℕ → ℕ → ℕ → ℕ → ℕ → List ℕ → ℕ → EventText
closing number channels frames place len reel source = record { number = number; reel = reel; channels = channels; dissolve = Some frames; source = source; place = place; len = len }

-- the two lines of a dissolve
lines_two : (start : ℕ) (names : List ReelName) (number line : ℕ) (e : ChannelSegment) (left : Side ℕ) (reel : List ℕ) (channels source : ℕ) → reel ≡ name_of_side names e.segment.side
    → channels ≡ set_of e.channel → source ≡ source_of e.segment.side → e.segment.from ≡ Some left
    → opening number channels (start + e.segment.at) (name_of_side names left) (source_of left)
    ∷ closing number channels e.segment.frames (start + e.segment.at) e.segment.len reel source ∷ []
    ≡ lines_of number (event_of start names line e)
lines_two start names number line e left reel channels source is_reel is_channels is_source from =
    let place : ℕ = start + e.segment.at in
    let first : ℕ → EventText = λ (c : ℕ). opening number c place (name_of_side names left) (source_of left) in
    let last : ℕ → List ℕ → ℕ → EventText = λ (c : ℕ) (r : List ℕ) (s : ℕ). closing number c e.segment.frames place e.segment.len r s in
    ap (λ (c : ℕ). first c ∷ last c reel source ∷ []) is_channels
    ∙ (ap (λ (r : List ℕ). first (set_of e.channel) ∷ last (set_of e.channel) r source ∷ []) is_reel
    ∙ (ap (λ (s : ℕ). first (set_of e.channel) ∷ last (set_of e.channel) (name_of_side names e.segment.side) s ∷ []) is_source
    ∙ sym (ap (λ (o : Option (Side ℕ)). lines_from number (event_of start names line e) (from_of names o)) from)))

pub two_lines : (counting : Counted) (start : ℕ) (names : List ReelName) (number line : ℕ) (e : ChannelSegment) (left : Side ℕ) (out mid new reel : List ℕ) (channels source : ℕ) (first last : EventText)
    → reel ≡ name_of_side names e.segment.side → channels ≡ set_of e.channel → source ≡ source_of e.segment.side → e.segment.from ≡ Some left
    → first ≡ record { number = number; reel = name_of_side names left; channels = channels; dissolve = None; source = source_of left; place = start + e.segment.at; len = 0 }
    → last ≡ record { number = number; reel = reel; channels = channels; dissolve = Some e.segment.frames; source = source; place = start + e.segment.at; len = e.segment.len }
    → mid ≡ out ++ line_text counting first → new ≡ mid ++ line_text counting last → new ≡ out ++ event_text counting number (event_of start names line e)
two_lines counting start names number line e left out mid new reel channels source first last is_reel is_channels is_source from is_first is_last one two =
    joined_two (line_text counting) first last out mid new one two
    ∙ ap (λ (ls : List EventText). out ++ flat_map (line_text counting) ls)
    (ap (λ (l : EventText). l ∷ last ∷ []) is_first
    ∙ (ap (λ (l : EventText). opening number channels (start + e.segment.at) (name_of_side names left) (source_of left) ∷ l ∷ []) is_last
    ∙ lines_two start names number line e left reel channels source is_reel is_channels is_source from))
