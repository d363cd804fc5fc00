-- What a list that is written says of the events of its cut.
use Rattle.std.proofs.Common.{◌≡◌, ℕ, List, Option, Some, None, Result, Ok, Err, length, refl, sym, ap, ◌∙◌, subst}
use Rattle.timecode12.specs.Numbers.{Counted}
use Rattle.timecode12.specs.Labels.{day_of}
use Rattle.reel_names.specs.declared.namer.ReelName.{ReelName}
use Rattle.reel_names.specs.Namers.{NamerRule}
use Rattle.edl_write.specs.declared.fault.ListFault.{ListFault}
use Rattle.edl_write.specs.declared.fault.ListFault.TheVariants.{DissolveTooLong, Events, PastDay}
use Rattle.edl_write.specs.declared.list.Written.{Written}
use Rattle.edl_write.specs.declared.ordering.ChannelSegment.{ChannelSegment}
use Rattle.edl_write.specs.ListEvents.{events_of, times_of_all}
use Rattle.edl_write.specs.Naming.{Names, naming, no_names, reels_of_all}
use Rattle.edl_write.specs.Refusals.{first_past, list_written, long_in, named, over_999, unless}
use Rattle.edl_write.specs.Text.{list_text}
use Rattle.edl_laws.proofs.NamesGiven.{AreNamed, events_are_named}

no_fault : {A : Type 0} (fault : ℕ → ListFault) (o : Option ℕ) (answer : Result A ListFault) (a : A) → unless fault o answer ≡ Ok a → (o ≡ None) × (answer ≡ Ok a)
no_fault fault None answer a h = (refl, h)
no_fault fault (Some n) answer a h = absurd cc

one_list : (a b : Written) → ◌≡◌ {A = Result Written ListFault} (Ok a) (Ok b) → a ≡ b
one_list a b h = cc

-- what makes a list
pub record Makes (counting : Counted) (start : ℕ) (es : List ChannelSegment) (list : Written) : Type 0 where
  pub long : long_in es ≡ None
  pub count : over_999 (length es) ≡ None
  pub past : first_past (length (day_of counting)) (times_of_all start es) ≡ None
  pub named : AreNamed list.names es
  pub text : list.text ≡ list_text counting (events_of start list.names es)

pub written : (counting : Counted) (start : ℕ) (rule : NamerRule) (given : List ReelName) (texts : List (List ℕ)) (es : List ChannelSegment) (list : Written)
    → list_written counting start rule given texts es ≡ Ok list → Makes counting start es list
written counting start rule given texts es list h =
    let names = named counting start es (naming rule texts (Ok (no_names given)) (reels_of_all es)) in
    let in_day = unless PastDay (first_past (length (day_of counting)) (times_of_all start es)) names in
    let counted = unless Events (over_999 (length es)) in_day in
    let a = no_fault DissolveTooLong (long_in es) counted list h in
    let b = no_fault Events (over_999 (length es)) in_day list a.1 in
    let c = no_fault PastDay (first_past (length (day_of counting)) (times_of_all start es)) names list b.1 in
    by (naming rule texts (Ok (no_names given)) (reels_of_all es)) refl a.0 b.0 c.0 c.1
  where
    by : (r : Result Names ℕ) → naming rule texts (Ok (no_names given)) (reels_of_all es) ≡ r → long_in es ≡ None → over_999 (length es) ≡ None
        → first_past (length (day_of counting)) (times_of_all start es) ≡ None → named counting start es r ≡ Ok list → Makes counting start es list
    by (Err reel) e long count past k = absurd cc
    by (Ok names) e long count past k =
        let same : ◌≡◌ {A = Written} (record { text = list_text counting (events_of start names.used es); names = names.used }) list = one_list (record { text = list_text counting (events_of start names.used es); names = names.used }) list k in
        let used : names.used ≡ list.names = ap (λ (w : Written). w.names) same in
        let text : list_text counting (events_of start names.used es) ≡ list.text = ap (λ (w : Written). w.text) same in
        record {
          long = long;
          count = count;
          past = past;
          named = subst (λ (g : List ReelName). AreNamed g es) used (events_are_named rule texts es (no_names given) names e);
          text = sym text ∙ ap (λ (g : List ReelName). list_text counting (events_of start g es)) used;
        }
