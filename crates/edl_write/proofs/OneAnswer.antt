-- A cut and a namer have one answer, but for want of memory.
use Rattle.std.proofs.Common.{◌≡◌, ℕ, ◌<◌, ◌≤◌, List, Option, Some, None, Result, Ok, Err, ◌⊎◌, inl, inr, length, refl, sym, ap, ◌∙◌, arith}
use Rattle.composables.specs.declared.media.Table.{Table}
use Rattle.composables.specs.TrackState.{TrackState}
use Rattle.flatten.specs.Channels.{audio_frames, video_frames}
use Rattle.flatten.proofs.WholeRuns.{no_part}
use Rattle.timecode12.specs.Numbers.{Counted}
use Rattle.reel_names.specs.declared.namer.ReelName.{ReelName}
use Rattle.reel_names.specs.Namers.{NamerRule}
use Rattle.edl_write.specs.declared.fault.ListFault.{ListFault}
use Rattle.edl_write.specs.declared.fault.ListFault.TheVariants.{Channels, DissolveTooLong, Events, Memory, PartialDissolve, PastDay, Reel}
use Rattle.edl_write.specs.declared.list.Written.{Written}
use Rattle.edl_write.specs.declared.ordering.ChannelSegment.{ChannelSegment}
use Rattle.edl_write.specs.Order.{AreEventsOf, audio_channel}
use Rattle.edl_write.specs.Refusals.{IsAnswer, list_written, partial_in}
use Rattle.edl_write.proofs.OneList.{one_list_of_events}

record ByCount (table : Table) (tracks : List TrackState) (r : Result Written ListFault) : Type 0 where
  over : 2 < length (audio_frames table tracks)
  is : r ≡ Err (Channels (length (audio_frames table tracks)))

record ByPart (table : Table) (tracks : List TrackState) (r : Result Written ListFault) : Type 0 where
  few : length (audio_frames table tracks) ≤ 2
  at : ℕ
  part : partial_in table tracks ≡ Some at
  is : r ≡ Err (PartialDissolve at)

record ByEvents (table : Table) (tracks : List TrackState) (counting : Counted) (start : ℕ) (rule : NamerRule) (given : List ReelName) (r : Result Written ListFault) : Type 0 where
  es : List ChannelSegment
  are : AreEventsOf table tracks es
  is : list_written counting start rule given table.reels es ≡ r

form_of : (table : Table) (tracks : List TrackState) (counting : Counted) (start : ℕ) (rule : NamerRule) (given : List ReelName) (r : Result Written ListFault)
    → IsAnswer table tracks counting start rule given r → (r ≡ Err Memory → ⊥) → ByCount table tracks r ⊎ (ByPart table tracks r ⊎ ByEvents table tracks counting start rule given r)
form_of table tracks counting start rule given (Ok w) h n = inr (inr (record { es = h.0; are = h.1; is = h.2 }))
form_of table tracks counting start rule given (Err (Channels k)) h n = inl (record { over = omega (arith, h.0, h.1); is = ap (λ (m : ℕ). Err (Channels m)) h.0 })
form_of table tracks counting start rule given (Err (PartialDissolve k)) h n = inr (inl (record { few = h.0; at = k; part = h.1; is = refl }))
form_of table tracks counting start rule given (Err (DissolveTooLong k)) h n = inr (inr (record { es = h.0; are = h.1; is = h.2 }))
form_of table tracks counting start rule given (Err (Events k)) h n = inr (inr (record { es = h.0; are = h.1; is = h.2 }))
form_of table tracks counting start rule given (Err (PastDay k)) h n = inr (inr (record { es = h.0; are = h.1; is = h.2 }))
form_of table tracks counting start rule given (Err (Reel k)) h n = inr (inr (record { es = h.0; are = h.1; is = h.2 }))
form_of table tracks counting start rule given (Err Memory) h n = absurd (n refl)

no_part_in : (table : Table) (tracks : List TrackState) (es : List ChannelSegment) → AreEventsOf table tracks es → partial_in table tracks ≡ None
no_part_in table tracks es h =
    let v = no_part h.picture.0 (video_frames table tracks) h.picture.1 in
    let a = no_part h.sound.0 (audio_channel table tracks 0) h.sound.1 in
    let b = no_part h.second_sound.0 (audio_channel table tracks 1) h.second_sound.1 in
    rw (v, a, b) refl

some_other : (n : ℕ) (o : Option ℕ) → o ≡ Some n → o ≡ None → ⊥
some_other n o h k = absurd cc

one_place : (m n : ℕ) (o : Option ℕ) → o ≡ Some m → o ≡ Some n → m ≡ n
one_place m n o h k = cc

pub one_answer : (table : Table) (tracks : List TrackState) (counting : Counted) (start : ℕ) (rule : NamerRule) (given : List ReelName) (r s : Result Written ListFault)
    → IsAnswer table tracks counting start rule given r → IsAnswer table tracks counting start rule given s → (r ≡ Err Memory → ⊥) → (s ≡ Err Memory → ⊥) → r ≡ s
one_answer table tracks counting start rule given r s h k m n =
    same (form_of table tracks counting start rule given r h m) (form_of table tracks counting start rule given s k n)
  where
    same : ByCount table tracks r ⊎ (ByPart table tracks r ⊎ ByEvents table tracks counting start rule given r) → ByCount table tracks s ⊎ (ByPart table tracks s ⊎ ByEvents table tracks counting start rule given s) → r ≡ s
    same (inl p) (inl q) = p.is ∙ sym q.is
    same (inl p) (inr (inl q)) = absurd (omega (arith, p.over, q.few))
    same (inl p) (inr (inr q)) = absurd (omega (arith, p.over, q.are.few))
    same (inr (inl p)) (inl q) = absurd (omega (arith, q.over, p.few))
    same (inr (inl p)) (inr (inl q)) = p.is ∙ (ap (λ (x : ℕ). Err (PartialDissolve x)) (one_place p.at q.at (partial_in table tracks) p.part q.part) ∙ sym q.is)
    same (inr (inl p)) (inr (inr q)) = absurd (some_other p.at (partial_in table tracks) p.part (no_part_in table tracks q.es q.are))
    same (inr (inr p)) (inl q) = absurd (omega (arith, q.over, p.are.few))
    same (inr (inr p)) (inr (inl q)) = absurd (some_other q.at (partial_in table tracks) q.part (no_part_in table tracks p.es p.are))
    same (inr (inr p)) (inr (inr q)) = sym p.is ∙ (ap (list_written counting start rule given table.reels) (one_list_of_events table tracks p.es q.es p.are q.are) ∙ q.is)
