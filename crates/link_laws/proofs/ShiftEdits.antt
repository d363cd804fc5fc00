-- Edits that move what is behind them on all named tracks keep these together.
use Rattle.std.proofs.Common.{◌≡◌, ℕ, ◌+◌, ◌<◌, ℤ, true, List, Option, Some, None, sym, ◌∙◌, IsBitSet, Bool}
use Rattle.frame_meaning.specs.declared.cells.Link.{Link}
use Rattle.composables.specs.declared.media.Table.{Table}
use Rattle.composables.specs.declared.refusals.Refusal.{Refusal}
use Rattle.composables.specs.Answers.{Applied, unless}
use Rattle.composables.specs.Joined.{frames_in}
use Rattle.composables.specs.Links.{cells_from, is_named, link_outside, links_split, split_links}
use Rattle.composables.specs.OwnTracks.{for_own, track_numbered}
use Rattle.composables.specs.TrackState.{TrackState}
use Rattle.edit_insert.specs.Edits.{extracted, inserted}
use Rattle.edit_splice.specs.Shifts.{shifted}
use Rattle.link_laws.specs.Laws.{ShiftingKeepsTogether}
use Rattle.link_laws.specs.Rooms.{AreNamed, IsRoom, KeepsTogether, LeavesTogether, StaysTogether, with_tracks}
use Rattle.link_laws.specs.Together.{Together}
use Rattle.link_laws.proofs.ShiftCases.{ByShifts, PutAt, extract-leaves, insert-leaves, leaves-own, leaves-unless, shift-leaves}
use Rattle.link_laws.proofs.LinkLists.{named-inside}
use Rattle.link_laws.proofs.Shifting.{Stays, from-carries, shift-end, shift-start}
use Rattle.link_laws.proofs.ShiftWeight.{shift-little, split-order}
use Rattle.link_laws.proofs.Splitting.{SeesFrom, split-law, splits-before}
use Rattle.link_laws.proofs.Weighing.{numbered-of}
use Rattle.link_laws.proofs.Tied.{tied-of, together-of}

pub unless-leaves : (all : List TrackState) (why : Option Refusal) (meant : Applied) → (why ≡ None → LeavesTogether all meant) → LeavesTogether all (unless why meant)
unless-leaves all why meant h = leaves-unless (λ (news : List TrackState). StaysTogether all (with_tracks all news)) why meant h

pub own-room : (table : Table) (own : ℕ) (meant : List TrackState → TrackState → Applied)
    → ((all named : List TrackState) (t : TrackState) → IsRoom table all → AreNamed all named → Together all → track_numbered own named ≡ Some t → LeavesTogether all (meant named t))
    → KeepsTogether table (λ named. for_own own (meant named) named)
own-room table own meant each all named room names g =
    leaves-own (λ (news : List TrackState). StaysTogether all (with_tracks all news)) own (meant named) named (λ t e. each all named t room names g e)

-- a shift that moves something

pub shifts-together : (keep : Bool) (table : Table) (all named : List TrackState) → IsRoom table all → AreNamed all named → Together all
    → ByShifts keep (λ (news : List TrackState). StaysTogether all (with_tracks all news)) all named
shifts-together keep table all named room names g ts own x y views done c =
    shift-leaves keep (λ (news : List TrackState). StaysTogether all (with_tracks all news)) all named ts own x y views done c stays where
      z : ℕ
      z = x + frames_in views

      us : List TrackState
      us = shifted keep own x y views ts

      vs : List TrackState
      vs = links_split x z us

      ls : List Link
      ls = split_links x z us

      stays : link_outside ts (cells_from y ts) ≡ None → StaysTogether all (with_tracks all vs)
      stays told =
          let inside : (l : Link) (b : Option ℤ) → SeesFrom y named l b → (n : ℕ) → n < 32 → IsBitSet l.tracks n → is_named named n ≡ true =
          λ l b s n lt bit. sym (c.same n) ∙ named-inside ts (cells_from y ts) l n told (from-carries y ts l b (c.sees l b s)) lt bit in
          let start = shift-start table all named us x y z (PutAt x views) room.tracks names.among (tied-of all g) c.each inside in
          let end = split-law us ls (split-order x z us) start.each (Stays x named all) z start in
          record {
            together = together-of (with_tracks all vs) (shift-end all named us vs x y z (PutAt x views) names.among (tied-of all g) c.each (splits-before us ls z us) end c.put);
            little = shift-little all named us x y z (PutAt x views) (numbered-of table all room) names (tied-of all g).below c.each start.high;
          }

pub shifting-keeps : ShiftingKeepsTogether
shifting-keeps = record {
  insert = λ table c. own-room table c.track (inserted table c)
      (λ all named t room names g e.
      insert-leaves (λ (news : List TrackState). StaysTogether all (with_tracks all news)) table c all named t names e (shifts-together c.keep table all named room names g));
  extract = λ table c. own-room table c.track (extracted c)
      (λ all named t room names g e.
      extract-leaves (λ (news : List TrackState). StaysTogether all (with_tracks all news)) c all named t names e (shifts-together c.keep table all named room names g));
}
