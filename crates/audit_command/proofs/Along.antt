-- A walk along a journal that is a legal history: it goes to any point.
use Rattle.std.proofs.Common.{◌≡◌, ℕ, ◌+◌, List, IsSome, length, take, refl, sym, ap, ◌∙◌, subst, arith}
use Rattle.std.proofs.lemmas.List.{take_all}
use Rattle.cut_mirror.specs.Walks.{IsAlong, IsUnfit, Walked}
use Rattle.cut_steps.specs.CutSteps.{CutObject, CutStep, KeptTrack, stepping}
use Rattle.reply_audits.specs.declared.judging.RecordedRoom.{RecordedRoom}
use Rattle.room_core.specs.History.{IsLegal, replay}
use Rattle.room_core.specs.Whole.{whole}
use Rattle.room_core.specs.declared.entry.Entry.{Entry}
use Rattle.audit_command.specs.Stations.{IsAudited}
use Rattle.audit_command.proofs.Unfitting.{front_comes}

abbrev pub CutWalk : Type 0
CutWalk = Walked CutObject KeptTrack CutStep

pub never_unfit : (room : RecordedRoom) (walk : CutWalk) (place : ℕ) → IsAudited room walk
    → IsUnfit (stepping walk.object.object.table) walk.opening walk.entries place → ⊥
never_unfit room walk place audited unfit =
    let here : IsSome (replay (whole (stepping walk.object.object.table)) walk.opening room.entries.now) =
    subst (λ (o : CutObject). IsSome (replay (whole (stepping o.object.table)) walk.opening room.entries.now)) (sym audited.along.object) audited.legal.applies in
    front_comes (whole (stepping walk.object.object.table)) (place + 1) walk.opening walk.entries
    (subst (λ (es : List (Entry CutStep)). IsSome (replay (whole (stepping walk.object.object.table)) walk.opening es)) (sym audited.along.entries) here) unfit.refused

pub goes_along : (room : RecordedRoom) (old new : CutWalk) → IsAudited room old → IsAlong old new → IsAudited room new
goes_along room old new audited along = record {
  along = record { object = along.object ∙ audited.along.object; entries = along.entries ∙ audited.along.entries };
  legal = subst (λ (ops : List KeptTrack). IsLegal (whole (stepping room.object.now.object.table)) ops room.entries.now) (sym along.opening) audited.legal;
}

-- a walk that stands at the end of its journal
pub at_end : (room : RecordedRoom) (begun there : CutWalk) → begun.object ≡ room.object.now → begun.entries ≡ room.entries.now → IsAlong begun there
    → there.point ≡ length room.entries.now
    → IsLegal (whole (stepping there.object.object.table)) there.opening (take there.point there.entries) → IsAudited room there
at_end room begun there object entries along end legal =
    let same : there.object ≡ room.object.now = along.object ∙ object in
    let here : there.entries ≡ room.entries.now = along.entries ∙ entries in
    let all : take there.point there.entries ≡ room.entries.now =
    ap (λ n. take n there.entries) end ∙ (ap (take (length room.entries.now)) here ∙ take_all (length room.entries.now) room.entries.now (omega arith)) in
    record {
      along = record { object = same; entries = here };
      legal = subst (λ (es : List (Entry CutStep)). IsLegal (whole (stepping room.object.now.object.table)) there.opening es) all
          (subst (λ (o : CutObject). IsLegal (whole (stepping o.object.table)) there.opening (take there.point there.entries)) same legal);
    }

pub along_then : (a b c : CutWalk) → IsAlong a b → IsAlong b c → IsAlong a c
along_then a b c x y = record { object = y.object ∙ x.object; opening = y.opening ∙ x.opening; entries = y.entries ∙ x.entries }

pub along_none : (a : CutWalk) → IsAlong a a
along_none a = record { object = refl; opening = refl; entries = refl }
