-- How the list of a cut is put on the output.
use Rattle.std.specs.Prelude.{◌≡◌, ℕ, ◌⊎◌, List, codes}
use Rattle.composables.specs.declared.media.Table.{Table}
use Rattle.composables.specs.TrackState.{TrackState}
use Rattle.timecode12.specs.Numbers.{Counted}
use Rattle.reel_names.specs.declared.namer.ReelName.{ReelName}
use Rattle.reel_names.specs.Namers.{AreNames, NamerRule}
use Rattle.edl_write.specs.declared.fault.ListFault.{ListFault}
use Rattle.edl_write.specs.declared.fault.ListFault.TheVariants.{Channels, PartialDissolve, DissolveTooLong, Events, PastDay, Reel, Memory}
use Rattle.edl_write.specs.declared.list.Written.{Written}
use Rattle.edl_write.specs.Refusals.{IsListOf, IsRefused}
use Rattle.edl_laws.specs.RoundTrips.{RoundTrips}
use Rattle.command_files.specs.declared.status.Status.{Status}
use Rattle.command_files.specs.declared.status.Status.TheVariants.{Done, NoList, OutOfMemory}
use Rattle.command_files.specs.Ports.{Change, OutputTold}
use Rattle.command_files.specs.Texts.{PutsWith, refusal_text}

-- a namer, as it is handed in: what it goes by, and the names that it has given
pub record NamerTold : Type 0 where
  pub rule : NamerRule
  pub given : List ReelName

abbrev pub namer_told : NamerRule → List ReelName → NamerTold
namer_told rule given = record { rule = rule; given = given }

-- the line of a refusal is put
abbrev pub RefusesList : List ℕ → ℕ → Change OutputTold → Status → Type 0
RefusesList code number output status = PutsWith NoList (refusal_text code number) output.before output.after status

-- how a command ends for a cut that has no list, by the reason; out of memory is none, and puts nothing
abbrev pub UnlistedEnds : ListFault → Change OutputTold → Status → Type 0
UnlistedEnds (Channels count) output status = RefusesList (codes "L1") count output status
UnlistedEnds (PartialDissolve at) output status = RefusesList (codes "L2") at output status
UnlistedEnds (DissolveTooLong at) output status = RefusesList (codes "L3") at output status
UnlistedEnds (Reel reel) output status = RefusesList (codes "L4") reel output status
UnlistedEnds (Events count) output status = RefusesList (codes "L5") count output status
UnlistedEnds (PastDay frame) output status = RefusesList (codes "L6") frame output status
UnlistedEnds Memory output status = (status ≡ OutOfMemory) × output.Untouched

-- a cut whose frames are counted so, and whose record starts at this frame; the namer that its reels are named by
module _ (table : Table) (tracks : List TrackState) (counting : Counted) (start : ℕ) (namer : NamerTold)
    (output : Change OutputTold) (status : Status) where
  -- Its list is put. Read again at the rate of the counting, the list's tape shows what the cut shows, every frame and
  -- every weight, by the names that the namer gave: each fits a list that is written, and no two reels have one.
  pub record PutsList : Type 0 where
    pub list : Written
    pub is_list : IsListOf table tracks counting start namer.rule namer.given list
    pub names : AreNames list.names
    pub again : RoundTrips list.text counting.rate start list.names table tracks
    pub put : PutsWith Done list.text output.before output.after status

  -- it has no list, for the first reason that there is
  pub record HasNoList : Type 0 where
    pub fault : ListFault
    pub refused : IsRefused table tracks counting start namer.rule namer.given fault
    pub ends : UnlistedEnds fault output status

  abbrev pub CutEnds : Type 0
  CutEnds = PutsList ⊎ HasNoList
