-- From what came of a document's file, and then of the stations of a hall, to how the program ends.
use Rattle.std.proofs.Common.{◌≡◌, ℕ, inl, inr, List, [], refl, ◌∙◌, subst}
use Rattle.room_files.specs.Files.{Content, FilesTold, Untold, Missing, Bytes, IsUnchanged, OthersUnchanged}
use Rattle.room_halls.specs.Stations.{HallTold}
use Rattle.room_keepers.specs.declared.fault.KeepFault.{KeepFault}
use Rattle.room_ports.specs.Counts.{HasRisen}
use Rattle.otio_json.specs.declared.opening.Opening.{Opening}
use Rattle.command_files.specs.declared.status.Status.{Status}
use Rattle.command_files.specs.declared.status.Status.TheVariants.{Done, WriteFault}
use Rattle.command_files.specs.Unopened.{AreQuiet, OnlyRead}
use Rattle.command_files.proofs.Unchanged.{unchanged_then}
use Rattle.served_rooms.specs.Halls.{FileEnds, HallEnds, HasServed, NeverFails}
use Rattle.station_sessions.specs.Rooms.{History}

unchanged_same : (c : Content) → IsUnchanged c c
unchanged_same Untold = tt
unchanged_same Missing = refl
unchanged_same (Bytes all) = refl

-- files with which nothing was done
pub quiet_same : (files : FilesTold) → AreQuiet files files
quiet_same files = (((λ name. unchanged_same (files.file name)), refl), refl)

-- the journal of a room is kept in another way
module _ (o : Opening) (kept : History) (stations : ℕ) (address : List ℕ) (Fails : KeepFault → Type 0) (K L : History → ℕ → Status → Type 0) (U V : Type 0)
    (keeps : (h : History) (held : ℕ) (s : Status) → K h held s → L h held s) (unkept : U → V) (old new : HallTold) where
  served : (s : Status) → HasServed o kept stations address Fails K U old new s → HasServed o kept stations address Fails L V old new s
  served s h = record {
    journal = h.journal;
    held = h.held;
    of_sessions = h.of_sessions;
    of_keeping = h.of_keeping;
    opened = h.opened;
    sessions = h.sessions;
    keeps = keeps h.journal h.held h.of_keeping h.keeps;
    status_is = h.status_is;
  }

  pub kept_ends : (s : Status) → HallEnds o kept stations address Fails K U old new s → HallEnds o kept stations address Fails L V old new s
  kept_ends s (inl h) = inl (served s h)
  kept_ends s (inr (u, ends)) = inr (unkept u, ends)

-- the files were read before the stations were served
module _ (before mid after : FilesTold) (only : OnlyRead before mid) (quiet : mid.reads ≡ before.reads) where
  quiet_then : AreQuiet mid after → AreQuiet before after
  quiet_then q = (((λ name. unchanged_then (before.file name) (mid.file name) (after.file name) (only.0 name) (q.0.0 name)), q.0.1 ∙ only.1), q.1 ∙ quiet)

  others : (name : List ℕ) → OthersUnchanged name mid.file after.file → OthersUnchanged name before.file after.file
  others name o = λ other apart. unchanged_then (before.file other) (mid.file other) (after.file other) (only.0 other) (o other apart)

  file_ends : (name : List ℕ) (h : History) (s : Status) → FileEnds name mid after h s → FileEnds name before after h s
  file_ends name h Done (whole, o, reads, writes) = (whole, others name o, reads ∙ quiet, writes ∙ only.1)
  file_ends name h WriteFault (o, reads, risen) = (others name o, reads ∙ quiet, subst (λ (n : ℕ). HasRisen n after.writes) only.1 risen)
  file_ends name h other e = absurd e

  pub hall_ends : (o : Opening) (stations : ℕ) (address journal : List ℕ) (old new : HallTold) (s : Status)
      → HallEnds o [] stations address NeverFails (λ h held status. FileEnds journal mid after h status) (AreQuiet mid after) old new s
      → HallEnds o [] stations address NeverFails (λ h held status. FileEnds journal before after h status) (AreQuiet before after) old new s
  hall_ends o stations address journal old new s ends =
      kept_ends o [] stations address NeverFails (λ h held status. FileEnds journal mid after h status) (λ h held status. FileEnds journal before after h status) (AreQuiet mid after) (AreQuiet before after)
      (λ h held status. file_ends journal h status) quiet_then old new s ends
