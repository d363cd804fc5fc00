-- How the command ends for a legal journal, of how the reading and the audit of what was recorded end.
use Rattle.std.proofs.Common.{◌≡◌, ℕ, ◌<◌, inl, inr, List, length, sym, ap, subst}
use Rattle.command_files.specs.Ports.{Change, OutputTold}
use Rattle.command_files.specs.Unopened.{OnlyRead}
use Rattle.command_files.specs.declared.status.Status.{Status}
use Rattle.command_files.proofs.Openings.{sound_opens}
use Rattle.command_words.specs.Records.{Named}
use Rattle.cut_steps.proofs.Left.{can_open}
use Rattle.composables.specs.declared.media.Table.{Table}
use Rattle.cut_mirror.specs.Walks.{IsUnfit}
use Rattle.cut_steps.specs.CutSteps.{CutObject, KeptTrack, fresh_tracks, stepping}
use Rattle.edit_apply.specs.RoomTracks.{IsOpening}
use Rattle.otio_json.specs.Soundness.{IsSoundOpening}
use Rattle.take_back.specs.Parts.{CanOpen}
use Rattle.otio_json.specs.declared.opening.Opening.{Opening}
use Rattle.room_core.specs.History.{IsLegal}
use Rattle.room_core.specs.Whole.{whole}
use Rattle.room_files.specs.Files.{FilesTold}
use Rattle.station_sessions.specs.Rooms.{History, IsLegalIn, Setting, setting_of}
use Rattle.audit_command.specs.Audits.{RecordsEnd}
use Rattle.audit_command.specs.Explained.{Explains}
use Rattle.audit_command.specs.Stations.{IsExplainedIn, ReadsEnd}
use Rattle.audit_command.proofs.Along.{CutWalk}
use Rattle.audit_command.proofs.EachRecording.{each_map}
use Rattle.audit_command.proofs.ReadMore.{quiet_reads}
use Rattle.audit_command.proofs.Transcribed.{Laws, from_explains, refuses_by, to_explains}

module _ (laws : Laws) (o : Opening) (h : History) (names : List Named) (old new : FilesTold) (output : Change OutputTold) (status : Status)
    (legal : IsLegalIn o h) (same : OnlyRead old new) where
  ends_so : ReadsEnd (setting_of o) (fresh_tracks o.tracks) h names old new output status → RecordsEnd o h names old new output status
  ends_so (inl (rs, reads, inl (well, put))) = (
    same,
    inr (inl (record {
      recordings = rs;
      reads = reads;
      ends = inl (record {
        legal = record {
          legal = legal;
          seated = well.1;
          explained = each_map (IsExplainedIn (setting_of o) (fresh_tracks o.tracks) h) (Explains o h) (to_explains laws o h) 0 rs well.0;
        };
        put = put;
      });
    })),
  )
  ends_so (inl (rs, reads, inr (inl (refusal, refused, put)))) = (
    same,
    inr (inl (record {
      recordings = rs;
      reads = reads;
      ends = inr (record {
        refusal = refusal;
        legal = legal;
        refused = refuses_by (setting_of o) (fresh_tracks o.tracks) h (IsExplainedIn (setting_of o) (fresh_tracks o.tracks) h) (Explains o h)
            (to_explains laws o h) (from_explains laws o h) rs refusal refused;
        put = put;
      });
    })),
  )
  ends_so (inl (rs, reads, inr (inr memory))) =
      (same, inr (inr (inr (inr (memory.0, (quiet_reads old new names rs reads).1, memory.1, inr (legal, inr (rs, reads)))))))
  ends_so (inr (inl unread)) = (same, inr (inr (inl (legal, unread.0, unread.1, unread.2))))
  ends_so (inr (inr (inl long))) = (same, inr (inr (inr (inl (legal, long.0, long.1, long.2, long.3)))))
  ends_so (inr (inr (inr (ended, reads, untouched, inl unread)))) = (same, inr (inr (inr (inr (ended, reads, untouched, inl unread)))))
  ends_so (inr (inr (inr (ended, reads, untouched, inr fits)))) = (same, inr (inr (inr (inr (ended, reads, untouched, inr (legal, inl fits))))))

  pub records_end : (setting : Setting) (opening : List KeptTrack) → setting ≡ setting_of o → opening ≡ fresh_tracks o.tracks
      → ReadsEnd setting opening h names old new output status → RecordsEnd o h names old new output status
  records_end setting opening is begins ends =
      ends_so (subst (λ s. ReadsEnd s (fresh_tracks o.tracks) h names old new output status) is
      (subst (λ ts. ReadsEnd setting ts h names old new output status) begins ends))

-- what stays as it is in the room
abbrev with_table : Opening → Table → Setting
with_table o t = record { table = t; counting = o.counting; start = o.start }

pub setting_so : (o : Opening) (object : CutObject) → object.object.table ≡ o.table
    → record { table = object.object.table; counting = o.counting; start = o.start } ≡ setting_of o
setting_so o object is = ap (with_table o) is

-- the journal of a walk along it is a legal history of the room's opening, or an entry does not apply
pub legal_so : (o : Opening) (object : CutObject) (opening : List KeptTrack) (h : History) → object.object.table ≡ o.table → opening ≡ fresh_tracks o.tracks
    → IsLegal (whole (stepping object.object.table)) opening h → IsLegalIn o h
legal_so o object opening h is begins legal =
    subst (λ t. IsLegal (whole (stepping t)) (fresh_tracks o.tracks) h) is
    (subst (λ ts. IsLegal (whole (stepping object.object.table)) ts h) begins legal)

pub unfit_so : (o : Opening) (walk : CutWalk) (h : History) (place : ℕ) → walk.object.object.table ≡ o.table → walk.opening ≡ fresh_tracks o.tracks
    → walk.entries ≡ h → IsUnfit (stepping walk.object.object.table) walk.opening walk.entries place
    → IsUnfit (stepping o.table) (fresh_tracks o.tracks) h place
unfit_so o walk h place is begins entries unfit =
    subst (λ t. IsUnfit (stepping t) (fresh_tracks o.tracks) h place) is
    (subst (λ ts. IsUnfit (stepping walk.object.object.table) ts h place) begins
    (subst (λ (es : History). IsUnfit (stepping walk.object.object.table) walk.opening es place) entries unfit))

-- the tracks of a document that was read can be those of a room's opening
pub can_open_so : (o : Opening) (object : CutObject) (parts : List KeptTrack) → IsSoundOpening o → 0 < length o.tracks
    → object.object.table ≡ o.table → parts ≡ fresh_tracks o.tracks → CanOpen (IsOpening object.object.table) parts
can_open_so o object parts sound some is fresh =
    subst (λ t. CanOpen (IsOpening t) parts) (sym is)
    (subst (λ ps. CanOpen (IsOpening o.table) ps) (sym fresh) (can_open o.table o.tracks (sound_opens o sound some)))
