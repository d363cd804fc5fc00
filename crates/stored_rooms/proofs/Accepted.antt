-- A kept file that is accepted is refused for nothing.
use Rattle.std.proofs.Common.{◌≡◌, ℕ, ◌<◌, ◌≤◌, ◌^◌, List, Option, Some, None, IfSome, IsSome, IsSomeAnd, length, ap, subst, arith}
use Rattle.cut_steps.specs.CutSteps.{KeptTrack, StepDone, StepRefusal, stepping, fresh_tracks}
use Rattle.room_disks.specs.Crashes.{Course}
use Rattle.journal_file.specs.Layout.{IsDamagedAt, Kept}
use Rattle.journal_file.specs.Standing.{HasTooMany}
use Rattle.kept_rooms.specs.Kept.{RefusesEntry, RefusesRecord}
use Rattle.kept_rooms.specs.Readings.{AreNotBoth}
use Rattle.kept_rooms.specs.declared.fault.KeptFault.TheVariants as made
use Rattle.command_files.specs.Ports.{DiskTold}
use Rattle.otio_json.specs.declared.opening.Opening.{Opening}
use Rattle.stored_rooms.specs.declared.refusal.KeptRefusal.{KeptRefusal}
use Rattle.stored_rooms.specs.declared.refusal.KeptRefusal.TheVariants as refused
use Rattle.stored_rooms.specs.KeptFiles.{AcceptedAreNotRefused, IsAcceptedFile, IsRefusedFile}

-- what is known of the bytes of one file, told in two ways
both_of : (P Q : List ℕ → Type 0) (file after : Option Course) → IsSomeAnd file (λ x. P x.now.reads) → IsSome after → IfSome after (λ n. IsSomeAnd file (λ x. Q x.now.reads))
    → (bytes : List ℕ) × P bytes × Q bytes
both_of P Q None after p told q = absurd p
both_of P Q (Some x) None p told q = absurd (Prim.grind (arith, told))
both_of P Q (Some x) (Some n) p told q = (x.now.reads, p, q)

module _ (damaged : (bytes : List ℕ) (at : ℕ) (lines : List (List ℕ)) → IsDamagedAt bytes at → Kept bytes lines → ⊥)
    (one : (bytes : List ℕ) (lines others : List (List ℕ)) → Kept bytes lines → Kept bytes others → lines ≡ others)
    (never : AreNotBoth KeptTrack StepDone StepRefusal) where
  module _ (o : Opening) (stations : ℕ) (name : List ℕ) (before after : DiskTold) (a : IsAcceptedFile o stations name before after) where
    is_other : (Q : List ℕ → Type 0) → IfSome after.course (λ n. IsSomeAnd (before.file name) (λ x. Q x.now.reads))
        → (bytes : List ℕ) × ((length bytes ≤ 2 ^ 27) × Kept bytes a.records) × Q bytes
    is_other Q q = both_of (λ bytes. (length bytes ≤ 2 ^ 27) × Kept bytes a.records) Q (before.file name) after.course a.had a.still_told q

    same_records : (records : List (List ℕ)) → IfSome after.course (λ n. IsSomeAnd (before.file name) (λ x. Kept x.now.reads records)) → records ≡ a.records
    same_records records had = let t = is_other (λ bytes. Kept bytes records) had in one t.0 records a.records t.2 t.1.1

    not_refused : (refusal : KeptRefusal) → IsRefusedFile o stations name before after refusal → ⊥
    not_refused refused.TooLarge r = let t = is_other (λ bytes. 2 ^ 27 < length bytes) r in absurd (omega (arith, t.1.0, t.2))
    not_refused (refused.Damaged at) r = let t = is_other (λ bytes. (length bytes ≤ 2 ^ 27) × IsDamagedAt bytes at) r in damaged t.0 at a.records t.2.1 t.1.1
    not_refused (refused.TooMany count) r =
        let t = is_other (λ bytes. (length bytes ≤ 2 ^ 27) × HasTooMany bytes count) r in
        let same : length t.2.1.1.0 ≡ length a.records = ap length (one t.0 t.2.1.1.0 a.records t.2.1.1.1 t.1.1) in
        absurd (omega (arith, t.2.1.0, same, t.2.1.1.2, a.few))
    not_refused (refused.Record code number) r =
        never (stepping o.table) (fresh_tracks o.tracks) stations a.records a.kept (made.Refused code number) a.are_kept
        (subst (λ (rs : List (List ℕ)). RefusesRecord (stepping o.table) (fresh_tracks o.tracks) stations rs code number) (same_records r.0 r.1) r.2)
    not_refused (refused.NotApplied place) r =
        never (stepping o.table) (fresh_tracks o.tracks) stations a.records a.kept (made.NotApplied place) a.are_kept
        (subst (λ (rs : List (List ℕ)). RefusesEntry (stepping o.table) (fresh_tracks o.tracks) stations rs place) (same_records r.0 r.1) r.2)

  pub accepted : AcceptedAreNotRefused
  accepted o stations name before after refusal a r = not_refused o stations name before after a refusal r
