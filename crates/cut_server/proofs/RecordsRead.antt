-- Files of recorded sessions that are told hold one recording each, and are not too long.
use Rattle.std.proofs.Common.{◌≡◌, ◌≢◌, ℕ, zero, suc, ◌≤◌, inl, inr, List, [], ◌∷◌, Some, None, length, take, slice_get, refl, sym, ap, ◌∙◌, subst, arith}
use Rattle.std.proofs.lemmas.Option.{same_Some, none-some}
use Rattle.command_files.specs.Ports.{Change}
use Rattle.command_words.specs.Records.{Named}
use Rattle.room_files.specs.Files.{Content, Untold, FilesTold, IsLonger, NoneChanged}
use Rattle.audit_command.specs.Reads.{HasLong, HoldsText, Reads, ReadsRecording, StopsAtOne}
use Rattle.audit_command.specs.Recordings.{Recording, recording_of}
use Rattle.audit_command.specs.declared.record_names.TheConstants.{MAX_LINES, MAX_REPLIES}
use Rattle.cut_server.proofs.ToldFiles.{none_changed_then, not_longer, same_bytes, same_content, stays, told_before}
use Rattle.cut_server.specs.Unhindered.{HoldRecords, HoldsRecord}

-- reading changes no file
pub reads_only : (old new : FilesTold) (ns : List Named) (rs : List Recording) → Reads old ns rs new → NoneChanged old.file new.file
reads_only old new [] [] reads = subst (λ (f : FilesTold). NoneChanged old.file f.file) (sym reads) (λ name. stays (old.file name))
reads_only old new [] (r ∷ rs) reads = absurd reads
reads_only old new (n ∷ ns) [] reads = absurd reads
reads_only old new (n ∷ ns) (r ∷ rs) (between, first, rest) =
    none_changed_then old.file first.between.file new.file first.first.0.0
    (none_changed_then first.between.file between.file new.file first.second.0.0 (reads_only between new ns rs rest))

-- what a command's files told before and tell after, and what they tell in between
module _ (files : Change FilesTold) (there : FilesTold) (first : NoneChanged files.before.file there.file) (last : NoneChanged there.file files.after.file) where
  -- a file that is told in the end has its bytes in between
  told_there : (name : List ℕ) → files.after.file name ≢ Untold → there.file name ≢ Untold
  told_there name told = told_before (there.file name) (files.after.file name) (last name) told

  held_there : (name : List ℕ) (most : ℕ) (text : List ℕ) → files.after.file name ≢ Untold → HoldsText (files.before.file name) most text → HoldsText (there.file name) most text
  held_there name most text told holds =
      subst (λ (c : Content). HoldsText c most text) (same_content (files.before.file name) (there.file name) (first name) (told_there name told)) holds

  pub one_text : (name : List ℕ) (most : ℕ) (a b : List ℕ) → files.after.file name ≢ Untold → HoldsText (files.before.file name) most a → HoldsText (there.file name) most b → b ≡ a
  one_text name most a b told holds there_holds =
      same_bytes (there.file name) b a (told_there name told) there_holds.0 (held_there name most a told holds).0

  pub none_longer : (name : List ℕ) (most : ℕ) (text : List ℕ) → files.after.file name ≢ Untold → HoldsText (files.before.file name) most text → IsLonger (there.file name) most → ⊥
  none_longer name most text told holds longer =
      let there_holds = held_there name most text told holds in
      not_longer (there.file name) text most (told_there name told) there_holds.0 there_holds.1 longer

-- what is read of files that hold recordings are these
pub same_recordings : (ns : List Named) (rs qs : List Recording) (files : Change FilesTold) (old new : FilesTold) → HoldRecords ns rs files → NoneChanged files.before.file old.file
    → Reads old ns qs new → NoneChanged new.file files.after.file → qs ≡ rs
same_recordings [] [] [] files old new holds first reads last = refl
same_recordings [] [] (q ∷ qs) files old new holds first reads last = absurd reads
same_recordings [] (r ∷ rs) qs files old new holds first reads last = absurd holds
same_recordings (n ∷ ns) [] qs files old new holds first reads last = absurd holds
same_recordings (n ∷ ns) (r ∷ rs) [] files old new holds first reads last = absurd reads
same_recordings (n ∷ ns) (r ∷ rs) (q ∷ qs) files old new (held, more) first (between, read, rest) last =
    let after : NoneChanged between.file files.after.file = none_changed_then between.file new.file files.after.file (reads_only between new ns qs rest) last in
    let middle : NoneChanged read.between.file files.after.file = none_changed_then read.between.file between.file files.after.file read.second.0.0 after in
    let whole : NoneChanged old.file files.after.file = none_changed_then old.file read.between.file files.after.file read.first.0.0 middle in
    let to_middle : NoneChanged files.before.file read.between.file = none_changed_then files.before.file old.file read.between.file first read.first.0.0 in
    let to_between : NoneChanged files.before.file between.file = none_changed_then files.before.file read.between.file between.file to_middle read.second.0.0 in
    let sent : read.sent ≡ held.sent = one_text files old first whole n.lines MAX_LINES held.sent read.sent held.lines_told held.lines read.lines in
    let got : read.got ≡ held.got = one_text files read.between to_middle middle n.replies MAX_REPLIES held.got read.got held.replies_told held.replies read.replies in
    let one : q ≡ r = read.recording_is ∙ (ap (λ (s : List ℕ). recording_of s read.got n.cut) sent ∙ (ap (λ (g : List ℕ). recording_of held.sent g n.cut) got ∙ sym held.recording_is)) in
    let others : qs ≡ rs = same_recordings ns rs qs files between new more to_between rest last in
    ap (λ (x : Recording). x ∷ qs) one ∙ ap (λ (xs : List Recording). r ∷ xs) others

-- each of the files holds a text
held_at : (ns : List Named) (rs : List Recording) (files : Change FilesTold) (k : ℕ) (n : Named) → HoldRecords ns rs files → slice_get ns k ≡ Some n → (r : Recording) × HoldsRecord n r files
held_at [] rs files k n holds at = absurd (none-some n at)
held_at (m ∷ ns) [] files k n holds at = absurd holds
held_at (m ∷ ns) (r ∷ rs) files zero n holds at = subst (λ (x : Named). (q : Recording) × HoldsRecord x q files) (same_Some m n at) (r, holds.0)
held_at (m ∷ ns) (r ∷ rs) files (suc k) n holds at = held_at ns rs files k n holds.1 at

-- and none is too long
pub none_too_long : (ns : List Named) (rs : List Recording) (files : Change FilesTold) (old new : FilesTold) → HoldRecords ns rs files → NoneChanged files.before.file old.file
    → NoneChanged new.file files.after.file → HasLong old ns new → ⊥
none_too_long ns rs files old new holds first last long =
    let held = held_at ns rs files long.count long.n holds long.at in
    let to_there : NoneChanged files.before.file long.there.file = none_changed_then files.before.file old.file long.there.file first (reads_only old long.there (take long.count ns) long.rs long.read) in
    let whole : NoneChanged long.there.file files.after.file = none_changed_then long.there.file new.file files.after.file long.rest.0 last in
    at held.0 held.1 to_there whole long.stop
  where
    at : (r : Recording) → HoldsRecord long.n r files → NoneChanged files.before.file long.there.file → NoneChanged long.there.file files.after.file → StopsAtOne IsLonger long.there long.n new → ⊥
    at r h to from (inl lines) = none_longer files long.there to from long.n.lines MAX_LINES h.sent h.lines_told h.lines lines
    at r h to from (inr stops) =
        none_longer files stops.between (none_changed_then files.before.file long.there.file stops.between.file to stops.first.0.0)
        (none_changed_then stops.between.file new.file files.after.file stops.rest.0 last) long.n.replies MAX_REPLIES h.got h.replies_told h.replies stops.replies
