-- What one call more does to the course of a file over memory.
use Rattle.std.proofs.Common.{◌≡◌, ℕ, List, [], ◌∷◌, ◌++◌, take, refl, sym, ◌∙◌, ap, subst, Option, Some, None}
use Rattle.std.proofs.Common.{option_map, map}
use Rattle.room_disks.specs.Crashes.{Change, Course, moved, settled, written, Told, Stays, Syncs as IsSync, Changes}
use Rattle.room_disks.specs.Crashes.{Writes, Cuts}
use Rattle.std.proofs.lemmas.List.{map-append}
use Rattle.room_disks.specs.declared.tape.DiskCall.{DiskCall}
use Rattle.room_disks.specs.Tapes.{Done, Looks, Puts, CutsTo, Syncs, Tape, after, played, course_of, held_by, with_call}
use Rattle.room_disks.specs.Tapes.{Adds}
use Rattle.room_disks.specs.TapesInside.{done_of, LeavesReads}

played_more : (calls : List Done) (c : Course) (call : Done) → played c (calls ++ call ∷ []) ≡ moved (played c calls)
    (after (played c calls).now call)
played_more [] c call = refl
played_more (x ∷ calls) c call = played_more calls (moved c (after c.now x)) call

pub course_more : (t : Tape) (call : Done) → course_of (with_call call t) ≡ moved (course_of t)
    (after (course_of t).now call)
course_more t call = played_more t.done (record { now = settled t.start; past = [] }) call

-- what holds of the courses of a tape and of the tape with one call more holds of what is told
told_more : (R : Course → Course → Type 0) (call : Done) → ((c : Course) → R c (moved c (after c.now call)))
    → (before after : Option Tape) → Adds call before after → Told R (option_map course_of before)
    (option_map course_of after)
told_more R call holds before None adds = tt
told_more R call holds None (Some t) adds = absurd adds
told_more R call holds (Some s) (Some t) adds = subst (λ (c : Course). R (course_of s) c)
    (sym (ap course_of adds ∙ course_more s call)) (holds (course_of s))

pub told_looks : (before after : Option Tape) → Adds Looks before after → Told Stays (option_map course_of before)
    (option_map course_of after)
told_looks = told_more Stays Looks (λ c. refl)

pub told_syncs : (before after : Option Tape) → Adds Syncs before after → Told IsSync (option_map course_of before)
    (option_map course_of after)
told_syncs = told_more IsSync Syncs (λ c. refl)

pub told_changes : (change : Change) (call : Done) → ((c : Course) → Changes change c (moved c (after c.now call)))
    → (before after : Option Tape) → Adds call before after → Told (Changes change) (option_map course_of before)
    (option_map course_of after)
told_changes change call holds = told_more (Changes change) call holds

pub told_puts : (at : ℕ) (bytes : List ℕ) (before after : Option Tape) → Adds (Puts at bytes) before after
    → Told (Writes at bytes) (option_map course_of before) (option_map course_of after)
told_puts at bytes = told_more (Writes at bytes) (Puts at bytes) (λ c. refl)

pub told_cuts : (len : ℕ) (before after : Option Tape) → Adds (CutsTo len) before after
    → Told (Cuts len) (option_map course_of before) (option_map course_of after)
told_cuts len = told_more (Cuts len) (CutsTo len) (λ c. refl)

-- ---- what the code holds

-- what is held after one call more
pub held_with : (start : List ℕ) (calls new : List DiskCall) (call : DiskCall) → new ≡ calls ++ call ∷ []
    → held_by (record { start = start; done = map done_of new }) ≡
    (after (course_of (record { start = start; done = map done_of calls })).now (done_of call)).reads
held_with start calls new call is =
    ap (λ (ds : List Done). held_by (record { start = start; done = ds }))
    (ap (map done_of) is ∙ map-append done_of calls (call ∷ []))
    ∙ ap (λ (c : Course). c.now.reads) (course_more (record { start = start; done = map done_of calls }) (done_of call))

pub still_held : (start bytes : List ℕ) (calls new : List DiskCall) (call : DiskCall) → new ≡ calls ++ call ∷ []
    → LeavesReads (done_of call)
    → bytes ≡ held_by (record { start = start; done = map done_of calls })
    → bytes ≡ held_by (record { start = start; done = map done_of new })
still_held start bytes calls new call is leaves held =
    held ∙ sym (held_with start calls new call is ∙ leaves (course_of
    (record { start = start; done = map done_of calls })).now)

pub held_written : (start bytes piece : List ℕ) (at : ℕ) (calls new : List DiskCall) (call : DiskCall) → new ≡ calls
    ++ call ∷ [] → done_of call ≡ Puts at piece
    → bytes ≡ held_by (record { start = start; done = map done_of calls }) → written at piece bytes ≡ held_by
    (record { start = start; done = map done_of new })
held_written start bytes piece at calls new call is puts held =
    ap (written at piece) held
    ∙ sym (held_with start calls new call is ∙ ap (λ (d : Done).
    (after (course_of (record { start = start; done = map done_of calls })).now d).reads) puts)

pub held_cut : (start bytes : List ℕ) (len : ℕ) (calls new : List DiskCall) (call : DiskCall) → new ≡ calls ++ call ∷ []
    → done_of call ≡ CutsTo len
    → bytes ≡ held_by (record { start = start; done = map done_of calls })
    → take len bytes ≡ held_by (record { start = start; done = map done_of new })
held_cut start bytes len calls new call is cuts held =
    ap (take len) held
    ∙ sym (held_with start calls new call is ∙ ap (λ (d : Done).
    (after (course_of (record { start = start; done = map done_of calls })).now d).reads) cuts)
