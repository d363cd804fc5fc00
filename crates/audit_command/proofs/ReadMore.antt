-- Files that are read one after another: one station's more, and why no more of them are read.
use Rattle.std.proofs.Common.{◌≡◌, ℕ, suc, ◌+◌, ◌<◌, inr, List, [], ◌∷◌, ◌++◌, Some, length, map, option_map, take, slice_get, get_or, refl, sym, ap, ◌∙◌, subst}
use Rattle.std.proofs.lemmas.List.{map-append, take_more, take-map}
use Rattle.std.proofs.lemmas.Option.{slice_get-get_or, slice_get-map}
use Rattle.command_files.proofs.Unchanged.{read_then}
use Rattle.command_files.specs.Unopened.{AreQuiet, OnlyRead}
use Rattle.command_words.specs.Records.{Named}
use Rattle.room_files.specs.Files.{Content, FilesTold, Untold, Missing, Bytes, FitsIn, IsLonger, IsUnchanged}
use Rattle.room_files.specs.declared.files.FileFault.{FileFault}
use Rattle.room_files.specs.declared.files.FileFault.TheVariants.{Failed, TooLarge, Memory}
use Rattle.room_ports.specs.Counts.{HasRisen}
use Rattle.audit_command.specs.Reads.{Reads, ReadsRecording, StopsAt, StopsAtOne, StopsReads, StopsRecording}
use Rattle.audit_command.specs.Recordings.{Recording}

-- ---- nothing is changed

unchanged_same : (c : Content) → IsUnchanged c c
unchanged_same Untold = tt
unchanged_same Missing = refl
unchanged_same (Bytes all) = refl

pub quiet_same : (old new : FilesTold) → new ≡ old → AreQuiet old new
quiet_same old new is = subst (λ (f : FilesTold). AreQuiet old f) (sym is) (((λ name. unchanged_same (old.file name)), refl), refl)

pub quiet_then : (a b c : FilesTold) → AreQuiet a b → AreQuiet b c → AreQuiet a c
quiet_then a b c x y = (read_then a b c x.0 y.0, y.1 ∙ x.1)

pub quiet_record : (old new : FilesTold) (n : Named) (r : Recording) → ReadsRecording old n r new → AreQuiet old new
quiet_record old new n r h = quiet_then old h.between new h.first h.second

pub quiet_reads : (old new : FilesTold) (ns : List Named) (rs : List Recording) → Reads old ns rs new → AreQuiet old new
quiet_reads old new [] [] h = quiet_same old new h
quiet_reads old new [] (r ∷ rs) h = absurd h
quiet_reads old new (n ∷ ns) [] h = absurd h
quiet_reads old new (n ∷ ns) (r ∷ rs) h =
    quiet_then old h.0 new (quiet_record old h.0 n r h.1) (quiet_reads h.0 new ns rs h.2)

pub read_length : (old new : FilesTold) (ns : List Named) (rs : List Recording) → Reads old ns rs new → length ns ≡ length rs
read_length old new [] [] h = refl
read_length old new [] (r ∷ rs) h = absurd h
read_length old new (n ∷ ns) [] h = absurd h
read_length old new (n ∷ ns) (r ∷ rs) h = ap (λ k. suc k) (read_length h.0 new ns rs h.2)

-- ---- one more is read

pub reads_more : (old there new : FilesTold) (ns : List Named) (rs : List Recording) (n : Named) (r : Recording)
    → Reads old ns rs there → ReadsRecording there n r new → Reads old (ns ++ n ∷ []) (rs ++ r ∷ []) new
reads_more old there new [] [] n r h one = (new, subst (λ (f : FilesTold). ReadsRecording f n r new) h one, refl)
reads_more old there new [] (q ∷ rs) n r h one = absurd h
reads_more old there new (m ∷ ns) [] n r h one = absurd h
reads_more old there new (m ∷ ns) (q ∷ rs) n r h one = (h.0, h.1, reads_more h.0 there new ns rs n r h.2 one)

-- ---- the next of some

module _ {A : Type 0} (name : A → Named) (all : List A) (index : ℕ) (d : A) (within : index < length all) where
  pub next_taken : map name (take (index + 1) all) ≡ map name (take index all) ++ name (get_or all index d) ∷ []
  next_taken = ap (map name) (take_more all index d within) ∙ map-append name (take index all) (get_or all index d ∷ [])

  -- the next is read
  pub reads_next : (old there new : FilesTold) (rs : List Recording) (r : Recording) → Reads old (map name (take index all)) rs there
      → ReadsRecording there (name (get_or all index d)) r new → Reads old (map name (take (index + 1) all)) (rs ++ r ∷ []) new
  reads_next old there new rs r read one =
      subst (λ ns. Reads old ns (rs ++ r ∷ []) new) (sym next_taken)
      (reads_more old there new (map name (take index all)) rs (name (get_or all index d)) r read one)

  next_there : slice_get (map name all) index ≡ Some (name (get_or all index d))
  next_there = slice_get-map name all index ∙ ap (option_map name) (slice_get-get_or all index d within)

  stops_at : (So : Content → ℕ → Type 0) (old there new : FilesTold) (rs : List Recording)
      → Reads old (map name (take index all)) rs there → StopsAtOne So there (name (get_or all index d)) new
      → OnlyRead there new → StopsAt So old (map name all) new
  stops_at So old there new rs read stop same = record {
    count = index;
    rs = rs;
    there = there;
    n = name (get_or all index d);
    read = subst (λ ns. Reads old ns rs there) (sym (take-map name index all)) read;
    at = next_there;
    stop = stop;
    rest = same;
  }

  -- why the next is not read
  pub stops_next : (old there new : FilesTold) (rs : List Recording) (fault : FileFault)
      → Reads old (map name (take index all)) rs there → StopsRecording there (name (get_or all index d)) fault new
      → OnlyRead there new → StopsReads old (map name all) fault new
  stops_next old there new rs Failed read stop same = subst (λ (n : ℕ). HasRisen n new.reads) (quiet_reads old there (map name (take index all)) rs read).1 stop
  stops_next old there new rs TooLarge read stop same =
      (stop.0 ∙ (quiet_reads old there (map name (take index all)) rs read).1, stops_at IsLonger old there new rs read stop.1 same)
  stops_next old there new rs Memory read stop same =
      (stop.0 ∙ (quiet_reads old there (map name (take index all)) rs read).1, inr (stops_at FitsIn old there new rs read stop.1 same))
