-- What was written, cut out of all names and all bytes.
use Rattle.std.proofs.Common.{◌≡◌, ℕ, ◌+◌, ◌<◌, ◌≤◌, true, false, true≢false, List, [], ◌∷◌, ◌++◌, Option, Some, None, option_map, take, drop, length, refl, sym, ap, subst, ◌∙◌, arith}
use Rattle.std.proofs.lemmas.List.{length-drop, length-take-le, take-append-le, drop-append-le}
use Rattle.std.proofs.Math.Seq.{take-length}
use Rattle.room_files.specs.declared.written.Lengths.{Lengths}
use Rattle.room_files.specs.Files.{FitsWithin, KeepsWithin, all_names, all_bytes, with_file}
use Rattle.room_files.specs.declared.written.Written.{Written}
use Rattle.room_files.specs.WrittenInside.{IsKept, HasRoom, cut, files_of, names_length, bytes_length}

cut-count : (n b : List ℕ) (ls : List Lengths) → length (cut n b ls) ≡ length ls
cut-count n b [] = refl
cut-count n b (l ∷ ls) = let e = cut-count (drop l.name n) (drop l.bytes b) ls in omega (arith, e)

cut-names : (n b : List ℕ) (ls : List Lengths) → names_length ls ≤ length n → all_names (cut n b ls) ≡ names_length ls
cut-names n b [] h = refl
cut-names n b (l ∷ ls) h =
    let here : length (take l.name n) ≡ l.name = length-take-le l.name n (omega (arith, h)) in
    let left : names_length ls ≤ length (drop l.name n) = omega (arith, h, length-drop l.name n) in
    let rest = cut-names (drop l.name n) (drop l.bytes b) ls left in omega (arith, here, rest)

cut-bytes : (n b : List ℕ) (ls : List Lengths) → bytes_length ls ≤ length b → all_bytes (cut n b ls) ≡ bytes_length ls
cut-bytes n b [] h = refl
cut-bytes n b (l ∷ ls) h =
    let here : length (take l.bytes b) ≡ l.bytes = length-take-le l.bytes b (omega (arith, h)) in
    let left : bytes_length ls ≤ length (drop l.bytes b) = omega (arith, h, length-drop l.bytes b) in
    let rest = cut-bytes (drop l.name n) (drop l.bytes b) ls left in omega (arith, here, rest)

-- one write more is cut out behind the others
pub cut-add : (n b name new : List ℕ) (ls : List Lengths) (last : Lengths)
    → names_length ls ≡ length n → bytes_length ls ≡ length b → last.name ≡ length name → last.bytes ≡ length new
    → cut (n ++ name) (b ++ new) (ls ++ last ∷ []) ≡ with_file name new (cut n b ls)
cut-add [] [] name new [] last e f g h =
    let t : take last.name name ≡ name = ap (λ k. take k name) g ∙ take-length name in
    let u : take last.bytes new ≡ new = ap (λ k. take k new) h ∙ take-length new in
    ap (λ x. (x, take last.bytes new) ∷ []) t ∙ ap (λ y. (name, y) ∷ []) u
cut-add [] (y ∷ b) name new [] last e f g h = absurd (omega (arith, f))
cut-add (x ∷ n) b name new [] last e f g h = absurd (omega (arith, e))
cut-add n b name new (l ∷ ls) last e f g h =
    let tn = take-append-le l.name n name (omega (arith, e)) in
    let tb = take-append-le l.bytes b new (omega (arith, f)) in
    let dn = drop-append-le l.name n name (omega (arith, e)) in
    let db = drop-append-le l.bytes b new (omega (arith, f)) in
    let rest = cut-add (drop l.name n) (drop l.bytes b) name new ls last
    (omega (arith, e, length-drop l.name n)) (omega (arith, f, length-drop l.bytes b)) g h in
    rw (tn, tb, dn, db) (ap (λ fs. (take l.name n, take l.bytes b) ∷ fs) rest)

count-add : (fs : List (List ℕ × List ℕ)) (name new : List ℕ) → length (with_file name new fs) ≡ length fs + 1
count-add [] name new = refl
count-add (f ∷ fs) name new = let e = count-add fs name new in omega (arith, e)

names-add : (fs : List (List ℕ × List ℕ)) (name new : List ℕ)
    → all_names (with_file name new fs) ≡ all_names fs + length name
names-add [] name new = omega arith
names-add (f ∷ fs) name new = let e = names-add fs name new in omega (arith, e)

bytes-add : (fs : List (List ℕ × List ℕ)) (name new : List ℕ)
    → all_bytes (with_file name new fs) ≡ all_bytes fs + length new
bytes-add [] name new = omega arith
bytes-add (f ∷ fs) name new = let e = bytes-add fs name new in omega (arith, e)

module _ (n b name new : List ℕ) (ls : List Lengths) (e : names_length ls ≡ length n) (f : bytes_length ls ≡ length b) where
  counts : length (with_file name new (cut n b ls)) ≡ length ls + 1
  counts = let a = count-add (cut n b ls) name new in let c = cut-count n b ls in omega (arith, a, c)

  names : all_names (with_file name new (cut n b ls)) ≡ length n + length name
  names = let a = names-add (cut n b ls) name new in let c = cut-names n b ls (omega (arith, e)) in omega (arith, a, c, e)

  bytes : all_bytes (with_file name new (cut n b ls)) ≡ length b + length new
  bytes = let a = bytes-add (cut n b ls) name new in let c = cut-bytes n b ls (omega (arith, f)) in omega (arith, a, c, f)

  -- it fits where there is room for it
  pub fits-more : (room : ℕ) → length ls < 64 → length n + length name ≤ 4096 → length b + length new ≤ room
      → FitsWithin room (with_file name new (cut n b ls))
  fits-more room few short within = record {
    writes = let k = counts in omega (arith, few, k);
    names = let k = names in omega (arith, short, k);
    bytes = let k = bytes in omega (arith, within, k);
  }

  -- and there is room where it fits
  pub fits-few : (room : ℕ) → FitsWithin room (with_file name new (cut n b ls)) → length ls < 64
  fits-few room fits = let k = counts in omega (arith, fits.writes, k)

  pub fits-short : (room : ℕ) → FitsWithin room (with_file name new (cut n b ls)) → length n + length name ≤ 4096
  fits-short room fits = let k = names in omega (arith, fits.names, k)

  pub fits-within : (room : ℕ) → FitsWithin room (with_file name new (cut n b ls)) → length b + length new ≤ room
  fits-within room fits = let k = bytes in omega (arith, fits.bytes, k)

-- the lengths with one more
pub names_length-add : (ls : List Lengths) (last : Lengths) → names_length (ls ++ last ∷ []) ≡ names_length ls + last.name
names_length-add [] last = omega arith
names_length-add (l ∷ ls) last = let e = names_length-add ls last in omega (arith, e)

pub bytes_length-add : (ls : List Lengths) (last : Lengths) → bytes_length (ls ++ last ∷ []) ≡ bytes_length ls + last.bytes
bytes_length-add [] last = omega arith
bytes_length-add (l ∷ ls) last = let e = bytes_length-add ls last in omega (arith, e)

-- there is room for what fits, and what there is room for fits
pub room_fits : (room : ℕ) (w : Written) (name bytes : List ℕ) → IsKept room w → HasRoom room w name bytes
    → FitsWithin room (with_file name bytes (files_of w))
room_fits room w name bytes kept has =
    fits-more w.names.items w.bytes.items name bytes w.lengths.items (kept.names ∙ w.names.ok.0) (kept.bytes ∙ w.bytes.ok.0) room
    (omega (arith, has.few, w.lengths.ok.0)) (omega (arith, has.short, w.names.ok.0)) (omega (arith, has.within, w.bytes.ok.0))

pub fits_room : (room : ℕ) (w : Written) (name bytes : List ℕ) → IsKept room w
    → FitsWithin room (with_file name bytes (files_of w)) → HasRoom room w name bytes
fits_room room w name bytes kept fits =
    let e = kept.names ∙ w.names.ok.0 in
    let f = kept.bytes ∙ w.bytes.ok.0 in
    let few = fits-few w.names.items w.bytes.items name bytes w.lengths.items e f room fits in
    let short = fits-short w.names.items w.bytes.items name bytes w.lengths.items e f room fits in
    let within = fits-within w.names.items w.bytes.items name bytes w.lengths.items e f room fits in record {
      few = omega (arith, few, w.lengths.ok.0);
      short = omega (arith, short, w.names.ok.0);
      within = omega (arith, within, w.bytes.ok.0);
    }

-- a write for which there is no room, and one for which there is
pub goes_untold : (room : ℕ) (before : Option Written) (w : Written) (name bytes : List ℕ) → before ≡ Some w → IsKept room w
    → (HasRoom room w name bytes → false ≡ true) → KeepsWithin room (option_map files_of before) None name bytes
goes_untold room before w name bytes is kept none =
    subst (λ b. KeepsWithin room (option_map files_of b) None name bytes) (sym is) (λ fits. true≢false (sym (none (fits_room room w name bytes kept fits))))

pub is_told_still : (room : ℕ) (before : Option Written) (w new : Written) (name bytes : List ℕ) → before ≡ Some w → IsKept room w
    → HasRoom room w name bytes → files_of new ≡ with_file name bytes (files_of w)
    → KeepsWithin room (option_map files_of before) (Some (files_of new)) name bytes
is_told_still room before w new name bytes is kept has added =
    subst (λ b. KeepsWithin room (option_map files_of b) (Some (files_of new)) name bytes) (sym is)
    (added, subst (λ files. FitsWithin room files) (sym added) (room_fits room w name bytes kept has))
