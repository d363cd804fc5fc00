-- What was written last under a name, looked for from the front.
use Rattle.std.proofs.Common.{◌≡◌, ℕ, ◌+◌, ◌<◌, ◌≤◌, Bool, true, false, List, ◌∷◌, take, drop, length, get_or, refl, sym, ap, ◌∙◌, arith, if◌then◌else◌}
use Rattle.std.specs.Str.{bytes_eq}
use Rattle.std.proofs.lemmas.List.{drop_more, length-drop}
use Rattle.room_files.specs.declared.written.Lengths.{Lengths}
use Rattle.room_files.specs.Files.{Content, Untold, Missing, Bytes, or_earlier, content_in}
use Rattle.room_files.specs.WrittenInside.{cut, names_length, bytes_length}

or_earlier-assoc : (a b c : Content) → or_earlier (or_earlier a b) c ≡ or_earlier a (or_earlier b c)
or_earlier-assoc Untold b c = refl
or_earlier-assoc Missing b c = refl
or_earlier-assoc (Bytes x) b c = refl

here : (b : Bool) (bytes : List ℕ) (found : Content) → or_earlier (if b then Bytes bytes else Missing) found ≡ (if b then Bytes bytes else found)
here true bytes found = refl
here false bytes found = refl

module _ (ls : List Lengths) (i : ℕ) (d : Lengths) (within : i < length ls) where
  lengths_from : drop i ls ≡ get_or ls i d ∷ drop (i + 1) ls
  lengths_from = drop_more ls i d within

  pub names_left : (names : List ℕ) → names_length (drop i ls) ≤ length names → names_length (drop (i + 1) ls) ≤ length (drop (get_or ls i d).name names)
  names_left names h =
      let e : names_length (drop i ls) ≡ (get_or ls i d).name + names_length (drop (i + 1) ls) = ap names_length lengths_from in
      omega (arith, h, e, length-drop (get_or ls i d).name names)

  pub bytes_left : (bytes : List ℕ) → bytes_length (drop i ls) ≤ length bytes → bytes_length (drop (i + 1) ls) ≤ length (drop (get_or ls i d).bytes bytes)
  bytes_left bytes h =
      let e : bytes_length (drop i ls) ≡ (get_or ls i d).bytes + bytes_length (drop (i + 1) ls) = ap bytes_length lengths_from in
      omega (arith, h, e, length-drop (get_or ls i d).bytes bytes)

  -- one write more was looked at
  pub found_from : (names bytes name : List ℕ) (found : Content)
      → or_earlier (content_in (cut (drop (get_or ls i d).name names) (drop (get_or ls i d).bytes bytes) (drop (i + 1) ls)) name)
      (if bytes_eq (take (get_or ls i d).name names) name then Bytes (take (get_or ls i d).bytes bytes) else found)
      ≡ or_earlier (content_in (cut names bytes (drop i ls)) name) found
  found_from names bytes name found =
      let l : Lengths = get_or ls i d in
      let rest : Content = content_in (cut (drop l.name names) (drop l.bytes bytes) (drop (i + 1) ls)) name in
      let one : Content = if bytes_eq (take l.name names) name then Bytes (take l.bytes bytes) else Missing in
      sym (ap (λ k. or_earlier (content_in (cut names bytes k) name) found) lengths_from
      ∙ (or_earlier-assoc rest one found ∙ ap (or_earlier rest) (here (bytes_eq (take l.name names) name) (take l.bytes bytes) found)))
