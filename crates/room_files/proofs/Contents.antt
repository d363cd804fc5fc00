-- What files hold after a write.
use Rattle.std.proofs.Common.{◌≡◌, ◌≢◌, ℕ, Bool, true, false, true≢false, List, [], ◌∷◌, ◌++◌, Option, Some, None, option_map, refl, sym, ap, ◌∙◌, subst, if◌then◌else◌}
use Rattle.std.specs.Str.{bytes_eq}
use Rattle.std.proofs.lemmas.Slice.Eq.{bytes_eq-Decides}
use Rattle.room_files.specs.Files.{Content, Untold, Missing, Bytes, IsWhole, IsUnchanged, OthersUnchanged, Keeps, KeepsWithin, or_earlier, or_empty, content_in, content_of, with_file}

last_is : (fs : List (List ℕ × List ℕ)) (name bytes : List ℕ)
    → content_in (fs ++ (name, bytes) ∷ []) name ≡ Bytes bytes
last_is [] name bytes = ap (λ (b : Bool). if b then Bytes bytes else Missing) ((bytes_eq-Decides name name).1 refl)
last_is (f ∷ fs) name bytes =
    ap (λ c. or_earlier c (if bytes_eq f.0 name then Bytes f.1 else Missing)) (last_is fs name bytes)

apart : (name other bytes : List ℕ) (b : Bool) → bytes_eq name other ≡ b → other ≢ name
    → (if b then Bytes bytes else Missing) ≡ Missing
apart name other bytes true e d = absurd (d (sym ((bytes_eq-Decides name other).0 e)))
apart name other bytes false e d = refl

other_stays : (fs : List (List ℕ × List ℕ)) (name bytes other : List ℕ) → other ≢ name
    → content_in (fs ++ (name, bytes) ∷ []) other ≡ content_in fs other
other_stays [] name bytes other d = apart name other bytes (bytes_eq name other) refl d
other_stays (f ∷ fs) name bytes other d =
    ap (λ c. or_earlier c (if bytes_eq f.0 other then Bytes f.1 else Missing)) (other_stays fs name bytes other d)

whole : (bytes : List ℕ) → IsWhole (Bytes bytes) bytes
whole bytes = refl

-- a content that is the same is unchanged
pub unchanged : (old new : Content) → new ≡ old → IsUnchanged old new
unchanged old Untold e = tt
unchanged old Missing e = sym e
unchanged old (Bytes all) e = sym e

-- the file that was written holds what was written
pub keeps-whole : (before after : Option (List (List ℕ × List ℕ))) (name bytes : List ℕ)
    → Keeps before after name bytes → IsWhole (content_of after name) bytes
keeps-whole before None name bytes h = tt
keeps-whole None (Some fs) name bytes h = absurd h
keeps-whole (Some old) (Some fs) name bytes h =
    subst (λ l. IsWhole (content_in l name) bytes) (sym h)
    (subst (λ c. IsWhole c bytes) (sym (last_is old name bytes)) (whole bytes))

-- and the others hold what they held
pub keeps-others : (before after : Option (List (List ℕ × List ℕ))) (name bytes : List ℕ)
    → Keeps before after name bytes → OthersUnchanged name (content_of before) (content_of after)
keeps-others before None name bytes h other d = tt
keeps-others None (Some fs) name bytes h other d = absurd h
keeps-others (Some old) (Some fs) name bytes h other d =
    unchanged (content_in old other) (content_in fs other) (ap (λ l. content_in l other) h ∙ other_stays old name bytes other d)

-- Files of which one more is put behind the others keep it.
pub put-keeps : (before after : Option (List (List ℕ × List ℕ))) (name bytes : List ℕ)
    → after ≡ option_map (with_file name bytes) before → Keeps before after name bytes
put-keeps None after name bytes e = subst (λ a. Keeps None a name bytes) (sym e) tt
put-keeps (Some old) after name bytes e = subst (λ a. Keeps (Some old) a name bytes) (sym e) refl

-- ---- where a name that was not written is an empty file

or_empty-whole : (c : Content) (bytes : List ℕ) → IsWhole c bytes → IsWhole (or_empty c) bytes
or_empty-whole Untold bytes h = tt
or_empty-whole Missing bytes h = absurd h
or_empty-whole (Bytes all) bytes h = h

or_empty-unchanged : (old new : Content) → IsUnchanged old new → IsUnchanged (or_empty old) (or_empty new)
or_empty-unchanged old Untold h = tt
or_empty-unchanged old Missing h = ap or_empty h
or_empty-unchanged old (Bytes all) h = ap or_empty h

is_told : Option (List (List ℕ × List ℕ)) → Bool
is_told None = false
is_told (Some fs) = true

some≢none : {fs : List (List ℕ × List ℕ)} → Some fs ≡ None → ⊥
unfolding is_told
some≢none e = true≢false (ap is_told e)

within-keeps : (room : ℕ) (before after : Option (List (List ℕ × List ℕ))) (name bytes : List ℕ)
    → KeepsWithin room before after name bytes → Keeps before after name bytes
within-keeps room before None name bytes h = tt
within-keeps room None (Some fs) name bytes h = absurd (some≢none h)
within-keeps room (Some old) (Some fs) name bytes h = h.0

pub within-whole : (room : ℕ) (before after : Option (List (List ℕ × List ℕ))) (name bytes : List ℕ)
    → KeepsWithin room before after name bytes → IsWhole (or_empty (content_of after name)) bytes
within-whole room before after name bytes h =
    or_empty-whole (content_of after name) bytes (keeps-whole before after name bytes (within-keeps room before after name bytes h))

pub within-others : (room : ℕ) (before after : Option (List (List ℕ × List ℕ))) (name bytes : List ℕ)
    → KeepsWithin room before after name bytes
    → OthersUnchanged name (λ n. or_empty (content_of before n)) (λ n. or_empty (content_of after n))
within-others room before after name bytes h other apart =
    or_empty-unchanged (content_of before other) (content_of after other)
    (keeps-others before after name bytes (within-keeps room before after name bytes h) other apart)
