-- A place found among the ends of runs.
use Rattle.std.proofs.Common.{◌≡◌, ℕ, zero, suc, ◌+◌, ◌-◌, ◌<◌, ◌≤◌, List, [], ◌∷◌, ◌++◌, Option, Some, None, length, get_or, drop, slice_get, slice_index_or, refl, sym, ap, ◌∙◌, arith, subst, append_assoc}
use Rattle.std.proofs.lemmas.List.{append-nil, length-append}
use Rattle.std.proofs.Math.ListN.{drop_of_length-le}
use Rattle.frame_meaning.specs.declared.frames.Frame.{Frame}
use Rattle.frame_meaning.specs.declared.frames.Run.{Run}
use Rattle.frame_meaning.specs.RunFrames.{run_frames}
use Rattle.flatten.specs.Ends.{begin_of, ends_of}
use Rattle.flatten.specs.Strips.{BehindSome, frames_of}
use Rattle.flatten.proofs.Moving.{drop_past, length-from}
use Rattle.flatten.proofs.Over.{drop_at}

-- ends and beginnings

pub begin_behind : (at : ℕ) (es : List ℕ) (i : ℕ) (d : ℕ) → i < length es → begin_of at es (i + 1) ≡ get_or es i d
begin_behind at es i d h = let past : i + 1 ≡ suc i = omega arith in ap (begin_of at es) past ∙ one_more at es i d h where
  one_more : (at : ℕ) (es : List ℕ) (i : ℕ) (d : ℕ) → i < length es → begin_of at es (suc i) ≡ get_or es i d
  one_more at [] i d h = absurd (omega arith)
  one_more at (e ∷ es) zero d h = refl
  one_more at (e ∷ es) (suc i) d h = one_more e es i d (omega arith)

pub begin_before : (es : List ℕ) (i : ℕ) → 0 < i → i ≤ length es → get_or es (i - 1) 0 ≡ begin_of 0 es i
begin_before es i h l =
    let less : i - 1 < length es = omega (arith, h, l) in
    let same : i - 1 + 1 ≡ i = omega (arith, h) in
    sym (begin_behind 0 es (i - 1) 0 less) ∙ ap (begin_of 0 es) same

pub length_ends : (at : ℕ) (rs : List (Run ℕ)) → length (ends_of at rs) ≡ length rs
length_ends at [] = refl
length_ends at (r ∷ rs) = ap suc (length_ends (at + r.len) rs)

begin_later : (at : ℕ) (rs : List (Run ℕ)) (i : ℕ) → at ≤ begin_of at (ends_of at rs) i
begin_later at rs zero = omega arith
begin_later at [] (suc i) = omega arith
begin_later at (r ∷ rs) (suc i) = omega (arith, begin_later (at + r.len) rs i)

-- the frames from a place on

drop_none : (n : ℕ) → ◌≡◌ {A = List (Frame ℕ)} (drop n []) []
drop_none zero = refl
drop_none (suc n) = refl

pub drop_to : (at : ℕ) (rs : List (Run ℕ)) (place i used : ℕ) → begin_of at (ends_of at rs) i + used ≡ at + place → drop place (frames_of rs) ≡ drop used (frames_of (drop i rs))
drop_to at rs place zero used e = let same : place ≡ used = omega (arith, e) in ap (λ (n : ℕ). drop n (frames_of rs)) same
drop_to at [] place (suc i) used e = drop_none place ∙ sym (drop_none used)
drop_to at (r ∷ rs) place (suc i) used e =
    let later : at + r.len ≤ begin_of (at + r.len) (ends_of (at + r.len) rs) i = begin_later (at + r.len) rs i in
    let within : r.len ≤ place = omega (arith, e, later) in
    let rest : begin_of (at + r.len) (ends_of (at + r.len) rs) i + used ≡ at + r.len + (place - r.len) = omega (arith, e, within) in
    drop_past r.frame r.len place (frames_of rs) within ∙ drop_to (at + r.len) rs (place - r.len) i used rest

-- the spot of a place

behind_some : (at : ℕ) (rs : List (Run ℕ)) (place i used : ℕ) → i < length rs → at + place < slice_index_or (ends_of at rs) i 0 → begin_of at (ends_of at rs) i + used ≡ at + place
    → BehindSome (slice_get rs i) used
behind_some at [] place i used h b e = absurd (omega arith)
behind_some at (r ∷ rs) place zero used h b e = omega (arith, b, e)
behind_some at (r ∷ rs) place (suc i) used h b e =
    let later : at + r.len ≤ begin_of (at + r.len) (ends_of (at + r.len) rs) i = begin_later (at + r.len) rs i in
    let within : r.len ≤ place = omega (arith, e, later) in
    let same : at + r.len + (place - r.len) ≡ at + place = omega (arith, within) in
    behind_some (at + r.len) rs (place - r.len) i used (omega arith) (omega (arith, same, b)) (omega (arith, same, e))

some_within : (rs : List (Run ℕ)) (i : ℕ) (r : Run ℕ) → slice_get rs i ≡ Some r → i < length rs
some_within [] i r h = absurd cc
some_within (q ∷ rs) zero r h = omega arith
some_within (q ∷ rs) (suc i) r h = omega (arith, some_within rs i r h)

none_past : (rs : List (Run ℕ)) (i : ℕ) → slice_get rs i ≡ None → length rs ≤ i
none_past [] i h = omega arith
none_past (q ∷ rs) zero h = absurd cc
none_past (q ∷ rs) (suc i) h = omega (arith, none_past rs i h)

-- a spot found among the ends of runs
pub record IsFound (es : List ℕ) (place i used : ℕ) : Type 0 where
  pub begun : begin_of 0 es i ≤ place
  pub behind : i < length es → place < slice_index_or es i 0
  pub used_there : i < length es → begin_of 0 es i + used ≡ place
  pub used_at_end : length es ≤ i → used ≡ 0

pub found_spot : (rs : List (Run ℕ)) (es : List ℕ) (place i used : ℕ) → es ≡ ends_of 0 rs → IsFound es place i used → BehindSome (slice_get rs i) used
found_spot rs es place i used is found = by_run (slice_get rs i) refl where
  f : IsFound (ends_of 0 rs) place i used
  f = subst (λ (x : List ℕ). IsFound x place i used) is found

  by_run : (o : Option (Run ℕ)) → slice_get rs i ≡ o → BehindSome o used
  by_run None e = f.used_at_end (omega (arith, length_ends 0 rs, none_past rs i e))
  by_run (Some r) e =
      let within : i < length rs = some_within rs i r e in
      let there : i < length (ends_of 0 rs) = omega (arith, length_ends 0 rs, within) in
      subst (λ (p : Option (Run ℕ)). BehindSome p used) e
      (behind_some 0 rs place i used within (omega (arith, f.behind there)) (omega (arith, f.used_there there)))

pub found_frames : (rs : List (Run ℕ)) (es : List ℕ) (place i used : ℕ) → es ≡ ends_of 0 rs → IsFound es place i used → drop used (frames_of (drop i rs)) ≡ drop place (frames_of rs)
found_frames rs es place i used is found = by_run (slice_get rs i) refl where
  f : IsFound (ends_of 0 rs) place i used
  f = subst (λ (x : List ℕ). IsFound x place i used) is found

  by_run : (o : Option (Run ℕ)) → slice_get rs i ≡ o → drop used (frames_of (drop i rs)) ≡ drop place (frames_of rs)
  by_run None e =
      let left : ℕ = place - begin_of 0 (ends_of 0 rs) i in
      let all : begin_of 0 (ends_of 0 rs) i + left ≡ 0 + place = omega (arith, f.begun) in
      let none : frames_of (drop i rs) ≡ [] = ap frames_of (drop_of_length-le rs (none_past rs i e)) in
      ap (drop used) none ∙ (drop_none used ∙ (sym (ap (drop left) none ∙ drop_none left) ∙ sym (drop_to 0 rs place i left all)))
  by_run (Some r) e =
      let there : i < length (ends_of 0 rs) = omega (arith, length_ends 0 rs, some_within rs i r e) in
      sym (drop_to 0 rs place i used (omega (arith, f.used_there there)))

-- the ends of runs, one by one

pub ends_more : (done new : List ℕ) (at : ℕ) (rs : List (Run ℕ)) (i : ℕ) (d : Run ℕ) (meant : List ℕ) → i < length rs → new ≡ done ++ ((at + (get_or rs i d).len) ∷ [])
    → done ++ ends_of at (drop i rs) ≡ meant → new ++ ends_of (at + (get_or rs i d).len) (drop (i + 1) rs) ≡ meant
ends_more done new at rs i d meant h pushed same =
    let e : ℕ = at + (get_or rs i d).len in
    let past : i + 1 ≡ suc i = omega arith in
    ap (λ (xs : List ℕ). xs ++ ends_of e (drop (i + 1) rs)) pushed
    ∙ (append_assoc done (e ∷ []) (ends_of e (drop (i + 1) rs))
    ∙ (ap (λ (k : ℕ). done ++ e ∷ ends_of e (drop k rs)) past
    ∙ (sym (ap (λ (qs : List (Run ℕ)). done ++ ends_of at qs) (drop_at rs i d h)) ∙ same)))

pub frames_left : (at : ℕ) (rs : List (Run ℕ)) (i : ℕ) (d : Run ℕ) (all : ℕ) → i < length rs → at + length (frames_of (drop i rs)) ≡ all
    → at + (get_or rs i d).len + length (frames_of (drop (i + 1) rs)) ≡ all
frames_left at rs i d all h same =
    let r : Run ℕ = get_or rs i d in
    let past : i + 1 ≡ suc i = omega arith in
    omega (
      arith,
      same,
      ap (λ (qs : List (Run ℕ)). length (frames_of qs)) (drop_at rs i d h),
      length-append (run_frames r) (frames_of (drop (suc i) rs)),
      length-from r.frame r.len,
      ap (λ (k : ℕ). length (frames_of (drop k rs))) past,
    )

pub ends_last : (done : List ℕ) (at : ℕ) (rs : List (Run ℕ)) (i : ℕ) (meant : List ℕ) → length rs ≤ i → done ++ ends_of at (drop i rs) ≡ meant → done ≡ meant
ends_last done at rs i meant h same =
    sym (append-nil done) ∙ (sym (ap (λ (qs : List (Run ℕ)). done ++ ends_of at qs) (drop_of_length-le rs h)) ∙ same)
