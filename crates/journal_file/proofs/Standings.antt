-- An open file stands for the lines that its disk has, before an append and after it.
use Rattle.std.proofs.Common.{◌≡◌, ◌≢◌, ⊎_elim, inl, inr, ℕ, ◌+◌, ◌*◌, ◌^◌, ◌<◌, ◌≤◌, List, [], ◌∷◌, ◌++◌, length}
use Rattle.std.proofs.Common.{drop, Option, Some, None, refl, sym, ◌∙◌, ap, subst, arith, IfSome, IsSome, true≢false, length-append}
use Rattle.std.specs.Option.{IsSomeAnd}
use Rattle.std.specs.List.{AllByRecursion}
use Rattle.std.proofs.lemmas.Bool.{cases_eq}
use Rattle.std.proofs.lemmas.List.{append_cancel_right}
use Rattle.std.proofs.lemmas.Option.{none-some}
use Rattle.journal_file.specs.declared.stage.Stage.{Stage}
use Rattle.journal_file.specs.declared.stage.Stage.TheVariants.{Settled, Staging, Opening}
use Rattle.room_disks.specs.Crashes.{Course, Within, Told, Since, AtMost}
use Rattle.journal_file.specs.Layout.{IsLine, Kept, record_of, records_of, front_of}
use Rattle.journal_file.specs.Standing.{HoldsLines}
use Rattle.journal_file.specs.Batches.{piece_of}
use Rattle.journal_file.specs.Stages.{IsClosed, Stands, IsFiled, Fits, IsHeld, pending_of, IsAppended, IsEither}
use Rattle.journal_file.proofs.Moments.{since_weaker, told_weaker}
use Rattle.journal_file.proofs.Appends.{Honest}
use Rattle.journal_file.proofs.Files.{kept_behind, either_holds, same_kept, length-front, length-record, front_more_before}
use Rattle.journal_file.proofs.Files.{length-front_more, open_gate}
use Rattle.journal_file.proofs.Lines.{all_append}

-- ---- sizes

records_short : (lines : List (List ℕ)) → AllByRecursion IsLine lines → length (records_of lines) ≤ 1026 * length lines
records_short [] all = omega arith
records_short (l ∷ ls) all = let m = all.0.most in omega (
  arith,
  m,
  records_short ls all.1,
  length-append (record_of l)
      (records_of ls),
  length-record l,
)

one_less : (x : ℕ) (xs : List ℕ) → length (drop 1 (x ∷ xs) ++ 45 ∷ []) ≡ length (x ∷ xs)
one_less x xs = omega (arith, length-append xs (45 ∷ []))

pub length_piece : (batch : List (List ℕ)) → 0 < length batch → length (piece_of batch) ≡ length (records_of batch)
length_piece [] some = absurd (omega (arith, some))
length_piece (l ∷ ls) some = one_less 43 ((l ++ 10 ∷ []) ++ records_of ls)

pub front_short : (lines : List (List ℕ)) → AllByRecursion IsLine lines
    → length (front_of lines) ≤ 18 + 1026 * length lines
front_short lines all = omega (arith, records_short lines all, length-front lines)

-- ---- the pending lines

pub is_held : (s : Stage) (count : ℕ) (batch : List (List ℕ)) → Fits count batch → IsHeld s count batch
is_held Settled count batch is = tt
is_held Staging count batch is = is
is_held Opening count batch is = is

pub is_pending : (s : Stage) (batch : List (List ℕ)) → s ≢ Settled → pending_of s batch ≡ Some batch
is_pending Settled batch not = absurd (not refl)
is_pending Staging batch not = refl
is_pending Opening batch not = refl

pub own_pending : (s : Stage) (batch : List (List ℕ)) → IfSome (pending_of s batch) (λ p. p ≡ batch)
own_pending Settled batch = tt
own_pending Staging batch = refl
own_pending Opening batch = refl

pub some_pending : (s : Stage) (batch : List (List ℕ)) → IsSome (pending_of s batch) → pending_of s batch ≡ Some batch
some_pending Settled batch some = absurd (true≢false (sym some))
some_pending Staging batch some = refl
some_pending Opening batch some = refl

pub fits_pending : (s : Stage) (count : ℕ) (batch : List (List ℕ)) → IsSome (pending_of s batch) → IsHeld s count batch
    → Fits count batch
fits_pending Settled count batch some held = absurd (true≢false (sym some))
fits_pending Staging count batch some held = held
fits_pending Opening count batch some held = held

-- the same lines again
restands : (s : Stage) (lines old new : List (List ℕ)) (c : Course) → IfSome (pending_of s old) (λ p. p ≡ new)
    → Stands s lines (piece_of old) c → Stands s lines (piece_of new) c
restands Settled lines old new c same h = h
restands Staging lines old new c same h = h
restands Opening lines old new c same h = subst (λ b. Stands Opening lines (piece_of b) c) same h

told_again : (s : Stage) (lines old new : List (List ℕ)) (a : Option Course) → IfSome (pending_of s old) (λ p. p ≡ new)
    → IfSome a (Stands s lines (piece_of old)) → IfSome a (Stands s lines (piece_of new))
told_again s lines old new None same h = tt
told_again s lines old new (Some c) same h = restands s lines old new c same h

-- an open file that is to take these lines, or the same again
pub refiled : (a : Option Course) (lines : List (List ℕ)) (count gate : ℕ) (s : Stage) (old new : List (List ℕ))
    → IfSome (pending_of s old) (λ p. p ≡ new) → Fits count new → IsFiled a lines count gate s old
    → IsFiled a lines count gate s new
refiled a lines count gate s old new again is f = record {
  are_lines = f.are_lines;
  counts = f.counts;
  place = f.place;
  held = is_held s count new is;
  stands = told_again s lines old new a again f.stands;
}

-- the gate of a file that takes these lines
pub gate_room : (a : Option Course) (lines : List (List ℕ)) (count gate : ℕ) (s : Stage) (old batch : List (List ℕ))
    → IsFiled a lines count gate s old → Fits count batch → gate + length (piece_of batch) < 2 ^ 32
gate_room a lines count gate s old batch f is = omega (
  arith,
  f.place,
  front_short lines f.are_lines,
  f.counts,
  is.1,
  records_short batch is.0.0,
  length_piece batch is.0.1,
)

-- ---- what images hold

holds : (s : Stage) (lines batch : List (List ℕ)) (count : ℕ) (c : Course) → AllByRecursion IsLine lines
    → IsHeld s count batch → Stands s lines (piece_of batch) c → Within (HoldsLines (pending_of s batch) lines) c.now
holds Settled lines batch count c all held h x i = let r = h.2 x i in kept_behind lines h.0 r.0 x all h.1 r.1
holds Staging lines batch count c all held h x i = let r = h.2 x i in inl (kept_behind lines h.0 r.0 x all h.1 r.1)
holds Opening lines batch count c all held h x i =
    let r = h x i in
    either_holds lines batch x all held.0
    (⊎_elim (λ (is : r.0 ≡ 43). inr (r.1, r.2 ∙ ap (λ g. front_of lines ++ g ∷ (piece_of batch ++ r.1)) is))
    (λ not. inl (r.0, piece_of batch ++ r.1, not, r.2)) (cases_eq r.0 43))

known : (x : List ℕ) (batch ls ms : List (List ℕ)) → 0 < length batch → length ms ≡ length ls
    → HoldsLines (Some batch) ls x → HoldsLines (Some batch) ms x → ms ≡ ls
known x batch ls ms some len (inl a) (inl b) = same_kept x ms ls b a
known x batch ls ms some len (inl a) (inr b) = absurd (let e = ap length (same_kept x ls (ms ++ batch) a b) in
    omega (arith, len, e, length-append ms batch, some))
known x batch ls ms some len (inr a) (inl b) = absurd (let e = ap length (same_kept x (ls ++ batch) ms a b) in
    omega (arith, len, e, length-append ls batch, some))
known x batch ls ms some len (inr a) (inr b) = append_cancel_right ms ls batch
    (same_kept x (ms ++ batch) (ls ++ batch) b a)

known_by : (s : Stage) (x : List ℕ) (batch ls ms : List (List ℕ)) (count : ℕ) → IsHeld s count batch
    → length ms ≡ length ls → HoldsLines (pending_of s batch) ls x → HoldsLines (pending_of s batch) ms x → ms ≡ ls
known_by Settled x batch ls ms count held len a b = same_kept x ms ls b a
known_by Staging x batch ls ms count held len a b = known x batch ls ms held.0.1 len a b
known_by Opening x batch ls ms count held len a b = known x batch ls ms held.0.1 len a b

-- the lines for which a file stands are those of its images
same_standing : (s : Stage) (lines ms batch : List (List ℕ)) (count : ℕ) (c : Course) → AllByRecursion IsLine lines
    → IsHeld s count batch → Stands s lines (piece_of batch) c → Honest c → length ms ≡ length lines
    → Within (HoldsLines (pending_of s batch) ms) c.now → ms ≡ lines
same_standing s lines ms batch count c all held h honest len w =
    known_by s c.now.reads batch lines ms count held len (holds s lines batch count c all held h c.now.reads honest)
    (w c.now.reads honest)

-- what an open file has now
pub files_now : (a : Option Course) (lines : List (List ℕ)) (count gate : ℕ) (s : Stage) (batch : List (List ℕ))
    → IsFiled a lines count gate s batch → IfSome a (λ c. Within (HoldsLines (pending_of s batch) lines) c.now)
files_now None lines count gate s batch f = tt
files_now (Some c) lines count gate s batch f = holds s lines batch count c f.are_lines f.held f.stands

-- ---- before and after

-- What is so after a call of the lines of a file is so of those for which it stood before.
pub carried : (a b : Option Course) (lines ms : List (List ℕ)) (count gate : ℕ) (s : Stage) (old : List (List ℕ))
    (P : List (List ℕ) → Course → Type 0) → IsFiled a lines count gate s old → IfSome a Honest → Told (AtMost 4) a b
    → length ms ≡ count → IfSome a (λ c. Within (HoldsLines (pending_of s old) ms) c.now) → IfSome b (P lines)
    → IfSome b (P ms)
carried a None lines ms count gate s old P f honest calls len w p = tt
carried None (Some n) lines ms count gate s old P f honest calls len w p = absurd calls
carried (Some o) (Some n) lines ms count gate s old P f honest calls len w p =
    subst (λ (ls : List (List ℕ)). P ls n)
    (sym (same_standing s lines ms old count o f.are_lines f.held f.stands honest (len ∙ sym f.counts) w)) p

module _ (a b : Option Course) (lines ms old batch : List (List ℕ)) (count gate : ℕ) (s : Stage)
    (f : IsFiled a lines count gate s old) (honest : IfSome a Honest) (calls : Told (AtMost 4) a b)
    (len : length ms ≡ count) (w : IfSome a (λ c. Within (HoldsLines (pending_of s old) ms) c.now)) where
  pub stands_ok : (later place : ℕ) (t : Stage) → IsFiled b (lines ++ batch) later place t batch
      → IfSome b (λ c. Within (HoldsLines (pending_of t batch) (ms ++ batch)) c.now)
  stands_ok later place t new =
      carried a b lines ms count gate s old (λ ls c. Within (HoldsLines (pending_of t batch) (ls ++ batch)) c.now) f
      honest calls len w (files_now b (lines ++ batch) later place t batch new)

  pub stands_err : (later place : ℕ) (t : Stage) → IsFiled b lines later place t batch
      → IfSome b (λ c. Within (HoldsLines (pending_of t batch) ms) c.now)
  stands_err later place t new =
      carried a b lines ms count gate s old (λ ls c. Within (HoldsLines (pending_of t batch) ls) c.now) f honest calls
      len w (files_now b lines later place t batch new)

  pub stands_meanwhile : Told (Since (HoldsLines (Some batch) lines)) a b → Told (Since (HoldsLines (Some batch) ms)) a b
  stands_meanwhile since =
      carried a b lines ms count gate s old (λ ls n. IsSomeAnd a (λ o. Since (HoldsLines (Some batch) ls) o n)) f honest
      calls len w since

  pub stands_unchanged : Told (Since (λ x. Kept x lines)) a b → Told (Since (λ x. Kept x ms)) a b
  stands_unchanged since =
      carried a b lines ms count gate s old (λ ls n. IsSomeAnd a (λ o. Since (λ x. Kept x ls) o n)) f honest calls len w
      since

-- ---- a file that nothing is pending of

pub closed_now : (a : Option Course) (lines : List (List ℕ)) (count gate : ℕ) (s : Stage) (batch : List (List ℕ))
    → pending_of s batch ≡ None → IsFiled a lines count gate s batch → IfSome a (IsClosed lines)
closed_now a lines count gate Settled batch none f = f.stands
closed_now a lines count gate Staging batch none f = absurd (none-some batch (sym none))
closed_now a lines count gate Opening batch none f = absurd (none-some batch (sym none))

pub still_filed : (a b : Option Course) (lines : List (List ℕ)) (count gate : ℕ) (s : Stage) (batch : List (List ℕ))
    → pending_of s batch ≡ None → IsFiled a lines count gate s batch → IfSome b (IsClosed lines)
    → IsFiled b lines count gate s batch
still_filed a b lines count gate Settled batch none f now = record {
  are_lines = f.are_lines;
  counts = f.counts;
  place = f.place;
  held = tt;
  stands = now;
}
still_filed a b lines count gate Staging batch none f now = absurd (none-some batch (sym none))
still_filed a b lines count gate Opening batch none f now = absurd (none-some batch (sym none))

pub gate_short : (a : Option Course) (lines : List (List ℕ)) (count gate : ℕ) (s : Stage) (batch : List (List ℕ))
    → IsFiled a lines count gate s batch → count ≤ 100000 → gate + 1 < 2 ^ 32
gate_short a lines count gate s batch f few = omega (arith, f.place, front_short lines f.are_lines, f.counts, few)

-- ---- one append, as told

appended_now : (lines batch : List (List ℕ)) (c : Course) → 0 < length batch → IsAppended lines (piece_of batch) c
    → Stands Settled (lines ++ batch) (piece_of batch) c
appended_now lines batch c some h = (
  45,
  open_gate,
  λ x i. let r = h x i in (r.0, r.1 ∙ front_more_before lines batch r.0 some),
)

-- a settled file of more lines
stands_appended : (lines batch : List (List ℕ)) (b : Option Course) → 0 < length batch
    → IfSome b (IsAppended lines (piece_of batch)) → IfSome b (Stands Settled (lines ++ batch) (piece_of batch))
stands_appended lines batch None some h = tt
stands_appended lines batch (Some c) some h = appended_now lines batch c some h

module _ (a b : Option Course) (lines batch : List (List ℕ)) (count gate : ℕ) (s : Stage) (fits : Fits count batch)
    (f : IsFiled a lines count gate s batch) where
  pub filed_ok : (later place : ℕ) → later ≡ count + length batch → place ≡ gate + length (piece_of batch)
      → IfSome b (IsAppended lines (piece_of batch)) → IsFiled b (lines ++ batch) later place Settled batch
  filed_ok later place counted moved now = record {
    are_lines = all_append IsLine lines batch f.are_lines fits.0.0;
    counts = omega (arith, length-append lines batch, f.counts, counted);
    place = omega (arith, length-front_more lines batch fits.0.1, f.place, moved);
    held = tt;
    stands = stands_appended lines batch b fits.0.1 now;
  }

  pub filed_err : (t : Stage) → IfSome b (Stands t lines (piece_of batch)) → IsFiled b lines count gate t batch
  filed_err t now = record {
    are_lines = f.are_lines;
    counts = f.counts;
    place = f.place;
    held = is_held t count batch fits;
    stands = now;
  }

  pub filed_meanwhile : Told (Since (IsEither lines (piece_of batch))) a b
      → Told (Since (HoldsLines (Some batch) lines)) a b
  filed_meanwhile = told_weaker (Since (IsEither lines (piece_of batch))) (Since (HoldsLines (Some batch) lines))
      (λ o n. since_weaker (IsEither lines (piece_of batch)) (HoldsLines (Some batch) lines)
      (λ x e. either_holds lines batch x f.are_lines fits.0 e) o n) a b
