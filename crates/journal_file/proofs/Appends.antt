-- The two writes of an append, as told.
use Rattle.std.proofs.Common.{◌≡◌, ⊎_elim, inl, inr, ℕ, ◌+◌, ◌≤◌, List, [], ◌∷◌, ◌++◌, length, Option, Some}
use Rattle.std.proofs.Common.{None, ◌∙◌, ap, subst, arith, IfSome}
use Rattle.std.proofs.lemmas.Bool.{cases_eq}
use Rattle.journal_file.specs.declared.stage.Stage.TheVariants.{Settled, Staging, Opening}
use Rattle.room_disks.specs.Crashes.{Range, Course, Torn, settled, IsImage, Within, Told, Since, TurnedFrom}
use Rattle.room_disks.specs.Crashes.{AtMost, written}
use Rattle.std.specs.List.{AllByRecursion}
use Rattle.journal_file.specs.Layout.{IsLine, Kept, front_of}
use Rattle.journal_file.specs.Stages.{IsClosed, Stands, IsAppended, IsEither}
use Rattle.journal_file.proofs.Files.{kept_behind}
use Rattle.journal_file.proofs.Moments.{told_then, told_from, told_now, told_weaker, since_weaker}
use Rattle.journal_file.proofs.Moments.{since_then, calls_then}
use Rattle.journal_file.proofs.Frames.{torn_behind, left, written_behind, torn_gate, written_gate}
use Rattle.journal_file.proofs.Openings.{only_settled}

-- what a read gives is an image
abbrev pub Honest : Course → Type 0
Honest c = IsImage c.now c.now.reads

module _ (lines : List (List ℕ)) (piece : List ℕ) (at : ℕ) (place : at ≡ length (front_of lines)) where
  staged : (o : Course) (h : Stands Staging lines piece o) (x : List ℕ)
      → TurnedFrom (Range (at + 1) (length piece)) o x
      → (rest : List ℕ) × (x ≡ front_of lines ++ h.0 ∷ rest)
  staged o h x (before, was, torn) =
      let b = h.2 before was in
      torn_behind (front_of lines) at place h.0 (length piece) b.0 x
      (subst (λ xs. Torn (at + 1) (length piece) xs x) b.1 torn)

  pub staged_moments : (o n : Course) → Stands Staging lines piece o
      → Since (TurnedFrom (Range (at + 1) (length piece)) o) o n → Since (IsEither lines piece) o n
  staged_moments o n h s =
      since_weaker (TurnedFrom (Range (at + 1) (length piece)) o) (IsEither lines piece)
      (λ x t. let r = staged o h x t in inl (h.0, r.0, h.1, r.1)) o n s

  pub staged_err : (o n : Course) → Stands Staging lines piece o
      → Since (TurnedFrom (Range (at + 1) (length piece)) o) o n → Stands Staging lines piece n
  staged_err o n h s = (h.0, h.1, λ x i. staged o h x (s.here x i))

  pub stays_closed : AllByRecursion IsLine lines → (o n : Course) → IsClosed lines o
      → Since (TurnedFrom (Range (at + 1) (length piece)) o) o n → Since (λ x. Kept x lines) o n
  stays_closed all o n h s =
      since_weaker (TurnedFrom (Range (at + 1) (length piece)) o) (λ x. Kept x lines)
      (λ x t. let r = staged o h x t in kept_behind lines h.0 r.0 x all h.1 r.1) o n s

  pub staged_ok : (o n : Course) → Stands Staging lines piece o × Honest o
      → n.now ≡ settled (written (at + 1) piece o.now.reads) → Stands Opening lines piece n
  staged_ok o n (h, honest) is x i =
      let b = h.2 o.now.reads honest in (
        h.0,
        left (front_of lines) at place h.0 b.0 piece,
        only_settled (written (at + 1) piece o.now.reads) n.now is x i
            ∙ (ap (written (at + 1) piece) b.1 ∙ written_behind (front_of lines) at place h.0 b.0 piece),
      )

  opened : (o : Course) → Stands Opening lines piece o → (x : List ℕ) → TurnedFrom (Range at 1) o x → (gate : ℕ)
      × (rest : List ℕ) × (x ≡ front_of lines ++ gate ∷ (piece ++ rest))
  opened o h x (before, was, torn) =
      let b = h before was in
      let r = torn_gate (front_of lines) at place b.0 (piece ++ b.1) x (subst (λ xs. Torn at 1 xs x) b.2 torn) in
      (r.0, b.1, r.1)

  either : (x : List ℕ) (gate : ℕ) (rest : List ℕ) → x ≡ front_of lines ++ gate ∷ (piece ++ rest)
      → IsEither lines piece x
  either x gate rest e = ⊎_elim
      (λ (is : gate ≡ 43). inr (rest, e ∙ ap (λ g. front_of lines ++ g ∷ (piece ++ rest)) is))
      (λ not. inl (gate, piece ++ rest, not, e)) (cases_eq gate 43)

  pub opened_moments : (o n : Course) → Stands Opening lines piece o → Since (TurnedFrom (Range at 1) o) o n
      → Since (IsEither lines piece) o n
  opened_moments o n h s = since_weaker (TurnedFrom (Range at 1) o) (IsEither lines piece)
      (λ x t. let r = opened o h x t in either x r.0 r.1 r.2) o n s

  pub opened_err : (o n : Course) → Stands Opening lines piece o → Since (TurnedFrom (Range at 1) o) o n
      → Stands Opening lines piece n
  opened_err o n h s x i = opened o h x (s.here x i)

  pub opened_ok : (o n : Course) → Stands Opening lines piece o × Honest o
      → n.now ≡ settled (written at (43 ∷ []) o.now.reads) → IsAppended lines piece n
  opened_ok o n (h, honest) is x i =
      let b = h o.now.reads honest in (
        b.1,
        only_settled (written at (43 ∷ []) o.now.reads) n.now is x i
            ∙ (ap (written at (43 ∷ [])) b.2 ∙ written_gate (front_of lines) at place b.0 43 (piece ++ b.1)),
      )

  -- ---- the same as told

  both_of : (P Q : Course → Type 0) (a : Option Course) → IfSome a P → IfSome a Q → IfSome a (λ c. P c × Q c)
  both_of P Q None p q = tt
  both_of P Q (Some c) p q = (p, q)

  pub told_staging : (a : Option Course) → IfSome a (Stands Settled lines piece) → IfSome a (Stands Staging lines piece)
  told_staging a h = h

  module _ (a b : Option Course) where
    pub told_staged_moments : IfSome a (Stands Staging lines piece)
        → Told (λ o n. Since (TurnedFrom (Range (at + 1) (length piece)) o) o n) a b
        → Told (Since (IsEither lines piece)) a b
    told_staged_moments h s = told_from (Stands Staging lines piece)
        (λ o n. Since (TurnedFrom (Range (at + 1) (length piece)) o) o n) (Since (IsEither lines piece))
        staged_moments a b h s

    pub told_staged_err : IfSome a (Stands Staging lines piece)
        → Told (λ o n. Since (TurnedFrom (Range (at + 1) (length piece)) o) o n) a b
        → IfSome b (Stands Staging lines piece)
    told_staged_err h s = told_now (Stands Staging lines piece) (Stands Staging lines piece)
        (λ o n. Since (TurnedFrom (Range (at + 1) (length piece)) o) o n) staged_err a b h s

    pub told_stays_closed : AllByRecursion IsLine lines → IfSome a (IsClosed lines)
        → Told (λ o n. Since (TurnedFrom (Range (at + 1) (length piece)) o) o n) a b
        → Told (Since (λ x. Kept x lines)) a b
    told_stays_closed all h s = told_from (IsClosed lines)
        (λ o n. Since (TurnedFrom (Range (at + 1) (length piece)) o) o n) (Since (λ x. Kept x lines))
        (stays_closed all) a b h s

    pub told_staged_ok : IfSome a (Stands Staging lines piece) → IfSome a Honest
        → Told (λ o n. n.now ≡ settled (written (at + 1) piece o.now.reads)) a b
        → IfSome b (Stands Opening lines piece)
    told_staged_ok h honest s =
        told_now (λ c. Stands Staging lines piece c × Honest c) (Stands Opening lines piece)
        (λ o n. n.now ≡ settled (written (at + 1) piece o.now.reads)) staged_ok a b
        (both_of (Stands Staging lines piece) Honest a h honest) s

    pub told_opened_moments : IfSome a (Stands Opening lines piece) → Told (λ o n. Since (TurnedFrom (Range at 1) o) o n)
        a b → Told (Since (IsEither lines piece)) a b
    told_opened_moments h s = told_from (Stands Opening lines piece) (λ o n. Since (TurnedFrom (Range at 1) o) o n)
        (Since (IsEither lines piece)) opened_moments a b h s

    pub told_opened_err : IfSome a (Stands Opening lines piece) → Told (λ o n. Since (TurnedFrom (Range at 1) o) o n) a b
        → IfSome b (Stands Opening lines piece)
    told_opened_err h s = told_now (Stands Opening lines piece) (Stands Opening lines piece)
        (λ o n. Since (TurnedFrom (Range at 1) o) o n) opened_err a b h s

    pub told_opened_ok : IfSome a (Stands Opening lines piece) → IfSome a Honest
        → Told (λ o n. n.now ≡ settled (written at (43 ∷ []) o.now.reads)) a b → IfSome b (IsAppended lines piece)
    told_opened_ok h honest s =
        told_now (λ c. Stands Opening lines piece c × Honest c) (IsAppended lines piece)
        (λ o n. n.now ≡ settled (written at (43 ∷ []) o.now.reads)) opened_ok a b
        (both_of (Stands Opening lines piece) Honest a h honest) s

  pub told_since_then : (a b c : Option Course) → Told (Since (IsEither lines piece)) a b
      → Told (Since (IsEither lines piece)) b c → Told (Since (IsEither lines piece)) a c
  told_since_then a b c s t = told_then (Since (IsEither lines piece)) (Since (IsEither lines piece))
      (Since (IsEither lines piece)) (λ o m n x y. since_then (IsEither lines piece) o m n x y) a b c s t

pub told_calls : (j k : ℕ) (a b c : Option Course) → Told (AtMost j) a b → Told (AtMost k) b c
    → Told (AtMost (j + k)) a c
told_calls j k a b c s t = told_then (AtMost j) (AtMost k) (AtMost (j + k))
    (λ o m n x y. calls_then j k o m n x y) a b c s t

pub told_fewer : (j k : ℕ) (a b : Option Course) → j ≤ k → Told (AtMost j) a b → Told (AtMost k) a b
told_fewer j k a b le s = told_weaker (AtMost j) (AtMost k) (λ o n h. omega (arith, le, h)) a b s
