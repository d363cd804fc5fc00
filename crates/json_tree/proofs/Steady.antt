-- Readers that stop where no text goes on, and look no further than the byte they left: one behind the other, and changed.
use Rattle.std.proofs.Common.{◌≡◌, ℕ, suc, ◌+◌, ◌<◌, ◌⊎◌, List, [], ◌∷◌, ◌++◌, length, take, Result, Ok, Err, refl, sym, ap, subst, ◌∙◌, inl, inr, append_assoc, length-append, arith}
use Rattle.std.proofs.lemmas.List.{append_cancel_right}
use Rattle.json_tokens.specs.declared.fault.JsonFault.{JsonFault}
use Rattle.json_tokens.specs.declared.fault.JsonFault.TheVariants.{Syntax}
use Rattle.json_tokens.specs.Reading.{◌>>=◌, Read}
use Rattle.json_tokens.proofs.Stuck.{IsToldAt, Stuck, Alike}
use Rattle.json_tree.proofs.FaultMoves.{stuck_behind}
use Rattle.json_tokens.proofs.FirstBytes.{SameFirst, same_behind, same_some}
use Rattle.json_tokens.proofs.Tools.{bind_ok, ok_is}

abbrev pub Reader : Type 0 → Type 0
Reader X = ℕ → List ℕ → Read X

-- wherever the reader fails or leaves a byte
pub record Steady {X : Type 0} (read : Reader X) (Begin Deeper : List ℕ → Type 0) (at : ℕ) (bytes : List ℕ) : Type 0 where
  pub stuck : (e : JsonFault) → read at bytes ≡ Err e → Stuck read Begin Deeper at bytes e
  pub alike : (x : X) (after b : ℕ) (rest : List ℕ) → read at bytes ≡ Ok (x, after, b ∷ rest) → Alike read at bytes x after b rest

-- what begins so behind c
abbrev pub Behind : List ℕ → (List ℕ → Type 0) → List ℕ → Type 0
Behind c Begin w = Begin (c ++ w)

-- ---- steps that fail or do not

pub no_fault : {X : Type 0} (x : X) (e : JsonFault) → ◌≡◌ {A = Result X JsonFault} (Ok x) (Err e) → ⊥
no_fault x e h = cc

pub fault_is : {X : Type 0} (d e : JsonFault) → ◌≡◌ {A = Result X JsonFault} (Err d) (Err e) → d ≡ e
fault_is d e h = cc

pub bind_err : {A B : Type 0} (r : Result A JsonFault) (f : A → Result B JsonFault) (e : JsonFault) → (r >>= f) ≡ Err e → (r ≡ Err e) ⊎ ((x : A) × (r ≡ Ok x) × (f x ≡ Err e))
bind_err {A} {B} (Err d) f e h = inl (ap Err (fault_is {X = B} d e h))
bind_err (Ok x) f e h = inr (x, refl, h)

-- ---- the first byte

one_more : (b stop : ℕ) (bs more : List ℕ) → take (stop + 1) (b ∷ bs) ++ more ≡ b ∷ (take stop bs ++ more)
one_more b stop bs more =
    let n : stop + 1 ≡ suc stop = omega arith in
    ap (λ (k : ℕ). take k (b ∷ bs) ++ more) n

same_take : (rest : List ℕ) (stop : ℕ) (more : List ℕ) → stop < length rest → SameFirst rest (take (stop + 1) rest ++ more)
same_take [] stop more lt = absurd (omega (arith, lt))
same_take (b ∷ bs) stop more lt = subst (SameFirst (b ∷ bs)) (sym (one_more b stop bs more)) refl

-- ---- what was read is read again before other bytes

module _ {X : Type 0} (read : Reader X) (at : ℕ) (bytes front : List ℕ) (x : X) (middle : ℕ) (alike : (b : ℕ) (rest : List ℕ) → read at bytes ≡ Ok (x, middle, b ∷ rest) → Alike read at bytes x middle b rest) where
  reread : (rest others : List ℕ) → read at bytes ≡ Ok (x, middle, rest) → bytes ≡ front ++ rest → SameFirst rest others → read at (front ++ others) ≡ Ok (x, middle, others)
  reread [] [] e parts same = ap (read at) (sym parts) ∙ e
  reread [] (c ∷ cs) e parts same = absurd same
  reread (b ∷ bs) [] e parts same = absurd same
  reread (b ∷ bs) (c ∷ cs) e parts same =
      let a = alike b bs e in
      let f : a.front ≡ front = append_cancel_right a.front front (b ∷ bs) (sym a.parts ∙ parts) in
      subst (λ (d : ℕ). read at (front ++ d ∷ cs) ≡ Ok (x, middle, d ∷ cs)) same (subst (λ (l : List ℕ). read at (l ++ b ∷ cs) ≡ Ok (x, middle, b ∷ cs)) f (a.same cs))

-- ---- one reader behind the other

abbrev pub in_turn : {X Y : Type 0} → Reader X → (X → Reader Y) → Reader Y
in_turn first next at bytes = first at bytes >>= λ x. next x.0 x.1 x.2

-- what the first reader took, and the next behind it
pub record GoesOn {Y : Type 0} (next : Reader Y) (Begin Deeper : List ℕ → Type 0) (at : ℕ) (bytes : List ℕ) (middle : ℕ) (rest : List ℕ) : Type 0 where
  pub front : List ℕ
  pub parts : bytes ≡ front ++ rest
  pub place : middle ≡ at + length front
  pub steady : Steady next (Behind front Begin) (Behind front Deeper) middle rest

module _ {X Y : Type 0} (first : Reader X) (next : X → Reader Y) (Begin Deeper : List ℕ → Type 0) (at : ℕ) (bytes : List ℕ) (steady : Steady first Begin Deeper at bytes)
    (goes : (x : X × ℕ × List ℕ) → first at bytes ≡ Ok x → GoesOn (next x.0) Begin Deeper at bytes x.1 x.2) where
  abbrev turned : X × ℕ × List ℕ → Read Y
  turned x = next x.0 x.1 x.2

  stuck_first : (e : JsonFault) → first at bytes ≡ Err e → Stuck (in_turn first next) Begin Deeper at bytes e
  stuck_first e h =
      let s = steady.stuck e h in
      record { stop = s.stop; within = s.within; lawful = s.lawful; told = s.told; alike = λ lt more. ap (λ (r : Read X). r >>= λ x. next x.0 x.1 x.2) (s.alike lt more) }

  stuck_next : (x : X × ℕ × List ℕ) (e : JsonFault) → first at bytes ≡ Ok x → next x.0 x.1 x.2 ≡ Err e → Stuck (in_turn first next) Begin Deeper at bytes e
  stuck_next x e h k =
      let g = goes x h in
      let s = g.steady.stuck e k in
      stuck_behind (Behind g.front Begin) (Behind g.front Deeper) Begin Deeper g.front (λ w i. i) (λ w i. i) (next x.0) (in_turn first next) at x.1 bytes x.2 e g.parts g.place s
      (λ lt more.
      let others = take (s.stop + 1) x.2 ++ more in
      ap (λ (r : Read X). r >>= λ y. next y.0 y.1 y.2) (reread first at bytes g.front x.0 x.1 (steady.alike x.0 x.1) x.2 others h g.parts (same_take x.2 s.stop more lt)) ∙ s.alike lt more)

  alike_next : (x : X × ℕ × List ℕ) (y : Y) (after b : ℕ) (rest : List ℕ) → first at bytes ≡ Ok x → next x.0 x.1 x.2 ≡ Ok (y, after, b ∷ rest) → Alike (in_turn first next) at bytes y after b rest
  alike_next x y after b rest h k =
      let g = goes x h in
      let n = g.steady.alike y after b rest k in
      record {
        front = g.front ++ n.front;
        parts = g.parts ∙ ap (λ (l : List ℕ). g.front ++ l) n.parts ∙ sym (append_assoc g.front n.front (b ∷ rest));
        place = omega (arith, g.place, n.place, length-append g.front n.front);
        same = λ more.
            let others = n.front ++ b ∷ more in
            let same : SameFirst x.2 others = subst (λ (l : List ℕ). SameFirst l others) (sym n.parts) (same_behind n.front (b ∷ rest) (b ∷ more) refl) in
            ap (in_turn first next at) (append_assoc g.front n.front (b ∷ more))
            ∙ ap (λ (r : Read X). r >>= λ z. next z.0 z.1 z.2) (reread first at bytes g.front x.0 x.1 (steady.alike x.0 x.1) x.2 others h g.parts same)
            ∙ n.same more;
      }

  pub steady_in_turn : Steady (in_turn first next) Begin Deeper at bytes
  steady_in_turn = record {
    stuck = λ e h. elim (bind_err (first at bytes) turned e h) [ inl p ↦ stuck_first e p | inr p ↦ stuck_next p.0 e p.1 p.2 ];
    alike = λ y after b rest h. let p = bind_ok (first at bytes) turned (y, after, b ∷ rest) h in alike_next p.0 y after b rest p.1 p.2;
  }

-- ---- a reader whose value is changed

abbrev pub changed : {X Y : Type 0} → (X → Y) → Reader X → Reader Y
changed f read at bytes = read at bytes >>= λ x. Ok (f x.0, x.1, x.2)

module _ {X Y : Type 0} (f : X → Y) (read : Reader X) (Begin Deeper : List ℕ → Type 0) (at : ℕ) (bytes : List ℕ) (steady : Steady read Begin Deeper at bytes) where
  abbrev change : X × ℕ × List ℕ → Read Y
  change x = Ok (f x.0, x.1, x.2)

  stuck_changed : (e : JsonFault) → read at bytes ≡ Err e → Stuck (changed f read) Begin Deeper at bytes e
  stuck_changed e h =
      let s = steady.stuck e h in
      record { stop = s.stop; within = s.within; lawful = s.lawful; told = s.told; alike = λ lt more. ap (λ (r : Read X). r >>= λ x. Ok (f x.0, x.1, x.2)) (s.alike lt more) }

  alike_changed : (x : X × ℕ × List ℕ) (y : Y) (after b : ℕ) (rest : List ℕ) → read at bytes ≡ Ok x → ◌≡◌ {A = Y × ℕ × List ℕ} (f x.0, x.1, x.2) (y, after, b ∷ rest) → Alike (changed f read) at bytes y after b rest
  alike_changed x y after b rest h k =
      let found : read at bytes ≡ Ok (x.0, after, b ∷ rest) = h ∙ ap (λ (z : Y × ℕ × List ℕ). Ok (x.0, z.1, z.2)) k in
      let a = steady.alike x.0 after b rest found in
      record {
        front = a.front;
        parts = a.parts;
        place = a.place;
        same = λ more. ap (λ (r : Read X). r >>= λ z. Ok (f z.0, z.1, z.2)) (a.same more) ∙ ap (λ (z : Y × ℕ × List ℕ). Ok (z.0, after, b ∷ more)) k;
      }

  pub steady_changed : Steady (changed f read) Begin Deeper at bytes
  steady_changed = record {
    stuck = λ e h. elim (bind_err (read at bytes) change e h) [ inl p ↦ stuck_changed e p | inr p ↦ absurd (no_fault (f p.0.0, p.0.1, p.0.2) e p.2) ];
    alike = λ y after b rest h.
        let p = bind_ok (read at bytes) change (y, after, b ∷ rest) h in
        alike_changed p.0 y after b rest p.1 (ok_is (f p.0.0, p.0.1, p.0.2) (y, after, b ∷ rest) p.2);
  }

-- ---- the same reader in a wider context, or spelled in another way

module _ {X : Type 0} (read : Reader X) (Begin Deeper Begin' Deeper' : List ℕ → Type 0) (begins : (w : List ℕ) → Begin w → Begin' w) (deepens : (w : List ℕ) → Deeper w → Deeper' w) (at : ℕ) (bytes : List ℕ) where
  pub steady_in : Steady read Begin Deeper at bytes → Steady read Begin' Deeper' at bytes
  steady_in steady = record {
    stuck = λ e h.
        let s = steady.stuck e h in
        let zero_more : at ≡ at + length {A = ℕ} [] = omega arith in
        stuck_behind Begin Deeper Begin' Deeper' [] begins deepens read read at at bytes bytes e refl zero_more s s.alike;
    alike = steady.alike;
  }

module _ {X : Type 0} (read other : Reader X) (Begin Deeper : List ℕ → Type 0) (at b : ℕ) (same : (cs : List ℕ) → read at (b ∷ cs) ≡ other at (b ∷ cs)) where
  same_first : (bs bytes : List ℕ) → SameFirst (b ∷ bs) bytes → read at bytes ≡ other at bytes
  same_first bs bytes h = let f = same_some b bs bytes h in ap (read at) f.1 ∙ same f.0 ∙ sym (ap (other at) f.1)

  pub steady_as : (bs : List ℕ) → Steady read Begin Deeper at (b ∷ bs) → Steady other Begin Deeper at (b ∷ bs)
  steady_as bs steady = record {
    stuck = λ e h.
        let s = steady.stuck e (same bs ∙ h) in
        record { stop = s.stop; within = s.within; lawful = s.lawful; told = s.told; alike = λ lt more. sym (same_first bs (take (s.stop + 1) (b ∷ bs) ++ more) (same_take (b ∷ bs) s.stop more lt)) ∙ s.alike lt more };
    alike = λ x after c rest h.
        let a = steady.alike x after c rest (same bs ∙ h) in
        record {
          front = a.front;
          parts = a.parts;
          place = a.place;
          same = λ more. sym (same_first bs (a.front ++ c ∷ more) (subst (λ (l : List ℕ). SameFirst l (a.front ++ c ∷ more)) (sym a.parts) (same_behind a.front (c ∷ rest) (c ∷ more) refl))) ∙ a.same more;
        };
  }

-- ---- readers of one byte or none

module _ {X : Type 0} (read : Reader X) (Begin Deeper : List ℕ → Type 0) (at : ℕ) where
  -- stuck at once
  stuck_here : (bytes : List ℕ) (d e : JsonFault) → d ≡ e → Begin [] → IsToldAt Begin Deeper at bytes 0 d → (0 < length bytes → (more : List ℕ) → read at (take (0 + 1) bytes ++ more) ≡ Err d) → Stuck read Begin Deeper at bytes e
  stuck_here bytes d e same begins told alike =
      record { stop = 0; within = omega arith; lawful = inl begins; told = subst (IsToldAt Begin Deeper at bytes 0) same told; alike = λ lt more. alike lt more ∙ ap Err same }

  no_value : {A : Type 0} (d : JsonFault) (y : A) → ◌≡◌ {A = Result A JsonFault} (Err d) (Ok y) → ⊥
  no_value d y h = cc

  pub steady_end : read at [] ≡ Err (Syntax at) → Begin [] → Steady read Begin Deeper at []
  steady_end ends begins = record {
    stuck = λ e h. stuck_here [] (Syntax at) e (fault_is {X = X × ℕ × List ℕ} (Syntax at) e (sym ends ∙ h)) begins (inl (omega arith)) (λ lt more. absurd (omega (arith, lt)));
    alike = λ x after b rest h. absurd (no_value (Syntax at) (x, after, b ∷ rest) (sym ends ∙ h));
  }

  pub steady_refuses : (b : ℕ) (bs : List ℕ) (d : JsonFault) → ((cs : List ℕ) → read at (b ∷ cs) ≡ Err d) → Begin [] → IsToldAt Begin Deeper at (b ∷ bs) 0 d → Steady read Begin Deeper at (b ∷ bs)
  steady_refuses b bs d refuses begins told = record {
    stuck = λ e h. stuck_here (b ∷ bs) d e (fault_is {X = X × ℕ × List ℕ} d e (sym (refuses bs) ∙ h)) begins told (λ lt more. ap (read at) (one_more b 0 bs more) ∙ refuses (take 0 bs ++ more));
    alike = λ x after c rest h. absurd (no_value d (x, after, c ∷ rest) (sym (refuses bs) ∙ h));
  }

  pub steady_byte : (x : X) (b : ℕ) (bs : List ℕ) → ((cs : List ℕ) → read at (b ∷ cs) ≡ Ok (x, at + 1, cs)) → Steady read Begin Deeper at (b ∷ bs)
  steady_byte x b bs takes = record {
    stuck = λ e h. absurd (no_fault (x, at + 1, bs) e (sym (takes bs) ∙ h));
    alike = λ y after c rest h.
        let p : (x, at + 1, bs) ≡ (y, after, c ∷ rest) = ok_is (x, at + 1, bs) (y, after, c ∷ rest) (sym (takes bs) ∙ h) in
        let value : x ≡ y = ap (λ (z : X × ℕ × List ℕ). z.0) p in
        let place : at + 1 ≡ after = ap (λ (z : X × ℕ × List ℕ). z.1) p in
        record {
          front = b ∷ [];
          parts = ap (λ (z : X × ℕ × List ℕ). b ∷ z.2) p;
          place = sym place;
          same = λ more. takes (c ∷ more) ∙ ap (λ (z : X × ℕ × List ℕ). Ok (z.0, z.1, c ∷ more)) p;
        };
  }

  pub steady_done : (x : X) (bytes : List ℕ) → ((cs : List ℕ) → read at cs ≡ Ok (x, at, cs)) → Steady read Begin Deeper at bytes
  steady_done x bytes takes = record {
    stuck = λ e h. absurd (no_fault (x, at, bytes) e (sym (takes bytes) ∙ h));
    alike = λ y after c rest h.
        let p : (x, at, bytes) ≡ (y, after, c ∷ rest) = ok_is (x, at, bytes) (y, after, c ∷ rest) (sym (takes bytes) ∙ h) in
        let place : at ≡ after = ap (λ (z : X × ℕ × List ℕ). z.1) p in
        record {
          front = [];
          parts = ap (λ (z : X × ℕ × List ℕ). z.2) p;
          place = omega (arith, place);
          same = λ more. takes (c ∷ more) ∙ ap (λ (z : X × ℕ × List ℕ). Ok (z.0, z.1, c ∷ more)) p;
        };
  }
