-- Blanks, words, and elements with commas between them: where their readers are stuck.
use Rattle.std.proofs.Common.{◌≡◌, ℕ, zero, suc, ◌+◌, ◌<◌, ◌≤◌, Bool, true, false, cond, eqb, List, [], ◌∷◌, ◌++◌, length, Ok, Err, refl, sym, ap, subst, ◌∙◌, inl, append_assoc, length-append, arith}
use Rattle.std.proofs.lemmas.Bool.{eqb-true}
use Rattle.std.proofs.lemmas.List.{append-nil}
use Rattle.json_tokens.specs.declared.fault.JsonFault.{JsonFault}
use Rattle.json_tokens.specs.declared.fault.JsonFault.TheVariants.{Syntax}
use Rattle.json_tokens.specs.Reading.{◌>>=◌, Read, is_blank, past_blanks, word_at}
use Rattle.json_tree.specs.ReadingValues.{separator_at, with_first, elements_at, listed_at, list_at}
use Rattle.json_tokens.specs.Grammar.{AreBlanks}
use Rattle.json_tree.specs.Grammar.{AreElements}
use Rattle.json_tree.proofs.Steady.{Reader, Steady, Behind, in_turn, GoesOn, steady_in_turn, steady_changed, steady_in, steady_as, steady_end, steady_refuses, steady_byte, steady_done}
use Rattle.json_tokens.proofs.Stuck.{Alike}
use Rattle.json_tokens.proofs.Tools.{Took, ok_is, NoBlank, blanks_took, blanks_again}
use Rattle.json_tree.proofs.ValueLaws.{separator_took, absorb}

-- ---- behind a byte

abbrev any_at : Reader ℕ
any_at at [] = Err (Syntax at)
any_at at (b ∷ bs) = Ok (b, at + 1, bs)

module _ {Y : Type 0} (read next : Reader Y) (Begin Deeper : List ℕ → Type 0) (at b : ℕ) (same : (cs : List ℕ) → next (at + 1) cs ≡ read at (b ∷ cs)) where
  pub steady_behind_byte : (bs : List ℕ) → Steady next (Behind (b ∷ []) Begin) (Behind (b ∷ []) Deeper) (at + 1) bs → Steady read Begin Deeper at (b ∷ bs)
  steady_behind_byte bs steady =
      steady_as (in_turn any_at (λ c. next)) read Begin Deeper at b same bs
      (steady_in_turn any_at (λ c. next) Begin Deeper at (b ∷ bs) (steady_byte any_at Begin Deeper at b b bs (λ cs. refl))
      (λ x e. subst (λ (y : ℕ × ℕ × List ℕ). GoesOn next Begin Deeper at (b ∷ bs) y.1 y.2) (ok_is (b, at + 1, bs) x e) (record { front = b ∷ []; parts = refl; place = refl; steady = steady })))

-- ---- blanks

stop_if : (t : Bool) (at b : ℕ) (bs : List ℕ) → is_blank b ≡ t → NoBlank (past_blanks (at + 1) bs).1 → NoBlank (cond t (past_blanks (at + 1) bs) (at, b ∷ bs)).1
stop_if true at b bs e h = h
stop_if false at b bs e h = e

blanks_stop : (at : ℕ) (bytes : List ℕ) → NoBlank (past_blanks at bytes).1
blanks_stop at [] = tt
blanks_stop at (b ∷ bs) = stop_if (is_blank b) at b bs refl (blanks_stop (at + 1) bs)

abbrev blanks_read : Reader (Unit {0})
blanks_read at bytes = Ok (tt, (past_blanks at bytes).0, (past_blanks at bytes).1)

blanks_alike : (at : ℕ) (bytes : List ℕ) (after b : ℕ) (rest : List ℕ) → past_blanks at bytes ≡ (after, b ∷ rest) → Alike blanks_read at bytes tt after b rest
blanks_alike at bytes after b rest e =
    let t = blanks_took at bytes in
    let stop : NoBlank (b ∷ rest) = subst (λ (y : ℕ × List ℕ). NoBlank y.1) e (blanks_stop at bytes) in
    let place : after ≡ at + length t.0 = ap (λ (y : ℕ × List ℕ). y.0) (sym e) ∙ t.3 in
    record {
      front = t.0;
      parts = t.2 ∙ ap (λ (y : ℕ × List ℕ). t.0 ++ y.1) e;
      place = place;
      same = λ more. ap (λ (y : ℕ × List ℕ). Ok (tt, y.0, y.1)) (blanks_again t.0 at (b ∷ more) t.1 stop) ∙ ap (λ (n : ℕ). Ok (tt, n, b ∷ more)) (sym place);
    }

blanks_steady : (Begin Deeper : List ℕ → Type 0) (at : ℕ) (bytes : List ℕ) → Steady blanks_read Begin Deeper at bytes
blanks_steady Begin Deeper at bytes = record {
  stuck = λ e h. absurd (no_fault e h);
  alike = λ x after b rest h. blanks_alike at bytes after b rest (ap (λ (y : Unit {0} × ℕ × List ℕ). (y.1, y.2)) (ok_is (tt, (past_blanks at bytes).0, (past_blanks at bytes).1) (x, after, b ∷ rest) h));
}
  where
    no_fault : (e : JsonFault) → blanks_read at bytes ≡ Err e → ⊥
    no_fault e h = cc

module _ {Y : Type 0} (next : Reader Y) (Begin Deeper : List ℕ → Type 0) (at : ℕ) (bytes : List ℕ)
    (goes : (ws rest : List ℕ) → AreBlanks ws → bytes ≡ ws ++ rest → Steady next (Behind ws Begin) (Behind ws Deeper) (at + length ws) rest) where
  behind_blanks : GoesOn next Begin Deeper at bytes (past_blanks at bytes).0 (past_blanks at bytes).1
  behind_blanks =
      let t = blanks_took at bytes in
      record { front = t.0; parts = t.2; place = t.3; steady = subst (λ (n : ℕ). Steady next (Behind t.0 Begin) (Behind t.0 Deeper) n (past_blanks at bytes).1) (sym t.3) (goes t.0 (past_blanks at bytes).1 t.1 t.2) }

  pub steady_behind_blanks : Steady (λ place rest. next (past_blanks place rest).0 (past_blanks place rest).1) Begin Deeper at bytes
  steady_behind_blanks =
      steady_in_turn blanks_read (λ u. next) Begin Deeper at bytes (blanks_steady Begin Deeper at bytes)
      (λ x e. subst (λ (y : Unit {0} × ℕ × List ℕ). GoesOn next Begin Deeper at bytes y.1 y.2) (ok_is (tt, (past_blanks at bytes).0, (past_blanks at bytes).1) x e) behind_blanks)

-- ---- words

abbrev pub spelled_at : {X : Type 0} → List ℕ → X → Reader X
spelled_at word x at bytes = word_at word at bytes >>= λ after. Ok (x, after.0, after.1)

abbrev if_byte : {X : Type 0} → Bool → List ℕ → X → ℕ → List ℕ → Read X
if_byte t ws x at bs = cond t (spelled_at ws x (at + 1) bs) (Err (Syntax at))

word_if : {X : Type 0} (t : Bool) (w : ℕ) (ws : List ℕ) (x : X) (at b : ℕ) (cs : List ℕ) → eqb b w ≡ t → spelled_at (w ∷ ws) x at (b ∷ cs) ≡ if_byte t ws x at cs
word_if true w ws x at b cs e = rw e refl
word_if false w ws x at b cs e = rw e refl

pub word_steady : {X : Type 0} (word : List ℕ) (x : X) (Begin Deeper : List ℕ → Type 0) (at : ℕ) (bytes : List ℕ) → ((front rest : List ℕ) → front ++ rest ≡ word → Begin front) → Steady (spelled_at word x) Begin Deeper at bytes
word_steady [] x Begin Deeper at bytes begins = steady_done (spelled_at [] x) Begin Deeper at x bytes (λ cs. refl)
word_steady (w ∷ ws) x Begin Deeper at [] begins = steady_end (spelled_at (w ∷ ws) x) Begin Deeper at refl (begins [] (w ∷ ws) refl)
word_steady (w ∷ ws) x Begin Deeper at (b ∷ bs) begins = by_byte (word_steady ws x (Behind (b ∷ []) Begin) (Behind (b ∷ []) Deeper) (at + 1) bs) (eqb b w) refl
  where
    by_byte : (((front rest : List ℕ) → front ++ rest ≡ ws → Begin (b ∷ front)) → Steady (spelled_at ws x) (Behind (b ∷ []) Begin) (Behind (b ∷ []) Deeper) (at + 1) bs) → (t : Bool) → eqb b w ≡ t → Steady (spelled_at (w ∷ ws) x) Begin Deeper at (b ∷ bs)
    by_byte more true e =
        let behind : (front rest : List ℕ) → front ++ rest ≡ ws → Begin (b ∷ front) = λ front rest h. subst (λ (c : ℕ). Begin (c ∷ front)) (sym (eqb-true b w e)) (begins (w ∷ front) rest (ap (λ (l : List ℕ). w ∷ l) h)) in
        steady_behind_byte (spelled_at (w ∷ ws) x) (spelled_at ws x) Begin Deeper at b (λ cs. sym (word_if true w ws x at b cs e)) bs (more behind)
    by_byte more false e = steady_refuses (spelled_at (w ∷ ws) x) Begin Deeper at b bs (Syntax at) (λ cs. word_if false w ws x at b cs e) (begins [] (w ∷ ws) refl) (inl (omega arith))

-- ---- a comma or the closing bracket

separator_steady : (close : ℕ) (Begin Deeper : List ℕ → Type 0) (at : ℕ) (bytes : List ℕ) → Begin [] → Steady (separator_at close) Begin Deeper at bytes
separator_steady close Begin Deeper at [] begins = steady_end (separator_at close) Begin Deeper at refl begins
separator_steady close Begin Deeper at (b ∷ bs) begins = by_comma (eqb b 44) refl
  where
    by_close : eqb b 44 ≡ false → (t : Bool) → eqb b close ≡ t → Steady (separator_at close) Begin Deeper at (b ∷ bs)
    by_close c true e = steady_byte (separator_at close) Begin Deeper at false b bs (λ cs. rw (c, e) refl)
    by_close c false e = steady_refuses (separator_at close) Begin Deeper at b bs (Syntax at) (λ cs. rw (c, e) refl) begins (inl (omega arith))

    by_comma : (t : Bool) → eqb b 44 ≡ t → Steady (separator_at close) Begin Deeper at (b ∷ bs)
    by_comma true e = steady_byte (separator_at close) Begin Deeper at true b bs (λ cs. rw e refl)
    by_comma false e = by_close e (eqb b close) refl

-- ---- elements, whatever is the most of them

abbrev pub elements_read : {E : Type 0} → Reader E → ℕ → Reader (List E)
elements_read element close at bytes = elements_at element close (length bytes) at bytes

abbrev rest_of : {E : Type 0} → Reader (List E) → E → Bool → Reader (List E)
rest_of others e next at bytes = cond next (with_first e (others at bytes)) (Ok (e ∷ [], at, bytes))

abbrev one_of : {E : Type 0} → Reader E → ℕ → Reader (List E) → Reader (List E)
one_of element close others = in_turn element (λ e. in_turn (separator_at close) (rest_of others e))

module _ {E : Type 0} (element : Reader E) (close : ℕ) (Is : ℕ → List ℕ → E → Type 0)
    (sound : (at : ℕ) (bytes : List ℕ) (x : E × ℕ × List ℕ) → element at bytes ≡ Ok x → Took Is at bytes x.0 x.1 x.2)
    (none : (at : ℕ) → element at [] ≡ Err (Syntax at)) where
  shorter : (at : ℕ) (bytes : List ℕ) (x : E × ℕ × List ℕ) (y : Bool × ℕ × List ℕ) → element at bytes ≡ Ok x → separator_at close x.1 x.2 ≡ Ok y → length y.2 < length bytes
  shorter at bytes x y e s =
      let t = sound at bytes x e in
      let p = separator_took close x.1 x.2 y s in
      omega (arith, ap length t.parts, length-append t.front x.2, ap length p.0)

  one_same : (g h : Reader (List E)) (at : ℕ) (bytes : List ℕ) → ((place : ℕ) (rest : List ℕ) → length rest < length bytes → g place rest ≡ h place rest) → one_of element close g at bytes ≡ one_of element close h at bytes
  one_same g h at bytes less = by_element (element at bytes) refl
    where
      by_next : (e : E) (n : Bool) (place : ℕ) (rest : List ℕ) → length rest < length bytes → rest_of g e n place rest ≡ rest_of h e n place rest
      by_next e true place rest lt = ap (with_first e) (less place rest lt)
      by_next e false place rest lt = refl

      by_separator : (x : E × ℕ × List ℕ) → element at bytes ≡ Ok x → (r : Read Bool) → separator_at close x.1 x.2 ≡ r → (r >>= λ y. rest_of g x.0 y.0 y.1 y.2) ≡ (r >>= λ y. rest_of h x.0 y.0 y.1 y.2)
      by_separator x e (Err d) s = refl
      by_separator x e (Ok y) s = by_next x.0 y.0 y.1 y.2 (shorter at bytes x y e s)

      by_element : (r : Read E) → element at bytes ≡ r → (r >>= λ x. in_turn (separator_at close) (rest_of g x.0) x.1 x.2) ≡ (r >>= λ x. in_turn (separator_at close) (rest_of h x.0) x.1 x.2)
      by_element (Err d) e = refl
      by_element (Ok x) e = by_separator x e (separator_at close x.1 x.2) refl

  enough : (m n at : ℕ) (bytes : List ℕ) → length bytes ≤ m → length bytes ≤ n → elements_at element close m at bytes ≡ elements_at element close n at bytes
  unfolding elements_at
  enough zero zero at bytes a b = refl
  enough zero (suc n) at [] a b = rw (none at) refl
  enough zero (suc n) at (c ∷ cs) a b = absurd (omega (arith, a))
  enough (suc m) zero at [] a b = rw (none at) refl
  enough (suc m) zero at (c ∷ cs) a b = absurd (omega (arith, b))
  enough (suc m) (suc n) at bytes a b = one_same (elements_at element close m) (elements_at element close n) at bytes (λ place rest lt. enough m n place rest (omega (arith, lt, a)) (omega (arith, lt, b)))

  elements_one : (at b : ℕ) (bs : List ℕ) → elements_read element close at (b ∷ bs) ≡ one_of element close (elements_read element close) at (b ∷ bs)
  unfolding elements_at
  elements_one at b bs = one_same (elements_at element close (length bs)) (elements_read element close) at (b ∷ bs) (λ place rest lt. enough (length bs) (length rest) place rest (omega (arith, lt)) (omega arith))

-- ---- what begins elements

-- bytes that begin something of the kind
abbrev pub Begun : {E : Type 0} → (ℕ → List ℕ → E → Type 0) → ℕ → List ℕ → Type 0
Begun {E} Is at bytes = (rest : List ℕ) × (e : E) × Is at (bytes ++ rest) e

-- bytes that begin one element or more, with the closing bracket
abbrev pub BeginsSome : {E : Type 0} → (ℕ → List ℕ → E → Type 0) → ℕ → ℕ → List ℕ → Type 0
BeginsSome {E} Is close at bytes = (rest inner : List ℕ) × (first : E) × (others : List E) × AreElements Is at inner (first ∷ others) × (bytes ++ rest ≡ inner ++ close ∷ [])

-- or none
abbrev pub BeginsList : {E : Type 0} → (ℕ → List ℕ → E → Type 0) → ℕ → ℕ → List ℕ → Type 0
BeginsList {E} Is close at bytes = (rest inner : List ℕ) × (es : List E) × AreElements Is at inner es × (bytes ++ rest ≡ inner ++ close ∷ [])

module _ {E : Type 0} (Is : ℕ → List ℕ → E → Type 0) (close at : ℕ) where
  pub begins_first : (w : List ℕ) → Begun Is at w → BeginsSome Is close at w
  begins_first w h = (h.0 ++ close ∷ [], w ++ h.0, h.1, [], h.2, sym (append_assoc w h.0 (close ∷ [])))

  begins_one : (front : List ℕ) (e : E) → Is at front e → BeginsSome Is close at (front ++ [])
  begins_one front e is = (close ∷ [], front, e, [], is, ap (λ (l : List ℕ). l ++ close ∷ []) (append-nil front))

  pub begins_more : (front : List ℕ) (e : E) → Is at front e → (w : List ℕ) → BeginsSome Is close (at + length front + 1) w → BeginsSome Is close at (front ++ 44 ∷ w)
  begins_more front e is w h = (h.0, front ++ 44 ∷ h.1, e, h.2 ∷ h.3, (front, h.1, refl, is, h.4), append_assoc front (44 ∷ w) h.0 ∙ ap (λ (l : List ℕ). front ++ 44 ∷ l) h.5 ∙ sym (append_assoc front (44 ∷ h.1) (close ∷ [])))

  pub begins_none : (ws : List ℕ) → AreBlanks ws → BeginsList Is close at (ws ++ [])
  begins_none ws b = (close ∷ [], ws, [], b, ap (λ (l : List ℕ). l ++ close ∷ []) (append-nil ws))

module _ {E : Type 0} (Is : ℕ → List ℕ → E → Type 0) (close : ℕ) (absorbs : (ws : List ℕ) (at : ℕ) (bytes : List ℕ) (e : E) → AreBlanks ws → Is (at + length ws) bytes e → Is at (ws ++ bytes) e) where
  pub begins_behind : (ws : List ℕ) (at : ℕ) → AreBlanks ws → (w : List ℕ) → BeginsSome Is close (at + length ws) w → BeginsList Is close at (ws ++ w)
  begins_behind ws at b w h = (h.0, ws ++ h.1, h.2 ∷ h.3, absorb Is absorbs ws at h.1 h.2 h.3 b h.4, append_assoc ws w h.0 ∙ ap (λ (l : List ℕ). ws ++ l) h.5 ∙ sym (append_assoc ws h.1 (close ∷ [])))

-- ---- elements and lists

module _ {E : Type 0} (element : Reader E) (close : ℕ) (Is Deep : ℕ → List ℕ → E → Type 0)
    (sound : (at : ℕ) (bytes : List ℕ) (x : E × ℕ × List ℕ) → element at bytes ≡ Ok x → Took Is at bytes x.0 x.1 x.2)
    (none : (at : ℕ) → element at [] ≡ Err (Syntax at))
    (deepens : (at : ℕ) (bytes : List ℕ) (e : E) → Is at bytes e → Deep at bytes e)
    (begins : (at : ℕ) → Begun Is at [])
    (steady : (at : ℕ) (bytes : List ℕ) → Steady element (Begun Is at) (Begun Deep at) at bytes) where
  abbrev ElementsSteady : ℕ → List ℕ → Type 0
  ElementsSteady at bytes = Steady (elements_read element close) (BeginsSome Is close at) (BeginsSome Deep close at) at bytes

  module _ (at : ℕ) (front : List ℕ) (e : E) (is : Is at front e) where
    others_steady : (next : Bool) (place : ℕ) (rest : List ℕ) → place ≡ at + length front + 1 → ElementsSteady place rest
        → Steady (rest_of (elements_read element close) e next) (Behind (cond next 44 close ∷ []) (Behind front (BeginsSome Is close at))) (Behind (cond next 44 close ∷ []) (Behind front (BeginsSome Deep close at))) place rest
    others_steady true place rest p s =
        steady_changed (λ (es : List E). e ∷ es) (elements_read element close) (Behind (44 ∷ []) (Behind front (BeginsSome Is close at))) (Behind (44 ∷ []) (Behind front (BeginsSome Deep close at))) place rest
        (steady_in (elements_read element close) (BeginsSome Is close place) (BeginsSome Deep close place) (Behind (44 ∷ []) (Behind front (BeginsSome Is close at))) (Behind (44 ∷ []) (Behind front (BeginsSome Deep close at)))
        (λ w h. begins_more Is close at front e is w (subst (λ (n : ℕ). BeginsSome Is close n w) p h))
        (λ w h. begins_more Deep close at front e (deepens at front e is) w (subst (λ (n : ℕ). BeginsSome Deep close n w) p h)) place rest s)
    others_steady false place rest p s = steady_done (rest_of (elements_read element close) e false) (Behind (close ∷ []) (Behind front (BeginsSome Is close at))) (Behind (close ∷ []) (Behind front (BeginsSome Deep close at))) place (e ∷ []) rest (λ cs. refl)

    separated_steady : (place : ℕ) (rest : List ℕ) → place ≡ at + length front → ((next : ℕ) (others : List ℕ) → length others < length rest → ElementsSteady next others)
        → Steady (in_turn (separator_at close) (rest_of (elements_read element close) e)) (Behind front (BeginsSome Is close at)) (Behind front (BeginsSome Deep close at)) place rest
    separated_steady place rest p steady_others =
        steady_in_turn (separator_at close) (rest_of (elements_read element close) e) (Behind front (BeginsSome Is close at)) (Behind front (BeginsSome Deep close at)) place rest
        (separator_steady close (Behind front (BeginsSome Is close at)) (Behind front (BeginsSome Deep close at)) place rest (begins_one Is close at front e is))
        (λ y s.
        let q = separator_took close place rest y s in
        record {
          front = cond y.0 44 close ∷ [];
          parts = q.0;
          place = q.1;
          steady = others_steady y.0 y.1 y.2 (omega (arith, q.1, p)) (steady_others y.1 y.2 (omega (arith, ap length q.0)));
        })

  elements_steady : (most at : ℕ) (bytes : List ℕ) → length bytes ≤ most → ElementsSteady at bytes
  unfolding elements_at
  elements_steady most at [] le = steady_end (elements_read element close) (BeginsSome Is close at) (BeginsSome Deep close at) at refl (begins_first Is close at [] (begins at))
  elements_steady zero at (b ∷ bs) le = absurd (omega (arith, le))
  elements_steady (suc most) at (b ∷ bs) le =
      steady_as (one_of element close (elements_read element close)) (elements_read element close) (BeginsSome Is close at) (BeginsSome Deep close at) at b (λ cs. sym (elements_one element close Is sound none at b cs)) bs
      (steady_in_turn element (λ e. in_turn (separator_at close) (rest_of (elements_read element close) e)) (BeginsSome Is close at) (BeginsSome Deep close at) at (b ∷ bs)
      (steady_in element (Begun Is at) (Begun Deep at) (BeginsSome Is close at) (BeginsSome Deep close at) (begins_first Is close at) (begins_first Deep close at) at (b ∷ bs) (steady at (b ∷ bs)))
      (λ x e.
      let t = sound at (b ∷ bs) x e in
      let all : length (b ∷ bs) ≡ length t.front + length x.2 = ap length t.parts ∙ length-append t.front x.2 in
      record { front = t.front; parts = t.parts; place = t.place; steady = separated_steady at t.front x.0 t.is x.1 x.2 t.place (λ next others lt. elements_steady most next others (omega (arith, lt, all, le))) }))

  module _ (absorbs : (ws : List ℕ) (at : ℕ) (bytes : List ℕ) (e : E) → AreBlanks ws → Is (at + length ws) bytes e → Is at (ws ++ bytes) e)
      (absorbs_deep : (ws : List ℕ) (at : ℕ) (bytes : List ℕ) (e : E) → AreBlanks ws → Deep (at + length ws) bytes e → Deep at (ws ++ bytes) e) where
    module _ (ws : List ℕ) (at : ℕ) (b : AreBlanks ws) where
      abbrev Begin : List ℕ → Type 0
      Begin = Behind ws (BeginsList Is close at)

      abbrev Deeper : List ℕ → Type 0
      Deeper = Behind ws (BeginsList Deep close at)

      filled_steady : (place : ℕ) (rest : List ℕ) → place ≡ at + length ws → Steady (elements_read element close) Begin Deeper place rest
      filled_steady place rest p =
          steady_in (elements_read element close) (BeginsSome Is close place) (BeginsSome Deep close place) Begin Deeper
          (λ w h. begins_behind Is close absorbs ws at b w (subst (λ (n : ℕ). BeginsSome Is close n w) p h))
          (λ w h. begins_behind Deep close absorbs_deep ws at b w (subst (λ (n : ℕ). BeginsSome Deep close n w) p h)) place rest (elements_steady (length rest) place rest (omega arith))

      listed_steady : (place : ℕ) (rest : List ℕ) → place ≡ at + length ws → Steady (listed_at element close) Begin Deeper place rest
      unfolding elements_at
      listed_steady place [] p = steady_end (listed_at element close) Begin Deeper place refl (begins_none Is close at ws b)
      listed_steady place (c ∷ cs) p = by_close (eqb c close) refl
        where
          by_close : (t : Bool) → eqb c close ≡ t → Steady (listed_at element close) Begin Deeper place (c ∷ cs)
          by_close true e = steady_byte (listed_at element close) Begin Deeper place [] c cs (λ ds. rw e refl)
          by_close false e = steady_as (elements_read element close) (listed_at element close) Begin Deeper place c (λ ds. rw e refl) cs (filled_steady place (c ∷ cs) p)

    pub list_steady : (at : ℕ) (bytes : List ℕ) → Steady (list_at element close) (BeginsList Is close at) (BeginsList Deep close at) at bytes
    unfolding list_at
    list_steady at bytes = steady_behind_blanks (listed_at element close) (BeginsList Is close at) (BeginsList Deep close at) at bytes (λ ws rest b parts. listed_steady ws at b (at + length ws) rest refl)
