-- Values: what is read is spelled so, and what is spelled so is read.
use Rattle.std.proofs.Common.{◌≡◌, ℕ, ℤ, zero, suc, ◌+◌, ◌≤◌, Bool, true, false, cond, eqb, ltb, List, [], ◌∷◌, ◌++◌, length, Option, Some, None, Result, Ok, Err, refl, sym, ap, subst, ◌∙◌, inl, inr, append_assoc, length-append, arith}
use Rattle.std.specs.Prelude.{codes, IfOk}
use Rattle.json_tree.specs.declared.tree.Json.{Json}
use Rattle.json_tree.specs.View.{tree_of}
use Rattle.std.proofs.lemmas.Bool.{eqb-true, ltb-false}
use Rattle.std.proofs.lemmas.List.{append-nil, nil_from_length}
use Rattle.json_tokens.specs.declared.fault.JsonFault.{JsonFault}
use Rattle.json_tokens.specs.declared.fault.JsonFault.TheVariants.{Syntax, TooLarge}
use Rattle.json_tokens.specs.Reading.{◌>>=◌, Read, Gives, past_blanks, byte_at, word_at}
use Rattle.json_tokens.specs.ReadingTexts.{text_at}
use Rattle.json_tokens.specs.ReadingNumerals.{numeral_at}
use Rattle.json_tree.specs.ReadingValues.{word_kind_at, quoted_at, number_kind, number_at, scalar_at, separator_at, with_first, elements_at, unless_empty, list_at, item_at, name_at, member_at, items_at, members_at, list_in, object_in, if_there, kind_read, tree_read, inner_at, value_at, ended, document_at}
use Rattle.json_tree.specs.Tree.{Tree, Kind, Trees, Members, At, Null, Bool_of, Numeral_of, Wide, Text_of, List_of, Object_of, no_trees, more_trees, no_members, more_members, trees, members, in_trees, in_members}
use Rattle.json_tokens.specs.Grammar.{AreBlanks, IsQuoted}
use Rattle.json_tree.specs.Grammar.{AreElements, IsItem, IsMember, IsKind, IsTree, SpellsAt, Spells}
use Rattle.json_tokens.proofs.Tools.{Took, bind_ok, ok_is, chosen, byte_took, word_took, blanks_took}
use Rattle.json_tokens.proofs.TextLaws.{text_took}
use Rattle.json_tokens.proofs.NumeralLaws.{IsNumeralAt, numeral_took}

-- ---- values that hold no others

found_kind : Kind → ℕ → List ℕ → Kind × ℕ × List ℕ
found_kind k at rest = (k, at, rest)

module _ (Nested : Type 0) (Inner : ℕ → List ℕ → Tree → Type 0) where
  abbrev KindTook : ℕ → List ℕ → Kind × ℕ × List ℕ → Type 0
  KindTook at bytes x = Took (IsKind Nested Inner) at bytes x.0 x.1 x.2

  word_kind_took : (word : List ℕ) (kind : Kind) (at : ℕ) (bytes : List ℕ) (x : Kind × ℕ × List ℕ) → ((text : List ℕ) → text ≡ word → IsKind Nested Inner at text kind) → word_kind_at word kind at bytes ≡ Ok x → KindTook at bytes x
  unfolding found_kind
  word_kind_took word kind at bytes x is e =
      let a = bind_ok (word_at word at bytes) (λ after. Ok (found_kind kind after.0 after.1)) x e in
      let w = word_took word at bytes a.0 a.1 in
      subst (KindTook at bytes) (ok_is (found_kind kind a.0.0 a.0.1) x a.2) (record { front = word; parts = w.0; place = w.1; is = is word refl })

  pub number_is : (at : ℕ) (front : List ℕ) (o : Option (ℤ × ℕ)) → IsNumeralAt at front o → IsKind Nested Inner at front (number_kind o)
  number_is at front (Some n) h = h
  number_is at front None h = h

  number_took : (at : ℕ) (bytes : List ℕ) (x : Kind × ℕ × List ℕ) → number_at at bytes ≡ Ok x → KindTook at bytes x
  unfolding number_at found_kind
  number_took at bytes x e =
      let a = bind_ok (numeral_at at bytes) (λ number. Ok (found_kind (number_kind number.0) number.1 number.2)) x e in
      let t = numeral_took at bytes a.0 a.1 in
      subst (KindTook at bytes) (ok_is (found_kind (number_kind a.0.0) a.0.1 a.0.2) x a.2)
      (record { front = t.front; parts = t.parts; place = t.place; is = number_is at t.front a.0.0 t.is })

  quoted_took : (at b : ℕ) (bs : List ℕ) (x : Kind × ℕ × List ℕ) → b ≡ 34 → quoted_at (at + 1) bs ≡ Ok x → KindTook at (b ∷ bs) x
  unfolding quoted_at found_kind
  quoted_took at b bs x q e =
      let a = bind_ok (text_at (length bs) (at + 1) bs) (λ text. Ok (found_kind (Text_of text.0) text.1 text.2)) x e in
      let t = text_took (length bs) (at + 1) bs a.0 a.1 in
      subst (KindTook at (b ∷ bs)) (ok_is (found_kind (Text_of a.0.0) a.0.1 a.0.2) x a.2)
      (record {
        front = 34 ∷ (t.body ++ 34 ∷ []);
        parts = ap (λ (c : ℕ). c ∷ bs) q ∙ ap (λ (l : List ℕ). 34 ∷ l) (t.parts ∙ sym (append_assoc t.body (34 ∷ []) a.0.2));
        place = omega (arith, t.place, length-append t.body (34 ∷ []));
        is = record { body = t.body; spelled = t.is; bytes_are = refl };
      })

  scalar_took : (at : ℕ) (bytes : List ℕ) (x : Kind × ℕ × List ℕ) → scalar_at at bytes ≡ Ok x → KindTook at bytes x
  unfolding scalar_at
  scalar_took at [] x e = number_took at [] x e
  scalar_took at (b ∷ bs) x e =
      elim (chosen (eqb b 34) _ _ _ e) [
        | inl p ↦ quoted_took at b bs x (eqb-true b 34 p.0) p.1
        | inr p ↦ elim (chosen (eqb b 110) _ _ _ p.1) [
          | inl q ↦ word_kind_took (codes "null") Null at (b ∷ bs) x (λ text is. is) q.1
          | inr q ↦ elim (chosen (eqb b 116) _ _ _ q.1) [
            | inl r ↦ word_kind_took (codes "true") (Bool_of true) at (b ∷ bs) x (λ text is. is) r.1
            | inr r ↦ elim (chosen (eqb b 102) _ _ _ r.1) [
              | inl s ↦ word_kind_took (codes "false") (Bool_of false) at (b ∷ bs) x (λ text is. is) s.1
              | inr s ↦ number_took at (b ∷ bs) x s.1
            ]
          ]
        ]
      ]

-- ---- elements

pub separator_took : (close at : ℕ) (bytes : List ℕ) (x : Bool × ℕ × List ℕ) → separator_at close at bytes ≡ Ok x → (bytes ≡ (cond x.0 44 close) ∷ x.2) × (x.1 ≡ at + 1)
separator_took close at [] x e = absurd cc
separator_took close at (b ∷ bs) x e =
    elim (chosen (eqb b 44) _ _ _ e) [
      | inl p ↦ subst (λ (y : Bool × ℕ × List ℕ). (b ∷ bs ≡ (cond y.0 44 close) ∷ y.2) × (y.1 ≡ at + 1)) (ok_is (true, at + 1, bs) x p.1) (ap (λ (c : ℕ). c ∷ bs) (eqb-true b 44 p.0), refl)
      | inr p ↦ elim (chosen (eqb b close) _ _ _ p.1) [
        | inl q ↦ subst (λ (y : Bool × ℕ × List ℕ). (b ∷ bs ≡ (cond y.0 44 close) ∷ y.2) × (y.1 ≡ at + 1)) (ok_is (false, at + 1, bs) x q.1) (ap (λ (c : ℕ). c ∷ bs) (eqb-true b close q.0), refl)
        | inr q ↦ absurd (no_error q.1)
      ]
    ]
  where
    no_error : ◌≡◌ {A = Read Bool} (Err (Syntax at)) (Ok x) → ⊥
    no_error h = cc

-- elements with blanks before the first are elements
module _ {E : Type 0} (Is : ℕ → List ℕ → E → Type 0) (absorbs : (ws : List ℕ) (at : ℕ) (bytes : List ℕ) (e : E) → AreBlanks ws → Is (at + length ws) bytes e → Is at (ws ++ bytes) e) where
  pub absorb : (ws : List ℕ) (at : ℕ) (inner : List ℕ) (e : E) (es : List E) → AreBlanks ws → AreElements Is (at + length ws) inner (e ∷ es) → AreElements Is at (ws ++ inner) (e ∷ es)
  absorb ws at inner e [] b h = absorbs ws at inner e b h
  absorb ws at inner e (f ∷ es) b h = (
    ws ++ h.0,
    h.1,
    ap (λ (l : List ℕ). ws ++ l) h.2 ∙ sym (append_assoc ws h.0 (44 ∷ h.1)),
    absorbs ws at h.0 e b h.3,
    subst (λ (n : ℕ). AreElements Is n h.1 (f ∷ es)) (omega (arith, length-append ws h.0)) h.4,
  )

module _ {E : Type 0} (element : ℕ → List ℕ → Read E) (Is : ℕ → List ℕ → E → Type 0)
    (sound : (at : ℕ) (bytes : List ℕ) (x : E × ℕ × List ℕ) → element at bytes ≡ Ok x → Took Is at bytes x.0 x.1 x.2) where
  -- elements up to the closing bracket
  pub record ElementsTook (close at : ℕ) (bytes : List ℕ) (x : List E × ℕ × List ℕ) : Type 0 where
    pub inner : List ℕ
    pub parts : bytes ≡ inner ++ close ∷ x.2
    pub place : x.1 ≡ at + length inner + 1
    pub is : AreElements Is at inner x.0

  -- there is one more before others
  pub record SomeTook (close at : ℕ) (bytes : List ℕ) (x : List E × ℕ × List ℕ) : Type 0 where
    pub took : ElementsTook close at bytes x
    pub first : E
    pub others : List E
    pub are : x.0 ≡ first ∷ others

  one_took : (close at : ℕ) (bytes : List ℕ) (e : E × ℕ × List ℕ) (s : Bool × ℕ × List ℕ) (x : List E × ℕ × List ℕ) → s.0 ≡ false → Took Is at bytes e.0 e.1 e.2 → (e.2 ≡ (cond s.0 44 close) ∷ s.2) × (s.1 ≡ e.1 + 1)
      → ◌≡◌ {A = Read (List E)} (Ok (e.0 ∷ [], s.1, s.2)) (Ok x) → SomeTook close at bytes x
  one_took close at bytes e s x last t sep h =
      subst (SomeTook close at bytes) (ok_is (e.0 ∷ [], s.1, s.2) x h)
      (record {
        took = record { inner = t.front; parts = t.parts ∙ ap (λ (l : List ℕ). t.front ++ l) (rw last at sep.0); place = omega (arith, sep.1, t.place); is = t.is };
        first = e.0;
        others = [];
        are = refl;
      })

  some_more : (at : ℕ) (front inner : List ℕ) (e : E) (es : List E) (first : E) (others : List E) → es ≡ first ∷ others → Is at front e → AreElements Is (at + length front + 1) inner es → AreElements Is at (front ++ 44 ∷ inner) (e ∷ es)
  some_more at front inner e es first others are is more =
      rw are (front, inner, refl, is, rw are at more)

  more_took : (close at : ℕ) (bytes : List ℕ) (e : E × ℕ × List ℕ) (s : Bool × ℕ × List ℕ) (y x : List E × ℕ × List ℕ) → s.0 ≡ true → Took Is at bytes e.0 e.1 e.2 → (e.2 ≡ (cond s.0 44 close) ∷ s.2) × (s.1 ≡ e.1 + 1) → SomeTook close s.1 s.2 y
      → ◌≡◌ {A = Read (List E)} (Ok (e.0 ∷ y.0, y.1, y.2)) (Ok x) → SomeTook close at bytes x
  more_took close at bytes e s y x comma t sep m h =
      let place : s.1 ≡ at + length t.front + 1 = omega (arith, sep.1, t.place) in
      let inner = t.front ++ 44 ∷ m.took.inner in
      let behind : e.2 ≡ 44 ∷ s.2 = rw comma at sep.0 in
      subst (SomeTook close at bytes) (ok_is (e.0 ∷ y.0, y.1, y.2) x h)
      (record {
        took = record {
          inner = inner;
          parts = t.parts ∙ ap (λ (l : List ℕ). t.front ++ l) (behind ∙ ap (λ (l : List ℕ). 44 ∷ l) m.took.parts) ∙ sym (append_assoc t.front (44 ∷ m.took.inner) (close ∷ y.2));
          place = omega (arith, m.took.place, place, length-append t.front (44 ∷ m.took.inner));
          is = some_more at t.front m.took.inner e.0 y.0 m.first m.others m.are t.is (rw place at m.took.is);
        };
        first = e.0;
        others = y.0;
        are = refl;
      })

  pub elements_took : (close most at : ℕ) (bytes : List ℕ) (x : List E × ℕ × List ℕ) → elements_at element close most at bytes ≡ Ok x → SomeTook close at bytes x
  unfolding elements_at
  elements_took close zero at bytes x e = absurd cc
  elements_took close (suc most) at bytes x e =
      let a = bind_ok (element at bytes) (λ first. separator_at close first.1 first.2 >>= λ next. cond next.0 (with_first first.0 (elements_at element close most next.1 next.2)) (Ok (first.0 ∷ [], next.1, next.2))) x e in
      let b = bind_ok (separator_at close a.0.1 a.0.2) (λ next. cond next.0 (with_first a.0.0 (elements_at element close most next.1 next.2)) (Ok (a.0.0 ∷ [], next.1, next.2))) x a.2 in
      let t = sound at bytes a.0 a.1 in
      let s = separator_took close a.0.1 a.0.2 b.0 b.1 in
      elim (chosen b.0.0 _ _ _ b.2) [
        | inl p ↦
            let c = bind_ok (elements_at element close most b.0.1 b.0.2) (λ y. Ok (a.0.0 ∷ y.0, y.1, y.2)) x p.1 in
            more_took close at bytes a.0 b.0 c.0 x p.0 t s (elements_took close most b.0.1 b.0.2 c.0 c.1) c.2
        | inr p ↦ one_took close at bytes a.0 b.0 x p.0 t s p.1
      ]

  module _ (absorbs : (ws : List ℕ) (at : ℕ) (bytes : List ℕ) (e : E) → AreBlanks ws → Is (at + length ws) bytes e → Is at (ws ++ bytes) e) where
    empty_took : (close at : ℕ) (bytes ws rest : List ℕ) (next : ℕ) (after : ℕ × List ℕ) (x : List E × ℕ × List ℕ) → AreBlanks ws → bytes ≡ ws ++ rest → next ≡ at + length ws → byte_at close next rest ≡ Some after
        → ◌≡◌ {A = Read (List E)} (Ok ([], after.0, after.1)) (Ok x) → ElementsTook close at bytes x
    empty_took close at bytes ws rest next after x b parts place is h =
        let c = byte_took close next rest after is in
        subst (ElementsTook close at bytes) (ok_is ([], after.0, after.1) x h)
        (record { inner = ws; parts = parts ∙ ap (λ (l : List ℕ). ws ++ l) c.0; place = omega (arith, c.1, place); is = b })

    filled_took : (close at : ℕ) (bytes ws rest : List ℕ) (next : ℕ) (x : List E × ℕ × List ℕ) → AreBlanks ws → bytes ≡ ws ++ rest → next ≡ at + length ws → SomeTook close next rest x → ElementsTook close at bytes x
    filled_took close at bytes ws rest next x b parts place s =
        let t = s.took in
        let moved : AreElements Is (at + length ws) t.inner (s.first ∷ s.others) = subst (λ (es : List E). AreElements Is (at + length ws) t.inner es) s.are (rw place at t.is) in
        record {
          inner = ws ++ t.inner;
          parts = parts ∙ ap (λ (l : List ℕ). ws ++ l) t.parts ∙ sym (append_assoc ws t.inner (close ∷ x.2));
          place = omega (arith, t.place, place, length-append ws t.inner);
          is = subst (λ (es : List E). AreElements Is at (ws ++ t.inner) es) (sym s.are) (absorb Is absorbs ws at t.inner s.first s.others b moved);
        }

    pub list_took : (close at : ℕ) (bytes : List ℕ) (x : List E × ℕ × List ℕ) → list_at element close at bytes ≡ Ok x → ElementsTook close at bytes x
    unfolding list_at
    list_took close at bytes x e =
        let b = blanks_took at bytes in
        let rest = past_blanks at bytes in
        by_byte b.0 rest b.1 b.2 b.3 (byte_at close rest.0 rest.1) refl e
      where
        by_byte : (ws : List ℕ) (rest : ℕ × List ℕ) → AreBlanks ws → bytes ≡ ws ++ rest.1 → rest.0 ≡ at + length ws → (o : Option (ℕ × List ℕ)) → byte_at close rest.0 rest.1 ≡ o
            → unless_empty o (elements_at element close (length rest.1) rest.0 rest.1) ≡ Ok x → ElementsTook close at bytes x
        by_byte ws rest b parts place (Some after) is h = empty_took close at bytes ws rest.1 rest.0 after x b parts place is h
        by_byte ws rest b parts place None is h = filled_took close at bytes ws rest.1 rest.0 x b parts place (elements_took close (length rest.1) rest.0 rest.1 x h)

-- ---- trees in lists, and back

pub trees_back : (ts : List Tree) → in_trees (trees ts) ≡ ts
trees_back [] = refl
trees_back (t ∷ ts) = ap (λ (l : List Tree). t ∷ l) (trees_back ts)

pub members_back : (ms : List (List ℕ × Tree)) → in_members (members ms) ≡ ms
members_back [] = refl
members_back (m ∷ ms) = ap (λ (l : List (List ℕ × Tree)). m ∷ l) (members_back ms)

pub back_trees : (ts : Trees) → trees (in_trees ts) ≡ ts
back_trees no_trees = refl
back_trees (more_trees t ts) = ap (more_trees t) (back_trees ts)

pub back_members : (ms : Members) → members (in_members ms) ≡ ms
back_members no_members = refl
back_members (more_members n t ms) = ap (more_members n t) (back_members ms)

-- ---- items, members, values

blanks_join : (ws vs : List ℕ) → AreBlanks ws → AreBlanks vs → AreBlanks (ws ++ vs)
blanks_join [] vs h k = k
blanks_join (w ∷ ws) vs h k = (h.0, blanks_join ws vs h.1 k)

module _ (Is : ℕ → List ℕ → Tree → Type 0) where
  pub item_absorbs : (ws : List ℕ) (at : ℕ) (bytes : List ℕ) (t : Tree) → AreBlanks ws → IsItem Is (at + length ws) bytes t → IsItem Is at (ws ++ bytes) t
  item_absorbs ws at bytes t b h = record {
    before = ws ++ h.before;
    text = h.text;
    behind = h.behind;
    bytes_are = ap (λ (l : List ℕ). ws ++ l) h.bytes_are ∙ sym (append_assoc ws h.before (h.text ++ h.behind));
    blanks_before = blanks_join ws h.before b h.blanks_before;
    blanks_behind = h.blanks_behind;
    value = subst (λ (n : ℕ). Is n h.text t) (omega (arith, length-append ws h.before)) h.value;
  }

  pub member_absorbs : (ws : List ℕ) (at : ℕ) (bytes : List ℕ) (m : List ℕ × Tree) → AreBlanks ws → IsMember Is (at + length ws) bytes m → IsMember Is at (ws ++ bytes) m
  member_absorbs ws at bytes m b h = record {
    before = ws ++ h.before;
    quoted = h.quoted;
    behind = h.behind;
    item = h.item;
    bytes_are = ap (λ (l : List ℕ). ws ++ l) h.bytes_are ∙ sym (append_assoc ws h.before (h.quoted ++ (h.behind ++ 58 ∷ h.item)));
    blanks_before = blanks_join ws h.before b h.blanks_before;
    blanks_behind = h.blanks_behind;
    name = h.name;
    value = subst (λ (n : ℕ). IsItem Is n h.item m.1) (omega (arith, length-append ws h.before)) h.value;
  }

module _ (value : ℕ → List ℕ → Read Tree) (Is : ℕ → List ℕ → Tree → Type 0)
    (sound : (at : ℕ) (bytes : List ℕ) (x : Tree × ℕ × List ℕ) → value at bytes ≡ Ok x → Took Is at bytes x.0 x.1 x.2) where
  pub item_took : (at : ℕ) (bytes : List ℕ) (x : Tree × ℕ × List ℕ) → item_at value at bytes ≡ Ok x → Took (IsItem Is) at bytes x.0 x.1 x.2
  unfolding item_at
  item_took at bytes x e =
      let b = blanks_took at bytes in
      let rest = past_blanks at bytes in
      let a = bind_ok (value rest.0 rest.1) (λ tree. Ok (tree.0, (past_blanks tree.1 tree.2).0, (past_blanks tree.1 tree.2).1)) x e in
      let t = sound rest.0 rest.1 a.0 a.1 in
      let c = blanks_took a.0.1 a.0.2 in
      let after = past_blanks a.0.1 a.0.2 in
      let tail : rest.1 ≡ (t.front ++ c.0) ++ after.1 = t.parts ∙ ap (λ (l : List ℕ). t.front ++ l) c.2 ∙ sym (append_assoc t.front c.0 after.1) in
      subst (λ (y : Tree × ℕ × List ℕ). Took (IsItem Is) at bytes y.0 y.1 y.2) (ok_is (a.0.0, after.0, after.1) x a.2)
      (record {
        front = b.0 ++ (t.front ++ c.0);
        parts = b.2 ∙ ap (λ (l : List ℕ). b.0 ++ l) tail ∙ sym (append_assoc b.0 (t.front ++ c.0) after.1);
        place = omega (arith, b.3, t.place, c.3, length-append b.0 (t.front ++ c.0), length-append t.front c.0);
        is = record { before = b.0; text = t.front; behind = c.0; bytes_are = refl; blanks_before = b.1; blanks_behind = c.1; value = subst (λ (n : ℕ). Is n t.front a.0.0) b.3 t.is };
      })

  abbrev pub NameTook : ℕ → List ℕ → List ℕ × ℕ × List ℕ → Type 0
  NameTook at bytes x = (before quoted behind : List ℕ) × AreBlanks before × AreBlanks behind × IsQuoted quoted x.0 × (bytes ≡ before ++ (quoted ++ (behind ++ 58 ∷ x.2))) × (x.1 ≡ at + length before + length quoted + length behind + 1)

  pub name_took : (at : ℕ) (bytes : List ℕ) (x : List ℕ × ℕ × List ℕ) → name_at at bytes ≡ Ok x → NameTook at bytes x
  unfolding name_at
  name_took at bytes x e =
      let b = blanks_took at bytes in
      let before = past_blanks at bytes in
      let a = bind_ok (word_at (34 ∷ []) before.0 before.1) (λ quote. text_at (length quote.1) quote.0 quote.1 >>= λ name. word_at (58 ∷ []) (past_blanks name.1 name.2).0 (past_blanks name.1 name.2).1 >>= λ colon. Ok (name.0, colon.0, colon.1)) x e in
      let n = bind_ok (text_at (length a.0.1) a.0.0 a.0.1) (λ name. word_at (58 ∷ []) (past_blanks name.1 name.2).0 (past_blanks name.1 name.2).1 >>= λ colon. Ok (name.0, colon.0, colon.1)) x a.2 in
      let d = blanks_took n.0.1 n.0.2 in
      let behind = past_blanks n.0.1 n.0.2 in
      let c = bind_ok (word_at (58 ∷ []) behind.0 behind.1) (λ colon. Ok (n.0.0, colon.0, colon.1)) x n.2 in
      let q = word_took (34 ∷ []) before.0 before.1 a.0 a.1 in
      let t = text_took (length a.0.1) a.0.0 a.0.1 n.0 n.1 in
      let k = word_took (58 ∷ []) behind.0 behind.1 c.0 c.1 in
      let quoted = 34 ∷ (t.body ++ 34 ∷ []) in
      let colon : n.0.2 ≡ d.0 ++ 58 ∷ c.0.1 = d.2 ∙ ap (λ (l : List ℕ). d.0 ++ l) k.0 in
      let name : before.1 ≡ quoted ++ (d.0 ++ 58 ∷ c.0.1) = q.0 ∙ ap (λ (l : List ℕ). 34 ∷ l) (t.parts ∙ sym (append_assoc t.body (34 ∷ []) n.0.2)) ∙ ap (λ (l : List ℕ). quoted ++ l) colon in
      subst (NameTook at bytes) (ok_is (n.0.0, c.0.0, c.0.1) x c.2)
      (b.0, quoted, d.0, b.1, d.1, record { body = t.body; spelled = t.is; bytes_are = refl }, b.2 ∙ ap (λ (l : List ℕ). b.0 ++ l) name, omega (arith, b.3, q.1, t.place, d.3, k.1, length-append t.body (34 ∷ [])))

  pub member_took : (at : ℕ) (bytes : List ℕ) (x : (List ℕ × Tree) × ℕ × List ℕ) → member_at value at bytes ≡ Ok x → Took (IsMember Is) at bytes x.0 x.1 x.2
  unfolding member_at
  member_took at bytes x e =
      let a = bind_ok (name_at at bytes) (λ name. item_at value name.1 name.2 >>= λ tree. Ok ((name.0, tree.0), tree.1, tree.2)) x e in
      let c = bind_ok (item_at value a.0.1 a.0.2) (λ tree. Ok ((a.0.0, tree.0), tree.1, tree.2)) x a.2 in
      let n = name_took at bytes a.0 a.1 in
      let t = item_took a.0.1 a.0.2 c.0 c.1 in
      let front = n.0 ++ (n.1 ++ (n.2 ++ 58 ∷ t.front)) in
      let behind : n.2 ++ 58 ∷ a.0.2 ≡ (n.2 ++ 58 ∷ t.front) ++ c.0.2 = ap (λ (l : List ℕ). n.2 ++ 58 ∷ l) t.parts ∙ sym (append_assoc n.2 (58 ∷ t.front) c.0.2) in
      let two : n.1 ++ (n.2 ++ 58 ∷ a.0.2) ≡ (n.1 ++ (n.2 ++ 58 ∷ t.front)) ++ c.0.2 = ap (λ (l : List ℕ). n.1 ++ l) behind ∙ sym (append_assoc n.1 (n.2 ++ 58 ∷ t.front) c.0.2) in
      subst (λ (y : (List ℕ × Tree) × ℕ × List ℕ). Took (IsMember Is) at bytes y.0 y.1 y.2) (ok_is ((a.0.0, c.0.0), c.0.1, c.0.2) x c.2)
      (record {
        front = front;
        parts = n.6 ∙ ap (λ (l : List ℕ). n.0 ++ l) two ∙ sym (append_assoc n.0 (n.1 ++ (n.2 ++ 58 ∷ t.front)) c.0.2);
        place = omega (arith, n.7, t.place, length-append n.0 (n.1 ++ (n.2 ++ 58 ∷ t.front)), length-append n.1 (n.2 ++ 58 ∷ t.front), length-append n.2 (58 ∷ t.front));
        is = record { before = n.0; quoted = n.1; behind = n.2; item = t.front; bytes_are = refl; blanks_before = n.3; blanks_behind = n.4; name = n.5; value = subst (λ (k : ℕ). IsItem Is k t.front c.0.0) n.7 t.is };
      })

  items_took : (at b : ℕ) (bs : List ℕ) (x : Kind × ℕ × List ℕ) → items_at value (at + 1) bs ≡ Ok x → b ≡ 91 → Took (IsKind (Unit {0}) Is) at (b ∷ bs) x.0 x.1 x.2
  unfolding items_at found_kind
  items_took at b bs x e left =
      let a = bind_ok (list_at (item_at value) 93 (at + 1) bs) (λ items. Ok (found_kind (List_of (trees items.0)) items.1 items.2)) x e in
      let t = list_took (item_at value) (IsItem Is) item_took (item_absorbs Is) 93 (at + 1) bs a.0 a.1 in
      subst (λ (y : Kind × ℕ × List ℕ). Took (IsKind (Unit {0}) Is) at (b ∷ bs) y.0 y.1 y.2) (ok_is (found_kind (List_of (trees a.0.0)) a.0.1 a.0.2) x a.2)
      (record {
        front = 91 ∷ (t.inner ++ 93 ∷ []);
        parts = ap (λ (c : ℕ). c ∷ bs) left ∙ ap (λ (l : List ℕ). 91 ∷ l) (t.parts ∙ sym (append_assoc t.inner (93 ∷ []) a.0.2));
        place = omega (arith, t.place, length-append t.inner (93 ∷ []));
        is = (tt, (t.inner, refl, rw (trees_back a.0.0) t.is));
      })

  members_took : (at b : ℕ) (bs : List ℕ) (x : Kind × ℕ × List ℕ) → members_at value (at + 1) bs ≡ Ok x → b ≡ 123 → Took (IsKind (Unit {0}) Is) at (b ∷ bs) x.0 x.1 x.2
  unfolding members_at found_kind
  members_took at b bs x e left =
      let a = bind_ok (list_at (member_at value) 125 (at + 1) bs) (λ named. Ok (found_kind (Object_of (members named.0)) named.1 named.2)) x e in
      let t = list_took (member_at value) (IsMember Is) member_took (member_absorbs Is) 125 (at + 1) bs a.0 a.1 in
      subst (λ (y : Kind × ℕ × List ℕ). Took (IsKind (Unit {0}) Is) at (b ∷ bs) y.0 y.1 y.2) (ok_is (found_kind (Object_of (members a.0.0)) a.0.1 a.0.2) x a.2)
      (record {
        front = 123 ∷ (t.inner ++ 125 ∷ []);
        parts = ap (λ (c : ℕ). c ∷ bs) left ∙ ap (λ (l : List ℕ). 123 ∷ l) (t.parts ∙ sym (append_assoc t.inner (125 ∷ []) a.0.2));
        place = omega (arith, t.place, length-append t.inner (125 ∷ []));
        is = (tt, (t.inner, refl, rw (members_back a.0.0) t.is));
      })

-- ---- values and documents

-- what may stand inside, with what it spells
abbrev Inners : Option (ℕ → List ℕ → Read Tree) → Type 0 → (ℕ → List ℕ → Tree → Type 0) → Type 0
Inners None Nested Is = Unit {0}
Inners (Some value) Nested Is = Nested × ((at : ℕ) (bytes : List ℕ) (x : Tree × ℕ × List ℕ) → value at bytes ≡ Ok x → Took Is at bytes x.0 x.1 x.2)

weaker : (Nested : Type 0) (Is : ℕ → List ℕ → Tree → Type 0) → Nested → (at : ℕ) (bytes : List ℕ) (k : Kind) → IsKind (Unit {0}) Is at bytes k → IsKind Nested Is at bytes k
weaker Nested Is n at bytes Null h = h
weaker Nested Is n at bytes (Bool_of true) h = h
weaker Nested Is n at bytes (Bool_of false) h = h
weaker Nested Is n at bytes (Numeral_of m p) h = h
weaker Nested Is n at bytes Wide h = h
weaker Nested Is n at bytes (Text_of s) h = h
weaker Nested Is n at bytes (List_of ts) h = (n, h.1)
weaker Nested Is n at bytes (Object_of ms) h = (n, h.1)

module _ (Nested : Type 0) (Is : ℕ → List ℕ → Tree → Type 0) where
  abbrev KindIs : ℕ → List ℕ → Kind × ℕ × List ℕ → Type 0
  KindIs at bytes x = Took (IsKind Nested Is) at bytes x.0 x.1 x.2

  nested_took : Nested → (at : ℕ) (bytes : List ℕ) (x : Kind × ℕ × List ℕ) → Took (IsKind (Unit {0}) Is) at bytes x.0 x.1 x.2 → KindIs at bytes x
  nested_took n at bytes x t = record { front = t.front; parts = t.parts; place = t.place; is = weaker Nested Is n at t.front x.0 t.is }

  list_in_took : (inner : Option (ℕ → List ℕ → Read Tree)) → Inners inner Nested Is → (at : ℕ) (bs : List ℕ) (x : Kind × ℕ × List ℕ) → list_in inner at (at + 1) bs ≡ Ok x → KindIs at (91 ∷ bs) x
  list_in_took None s at bs x e = absurd cc
  list_in_took (Some value) s at bs x e = nested_took s.0 at (91 ∷ bs) x (items_took value Is s.1 at 91 bs x e refl)

  object_in_took : (inner : Option (ℕ → List ℕ → Read Tree)) → Inners inner Nested Is → (at : ℕ) (bs : List ℕ) (x : Kind × ℕ × List ℕ) → object_in inner at (at + 1) bs ≡ Ok x → KindIs at (123 ∷ bs) x
  object_in_took None s at bs x e = absurd cc
  object_in_took (Some value) s at bs x e = nested_took s.0 at (123 ∷ bs) x (members_took value Is s.1 at 123 bs x e refl)

  kind_took : (inner : Option (ℕ → List ℕ → Read Tree)) → Inners inner Nested Is → (at : ℕ) (bytes : List ℕ) (x : Kind × ℕ × List ℕ) → kind_read inner at bytes ≡ Ok x → KindIs at bytes x
  kind_took inner s at bytes x e = by_left (byte_at 91 at bytes) refl e
    where
      by_right : (o : Option (ℕ × List ℕ)) → byte_at 123 at bytes ≡ o → if_there o (object_in inner at) (scalar_at at bytes) ≡ Ok x → KindIs at bytes x
      by_right (Some after) is h =
          let b = byte_took 123 at bytes after is in
          rw b.0 (object_in_took inner s at after.1 x (ap (λ (n : ℕ). object_in inner at n after.1) (sym b.1) ∙ h))
      by_right None is h = scalar_took Nested Is at bytes x h

      by_left : (o : Option (ℕ × List ℕ)) → byte_at 91 at bytes ≡ o → if_there o (list_in inner at) (if_there (byte_at 123 at bytes) (object_in inner at) (scalar_at at bytes)) ≡ Ok x → KindIs at bytes x
      by_left (Some after) is h =
          let b = byte_took 91 at bytes after is in
          rw b.0 (list_in_took inner s at after.1 x (ap (λ (n : ℕ). list_in inner at n after.1) (sym b.1) ∙ h))
      by_left None is h = by_right (byte_at 123 at bytes) refl h

  tree_took : (inner : Option (ℕ → List ℕ → Read Tree)) → Inners inner Nested Is → (at : ℕ) (bytes : List ℕ) (x : Tree × ℕ × List ℕ) → tree_read inner at bytes ≡ Ok x → Took (IsTree Nested Is) at bytes x.0 x.1 x.2
  tree_took inner s at bytes x e =
      let a = bind_ok (kind_read inner at bytes) (λ kind. Ok (At at kind.0, kind.1, kind.2)) x e in
      let t = kind_took inner s at bytes a.0 a.1 in
      subst (λ (y : Tree × ℕ × List ℕ). Took (IsTree Nested Is) at bytes y.0 y.1 y.2) (ok_is (At at a.0.0, a.0.1, a.0.2) x a.2)
      (record { front = t.front; parts = t.parts; place = t.place; is = (refl, t.is) })

pub value_took : (levels at : ℕ) (bytes : List ℕ) (x : Tree × ℕ × List ℕ) → value_at levels at bytes ≡ Ok x → Took (SpellsAt levels) at bytes x.0 x.1 x.2
unfolding value_at inner_at SpellsAt
value_took zero at bytes x e = tree_took ⊥ (λ _ _ _. ⊥) None tt at bytes x e
value_took (suc levels) at bytes x e = tree_took (Unit {0}) (SpellsAt levels) (Some (value_at levels)) (tt, value_took levels) at bytes x e

end_if : (t : Bool) (y : Tree × ℕ × List ℕ) (x : Tree) → eqb (length y.2) 0 ≡ t → cond t (Ok y.0) (Err (Syntax y.1)) ≡ Ok x → (y.0 ≡ x) × (y.2 ≡ [])
end_if true y x e h = (ok_is y.0 x h, nil_from_length y.2 (eqb-true (length y.2) 0 e))
end_if false y x e h = absurd cc

-- what is read is spelled so
pub document_took : (bytes : List ℕ) (t : Tree) → document_at bytes ≡ Ok t → (length bytes ≤ 33554432) × Spells 64 bytes t
unfolding document_at Spells
document_took bytes t e =
    elim (chosen (ltb 33554432 (length bytes)) _ _ _ e) [
      | inl p ↦ absurd (no_error p.1)
      | inr p ↦
          let a = bind_ok (item_at (value_at 64) 0 bytes) ended t p.1 in
          let end = end_if (eqb (length a.0.2) 0) a.0 t refl a.2 in
          let i = item_took (value_at 64) (SpellsAt 64) (value_took 64) 0 bytes a.0 a.1 in
          let all : bytes ≡ i.front = i.parts ∙ ap (λ (l : List ℕ). i.front ++ l) end.1 ∙ append-nil i.front in
          (ltb-false 33554432 (length bytes) p.0, rw all (subst (λ (u : Tree). IsItem (SpellsAt 64) 0 i.front u) end.0 i.is))
    ]
  where
    no_error : ◌≡◌ {A = Result Tree JsonFault} (Err TooLarge) (Ok t) → ⊥
    no_error h = cc

pub is_found : (bytes : List ℕ) (r : Result Json JsonFault) → Gives tree_of r (document_at bytes) → IfOk r (λ tree. (length bytes ≤ 33554432) × Spells 64 bytes (tree_of tree))
is_found bytes (Ok j) g = document_took bytes (tree_of j) g
is_found bytes (Err f) g = tt
