-- What a stream tells, and what a list comes to by it.
use Rattle.std.proofs.Common.{◌≡◌, ℕ, zero, suc, ◌<◌, inl, inr, List, [], ◌∷◌, ◌++◌, false, true, Option, Some, None, length, slice_get, refl, sym, ap, ◌∙◌, subst, arith, append_assoc}
use Rattle.std.specs.Prelude.{codes, decimal}
use Rattle.std.proofs.lemmas.List.{append-nil}
use Rattle.std.proofs.lemmas.Option.{slice_get_within}
use Rattle.cut_mirror.specs.Following.{Follows, GoesOn}
use Rattle.journal_text.specs.NewsTexts.{there_text}
use Rattle.journal_text.specs.declared.news_reply.News.{News}
use Rattle.journal_text.proofs.NewsLaws.{one_news}
use Rattle.cut_steps.specs.CutSteps.{CutStep}
use Rattle.line_table.proofs.WrittenParts.{IsWord-tested}
use Rattle.line_words.specs.Blanks.{words_of}
use Rattle.line_words.specs.Lines.{Line as InputLine}
use Rattle.line_words.proofs.WordLaws.{words_of-word}
use Rattle.room_core.specs.declared.entry.Entry.{Entry}
use Rattle.follow_command.specs.Fronts.{IsFront}
use Rattle.follow_command.specs.NewsLines.{IsNewsLine, Item, NewsOf, Tells, entry_before, is_news_line, item_before, leads_news}

-- ---- what lines tell

before_more : (place : ℕ) (entry : Option (Entry CutStep)) (xs ys : List Item) → item_before place entry (xs ++ ys) ≡ item_before place entry xs ++ ys
before_more place None xs ys = refl
before_more place (Some e) xs ys = refl

-- what lines tell is what the first of them tell, and then the others
pub record Parted (xs ys : List InputLine) (items : List Item) : Type 0 where
  pub first : List Item
  pub others : List Item
  pub told_first : NewsOf xs first
  pub told_others : NewsOf ys others
  pub are : items ≡ first ++ others

parted_by : (line : InputLine) (xs ys : List InputLine) (items after : List Item) → Tells line after items → Parted xs ys after → Parted (line ∷ xs) ys items
parted_by line xs ys items after (inl t) p = record {
  first = p.first;
  others = p.others;
  told_first = (p.first, p.told_first, inl (t.0, refl));
  told_others = p.told_others;
  are = t.1 ∙ p.are;
}
parted_by line xs ys items after (inr t) p = record {
  first = entry_before t.0 p.first;
  others = p.others;
  told_first = (p.first, p.told_first, inr (t.0, t.1, refl));
  told_others = p.told_others;
  are = t.2 ∙ (ap (entry_before t.0) p.are ∙ before_more t.0.place t.0.entry p.first p.others);
}

pub parted : (xs ys : List InputLine) (items : List Item) → NewsOf (xs ++ ys) items → Parted xs ys items
parted [] ys items h = record { first = []; others = items; told_first = refl; told_others = h; are = refl }
parted (line ∷ xs) ys items h = parted_by line xs ys items h.0 h.2 (parted xs ys h.0 h.1)

-- the text of news begins with the word `news`
news_word : (place count : List ℕ) → leads_news (words_of (codes "news " ++ place ++ count)) ≡ true
news_word place count = ap leads_news (words_of-word (codes "news") 32 (place ++ count) (IsWord-tested (codes "news") refl) refl)

pub leads : (line : InputLine) (news : News) → IsNewsLine line news → is_news_line line ≡ true
leads line news h = ap is_news_line h.text ∙ news_word (decimal news.place) (codes " " ++ decimal news.length ++ there_text news.entry)

pub not_passed : (line : InputLine) (news : News) → is_news_line line ≡ false → IsNewsLine line news → ⊥
not_passed line news passed h = let both = sym passed ∙ leads line news h in absurd (Prim.grind (arith, both))

pub same_news : (line : InputLine) (news other : News) → IsNewsLine line news → IsNewsLine line other → news ≡ other
same_news line news other h k = one_news news other h.sound k.sound (same_text _ _ (sym h.text ∙ k.text))
  where
    same_text : (a b : List ℕ) → ◌≡◌ {A = InputLine} (Some a) (Some b) → a ≡ b
    same_text a b is = Prim.grind (arith, is)

one_told : (line : InputLine) (after items other : List Item) → Tells line after items → Tells line after other → items ≡ other
one_told line after items other (inl t) (inl u) = t.1 ∙ sym u.1
one_told line after items other (inl t) (inr u) = absurd (not_passed line u.0 t.0 u.1)
one_told line after items other (inr t) (inl u) = absurd (not_passed line t.0 u.0 t.1)
one_told line after items other (inr t) (inr u) =
    t.2 ∙ (ap (λ (n : News). entry_before n after) (same_news line t.0 u.0 t.1 u.1) ∙ sym u.2)

-- lines tell one list
pub one_list : (lines : List InputLine) (items other : List Item) → NewsOf lines items → NewsOf lines other → items ≡ other
one_list [] items other h k = h ∙ sym k
one_list (line ∷ lines) items other h k =
    one_told line k.0 items other (subst (λ (after : List Item). Tells line after items) (one_list lines h.0 k.0 h.1 k.1) h.2) k.2

-- ---- what a list comes to

pub record Between {C : Type 0} (before : List (Entry C)) (xs ys : List (ℕ × Entry C)) (after : List (Entry C)) : Type 0 where
  pub there : List (Entry C)
  pub first : Follows before xs there
  pub others : Follows there ys after

pub between : {C : Type 0} (before after : List (Entry C)) (xs ys : List (ℕ × Entry C)) → Follows before (xs ++ ys) after → Between before xs ys after
between before after [] ys h = record { there = before; first = refl; others = h }
between before after (x ∷ xs) ys h =
    let b = between h.0 after xs ys h.2 in record { there = b.there; first = (h.0, h.1, b.first); others = b.others }

-- it begins with what it was
begins_by : {C : Type 0} (before next after : List (Entry C)) (place : ℕ) (e : Entry C) → GoesOn before place e next → IsFront next after → IsFront before after
begins_by before next after place e (inl g) f = (f.0, f.1 ∙ ap (λ (x : List (Entry _)). x ++ f.0) g.1)
begins_by before next after place e (inr g) f =
    (e ∷ f.0, f.1 ∙ (ap (λ (x : List (Entry _)). x ++ f.0) g.1 ∙ append_assoc before (e ∷ []) f.0))

pub begins : {C : Type 0} (before after : List (Entry C)) (items : List (ℕ × Entry C)) → Follows before items after → IsFront before after
begins before after [] h = ([], h ∙ sym (append-nil before))
begins before after (item ∷ items) h = begins_by before h.0 after item.0 item.1 h.1 (begins h.0 after items h.2)

-- the entry by which it went on stands at its place
stands_on : {A : Type 0} (xs ys : List A) (k : ℕ) (x : A) → slice_get xs k ≡ Some x → slice_get (xs ++ ys) k ≡ Some x
stands_on [] ys k x h = absurd (Prim.grind (arith, h))
stands_on (y ∷ xs) ys zero x h = h
stands_on (y ∷ xs) ys (suc k) x h = stands_on xs ys k x h

stands_last : {A : Type 0} (xs : List A) (x : A) → slice_get (xs ++ x ∷ []) (length xs) ≡ Some x
stands_last [] x = refl
stands_last (y ∷ xs) x = stands_last xs x

pub stands : {C : Type 0} (before next after : List (Entry C)) (place : ℕ) (e : Entry C) → GoesOn before place e next → IsFront next after
    → slice_get after place ≡ Some e
stands before next after place e g f = ap (λ (x : List (Entry _)). slice_get x place) f.1 ∙ stands_on next f.0 place e (there g)
  where
    there : GoesOn before place e next → slice_get next place ≡ Some e
    there (inl h) = ap (λ (x : List (Entry _)). slice_get x place) h.1 ∙ h.0
    there (inr h) = ap (λ (x : List (Entry _)). slice_get x place) h.1 ∙ (ap (slice_get (before ++ e ∷ [])) h.0 ∙ stands_last before e)

-- and the place is not past the end
pub not_past : {C : Type 0} (before next : List (Entry C)) (place : ℕ) (e : Entry C) → GoesOn before place e next → length before < place → ⊥
not_past before next place e (inl g) far = let low = slice_get_within before place e g.0 in omega (arith, low, far)
not_past before next place e (inr g) far = let at = g.0 in omega (arith, at, far)
