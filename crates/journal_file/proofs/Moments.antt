-- How the course of a file goes on from call to call.
use Rattle.std.proofs.Common.{◌≡◌, ℕ, ◌+◌, ◌≤◌, List, [], ◌∷◌, ◌++◌, length, Option}
use Rattle.std.proofs.Common.{Some, None, refl, sym, ◌∙◌, ap, subst, arith, append_assoc, IfSome}
use Rattle.std.specs.List.{AllByRecursion}
use Rattle.room_disks.specs.Crashes.{Change, Stand, Course, stands, moved, settled, IsImage, Within, Told}
use Rattle.room_disks.specs.Crashes.{Stays, Syncs, Changes, Since, AtMost, TurnedFrom}

-- ---- what is told of two and of three moments

pub told_then : (R S T : Course → Course → Type 0) → ((o m n : Course) → R o m → S m n → T o n)
    → (a b c : Option Course) → Told R a b → Told S b c → Told T a c
told_then R S T f a b None r s = tt
told_then R S T f a None (Some n) r s = absurd s
told_then R S T f None (Some m) (Some n) r s = absurd r
told_then R S T f (Some o) (Some m) (Some n) r s = f o m n r s

pub told_both : (R S T : Course → Course → Type 0) → ((o n : Course) → R o n → S o n → T o n) → (a b : Option Course)
    → Told R a b → Told S a b → Told T a b
told_both R S T f a None r s = tt
told_both R S T f None (Some n) r s = absurd r
told_both R S T f (Some o) (Some n) r s = f o n r s

pub told_weaker : (R T : Course → Course → Type 0) → ((o n : Course) → R o n → T o n) → (a b : Option Course)
    → Told R a b → Told T a b
told_weaker R T f a b r = told_both R R T (λ o n x y. f o n x) a b r r

-- with what is known of the first
pub told_from : (P : Course → Type 0) (R T : Course → Course → Type 0) → ((o n : Course) → P o → R o n → T o n)
    → (a b : Option Course) → IfSome a P → Told R a b → Told T a b
told_from P R T f a None p r = tt
told_from P R T f None (Some n) p r = absurd r
told_from P R T f (Some o) (Some n) p r = f o n p r

-- with what is known of the second
pub told_to : (P : Course → Type 0) (R T : Course → Course → Type 0) → ((o n : Course) → P n → R o n → T o n)
    → (a b : Option Course) → IfSome b P → Told R a b → Told T a b
told_to P R T f a None p r = tt
told_to P R T f None (Some n) p r = absurd r
told_to P R T f (Some o) (Some n) p r = f o n p r

-- what is known afterwards
pub told_now : (P Q : Course → Type 0) (R : Course → Course → Type 0) → ((o n : Course) → P o → R o n → Q n)
    → (a b : Option Course) → IfSome a P → Told R a b → IfSome b Q
told_now P Q R f a None p r = tt
told_now P Q R f None (Some n) p r = absurd r
told_now P Q R f (Some o) (Some n) p r = f o n p r

pub told_start : (R : Course → Course → Type 0) → ((o : Course) → R o o) → (a : Option Course) → Told R a a
told_start R f None = tt
told_start R f (Some o) = f o

-- a law of what is told
pub law_of : (P : Course → Type 0) (a : Option Course) → ((c : Course) → a ≡ Some c → P c) → IfSome a P
law_of P None law = tt
law_of P (Some c) law = law c refl

pub some_weaker : (P Q : Course → Type 0) → ((c : Course) → P c → Q c) → (a : Option Course) → IfSome a P → IfSome a Q
some_weaker P Q f None p = tt
some_weaker P Q f (Some c) p = f c p

-- ---- moments since

pub all_weaker : (P Q : Stand → Type 0) → ((s : Stand) → P s → Q s) → (xs : List Stand) → AllByRecursion P xs
    → AllByRecursion Q xs
all_weaker P Q f [] h = tt
all_weaker P Q f (x ∷ xs) h = (f x h.0, all_weaker P Q f xs h.1)

all_append : (P : Stand → Type 0) (xs ys : List Stand) → AllByRecursion P xs → AllByRecursion P ys
    → AllByRecursion P (xs ++ ys)
all_append P [] ys h k = k
all_append P (x ∷ xs) ys h k = (h.0, all_append P xs ys h.1 k)

pub since_start : (P : List ℕ → Type 0) (o : Course) → Within P o.now → Since P o o
since_start P o here = record { more = []; grew = refl; each = tt; here = here }

pub since_weaker : (P Q : List ℕ → Type 0) → ((x : List ℕ) → P x → Q x) → (o n : Course) → Since P o n → Since Q o n
since_weaker P Q f o n s = record {
  more = s.more;
  grew = s.grew;
  each = all_weaker (Within P) (Within Q) (λ t h x i. f x (h x i)) s.more s.each;
  here = λ x i. f x (s.here x i);
}

pub since_then : (P : List ℕ → Type 0) (o m n : Course) → Since P o m → Since P m n → Since P o n
since_then P o m n s t = record {
  more = t.more ++ s.more;
  grew = t.grew ∙ ap (λ l. t.more ++ l) s.grew ∙ sym (append_assoc t.more s.more (stands o));
  each = all_append (Within P) t.more s.more t.each s.each;
  here = t.here;
}

-- one call
pub since_moved : (P : List ℕ → Type 0) (o n : Course) (s : Stand) → n ≡ moved o s → Within P s → Since P o n
since_moved P o n s is here = record {
  more = s ∷ [];
  grew = ap stands is;
  each = (here, tt);
  here = subst (λ (c : Course). Within P c.now) (sym is) here;
}

pub since_stays : (P : List ℕ → Type 0) (o n : Course) → Within P o.now → Stays o n → Since P o n
since_stays P o n here is = since_moved P o n o.now is here

-- a change: each image has turned by it from an image before
pub since_changes : (change : Change) (o n : Course) → Changes change o n → Since (TurnedFrom change o) o n
since_changes change o n is =
    since_moved (TurnedFrom change o) o n
    (record { reads = n.now.reads; synced = o.now.synced; changes = change ∷ o.now.changes }) is (λ x i. i)

-- a sync that succeeded, where what a read gives has P
pub since_syncs : (P : List ℕ → Type 0) (o n : Course) → P o.now.reads → Syncs o n → Since P o n
since_syncs P o n here is = since_moved P o n (settled o.now.reads) is (λ x i. subst P (sym i) here)

-- a change and a sync that failed
pub changes_stays : (change : Change) (o m n : Course) → Changes change o m → Stays m n
    → Since (TurnedFrom change o) o n
changes_stays change o m n c s =
    let first = since_changes change o m c in
    since_then (TurnedFrom change o) o m n first (since_stays (TurnedFrom change o) m n first.here s)

-- a change and a sync
pub changes_syncs : (change : Change) (o m n : Course) → IsImage m.now m.now.reads → Changes change o m → Syncs m n
    → Since (TurnedFrom change o) o n
changes_syncs change o m n image c s =
    let first = since_changes change o m c in
    since_then (TurnedFrom change o) o m n first (since_syncs (TurnedFrom change o) m n
    (first.here m.now.reads image) s)

-- ---- how many calls

pub one_call : (s : Stand) (o n : Course) → n ≡ moved o s → length n.past ≡ length o.past + 1
one_call s o n is = ap (λ (c : Course). length c.past) is ∙ omega arith

pub changes_calls : (change : Change) (o n : Course) → Changes change o n → AtMost 1 o n
changes_calls change o n is = ap_le o n (one_call
    (record { reads = n.now.reads; synced = o.now.synced; changes = change ∷ o.now.changes }) o n is)
  where
    ap_le : (a b : Course) → length b.past ≡ length a.past + 1 → length b.past ≤ length a.past + 1
    ap_le a b e = omega (arith, e)

pub stays_calls : (o n : Course) → Stays o n → AtMost 1 o n
stays_calls o n is = let e = one_call o.now o n is in omega (arith, e)

pub syncs_calls : (o n : Course) → Syncs o n → AtMost 1 o n
syncs_calls o n is = let e = one_call (settled o.now.reads) o n is in omega (arith, e)

pub calls_then : (j k : ℕ) (o m n : Course) → AtMost j o m → AtMost k m n → AtMost (j + k) o n
calls_then j k o m n a b = omega (arith, a, b)

-- ---- a change that is synced at once, as told

module _ (change : Change) (a b c : Option Course) where
  pub told_changed : Told (Changes change) a b → Told (λ o n. Since (TurnedFrom change o) o n) a b
  told_changed r = told_weaker (Changes change) (λ o n. Since (TurnedFrom change o) o n)
      (λ o n h. since_changes change o n h) a b r

  pub told_not_synced : Told (Changes change) a b → Told Stays b c → Told (λ o n. Since (TurnedFrom change o) o n) a c
  told_not_synced r s = told_then (Changes change) Stays (λ o n. Since (TurnedFrom change o) o n)
      (λ o m n x y. changes_stays change o m n x y) a b c r s

  pub told_synced : IfSome b (λ m. IsImage m.now m.now.reads) → Told (Changes change) a b → Told Syncs b c
      → Told (λ o n. Since (TurnedFrom change o) o n) a c
  told_synced image r s =
      told_then (λ o m. IsImage m.now m.now.reads × Changes change o m) Syncs (λ o n. Since (TurnedFrom change o) o n)
      (λ o m n x y. changes_syncs change o m n x.0 x.1 y) a b c
      (told_to (λ m. IsImage m.now m.now.reads) (Changes change) (λ o m. IsImage m.now m.now.reads × Changes change o m)
      (λ o m i x. (i, x)) a b image r) s

  pub told_one : Told (Changes change) a b → Told (AtMost 2) a b
  told_one r = told_weaker (Changes change) (AtMost 2) (λ o n h. let e = changes_calls change o n h in
      omega (arith, e)) a b r

  pub told_two_stays : Told (Changes change) a b → Told Stays b c → Told (AtMost 2) a c
  told_two_stays r s = told_then (Changes change) Stays (AtMost 2)
      (λ o m n x y. calls_then 1 1 o m n (changes_calls change o m x) (stays_calls m n y)) a b c r s

  pub told_two_syncs : Told (Changes change) a b → Told Syncs b c → Told (AtMost 2) a c
  told_two_syncs r s = told_then (Changes change) Syncs (AtMost 2)
      (λ o m n x y. calls_then 1 1 o m n (changes_calls change o m x) (syncs_calls m n y)) a b c r s

pub told_settled : (f : List ℕ → List ℕ) (a b c : Option Course) → Told (λ o m. m.now.reads ≡ f o.now.reads) a b
    → Told Syncs b c → Told (λ o n. n.now ≡ settled (f o.now.reads)) a c
told_settled f a b c w s = told_then (λ o m. m.now.reads ≡ f o.now.reads) Syncs (λ o n. n.now ≡ settled (f o.now.reads))
    (λ o m n x y. ap (λ (k : Course). k.now) y ∙ ap settled x) a b c w s
