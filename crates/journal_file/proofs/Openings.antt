-- How a file is read and its end settled.
use Rattle.std.proofs.Common.{◌≡◌, inl, inr, ℕ, ◌+◌, ◌<◌, ◌≤◌, ◌^◌, List, [], ◌∷◌, ◌++◌, length, take}
use Rattle.std.proofs.Common.{drop, Option, Some, None, refl, sym, ◌∙◌, ap, subst, arith, append_assoc, length-append}
use Rattle.std.proofs.Common.{take-append-drop, IfSome}
use Rattle.std.proofs.lemmas.List.{append-nil, drop_at, drop_all}
use Rattle.journal_file.specs.declared.faults.OpenFault.{OpenFault}
use Rattle.journal_file.specs.declared.faults.OpenFault.TheVariants.{Failed, TooLarge, Damaged, TooMany, Memory}
use Rattle.journal_file.specs.declared.stage.Stage.TheVariants.{Settled}
use Rattle.room_disks.specs.Crashes.{Range, Cut, Stand, Course, settled, IsImage, Within}
use Rattle.room_disks.specs.Crashes.{Told, Stays, Syncs, written, Since, TurnedFrom}
use Rattle.journal_file.specs.Layout.{front_of, Kept, IsDamagedAt}
use Rattle.journal_file.specs.Reading.{HasGateAt, IsReadFault}
use Rattle.journal_file.specs.Stages.{Stands, HasRead}
use Rattle.journal_file.specs.Standing.{KeepsRecords, HasTooMany, Explains, HarmsNothing}
use Rattle.journal_file.proofs.Moments.{told_then, told_both, told_weaker, told_from, told_to, told_now, told_start}
use Rattle.journal_file.proofs.Moments.{since_start, since_weaker, since_then, since_stays, since_syncs}
use Rattle.journal_file.proofs.Frames.{written_within, cut_behind}
use Rattle.journal_file.proofs.Files.{kept_behind, open_gate}

-- ---- reading

pub read_nothing : (o : Course) → HasRead [] o o
read_nothing o = record {
  same = refl;
  since = since_start (IsImage o.now) o (λ x i. i);
  rest = o.now.reads;
  split = refl;
}

pub forget_read : (bytes : List ℕ) (o n : Course) → HasRead bytes o n → HasRead [] o n
forget_read bytes o n h = record { same = h.same; since = h.since; rest = o.now.reads; split = refl }

still : (o m n : Course) → m.now ≡ o.now → Stays m n → n.now ≡ o.now
still o m n same s = ap (λ (c : Course). c.now) s ∙ same

since_still : (o m n : Course) → m.now ≡ o.now → Since (IsImage o.now) o m → Stays m n → Since (IsImage o.now) o n
since_still o m n same since s = since_then (IsImage o.now) o m n since (since_stays (IsImage o.now) m n since.here s)

pub read_stays : (bytes : List ℕ) (o m n : Course) → HasRead bytes o m → Stays m n → HasRead bytes o n
read_stays bytes o m n h s = record {
  same = still o m n h.same s;
  since = since_still o m n h.same h.since s;
  rest = h.rest;
  split = h.split;
}

left_to_read : (bytes : List ℕ) (o m : Course) → (h : HasRead bytes o m) → drop (length bytes) m.now.reads ≡ h.rest
left_to_read bytes o m h = ap (λ (s : Stand). drop (length bytes) s.reads) h.same ∙ ap (drop (length bytes)) h.split
    ∙ drop_at bytes h.rest (length bytes) refl

pub read_more : (bytes into : List ℕ) (k : ℕ) (o m n : Course) → HasRead bytes o m
    → take k into ≡ take k (drop (length bytes) m.now.reads) → Stays m n → HasRead (bytes ++ take k into) o n
read_more bytes into k o m n h got s = record {
  same = still o m n h.same s;
  since = since_still o m n h.same h.since s;
  rest = drop k h.rest;
  split = h.split ∙ (ap (λ t. bytes ++ t) (sym (take-append-drop k h.rest))
      ∙ (sym (append_assoc bytes (take k h.rest) (drop k h.rest))
      ∙ ap (λ t. (bytes ++ t) ++ drop k h.rest) (sym (got ∙ ap (take k) (left_to_read bytes o m h)))));
}

empty : (xs : List ℕ) → length xs ≡ 0 → xs ≡ []
empty [] e = refl
empty (x ∷ xs) e = absurd (omega (arith, e))

pub read_end : (bytes : List ℕ) (o m : Course) → HasRead bytes o m → length m.now.reads ≤ length bytes
    → bytes ≡ o.now.reads
read_end bytes o m h le =
    let e = ap (λ (s : Stand). length s.reads) h.same in
    let none = empty h.rest (omega (arith, le, e, ap length h.split, length-append bytes h.rest)) in
    sym (h.split ∙ (ap (λ t. bytes ++ t) none ∙ append-nil bytes))

pub read_long : (bytes : List ℕ) (o m : Course) (n : ℕ) → HasRead bytes o m → n < length bytes → n < length o.now.reads
read_long bytes o m n h lt = omega (arith, lt, ap length h.split, length-append bytes h.rest)

-- ---- a settled file

pub only_settled : (bytes : List ℕ) (s : Stand) → s ≡ settled bytes → Within (λ x. x ≡ bytes) s
only_settled bytes s is = subst (λ (t : Stand). Within (λ x. x ≡ bytes) t) (sym is) (λ x i. i)

pub new_short : (bytes image : List ℕ) (c : Course) → c.now ≡ settled bytes → length bytes ≤ 19
    → TurnedFrom (Range 0 19) c image → Kept image []
new_short bytes image c is short (before, was, torn) =
    let same = only_settled bytes c.now is before was in
    inl (omega (arith, torn.no_longer, ap length same, short), refl)

new_file : (bytes new : List ℕ) → length new ≡ 19 → length bytes ≤ 19 → written 0 new bytes ≡ new
new_file bytes new long short = written_within 0 new bytes (omega arith)
    ∙ (ap (λ t. new ++ t) (drop_all (0 + length new) bytes (omega (arith, long, short))) ∙ append-nil new)

pub stands_new : (bytes new : List ℕ) (o n : Course) → new ≡ front_of [] ++ 45 ∷ [] → length new ≡ 19
    → length bytes ≤ 19 → o.now ≡ settled bytes → n.now ≡ settled (written 0 new o.now.reads) → Stands Settled [] [] n
stands_new bytes new o n form long short was is = (
  45,
  open_gate,
  λ x i. (
    [],
    only_settled (front_of [] ++ 45 ∷ []) n.now
        (is ∙ ap settled (ap (λ (s : Stand). written 0 new s.reads) was ∙ (new_file bytes new long short ∙ form))) x i,
  ),
)

pub cut_keeps : (bytes : List ℕ) (lines : List (List ℕ)) (at : ℕ) (c : Course) (image : List ℕ)
    → HasGateAt bytes lines at → c.now ≡ settled bytes → TurnedFrom (Cut (at + 1)) c image → Kept image lines
cut_keeps bytes lines at c image h is (before, was, inl same) =
    kept_behind lines h.has.gate h.has.rest image h.has.are_lines h.has.closed
    (same ∙ (only_settled bytes c.now is before was ∙ h.has.parts))
cut_keeps bytes lines at c image h is (before, was, inr cut) =
    kept_behind lines h.has.gate [] image h.has.are_lines h.has.closed
    (cut ∙ (ap (take (at + 1)) (only_settled bytes c.now is before was ∙ h.has.parts)
    ∙ cut_behind (front_of lines) at h.place h.has.gate h.has.rest))

pub stands_cut : (bytes : List ℕ) (lines : List (List ℕ)) (at : ℕ) (o n : Course) → HasGateAt bytes lines at
    → o.now ≡ settled bytes → n.now ≡ settled (take (at + 1) o.now.reads) → Stands Settled lines [] n
stands_cut bytes lines at o n h was is = (
  h.has.gate,
  h.has.closed,
  λ x i. (
    [],
    only_settled (front_of lines ++ h.has.gate ∷ []) n.now
        (is ∙ ap settled (ap (λ (s : Stand). take (at + 1) s.reads) was
        ∙ (ap (take (at + 1)) h.has.parts ∙ cut_behind (front_of lines) at h.place h.has.gate h.has.rest))) x i,
  ),
)

-- a fault of reading the bytes of a settled file
pub read_fault : (bytes : List ℕ) (e : OpenFault) (a : Option Course) → length bytes ≤ 2 ^ 27 → IsReadFault bytes e
    → IfSome a (λ c. c.now ≡ settled bytes) → Explains e a a
read_fault bytes Failed a short h is = tt
read_fault bytes TooLarge a short h is = absurd h
read_fault bytes (Damaged at) None short h is = tt
read_fault bytes (Damaged at) (Some c) short h is = subst (λ (s : Stand). (length s.reads ≤ 2 ^ 27)
    × IsDamagedAt s.reads at) (sym is) (short, h)
read_fault bytes (TooMany count) None short h is = tt
read_fault bytes (TooMany count) (Some c) short h is = subst (λ (s : Stand). (length s.reads ≤ 2 ^ 27)
    × HasTooMany s.reads count) (sym is) (short, h)
read_fault bytes Memory a short h is = tt

-- the same seen from a sync before
pub explains_from : (e : OpenFault) (a b c : Option Course) → Told (λ o n. n.now.reads ≡ o.now.reads) a b
    → Explains e b c → Explains e a c
explains_from Failed a b c same h = tt
explains_from TooLarge a b c same h = told_then (λ o n. n.now.reads ≡ o.now.reads) (λ o n. 2 ^ 27 < length o.now.reads)
    (λ o n. 2 ^ 27 < length o.now.reads) (λ o m n s l. subst (λ xs. 2 ^ 27 < length xs) s l) a b c same h
explains_from (Damaged at) a b c same h = told_then (λ o n. n.now.reads ≡ o.now.reads)
    (λ o n. (length o.now.reads ≤ 2 ^ 27) × IsDamagedAt o.now.reads at)
    (λ o n. (length o.now.reads ≤ 2 ^ 27) × IsDamagedAt o.now.reads at)
    (λ o m n s l. subst (λ xs. (length xs ≤ 2 ^ 27) × IsDamagedAt xs at) s l) a b c same h
explains_from (TooMany count) a b c same h = told_then (λ o n. n.now.reads ≡ o.now.reads)
    (λ o n. (length o.now.reads ≤ 2 ^ 27) × HasTooMany o.now.reads count)
    (λ o n. (length o.now.reads ≤ 2 ^ 27) × HasTooMany o.now.reads count)
    (λ o m n s l. subst (λ xs. (length xs ≤ 2 ^ 27) × HasTooMany xs count) s l) a b c same h
explains_from Memory a b c same h = tt

-- ---- reading, as told

pub told_read_start : (a : Option Course) → Told (HasRead []) a a
told_read_start a = told_start (HasRead []) read_nothing a

pub told_forget : (bytes : List ℕ) (a b : Option Course) → Told (HasRead bytes) a b → Told (HasRead []) a b
told_forget bytes a b h = told_weaker (HasRead bytes) (HasRead []) (λ o n x. forget_read bytes o n x) a b h

pub told_read_stays : (bytes : List ℕ) (a b c : Option Course) → Told (HasRead bytes) a b → Told Stays b c
    → Told (HasRead bytes) a c
told_read_stays bytes a b c h s = told_then (HasRead bytes) Stays (HasRead bytes)
    (λ o m n x y. read_stays bytes o m n x y) a b c h s

pub told_read_more : (bytes into : List ℕ) (k : ℕ) (a b c : Option Course) → Told (HasRead bytes) a b
    → IfSome b (λ m. take k into ≡ take k (drop (length bytes) m.now.reads)) → Told Stays b c
    → Told (HasRead (bytes ++ take k into)) a c
told_read_more bytes into k a b c h got s =
    told_then (λ o m. (take k into ≡ take k (drop (length bytes) m.now.reads)) × HasRead bytes o m) Stays
    (HasRead (bytes ++ take k into)) (λ o m n x y. read_more bytes into k o m n x.1 x.0 y) a b c
    (told_to (λ m. take k into ≡ take k (drop (length bytes) m.now.reads)) (HasRead bytes)
    (λ o m. (take k into ≡ take k (drop (length bytes) m.now.reads)) × HasRead bytes o m) (λ o m g x. (g, x)) a
    b got h) s

pub told_read_more_at : (bytes into : List ℕ) (k at : ℕ) (a b c : Option Course) → at ≡ length bytes
    → Told (HasRead bytes) a b → IfSome b (λ m. take k into ≡ take k (drop at m.now.reads)) → Told Stays b c
    → Told (HasRead (bytes ++ take k into)) a c
told_read_more_at bytes into k at a b c e h got s = told_read_more bytes into k a b c h
    (subst (λ n. IfSome b (λ m. take k into ≡ take k (drop n m.now.reads))) e got) s

pub told_read_end : (bytes : List ℕ) (a b c : Option Course) → Told (HasRead bytes) a b
    → IfSome b (λ m. length m.now.reads ≤ length bytes) → Told Stays b c → Told (λ o n. bytes ≡ o.now.reads) a c
told_read_end bytes a b c h end s =
    told_then (λ o m. bytes ≡ o.now.reads) Stays (λ o n. bytes ≡ o.now.reads) (λ o m n x y. x) a b c
    (told_to (λ m. length m.now.reads ≤ length bytes) (HasRead bytes) (λ o m. bytes ≡ o.now.reads)
    (λ o m g x. read_end bytes o m x g) a b end h) s

pub told_read_long : (bytes : List ℕ) (limit : ℕ) (a b : Option Course) → limit < length bytes
    → Told (HasRead bytes) a b → Told (λ o n. limit < length o.now.reads) a b
told_read_long bytes limit a b lt h = told_weaker (HasRead bytes) (λ o n. limit < length o.now.reads)
    (λ o n x. read_long bytes o n limit x lt) a b h

pub told_long : (limit n : ℕ) (a b : Option Course) → limit < n → IfSome a (λ c. n ≡ length c.now.reads)
    → Told Stays a b → Told (λ o m. limit < length o.now.reads) a b
told_long limit n a b lt is s = told_from (λ c. n ≡ length c.now.reads) Stays (λ o m. limit < length o.now.reads)
    (λ o m e x. omega (arith, e, lt)) a b is s

-- ---- an opening, as told

pub told_settled_by : (bytes : List ℕ) (a b c : Option Course) → Told Syncs a b → Told (HasRead []) b c
    → Told (λ o n. bytes ≡ o.now.reads) b c → IfSome c (λ n. n.now ≡ settled bytes)
told_settled_by bytes a b None s h w = tt
told_settled_by bytes a None (Some n) s h w = absurd h
told_settled_by bytes None (Some m) (Some n) s h w = absurd s
told_settled_by bytes (Some o) (Some m) (Some n) s h w =
    h.same ∙ (let e : m.now ≡ settled o.now.reads = ap (λ (k : Course). k.now) s in
    e ∙ ap settled (sym (w ∙ ap (λ (t : Stand). t.reads) e)))

pub told_reads : (bytes : List ℕ) (a b c : Option Course) → Told Syncs a b → Told (λ o n. bytes ≡ o.now.reads) b c
    → Told (λ o n. bytes ≡ o.now.reads) a c
told_reads bytes a b c s w = told_then Syncs (λ o n. bytes ≡ o.now.reads) (λ o n. bytes ≡ o.now.reads)
    (λ o m n x y. y ∙ ap (λ (k : Course). k.now.reads) x) a b c s w

pub told_syncs_same : (a b : Option Course) → Told Syncs a b → Told (λ o n. n.now.reads ≡ o.now.reads) a b
told_syncs_same a b s = told_weaker Syncs (λ o n. n.now.reads ≡ o.now.reads)
    (λ o n x. ap (λ (k : Course). k.now.reads) x) a b s

pub told_same_then : (a b c : Option Course) → Told Syncs a b → Told (HasRead []) b c
    → Told (λ o n. n.now.reads ≡ o.now.reads) a c
told_same_then a b c s h = told_then Syncs (HasRead []) (λ o n. n.now.reads ≡ o.now.reads)
    (λ o m n x y. ap (λ (t : Stand). t.reads) y.same ∙ ap (λ (k : Course). k.now.reads) x) a b c s h

-- from a sync on, where what a read gives has P
pub since_opened : (P : List ℕ → Type 0) (o m n : Course) → P o.now.reads → Syncs o m → HasRead [] m n → Since P o n
since_opened P o m n here s h =
    let e : m.now ≡ settled o.now.reads = ap (λ (k : Course). k.now) s in
    since_then P o m n (since_syncs P o m here s)
    (since_weaker (IsImage m.now) P (λ x i. subst P (sym (only_settled o.now.reads m.now e x i)) here) m n h.since)

pub told_opened : (P : List ℕ → Type 0) (bytes : List ℕ) (a b c d : Option Course) → P bytes → Told Syncs a b
    → Told (HasRead []) b c → Told (λ o n. bytes ≡ o.now.reads) b c → Told (Since P) c d → Told (Since P) a d
told_opened P bytes a b c d here s h w t =
    told_then (Since P) (Since P) (Since P) (λ o m n x y. since_then P o m n x y) a c d
    (told_then Syncs (λ m n. HasRead [] m n × (bytes ≡ m.now.reads)) (Since P)
    (λ o m n x y. since_opened P o m n (subst P (y.1 ∙ ap (λ (k : Course). k.now.reads) x) here) x y.0) a b c s
    (told_both (HasRead []) (λ m n. bytes ≡ m.now.reads) (λ m n. HasRead [] m n × (bytes ≡ m.now.reads))
    (λ m n x y. (x, y)) b c h w)) t

-- the same where reading failed
pub told_only_read : (a b c : Option Course) → Told Syncs a b → Told (HasRead []) b c → Told HarmsNothing a c
told_only_read a b c s h =
    told_then Syncs (HasRead []) HarmsNothing (λ o m n x y. inr
    (since_opened (KeepsRecords o.now.reads) o m n (inl refl) x y)) a b c s h

pub told_not_opened : (a b : Option Course) → Told Stays a b → Told HarmsNothing a b
told_not_opened a b s = told_weaker Stays HarmsNothing (λ o n x. inl x) a b s

-- and where the end could not be settled
pub told_not_settled : (bytes : List ℕ) (a b c d : Option Course) → Told Syncs a b → Told (HasRead []) b c
    → Told (λ o n. bytes ≡ o.now.reads) b c → Told (Since (KeepsRecords bytes)) c d → Told HarmsNothing a d
told_not_settled bytes a b c d s h w t =
    told_both (Since (KeepsRecords bytes)) (λ o n. bytes ≡ o.now.reads) HarmsNothing
    (λ o n x y. inr (subst (λ xs. Since (KeepsRecords xs) o n) y x)) a d
    (told_opened (KeepsRecords bytes) bytes a b c d (inl refl) s h w t)
    (told_then (λ o n. bytes ≡ o.now.reads) (Since (KeepsRecords bytes)) (λ o n. bytes ≡ o.now.reads) (λ o m n x y. x) a
    c d (told_reads bytes a b c s w) t)

-- the records of the file as it was
pub told_kept : (bytes : List ℕ) (lines : List (List ℕ)) (a b c d : Option Course) → Kept bytes lines → Told Syncs a b
    → Told (λ o n. bytes ≡ o.now.reads) b c → Told (Since (λ image. Kept image lines)) c d
    → Told (λ o n. Kept o.now.reads lines) a d
told_kept bytes lines a b c d kept s w t =
    told_then (λ o n. bytes ≡ o.now.reads) (Since (λ image. Kept image lines)) (λ o n. Kept o.now.reads lines)
    (λ o m n x y. subst (λ xs. Kept xs lines) x kept) a c d (told_reads bytes a b c s w) t

-- and how long it was
pub told_within : (P : List ℕ → Type 0) (bytes : List ℕ) (a b c d : Option Course) → length bytes ≤ 2 ^ 27
    → Told Syncs a b → Told (λ o n. bytes ≡ o.now.reads) b c → Told (Since P) c d
    → Told (λ o n. length o.now.reads ≤ 2 ^ 27) a d
told_within P bytes a b c d short s w t =
    told_then (λ o n. bytes ≡ o.now.reads) (Since P) (λ o n. length o.now.reads ≤ 2 ^ 27)
    (λ o m n x y. subst (λ xs. length xs ≤ 2 ^ 27) x short) a c d (told_reads bytes a b c s w) t

-- ---- the end of a settled file, as told

module _ (bytes : List ℕ) (a : Option Course) (is : IfSome a (λ c. c.now ≡ settled bytes)) where
  module _ (new : List ℕ) (long : length new ≡ 19) (short : length bytes ≤ 19) (b : Option Course) where
    turned_new : (o : Course) → o.now ≡ settled bytes → (x : List ℕ) → TurnedFrom (Range 0 (length new)) o x → Kept x []
    turned_new o was x t = new_short bytes x o was short (subst (λ n. TurnedFrom (Range 0 n) o x) long t)

    pub told_new_moments : Told (λ o n. Since (TurnedFrom (Range 0 (length new)) o) o n) a b
        → Told (Since (λ image. Kept image [])) a b
    told_new_moments s = told_from (λ c. c.now ≡ settled bytes) (λ o n. Since (TurnedFrom (Range 0 (length new)) o) o n)
        (Since (λ image. Kept image []))
        (λ o n was x. since_weaker (TurnedFrom (Range 0 (length new)) o) (λ image. Kept image []) (turned_new o was) o n
        x) a b is s

    pub told_new_harmless : Told (λ o n. Since (TurnedFrom (Range 0 (length new)) o) o n) a b
        → Told (Since (KeepsRecords bytes)) a b
    told_new_harmless s = told_from (λ c. c.now ≡ settled bytes)
        (λ o n. Since (TurnedFrom (Range 0 (length new)) o) o n) (Since (KeepsRecords bytes))
        (λ o n was x. since_weaker (TurnedFrom (Range 0 (length new)) o) (KeepsRecords bytes)
        (λ y t. inr ([], inl (short, refl), turned_new o was y t)) o n x) a b is s

    pub told_new_stands : new ≡ front_of [] ++ 45 ∷ [] → Told (λ o n. n.now ≡ settled (written 0 new o.now.reads)) a b
        → IfSome b (Stands Settled [] [])
    told_new_stands form s = told_now (λ c. c.now ≡ settled bytes) (Stands Settled [] [])
        (λ o n. n.now ≡ settled (written 0 new o.now.reads))
        (λ o n was x. stands_new bytes new o n form long short was x) a b is s

  module _ (lines : List (List ℕ)) (at : ℕ) (has : HasGateAt bytes lines at) (long : 19 < length bytes)
      (b : Option Course) where
    pub told_cut_moments : Told (λ o n. Since (TurnedFrom (Cut (at + 1)) o) o n) a b
        → Told (Since (λ image. Kept image lines)) a b
    told_cut_moments s = told_from (λ c. c.now ≡ settled bytes) (λ o n. Since (TurnedFrom (Cut (at + 1)) o) o n)
        (Since (λ image. Kept image lines))
        (λ o n was x. since_weaker (TurnedFrom (Cut (at + 1)) o) (λ image. Kept image lines)
        (λ y t. cut_keeps bytes lines at o y has was t) o n x) a b is s

    pub told_cut_harmless : Told (λ o n. Since (TurnedFrom (Cut (at + 1)) o) o n) a b
        → Told (Since (KeepsRecords bytes)) a b
    told_cut_harmless s = told_from (λ c. c.now ≡ settled bytes) (λ o n. Since (TurnedFrom (Cut (at + 1)) o) o n)
        (Since (KeepsRecords bytes))
        (λ o n was x. since_weaker (TurnedFrom (Cut (at + 1)) o) (KeepsRecords bytes)
        (λ y t. inr (lines, inr (long, has.has), cut_keeps bytes lines at o y has was t)) o n x) a b is s

    pub told_cut_stands : Told (λ o n. n.now ≡ settled (take (at + 1) o.now.reads)) a b
        → IfSome b (Stands Settled lines [])
    told_cut_stands s = told_now (λ c. c.now ≡ settled bytes) (Stands Settled lines [])
        (λ o n. n.now ≡ settled (take (at + 1) o.now.reads))
        (λ o n was x. stands_cut bytes lines at o n has was x) a b is s

  pub told_unchanged : Told (Since (KeepsRecords bytes)) a a
  told_unchanged = start a is
    where
      start : (k : Option Course) → IfSome k (λ c. c.now ≡ settled bytes) → Told (Since (KeepsRecords bytes)) k k
      start None h = tt
      start (Some c) h = since_start (KeepsRecords bytes) c (λ x i. inl (only_settled bytes c.now h x i))
