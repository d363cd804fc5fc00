-- The law of disks over memory: what a read gives is one of those that a crash may leave.
use Rattle.std.proofs.Common.{◌≡◌, inl, inr, ℕ, ◌+◌, ◌-◌, max, min, List, [], ◌∷◌, ◌++◌, length, take, drop}
use Rattle.std.proofs.Common.{replicate, refl, sym, ◌∙◌, ap, subst, arith, Option, Some, None, option_map}
use Rattle.std.proofs.Common.{length-append, length-take, length-drop, append_assoc}
use Rattle.std.proofs.lemmas.Option.{none-some, same_Some}
use Rattle.std.proofs.lemmas.List.{take_at, drop_at, take_min, length-replicate}
use Rattle.room_disks.specs.Crashes.{Stand, Torn, IsImage, Course, moved, settled, written}
use Rattle.room_disks.specs.Tapes.{Done, Looks, Puts, FailsToPut, CutsTo, FailsToCut, Syncs}
use Rattle.room_disks.specs.Tapes.{Tape, after, played, course_of}

-- a write of nothing more than was there is no change
torn_same : (at n : ℕ) (xs : List ℕ) → Torn at n xs xs
torn_same at n xs = record {
  before = ap (λ k. take k xs) refl ∙ take_min at xs;
  after = refl;
  no_shorter = omega arith;
  no_longer = omega arith;
}

length-written : (at : ℕ) (bytes xs : List ℕ) → length (written at bytes xs) ≡ max (length xs) (at + length bytes)
length-written at bytes xs = omega (
  arith,
  length-append (take at xs) (replicate (at - length xs) 0 ++ (bytes ++ drop (at + length bytes) xs)),
  length-append (replicate (at - length xs) 0) (bytes ++ drop (at + length bytes) xs),
  length-append bytes (drop (at + length bytes) xs),
  length-take at xs,
  length-drop (at + length bytes) xs,
  length-replicate {A = ℕ} (at - length xs) 0,
)

front-written : (at : ℕ) (bytes xs : List ℕ)
    → length (take at xs ++ (replicate (at - length xs) 0 ++ bytes)) ≡ at + length bytes
front-written at bytes xs = omega (
  arith,
  length-append (take at xs) (replicate (at - length xs) 0 ++ bytes),
  length-append (replicate (at - length xs) 0) bytes,
  length-take at xs,
  length-replicate {A = ℕ} (at - length xs) 0,
)

split-written : (at : ℕ) (bytes xs : List ℕ)
    → written at bytes xs ≡ (take at xs ++ (replicate (at - length xs) 0 ++ bytes)) ++ drop (at + length bytes) xs
split-written at bytes xs =
    ap (λ t. take at xs ++ t) (sym (append_assoc (replicate (at - length xs) 0) bytes (drop (at + length bytes) xs)))
    ∙ sym (append_assoc (take at xs) (replicate (at - length xs) 0 ++ bytes) (drop (at + length bytes) xs))

pub torn_written : (at : ℕ) (bytes xs : List ℕ) → Torn at (length bytes) xs (written at bytes xs)
torn_written at bytes xs = record {
  before = take_at (take at xs) (replicate (at - length xs) 0 ++ (bytes ++ drop (at + length bytes) xs))
      (min at (length xs)) (length-take at xs);
  after = ap (drop (at + length bytes)) (split-written at bytes xs)
      ∙ drop_at (take at xs ++ (replicate (at - length xs) 0 ++ bytes)) (drop (at + length bytes) xs)
      (at + length bytes) (front-written at bytes xs);
  no_shorter = omega (arith, length-written at bytes xs);
  no_longer = omega (arith, length-written at bytes xs);
}

after_image : (s : Stand) (call : Done) → IsImage s s.reads → IsImage (after s call) (after s call).reads
after_image s Looks h = h
after_image s (Puts at bytes) h = (s.reads, h, torn_written at bytes s.reads)
after_image s (FailsToPut at n) h = (s.reads, h, torn_same at n s.reads)
after_image s (CutsTo len) h = (s.reads, h, inr refl)
after_image s (FailsToCut len) h = (s.reads, h, inl refl)
after_image s Syncs h = refl

played_image : (calls : List Done) (c : Course) → IsImage c.now c.now.reads
    → IsImage (played c calls).now (played c calls).now.reads
played_image [] c h = h
played_image (call ∷ calls) c h = played_image calls (moved c (after c.now call)) (after_image c.now call h)

pub reads_of : (o : Option Tape) (c : Course) → option_map course_of o ≡ Some c → IsImage c.now c.now.reads
reads_of None c e = absurd (none-some c e)
reads_of (Some t) c e = subst (λ (d : Course). IsImage d.now d.now.reads) (same_Some _ _ e)
    (played_image t.done (record { now = settled t.start; past = [] }) refl)
