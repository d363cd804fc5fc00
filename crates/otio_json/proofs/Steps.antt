-- Steps of reading, one after another: what each gives.
use Rattle.std.proofs.Common.{◌≡◌, ℕ, Bool, true, false, ◌&&◌, refl, List, [], ◌∷◌, Option, Some, None, IfSome, Ok, Err, IfOk, if◌then◌else◌}
use Rattle.json_tokens.specs.Reading.{◌>>=◌}
use Rattle.otio_tracks.specs.declared.faults.DocCode.{DocCode}
use Rattle.otio_tracks.specs.Reading.{Read, refuse, or_refuse, each}

-- a step, and another behind it
pub after : {A B : Type 0} (r : Read A) (f : A → Read B) (P : A → Type 0) (Q : B → Type 0) → IfOk r P → ((x : A) → P x → IfOk (f x) Q) → IfOk (r >>= f) Q
after (Ok x) f P Q h k = k x h
after (Err e) f P Q h k = tt

-- a step of which nothing is known
pub past : {A B : Type 0} (r : Read A) (f : A → Read B) (Q : B → Type 0) → ((x : A) → IfOk (f x) Q) → IfOk (r >>= f) Q
past (Ok x) f Q k = k x
past (Err e) f Q k = tt

-- a step whose equation is known
pub knowing : {A B : Type 0} (r : Read A) (f : A → Read B) (Q : B → Type 0) → ((x : A) → r ≡ Ok x → IfOk (f x) Q) → IfOk (r >>= f) Q
knowing {A} {B} r f Q k = by_case r refl where
  by_case : (s : Read A) → r ≡ s → IfOk (s >>= f) Q
  by_case (Ok x) e = k x e
  by_case (Err e) h = tt

pub weaker : {A : Type 0} (r : Read A) (P Q : A → Type 0) → IfOk r P → ((x : A) → P x → Q x) → IfOk r Q
weaker (Ok x) P Q h k = k x h
weaker (Err e) P Q h k = tt

pub chosen : {A : Type 0} (o : Option A) (code : DocCode) (at : ℕ) (P : A → Type 0) → IfSome o P → IfOk (or_refuse o code at) P
chosen (Some x) code at P h = h
chosen None code at P h = tt

pub tested : {A : Type 0} (b : Bool) (r : Read A) (code : DocCode) (at : ℕ) (P : A → Type 0) → (b ≡ true → IfOk r P) → IfOk (if b then r else refuse code at) P
tested true r code at P h = h refl
tested false r code at P h = tt

-- what each step keeps, all keep
pub each_keeps : {S X : Type 0} (step : S → X → Read S) (I : S → Type 0) → ((s : S) (x : X) → I s → IfOk (step s x) I) → (s : S) (xs : List X) → I s → IfOk (each step s xs) I
each_keeps step I go s [] h = h
each_keeps step I go s (x ∷ xs) h = after (step s x) _ I I (go s x h) (λ t k. each_keeps step I go t xs k)

pub and_parts : (a b : Bool) → (a && b) ≡ true → (a ≡ true) × (b ≡ true)
and_parts true b e = (refl, e)
and_parts false b e = cc
