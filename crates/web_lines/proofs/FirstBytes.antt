-- What talks is told once.
use Rattle.std.proofs.Common.{◌≡◌, ℕ, ◌+◌, ◌<◌, ◌≤◌, List, [], ◌∷◌, ◌++◌, Bool, true, false, nat_le, Some, refl, sym, ◌∙◌, arith}
use Rattle.std.proofs.lemmas.Bool.Decides.{nat_tests}
use Rattle.web_lines.specs.declared.first_bytes.Talk.{Talk}
use Rattle.web_lines.specs.declared.first_bytes.Talk.TheVariants.{Plain}
use Rattle.web_lines.specs.FirstBytes.{is_method_byte, talk_after, talk_so_far}

-- so many are too many for a method
past : (count : ℕ) → 20 < count → nat_le count 20 ≡ false
past count far = by (nat_le count 20) refl where
  by : (t : Bool) → nat_le count 20 ≡ t → t ≡ false
  by true e = let le : count ≤ 20 = grind (arith, nat_tests, e) in absurd (omega (arith, le, far))
  by false e = refl

plain_step : (t : Bool) (count b : ℕ) (bs : List ℕ) → is_method_byte b ≡ t → 20 < count → talk_after (count + 1) bs ≡ Some Plain → talk_after count (b ∷ bs) ≡ Some Plain
plain_step true count b bs e far more = rw e more
plain_step false count b bs e far more = rw (e, past count far) refl

-- after too many bytes of a method all is plain
too_many : (count : ℕ) (more : List ℕ) → 20 < count → talk_after count more ≡ Some Plain
too_many count [] far = rw (past count far) refl
too_many count (b ∷ bs) far = plain_step (is_method_byte b) count b bs refl far (too_many (count + 1) bs (omega (arith, far)))

-- only too many of them are told
told_at_end : (t : Bool) (count : ℕ) (talk : Talk) → nat_le count 20 ≡ t → talk_so_far count ≡ Some talk → (20 < count) × (Some talk ≡ Some Plain)
told_at_end true count talk e h = let no : ⊥ = cc (rw e at h) in absurd no
told_at_end false count talk e h = let far : 20 < count = grind (arith, nat_tests, e) in (far, sym (rw e at h))

once_step : (t : Bool) (count b : ℕ) (bs more : List ℕ) (talk : Talk) → is_method_byte b ≡ t
    → (talk_after (count + 1) bs ≡ Some talk → talk_after (count + 1) (bs ++ more) ≡ Some talk)
    → talk_after count (b ∷ bs) ≡ Some talk → talk_after count (b ∷ (bs ++ more)) ≡ Some talk
once_step true count b bs more talk e same h = rw e (same (rw e at h))
once_step false count b bs more talk e same h = rw e (rw e at h)

pub told_once : (count : ℕ) (front more : List ℕ) (talk : Talk) → talk_after count front ≡ Some talk → talk_after count (front ++ more) ≡ Some talk
told_once count [] more talk h =
    let far = told_at_end (nat_le count 20) count talk refl h in
    too_many count more far.0 ∙ sym far.1
told_once count (b ∷ bs) more talk h = once_step (is_method_byte b) count b bs more talk refl (told_once (count + 1) bs more talk) h
