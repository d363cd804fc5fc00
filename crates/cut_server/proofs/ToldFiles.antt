-- Contents of files that are told.
use Rattle.std.proofs.Common.{◌≡◌, ◌≢◌, ℕ, ◌<◌, ◌≤◌, List, length, refl, sym, ap, arith, ◌∙◌}
use Rattle.room_files.specs.Files.{Content, Untold, Missing, Bytes, IsWhole, IsLonger, IsUnchanged, NoneChanged}

pub same_bytes : (c : Content) (a b : List ℕ) → c ≢ Untold → IsWhole c a → IsWhole c b → a ≡ b
same_bytes Untold a b told x y = absurd (told refl)
same_bytes Missing a b told x y = absurd x
same_bytes (Bytes all) a b told x y = x ∙ sym y

pub not_longer : (c : Content) (a : List ℕ) (most : ℕ) → c ≢ Untold → IsWhole c a → length a ≤ most → IsLonger c most → ⊥
not_longer Untold a most told x within longer = absurd (told refl)
not_longer Missing a most told x within longer = absurd x
not_longer (Bytes all) a most told x within longer = let n : length a ≡ length all = ap length x in omega (arith, n, within, longer)

pub same_content : (old new : Content) → IsUnchanged old new → new ≢ Untold → old ≡ new
same_content old Untold same told = absurd (told refl)
same_content old Missing same told = same
same_content old (Bytes all) same told = same

-- ---- files that were read, one after another

pub stays : (c : Content) → IsUnchanged c c
stays Untold = tt
stays Missing = refl
stays (Bytes all) = refl

then : (a b c : Content) → IsUnchanged a b → IsUnchanged b c → IsUnchanged a c
then a b Untold x y = tt
then a Untold Missing x y = Prim.grind (arith, y)
then a Missing Missing x y = x
then a (Bytes all) Missing x y = Prim.grind (arith, y)
then a Untold (Bytes some) x y = Prim.grind (arith, y)
then a Missing (Bytes some) x y = Prim.grind (arith, y)
then a (Bytes all) (Bytes some) x y = x ∙ y

pub none_changed_then : (f g h : List ℕ → Content) → NoneChanged f g → NoneChanged g h → NoneChanged f h
none_changed_then f g h x y = λ name. then (f name) (g name) (h name) (x name) (y name)

-- what is told at last is told in between
pub told_before : (old new : Content) → IsUnchanged old new → new ≢ Untold → old ≢ Untold
told_before old new same told = λ untold. told (sym (same_content old new same told) ∙ untold)
