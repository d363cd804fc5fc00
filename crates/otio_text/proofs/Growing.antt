-- Texts put after one another up to a limit.
use Rattle.std.proofs.Common.{◌≡◌, ℕ, ◌+◌, ◌-◌, ◌≤◌, nat_le, Bool, true, false, List, [], ◌++◌, length, Option, Some, None, Result, OnOk, refl, sym, ap, ◌∙◌, arith, append_assoc, length-append, subst, if◌then◌else◌}
use Rattle.std.proofs.lemmas.List.{append-nil}
use Rattle.otio_text.specs.Texts.{Filled, added, grown}

le_of : (a b : ℕ) → nat_le a b ≡ true → a ≤ b
le_of a b e = grind arith

not_le_of : (a b : ℕ) → nat_le a b ≡ false → b + 1 ≤ a
not_le_of a b e = grind arith

to_le : (a b : ℕ) → a ≤ b → nat_le a b ≡ true
to_le a b h = grind arith

to_not_le : (a b : ℕ) → b + 1 ≤ a → nat_le a b ≡ false
to_not_le a b h = grind arith

added_twice : (t : Option (List ℕ)) (a b : List ℕ) → added (added t a) b ≡ added t (a ++ b)
added_twice None a b = refl
added_twice (Some t) a b = ap Some (append_assoc t a b)

added_nothing : (t : Option (List ℕ)) → added t [] ≡ t
added_nothing None = refl
added_nothing (Some t) = ap Some (append-nil t)

abbrev holding : Option (List ℕ) → ℕ → Option Filled
holding bytes left = Some (record { bytes = bytes; left = left })

filled : (a b : Option (List ℕ)) (n k : ℕ) → a ≡ b → n ≡ k → holding a n ≡ holding b k
filled a b n k e f = ap (λ t. holding t n) e ∙ ap (λ m. holding b m) f

more_by : (t : Filled) (a b : List ℕ) (first second : Bool) → nat_le (length a) t.left ≡ first → nat_le (length b) (t.left - length a) ≡ second
    → grown (if first then Some (record { bytes = added t.bytes a; left = t.left - length a }) else None) b ≡ grown (Some t) (a ++ b)
more_by t a b true true f s =
    let fits : nat_le (length (a ++ b)) t.left ≡ true = to_le (length (a ++ b)) t.left (omega (arith, le_of (length a) t.left f, le_of (length b) (t.left - length a) s, length-append a b)) in
    rw (s, fits) (filled (added (added t.bytes a) b) (added t.bytes (a ++ b)) (t.left - length a - length b) (t.left - length (a ++ b)) (added_twice t.bytes a b) (omega (arith, length-append a b)))
more_by t a b true false f s =
    let over : nat_le (length (a ++ b)) t.left ≡ false = to_not_le (length (a ++ b)) t.left (omega (arith, le_of (length a) t.left f, not_le_of (length b) (t.left - length a) s, length-append a b)) in
    rw (s, over) refl
more_by t a b false second f s =
    let over : nat_le (length (a ++ b)) t.left ≡ false = to_not_le (length (a ++ b)) t.left (omega (arith, not_le_of (length a) t.left f, length-append a b)) in
    rw over refl

pub grown_twice : (t : Option Filled) (a b : List ℕ) → grown (grown t a) b ≡ grown t (a ++ b)
grown_twice None a b = refl
grown_twice (Some t) a b = more_by t a b (nat_le (length a) t.left) (nat_le (length b) (t.left - length a)) refl refl

pub grown_nothing : (t : Option Filled) → grown t [] ≡ t
grown_nothing None = refl
grown_nothing (Some t) =
    let fits : nat_le 0 t.left ≡ true = to_le 0 t.left (omega arith) in
    rw fits (filled (added t.bytes []) t.bytes (t.left - 0) t.left (added_nothing t.bytes) (omega arith))

pub stays : (t : Option Filled) (more : List ℕ) → more ≡ [] → t ≡ grown t more
stays t more e = sym (ap (grown t) e ∙ grown_nothing t)

-- ---- parts put one after another

on_ok : {X E : Type 0} (r : Result X E) (new a b : Option Filled) → a ≡ b → OnOk r (new ≡ a) → OnOk r (new ≡ b)
on_ok r new a b e h = subst (λ t. OnOk r (new ≡ t)) e h

pub put2 : {X E : Type 0} (r : Result X E) (t₀ t₁ t₂ : Option Filled) (a b : List ℕ) → t₁ ≡ grown t₀ a → OnOk r (t₂ ≡ grown t₁ b) → OnOk r (t₂ ≡ grown t₀ (a ++ b))
put2 r t₀ t₁ t₂ a b e h = on_ok r t₂ (grown t₁ b) (grown t₀ (a ++ b)) (ap (λ t. grown t b) e ∙ grown_twice t₀ a b) h

pub put3 : {X E : Type 0} (r : Result X E) (t₀ t₁ t₂ t₃ : Option Filled) (a b c : List ℕ) → t₁ ≡ grown t₀ a → t₂ ≡ grown t₁ b → OnOk r (t₃ ≡ grown t₂ c) → OnOk r (t₃ ≡ grown t₀ (a ++ (b ++ c)))
put3 r t₀ t₁ t₂ t₃ a b c e f h = put2 r t₀ t₁ t₃ a (b ++ c) e (put2 r t₁ t₂ t₃ b c f h)

pub put5 : {X E : Type 0} (r : Result X E) (t₀ t₁ t₂ t₃ t₄ t₅ : Option Filled) (a b c d e : List ℕ) → t₁ ≡ grown t₀ a → t₂ ≡ grown t₁ b → t₃ ≡ grown t₂ c → t₄ ≡ grown t₃ d
    → OnOk r (t₅ ≡ grown t₄ e) → OnOk r (t₅ ≡ grown t₀ (a ++ (b ++ (c ++ (d ++ e)))))
put5 r t₀ t₁ t₂ t₃ t₄ t₅ a b c d e p q s v h = put3 r t₀ t₁ t₂ t₅ a b (c ++ (d ++ e)) p q (put3 r t₂ t₃ t₄ t₅ c d e s v h)

pub put9 : {X E : Type 0} (r : Result X E) (t₀ t₁ t₂ t₃ t₄ t₅ t₆ t₇ t₈ t₉ : Option Filled) (a b c d e f g i j : List ℕ)
    → t₁ ≡ grown t₀ a → t₂ ≡ grown t₁ b → t₃ ≡ grown t₂ c → t₄ ≡ grown t₃ d → t₅ ≡ grown t₄ e → t₆ ≡ grown t₅ f → t₇ ≡ grown t₆ g → t₈ ≡ grown t₇ i
    → OnOk r (t₉ ≡ grown t₈ j) → OnOk r (t₉ ≡ grown t₀ (a ++ (b ++ (c ++ (d ++ (e ++ (f ++ (g ++ (i ++ j)))))))))
put9 r t₀ t₁ t₂ t₃ t₄ t₅ t₆ t₇ t₈ t₉ a b c d e f g i j p q s v w x y z h =
    put5 r t₀ t₁ t₂ t₃ t₄ t₉ a b c d (e ++ (f ++ (g ++ (i ++ j)))) p q s v (put5 r t₄ t₅ t₆ t₇ t₈ t₉ e f g i j w x y z h)

pub two_more : (t₀ t₁ t₂ : Option Filled) (a b rest : List ℕ) → t₁ ≡ grown t₀ a → t₂ ≡ grown t₁ b → grown t₂ rest ≡ grown t₀ (a ++ (b ++ rest))
two_more t₀ t₁ t₂ a b rest e f = ap (λ t. grown t rest) f ∙ (grown_twice t₁ b rest ∙ (ap (λ t. grown t (b ++ rest)) e ∙ grown_twice t₀ a (b ++ rest)))

pub three_more : (t₀ t₁ t₂ t₃ : Option Filled) (a b c rest : List ℕ) → t₁ ≡ grown t₀ a → t₂ ≡ grown t₁ b → t₃ ≡ grown t₂ c → grown t₃ rest ≡ grown t₀ (a ++ (b ++ (c ++ rest)))
three_more t₀ t₁ t₂ t₃ a b c rest e f g = two_more t₁ t₂ t₃ b c rest f g ∙ (ap (λ t. grown t (b ++ (c ++ rest))) e ∙ grown_twice t₀ a (b ++ (c ++ rest)))
