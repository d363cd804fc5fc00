-- What words ask for, by how many there are.
use Rattle.std.proofs.Common.{◌≡◌, ℕ, zero, suc, Bool, true, false, if◌then◌else◌, List, [], ◌∷◌, length, drop, Option, Some, None, slice_get, refl, sym, ap, ◌∙◌, arith}
use Rattle.std.specs.Prelude.{codes, bytes_eq}
use Rattle.std.proofs.lemmas.Option.{none-some, same_Some}
use Rattle.std.proofs.lemmas.Slice.Eq.{bytes_eq-Decides}
use Rattle.command_words.specs.Commands.{Asked, command_of, run_in, serve_in, store_in, list_in, tape_in, import_in, follow_in, audit_in, make_in, hall_in, hall_of_words, list_cut_in, word_at}

-- six words behind the first
six_behind : (ws : List (List ℕ)) (b c d e f g : List ℕ) → length ws ≡ 7 → slice_get ws 1 ≡ Some b → slice_get ws 2 ≡ Some c → slice_get ws 3 ≡ Some d
    → slice_get ws 4 ≡ Some e → slice_get ws 5 ≡ Some f → slice_get ws 6 ≡ Some g → drop 1 ws ≡ b ∷ c ∷ d ∷ e ∷ f ∷ g ∷ []
six_behind [] b c d e f g n x1 x2 x3 x4 x5 x6 = absurd (omega (arith, n))
six_behind (a ∷ []) b c d e f g n x1 x2 x3 x4 x5 x6 = absurd (omega (arith, n))
six_behind (a ∷ p ∷ []) b c d e f g n x1 x2 x3 x4 x5 x6 = absurd (omega (arith, n))
six_behind (a ∷ p ∷ q ∷ []) b c d e f g n x1 x2 x3 x4 x5 x6 = absurd (omega (arith, n))
six_behind (a ∷ p ∷ q ∷ r ∷ []) b c d e f g n x1 x2 x3 x4 x5 x6 = absurd (omega (arith, n))
six_behind (a ∷ p ∷ q ∷ r ∷ s ∷ []) b c d e f g n x1 x2 x3 x4 x5 x6 = absurd (omega (arith, n))
six_behind (a ∷ p ∷ q ∷ r ∷ s ∷ t ∷ []) b c d e f g n x1 x2 x3 x4 x5 x6 = absurd (omega (arith, n))
six_behind (a ∷ p ∷ q ∷ r ∷ s ∷ t ∷ u ∷ []) b c d e f g n x1 x2 x3 x4 x5 x6 = cc
six_behind (a ∷ p ∷ q ∷ r ∷ s ∷ t ∷ u ∷ v ∷ ws) b c d e f g n x1 x2 x3 x4 x5 x6 = absurd (omega (arith, n))

pub hall_words : (ws : List (List ℕ)) (b c d e f g : List ℕ) → length ws ≡ 7 → slice_get ws 1 ≡ Some b → slice_get ws 2 ≡ Some c → slice_get ws 3 ≡ Some d
    → slice_get ws 4 ≡ Some e → slice_get ws 5 ≡ Some f → slice_get ws 6 ≡ Some g → hall_of_words b c d e f g ≡ hall_in (drop 1 ws)
hall_words ws b c d e f g n x1 x2 x3 x4 x5 x6 = rw (six_behind ws b c d e f g n x1 x2 x3 x4 x5 x6) refl

unlike : (a b : List ℕ) → (a ≡ b → ⊥) → bytes_eq a b ≡ false
unlike a b other = at (bytes_eq a b) refl
  where
    at : (t : Bool) → bytes_eq a b ≡ t → bytes_eq a b ≡ false
    at true e = absurd (other ((bytes_eq-Decides a b).0 e))
    at false e = e

word_is : (ws : List (List ℕ)) (k : ℕ) (w : List ℕ) → slice_get ws k ≡ Some w → w ≡ word_at k ws
word_is [] k w e = absurd (none-some w e)
word_is (a ∷ ws) zero w e = sym (same_Some a w e)
word_is (a ∷ ws) (suc k) w e = word_is ws k w e

pub cut_words : (ws : List (List ℕ)) (b c d e f : List ℕ) → slice_get ws 1 ≡ Some b → slice_get ws 2 ≡ Some c → slice_get ws 3 ≡ Some d
    → slice_get ws 4 ≡ Some e → slice_get ws 5 ≡ Some f → list_cut_in b c d e f ≡ list_cut_in (word_at 1 ws) (word_at 2 ws) (word_at 3 ws) (word_at 4 ws) (word_at 5 ws)
cut_words ws b c d e f x1 x2 x3 x4 x5 = rw (word_is ws 1 b x1, word_is ws 2 c x2, word_is ws 3 d x3, word_is ws 4 e x4, word_is ws 5 f x5) refl

-- five words behind the first, and perhaps one more
at_last : (ws : List (List ℕ)) (last : List ℕ) (is : Bool) → length ws ≡ 7 → slice_get ws 6 ≡ Some last → bytes_eq last (codes "numbered") ≡ is
    → (if is then list_cut_in (word_at 1 ws) (word_at 2 ws) (word_at 3 ws) (word_at 4 ws) (word_at 5 ws) else None) ≡ list_in (drop 1 ws)
at_last [] last is n g e = absurd (omega (arith, n))
at_last (a ∷ []) last is n g e = absurd (omega (arith, n))
at_last (a ∷ b ∷ []) last is n g e = absurd (omega (arith, n))
at_last (a ∷ b ∷ c ∷ []) last is n g e = absurd (omega (arith, n))
at_last (a ∷ b ∷ c ∷ d ∷ []) last is n g e = absurd (omega (arith, n))
at_last (a ∷ b ∷ c ∷ d ∷ e' ∷ []) last is n g e = absurd (omega (arith, n))
at_last (a ∷ b ∷ c ∷ d ∷ e' ∷ f ∷ []) last is n g e = absurd (omega (arith, n))
at_last (a ∷ b ∷ c ∷ d ∷ e' ∷ f ∷ w ∷ []) last is n g e =
    let same : w ≡ last = same_Some w last g in
    ap (λ (t : Bool). if t then list_cut_in b c d e' f else None) (sym (ap (λ (x : List ℕ). bytes_eq x (codes "numbered")) same ∙ e))
at_last (a ∷ b ∷ c ∷ d ∷ e' ∷ f ∷ w ∷ x ∷ ws) last is n g e = absurd (omega (arith, n))

pub other_words : (ws : List (List ℕ)) (last : List ℕ) → length ws ≡ 7 → slice_get ws 6 ≡ Some last → (last ≡ codes "numbered" → ⊥) → None ≡ list_in (drop 1 ws)
other_words ws last n g e = at_last ws last false n g (unlike last (codes "numbered") e)

-- words whose first is none of these nine ask for nothing
none_at : (run serve store list tape import follow audit make : Bool) (ws : List (List ℕ)) → run ≡ false → serve ≡ false → store ≡ false → list ≡ false → tape ≡ false → import ≡ false → follow ≡ false → audit ≡ false → make ≡ false
    → ◌≡◌ {A = Option Asked} None
    (if run then run_in ws else if serve then serve_in ws else if store then store_in ws else if list then list_in ws else if tape then tape_in ws else if import then import_in ws else if follow then follow_in ws else if audit then audit_in ws else if make then make_in ws else None)
none_at true serve store list tape import follow audit make ws r s k l t i f u m = absurd (Prim.grind (arith, r))
none_at false true store list tape import follow audit make ws r s k l t i f u m = absurd (Prim.grind (arith, s))
none_at false false true list tape import follow audit make ws r s k l t i f u m = absurd (Prim.grind (arith, k))
none_at false false false true tape import follow audit make ws r s k l t i f u m = absurd (Prim.grind (arith, l))
none_at false false false false true import follow audit make ws r s k l t i f u m = absurd (Prim.grind (arith, t))
none_at false false false false false true follow audit make ws r s k l t i f u m = absurd (Prim.grind (arith, i))
none_at false false false false false false true audit make ws r s k l t i f u m = absurd (Prim.grind (arith, f))
none_at false false false false false false false true make ws r s k l t i f u m = absurd (Prim.grind (arith, u))
none_at false false false false false false false false true ws r s k l t i f u m = absurd (Prim.grind (arith, m))
none_at false false false false false false false false false ws r s k l t i f u m = refl

pub none_of_these : (ws : List (List ℕ)) (first : List ℕ) → slice_get ws 0 ≡ Some first → (first ≡ codes "run" → ⊥) → (first ≡ codes "serve" → ⊥) → (first ≡ codes "store" → ⊥)
    → (first ≡ codes "list" → ⊥) → (first ≡ codes "tape" → ⊥) → (first ≡ codes "import" → ⊥) → (first ≡ codes "follow" → ⊥) → (first ≡ codes "audit" → ⊥) → (first ≡ codes "make" → ⊥) → None ≡ command_of ws
none_of_these [] first is r s k l t i f u m = absurd (none-some first is)
none_of_these (a ∷ ws) first is r s k l t i f u m =
    let same : a ≡ first = same_Some a first is in
    none_at (bytes_eq a (codes "run")) (bytes_eq a (codes "serve")) (bytes_eq a (codes "store")) (bytes_eq a (codes "list")) (bytes_eq a (codes "tape")) (bytes_eq a (codes "import")) (bytes_eq a (codes "follow")) (bytes_eq a (codes "audit")) (bytes_eq a (codes "make")) ws
    (ap (λ (w : List ℕ). bytes_eq w (codes "run")) same ∙ unlike first (codes "run") r)
    (ap (λ (w : List ℕ). bytes_eq w (codes "serve")) same ∙ unlike first (codes "serve") s)
    (ap (λ (w : List ℕ). bytes_eq w (codes "store")) same ∙ unlike first (codes "store") k)
    (ap (λ (w : List ℕ). bytes_eq w (codes "list")) same ∙ unlike first (codes "list") l)
    (ap (λ (w : List ℕ). bytes_eq w (codes "tape")) same ∙ unlike first (codes "tape") t)
    (ap (λ (w : List ℕ). bytes_eq w (codes "import")) same ∙ unlike first (codes "import") i)
    (ap (λ (w : List ℕ). bytes_eq w (codes "follow")) same ∙ unlike first (codes "follow") f)
    (ap (λ (w : List ℕ). bytes_eq w (codes "audit")) same ∙ unlike first (codes "audit") u)
    (ap (λ (w : List ℕ). bytes_eq w (codes "make")) same ∙ unlike first (codes "make") m)
