-- Words one after another, by place, and what they are to say.
use Rattle.std.proofs.Common.{◌≡◌, ℕ, zero, suc, ◌+◌, ◌<◌, ◌≤◌, Bool, true, false, if◌then◌else◌, List, [], ◌∷◌, length, drop, Some, None, slice_get, slice_index_or, refl, sym, ap, arith, ◌∙◌}
use Rattle.std.proofs.lemmas.Option.{none-some, same_Some}
use Rattle.command_words.specs.Commands.{word_at}
use Rattle.command_words.specs.WordFaults.{says, parts_fault}
use Rattle.command_words.specs.declared.word_faults.Part.{Part}
use Rattle.command_words.specs.declared.word_faults.WordFault.TheVariants as fault

pub behind : (ws : List (List ℕ)) (i : ℕ) (w : List ℕ) → slice_get ws i ≡ Some w → drop i ws ≡ w ∷ drop (suc i) ws
behind [] i w h = absurd (none-some w h)
behind (a ∷ ws) zero w h = ap (λ x. x ∷ ws) (same_Some a w h)
behind (a ∷ ws) (suc i) w h = behind ws i w h

pub behind_at : (ws : List (List ℕ)) (i : ℕ) (w : List ℕ) → slice_get ws i ≡ Some w → drop i ws ≡ w ∷ drop (i + 1) ws
behind_at ws i w h =
    let next : suc i ≡ i + 1 = omega arith in
    behind ws i w h ∙ ap (λ n. w ∷ drop n ws) next

pub none_behind : (ws : List (List ℕ)) (i : ℕ) → length ws ≤ i → drop i ws ≡ []
none_behind [] zero h = refl
none_behind [] (suc i) h = refl
none_behind (a ∷ ws) zero h = absurd (omega (arith, h))
none_behind (a ∷ ws) (suc i) h = none_behind ws i (omega (arith, h))

pub at_word : (ws : List (List ℕ)) (k : ℕ) (w : List ℕ) → slice_get ws k ≡ Some w → word_at k ws ≡ w
at_word [] k w e = absurd (none-some w e)
at_word (a ∷ ws) zero w e = same_Some a w e
at_word (a ∷ ws) (suc k) w e = at_word ws k w e

part_behind : (ps : List Part) (i : ℕ) (d : Part) → i < length ps → drop i ps ≡ slice_index_or ps i d ∷ drop (suc i) ps
part_behind [] i d h = absurd (omega (arith, h))
part_behind (p ∷ ps) zero d h = refl
part_behind (p ∷ ps) (suc i) d h = part_behind ps i d (omega (arith, h))

part_behind_at : (ps : List Part) (i : ℕ) (d : Part) → i < length ps → drop i ps ≡ slice_index_or ps i d ∷ drop (i + 1) ps
part_behind_at ps i d h =
    let next : suc i ≡ i + 1 = omega arith in
    part_behind ps i d h ∙ ap (λ n. slice_index_or ps i d ∷ drop n ps) next

-- one part more, of the word after a place
one_more : (ps : List Part) (ws : List (List ℕ)) (i : ℕ) (d : Part) (b w : List ℕ) → i < length ps → slice_get ws i ≡ Some b → slice_get ws (i + 1) ≡ Some w
    → parts_fault (drop i ps) (word_at i ws) (drop (i + 1) ws)
    ≡ (if says (slice_index_or ps i d) b w then parts_fault (drop (i + 1) ps) w (drop (i + 1 + 1) ws) else Some (w, fault.Wrong (slice_index_or ps i d)))
one_more ps ws i d b w h hb hw =
    ap (λ (xs : List Part). parts_fault xs (word_at i ws) (drop (i + 1) ws)) (part_behind_at ps i d h)
    ∙ ap (λ (before : List ℕ). parts_fault (slice_index_or ps i d ∷ drop (i + 1) ps) before (drop (i + 1) ws)) (at_word ws i b hb)
    ∙ ap (λ (rest : List (List ℕ)). parts_fault (slice_index_or ps i d ∷ drop (i + 1) ps) b rest) (behind_at ws (i + 1) w hw)

pub said : (ps : List Part) (ws : List (List ℕ)) (i : ℕ) (d : Part) (b w : List ℕ) → i < length ps → slice_get ws i ≡ Some b → slice_get ws (i + 1) ≡ Some w
    → says (slice_index_or ps i d) b w ≡ true
    → parts_fault (drop (i + 1) ps) (word_at (i + 1) ws) (drop (i + 1 + 1) ws) ≡ parts_fault (drop i ps) (word_at i ws) (drop (i + 1) ws)
said ps ws i d b w h hb hw e =
    ap (λ (before : List ℕ). parts_fault (drop (i + 1) ps) before (drop (i + 1 + 1) ws)) (at_word ws (i + 1) w hw)
    ∙ ap (λ (t : Bool). if t then parts_fault (drop (i + 1) ps) w (drop (i + 1 + 1) ws) else Some (w, fault.Wrong (slice_index_or ps i d))) (sym e)
    ∙ sym (one_more ps ws i d b w h hb hw)

pub unsaid : (ps : List Part) (ws : List (List ℕ)) (i : ℕ) (d : Part) (b w : List ℕ) → i < length ps → slice_get ws i ≡ Some b → slice_get ws (i + 1) ≡ Some w
    → says (slice_index_or ps i d) b w ≡ false
    → Some (w, fault.Wrong (slice_index_or ps i d)) ≡ parts_fault (drop i ps) (word_at i ws) (drop (i + 1) ws)
unsaid ps ws i d b w h hb hw e =
    ap (λ (t : Bool). if t then parts_fault (drop (i + 1) ps) w (drop (i + 1 + 1) ws) else Some (w, fault.Wrong (slice_index_or ps i d))) (sym e)
    ∙ sym (one_more ps ws i d b w h hb hw)

pub missing : (ps : List Part) (ws : List (List ℕ)) (i : ℕ) (d : Part) (b : List ℕ) → i < length ps → length ws ≤ i + 1
    → Some ([], fault.Missing (slice_index_or ps i d)) ≡ parts_fault (drop i ps) b (drop (i + 1) ws)
missing ps ws i d b h l =
    ap (λ (rest : List (List ℕ)). parts_fault (slice_index_or ps i d ∷ drop (i + 1) ps) b rest) (sym (none_behind ws (i + 1) l))
    ∙ ap (λ (xs : List Part). parts_fault xs b (drop (i + 1) ws)) (sym (part_behind_at ps i d h))

pub all_said : (ps : List Part) (i : ℕ) (b : List ℕ) (ws : List (List ℕ)) → length ps ≤ i → None ≡ parts_fault (drop i ps) b ws
all_said [] zero b ws h = refl
all_said [] (suc i) b ws h = refl
all_said (p ∷ ps) zero b ws h = absurd (omega (arith, h))
all_said (p ∷ ps) (suc i) b ws h = all_said ps i b ws (omega (arith, h))
