-- Faults behind what was read before, and readers one behind the other.
use Rattle.std.proofs.Common.{◌≡◌, ℕ, ◌+◌, ◌<◌, List, [], ◌∷◌, ◌++◌, length, take, drop, Err, sym, ap, subst, ◌∙◌, inl, inr, append_assoc, length-append, arith}
use Rattle.std.proofs.Math.Seq.{take-append-add, drop-append-add}
use Rattle.json_tokens.specs.declared.fault.JsonFault.{JsonFault}
use Rattle.json_tokens.specs.declared.fault.JsonFault.TheVariants.{Syntax, Depth, NotUtf8, TooLarge, Memory}
use Rattle.json_tokens.specs.Reading.{Read}
use Rattle.json_tokens.specs.Faults.{IsInQuotes, IsUnfinished, IsLawful, IsBroken, BeginsCharacter, IsLoneHalf, IsBadSequence, IsTooDeep}
use Rattle.json_tokens.proofs.Stuck.{IsToldAt, Stuck}

-- ---- a fault behind bytes

part_behind : (c bytes : List ℕ) (start stop : ℕ) → drop (length c + start) (take (length c + stop + 1) (c ++ bytes)) ≡ drop start (take (stop + 1) bytes)
part_behind c bytes start stop =
    let n : length c + stop + 1 ≡ length c + (stop + 1) = omega arith in
    ap (λ (k : ℕ). drop (length c + start) (take k (c ++ bytes))) n
    ∙ ap (λ (l : List ℕ). drop (length c + start) l) (take-append-add c bytes (stop + 1))
    ∙ drop-append-add c (take (stop + 1) bytes) start

module _ (Inner Outer : List ℕ → Type 0) (c : List ℕ) (moves : (w : List ℕ) → Inner w → Outer (c ++ w)) where
  quotes_behind : (w : List ℕ) → IsInQuotes Inner w → IsInQuotes Outer (c ++ w)
  quotes_behind w h = subst Outer (sym (append_assoc c w (120 ∷ []))) (moves (w ++ 120 ∷ []) h)

  quotes_from : (bytes : List ℕ) (start : ℕ) → IsInQuotes Inner (take start bytes) → IsInQuotes Outer (take (length c + start) (c ++ bytes))
  quotes_from bytes start h = subst (IsInQuotes Outer) (sym (take-append-add c bytes start)) (quotes_behind (take start bytes) h)

  unfinished_behind : (w : List ℕ) → IsUnfinished Inner w → IsUnfinished Outer (c ++ w)
  unfinished_behind w h = record {
    before = c ++ h.before;
    digits = h.digits;
    bytes_are = ap (λ (l : List ℕ). c ++ l) h.bytes_are ∙ sym (append_assoc c h.before (92 ∷ 117 ∷ h.digits));
    in_quotes = quotes_behind h.before h.in_quotes;
    few = h.few;
    hexadecimal = h.hexadecimal;
  }

  lawful_behind : (w : List ℕ) → IsLawful Inner w → IsLawful Outer (c ++ w)
  lawful_behind w (inl h) = inl (moves w h)
  lawful_behind w (inr h) = inr (unfinished_behind w h)

  lawful_from : (bytes : List ℕ) (stop : ℕ) → IsLawful Inner (take stop bytes) → IsLawful Outer (take (length c + stop) (c ++ bytes))
  lawful_from bytes stop h = subst (IsLawful Outer) (sym (take-append-add c bytes stop)) (lawful_behind (take stop bytes) h)

  half_behind : (bytes : List ℕ) (start stop : ℕ) → IsLoneHalf Inner bytes start stop → IsLoneHalf Outer (c ++ bytes) (length c + start) (length c + stop)
  half_behind bytes start stop h = record {
    digits = h.digits;
    unit = h.unit;
    behind = h.behind;
    in_quotes = quotes_from bytes start h.in_quotes;
    code = h.code;
    alone = h.alone;
    escape = part_behind c bytes start stop ∙ h.escape;
    inside = omega (arith, h.inside, length-append c bytes);
  }

  sequence_behind : (bytes : List ℕ) (start stop : ℕ) → IsBadSequence Inner bytes start stop → IsBadSequence Outer (c ++ bytes) (length c + start) (length c + stop)
  sequence_behind bytes start stop h = record {
    in_quotes = quotes_from bytes start h.in_quotes;
    from = omega (arith, h.from);
    inside = omega (arith, h.inside, length-append c bytes);
    broken = subst (IsBroken BeginsCharacter) (sym (part_behind c bytes start stop)) h.broken;
  }

module _ (Inner Outer : List ℕ → Type 0) (c : List ℕ) (moves : (w : List ℕ) → Inner w → Outer (c ++ w)) where
  bracket_behind : (b stop : ℕ) (bytes : List ℕ) → drop stop (take (stop + 1) bytes) ≡ b ∷ [] → drop (length c + stop) (take (length c + stop + 1) (c ++ bytes)) ≡ b ∷ []
  bracket_behind b stop bytes h = part_behind c bytes stop stop ∙ h

  deep_behind : (bytes : List ℕ) (stop : ℕ) → IsTooDeep Inner bytes stop → IsTooDeep Outer (c ++ bytes) (length c + stop)
  deep_behind bytes stop h =
      let n : length c + stop + 1 ≡ length c + (stop + 1) = omega arith in
      record {
        inside = omega (arith, h.inside, length-append c bytes);
        bracket = elim h.bracket [ inl e ↦ inl (bracket_behind 91 stop bytes e) | inr e ↦ inr (bracket_behind 123 stop bytes e) ];
        deeper = subst Outer (sym (ap (λ (k : ℕ). take k (c ++ bytes)) n ∙ take-append-add c bytes (stop + 1))) (moves (take (stop + 1) bytes) h.deeper);
      }

module _ (Begin Deeper Begin' Deeper' : List ℕ → Type 0) (c : List ℕ) (begins : (w : List ℕ) → Begin w → Begin' (c ++ w)) (deepens : (w : List ℕ) → Deeper w → Deeper' (c ++ w)) where
  told_behind : (at : ℕ) (bytes : List ℕ) (stop : ℕ) (e : JsonFault) → IsToldAt Begin Deeper (at + length c) bytes stop e → IsToldAt Begin' Deeper' at (c ++ bytes) (length c + stop) e
  told_behind at bytes stop (Syntax p) (inl h) = inl (omega (arith, h))
  told_behind at bytes stop (Syntax p) (inr h) = inr (length c + h.0, omega (arith, h.1), half_behind Begin Begin' c begins bytes h.0 stop h.2)
  told_behind at bytes stop (NotUtf8 p) h = (length c + h.0, omega (arith, h.1), sequence_behind Begin Begin' c begins bytes h.0 stop h.2)
  told_behind at bytes stop (Depth p) h = (omega (arith, h.0), deep_behind Deeper Deeper' c deepens bytes stop h.1)
  told_behind at bytes stop TooLarge h = h
  told_behind at bytes stop Memory h = h

  -- A reader that goes on with another behind c is stuck where that one is.
  pub stuck_behind : {X Y : Type 0} (inner : ℕ → List ℕ → Read X) (outer : ℕ → List ℕ → Read Y) (at middle : ℕ) (bytes rest : List ℕ) (e : JsonFault) → bytes ≡ c ++ rest → middle ≡ at + length c
      → (s : Stuck inner Begin Deeper middle rest e) → (s.stop < length rest → (more : List ℕ) → outer at (c ++ (take (s.stop + 1) rest ++ more)) ≡ Err e) → Stuck outer Begin' Deeper' at bytes e
  stuck_behind inner outer at middle bytes rest e parts place s again =
      let n : length c + s.stop + 1 ≡ length c + (s.stop + 1) = omega arith in
      let front : take (length c + s.stop + 1) bytes ≡ c ++ take (s.stop + 1) rest = ap (λ (l : List ℕ). take (length c + s.stop + 1) l) parts ∙ ap (λ (k : ℕ). take k (c ++ rest)) n ∙ take-append-add c rest (s.stop + 1) in
      let all : length bytes ≡ length c + length rest = ap length parts ∙ length-append c rest in
      record {
        stop = length c + s.stop;
        within = omega (arith, s.within);
        lawful = subst (λ (l : List ℕ). IsLawful Begin' (take (length c + s.stop) l)) (sym parts) (lawful_from Begin Begin' c begins rest s.stop s.lawful);
        told = subst (λ (l : List ℕ). IsToldAt Begin' Deeper' at l (length c + s.stop) e) (sym parts) (told_behind at rest s.stop e (subst (λ (k : ℕ). IsToldAt Begin Deeper k rest s.stop e) place s.told));
        alike = λ lt more. ap (λ (l : List ℕ). outer at (l ++ more)) front ∙ ap (outer at) (append_assoc c (take (s.stop + 1) rest) more) ∙ again (omega arith) more;
      }
