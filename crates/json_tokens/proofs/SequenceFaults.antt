-- Where a raw character of two bytes or more stops.
use Rattle.std.proofs.Common.{◌≡◌, ◌≢◌, ℕ, ◌+◌, ◌-◌, ◌*◌, ◌<◌, ◌≤◌, ◌⊎◌, inl, inr, Bool, true, false, eqb, ltb, ◌||◌, List, [], ◌∷◌, ◌++◌, length, Option, Some, None, Ok, Err, refl, sym, ap, subst, ◌∙◌, append_assoc, arith}
use Rattle.std.specs.Char.{IsScalar, encode_utf8}
use Rattle.std.proofs.lemmas.Bool.{ltb-false, or_parts, cond_both, cases_lt}
use Rattle.std.proofs.lemmas.List.{append-nil}
use Rattle.json_tokens.specs.declared.fault.JsonFault.{JsonFault}
use Rattle.json_tokens.specs.declared.fault.JsonFault.TheVariants.{Syntax, NotUtf8}
use Rattle.json_tokens.specs.declared.characters.Lead.{Lead}
use Rattle.json_tokens.specs.declared.characters.Lead.TheVariants.{Two, Three, Four}
use Rattle.json_tokens.specs.Reading.{◌>>=◌, Read}
use Rattle.json_tokens.specs.ReadingTexts.{lead, continuation_at, two_at, three_at, four_at, with_lead, sequence_at}
use Rattle.json_tokens.proofs.Utf8Laws.{sequence_took, raw_bytes, encode_one, scalar_low, continuation_again}
use Rattle.json_tokens.proofs.FirstBytes.{SameFirst}
use Rattle.json_tokens.specs.Faults.{IsLawful}
use Rattle.json_tokens.proofs.Stuck.{BeginsText}
use Rattle.json_tokens.proofs.Halts.{IsToldBy, Halts, halts_end, halts_byte, halts_behind, err_is}
use Rattle.json_tokens.proofs.TextBegins.{CharacterStop, stops_here, begins_nothing, begins_character, begins_letter}

abbrev found : ℕ → ℕ → List ℕ → ℕ × ℕ × List ℕ
found c at rest = (c, at, rest)

-- ---- bytes that begin a character

-- some character has these bytes behind the first, and then others
abbrev pub Completes : ℕ → List ℕ → Type 0
Completes first front = (c other : ℕ) × (more : List ℕ) × IsScalar c × (128 ≤ c) × (encode_utf8 c ≡ first ∷ (front ++ other ∷ more))

complete : (first : ℕ) (front : List ℕ) (other : ℕ) (more : List ℕ) (c n : ℕ) → sequence_at 0 first 0 (front ++ other ∷ more) ≡ Ok (found c n []) → Completes first front
complete first front other more c n e =
    let r = sequence_took 0 first 0 (front ++ other ∷ more) (found c n []) e in
    let all : front ++ other ∷ more ≡ r.tail = r.parts ∙ append-nil r.tail in
    (c, other, more, r.scalar, r.above, sym r.utf8 ∙ ap (λ (l : List ℕ). first ∷ l) (sym all))

two_completes : (first : ℕ) → lead first ≡ Some Two → (front : List ℕ) (other : ℕ) (more : List ℕ) → 0x80 ∷ [] ≡ front ++ other ∷ more → Completes first front
unfolding sequence_at two_at
two_completes first is front other more e =
    complete first front other more ((first - 0xc0) * 0x40 + (0x80 - 0x80)) 1 (ap (sequence_at 0 first 0) (sym e) ∙ rw is refl)

three_completes : (first low high : ℕ) → lead first ≡ Some (Three low high) → (s t : ℕ) → low ≤ s → s ≤ high → 0x80 ≤ t → t ≤ 0xbf → (front : List ℕ) (other : ℕ) (more : List ℕ) → s ∷ t ∷ [] ≡ front ++ other ∷ more → Completes first front
unfolding sequence_at three_at
three_completes first low high is s t sl sh tl th front other more e =
    complete first front other more ((first - 0xe0) * 0x1000 + (s - 0x80) * 0x40 + (t - 0x80)) 2
    (ap (sequence_at 0 first 0) (sym e) ∙ rw (is, continuation_again 0 low high 0 s (t ∷ []) sl sh, continuation_again 0 0x80 0xbf 1 t [] tl th) refl)

four_completes : (first low high : ℕ) → lead first ≡ Some (Four low high) → (s t u : ℕ) → low ≤ s → s ≤ high → 0x80 ≤ t → t ≤ 0xbf → 0x80 ≤ u → u ≤ 0xbf → (front : List ℕ) (other : ℕ) (more : List ℕ) → s ∷ t ∷ u ∷ [] ≡ front ++ other ∷ more → Completes first front
unfolding sequence_at four_at
four_completes first low high is s t u sl sh tl th ul uh front other more e =
    complete first front other more ((first - 0xf0) * 0x40000 + (s - 0x80) * 0x1000 + (t - 0x80) * 0x40 + (u - 0x80)) 3
    (ap (sequence_at 0 first 0) (sym e)
    ∙ rw (is, continuation_again 0 low high 0 s (t ∷ u ∷ []) sl sh, continuation_again 0 0x80 0xbf 1 t (u ∷ []) tl th, continuation_again 0 0x80 0xbf 2 u [] ul uh) refl)

-- some byte may stand second
abbrev Ordered : Option Lead → Type 0
Ordered None = Unit {0}
Ordered (Some Two) = Unit {0}
Ordered (Some (Three low high)) = low ≤ high
Ordered (Some (Four low high)) = low ≤ high

lead_ordered : (b : ℕ) → Ordered (lead b)
lead_ordered b =
    cond_both (ltb b 0xc2) _ _ Ordered (λ _. tt) (λ _.
    cond_both (ltb b 0xe0) _ _ Ordered (λ _. tt) (λ _.
    cond_both (eqb b 0xe0) _ _ Ordered (λ _. omega arith) (λ _.
    cond_both (eqb b 0xed) _ _ Ordered (λ _. omega arith) (λ _.
    cond_both (ltb b 0xf0) _ _ Ordered (λ _. omega arith) (λ _.
    cond_both (eqb b 0xf0) _ _ Ordered (λ _. omega arith) (λ _.
    cond_both (ltb b 0xf4) _ _ Ordered (λ _. omega arith) (λ _.
    cond_both (eqb b 0xf4) _ _ Ordered (λ _. omega arith) (λ _. tt))))))))

-- ---- the bytes behind the first

continuation_then : {X : Type 0} (start low high at : ℕ) (next : ℕ × ℕ × List ℕ → Read X) (read : List ℕ → Read X) (Stop : List ℕ → List ℕ → Type 0) (e : JsonFault) → read [] ≡ Err (Syntax at)
    → ((b : ℕ) (l : List ℕ) → read (b ∷ l) ≡ (continuation_at start low high at (b ∷ l) >>= next)) → (e ≡ Syntax at → Stop [] []) → ((b : ℕ) (bs : List ℕ) → e ≡ NotUtf8 start → Stop [] (b ∷ bs))
    → ((b : ℕ) (bs : List ℕ) → low ≤ b → b ≤ high → next (found b (at + 1) bs) ≡ Err e → Halts (λ l. next (found b (at + 1) l)) (λ front rest. Stop (b ∷ front) rest) bs e)
    → (bytes : List ℕ) → read bytes ≡ Err e → Halts read Stop bytes e
continuation_then start low high at next read Stop e r0 r1 ended shown more [] h = halts_end read Stop e (ended (err_is e (Syntax at) (sym h ∙ r0))) h
continuation_then start low high at next read Stop e r0 r1 ended shown more (b ∷ bs) h = by_test (ltb b low || ltb high b) refl
  where
    by_test : (t : Bool) → (ltb b low || ltb high b) ≡ t → Halts read Stop (b ∷ bs) e
    by_test true is =
        let fails : (l : List ℕ) → read (b ∷ l) ≡ Err (NotUtf8 start) = λ l. r1 b l ∙ rw is refl in
        let fault : e ≡ NotUtf8 start = err_is e (NotUtf8 start) (sym h ∙ fails bs) in
        halts_byte read Stop b bs e (shown b bs fault) (λ l. fails l ∙ ap Err (sym fault))
    by_test false is =
        let passes : (l : List ℕ) → read (b ∷ l) ≡ next (found b (at + 1) l) = λ l. r1 b l ∙ rw is refl in
        let p = or_parts _ _ is in
        halts_behind read (λ l. next (found b (at + 1) l)) Stop (b ∷ []) bs e (λ l g. passes l ∙ g) (more b bs (ltb-false b low p.0) (ltb-false high b p.1) (sym (passes bs) ∙ h))

-- the fault at the end, or at a byte that is no continuation
abbrev SequenceStop : ℕ → ℕ → ℕ → JsonFault → List ℕ → List ℕ → Type 0
SequenceStop first start at e front rest = Completes first front × (((e ≡ Syntax (at + length front)) × (rest ≡ [])) ⊎ ((e ≡ NotUtf8 start) × (b : ℕ) × (bs : List ℕ) × (rest ≡ b ∷ bs)))

ended_stop : (first start at : ℕ) (e : JsonFault) (front : List ℕ) (place : ℕ) → Completes first front → place ≡ at + length front → e ≡ Syntax place → SequenceStop first start at e front []
ended_stop first start at e front place c p h = (c, inl (h ∙ ap Syntax p, refl))

shown_stop : (first start at : ℕ) (e : JsonFault) (front : List ℕ) (b : ℕ) (bs : List ℕ) → Completes first front → e ≡ NotUtf8 start → SequenceStop first start at e front (b ∷ bs)
shown_stop first start at e front b bs c h = (c, inr (h, b, bs, refl))

two_halts : (start first at : ℕ) (bytes : List ℕ) (e : JsonFault) → lead first ≡ Some Two → two_at start first at bytes ≡ Err e → Halts (two_at start first at) (SequenceStop first start at e) bytes e
unfolding two_at
two_halts start first at bytes e is h =
    let good : Completes first [] = two_completes first is [] 0x80 [] refl in
    continuation_then start 0x80 0xbf at (λ second. Ok (found ((first - 0xc0) * 0x40 + (second.0 - 0x80)) second.1 second.2)) (two_at start first at) (SequenceStop first start at e) e refl (λ b l. refl)
    (λ q. ended_stop first start at e [] at good (omega arith) q)
    (λ b bs q. shown_stop first start at e [] b bs good q)
    (λ b bs l u g. absurd cc)
    bytes h

three_halts : (start first low high at : ℕ) (bytes : List ℕ) (e : JsonFault) → lead first ≡ Some (Three low high) → low ≤ high → three_at start first low high at bytes ≡ Err e → Halts (three_at start first low high at) (SequenceStop first start at e) bytes e
unfolding three_at
three_halts start first low high at bytes e is order h =
    let good = three_completes first low high is in
    let begun : Completes first [] = good low 0x80 (omega arith) order (omega arith) (omega arith) [] low (0x80 ∷ []) refl in
    continuation_then start low high at (λ second. continuation_at start 0x80 0xbf second.1 second.2 >>= λ third. Ok (found ((first - 0xe0) * 0x1000 + (second.0 - 0x80) * 0x40 + (third.0 - 0x80)) third.1 third.2))
    (three_at start first low high at) (SequenceStop first start at e) e refl (λ b l. refl)
    (λ q. ended_stop first start at e [] at begun (omega arith) q)
    (λ b bs q. shown_stop first start at e [] b bs begun q)
    (λ s ss sl sh g.
    let with_second : Completes first (s ∷ []) = good s 0x80 sl sh (omega arith) (omega arith) (s ∷ []) 0x80 [] refl in
    continuation_then start 0x80 0xbf (at + 1) (λ third. Ok (found ((first - 0xe0) * 0x1000 + (s - 0x80) * 0x40 + (third.0 - 0x80)) third.1 third.2))
    (λ l. continuation_at start 0x80 0xbf (at + 1) l >>= λ third. Ok (found ((first - 0xe0) * 0x1000 + (s - 0x80) * 0x40 + (third.0 - 0x80)) third.1 third.2)) (λ front rest. SequenceStop first start at e (s ∷ front) rest) e refl (λ b l. refl)
    (λ q. ended_stop first start at e (s ∷ []) (at + 1) with_second (omega arith) q)
    (λ b bs q. shown_stop first start at e (s ∷ []) b bs with_second q)
    (λ b bs l u k. absurd cc)
    ss g)
    bytes h

four_halts : (start first low high at : ℕ) (bytes : List ℕ) (e : JsonFault) → lead first ≡ Some (Four low high) → low ≤ high → four_at start first low high at bytes ≡ Err e → Halts (four_at start first low high at) (SequenceStop first start at e) bytes e
unfolding four_at
four_halts start first low high at bytes e is order h =
    let good = four_completes first low high is in
    let value : ℕ → ℕ → ℕ → ℕ = λ p q r. (first - 0xf0) * 0x40000 + (p - 0x80) * 0x1000 + (q - 0x80) * 0x40 + (r - 0x80) in
    let begun : Completes first [] = good low 0x80 0x80 (omega arith) order (omega arith) (omega arith) (omega arith) (omega arith) [] low (0x80 ∷ 0x80 ∷ []) refl in
    continuation_then start low high at (λ second. continuation_at start 0x80 0xbf second.1 second.2 >>= λ third. continuation_at start 0x80 0xbf third.1 third.2 >>= λ fourth. Ok (found (value second.0 third.0 fourth.0) fourth.1 fourth.2))
    (four_at start first low high at) (SequenceStop first start at e) e refl (λ b l. refl)
    (λ q. ended_stop first start at e [] at begun (omega arith) q)
    (λ b bs q. shown_stop first start at e [] b bs begun q)
    (λ s ss sl sh g.
    let with_second : Completes first (s ∷ []) = good s 0x80 0x80 sl sh (omega arith) (omega arith) (omega arith) (omega arith) (s ∷ []) 0x80 (0x80 ∷ []) refl in
    continuation_then start 0x80 0xbf (at + 1) (λ third. continuation_at start 0x80 0xbf third.1 third.2 >>= λ fourth. Ok (found (value s third.0 fourth.0) fourth.1 fourth.2))
    (λ l. continuation_at start 0x80 0xbf (at + 1) l >>= λ third. continuation_at start 0x80 0xbf third.1 third.2 >>= λ fourth. Ok (found (value s third.0 fourth.0) fourth.1 fourth.2)) (λ front rest. SequenceStop first start at e (s ∷ front) rest) e refl (λ b l. refl)
    (λ q. ended_stop first start at e (s ∷ []) (at + 1) with_second (omega arith) q)
    (λ b bs q. shown_stop first start at e (s ∷ []) b bs with_second q)
    (λ t ts tl th k.
    let with_third : Completes first (s ∷ t ∷ []) = good s t 0x80 sl sh tl th (omega arith) (omega arith) (s ∷ t ∷ []) 0x80 [] refl in
    continuation_then start 0x80 0xbf (at + 1 + 1) (λ fourth. Ok (found (value s t fourth.0) fourth.1 fourth.2))
    (λ l. continuation_at start 0x80 0xbf (at + 1 + 1) l >>= λ fourth. Ok (found (value s t fourth.0) fourth.1 fourth.2)) (λ front rest. SequenceStop first start at e (s ∷ t ∷ front) rest) e refl (λ b l. refl)
    (λ q. ended_stop first start at e (s ∷ t ∷ []) (at + 1 + 1) with_third (omega arith) q)
    (λ b bs q. shown_stop first start at e (s ∷ t ∷ []) b bs with_third q)
    (λ b bs l u m. absurd cc)
    ts k)
    ss g)
    bytes h

-- ---- the whole character

-- no character begins with bytes that the reader refuses
no_scalar : (start at first : ℕ) (bytes : List ℕ) (e : JsonFault) → 128 ≤ first → ((l : List ℕ) → sequence_at start first at (bytes ++ l) ≡ Err e) → (c : ℕ) (more : List ℕ) → IsScalar c → encode_utf8 c ≢ first ∷ (bytes ++ more)
no_scalar start at first bytes e above fails c more is q =
    elim (cases_lt c 128) [
      | inl lt ↦ absurd (low lt (sym (encode_one c lt) ∙ q))
      | inr le ↦
          let r = raw_bytes c le is in
          absurd (high r.first r.tail (at + length r.tail) (sym r.utf8 ∙ q) (r.again start at []))
    ]
  where
    low : c < 128 → c ∷ [] ≡ first ∷ (bytes ++ more) → ⊥
    low below p =
        let same : c ≡ first = cc in
        omega (arith, same, below)

    high : (b : ℕ) (tail : List ℕ) (n : ℕ) → b ∷ tail ≡ first ∷ (bytes ++ more) → sequence_at start b at (tail ++ []) ≡ Ok (found c n []) → ⊥
    high b tail n p g =
        let same : b ≡ first = cc in
        let rest : tail ≡ bytes ++ more = cc in
        let read : sequence_at start first at (bytes ++ (more ++ [])) ≡ Ok (found c n []) = ap (sequence_at start first at) (sym (append_assoc bytes more [])) ∙ sym (ap (λ (l : List ℕ). sequence_at start first at (l ++ [])) rest) ∙ ap (λ (m : ℕ). sequence_at start m at (tail ++ [])) (sym same) ∙ g in
        clash (sym (fails (more ++ [])) ∙ read)
      where
        clash : ◌≡◌ {A = Read ℕ} (Err e) (Ok (found c n [])) → ⊥
        clash k = cc

sequence_stop : (read : List ℕ → Read ℕ) (at first : ℕ) (bs : List ℕ) (e : JsonFault) → 128 ≤ first → ((l : List ℕ) → read (first ∷ l) ≡ sequence_at at first (at + 1) l) → Halts (sequence_at at first (at + 1)) (SequenceStop first at (at + 1) e) bs e
    → Halts read (CharacterStop at e) (first ∷ bs) e
sequence_stop read at first bs e above step h = record {
  front = first ∷ h.front;
  rest = h.rest;
  parts = ap (λ (l : List ℕ). first ∷ l) h.parts;
  is = by_fault h.is.1;
  same = λ other f. step (h.front ++ other) ∙ h.same other f;
}
  where
    c : ℕ
    c = h.is.0.0

    lawful : IsLawful BeginsText (first ∷ h.front)
    lawful = inl (begins_character (first ∷ h.front) (h.is.0.1 ∷ h.is.0.2) c (inl (record {
      scalar = h.is.0.3;
      no_control = omega (arith, h.is.0.4);
      no_quote = λ f. omega (arith, h.is.0.4);
      no_backslash = λ f. omega (arith, h.is.0.4);
      spelling_is = sym h.is.0.5;
    })))

    by_fault : ((e ≡ Syntax (at + 1 + length h.front)) × (h.rest ≡ [])) ⊎ ((e ≡ NotUtf8 at) × (b : ℕ) × (bs : List ℕ) × (h.rest ≡ b ∷ bs)) → CharacterStop at e (first ∷ h.front) h.rest
    by_fault (inl q) = stops_here at e (first ∷ h.front) h.rest lawful (q.0 ∙ ap Syntax (omega arith))
    by_fault (inr q) =
        let b = q.1 in
        let fails : (l : List ℕ) → sequence_at at first (at + 1) ((h.front ++ b ∷ []) ++ l) ≡ Err e = λ l. ap (sequence_at at first (at + 1)) (append_assoc h.front (b ∷ []) l) ∙ h.same (b ∷ l) (subst (λ (r : List ℕ). SameFirst r (b ∷ l)) (sym q.3) refl) in (
          lawful,
          subst (IsToldBy BeginsText at (first ∷ h.front) h.rest) (sym q.0) (record {
            before = [];
            bad = first ∷ (h.front ++ b ∷ []);
            shows = record { byte = b; behind = q.2; rest_is = q.3; parts = refl };
            place = omega arith;
            some = omega arith;
            in_quotes = begins_letter;
            broken = (
              first ∷ h.front,
              b,
              h.is.0.1,
              refl,
              (h.is.0.2, c, h.is.0.3, ap (λ (l : List ℕ). first ∷ l) (append_assoc h.front (h.is.0.1 ∷ []) h.is.0.2) ∙ sym h.is.0.5),
              λ k. no_scalar at (at + 1) first (h.front ++ b ∷ []) e above fails k.1 k.0 k.2 (sym k.3),
            );
          }),
        )

pub raw_halts : (read : List ℕ → Read ℕ) (at first : ℕ) (bs : List ℕ) (e : JsonFault) → 128 ≤ first → ((l : List ℕ) → read (first ∷ l) ≡ sequence_at at first (at + 1) l) → sequence_at at first (at + 1) bs ≡ Err e
    → Halts read (CharacterStop at e) (first ∷ bs) e
unfolding sequence_at
raw_halts read at first bs e above step h = by_lead (lead first) refl (lead_ordered first) h
  where
    moved : (behind : List ℕ → Read ℕ) → ((l : List ℕ) → sequence_at at first (at + 1) l ≡ behind l) → Halts behind (SequenceStop first at (at + 1) e) bs e → Halts (sequence_at at first (at + 1)) (SequenceStop first at (at + 1) e) bs e
    moved behind same k = record { front = k.front; rest = k.rest; parts = k.parts; is = k.is; same = λ other f. same (k.front ++ other) ∙ k.same other f }

    by_lead : (o : Option Lead) → lead first ≡ o → Ordered o → with_lead o at first (at + 1) bs ≡ Err e → Halts read (CharacterStop at e) (first ∷ bs) e
    by_lead None is order g =
        let fault : e ≡ NotUtf8 at = err_is e (NotUtf8 at) (sym g) in
        let fails : (l : List ℕ) → sequence_at at first (at + 1) l ≡ Err e = λ l. rw is (ap Err (sym fault)) in
        halts_byte read (CharacterStop at e) first bs e (
          inl begins_nothing,
          subst (IsToldBy BeginsText at [] (first ∷ bs)) (sym fault) (record {
            before = [];
            bad = first ∷ [];
            shows = record { byte = first; behind = bs; rest_is = refl; parts = refl };
            place = omega arith;
            some = omega arith;
            in_quotes = begins_letter;
            broken = ([], first, 120, refl, ([], 120, scalar_low 120 (omega arith), sym (encode_one 120 (omega arith))), λ k. no_scalar at (at + 1) first [] e above fails k.1 k.0 k.2 (sym k.3));
          }),
        )
        (λ l. step l ∙ fails l)
    by_lead (Some Two) is order g = sequence_stop read at first bs e above step (moved (two_at at first (at + 1)) (λ l. rw is refl) (two_halts at first (at + 1) bs e is g))
    by_lead (Some (Three low high)) is order g = sequence_stop read at first bs e above step (moved (three_at at first low high (at + 1)) (λ l. rw is refl) (three_halts at first low high (at + 1) bs e is order g))
    by_lead (Some (Four low high)) is order g = sequence_stop read at first bs e above step (moved (four_at at first low high (at + 1)) (λ l. rw is refl) (four_halts at first low high (at + 1) bs e is order g))

-- what is told of a character that breaks off: it is none, or its bytes end too early
pub sequence_fault : (start first at : ℕ) (bytes : List ℕ) (e : JsonFault) → sequence_at start first at bytes ≡ Err e → (e ≡ NotUtf8 start) ⊎ Completes first bytes
unfolding sequence_at
sequence_fault start first at bytes e h = by_lead (lead first) refl (lead_ordered first) h
  where
    by_stop : (read : List ℕ → Read ℕ) → Halts read (SequenceStop first start at e) bytes e → (e ≡ NotUtf8 start) ⊎ Completes first bytes
    by_stop read k = by_fault k.is.1
      where
        by_fault : ((e ≡ Syntax (at + length k.front)) × (k.rest ≡ [])) ⊎ ((e ≡ NotUtf8 start) × (b : ℕ) × (bs : List ℕ) × (k.rest ≡ b ∷ bs)) → (e ≡ NotUtf8 start) ⊎ Completes first bytes
        by_fault (inl q) = inr (subst (Completes first) (sym (k.parts ∙ ap (λ (l : List ℕ). k.front ++ l) q.1 ∙ append-nil k.front)) k.is.0)
        by_fault (inr q) = inl q.0

    by_lead : (o : Option Lead) → lead first ≡ o → Ordered o → with_lead o start first at bytes ≡ Err e → (e ≡ NotUtf8 start) ⊎ Completes first bytes
    by_lead None is order g = inl (err_is e (NotUtf8 start) (sym g))
    by_lead (Some Two) is order g = by_stop (two_at start first at) (two_halts start first at bytes e is g)
    by_lead (Some (Three low high)) is order g = by_stop (three_at start first low high at) (three_halts start first low high at bytes e is order g)
    by_lead (Some (Four low high)) is order g = by_stop (four_at start first low high at) (four_halts start first low high at bytes e is order g)
