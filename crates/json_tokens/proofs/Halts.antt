-- A reader that fails, by the bytes before and those that were left: what is known of the fault, and the same with more
-- bytes before.
use Rattle.std.proofs.Common.{◌≡◌, ℕ, ◌+◌, ◌<◌, ◌⊎◌, inl, inr, List, [], ◌∷◌, ◌++◌, length, take, drop, Result, Ok, Err, refl, sym, ap, subst, ◌∙◌, append_assoc, length-append, arith}
use Rattle.std.proofs.lemmas.List.{take_at, drop_at}
use Rattle.json_tokens.specs.declared.fault.JsonFault.{JsonFault}
use Rattle.json_tokens.specs.declared.fault.JsonFault.TheVariants.{Syntax, Depth, NotUtf8, TooLarge, Memory}
use Rattle.json_tokens.specs.Grammar.{IsUnit}
use Rattle.json_tokens.specs.Reading.{◌>>=◌, Read}
use Rattle.json_tokens.specs.Faults.{IsInQuotes, IsLawful, IsBroken, BeginsCharacter, IsAlone}
use Rattle.json_tokens.proofs.FirstBytes.{SameFirst, same_none, same_some}
use Rattle.json_tokens.proofs.Stuck.{IsToldAt, Stuck}

-- the byte behind the front, and the bytes with it
pub record Shows (front rest before shown : List ℕ) : Type 0 where
  pub byte : ℕ
  pub behind : List ℕ
  pub rest_is : rest ≡ byte ∷ behind
  pub parts : front ++ byte ∷ [] ≡ before ++ shown

pub record LoneHalf (Begin : List ℕ → Type 0) (at : ℕ) (front rest : List ℕ) (p : ℕ) : Type 0 where
  pub before : List ℕ
  pub digits : List ℕ
  pub unit : ℕ
  pub behind : List ℕ
  pub shows : Shows front rest before (92 ∷ 117 ∷ (digits ++ behind))
  pub place : p ≡ at + length before
  pub in_quotes : IsInQuotes Begin before
  pub code : IsUnit digits unit
  pub alone : IsAlone unit behind

pub record BadSequence (Begin : List ℕ → Type 0) (at : ℕ) (front rest : List ℕ) (p : ℕ) : Type 0 where
  pub before : List ℕ
  pub bad : List ℕ
  pub shows : Shows front rest before bad
  pub place : p ≡ at + length before
  pub some : 0 < length bad
  pub in_quotes : IsInQuotes Begin before
  pub broken : IsBroken BeginsCharacter bad

-- the fault of a reader that began at the place, read the front and left the rest
abbrev pub IsToldBy : (List ℕ → Type 0) → ℕ → List ℕ → List ℕ → JsonFault → Type 0
IsToldBy Begin at front rest (Syntax p) = (p ≡ at + length front) ⊎ LoneHalf Begin at front rest p
IsToldBy Begin at front rest (NotUtf8 p) = BadSequence Begin at front rest p
IsToldBy Begin at front rest (Depth p) = ⊥
IsToldBy Begin at front rest TooLarge = ⊥
IsToldBy Begin at front rest Memory = ⊥

-- ---- by numbers of bytes

take_one : (front : List ℕ) (b : ℕ) (behind : List ℕ) → take (length front + 1) (front ++ b ∷ behind) ≡ front ++ b ∷ []
take_one front b behind =
    ap (take (length front + 1)) (sym (append_assoc front (b ∷ []) behind)) ∙ take_at (front ++ b ∷ []) behind (length front + 1) (omega (arith, length-append front (b ∷ [])))

module _ {X : Type 0} (read : ℕ → List ℕ → Read X) (Begin Deeper : List ℕ → Type 0) (at : ℕ) (bytes : List ℕ) (front rest : List ℕ) (parts : bytes ≡ front ++ rest) where
  -- what the byte shows, by numbers
  pub record Counted (before shown : List ℕ) : Type 0 where
    pub taken : take (length before) bytes ≡ before
    pub dropped : drop (length before) (take (length front + 1) bytes) ≡ shown
    pub inside : length front < length bytes
    pub from : length before + length shown ≡ length front + 1

  counted : (before shown : List ℕ) → Shows front rest before shown → Counted before shown
  counted before shown s =
      let all : bytes ≡ front ++ s.byte ∷ s.behind = parts ∙ ap (λ (l : List ℕ). front ++ l) s.rest_is in
      let split : bytes ≡ before ++ (shown ++ s.behind) = all ∙ sym (append_assoc front (s.byte ∷ []) s.behind) ∙ ap (λ (l : List ℕ). l ++ s.behind) s.parts ∙ append_assoc before shown s.behind in
      record {
        taken = ap (take (length before)) split ∙ take_at before (shown ++ s.behind) (length before) refl;
        dropped = ap (λ (l : List ℕ). drop (length before) (take (length front + 1) l)) all ∙ ap (drop (length before)) (take_one front s.byte s.behind ∙ s.parts) ∙ drop_at before shown (length before) refl;
        inside = omega (arith, ap length all, length-append front (s.byte ∷ s.behind));
        from = omega (arith, ap length s.parts, length-append front (s.byte ∷ []), length-append before shown);
      }

  told_of : (e : JsonFault) → IsToldBy Begin at front rest e → IsToldAt Begin Deeper at bytes (length front) e
  told_of (Syntax p) (inl h) = inl h
  told_of (Syntax p) (inr l) =
      let n = counted l.before (92 ∷ 117 ∷ (l.digits ++ l.behind)) l.shows in
      inr (
        length l.before,
        l.place,
        record { digits = l.digits; unit = l.unit; behind = l.behind; in_quotes = subst (IsInQuotes Begin) (sym n.taken) l.in_quotes; code = l.code; alone = l.alone; escape = n.dropped; inside = n.inside },
      )
  told_of (NotUtf8 p) b =
      let n = counted b.before b.bad b.shows in (
        length b.before,
        b.place,
        record {
          in_quotes = subst (IsInQuotes Begin) (sym n.taken) b.in_quotes;
          from = omega (arith, n.from, b.some);
          inside = n.inside;
          broken = subst (IsBroken BeginsCharacter) (sym n.dropped) b.broken;
        },
      )
  told_of (Depth p) h = absurd h
  told_of TooLarge h = absurd h
  told_of Memory h = absurd h

alike_of : {X : Type 0} (read : List ℕ → Read X) (bytes front rest : List ℕ) (e : JsonFault) → bytes ≡ front ++ rest → ((other : List ℕ) → SameFirst rest other → read (front ++ other) ≡ Err e)
    → length front < length bytes → (more : List ℕ) → read (take (length front + 1) bytes ++ more) ≡ Err e
alike_of read bytes front [] e parts same lt more = absurd (omega (arith, lt, ap length parts, length-append front []))
alike_of read bytes front (b ∷ behind) e parts same lt more =
    ap (λ (l : List ℕ). read (take (length front + 1) l ++ more)) parts ∙ ap (λ (l : List ℕ). read (l ++ more)) (take_one front b behind) ∙ ap read (append_assoc front (b ∷ []) more) ∙ same (b ∷ more) refl

pub halt_stuck : {X : Type 0} (read : ℕ → List ℕ → Read X) (Begin Deeper : List ℕ → Type 0) (at : ℕ) (bytes front rest : List ℕ) (e : JsonFault) → bytes ≡ front ++ rest → IsLawful Begin front → IsToldBy Begin at front rest e
    → ((other : List ℕ) → SameFirst rest other → read at (front ++ other) ≡ Err e) → Stuck read Begin Deeper at bytes e
halt_stuck read Begin Deeper at bytes front rest e parts lawful told same = record {
  stop = length front;
  within = omega (arith, ap length parts, length-append front rest);
  lawful = subst (IsLawful Begin) (sym (ap (take (length front)) parts ∙ take_at front rest (length front) refl)) lawful;
  told = told_of read Begin Deeper at bytes front rest parts e told;
  alike = alike_of (read at) bytes front rest e parts same;
}

-- ---- with more bytes before

module _ (Begin : List ℕ → Type 0) (c : List ℕ) (moves : (w : List ℕ) → Begin w → Begin (c ++ w)) where
  quotes_behind : (w : List ℕ) → IsInQuotes Begin w → IsInQuotes Begin (c ++ w)
  quotes_behind w h = subst Begin (sym (append_assoc c w (120 ∷ []))) (moves (w ++ 120 ∷ []) h)

  pub lawful_behind : (front : List ℕ) → IsLawful Begin front → IsLawful Begin (c ++ front)
  lawful_behind front (inl h) = inl (moves front h)
  lawful_behind front (inr u) = inr (record {
    before = c ++ u.before;
    digits = u.digits;
    bytes_are = ap (λ (l : List ℕ). c ++ l) u.bytes_are ∙ sym (append_assoc c u.before (92 ∷ 117 ∷ u.digits));
    in_quotes = quotes_behind u.before u.in_quotes;
    few = u.few;
    hexadecimal = u.hexadecimal;
  })

  shows_behind : (front rest before shown : List ℕ) → Shows front rest before shown → Shows (c ++ front) rest (c ++ before) shown
  shows_behind front rest before shown s = record {
    byte = s.byte;
    behind = s.behind;
    rest_is = s.rest_is;
    parts = append_assoc c front (s.byte ∷ []) ∙ ap (λ (l : List ℕ). c ++ l) s.parts ∙ sym (append_assoc c before shown);
  }

  pub told_behind : (at : ℕ) (front rest : List ℕ) (e : JsonFault) → IsToldBy Begin (at + length c) front rest e → IsToldBy Begin at (c ++ front) rest e
  told_behind at front rest (Syntax p) (inl h) = inl (omega (arith, h, length-append c front))
  told_behind at front rest (Syntax p) (inr l) = inr (record {
    before = c ++ l.before;
    digits = l.digits;
    unit = l.unit;
    behind = l.behind;
    shows = shows_behind front rest l.before (92 ∷ 117 ∷ (l.digits ++ l.behind)) l.shows;
    place = omega (arith, l.place, length-append c l.before);
    in_quotes = quotes_behind l.before l.in_quotes;
    code = l.code;
    alone = l.alone;
  })
  told_behind at front rest (NotUtf8 p) b = record {
    before = c ++ b.before;
    bad = b.bad;
    shows = shows_behind front rest b.before b.bad b.shows;
    place = omega (arith, b.place, length-append c b.before);
    some = b.some;
    in_quotes = quotes_behind b.before b.in_quotes;
    broken = b.broken;
  }
  told_behind at front rest (Depth p) h = absurd h
  told_behind at front rest TooLarge h = absurd h
  told_behind at front rest Memory h = absurd h

-- ---- a reader step by step

pub bind_err : {A B F : Type 0} (r : Result A F) (f : A → Result B F) (e : F) → (r >>= f) ≡ Err e → (r ≡ Err e) ⊎ ((x : A) × (r ≡ Ok x) × (f x ≡ Err e))
bind_err (Ok x) f e h = inr (x, refl, h)
bind_err (Err d) f e h = inl (ap Err (error_is d e h))
  where
    error_is : {B F : Type 0} (x y : F) → ◌≡◌ {A = Result B F} (Err x) (Err y) → x ≡ y
    error_is x y p = cc

pub err_is : {A F : Type 0} (x y : F) → ◌≡◌ {A = Result A F} (Err x) (Err y) → x ≡ y
err_is x y e = cc

-- A reader fails: what it read before, what was left, and that it fails so before all that begins with the same byte.
pub record Halts {X : Type 0} (read : List ℕ → Read X) (Stop : List ℕ → List ℕ → Type 0) (bytes : List ℕ) (e : JsonFault) : Type 0 where
  pub front : List ℕ
  pub rest : List ℕ
  pub parts : bytes ≡ front ++ rest
  pub is : Stop front rest
  pub same : (other : List ℕ) → SameFirst rest other → read (front ++ other) ≡ Err e

pub halts_end : {X : Type 0} (read : List ℕ → Read X) (Stop : List ℕ → List ℕ → Type 0) (e : JsonFault) → Stop [] [] → read [] ≡ Err e → Halts read Stop [] e
halts_end read Stop e s h = record { front = []; rest = []; parts = refl; is = s; same = λ other f. subst (λ (l : List ℕ). read l ≡ Err e) (sym (same_none other f)) h }

pub halts_byte : {X : Type 0} (read : List ℕ → Read X) (Stop : List ℕ → List ℕ → Type 0) (b : ℕ) (bs : List ℕ) (e : JsonFault) → Stop [] (b ∷ bs) → ((more : List ℕ) → read (b ∷ more) ≡ Err e) → Halts read Stop (b ∷ bs) e
halts_byte read Stop b bs e s h = record {
  front = [];
  rest = b ∷ bs;
  parts = refl;
  is = s;
  same = λ other f. let m = same_some b bs other f in subst (λ (l : List ℕ). read l ≡ Err e) (sym m.1) (h m.0);
}

pub halts_behind : {X Y : Type 0} (read : List ℕ → Read X) (next : List ℕ → Read Y) (Stop : List ℕ → List ℕ → Type 0) (w bytes : List ℕ) (e : JsonFault) → ((l : List ℕ) → next l ≡ Err e → read (w ++ l) ≡ Err e)
    → Halts next (λ front rest. Stop (w ++ front) rest) bytes e → Halts read Stop (w ++ bytes) e
halts_behind read next Stop w bytes e step h = record {
  front = w ++ h.front;
  rest = h.rest;
  parts = ap (λ (l : List ℕ). w ++ l) h.parts ∙ sym (append_assoc w h.front h.rest);
  is = h.is;
  same = λ other f. ap read (append_assoc w h.front other) ∙ step (h.front ++ other) (h.same other f);
}
