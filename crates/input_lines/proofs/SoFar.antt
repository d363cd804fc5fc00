-- An input of which some was taken, and how it ends.
use Rattle.std.proofs.Common.{◌≡◌, ℕ, ◌+◌, ◌-◌, ◌<◌, ◌≤◌, ◌↔◌, ◌⊎◌, inl, inr, List, [], ◌∷◌, ◌++◌, All, length, take, Option, Some, None, IfSome, Result, Ok, Err, refl, sym, ap, ◌∙◌, subst, arith, append_assoc}
use Rattle.std.proofs.lemmas.List.{length-append}
use Rattle.room_ports.specs.Bytes.{Gives}
use Rattle.room_ports.specs.Counts.{HasRisen}
use Rattle.room_ports.proofs.Fronts.{gives-gives}
use Rattle.line_words.specs.Lines.{Line, last_line, lines_of}
use Rattle.line_words.specs.Pieces.{ended, pending_after}
use Rattle.input_lines.specs.Inputs.{AllTaken, EndsWith, GivesAll, InputEnds, IsAmong, StopsAfter, StopsAtEnd, StopsInPiece, StopsWithin, TakenInPart, most_input, most_read}
use Rattle.input_lines.specs.declared.taking.InputStop.{InputStop}
use Rattle.input_lines.specs.declared.taking.InputStop.TheVariants.{ReadFault, TooMuch, Stopped}
use Rattle.input_lines.proofs.Pieces.{all_given, ended_more, first_bytes, lines_at_end, pending_more}

-- an input so far: what was got, the lines that ended in it, how many there are, and no fault
pub record SoFar {T : Type 0} (goes : T → T → List Line → Type 0) (a b : T) (before now : Option (List ℕ)) (old new : ℕ) (pending : Line) (count : ℕ) (got : List ℕ) : Type 0 where
  pub gives : Gives before now got
  pub waits : pending ≡ pending_after (Some []) got
  pub taken : goes a b (ended (Some []) got)
  pub counts : count ≡ length (ended (Some []) got)
  pub within : length got ≤ most_input
  pub quiet : new ≡ old

-- taking lines after so many others
stops_later : {T E : Type 0} (goes : T → T → List Line → Type 0) (stops : T → ℕ → Line → E → Type 0)
    → ((a b c : T) (lines others : List Line) → goes a b lines → goes b c others → goes a c (lines ++ others))
    → (a b : T) (count : ℕ) (why : E) (lines before : List Line) (line : Line) → goes a b lines → count ≡ length lines
    → StopsAfter goes stops b count why before line → StopsAfter goes stops a 0 why (lines ++ before) line
stops_later goes stops joins a b count why lines before line g is s = (
  s.0,
  joins a b s.0 lines before g s.1,
  subst (λ (n : ℕ). stops s.0 n line why) (let n : count + length before + 1 ≡ 0 + length (lines ++ before) + 1 = omega (arith, is, length-append lines before) in n) s.2,
)

module _ {T E : Type 0} (goes : T → T → List Line → Type 0) (stops : T → ℕ → Line → E → Type 0)
    (ends : Line → Type 0) (cuts : ℕ → Line → E → Type 0)
    (joins : (a b c : T) (lines others : List Line) → goes a b lines → goes b c others → goes a c (lines ++ others)) where
  -- the last line is taken, or the taker stops at it
  pub at_end : (a b c : T) (before now after : Option (List ℕ)) (old new last : ℕ) (pending : Line) (count : ℕ) (got chunk : List ℕ) (n : ℕ)
      (result : Result (Unit {0}) (InputStop E)) → SoFar goes a b before now old new pending count got → Gives now after chunk → last ≡ new
      → n ≡ 0 → IfSome now (λ bytes. (n ≡ 0) ↔ (bytes ≡ [])) → EndsWith goes ends cuts b c count (last_line pending) result
      → InputEnds goes stops ends cuts a c before after old last result
  at_end a b c before now after old new last pending count got chunk n (Ok done) s gives quiet none_read end e = (
    quiet ∙ s.quiet,
    record {
      got = got;
      gives = all_given before now after got chunk n s.gives gives none_read end;
      within = s.within;
      taken = subst (goes a c) (lines_at_end got pending s.waits) (joins a b c (ended (Some []) got) (last_line pending) s.taken e.0);
      last = subst (λ (p : Line). All ends (last_line p)) s.waits e.1;
    },
  )
  at_end a b c before now after old new last pending count got chunk n (Err ReadFault) s gives quiet none_read end e = absurd e
  at_end a b c before now after old new last pending count got chunk n (Err TooMuch) s gives quiet none_read end e = absurd e
  at_end a b c before now after old new last pending count got chunk n (Err (Stopped why)) s gives quiet none_read end e = (
    quiet ∙ s.quiet,
    inr (record {
      got = got;
      gives = all_given before now after got chunk n s.gives gives none_read end;
      within = s.within;
      line = e.0;
      last = ap last_line (sym s.waits) ∙ e.1;
      there = b;
      taken = s.taken;
      cut = subst (λ (k : ℕ). cuts (k + 1) e.0 why) s.counts e.2;
    }),
  )

  -- the taker stops within a piece
  pub in_piece : (a b c : T) (before now after : Option (List ℕ)) (old new last : ℕ) (pending : Line) (count : ℕ) (got chunk piece : List ℕ) (why : E)
      → SoFar goes a b before now old new pending count got → Gives now after chunk → last ≡ new
      → length chunk ≤ most_read → take (most_input - length got) chunk ≡ piece → StopsWithin goes stops b count pending piece why
      → InputEnds goes stops ends cuts a c before after old last (Err (Stopped why))
  in_piece a b c before now after old new last pending count got chunk piece why s gives quiet small fits w = (
    quiet ∙ s.quiet,
    inl (record {
      taken = got;
      piece = chunk;
      gives = gives-gives before now after got chunk s.gives gives;
      one_read = small;
      within = s.within;
      earlier = w.0;
      line = w.1;
      among = rw (← s.waits, fits) w.2;
      stopped = stops_later goes stops joins a b count why (ended (Some []) got) w.0 w.1 s.taken s.counts w.3;
    }),
  )

  -- the lines that ended in what was got and in a piece more
  taken_piece : (a b c : T) (before now : Option (List ℕ)) (old new : ℕ) (pending : Line) (count : ℕ) (got piece : List ℕ)
      → SoFar goes a b before now old new pending count got → goes b c (ended pending piece) → goes a c (ended (Some []) (got ++ piece))
  taken_piece a b c before now old new pending count got piece s g =
      subst (goes a c) (ended_more got piece pending s.waits) (joins a b c (ended (Some []) got) (ended pending piece) s.taken g)

  pub too_much : (a b c : T) (before now after : Option (List ℕ)) (old new last : ℕ) (pending : Line) (count : ℕ) (got chunk piece rest : List ℕ)
      → SoFar goes a b before now old new pending count got → Gives now after chunk → last ≡ new
      → length chunk ≤ most_read → chunk ≡ piece ++ rest → length got + length piece ≡ most_input → length piece < length chunk
      → goes b c (ended pending piece) → InputEnds goes stops ends cuts a c before after old last (Err TooMuch)
  too_much a b c before now after old new last pending count got chunk piece rest s gives quiet small cut full more g =
      let first : take most_input (got ++ chunk) ≡ got ++ piece = ap (λ t. take most_input (got ++ t)) cut ∙ first_bytes got piece rest most_input full in (
        quiet ∙ s.quiet,
        record {
          got = got ++ chunk;
          gives = gives-gives before now after got chunk s.gives gives;
          more = omega (arith, length-append got chunk, full, more);
          within = omega (arith, length-append got chunk, s.within, small);
          taken = subst (λ (bytes : List ℕ). goes a c (ended (Some []) bytes)) (sym first) (taken_piece a b c before now old new pending count got piece s g);
        },
      )

  pub one_more : (a b c : T) (before now after : Option (List ℕ)) (old new last : ℕ) (pending next : Line) (count then : ℕ) (got piece : List ℕ)
      → SoFar goes a b before now old new pending count got → Gives now after piece → last ≡ new
      → length got + length piece ≤ most_input → next ≡ pending_after pending piece → then ≡ count + length (ended pending piece)
      → goes b c (ended pending piece) → SoFar goes a c before after old last next then (got ++ piece)
  one_more a b c before now after old new last pending next count then got piece s gives quiet within is counted g = record {
    gives = gives-gives before now after got piece s.gives gives;
    waits = pending_more got piece pending next s.waits is;
    taken = taken_piece a b c before now old new pending count got piece s g;
    counts = counted ∙ (ap (λ (k : ℕ). k + length (ended pending piece)) s.counts ∙ (sym (length-append (ended (Some []) got) (ended pending piece)) ∙ ap length (ended_more got piece pending s.waits)));
    within = omega (arith, length-append got piece, within);
    quiet = quiet ∙ s.quiet;
  }
