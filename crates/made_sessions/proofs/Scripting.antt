-- The entries of a journal beside the scripts.
use Rattle.std.proofs.Common.{◌≡◌, ◌≢◌, ℕ, zero, suc, ◌+◌, ◌-◌, ◌<◌, Bool, true, false, ◌==◌, cond, List, [], ◌∷◌, ◌++◌, length, map, drop, get_or, refl, sym, ap, ◌∙◌, arith}
use Rattle.std.proofs.lemmas.List.{append-nil, append_assoc, drop_more}
use Rattle.std.proofs.lemmas.Bool.Decides.{nat_tests}
use Rattle.room_core.specs.OwnParts.{calls_of}
use Rattle.edit_calls.specs.declared.asks.Call.{Call}
use Rattle.room_core.specs.Projection.{of_station}
use Rattle.room_core.specs.declared.entry.Entry.{Entry}
use Rattle.made_sessions.specs.Scripts.{next_word, script, script_call, script_from, sent_line, sent_lines}

-- A station's script has come so far, with so many calls left: where these are the station's entries to come, all of its
-- entries are its script.
pub record Goes (number count station : ℕ) (entries : List (Entry Call)) (own place word more : ℕ) (behind : List (Entry Call)) : Type 0 where
  pub own_is : own ≡ station
  pub place_is : place + more ≡ count
  pub goes : calls_of (of_station station behind) ≡ script_from station place word more → calls_of (of_station station entries) ≡ script number count station

-- one call more of a script
call_more : (station place word more : ℕ) → 0 < more
    → script_call station place word ∷ script_from station (place + 1) (next_word (next_word (next_word word))) (more - 1) ≡ script_from station place word more
call_more station place word zero some = absurd (omega (arith, some))
call_more station place word (suc more) some =
    let one : suc more - 1 ≡ more = omega arith in
    ap (λ (k : ℕ). script_call station place word ∷ script_from station (place + 1) (next_word (next_word (next_word word))) k) one

same_number : (n m : ℕ) → n ≡ m → (n == m) ≡ true
same_number n m is = Prim.grind (arith, nat_tests, is)

other_number : (n m : ℕ) → (n ≡ m → ⊥) → (n == m) ≡ false
other_number n m is = Prim.grind (arith, nat_tests, is)

-- one entry more of the station
own_calls : (station : ℕ) (e : Entry Call) (rest : List (Entry Call)) → e.station ≡ station → calls_of (of_station station (e ∷ rest)) ≡ e.call ∷ calls_of (of_station station rest)
own_calls station e rest is = ap (λ (b : Bool). calls_of (cond b (e ∷ of_station station rest) (of_station station rest))) (same_number e.station station is)

-- and of another
other_calls : (station : ℕ) (e : Entry Call) (rest : List (Entry Call)) → (e.station ≡ station → ⊥) → calls_of (of_station station (e ∷ rest)) ≡ calls_of (of_station station rest)
other_calls station e rest is = ap (λ (b : Bool). calls_of (cond b (e ∷ of_station station rest) (of_station station rest))) (other_number e.station station is)

module _ (number count station : ℕ) (all : List (Entry Call)) (own place word more i : ℕ) (d e : Entry Call) (low : i < length all) (is : e ≡ get_or all i d)
    (so : Goes number count station all own place word more (drop i all)) where
  here : drop i all ≡ e ∷ drop (i + 1) all
  here = drop_more all i d low ∙ ap (λ (x : Entry Call). x ∷ drop (i + 1) all) (sym is)

  pub goes_own : e.station ≡ station → 0 < more → e.call ≡ script_call own place word
      → Goes number count station all own (place + 1) (next_word (next_word (next_word word))) (more - 1) (drop (i + 1) all)
  goes_own of some call = record {
    own_is = so.own_is;
    place_is = let at = so.place_is in omega (arith, at, some);
    goes = λ rest.
        so.goes (ap (λ (l : List (Entry Call)). calls_of (of_station station l)) here
        ∙ own_calls station e (drop (i + 1) all) of
        ∙ ap (λ (c : Call). c ∷ calls_of (of_station station (drop (i + 1) all))) (call ∙ ap (λ (n : ℕ). script_call n place word) so.own_is)
        ∙ ap (λ (cs : List Call). script_call station place word ∷ cs) rest
        ∙ call_more station place word more some);
  }

  pub goes_other : (e.station ≡ station → ⊥) → Goes number count station all own place word more (drop (i + 1) all)
  goes_other of = record {
    own_is = so.own_is;
    place_is = so.place_is;
    goes = λ rest.
        so.goes (ap (λ (l : List (Entry Call)). calls_of (of_station station l)) here
        ∙ other_calls station e (drop (i + 1) all) of ∙ rest);
  }

-- ---- the text of a script

-- Before a line: the text so far, and behind it the lines to come, are the text of the script.
pub record Writes (number count station : ℕ) (text : List ℕ) (own place word line : ℕ) : Type 0 where
  pub own_is : own ≡ station
  pub place_is : place ≡ line
  pub all : text ++ sent_lines (script_from station place word (count - line)) ≡ sent_lines (script number count station)

pub writes_more : (number count station : ℕ) (text : List ℕ) (own place word line : ℕ) → line < count → Writes number count station text own place word line
    → Writes number count station (text ++ sent_line (script_call own place word)) own (place + 1) (next_word (next_word (next_word word))) (line + 1)
writes_more number count station text own place word line low so = record {
  own_is = so.own_is;
  place_is = let at = so.place_is in omega (arith, at);
  all =
      let after = next_word (next_word (next_word word)) in
      let one : count - (line + 1) ≡ count - line - 1 = omega arith in
      append_assoc text (sent_line (script_call own place word)) (sent_lines (script_from station (place + 1) after (count - (line + 1))))
      ∙ ap (λ (n : ℕ). text ++ (sent_line (script_call n place word) ++ sent_lines (script_from station (place + 1) after (count - (line + 1))))) so.own_is
      ∙ ap (λ (k : ℕ). text ++ sent_lines (script_call station place word ∷ script_from station (place + 1) after k)) one
      ∙ ap (λ (cs : List Call). text ++ sent_lines cs) (call_more station place word (count - line) (omega (arith, low)))
      ∙ so.all;
}

pub writes_all : (number count station : ℕ) (text : List ℕ) (own place word line : ℕ) → count ≡ line → Writes number count station text own place word line
    → text ≡ sent_lines (script number count station)
writes_all number count station text own place word line is so =
    let none : count - line ≡ 0 = omega (arith, is) in
    sym (append-nil text) ∙ ap (λ (k : ℕ). text ++ sent_lines (script_from station place word k)) (sym none) ∙ so.all
