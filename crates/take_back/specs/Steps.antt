-- What the steps of an object mean of which calls can be taken back.
use Rattle.std.specs.Prelude.{ℕ, List, [], ◌∷◌, Option, Some, None, Result, Ok, Err, map, option_map}
use Rattle.part_sets.specs.Members.{members, first_absent}
use Rattle.room_core.specs.Whole.{Meaning, set_of, unless_refused}
use Rattle.take_back.specs.Parts.{nows, changed, given_back, is_by, has_names, first_not}
use Rattle.take_back.specs.declared.answers.BackDone.{BackDone}
use Rattle.take_back.specs.declared.answers.BackDone.TheVariants.{Own, Plain}
use Rattle.take_back.specs.declared.answers.BackRefusal.{BackRefusal}
use Rattle.take_back.specs.declared.answers.BackRefusal.TheVariants.{Own as OwnRefusal, NoPart, NotYours, OtherTracks}
use Rattle.take_back.specs.declared.kept.Kept.{Kept}
use Rattle.take_back.specs.declared.step.Deed.{Deed}
use Rattle.take_back.specs.declared.step.Deed.TheVariants.{Do, Back}
use Rattle.take_back.specs.declared.step.Step.{Step}

-- the same step, asked for by this station
abbrev pub asked_by : {C : Type 0} → ℕ → Step C → Step C
asked_by station step = record { by = station; act = step.act }

-- the parts that it names
abbrev pub names_of : {C : Type 0} → (C → List ℕ) → Deed C → List ℕ
names_of names (Do c) = names c
names_of names (Back tracks) = members tracks

-- the first of some named parts that is not there; where none is named, the count of parts
abbrev pub missing : ℕ → List ℕ → Option ℕ
missing count [] = Some count
missing count (n ∷ ns) = first_absent count (n ∷ ns)

-- why it is refused for the parts that it names
abbrev pub refusal_of : {C R : Type 0} → ℕ → (C → Option R) → Deed C → Option (BackRefusal R)
refusal_of count refuses (Do c) = option_map OwnRefusal (refuses c)
refusal_of count refuses (Back tracks) = option_map NoPart (missing count (members tracks))

-- a call was done: each part that it names has what it was as its former part
abbrev pub done_by : {P D R : Type 0} → ℕ → ℕ → List (Kept P) → Result (List P × D) R
    → Result (List (Kept P) × BackDone D) (BackRefusal R)
done_by names by ks (Ok (ps, d)) = Ok (changed names by ks ps, Own d)
done_by names by ks (Err r) = Err (OwnRefusal r)

-- the last call on these parts is taken back, where it was of this station and named them all and no other
abbrev pub taken_back : {P D R : Type 0} → ℕ → ℕ → List (Kept P) → Result (List (Kept P) × BackDone D) (BackRefusal R)
taken_back by tracks ks =
    unless_refused (option_map NotYours (first_not (is_by by) (members tracks) ks))
    (unless_refused (option_map OtherTracks (first_not (has_names tracks) (members tracks) ks))
    (Ok (map given_back ks, Plain)))

abbrev pub applied_to : {P C D R : Type 0} → Meaning P C D R → List (Kept P) → ℕ → Deed C
    → Result (List (Kept P) × BackDone D) (BackRefusal R)
applied_to m ks by (Do c) = done_by (set_of (m.names c)) by ks (m.applied (nows ks) c)
applied_to m ks by (Back tracks) = taken_back by tracks ks

-- for an object with so many parts whose calls mean this
abbrev pub backed : {P C D R : Type 0} → ℕ → Meaning P C D R → Meaning (Kept P) (Step C) (BackDone D) (BackRefusal R)
backed count m = record {
  names = λ (s : Step _). names_of m.names s.act;
  refuses = λ (s : Step _). refusal_of count m.refuses s.act;
  applied = λ ks (s : Step _). applied_to m ks s.by s.act;
}
