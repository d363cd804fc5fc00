-- What namers give: the names given so far, and the rules of namers.
use Rattle.std.specs.Prelude.{◌≡◌, ℕ, ◌+◌, ◌/◌, ◌%◌, Bool, true, false, ◌||◌, not, ◌==◌, List, [], ◌∷◌, ◌++◌, Option, Some, None, length, nat_le, bytes_eq, if◌then◌else◌}
use Rattle.std.specs.List.{list_any}
use Rattle.reel_names.specs.declared.namer.ReelName.{ReelName}
use Rattle.reel_names.specs.Names.{fits}

-- the name that a reel has among these, if it has one
abbrev pub name_of : List ReelName → ℕ → Option (List ℕ)
name_of [] reel = None
name_of (r ∷ rs) reel = if r.reel == reel then Some r.name else name_of rs reel

abbrev pub has_reel : List ReelName → ℕ → Bool
has_reel names reel = list_any (λ r. r.reel == reel) names

abbrev pub has_name : List ReelName → List ℕ → Bool
has_name names name = list_any (λ r. bytes_eq r.name name) names

-- no reel and no name is here twice, and a list that is written can have each name
abbrev pub AreNames : List ReelName → Type 0
AreNames [] = Unit {0}
AreNames (r ∷ rs) = (fits r.name ≡ true) × ((has_reel rs r.reel ≡ false) × ((has_name rs r.name ≡ false) × AreNames rs))

-- what a namer goes by, which is all that it was made with: whether it refuses a reel with a text that has no name yet,
-- and the name that it gives to one that it does not refuse, where it has given these names
pub record NamerRule : Type 0 where
  pub refuses : List ReelName → ℕ → List ℕ → Bool
  pub gives : List ReelName → ℕ → List ℕ → List ℕ

-- the name of a reel with a text: the one that it has, or else the one that the rule gives it; none where it refuses
abbrev pub new_name : NamerRule → List ReelName → ℕ → List ℕ → Option (List ℕ)
new_name rule given reel text = if rule.refuses given reel text then None else Some (rule.gives given reel text)

abbrev pub or_new : Option (List ℕ) → Option (List ℕ) → Option (List ℕ)
or_new None new = new
or_new (Some name) new = Some name

abbrev pub name_for : NamerRule → List ReelName → ℕ → List ℕ → Option (List ℕ)
name_for rule given reel text = or_new (name_of given reel) (new_name rule given reel text)

-- the names given once a reel has this name
abbrev pub with_name : List ReelName → ℕ → List ℕ → List ReelName
with_name given reel name = if has_reel given reel then given else given ++ record { reel = reel; name = name } ∷ []

-- the text itself, where it fits and no other reel has it
abbrev pub as_is : NamerRule
as_is = record {
  refuses = λ given reel text. not (fits text) || has_name given text;
  gives = λ given reel text. text;
}

-- a number below 1,000 as three decimal digits
abbrev pub three_digits : ℕ → List ℕ
three_digits n = (48 + n / 100) ∷ (48 + n / 10 % 10) ∷ (48 + n % 10) ∷ []

-- R001, R002 and so on, up to R999
abbrev pub numbered_name : ℕ → List ℕ
numbered_name n = 82 ∷ three_digits n

abbrev pub numbered : NamerRule
numbered = record {
  refuses = λ given reel text. nat_le 999 (length given);
  gives = λ given reel text. numbered_name (length given + 1);
}

-- these are the first names that `Numbered` gives, from a number on
abbrev pub AreNumbered : ℕ → List ReelName → Type 0
AreNumbered n [] = Unit {0}
AreNumbered n (r ∷ rs) = (r.name ≡ numbered_name n) × AreNumbered (n + 1) rs
