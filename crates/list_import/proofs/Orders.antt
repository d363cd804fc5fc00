-- The shots of a channel, put in order.
use Rattle.std.proofs.Common.{◌≡◌, ℕ, zero, suc, ◌+◌, ◌<◌, ◌≤◌, Bool, true, false, cond, not, ◌&&◌, List, [], ◌∷◌, length, get_or, nat_le, nat_lt, inl, inr, refl, sym, ap, ◌∙◌, subst, arith}
use Rattle.std.specs.List.{All, Contains, filter}
use Rattle.std.specs.List.Sorted.{IsNonDecreasingBy, IsPermutation}
use Rattle.std.proofs.lemmas.Bool.{and_from, cases_lt, le-leb, lt-ltb}
use Rattle.std.proofs.lemmas.List.Elements.{All-contains, All-contains_itself, All-filter, All-head, All-tail, Contains-append_right, Contains-get_or, filter_passes}
use Rattle.std.proofs.lemmas.List.Filters.{sum_by-filter_both}
use Rattle.std.proofs.lemmas.List.Sorted.{All-permutation, Contains-permutation, IsNonDecreasingBy-drop, IsPermutation-sym, sum_by-IsPermutation}
use Rattle.std.proofs.lemmas.List.Sums.{sum_by-cons}
use Rattle.edl_events.specs.declared.channel.Channel.{Channel}
use Rattle.edl_events.specs.Channels.{is_on}
use Rattle.list_import.specs.declared.shots.Shot.{Shot}
use Rattle.list_import.specs.TrackItems.{AreShotsOn, Follow}
use Rattle.list_import.specs.ShotFacts.{AreLaid, CanBeLaid, CanBeOrdered, IsShot, count_there, is_there}

-- ---- what a filter keeps

behind_front : {X : Type 0} (y : X) (ys : List X) (x : X) → Contains ys x → (b : Bool) → Contains (cond b (y ∷ ys) ys) x
behind_front y ys x h true = Contains-append_right (y ∷ []) ys x h
behind_front y ys x h false = h

in_filter : {X : Type 0} (p : X → Bool) (xs : List X) (x : X) (k : ℕ) → k < length xs → get_or xs k x ≡ x → p x ≡ true → Contains (filter p xs) x
in_filter p [] x k low is e = absurd (omega (arith, low))
in_filter p (y ∷ ys) x zero low is e =
    let kept : p y ≡ true = ap p is ∙ e in
    subst (λ (b : Bool). Contains (cond b (y ∷ filter p ys) (filter p ys)) x) (sym kept) (0, omega arith, is)
in_filter p (y ∷ ys) x (suc k) low is e = behind_front y (filter p ys) x (in_filter p ys x k (omega (arith, low)) is e) (p y)

-- ---- no two are at one record frame

pub counted : (b : Bool) (n : ℕ) → b ≡ true → cond b 1 0 + n ≡ 1 + n
counted b n h = ap (λ (t : Bool). cond t 1 0 + n) h

pub uncounted : (b : Bool) (n : ℕ) → b ≡ false → cond b 1 0 + n ≡ 0 + n
uncounted b n h = ap (λ (t : Bool). cond t 1 0 + n) h

pub there_at : (c : Channel) (q : ℕ) (s : Shot) → is_on c s.channels ≡ true → s.place ≤ q → q < s.place + s.len → is_there c q s ≡ true
there_at c q s on low high =
    and_from (is_on c s.channels) (nat_le s.place q && nat_lt q (s.place + s.len)) on
    (and_from (nat_le s.place q) (nat_lt q (s.place + s.len)) (le-leb s.place q low) (lt-ltb q (s.place + s.len) high))

count_one : (c : Channel) (q : ℕ) (s : Shot) (ss : List Shot) → is_there c q s ≡ true → count_there c q (s ∷ ss) ≡ 1 + count_there c q ss
count_one c q s ss h =
    sum_by-cons (λ (t : Shot). cond (is_there c q t) 1 0) s ss
    ∙ counted (is_there c q s) (count_there c q ss) h

count_tail : (c : Channel) (q : ℕ) (s : Shot) (ss : List Shot) → count_there c q ss ≤ count_there c q (s ∷ ss)
count_tail c q s ss = omega (arith, sum_by-cons (λ (t : Shot). cond (is_there c q t) 1 0) s ss)

next_apart : (c : Channel) (s t : Shot) (ss : List Shot) → 0 < s.len → 0 < t.len → is_on c s.channels ≡ true → is_on c t.channels ≡ true → s.place ≤ t.place
    → ((q : ℕ) → count_there c q (s ∷ t ∷ ss) ≤ 1) → s.place + s.len ≤ t.place
next_apart c s t ss some_s some_t on_s on_t low apart =
    elim (cases_lt t.place (s.place + s.len)) [
      | inl meets ↦
          let first = count_one c t.place s (t ∷ ss) (there_at c t.place s on_s low meets) in
          let second = count_one c t.place t ss (there_at c t.place t on_t (omega arith) (omega (arith, some_t))) in
          absurd (omega (arith, first, second, apart t.place))
      | inr high ↦ high
    ]

-- ---- in order

abbrev FirstFrom : ℕ → List Shot → Type 0
FirstFrom at [] = Unit {0}
FirstFrom at (s ∷ ss) = at ≤ s.place

follow_on : (c : Channel) (media start at : ℕ) (ss : List Shot) → All (IsShot media start) ss → All (λ (s : Shot). is_on c s.channels ≡ true) ss → IsNonDecreasingBy (λ (s : Shot). s.place) ss
    → ((q : ℕ) → count_there c q ss ≤ 1) → FirstFrom at ss → Follow at ss
follow_on c media start at [] each on up apart low = tt
follow_on c media start at (s ∷ []) each on up apart low = (low, tt)
follow_on c media start at (s ∷ t ∷ ss) each on up apart low =
    let own : IsShot media start s = All-head (IsShot media start) s (t ∷ ss) each in
    let more : All (IsShot media start) (t ∷ ss) = All-tail (IsShot media start) s (t ∷ ss) each in
    let next : IsShot media start t = All-head (IsShot media start) t ss more in
    let on_s : is_on c s.channels ≡ true = All-head (λ (x : Shot). is_on c x.channels ≡ true) s (t ∷ ss) on in
    let on_more : All (λ (x : Shot). is_on c x.channels ≡ true) (t ∷ ss) = All-tail (λ (x : Shot). is_on c x.channels ≡ true) s (t ∷ ss) on in
    let on_t : is_on c t.channels ≡ true = All-head (λ (x : Shot). is_on c x.channels ≡ true) t ss on_more in
    let rises : s.place ≤ t.place = up 0 1 s (omega arith) (omega arith) in
    let up_more : IsNonDecreasingBy (λ (x : Shot). x.place) (t ∷ ss) = IsNonDecreasingBy-drop (λ (x : Shot). x.place) 1 (s ∷ t ∷ ss) up in
    let ended : s.place + s.len ≤ t.place = next_apart c s t ss own.filled next.filled on_s on_t rises apart in
    (low, follow_on c media start (s.place + s.len) (t ∷ ss) more on_more up_more (λ q. omega (arith, apart q, count_tail c q s (t ∷ ss))) ended)

first_from : (media start : ℕ) (ss : List Shot) → All (IsShot media start) ss → FirstFrom start ss
first_from media start [] each = tt
first_from media start (s ∷ ss) each = (All-head (IsShot media start) s ss each).begins

first_zero : (ss : List Shot) → FirstFrom 0 ss
first_zero [] = tt
first_zero (s ∷ ss) = omega arith

pub laid_from : (media start at : ℕ) (ss : List Shot) → All (IsShot media start) ss → Follow at ss → AreLaid media at ss
laid_from media start at [] each follow = tt
laid_from media start at (s ∷ ss) each follow =
    let own : IsShot media start s = All-head (IsShot media start) s ss each in (
      record { filled = own.filled; begins = follow.0; ends = own.ends; side = own.side; dissolve = own.dissolve },
      laid_from media start (s.place + s.len) ss (All-tail (IsShot media start) s ss each) follow.1,
    )

-- where they follow one another and begin at the start or later, they follow from there
pub follow_from : (media start at : ℕ) (ss : List Shot) → All (IsShot media start) ss → Follow at ss → Follow start ss
follow_from media start at [] each follow = tt
follow_from media start at (s ∷ ss) each follow = ((All-head (IsShot media start) s ss each).begins, follow.1)

pub record Ordered (c : Channel) (start : ℕ) (shots ss : List Shot) : Type 0 where
  pub are : AreShotsOn c shots ss
  pub laid : CanBeLaid start ss

pub ordered : (c : Channel) (start : ℕ) (shots on ss : List Shot) → CanBeOrdered start shots → on ≡ filter (λ (s : Shot). is_on c s.channels) shots → IsPermutation on ss
    → IsNonDecreasingBy (λ (s : Shot). s.place) ss → Ordered c start shots ss
ordered c start shots on ss h is moved up =
    let media : ℕ = h.media in
    let p : Shot → Bool = λ s. is_on c s.channels in
    let kept : List Shot = filter p shots in
    let perm : IsPermutation kept ss = subst (λ (l : List Shot). IsPermutation l ss) is moved in
    let each : All (IsShot media start) ss = All-permutation (IsShot media start) kept ss perm (All-filter p (IsShot media start) shots h.each) in
    let on_each : All (λ (s : Shot). p s ≡ true) ss = All-permutation (λ (s : Shot). p s ≡ true) kept ss perm (filter_passes p shots) in
    let apart : (q : ℕ) → count_there c q ss ≤ 1 =
    λ q.
    let f : Shot → ℕ = λ s. cond (is_there c q s) 1 0 in
    omega (arith, sum_by-IsPermutation f kept ss perm, sum_by-filter_both p (λ s. not (p s)) (λ s. refl) f shots, h.apart c q) in
    record {
      are = record {
        order = follow_on c media start 0 ss each on_each up apart (first_zero ss);
        own = λ s has.
            let back : Contains kept s = Contains-permutation ss kept s (IsPermutation-sym kept ss perm) has in (
              All-contains (Contains shots) kept s (All-filter p (Contains shots) shots (All-contains_itself shots)) back,
              All-contains (λ (x : Shot). p x ≡ true) kept s (filter_passes p shots) back,
            );
        all = λ s has passes. Contains-permutation kept ss s perm (in_filter p shots s has.0 has.1 has.2 passes);
      };
      laid = (media, laid_from media start start ss each (follow_on c media start start ss each on_each up apart (first_from media start ss each)));
    }

-- the shots of a channel in order are laid from the start
pub laid_on : (c : Channel) (start : ℕ) (shots ss : List Shot) → (h : CanBeOrdered start shots) → AreShotsOn c shots ss → AreLaid h.media start ss
laid_on c start shots ss h are =
    let each : All (IsShot h.media start) ss = λ k d low. All-contains (IsShot h.media start) shots (get_or ss k d) h.each (are.own (get_or ss k d) (Contains-get_or ss k d low)).0 in
    laid_from h.media start start ss each (follow_from h.media start 0 ss each are.order)
