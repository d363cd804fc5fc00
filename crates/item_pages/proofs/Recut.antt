-- Blocks with others in place of some.
use Rattle.std.proofs.Common.{◌≡◌, ℕ, suc, ◌+◌, ◌-◌, ◌≤◌, List, [], ◌++◌, length, take, drop, get_or, sum_by, sym, ap, ◌∙◌, arith}
use Rattle.std.proofs.lemmas.List.{append_assoc, length-append, length-drop, get_or-drop, drop-drop, take-append-drop, take-take}
use Rattle.std.proofs.lemmas.List.Sums.{sum_by-append}
use Rattle.item_pages.specs.Items.{Fits}
use Rattle.item_pages.specs.Packing.{items_of}
use Rattle.item_pages.proofs.Blockwise.{items_join, last_is, part_fits}

-- the first of the first
pub first_of : {X : Type 0} (all whole some : List X) → whole ≡ take (length whole) all → some ≡ take (length some) whole → length some ≤ length whole
    → some ≡ take (length some) all
first_of {X} all whole some is part few =
    part ∙ (ap (take (length some)) is ∙ take-take (length some) (length whole) all few)

-- the last of the last
pub last_of : {X : Type 0} (all rest some : List X) → rest ≡ drop (length all - length rest) all → length rest ≤ length all
    → some ≡ drop (length rest - length some) rest → length some ≤ length rest → some ≡ drop (length all - length some) all
last_of {X} all rest some is low part few =
    let at : length all - length rest + (length rest - length some) ≡ length all - length some = omega (arith, low, few) in
    part
    ∙ (ap (drop (length rest - length some)) is
    ∙ (drop-drop (length rest - length some) (length all - length rest) all ∙ ap (λ (k : ℕ). drop k all) at))

pub tail_is : {X : Type 0} (all tail : List X) (n : ℕ) → n ≤ length all → tail ≡ drop n all → tail ≡ drop (length all - length tail) all
tail_is {X} all tail n low is =
    let at : n ≡ length all - length tail = omega (arith, low, ap length is, length-drop n all) in
    is ∙ ap (λ (k : ℕ). drop k all) at

-- the pages that are cut anew, between those that stay
laid : {X : Type 0} (whole before front fresh back behind rest : List X)
    → whole ++ ((before ++ (front ++ (fresh ++ (back ++ behind)))) ++ rest) ≡ ((whole ++ before) ++ front) ++ (fresh ++ (back ++ (behind ++ rest)))
laid {X} whole before front fresh back behind rest =
    ap (λ (xs : List X). whole ++ xs)
    (append_assoc before (front ++ (fresh ++ (back ++ behind))) rest
    ∙ ap (λ (xs : List X). before ++ xs)
    (append_assoc front (fresh ++ (back ++ behind)) rest
    ∙ ap (λ (xs : List X). front ++ xs)
    (append_assoc fresh (back ++ behind) rest ∙ ap (λ (xs : List X). fresh ++ xs) (append_assoc back behind rest))))
    ∙ (sym (append_assoc whole before (front ++ (fresh ++ (back ++ (behind ++ rest)))))
    ∙ sym (append_assoc (whole ++ before) front (fresh ++ (back ++ (behind ++ rest)))))

pub row_of : {X : Type 0} (none one two three four pages before front fresh back behind : List X) → none ≡ [] → one ≡ none ++ before → two ≡ one ++ front
    → three ≡ two ++ fresh → four ≡ three ++ back → pages ≡ four ++ behind → pages ≡ before ++ (front ++ (fresh ++ (back ++ behind)))
row_of {X} none one two three four pages before front fresh back behind e0 e1 e2 e3 e4 e5 =
    e5
    ∙ (ap (λ (ps : List X). ps ++ behind) (e4 ∙ ap (λ (ps : List X). ps ++ back) (e3 ∙ ap (λ (ps : List X). ps ++ fresh) (e2 ∙ ap (λ (ps : List X). ps ++ front) (e1 ∙ ap (λ (ps : List X). ps ++ before) e0))))
    ∙ (append_assoc ((before ++ front) ++ fresh) back behind
    ∙ (append_assoc (before ++ front) fresh (back ++ behind) ∙ append_assoc before front (fresh ++ (back ++ behind)))))

pub recut_pages : {X : Type 0} (blocks : List (List X)) (start end : ℕ) (whole some rest left : List (List X)) (before front fresh back behind pages : List X)
    → take start (items_of blocks) ≡ items_of whole ++ front → drop end (items_of blocks) ≡ back ++ items_of rest
    → items_of whole ≡ items_of some ++ before → items_of rest ≡ behind ++ items_of left
    → pages ≡ before ++ (front ++ (fresh ++ (back ++ behind)))
    → items_of some ++ (pages ++ items_of left) ≡ take start (items_of blocks) ++ (fresh ++ drop end (items_of blocks))
recut_pages {X} blocks start end whole some rest left before front fresh back behind pages first last split cut row =
    ap (λ (ps : List X). items_of some ++ (ps ++ items_of left)) row
    ∙ (laid (items_of some) before front fresh back behind (items_of left)
    ∙ (ap (λ (ps : List X). ps ++ (fresh ++ (back ++ (behind ++ items_of left)))) (sym (first ∙ ap (λ (ps : List X). ps ++ front) split))
    ∙ ap (λ (ps : List X). take start (items_of blocks) ++ (fresh ++ ps)) (sym (last ∙ ap (λ (ps : List X). back ++ ps) cut))))

pub recut_blocks : {X : Type 0} (blocks : List (List X)) (some left new : List (List X)) (pages all : List X)
    → some ≡ take (length some) blocks → left ≡ drop (length blocks - length left) blocks → items_of new ≡ pages
    → items_of some ++ (pages ++ items_of left) ≡ all
    → items_of (take (length some) blocks ++ (new ++ drop (length blocks - length left) blocks)) ≡ all
recut_blocks {X} blocks some left new pages all first last is laid =
    items_join (take (length some) blocks) (new ++ drop (length blocks - length left) blocks)
    ∙ (ap (λ (ps : List X). items_of (take (length some) blocks) ++ ps) (items_join new (drop (length blocks - length left) blocks))
    ∙ (ap (λ (bs : List (List X)). items_of bs ++ (items_of new ++ items_of (drop (length blocks - length left) blocks))) (sym first)
    ∙ (ap (λ (ps : List X). items_of some ++ (ps ++ items_of (drop (length blocks - length left) blocks))) is
    ∙ (ap (λ (bs : List (List X)). items_of some ++ (pages ++ items_of bs)) (sym last) ∙ laid))))

pub recut_fits : {T : Type 0} (span : T → ℕ) (front pages rest all : List (List T)) → front ++ (pages ++ rest) ≡ all → Fits span (items_of all) → Fits span (items_of pages)
recut_fits {T} span front pages rest all is fits =
    part_fits span (items_of all) (items_of front) (items_of pages) (items_of rest)
    (ap items_of (sym is) ∙ (items_join front (pages ++ rest) ∙ ap (λ (xs : List T). items_of front ++ xs) (items_join pages rest)))
    fits

pub last_apart : {X : Type 0} (blocks : List (List X)) (n : ℕ) (before rest : List (List X)) (block pages : List X) → suc n ≡ length blocks
    → before ≡ take n blocks → rest ≡ drop n blocks → block ≡ get_or rest 0 block → pages ≡ block → items_of blocks ≡ items_of before ++ pages
last_apart {X} blocks n before rest block pages e first last is same =
    let at : n + 0 ≡ n = omega arith in
    let here : block ≡ get_or blocks n block =
    is ∙ (ap (λ (bs : List (List X)). get_or bs 0 block) last ∙ (get_or-drop n blocks 0 block ∙ ap (λ (k : ℕ). get_or blocks k block) at)) in
    last_is blocks n block e here
    ∙ (ap (λ (bs : List (List X)). items_of bs ++ block) (sym first) ∙ ap (λ (ps : List X). items_of before ++ ps) (sym same))

pub fits_parts : {T : Type 0} (span : T → ℕ) (pages first rest : List (List T)) (n : ℕ) → first ≡ take n pages → rest ≡ drop n pages → Fits span (items_of pages)
    → Fits span (items_of first) × Fits span (items_of rest)
fits_parts {T} span pages first rest n first_is rest_is fits =
    let is : items_of pages ≡ items_of first ++ items_of rest =
    ap items_of (sym (take-append-drop n pages) ∙ (ap (λ (ps : List (List T)). ps ++ drop n pages) (sym first_is) ∙ ap (λ (ps : List (List T)). first ++ ps) (sym rest_is)))
    ∙ items_join first rest in
    let count = length-append (items_of first) (items_of rest) in
    let sum = sum_by-append span (items_of first) (items_of rest) in (
      (omega (arith, ap length is, count, fits.0), omega (arith, ap (sum_by span) is, sum, fits.1)),
      (omega (arith, ap length is, count, fits.0), omega (arith, ap (sum_by span) is, sum, fits.1)),
    )
