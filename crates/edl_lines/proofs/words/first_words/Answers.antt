use Rattle.std.proofs.Common.{◌≡◌, ◌≤◌, ℕ, List, Bor, [], length, map, take, arith, rules}
use Rattle.std.proofs.lemmas.List.{length-map, length-take}
use Rattle.line_words.specs.Blanks.{words_of}
use Rattle.edl_lines.proofs.WordFacts.{all_of}
use Rattle.edl_lines.proofs.words.first_words.Goals as goal

pub returns : goal.returns
returns c =
    let none : words_of c.loop-start.rest.now ≡ [] = search rules in
    let inv = c.loop-start.invariant in
    let texts = length-map (take c.loop-start.count c.loop-start.words) (λ (word : Bor (List ℕ)). word.now) in
    let taken = length-take c.loop-start.count c.loop-start.words in
    let count : length (map (λ (word : Bor (List ℕ)). word.now) (take c.loop-start.count c.loop-start.words)) ≤ 10 = omega (arith, texts, taken, inv.1, inv.2) in
    all_of 10 (map (λ (word : Bor (List ℕ)). word.now) (take c.loop-start.count c.loop-start.words)) (words_of c.loop-start.rest.now) (words_of c.args.line.now) inv.0 none count
