use Rattle.std.proofs.Common.{rules, Ok, ap, sym, drop}
use Rattle.std.proofs.lemmas.List.{take_rest}
use Rattle.line_table.proofs.RowWords.{few_words, six_words_up}
use Rattle.line_table.proofs.reading.insert.Goals as goal

pub returns-in_ok-keep-in-len6-up-clause-read : goal.returns-in_ok-keep-in-len6-up-clause-read
returns-in_ok-keep-in-len6-up-clause-read c =
    let words = six_words_up c.args.words.now c.in-len6-up.len_at_least in
    let rest = take_rest c.args.words.now 6 in
    let few = few_words 1 (drop 6 c.args.words.now) (rw rest at c.if-rest-le1.true) in
    let tracks = sym c.in_ok-tracks-in-len6-up.ensures.read in
    let track = sym c.in_ok-track-in-len6-up.ensures.read in
    let at = sym c.in_ok-at-in-len6-up.ensures in
    let what = sym c.in_ok-what-in-len6-up.ensures in
    let from = sym c.in_ok-from-in-len6-up.ensures in
    let len = sym c.in_ok-len-in-len6-up.ensures in
    let keep = sym (rw rest at c.in_ok-keep-in-len6-up.ensures) in
    rw (words, few, tracks, track, at, what, from, len, keep) (ap Ok c.edit.ensures)

pub returns-in_err-len-in-len6-up-clause-read : goal.returns-in_err-len-in-len6-up-clause-read
returns-in_err-len-in-len6-up-clause-read c =
    let words = six_words_up c.args.words.now c.in-len6-up.len_at_least in
    let rest = take_rest c.args.words.now 6 in
    let few = few_words 1 (drop 6 c.args.words.now) (rw rest at c.if-rest-le1.true) in
    rw (words, few) (search rules)

pub returns-in_err-keep-in-len6-up-clause-read : goal.returns-in_err-keep-in-len6-up-clause-read
returns-in_err-keep-in-len6-up-clause-read c =
    let words = six_words_up c.args.words.now c.in-len6-up.len_at_least in
    let rest = take_rest c.args.words.now 6 in
    let few = few_words 1 (drop 6 c.args.words.now) (rw rest at c.if-rest-le1.true) in
    let fault = rw rest at c.in_err-keep-in-len6-up.ensures in
    rw (words, few) (search rules)
