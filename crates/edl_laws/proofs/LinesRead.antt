-- A line of an event, written and read again.
use Rattle.std.proofs.Common.{◌≡◌, ℕ, ◌+◌, ◌-◌, ◌<◌, ◌≤◌, Bool, cond, true, List, [], ◌∷◌, ◌++◌, Option, Some, None, Ok, Err, map, length, nat_le, replicate, refl, sym, ap, ◌∙◌, subst, arith, append_assoc}
use Rattle.std.specs.Prelude.{codes}
use Rattle.std.specs.List.{join_with_byte}
use Rattle.std.specs.Str.{bytes_eq}
use Rattle.std.proofs.lemmas.Bool.{and_from, le-leb}
use Rattle.std.proofs.lemmas.List.{length-append, length-replicate}
use Rattle.line_words.specs.Blanks.{IsWord, words_of}
use Rattle.line_words.specs.declared.line.LineEnd.TheVariants.{Whole}
use Rattle.line_words.proofs.WordLaws.{words_of-blank, words_of-last}
use Rattle.timecode12.specs.declared.rate.SequenceRate.{SequenceRate}
use Rattle.timecode12.specs.Labels.{day_of}
use Rattle.timecode12.specs.Numbers.{Counted}
use Rattle.reel_names.specs.Names.{is_reel_name}
use Rattle.reel_names.specs.Namers.{three_digits}
use Rattle.edl_events.specs.declared.channel.Channel.{Channel}
use Rattle.edl_events.specs.Channels.{set_of}
use Rattle.edl_write.specs.declared.lines.EventText.{EventText}
use Rattle.edl_write.specs.Lines.{line_times}
use Rattle.edl_write.specs.Text.{channel_text, edit_text, line_text, padded, time_text, times_text}
use Rattle.edl_lines.specs.declared.code.LineCode.TheVariants.{P1, P4}
use Rattle.edl_lines.specs.EventLines.{cut_line, dissolve_line, event_line, line_number, line_of_words, line_says, line_with, within_event, words_say}
use Rattle.edl_lines.specs.Spelling.{◌>>=◌, channels_of, dissolve_length, laid_out, reel_of, span_of, time_of}
use Rattle.edl_laws.proofs.LineBytes.{EachAbove, above_append, above_less, above_replicate, is_word, next_word, padded_word, spaces}
use Rattle.edl_laws.proofs.PartsRead.{IsPlain, IsTime, channel_is_plain, channel_is_read, go_on, length_is_read, name_is_plain, number_is_read, span_is_read, three_above, time_is_time}

-- ---- the words of a line

abbrev pub edit_words : Option ℕ → List (List ℕ)
edit_words None = codes "C" ∷ []
edit_words (Some frames) = codes "D" ∷ three_digits frames ∷ []

plain_word : (most : ℕ) (word : List ℕ) → IsPlain most word → IsWord word
plain_word most word h = is_word word h.some h.above

digits_word : (n : ℕ) → IsWord (three_digits n)
digits_word n = is_word (three_digits n) (omega arith) (three_above n)

time_word : (c : Counted) (frame : ℕ) (word : List ℕ) → IsTime c frame word → IsWord word
time_word c frame word h = is_word word (omega (arith, h.count)) h.above

letter_word : (b : ℕ) → 32 < b → IsWord (b ∷ [])
letter_word b h = is_word (b ∷ []) (omega arith) (h, tt)

front_words : (d r ch rest : List ℕ) → IsWord d → IsWord r → IsWord ch
    → words_of (d ++ (codes "  " ++ (padded 8 r ++ (codes " " ++ (padded 5 ch ++ (codes " " ++ rest)))))) ≡ d ∷ r ∷ ch ∷ words_of rest
front_words d r ch rest hd hr hc =
    let behind : List ℕ = padded 5 ch ++ 32 ∷ rest in
    next_word d (32 ∷ (padded 8 r ++ 32 ∷ behind)) hd
    ∙ ap (λ (ws : List (List ℕ)). d ∷ ws)
    (words_of-blank 32 (padded 8 r ++ 32 ∷ behind) refl
    ∙ (padded_word 8 r behind hr ∙ ap (λ (ws : List (List ℕ)). r ∷ ws) (padded_word 5 ch rest hc)))

edit_then : (o : Option ℕ) (rest : List ℕ) → words_of (edit_text o ++ rest) ≡ edit_words o ++ words_of rest
edit_then None rest = next_word (67 ∷ []) (replicate 7 32 ++ rest) (letter_word 67 (omega arith)) ∙ ap (λ (ws : List (List ℕ)). (67 ∷ []) ∷ ws) (spaces 7 rest)
edit_then (Some frames) rest =
    next_word (68 ∷ []) (replicate 3 32 ++ (three_digits frames ++ 32 ∷ rest)) (letter_word 68 (omega arith))
    ∙ ap (λ (ws : List (List ℕ)). (68 ∷ []) ∷ ws) (spaces 3 (three_digits frames ++ 32 ∷ rest) ∙ next_word (three_digits frames) rest (digits_word frames))

four_words : (a b d e : List ℕ) → IsWord a → IsWord b → IsWord d → IsWord e → words_of (join_with_byte 32 (a ∷ b ∷ d ∷ e ∷ [])) ≡ a ∷ b ∷ d ∷ e ∷ []
four_words a b d e ha hb hd he =
    next_word a (b ++ 32 ∷ (d ++ 32 ∷ e)) ha
    ∙ ap (λ (ws : List (List ℕ)). a ∷ ws)
    (next_word b (d ++ 32 ∷ e) hb
    ∙ ap (λ (ws : List (List ℕ)). b ∷ ws) (next_word d e hd ∙ ap (λ (ws : List (List ℕ)). d ∷ ws) (words_of-last e he)))

-- ---- the bytes of a line

pub record IsPiece (most : ℕ) (xs : List ℕ) : Type 0 where
  pub above : EachAbove 31 xs
  pub few : length xs ≤ most

joined : (m n : ℕ) (xs ys : List ℕ) → IsPiece m xs → IsPiece n ys → IsPiece (m + n) (xs ++ ys)
joined m n xs ys h k = record { above = above_append 31 xs ys h.above k.above; few = omega (arith, length-append xs ys, h.few, k.few) }

word_piece : (most : ℕ) (word : List ℕ) → EachAbove 32 word → length word ≤ most → IsPiece most word
word_piece most word h few = record { above = above_less 31 32 word (omega arith) h; few = few }

count_of : (k b : ℕ) → length (replicate k b) ≡ k
count_of k b = length-replicate k b

spaces_piece : (k : ℕ) → IsPiece k (replicate k 32)
spaces_piece k = record { above = above_replicate 31 k 32 (omega arith); few = omega (arith, count_of k 32) }

padded_piece : (most width : ℕ) (word : List ℕ) → IsPlain most word → IsPiece (most + width) (padded width word)
padded_piece most width word h =
    let k : ℕ = width - length word in
    let p = joined most k word (replicate k 32) (word_piece most word h.above h.few) (spaces_piece k) in
    record { above = p.above; few = omega (arith, p.few) }

edit_piece : (o : Option ℕ) → IsPiece 9 (edit_text o)
edit_piece None = joined 1 8 (67 ∷ []) (replicate 8 32) (word_piece 1 (67 ∷ []) (omega arith, tt) (omega arith)) (spaces_piece 8)
edit_piece (Some frames) =
    joined 5 4 (codes "D    ") (three_digits frames ++ codes " ")
    (joined 1 4 (68 ∷ []) (replicate 4 32) (word_piece 1 (68 ∷ []) (omega arith, tt) (omega arith)) (spaces_piece 4))
    (joined 3 1 (three_digits frames) (codes " ") (word_piece 3 (three_digits frames) (three_above frames) (omega arith)) (spaces_piece 1))

time_piece : (c : Counted) (frame : ℕ) (word : List ℕ) → IsTime c frame word → IsPiece 11 word
time_piece c frame word h = word_piece 11 word h.above (omega (arith, h.count))

four_pieces : (a b d e : List ℕ) → IsPiece 11 a → IsPiece 11 b → IsPiece 11 d → IsPiece 11 e → IsPiece 47 (join_with_byte 32 (a ∷ b ∷ d ∷ e ∷ []))
four_pieces a b d e ha hb hd he =
    joined 11 36 a (32 ∷ (b ++ 32 ∷ (d ++ 32 ∷ e))) ha
    (joined 1 35 (32 ∷ []) (b ++ 32 ∷ (d ++ 32 ∷ e)) (spaces_piece 1)
    (joined 11 24 b (32 ∷ (d ++ 32 ∷ e)) hb
    (joined 1 23 (32 ∷ []) (d ++ 32 ∷ e) (spaces_piece 1)
    (joined 11 12 d (32 ∷ e) hd (joined 1 11 (32 ∷ []) e (spaces_piece 1) he)))))

-- ---- the line

-- a line without its line feed
abbrev pub body_text : Counted → EventText → List ℕ
body_text c l =
    three_digits l.number ++ codes "  " ++ padded 8 l.reel ++ codes " " ++ padded 5 (channel_text l.channels)
    ++ codes " " ++ edit_text l.dissolve ++ times_text c (line_times l.source l.place l.len)

pub line_then : (c : Counted) (l : EventText) (rest : List ℕ) → line_text c l ++ rest ≡ body_text c l ++ 10 ∷ rest
line_then c l rest = append_assoc (body_text c l) (codes "\n") rest

-- a dissolve has a frame, no more than its line, and a number of three digits
abbrev pub IsLength : Option ℕ → ℕ → Type 0
IsLength None len = Unit {0}
IsLength (Some frames) len = (0 < frames) × (frames ≤ len) × (frames < 1000)

-- a line that can be read
pub record IsReadable (c : Counted) (l : EventText) : Type 0 where
  pub number : l.number < 1000
  pub reel : is_reel_name l.reel ≡ true
  pub channel : (ch : Channel) × (l.channels ≡ set_of ch)
  pub dissolve : IsLength l.dissolve l.len
  pub source : l.source + l.len < length (day_of c)
  pub place : l.place + l.len < length (day_of c)

pub line_fits : (c : Counted) (l : EventText) → IsReadable c l → IsPiece 1024 (body_text c l)
line_fits c l h =
    let channel : IsPlain 2 (channel_text l.channels) = subst (λ (n : ℕ). IsPlain 2 (channel_text n)) (sym h.channel.1) (channel_is_plain h.channel.0) in
    let whole =
    joined 63 49 _ (times_text c (line_times l.source l.place l.len))
    (joined 54 9 _ (edit_text l.dissolve)
    (joined 53 1 _ (codes " ")
    (joined 46 7 _ (padded 5 (channel_text l.channels))
    (joined 45 1 _ (codes " ")
    (joined 5 40 _ (padded 8 l.reel)
    (joined 3 2 (three_digits l.number) (codes "  ") (word_piece 3 (three_digits l.number) (three_above l.number) (omega arith)) (spaces_piece 2))
    (padded_piece 32 8 l.reel (name_is_plain l.reel h.reel)))
    (spaces_piece 1))
    (padded_piece 2 5 (channel_text l.channels) channel))
    (spaces_piece 1))
    (edit_piece l.dissolve))
    (by l.source l.place l.len h.source h.place)
    in record { above = whole.above; few = omega (arith, whole.few) }
  where
    by : (s p n : ℕ) → s + n < length (day_of c) → p + n < length (day_of c) → IsPiece 49 (times_text c (line_times s p n))
    by s p n hs hp =
        let four =
        four_pieces (time_text c s) (time_text c (s + n)) (time_text c p) (time_text c (p + n))
        (time_piece c s _ (time_is_time c s (omega (arith, hs)))) (time_piece c (s + n) _ (time_is_time c (s + n) hs))
        (time_piece c p _ (time_is_time c p (omega (arith, hp)))) (time_piece c (p + n) _ (time_is_time c (p + n) hp)) in
        record { above = four.above; few = omega (arith, four.few) }

six_parts : (a b p s q u r : List ℕ) → (a ++ b ++ p ++ s ++ q ++ u) ++ r ≡ a ++ (b ++ (p ++ (s ++ (q ++ (u ++ r)))))
six_parts a b p s q u r =
    append_assoc (a ++ b ++ p ++ s ++ q) u r
    ∙ (append_assoc (a ++ b ++ p ++ s) q (u ++ r)
    ∙ (append_assoc (a ++ b ++ p) s (q ++ (u ++ r)) ∙ (append_assoc (a ++ b) p (s ++ (q ++ (u ++ r))) ∙ append_assoc a b (p ++ (s ++ (q ++ (u ++ r)))))))

line_words : (c : Counted) (l : EventText) → IsReadable c l
    → words_of (body_text c l) ≡ three_digits l.number ∷ l.reel ∷ channel_text l.channels ∷ (edit_words l.dissolve ++ map (time_text c) (line_times l.source l.place l.len))
line_words c l h =
    let channel : IsPlain 2 (channel_text l.channels) = subst (λ (n : ℕ). IsPlain 2 (channel_text n)) (sym h.channel.1) (channel_is_plain h.channel.0) in
    let s = time_is_time c l.source (omega (arith, h.source)) in
    let s_out = time_is_time c (l.source + l.len) h.source in
    let p = time_is_time c l.place (omega (arith, h.place)) in
    let p_out = time_is_time c (l.place + l.len) h.place in
    let times : List ℕ = times_text c (line_times l.source l.place l.len) in
    ap words_of (append_assoc (three_digits l.number ++ codes "  " ++ padded 8 l.reel ++ codes " " ++ padded 5 (channel_text l.channels) ++ codes " ") (edit_text l.dissolve) times
    ∙ six_parts (three_digits l.number) (codes "  ") (padded 8 l.reel) (codes " ") (padded 5 (channel_text l.channels)) (codes " ") (edit_text l.dissolve ++ times))
    ∙ (front_words (three_digits l.number) l.reel (channel_text l.channels) (edit_text l.dissolve ++ times) (digits_word l.number) (plain_word 32 l.reel (name_is_plain l.reel h.reel)) (plain_word 2 (channel_text l.channels) channel)
    ∙ ap (λ (ws : List (List ℕ)). three_digits l.number ∷ l.reel ∷ channel_text l.channels ∷ ws)
    (edit_then l.dissolve times
    ∙ ap (λ (ws : List (List ℕ)). edit_words l.dissolve ++ ws)
    (four_words (time_text c l.source) (time_text c (l.source + l.len)) (time_text c l.place) (time_text c (l.place + l.len))
    (time_word c l.source _ s) (time_word c (l.source + l.len) _ s_out) (time_word c l.place _ p) (time_word c (l.place + l.len) _ p_out))))

reel_laid_out : (transition reel : List ℕ) → bytes_eq transition transition ≡ true → is_reel_name reel ≡ true → laid_out Whole transition transition reel ≡ Ok reel
reel_laid_out transition reel same h =
    ap (λ (b : Bool). cond b (reel_of reel) (Err P1)) same ∙ ap (λ (b : Bool). cond b (Ok reel) (Err P1)) h

cut_says : (c : Counted) (number : ℕ) (reel : List ℕ) (ch : Channel) (source place len : ℕ) (a b d e : List ℕ)
    → is_reel_name reel ≡ true → time_of c a ≡ Ok source → time_of c b ≡ Ok (source + len) → time_of c d ≡ Ok place → time_of c e ≡ Ok (place + len)
    → cut_line c Whole number reel (channel_text (set_of ch)) (codes "C") a b d e ≡ Ok (line_with number reel (set_of ch) None (record { source = source; place = place; len = len }))
cut_says c number reel ch source place len a b d e named ha hb hd he =
    go_on (laid_out Whole (codes "C") (codes "C") reel) reel
    (λ (r : List ℕ). channels_of (channel_text (set_of ch)) >>= (λ k. span_of c a b d e >>= (λ span. Ok (line_with number r k None span)))) (reel_laid_out (codes "C") reel refl named)
    ∙ (go_on (channels_of (channel_text (set_of ch))) (set_of ch) (λ (k : ℕ). span_of c a b d e >>= (λ span. Ok (line_with number reel k None span))) (channel_is_read ch)
    ∙ go_on (span_of c a b d e) (record { source = source; place = place; len = len }) (λ span. Ok (line_with number reel (set_of ch) None span)) (span_is_read c source place len a b d e ha hb hd he))

dissolve_says : (c : Counted) (number : ℕ) (reel : List ℕ) (ch : Channel) (frames source place len : ℕ) (a b d e : List ℕ)
    → is_reel_name reel ≡ true → IsLength (Some frames) len → time_of c a ≡ Ok source → time_of c b ≡ Ok (source + len) → time_of c d ≡ Ok place → time_of c e ≡ Ok (place + len)
    → dissolve_line c Whole number reel (channel_text (set_of ch)) (codes "D") (three_digits frames) a b d e
    ≡ Ok (line_with number reel (set_of ch) (Some frames) (record { source = source; place = place; len = len }))
dissolve_says c number reel ch frames source place len a b d e named fits ha hb hd he =
    let test = and_from (nat_le 1 frames) (nat_le frames len) (le-leb 1 frames fits.0) (le-leb frames len fits.1) in
    go_on (laid_out Whole (codes "D") (codes "D") reel) reel
    (λ (r : List ℕ). dissolve_length (three_digits frames) >>= (λ n. channels_of (channel_text (set_of ch)) >>= (λ k. span_of c a b d e >>= (λ span. within_event number r k n span))))
    (reel_laid_out (codes "D") reel refl named)
    ∙ (go_on (dissolve_length (three_digits frames)) frames (λ (n : ℕ). channels_of (channel_text (set_of ch)) >>= (λ k. span_of c a b d e >>= (λ span. within_event number reel k n span))) (length_is_read frames fits.2)
    ∙ (go_on (channels_of (channel_text (set_of ch))) (set_of ch) (λ (k : ℕ). span_of c a b d e >>= (λ span. within_event number reel k frames span)) (channel_is_read ch)
    ∙ (go_on (span_of c a b d e) (record { source = source; place = place; len = len }) (λ span. within_event number reel (set_of ch) frames span) (span_is_read c source place len a b d e ha hb hd he)
    ∙ ap (λ (t : Bool). cond t (Ok (line_with number reel (set_of ch) (Some frames) (record { source = source; place = place; len = len }))) (Err P4)) test)))

event_says : (c : Counted) (number : ℕ) (reel : List ℕ) (ch : Channel) (o : Option ℕ) (source place len : ℕ) (a b d e : List ℕ)
    → number < 1000 → is_reel_name reel ≡ true → IsLength o len → time_of c a ≡ Ok source → time_of c b ≡ Ok (source + len) → time_of c d ≡ Ok place → time_of c e ≡ Ok (place + len)
    → event_line c Whole (three_digits number) (three_digits number ∷ reel ∷ channel_text (set_of ch) ∷ (edit_words o ++ (a ∷ b ∷ d ∷ e ∷ [])))
    ≡ Ok (line_with number reel (set_of ch) o (record { source = source; place = place; len = len }))
event_says c number reel ch None source place len a b d e small named fits ha hb hd he =
    go_on (line_number (three_digits number)) number
    (λ (n : ℕ). line_of_words c Whole n (three_digits number ∷ reel ∷ channel_text (set_of ch) ∷ codes "C" ∷ a ∷ b ∷ d ∷ e ∷ [])) (number_is_read number small)
    ∙ cut_says c number reel ch source place len a b d e named ha hb hd he
event_says c number reel ch (Some frames) source place len a b d e small named fits ha hb hd he =
    go_on (line_number (three_digits number)) number
    (λ (n : ℕ). line_of_words c Whole n (three_digits number ∷ reel ∷ channel_text (set_of ch) ∷ codes "D" ∷ three_digits frames ∷ a ∷ b ∷ d ∷ e ∷ [])) (number_is_read number small)
    ∙ dissolve_says c number reel ch frames source place len a b d e named fits ha hb hd he

-- the words behind the first
abbrev pub words_behind : Counted → EventText → List (List ℕ)
words_behind c l = l.reel ∷ channel_text l.channels ∷ (edit_words l.dissolve ++ map (time_text c) (line_times l.source l.place l.len))

pub line_says_words : (rate : SequenceRate) (c : Counted) (l : EventText) → IsReadable c l
    → line_says rate c (record { text = body_text c l; end = Whole }) ≡ words_say rate c Whole (three_digits l.number ∷ words_behind c l)
line_says_words rate c l h = ap (words_say rate c Whole) (line_words c l h)

pub words_say_event : (c : Counted) (l : EventText) → IsReadable c l
    → event_line c Whole (three_digits l.number) (three_digits l.number ∷ words_behind c l)
    ≡ Ok (line_with l.number l.reel l.channels l.dissolve (record { source = l.source; place = l.place; len = l.len }))
words_say_event c l h =
    subst (λ (channels : ℕ). event_line c Whole (three_digits l.number) (three_digits l.number ∷ l.reel ∷ channel_text channels ∷ (edit_words l.dissolve ++ map (time_text c) (line_times l.source l.place l.len)))
    ≡ Ok (line_with l.number l.reel channels l.dissolve (record { source = l.source; place = l.place; len = l.len }))) (sym h.channel.1)
    (event_says c l.number l.reel h.channel.0 l.dissolve l.source l.place l.len (time_text c l.source) (time_text c (l.source + l.len)) (time_text c l.place) (time_text c (l.place + l.len)) h.number h.reel h.dissolve
    (time_is_time c l.source (omega (arith, h.source))).read (time_is_time c (l.source + l.len) h.source).read
    (time_is_time c l.place (omega (arith, h.place))).read (time_is_time c (l.place + l.len) h.place).read)
