-- How long the text of a step is.
use Rattle.std.proofs.Common.{◌≡◌, ℕ, ◌+◌, ◌<◌, ◌≤◌, ◌^◌, List, [], ◌++◌, length, arith, length-append, codes}
use Rattle.std.specs.Fmt.{decimal, signed_decimal}
use Rattle.composables.specs.declared.calls.FillLength.{FillLength}
use Rattle.composables.specs.declared.calls.FillLength.TheVariants.{Source, Sequence}
use Rattle.edit_calls.specs.declared.asks.Call.{Call}
use Rattle.edit_calls.specs.declared.asks.Call.TheVariants as call
use Rattle.protocol_parts.specs.Things.{what_text}
use Rattle.line_table.specs.CallTexts.{keep_text, linked, linked_by, linked_in, numbers_after, tracks_text, length_text, call_text_of, deed_text_of, step_text_of, IsSmallLength, IsWritten, IsWrittenDeed, IsWrittenStep}
use Rattle.line_table.specs.Table.{end_word}
use Rattle.take_back.specs.declared.step.Deed.{Deed}
use Rattle.take_back.specs.declared.step.Deed.TheVariants.{Do, Back}
use Rattle.take_back.specs.declared.step.Step.{Step}
use Rattle.line_table.proofs.TrackSets.{tracks_in_count}
use Rattle.line_table.proofs.WrittenParts.{length-decimal, length-end, length-keep, length-numbers_after, length-signed, length-tracks_text, length-what_text}

pub low : (t : ℕ) → t ≤ 31 → t < 2 ^ 32
low t h = omega (arith, h)

length_length : (l : FillLength) → IsSmallLength l → length (length_text l) ≤ 17
length_length (Source n) h = let digits = length-decimal n h in omega (arith, digits)
length_length Sequence h = omega arith

-- the longest is a link of 32 tracks
call_length : (c : Call) → IsWritten c → length (call_text_of c) ≤ 454
call_length (call.Overwrite c) (track, at, what, from, len) =
    omega (
      arith,
      length-all (decimal c.track) (decimal c.at) (what_text c.what) (decimal c.from) (decimal c.len) (keep_text c.keep),
      length-keep c.keep,
      length-decimal c.track (low c.track track),
      length-decimal c.at at,
      length-what_text c.what what,
      length-decimal c.from from,
      length-decimal c.len len,
    )
  where
    length-all : (t a w f n k : List ℕ) → length (codes "overwrite " ++ t ++ codes " " ++ a ++ codes " " ++ (w ++ codes " " ++ f ++ codes " " ++ n) ++ k) ≡ length t + length a + length w + length f + length n + length k + 14
    length-all t a w f n k = simp length-append (omega arith)
call_length (call.Insert c) (tracks, track, at, what, from, len) =
    omega (
      arith,
      length-all (tracks_text c.tracks) (decimal c.track) (decimal c.at) (what_text c.what) (decimal c.from) (decimal c.len) (keep_text c.keep),
      length-keep c.keep,
      length-tracks_text c.tracks,
      length-decimal c.track (low c.track track),
      length-decimal c.at at,
      length-what_text c.what what,
      length-decimal c.from from,
      length-decimal c.len len,
    )
  where
    length-all : (s t a w f n k : List ℕ) → length (codes "insert " ++ s ++ codes " " ++ t ++ codes " " ++ a ++ codes " " ++ (w ++ codes " " ++ f ++ codes " " ++ n) ++ k) ≡ length s + length t + length a + length w + length f + length n + length k + 12
    length-all s t a w f n k = simp length-append (omega arith)
call_length (call.Remove c) (track, item) =
    omega (arith, length-all (decimal c.track) (decimal c.item) (keep_text c.keep), length-keep c.keep, length-decimal c.track (low c.track track), length-decimal c.item item)
  where
    length-all : (t i k : List ℕ) → length (codes "remove " ++ t ++ codes " " ++ i ++ k) ≡ length t + length i + length k + 8
    length-all t i k = simp length-append (omega arith)
call_length (call.Extract c) (tracks, track, item) =
    omega (
      arith,
      length-all (tracks_text c.tracks) (decimal c.track) (decimal c.item) (keep_text c.keep),
      length-keep c.keep,
      length-tracks_text c.tracks,
      length-decimal c.track (low c.track track),
      length-decimal c.item item,
    )
  where
    length-all : (s t i k : List ℕ) → length (codes "extract " ++ s ++ codes " " ++ t ++ codes " " ++ i ++ k) ≡ length s + length t + length i + length k + 10
    length-all s t i k = simp length-append (omega arith)
call_length (call.Slice c) (track, at) =
    omega (arith, length-all (decimal c.track) (decimal c.at) (keep_text c.keep), length-keep c.keep, length-decimal c.track (low c.track track), length-decimal c.at at)
  where
    length-all : (t a k : List ℕ) → length (codes "slice " ++ t ++ codes " " ++ a ++ k) ≡ length t + length a + length k + 7
    length-all t a k = simp length-append (omega arith)
call_length (call.Dissolve c) (track, at, a, b) =
    omega (
      arith,
      length-all (decimal c.track) (decimal c.at) (decimal c.a) (decimal c.b),
      length-decimal c.track (low c.track track),
      length-decimal c.at at,
      length-decimal c.a a,
      length-decimal c.b b,
    )
  where
    length-all : (t p x y : List ℕ) → length (codes "dissolve " ++ t ++ codes " " ++ p ++ codes " " ++ x ++ codes " " ++ y) ≡ length t + length p + length x + length y + 12
    length-all t p x y = simp length-append (omega arith)
call_length (call.Undissolve c) (track, at) =
    omega (arith, length-all (decimal c.track) (decimal c.at), length-decimal c.track (low c.track track), length-decimal c.at at)
  where
    length-all : (t a : List ℕ) → length (codes "undissolve " ++ t ++ codes " " ++ a) ≡ length t + length a + 12
    length-all t a = simp length-append (omega arith)
call_length (call.Trim c) (track, item, by) =
    omega (
      arith,
      length-all (decimal c.track) (decimal c.item) (end_word c.end) (signed_decimal c.by),
      length-decimal c.track (low c.track track),
      length-decimal c.item item,
      length-end c.end,
      length-signed c.by by,
    )
  where
    length-all : (t i e d : List ℕ) → length (codes "trim " ++ t ++ codes " " ++ i ++ codes " " ++ e ++ codes " " ++ d) ≡ length t + length i + length e + length d + 8
    length-all t i e d = simp length-append (omega arith)
call_length (call.Slip c) (tracks, track, item, by) =
    omega (
      arith,
      length-all (tracks_text c.tracks) (decimal c.track) (decimal c.item) (signed_decimal c.by),
      length-tracks_text c.tracks,
      length-decimal c.track (low c.track track),
      length-decimal c.item item,
      length-signed c.by by,
    )
  where
    length-all : (s t i d : List ℕ) → length (codes "slip " ++ s ++ codes " " ++ t ++ codes " " ++ i ++ codes " " ++ d) ≡ length s + length t + length i + length d + 8
    length-all s t i d = simp length-append (omega arith)
call_length (call.Roll c) (track, at, by) =
    omega (
      arith,
      length-all (decimal c.track) (decimal c.at) (signed_decimal c.by),
      length-decimal c.track (low c.track track),
      length-decimal c.at at,
      length-signed c.by by,
    )
  where
    length-all : (t a d : List ℕ) → length (codes "roll " ++ t ++ codes " " ++ a ++ codes " " ++ d) ≡ length t + length a + length d + 7
    length-all t a d = simp length-append (omega arith)
call_length (call.Slide c) (tracks, track, item, by) =
    omega (
      arith,
      length-all (tracks_text c.tracks) (decimal c.track) (decimal c.item) (signed_decimal c.by),
      length-tracks_text c.tracks,
      length-decimal c.track (low c.track track),
      length-decimal c.item item,
      length-signed c.by by,
    )
  where
    length-all : (s t i d : List ℕ) → length (codes "slide " ++ s ++ codes " " ++ t ++ codes " " ++ i ++ codes " " ++ d) ≡ length s + length t + length i + length d + 9
    length-all s t i d = simp length-append (omega arith)
call_length (call.Fill c) (track, at, what, from, len) =
    omega (
      arith,
      length-all (decimal c.track) (decimal c.at) (what_text c.what) (decimal c.from) (length_text c.length) (keep_text c.keep),
      length-keep c.keep,
      length-decimal c.track (low c.track track),
      length-decimal c.at at,
      length-what_text c.what what,
      length-decimal c.from from,
      length_length c.length len,
    )
  where
    length-all : (t a w f n k : List ℕ) → length (codes "fill " ++ t ++ codes " " ++ a ++ codes " " ++ w ++ codes " " ++ f ++ codes " " ++ n ++ k) ≡ length t + length a + length w + length f + length n + length k + 9
    length-all t a w f n k = simp length-append (omega arith)
call_length (call.Ripple c) (tracks, track, item, by) =
    omega (
      arith,
      length-all (tracks_text c.tracks) (decimal c.track) (decimal c.item) (end_word c.end) (signed_decimal c.by),
      length-tracks_text c.tracks,
      length-decimal c.track (low c.track track),
      length-decimal c.item item,
      length-end c.end,
      length-signed c.by by,
    )
  where
    length-all : (s t i e d : List ℕ) → length (codes "ripple " ++ s ++ codes " " ++ t ++ codes " " ++ i ++ codes " " ++ e ++ codes " " ++ d) ≡ length s + length t + length i + length e + length d + 11
    length-all s t i e d = simp length-append (omega arith)
call_length (call.Link3 c) (tracks, items, even) =
    omega (
      arith,
      length-all (tracks_text c.tracks) (numbers_after [] c.items),
      length-tracks_text c.tracks,
      length-numbers_after c.items items,
      tracks_in_count c.tracks,
      even,
    )
  where
    length-all : (s i : List ℕ) → length (codes "link " ++ s ++ codes " " ++ i) ≡ length s + length i + 6
    length-all s i = simp length-append (omega arith)
call_length (call.Unlink c) (track, item) =
    omega (arith, length-all (decimal c.track) (decimal c.item), length-decimal c.track (low c.track track), length-decimal c.item item)
  where
    length-all : (t i : List ℕ) → length (codes "unlink " ++ t ++ codes " " ++ i) ≡ length t + length i + 8
    length-all t i = simp length-append (omega arith)

pub deed_length : (a : Deed Call) → IsWrittenDeed a → length (deed_text_of a) ≤ 454
deed_length (Do c) h = call_length c h
deed_length (Back tracks) h = omega (arith, length-all (tracks_text tracks), length-tracks_text tracks)
  where
    length-all : (t : List ℕ) → length (codes "back " ++ t) ≡ length t + 5
    length-all t = simp length-append (omega arith)

pub step_length : (s : Step Call) → IsWrittenStep s → length (step_text_of s) ≤ 454
step_length s h = deed_length s.act h

-- how many items a written call links
linked_few : (c : Call) → IsWritten c → linked c ≤ 32
linked_few (call.Link3 c) (tracks, items, even) = omega (arith, tracks_in_count c.tracks, even)
linked_few other h = omega arith

linked_by_few : (a : Deed Call) → IsWrittenDeed a → linked_by a ≤ 32
linked_by_few (Do c) h = linked_few c h
linked_by_few (Back tracks) h = omega arith

pub linked_in_few : (s : Step Call) → IsWrittenStep s → linked_in s ≤ 32
linked_in_few s h = linked_by_few s.act h
