-- No line feed stands in the reply to a question.
use Rattle.std.proofs.Common.{◌≡◌, ℕ, List, ◌++◌, Option, Some, None, true, refl, codes}
use Rattle.std.specs.Fmt.{decimal}
use Rattle.std.specs.List.{flat_map}
use Rattle.frame_meaning.specs.declared.cells.Link.{Link}
use Rattle.frame_meaning.specs.declared.cells.Mark.{Mark}
use Rattle.frame_meaning.specs.declared.cells.What.{What}
use Rattle.frame_meaning.specs.declared.cells.What.TheVariants.{Media, Nest}
use Rattle.frame_meaning.specs.declared.frames.Side.{Side}
use Rattle.frame_meaning.specs.declared.frames.Side.TheVariants as side
use Rattle.frame_meaning.specs.declared.frames.Frame.{Frame}
use Rattle.frame_meaning.specs.declared.frames.Frame.TheVariants as frame
use Rattle.frame_meaning.specs.declared.frames.Run.{Run}
use Rattle.composables.specs.declared.items.ItemView.{ItemView}
use Rattle.cut_room.specs.declared.answers.Sight.TheVariants as sight
use Rattle.edit_calls.specs.declared.asks.AskRefusal.{AskRefusal}
use Rattle.edit_calls.specs.declared.asks.AskRefusal.TheVariants.{NoTrack, Range}
use Rattle.edit_calls.specs.declared.asks.Seen.{Seen}
use Rattle.edit_calls.specs.declared.asks.Seen.TheVariants.{Runs, Items}
use Rattle.protocol_parts.specs.Things.{what_text}
use Rattle.reply_text.specs.Sights.{TrackSight, ask_refusal_text, frame_text, item_link_text, item_text, mark_text, number_text, picture_text, run_text, seen_text, side_text, sight_text_of}
use Rattle.reply_laws.proofs.PlainTexts.{is_plain, each, number, split}

pub thing : (what : What) → is_plain (what_text what) ≡ true
thing (Media m) = number m
thing (Nest n) = number n

picture : (what : What) (source : ℕ) → is_plain (picture_text what source) ≡ true
picture what source = simp (split, number, thing) refl

side_plain : (s : Side What) → is_plain (side_text s) ≡ true
side_plain side.Dark = refl
side_plain (side.Pic what source) = picture what source

frame_plain : (f : Frame What) → is_plain (frame_text f) ≡ true
frame_plain frame.Dark = refl
frame_plain (frame.Pic what source) = picture what source
frame_plain (frame.Mix left right num den) = simp (split, side_plain, number) refl

run : (r : Run What) → is_plain (run_text r) ≡ true
run r = simp (split, frame_plain, number) refl

mark : (m : Option Mark) → is_plain (mark_text m) ≡ true
mark None = refl
mark (Some m) = simp (split, number) refl

item_number : (item : Option ℕ) → is_plain (number_text item) ≡ true
item_number None = refl
item_number (Some item) = number item

item_link : (l : Option Link) → is_plain (item_link_text l) ≡ true
item_link None = refl
item_link (Some l) = simp (split, number) refl

pub item : (view : ItemView) → is_plain (item_text view) ≡ true
item view = simp (split, mark, item_number, side_plain, number, item_link) refl

runs : (rs : List (Run What)) → is_plain (flat_map run_text rs) ≡ true
runs rs = each run_text run rs

pub items : (views : List ItemView) → is_plain (flat_map item_text views) ≡ true
items views = each item_text item views

seen : (point : ℕ) (s : Seen) → is_plain (seen_text point s) ≡ true
seen point (Runs rs) = simp (split, number, runs) refl
seen point (Items views) = simp (split, number, items) refl

refused : (r : AskRefusal) → is_plain (ask_refusal_text r) ≡ true
refused (NoTrack track) = number track
refused (Range length) = number length

pub sighted : (s : TrackSight) → is_plain (sight_text_of s) ≡ true
sighted (sight.Seen point s) = seen point s
sighted (sight.Refused point r) = simp (split, number, refused) refl
sighted sight.Memory = refl
