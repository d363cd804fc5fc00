-- What stands behind the point of a reply is parted from it.
use Rattle.std.proofs.Common.{◌≡◌, ℕ, List, [], ◌∷◌, ◌++◌, Option, Some, None, inl, inr, codes, refl, ◌∙◌, append_assoc}
use Rattle.std.specs.Fmt.{decimal}
use Rattle.std.specs.List.{flat_map}
use Rattle.composables.specs.declared.items.ItemView.{ItemView}
use Rattle.composables.specs.declared.refusals.Done.{Done}
use Rattle.composables.specs.declared.refusals.Done.TheVariants as done
use Rattle.composables.specs.declared.refusals.Refusal.{Refusal}
use Rattle.composables.specs.declared.refusals.Refusal.TheVariants as refusal
use Rattle.composables.specs.declared.refusals.Which.TheVariants.{Left, Right}
use Rattle.cut_steps.specs.CutSteps.{CutStep, StepDone, StepRefusal}
use Rattle.edit_calls.specs.declared.asks.AskRefusal.{AskRefusal}
use Rattle.edit_calls.specs.declared.asks.AskRefusal.TheVariants.{NoTrack, Range}
use Rattle.frame_meaning.specs.declared.cells.Mark.{Mark}
use Rattle.frame_meaning.specs.declared.cells.What.{What}
use Rattle.frame_meaning.specs.declared.frames.Side.{Side}
use Rattle.frame_meaning.specs.declared.frames.Side.TheVariants as side
use Rattle.frame_meaning.specs.declared.frames.Frame.{Frame}
use Rattle.frame_meaning.specs.declared.frames.Frame.TheVariants as frame
use Rattle.frame_meaning.specs.declared.frames.Run.{Run}
use Rattle.journal_text.specs.NewsTexts.{there_text}
use Rattle.reply_text.specs.Replies.{done_text, own_done_text, own_refusal_text, refusal_text}
use Rattle.reply_text.specs.Sights.{ask_refusal_text, frame_text, item_link_text, item_text, mark_text, number_text, run_text, side_text}
use Rattle.room_core.specs.declared.entry.Entry.{Entry}
use Rattle.take_back.specs.declared.answers.BackDone.TheVariants as step_done
use Rattle.take_back.specs.declared.answers.BackRefusal.TheVariants as step_refusal
use Rattle.point_laws.proofs.Points.{IsApart}

own_done : (d : Done) → IsApart (own_done_text d)
own_done done.Plain = inl refl
own_done (done.Item item) = inr (_, refl)
own_done (done.By delta) = inr (_, refl)
own_done (done.Linked home k) = inr (_, refl)

pub after_done : (d : StepDone) → IsApart (done_text d)
after_done (step_done.Own d) = own_done d
after_done step_done.Plain = inl refl

own_refused : (r : Refusal) → IsApart (own_refusal_text r)
own_refused (refusal.NoTrack track) = inr (_, refl)
own_refused refusal.NoItem = inr (_, refl)
own_refused refusal.NoMedia = inr (_, refl)
own_refused refusal.EmptyRange = inr (_, refl)
own_refused refusal.MediaEnds = inr (_, refl)
own_refused (refusal.NotAGap place) = inr (_, refl)
own_refused (refusal.NotACut place) = inr (_, refl)
own_refused (refusal.DissolveRoom Left) = inr (_, refl)
own_refused (refusal.DissolveRoom Right) = inr (_, refl)
own_refused (refusal.OffsetsDiffer first other) = inr (_, refl)
own_refused (refusal.AlreadyLinked track item) = inr (_, refl)
own_refused (refusal.LinkOutside home k track) = inr (_, refl)
own_refused (refusal.LinkBroken home k old new) = inr (_, refl)
own_refused (refusal.TooLong track) = inr (_, refl)
own_refused (refusal.TooManyItems track) = inr (_, refl)

pub after_refused : (r : StepRefusal) → IsApart (refusal_text r)
after_refused (step_refusal.Own r) = own_refused r
after_refused (step_refusal.NoPart track) = inr (_, refl)
after_refused (step_refusal.NotYours track) = inr (_, refl)
after_refused (step_refusal.OtherTracks track) = inr (_, refl)

pub after_unseen : (r : AskRefusal) → IsApart (ask_refusal_text r)
after_unseen (NoTrack track) = inr (_, refl)
after_unseen (Range length) = inr (_, refl)

abbrev Begins : List ℕ → Type 0
Begins text = (more : List ℕ) × (text ≡ 32 ∷ more)

framed : (f : Frame What) (rest : List ℕ) → Begins (frame_text f ++ rest)
framed frame.Dark rest = (_, refl)
framed (frame.Pic what source) rest = (_, refl)
framed (frame.Mix left right num den) rest = (_, refl)

run_parts : (f d rest : List ℕ) → (f ++ codes " " ++ d) ++ rest ≡ f ++ (codes " " ++ (d ++ rest))
run_parts f d rest = simp append_assoc refl

run_apart : (r : Run What) (rest : List ℕ) → Begins (run_text r ++ rest)
run_apart r rest =
    let begins = framed r.frame (codes " " ++ (decimal r.len ++ rest)) in
    (begins.0, run_parts (frame_text r.frame) (decimal r.len) rest ∙ begins.1)

pub after_runs : (rs : List (Run What)) → IsApart (flat_map run_text rs)
after_runs [] = inl refl
after_runs (r ∷ rs) = inr (run_apart r (flat_map run_text rs))

marked : (m : Option Mark) (text : List ℕ) → Begins text → Begins (mark_text m ++ text)
marked None text h = h
marked (Some m) text h = (_, refl)

numbered : (item : Option ℕ) (text : List ℕ) → Begins text → Begins (number_text item ++ text)
numbered None text h = h
numbered (Some item) text h = (_, refl)

sided : (s : Side What) (text : List ℕ) → Begins (side_text s ++ text)
sided side.Dark text = (_, refl)
sided (side.Pic what source) text = (_, refl)

item_parts : (m n s d l rest : List ℕ) → (m ++ n ++ s ++ codes " " ++ d ++ l) ++ rest ≡ m ++ (n ++ (s ++ (codes " " ++ (d ++ (l ++ rest)))))
item_parts m n s d l rest = simp append_assoc refl

item_apart : (view : ItemView) (rest : List ℕ) → Begins (item_text view ++ rest)
item_apart view rest =
    let begins = marked view.mark _ (numbered view.item _ (sided view.first (codes " " ++ (decimal view.len ++ (item_link_text view.link ++ rest))))) in (
      begins.0,
      item_parts (mark_text view.mark) (number_text view.item) (side_text view.first) (decimal view.len) (item_link_text view.link) rest ∙ begins.1,
    )

pub after_items : (views : List ItemView) → IsApart (flat_map item_text views)
after_items [] = inl refl
after_items (view ∷ views) = inr (item_apart view (flat_map item_text views))

pub after_news : (entry : Option (Entry CutStep)) → IsApart (there_text entry)
after_news None = inl refl
after_news (Some e) = inr (_, refl)
