-- No line of an accepted input is refused.
use Rattle.std.proofs.Common.{◌≡◌, ℕ, ◌-◌, ◌<◌, ◌⊎◌, inl, inr, List, [], ◌∷◌, ◌++◌, true, false, Option, Some, None, IfOk, length, take, drop, refl, sym, ap, ◌∙◌, subst, arith, append_assoc}
use Rattle.std.proofs.lemmas.List.{take-append-drop}
use Rattle.std.proofs.lemmas.List.Elements.{All-head}
use Rattle.command_files.specs.Documents.{Describes}
use Rattle.command_files.specs.Ports.{InputTold}
use Rattle.command_files.proofs.Openings.{sound_opens}
use Rattle.cut_mirror.specs.Following.{Follows as FollowsFrom, GoesOn}
use Rattle.cut_mirror.specs.Mirrors.{IsMirrorOf, IsWhy}
use Rattle.cut_mirror.specs.declared.fault.MirrorFault.{MirrorFault}
use Rattle.cut_mirror.specs.declared.fault.MirrorFault.TheVariants.{Gap, Memory}
use Rattle.cut_mirror.proofs.Streams.{one_end}
use Rattle.cut_steps.specs.CutSteps.{CutStep, KeptTrack, fresh_tracks, stepping}
use Rattle.cut_steps.proofs.Left.{can_open}
use Rattle.journal_text.specs.declared.news_reply.News.{News}
use Rattle.line_words.specs.Lines.{Line as InputLine, last_line, lines_of}
use Rattle.line_words.specs.Pieces.{ended, pending_after}
use Rattle.line_words.proofs.PieceLaws.{ended-append, lines_of_lem}
use Rattle.otio_json.specs.Soundness.{IsSoundOpening}
use Rattle.otio_json.specs.Timelines.{document_read, tree_read}
use Rattle.otio_json.specs.declared.opening.Opening.{Opening}
use Rattle.otio_json.proofs.SoundOpening.{timeline_some, timeline_sound}
use Rattle.otio_json.proofs.Steps.{past}
use Rattle.room_core.specs.History.{replay}
use Rattle.room_core.specs.Whole.{whole}
use Rattle.room_core.specs.declared.entry.Entry.{Entry}
use Rattle.room_files.specs.Files.{Content}
use Rattle.room_ports.specs.Bytes.{Gives}
use Rattle.timecode12.specs.Numbers.{Counted}
use Rattle.input_lines.specs.Inputs.{GivesAll, StopsAtEnd, StopsInPiece, most_input}
use Rattle.follow_command.specs.Accepted.{AcceptsStream, StreamsAreNotRefused}
use Rattle.follow_command.specs.Follows.{ComesTo, FirstRefused, IsStreamOf}
use Rattle.follow_command.specs.Goes.{CutMirror, Goes, cut_meaning, cut_opens, first_mirror}
use Rattle.follow_command.specs.NewsLines.{AreNoNews, IsNewsLine, IsNoNewsLine, Item, NewsOf, Tells, entry_before, is_news_line, item_before}
use Rattle.follow_command.specs.Refusals.{Refuses, RefusesNews, StopsAtCut, StopsAtLine, refusal_of}
use Rattle.follow_command.specs.declared.refusal.StreamRefusal.{StreamRefusal}
use Rattle.follow_command.specs.declared.refusal.Stop.{Stop}
use Rattle.follow_command.specs.declared.refusal.Stop.TheVariants as stop
use Rattle.follow_command.proofs.FrontLaws.{never}
use Rattle.follow_command.proofs.StreamLists.{begins, between, not_passed, not_past, one_list, parted, same_news, stands}

-- ---- the opening of a document

read_sound : (c : Counted) (bytes : List ℕ) → IfOk (document_read c bytes) IsSoundOpening
unfolding document_read
read_sound c bytes = past (tree_read bytes) _ _ (λ t. timeline_sound c t)

read_some : (c : Counted) (bytes : List ℕ) → IfOk (document_read c bytes) (λ o. 0 < length o.tracks)
unfolding document_read
read_some c bytes = past (tree_read bytes) _ _ (λ t. timeline_some c t)

opens_so : (c : Counted) (content : Content) (o : Opening) → Describes c content o → cut_opens (first_mirror o).object (fresh_tracks o.tracks)
opens_so c content o d =
    can_open o.table o.tracks
    (sound_opens o (subst (λ r. IfOk r IsSoundOpening) d.3 (read_sound c d.0)) (subst (λ r. IfOk r (λ p. 0 < length p.tracks)) d.3 (read_some c d.0)))

first_is : (o : Opening) → cut_opens (first_mirror o).object (fresh_tracks o.tracks) → IsMirrorOf cut_meaning cut_opens (fresh_tracks o.tracks) (first_mirror o)
first_is o opens = record { opens_so = opens; legal = record { within = omega arith; applies = refl; rise = tt }; comes = refl }

-- ---- an entry of a stream

module _ (o : Opening) (m : CutMirror) (entries : List (Entry CutStep)) (kept : List KeptTrack)
    (same : m.object ≡ (first_mirror o).object) (mirror : IsMirrorOf cut_meaning cut_opens (fresh_tracks o.tracks) m)
    (comes : ComesTo o entries kept) where
  comes_here : replay (whole (stepping o.table)) (fresh_tracks o.tracks) m.entries ≡ Some m.parts
  comes_here = subst (λ x. replay (whole (cut_meaning x)) (fresh_tracks o.tracks) m.entries ≡ Some m.parts) same mirror.comes

  -- it is taken, where the list goes on by it to that of the stream
  taken_next : (place : ℕ) (e : Entry CutStep) (next : List (Entry CutStep)) (items : List Item) (why : MirrorFault) (refusal : StreamRefusal)
      → GoesOn m.entries place e next → FollowsFrom next items entries → refusal_of why ≡ Some refusal → IsWhy (cut_meaning m.object) m place e why → ⊥
  taken_next place e next items why refusal goes rest is reason =
      let later = begins next entries items rest in
      let here = begins m.entries entries ((place, e) ∷ items) (next, goes, rest) in
      by_why (subst (λ x. IsWhy (cut_meaning x) m place e why) same reason)
      (never (stepping o.table) (fresh_tracks o.tracks) entries m place e why comes.legal comes_here here
      (stands m.entries next entries place e goes later)
      (subst (λ x. IsWhy (cut_meaning x) m place e why) same reason))
    where
      by_why : IsWhy (stepping o.table) m place e why → (why ≡ Gap (length m.entries)) ⊎ (why ≡ Memory) → ⊥
      by_why told (inl gap) = not_past m.entries next place e goes (subst (λ w. IsWhy (stepping o.table) m place e w) gap told).1
      by_why told (inr memory) = let both = sym (ap refusal_of memory) ∙ is in absurd (Prim.grind (arith, both))

  -- the news of a line
  taken_news : (news : News) (refusal : StreamRefusal) (others : List Item) → FollowsFrom m.entries (entry_before news others) entries → RefusesNews m news refusal → ⊥
  taken_news news refusal others follows (why, is, e, told, reason) =
      let here = subst (λ (x : Option (Entry CutStep)). FollowsFrom m.entries (item_before news.place x others) entries) told follows in
      taken_next news.place e here.0 others why refusal here.1 here.2 is reason

  told_news : (line : InputLine) (news : News) (refusal : StreamRefusal) (others items : List Item) → IsNewsLine line news → RefusesNews m news refusal
      → Tells line others items → FollowsFrom m.entries items entries → ⊥
  told_news line news refusal others items is refuses (inl passed) follows = not_passed line news passed.0 is
  told_news line news refusal others items is refuses (inr told) follows =
      let one = same_news line told.0 news told.1 is in
      taken_news news refusal others (subst (λ (x : List Item). FollowsFrom m.entries x entries) (told.2 ∙ ap (λ (n : News). entry_before n others) one) follows) refuses

  no_news_told : (line : InputLine) (others items : List Item) → is_news_line line ≡ true → IsNoNewsLine line → Tells line others items → ⊥
  no_news_told line others items is none (inl passed) = let both = sym passed.0 ∙ is in absurd (Prim.grind (arith, both))
  no_news_told line others items is none (inr told) =
      subst IsNoNewsLine told.1.text none told.0 told.1.sound refl

  -- no line of the stream is refused, where the mirror has gone on by the lines before it
  line_taken : (line : InputLine) (number : ℕ) (refusal : StreamRefusal) (others items : List Item) → Tells line others items → FollowsFrom m.entries items entries
      → Refuses m number line refusal → ⊥
  line_taken line number refusal others items tells follows (inl bad) = no_news_told line others items bad.1 bad.2 tells
  line_taken line number refusal others items tells follows (inr bad) = told_news line bad.0 refusal others items bad.1 bad.2 tells follows

-- ---- a line of the input

module _ (o : Opening) (opens : cut_opens (first_mirror o).object (fresh_tracks o.tracks)) (text : List ℕ) (entries : List (Entry CutStep)) (kept : List KeptTrack)
    (stream : IsStreamOf text entries) (comes : ComesTo o entries kept) where
  not_at : (lines more : List InputLine) (line : InputLine) (number : ℕ) (refusal : StreamRefusal) (there : CutMirror) → lines_of text ≡ lines ++ line ∷ more
      → Goes (first_mirror o) there lines → Refuses there number line refusal → ⊥
  not_at lines more line number refusal there are goes refuses =
      let p = parted lines (line ∷ more) stream.items (subst (λ (x : List InputLine). NewsOf x stream.items) are stream.told) in
      let b = between [] entries p.first p.others (subst (λ (x : List Item). FollowsFrom [] x entries) p.are stream.follows) in
      let first = one_list lines goes.0 p.first goes.1 p.told_first in
      let here = one_end [] there.entries b.there p.first (subst (λ (x : List Item). FollowsFrom [] x there.entries) first goes.2.follows) b.first in
      line_taken o there entries kept goes.2.object (goes.2.mirror (fresh_tracks o.tracks) (first_is o opens)) comes line number refusal p.told_others.0 p.others p.told_others.2
      (subst (λ (x : List (Entry CutStep)). FollowsFrom x p.others entries) (sym here) b.others) refuses

  not_at_end : (why : Stop) (left rest : Option (List ℕ)) → left ≡ Some text → StopsAtEnd Goes StopsAtCut (first_mirror o) why left rest → ⊥
  not_at_end why left rest told stops =
      let all : text ≡ stops.got = (subst (λ (x : Option (List ℕ)). GivesAll x rest stops.got) told stops.gives).0 in
      let last = ap (λ (x : List ℕ). last_line (pending_after (Some []) x)) all ∙ stops.last in
      let none = All-head (λ l. is_news_line l ≡ false) stops.line [] (subst AreNoNews last stream.whole) in
      let both = sym none ∙ stops.cut.1 in
      absurd (Prim.grind (arith, both))

  -- the lines of a text up to one that ends in a piece of it
  lines_before : (taken piece behind : List ℕ) (n : ℕ) (earlier others : List InputLine) (line : InputLine) → text ≡ (taken ++ piece) ++ behind
      → ended (pending_after (Some []) taken) (take n piece) ≡ earlier ++ line ∷ others
      → (more : List InputLine) × (lines_of text ≡ (ended (Some []) taken ++ earlier) ++ line ∷ more)
  lines_before taken piece behind n earlier others line is among =
      let pending = pending_after (Some []) taken in
      let rest = drop n piece ++ behind in
      let end = last_line (pending_after (Some []) text) in
      let later = ended (pending_after pending (take n piece)) rest in
      let whole_text : text ≡ taken ++ (take n piece ++ rest) =
      is ∙ (append_assoc taken piece behind ∙ ap (λ (x : List ℕ). taken ++ x) (ap (λ (x : List ℕ). x ++ behind) (sym (take-append-drop n piece)) ∙ append_assoc (take n piece) (drop n piece) behind)) in
      let cut = ap (ended (Some [])) whole_text ∙ (ended-append (Some []) taken (take n piece ++ rest) ∙ ap (λ (x : List InputLine). ended (Some []) taken ++ x) (ended-append pending (take n piece) rest ∙ ap (λ (x : List InputLine). x ++ later) among)) in
      ((others ++ later) ++ end, lines_of_lem text ∙ (ap (λ (x : List InputLine). x ++ end) cut ∙ simp append_assoc))

  not_in_piece : (refusal : StreamRefusal) (left rest : Option (List ℕ)) → left ≡ Some text
      → StopsInPiece Goes StopsAtLine (first_mirror o) (stop.Refused refusal) left rest → ⊥
  not_in_piece refusal left None told stops = subst (λ (x : Option (List ℕ)). Gives x None (stops.taken ++ stops.piece)) told stops.gives
  not_in_piece refusal left (Some behind) told stops =
      let is : text ≡ (stops.taken ++ stops.piece) ++ behind = subst (λ (x : Option (List ℕ)). Gives x (Some behind) (stops.taken ++ stops.piece)) told stops.gives in
      let l = lines_before stops.taken stops.piece behind (most_input - length stops.taken) stops.earlier stops.among.0 stops.line is stops.among.1 in
      not_at (ended (Some []) stops.taken ++ stops.earlier) l.0 stops.line _ refusal stops.stopped.0 l.1 stops.stopped.1 stops.stopped.2

not_first : (o : Opening) (refusal : StreamRefusal) (before after : InputTold) → cut_opens (first_mirror o).object (fresh_tracks o.tracks) → AcceptsStream o before.left
    → FirstRefused (first_mirror o) refusal before after → ⊥
not_first o refusal before after opens a (inl in_piece) = not_in_piece o opens a.text a.entries a.kept a.stream a.comes refusal before.left after.left a.told in_piece
not_first o refusal before after opens a (inr at_end) = not_at_end o opens a.text a.entries a.kept a.stream a.comes (stop.Refused refusal) before.left after.left a.told at_end

pub not_refused : StreamsAreNotRefused
not_refused counting content o refusal before after described accepted first = not_first o refusal before after (opens_so counting content o described) accepted first
