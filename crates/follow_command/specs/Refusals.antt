-- Why a line of a stream is refused, and the line that says so.
use Rattle.std.specs.Prelude.{◌≡◌, ℕ, ◌+◌, ◌⊎◌, true, List, [], ◌∷◌, Option, Some, None, codes}
use Rattle.command_files.specs.Texts.{refusal_text}
use Rattle.cut_mirror.specs.Mirrors.{IsWhy}
use Rattle.cut_mirror.specs.declared.fault.MirrorFault.{MirrorFault}
use Rattle.cut_mirror.specs.declared.fault.MirrorFault.TheVariants as fault
use Rattle.cut_steps.specs.CutSteps.{CutStep}
use Rattle.journal_text.specs.declared.news_reply.News.{News}
use Rattle.line_words.specs.Lines.{Line as InputLine}
use Rattle.room_core.specs.History.{most_entries}
use Rattle.room_core.specs.declared.entry.Entry.{Entry}
use Rattle.follow_command.specs.Goes.{CutMirror, cut_meaning}
use Rattle.follow_command.specs.NewsLines.{IsNewsLine, IsNoNewsLine, is_news_line}
use Rattle.follow_command.specs.declared.refusal.StreamRefusal.{StreamRefusal}
use Rattle.follow_command.specs.declared.refusal.StreamRefusal.TheVariants.{NotNews, Gap, Refused, Differs, Full, Late}
use Rattle.follow_command.specs.declared.refusal.Stop.{Stop}
use Rattle.follow_command.specs.declared.refusal.Stop.TheVariants as stop

-- why the mirror does not take an entry, as a refusal; it is none where there was no memory
abbrev pub refusal_of : MirrorFault → Option StreamRefusal
refusal_of (fault.Gap point) = Some (Gap point)
refusal_of (fault.Differs place) = Some (Differs place)
refusal_of fault.Full = Some Full
refusal_of (fault.Late place) = Some (Late place)
refusal_of (fault.Refused place) = Some (Refused place)
refusal_of fault.Memory = None

-- the line of a refusal
abbrev pub stream_line : StreamRefusal → List ℕ
stream_line (NotNews line) = refusal_text (codes "M1") line
stream_line (Gap point) = refusal_text (codes "M2") point
stream_line (Refused place) = refusal_text (codes "M3") place
stream_line (Differs place) = refusal_text (codes "M4") place
stream_line Full = refusal_text (codes "M5") most_entries
stream_line (Late place) = refusal_text (codes "M6") place

-- the mirror does not take the entry of these news, and this is why
abbrev pub RefusesNews : CutMirror → News → StreamRefusal → Type 0
RefusesNews m news refusal =
    (why : MirrorFault) × (refusal_of why ≡ Some refusal) × (entry : Entry CutStep) × (news.entry ≡ Some entry)
    × IsWhy (cut_meaning m.object) m news.place entry why

-- The line of this number begins with `news` and is no reply to it; or it tells an entry that the mirror, as it stands
-- there, does not take.
abbrev pub Refuses : CutMirror → ℕ → InputLine → StreamRefusal → Type 0
Refuses m number line refusal =
    ((refusal ≡ NotNews number) × (is_news_line line ≡ true) × IsNoNewsLine line)
    ⊎ ((news : News) × IsNewsLine line news × RefusesNews m news refusal)

-- ---- why the code stops

-- at the entry of news
abbrev pub StopsAtNews : CutMirror → News → Stop → Type 0
StopsAtNews m news (stop.Refused refusal) = RefusesNews m news refusal
StopsAtNews m news stop.Memory = Unit {0}

-- at a line of this number
abbrev pub StopsAtLine : CutMirror → ℕ → InputLine → Stop → Type 0
StopsAtLine m number line (stop.Refused refusal) = Refuses m number line refusal
StopsAtLine m number line stop.Memory = Unit {0}

-- at a last line of this number without a line feed
abbrev pub StopsAtCut : ℕ → InputLine → Stop → Type 0
StopsAtCut number line why = (why ≡ stop.Refused (NotNews number)) × (is_news_line line ≡ true)
