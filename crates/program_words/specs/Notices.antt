-- What the program says of itself, and which words ask for it.
use Rattle.std.specs.Prelude.{ℕ, Bool, ◌||◌, List, [], ◌∷◌, Option, Some, None, option_map, codes, bytes_eq, if◌then◌else◌}
use Rattle.program_words.specs.declared.notice.TheConstants.{HELP, VERSION}
use Rattle.program_words.specs.declared.notice.Notice.{Notice}
use Rattle.program_words.specs.declared.notice.Notice.TheVariants as notice
use Rattle.program_words.specs.CommandTexts.{Row, command_named}
use Rattle.code_texts.specs.CodeTexts.{code_text}

-- the text of a notice
abbrev pub text_of : Notice → List ℕ
text_of notice.Help = HELP.now
text_of notice.Version = VERSION.now
text_of (notice.Command page) = page.now
text_of (notice.Code text) = text.now

-- whether a word asks for help
abbrev pub wants_help : List ℕ → Bool
wants_help word = bytes_eq word (codes "--help") || bytes_eq word (codes "-h")

-- the text that one word asks for
abbrev pub lone_notice : List ℕ → Option (List ℕ)
lone_notice word =
    if wants_help word || bytes_eq word (codes "help") then Some HELP.now else
    if bytes_eq word (codes "--version") || bytes_eq word (codes "-V") then Some VERSION.now else None

abbrev pub page_in : Row → List ℕ
page_in row = row.1.1

-- the page of a command
abbrev pub page_of : List ℕ → Option (List ℕ)
page_of name = option_map page_in (command_named name)

-- the text that two words ask for: of a command its page, of a code what it means
abbrev pub pair_notice : List ℕ → List ℕ → Option (List ℕ)
pair_notice first second =
    if wants_help first || bytes_eq first (codes "help") then page_of second else
    if wants_help second then page_of first else
    if bytes_eq first (codes "explain") then code_text second else None

-- the text of the notice that words ask for, which are one or two
abbrev pub notice_of : List (List ℕ) → Option (List ℕ)
notice_of [] = None
notice_of (word ∷ []) = lone_notice word
notice_of (first ∷ second ∷ []) = pair_notice first second
notice_of (first ∷ second ∷ third ∷ words) = None
