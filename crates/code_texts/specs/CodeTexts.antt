-- What a code means that the program prints.
use Rattle.std.specs.Prelude.{ℕ, List, [], ◌∷◌, ◌==◌, map, Option, Some, None, bytes_eq, if◌then◌else◌}
use Rattle.code_texts.specs.declared.replies.TheConstants.{B_CODES, E_CODES, V_CODES}
use Rattle.code_texts.specs.declared.documents.TheConstants.{J_CODES, O_CODES}
use Rattle.code_texts.specs.declared.journals.TheConstants.{H_CODES, K_CODES, M_CODES}
use Rattle.code_texts.specs.declared.lists.TheConstants.{P_CODES, L_CODES, I_CODES}
use Rattle.code_texts.specs.declared.audits.TheConstants.{A_CODES}
use Rattle.code_texts.specs.declared.statuses.TheConstants.{STATUSES}

-- the text of a code, of rows that each have a code and its text
abbrev pub text_in : List (List ℕ × List ℕ) → List ℕ → Option (List ℕ)
text_in [] code = None
text_in (row ∷ rows) code = if bytes_eq row.0 code then Some row.1 else text_in rows code

-- of lines
unfoldable pub b_text : List ℕ → Option (List ℕ)
b_text = text_in (map (λ row. (row.0.now, row.1.now)) B_CODES)

-- of edits
unfoldable pub e_text : List ℕ → Option (List ℕ)
e_text = text_in (map (λ row. (row.0.now, row.1.now)) E_CODES)

-- of questions
unfoldable pub v_text : List ℕ → Option (List ℕ)
v_text = text_in (map (λ row. (row.0.now, row.1.now)) V_CODES)

-- of JSON
unfoldable pub j_text : List ℕ → Option (List ℕ)
j_text = text_in (map (λ row. (row.0.now, row.1.now)) J_CODES)

-- of documents
unfoldable pub o_text : List ℕ → Option (List ℕ)
o_text = text_in (map (λ row. (row.0.now, row.1.now)) O_CODES)

-- of journals
unfoldable pub h_text : List ℕ → Option (List ℕ)
h_text = text_in (map (λ row. (row.0.now, row.1.now)) H_CODES)

-- of kept files
unfoldable pub k_text : List ℕ → Option (List ℕ)
k_text = text_in (map (λ row. (row.0.now, row.1.now)) K_CODES)

-- of lists that are read
unfoldable pub p_text : List ℕ → Option (List ℕ)
p_text = text_in (map (λ row. (row.0.now, row.1.now)) P_CODES)

-- of lists that are written
unfoldable pub l_text : List ℕ → Option (List ℕ)
l_text = text_in (map (λ row. (row.0.now, row.1.now)) L_CODES)

-- of lists as documents
unfoldable pub i_text : List ℕ → Option (List ℕ)
i_text = text_in (map (λ row. (row.0.now, row.1.now)) I_CODES)

-- of news
unfoldable pub m_text : List ℕ → Option (List ℕ)
m_text = text_in (map (λ row. (row.0.now, row.1.now)) M_CODES)

-- of recorded sessions
unfoldable pub a_text : List ℕ → Option (List ℕ)
a_text = text_in (map (λ row. (row.0.now, row.1.now)) A_CODES)

-- of exit statuses
unfoldable pub status_text_of : List ℕ → Option (List ℕ)
status_text_of = text_in (map (λ row. (row.0.now, row.1.now)) STATUSES)

-- by the letter that a code begins with
abbrev pub by_letter : ℕ → List ℕ → Option (List ℕ)
by_letter letter code =
    if letter == 66 then b_text code else
    if letter == 69 then e_text code else
    if letter == 86 then v_text code else
    if letter == 74 then j_text code else
    if letter == 79 then o_text code else
    if letter == 72 then h_text code else
    if letter == 75 then k_text code else
    if letter == 80 then p_text code else
    if letter == 76 then l_text code else
    if letter == 73 then i_text code else
    if letter == 77 then m_text code else
    if letter == 65 then a_text code else
    status_text_of code

-- what a code means, and what to do
abbrev pub code_text : List ℕ → Option (List ℕ)
code_text [] = status_text_of []
code_text (letter ∷ code) = by_letter letter (letter ∷ code)
