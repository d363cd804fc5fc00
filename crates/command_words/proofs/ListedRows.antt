-- Words that ask for a list whose seventh is `names`: the rows behind it are those of a table.
use Rattle.std.proofs.Common.{◌≡◌, ℕ, Bool, true, false, ◌&&◌, if◌then◌else◌, List, [], ◌∷◌, drop, Option, Some, None, Result, Ok, Err, slice_get, refl, arith}
use Rattle.std.specs.Prelude.{codes, bytes_eq, is_none, option_map}
use Rattle.line_words.specs.declared.numbers.NumberFault.{NumberFault}
use Rattle.timecode12.specs.Numbers.{Counted}
use Rattle.timecode12.specs.declared.rate.SequenceRate.{SequenceRate}
use Rattle.command_words.specs.declared.names.RowFault.{RowFault}
use Rattle.command_words.specs.Commands.{Asked, Audit, HallAsked, asks_for_list, audit_in, audited_so, has_records, command_of, counted_so, counting_of, follow_in, followed_so, hall_in, imported_so, import_in, is_word, list_in, made_so, make_in, number_within, least_lines, least_tracks, most_lines, most_reels, most_tracks, plain_asked, played_so, rate_of_word, run_in, serve_hall, serve_in, store_hall, store_in, tape_in}
use Rattle.command_words.specs.Names.{first_fault}
use Rattle.command_words.specs.Records.{Named, or_none, records_in}
use Rattle.line_words.specs.Digits.{number_of}

not_true : false ≡ true → ⊥
not_true h = Prim.grind (arith, h)

plain_is_no_list : (tracks reels : Option ℕ) → asks_for_list (plain_asked tracks reels) ≡ true → ⊥
plain_is_no_list None reels h = not_true h
plain_is_no_list (Some tracks) None h = not_true h
plain_is_no_list (Some tracks) (Some reels) h = not_true h

counted_is_no_list : (document : List ℕ) (counting : Option Counted) → asks_for_list (counted_so document counting) ≡ true → ⊥
counted_is_no_list document None h = not_true h
counted_is_no_list document (Some counting) h = not_true h

served_is_no_list : (hall : Option HallAsked) → asks_for_list (option_map serve_hall hall) ≡ true → ⊥
served_is_no_list None h = not_true h
served_is_no_list (Some hall) h = not_true h

stored_is_no_list : (hall : Option HallAsked) → asks_for_list (option_map store_hall hall) ≡ true → ⊥
stored_is_no_list None h = not_true h
stored_is_no_list (Some hall) h = not_true h

played_is_no_list : (name : List ℕ) (rate : Option SequenceRate) → asks_for_list (played_so name rate) ≡ true → ⊥
played_is_no_list name None h = not_true h
played_is_no_list name (Some rate) h = not_true h

imported_is_no_list : (name : List ℕ) (counting : Option Counted) → asks_for_list (imported_so name counting) ≡ true → ⊥
imported_is_no_list name None h = not_true h
imported_is_no_list name (Some counting) h = not_true h

followed_is_no_list : (document : List ℕ) (counting : Option Counted) → asks_for_list (followed_so document counting) ≡ true → ⊥
followed_is_no_list document None h = not_true h
followed_is_no_list document (Some counting) h = not_true h

audit_is_no_list_so : (document journal : List ℕ) (counting : Counted) (records : List Named) (are : Bool)
    → asks_for_list (if are then Some (Audit document counting journal records) else None) ≡ true → ⊥
audit_is_no_list_so document journal counting records true h = not_true h
audit_is_no_list_so document journal counting records false h = not_true h

audited_is_no_list : (document journal : List ℕ) (counting : Option Counted) (records : Option (List Named)) → asks_for_list (audited_so document journal counting records) ≡ true → ⊥
audited_is_no_list document journal None records h = not_true h
audited_is_no_list document journal (Some counting) records h =
    audit_is_no_list_so document journal counting (or_none records) (has_records records) h

made_is_no_list : (number : Result ℕ NumberFault) (count : Option ℕ) → asks_for_list (made_so number count) ≡ true → ⊥
made_is_no_list (Err fault) count h = not_true h
made_is_no_list (Ok number) None h = not_true h
made_is_no_list (Ok number) (Some count) h = not_true h

run_is_no_list : (ws : List (List ℕ)) → asks_for_list (run_in ws) ≡ true → ⊥
run_is_no_list [] h = not_true h
run_is_no_list (a ∷ []) h = not_true h
run_is_no_list (a ∷ b ∷ []) h = plain_is_no_list (number_within a least_tracks most_tracks) (number_within b 0 most_reels) h
run_is_no_list (a ∷ b ∷ c ∷ []) h = counted_is_no_list a (counting_of b c) h
run_is_no_list (a ∷ b ∷ c ∷ d ∷ ws) h = not_true h

tape_is_no_list : (ws : List (List ℕ)) → asks_for_list (tape_in ws) ≡ true → ⊥
tape_is_no_list [] h = not_true h
tape_is_no_list (a ∷ []) h = not_true h
tape_is_no_list (a ∷ b ∷ []) h = played_is_no_list a (rate_of_word b) h
tape_is_no_list (a ∷ b ∷ c ∷ ws) h = not_true h

import_is_no_list : (ws : List (List ℕ)) → asks_for_list (import_in ws) ≡ true → ⊥
import_is_no_list [] h = not_true h
import_is_no_list (a ∷ []) h = not_true h
import_is_no_list (a ∷ b ∷ []) h = not_true h
import_is_no_list (a ∷ b ∷ c ∷ []) h = imported_is_no_list a (counting_of b c) h
import_is_no_list (a ∷ b ∷ c ∷ d ∷ ws) h = not_true h

follow_is_no_list : (ws : List (List ℕ)) → asks_for_list (follow_in ws) ≡ true → ⊥
follow_is_no_list [] h = not_true h
follow_is_no_list (a ∷ []) h = not_true h
follow_is_no_list (a ∷ b ∷ []) h = not_true h
follow_is_no_list (a ∷ b ∷ c ∷ []) h = followed_is_no_list a (counting_of b c) h
follow_is_no_list (a ∷ b ∷ c ∷ d ∷ ws) h = not_true h

audit_is_no_list : (ws : List (List ℕ)) → asks_for_list (audit_in ws) ≡ true → ⊥
audit_is_no_list [] h = not_true h
audit_is_no_list (a ∷ []) h = not_true h
audit_is_no_list (a ∷ b ∷ []) h = not_true h
audit_is_no_list (a ∷ b ∷ c ∷ []) h = not_true h
audit_is_no_list (a ∷ b ∷ c ∷ d ∷ ws) h = audited_is_no_list a d (counting_of b c) (records_in ws) h

make_is_no_list : (ws : List (List ℕ)) → asks_for_list (make_in ws) ≡ true → ⊥
make_is_no_list [] h = not_true h
make_is_no_list (a ∷ []) h = not_true h
make_is_no_list (a ∷ b ∷ []) h = made_is_no_list (number_of a) (number_within b least_lines most_lines) h
make_is_no_list (a ∷ b ∷ c ∷ ws) h = not_true h

-- of the commands only `list` asks for a list
begins_so : (run serve store list tape import follow audit make : Bool) (ws : List (List ℕ))
    → asks_for_list (if run then run_in ws else if serve then serve_in ws else if store then store_in ws else if list then list_in ws else if tape then tape_in ws else if import then import_in ws else if follow then follow_in ws else if audit then audit_in ws else if make then make_in ws else None) ≡ true
    → asks_for_list (list_in ws) ≡ true
begins_so true serve store list tape import follow audit make ws h = absurd (run_is_no_list ws h)
begins_so false true store list tape import follow audit make ws h = absurd (served_is_no_list (hall_in ws) h)
begins_so false false true list tape import follow audit make ws h = absurd (stored_is_no_list (hall_in ws) h)
begins_so false false false true tape import follow audit make ws h = h
begins_so false false false false true import follow audit make ws h = absurd (tape_is_no_list ws h)
begins_so false false false false false true follow audit make ws h = absurd (import_is_no_list ws h)
begins_so false false false false false false true audit make ws h = absurd (follow_is_no_list ws h)
begins_so false false false false false false false true make ws h = absurd (audit_is_no_list ws h)
begins_so false false false false false false false false true ws h = absurd (make_is_no_list ws h)
begins_so false false false false false false false false false ws h = absurd (not_true h)

sound_rows : (is : Bool) (fault : Option (List ℕ × RowFault)) (asked : Option Asked) → asks_for_list (if is && is_none fault then asked else None) ≡ true → fault ≡ None
sound_rows true None asked h = refl
sound_rows true (Some fault) asked h = absurd (not_true h)
sound_rows false fault asked h = absurd (not_true h)

rows_behind : (ws : List (List ℕ)) → asks_for_list (list_in ws) ≡ true → is_word (slice_get ws 5) (codes "names") ≡ true → first_fault [] (drop 6 ws) ≡ None
rows_behind [] h names = absurd (not_true h)
rows_behind (a ∷ []) h names = absurd (not_true h)
rows_behind (a ∷ b ∷ []) h names = absurd (not_true h)
rows_behind (a ∷ b ∷ c ∷ []) h names = absurd (not_true h)
rows_behind (a ∷ b ∷ c ∷ d ∷ []) h names = absurd (not_true h)
rows_behind (a ∷ b ∷ c ∷ d ∷ e ∷ []) h names = absurd (not_true names)
rows_behind (a ∷ b ∷ c ∷ d ∷ e ∷ f ∷ []) h names = refl
rows_behind (a ∷ b ∷ c ∷ d ∷ e ∷ f ∷ g ∷ ws) h names = sound_rows (bytes_eq f (codes "names")) (first_fault [] (g ∷ ws)) _ h

-- so no row of such a list is at fault
pub rows_of_list : (ws : List (List ℕ)) → asks_for_list (command_of ws) ≡ true → is_word (slice_get ws 6) (codes "names") ≡ true → first_fault [] (drop 7 ws) ≡ None
rows_of_list [] h names = absurd (not_true h)
rows_of_list (first ∷ ws) h names =
    rows_behind ws
    (begins_so (bytes_eq first (codes "run")) (bytes_eq first (codes "serve")) (bytes_eq first (codes "store")) (bytes_eq first (codes "list")) (bytes_eq first (codes "tape")) (bytes_eq first (codes "import")) (bytes_eq first (codes "follow")) (bytes_eq first (codes "audit")) (bytes_eq first (codes "make")) ws h)
    names
