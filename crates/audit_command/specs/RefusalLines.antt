-- The lines of an audit: of recorded sessions that are explained, and of the first refusal.
use Rattle.std.specs.Prelude.{ℕ, List, ◌++◌, codes, decimal}
use Rattle.audit_command.specs.declared.refusal.AuditCode.{AuditCode}
use Rattle.audit_command.specs.declared.refusal.AuditCode.TheVariants.{A1, A2, A3, A4, A5}
use Rattle.audit_command.specs.declared.refusal.AuditRefusal.{AuditRefusal}

-- how many entries and replies are explained
abbrev pub legal_line : ℕ → ℕ → List ℕ
legal_line entries replies = codes "legal " ++ decimal entries ++ codes " " ++ decimal replies ++ codes "\n"

abbrev pub code_text : AuditCode → List ℕ
code_text A1 = codes "A1"
code_text A2 = codes "A2"
code_text A3 = codes "A3"
code_text A4 = codes "A4"
code_text A5 = codes "A5"

-- `refused`, the code, the station, and the number of its line or entry
abbrev pub audit_line : AuditRefusal → List ℕ
audit_line r = codes "refused " ++ code_text r.code ++ codes " " ++ decimal r.station ++ codes " " ++ decimal r.number ++ codes "\n"
