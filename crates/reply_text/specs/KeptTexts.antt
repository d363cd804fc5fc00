-- A reply as it is kept until it is sent.
use Rattle.std.specs.Prelude.{ℕ, ◌<◌, ◌≤◌, List, length, vec_len, vec_capacity}
use Rattle.reply_text.specs.declared.reply.Text.{Text}
use Rattle.reply_text.specs.declared.reply.Text.TheVariants.{Short, Long}
use Rattle.protocol_parts.specs.declared.short_text.TheConstants.{MAX_SHORT}

-- its text, without a line feed
abbrev pub text_of : Text → List ℕ
text_of (Short text) = text
text_of (Long text) = text.items

-- there is room for its line feed
abbrev pub HasRoom : Text → Type 0
HasRoom (Short text) = length text ≤ MAX_SHORT
HasRoom (Long text) = vec_len text < vec_capacity text
