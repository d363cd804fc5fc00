-- A text as the code keeps it.
use Rattle.std.specs.Prelude.{ℕ, List, Vec, Option, Some, None, if◌then◌else◌}
use Rattle.std.specs.Global.{Global}
use Rattle.otio_text.specs.Texts.{Filled}
use Rattle.otio_text.specs.declared.text.DocText.TheInside.{Inside}

abbrev pub bytes_of : Option (Vec ℕ Global) → Option (List ℕ)
bytes_of None = None
bytes_of (Some v) = Some v.items

abbrev pub text_of : Inside → Option Filled
text_of t = if t.over then None else Some (record { bytes = bytes_of t.bytes; left = t.left })
