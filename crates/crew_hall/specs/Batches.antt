-- The short replies of a session that wait to go out together.
use Rattle.std.specs.Prelude.{ℕ}

pub record BatchState : Type 0 where
  -- the lines that the session was given and has not answered
  pub lines : ℕ
  -- the replies that wait, and how many bytes they have
  pub replies : ℕ
  pub bytes : ℕ
