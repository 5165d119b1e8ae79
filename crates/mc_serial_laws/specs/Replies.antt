-- What every reply is: one or more whole lines.
use Rattle.std.specs.Prelude.{◌≡◌, ℕ, ◌≤◌, List, length}
use Rattle.mc_watch.specs.Texts.{line}

-- the reply ends with CR LF, and has something before it
pub record IsWhole (reply : List ℕ) : Type 0 where
  pub text : List ℕ
  pub ends : reply ≡ line text
  pub some : 1 ≤ length text
