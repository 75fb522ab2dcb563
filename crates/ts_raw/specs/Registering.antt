-- The effect of a call that returns the index of an item and registers it if needed. (Own rule.)
use Rattle.std.specs.Prelude.{◌≡◌, ℕ, List, Result, IfOk, OnOk, OnErr, IsOk}
use Rattle.ts_core.specs.lists.Members.{Among}
use Rattle.ts_core.specs.lists.Numbered.{IsAt, Gains}

-- x has the returned index: it was there, or it is appended. An existing item is found in any case, and an error
-- changes nothing.
pub record IsRegistered {X E : Type 0} (before after : List X) (result : Result ℕ E) (x : X) : Type 0 where
  pub number : IfOk result (λ n. IsAt after n x)
  pub gains : OnOk result (Gains before after x)
  pub known : Among x before → IsOk result
  pub kept : OnErr result (after ≡ before)
