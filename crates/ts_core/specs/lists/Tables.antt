-- Names with their hashes. (Own rule.)
use Rattle.std.specs.Prelude.{◌≡◌, ℕ, List, map}
use Rattle.ts_core.specs.lists.Members.{AllDistinct}

-- the names are distinct, and each has its hash at the same index
pub record IsTable {X : Type 0} (hash_of : X → ℕ) (names : List X) (hashes : List ℕ) : Type 0 where
  pub once : AllDistinct names
  pub hashed : hashes ≡ map hash_of names
