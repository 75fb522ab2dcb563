-- The effect of some steps of an open run, at most n, until it ends. (Own rule.)
use Rattle.std.specs.Prelude.{◌≡◌, ℕ, ℤ, nat_le, min, Bool, if◌then◌else◌}
use Rattle.ts_core.specs.store.StoreData.{StoreData, store_marks}
use Rattle.ts_core.specs.moves.StoreMoves.{run_begun}
use Rattle.ts_store.specs.store.WholeStates.{WholeState, IsWholeStateOf, left_in}
use Rattle.ts_http.specs.Maintaining.{RunsSteps}

-- a store whose run is open, or has begun now
abbrev pub run_opened : ℤ → StoreData → StoreData
run_opened now k = if k.running then k else run_begun now k

-- from a state, with the number of steps and true if they ended the run
pub record HasRun (n : ℕ) (s : WholeState) (taken : ℕ) (done : Bool) (new : StoreData) : Type 0 where
  pub after : WholeState
  pub runs : RunsSteps n s after
  pub here : IsWholeStateOf after new
  pub count : taken ≡ min n (left_in s)
  pub ended : done ≡ nat_le (left_in s) n

pub record HasStepped (n : ℕ) (old new : StoreData) (taken : ℕ) (done : Bool) : Type 0 where
  pub states : (s : WholeState) → IsWholeStateOf s old → HasRun n s taken done new
  pub marks : store_marks new ≡ store_marks old
