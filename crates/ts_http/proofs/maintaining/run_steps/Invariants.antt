use Rattle.std.proofs.Common.{◌≡◌, ◌≤◌, true}
use Rattle.ts_core.specs.store.StoreData.{store_marks}
use Rattle.ts_store.specs.store.WholeStates.{WholeState, IsWholeStateOf}
use Rattle.ts_store.proofs.store.WholeStatesKept.{Steps}
use Rattle.ts_http.proofs.maintaining.run_steps.Given as goal

abbrev pub invariant-loop-taken : goal.invariant-loop-taken
invariant-loop-taken g l = record {
  within : l.taken ≤ l.limit;
  steps : (s : WholeState) → IsWholeStateOf s l.fn.store → Steps s l.taken l.store;
  running : l.store.running ≡ true;
  marks : store_marks l.store ≡ store_marks l.fn.store;
}
