use Rattle.std.proofs.Common.{List, ℕ, Some, ap, ◌∙◌}
use Rattle.ts_core.specs.io.Devices.{Input}
use Rattle.ts_image.specs.SavedImages.{IsWellFormed}
use Rattle.ts_script.proofs.ReloadedStores.{loaded_back}
use Rattle.ts_script.proofs.ReloadFaults.{saves_but_for_memory, loads_but_for_memory}
use Rattle.ts_script.proofs.reloading.reloaded.Goals as goal

pub returns-in-Err-clause-memory : goal.returns-in-Err-clause-memory
returns-in-Err-clause-memory c = λ opening h st. c.of_save.ensures ∙ saves_but_for_memory c.in-Err.fault

pub returns-in-Ok-load-clause-reloaded : goal.returns-in-Ok-load-clause-reloaded
returns-in-Ok-load-clause-reloaded c =
    loaded_back c.args.store.now c.in-Ok-load.store c.in-Ok.bytes.items c.new-source.result (ap (λ (z : Input). z.remaining) c.new-source.ensures ∙ ap (λ (bytes : List ℕ). Some bytes) c.as_slice.ensures.value) c.in-Ok.ensures
    c.laws.ensures.sized c.in-Ok-load.ensures.loads.ok

pub returns-clause-memory : goal.returns-clause-memory
returns-clause-memory c =
    let a = c.laws.ensures in
    let well : IsWellFormed c.args.store.now = record { rules = a.rules; mark = a.mark; sized = a.sized; points = a.points } in
    λ opening h st.
    c.of_load.ensures
    ∙ loads_but_for_memory c.args.store.now c.in-Ok.bytes.items c.new-source.result c.in-Err-load.fault (ap (λ (z : Input). z.remaining) c.new-source.ensures ∙ ap (λ (bytes : List ℕ). Some bytes) c.as_slice.ensures.value) c.in-Ok.ensures well
    c.in-Err-load.ensures.loads.err opening h st
