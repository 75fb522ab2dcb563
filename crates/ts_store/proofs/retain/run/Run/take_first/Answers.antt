use Rattle.std.proofs.Common.{true, false, sym, List, Bool, get_or, ◌≡◌, ◌+◌, ap, ◌∙◌, subst, Some, None}
use Rattle.std.specs.Option.{is_some}
use Rattle.ts_store.specs.retain.OpenRuns.{run_of, ArePassed, TakesFirst}
use Rattle.ts_store.proofs.retain.WaitingColumns.{is_open, takes_one, takes_none}
use Rattle.ts_store.proofs.retain.run.Run.take_first.Goals as goal

pub returns-in-Some : goal.returns-in-Some
returns-in-Some g c =
    let r = c.self.inside in
    let runs : r.running ≡ true = is_open r.running r.next r.end r.passed.items (ap is_some c.self.view_is ∙ c.requires) in
    let found = c.in-Some.ensures in
    subst (λ old. TakesFirst old (run_of r.running (c.in-Some.column + 1) r.end r.passed.items) (Some c.in-Some.column)) c.self.view_is
    (takes_one r.running r.next r.end r.passed.items c.in-Some.column runs found.0 found.1
    (ap (λ (bs : List Bool). get_or bs c.in-Some.column false) (sym c.as_slice.ensures.value) ∙ found.2)
    (subst (λ (bs : List Bool). ArePassed bs r.next c.in-Some.column) c.as_slice.ensures.value found.3))

pub returns-in-None : goal.returns-in-None
returns-in-None g c =
    let r = c.self.inside in
    let runs : r.running ≡ true = is_open r.running r.next r.end r.passed.items (ap is_some c.self.view_is ∙ c.requires) in
    subst (λ old. TakesFirst old (run_of r.running r.end r.end r.passed.items) None) c.self.view_is
    (takes_none r.running r.next r.end r.passed.items runs (subst (λ (bs : List Bool). ArePassed bs r.next r.end) c.as_slice.ensures.value c.in-None.ensures))
