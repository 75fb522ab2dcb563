-- A plan that is fresh, and so valid for the view.
use Rattle.std.proofs.Common.{sym, subst}
use Rattle.ts_core.specs.settings.Settings.{Settings}
use Rattle.ts_core.specs.store.Marks.{Marks}
use Rattle.ts_core.specs.plans.Pieces.{IsValid}
use Rattle.ts_core.specs.store.Views.{ViewState}
use Rattle.ts_check.specs.Checks.{Plan, IsValidPlan}
use Rattle.ts_exec.specs.Executions.{IsCurrent}

pub fresh-valid : (seen : ViewState) (p : Plan) → IsCurrent seen p → IsValidPlan p → IsValid seen.settings seen.marks p.select.query p.pieces
fresh-valid seen p fresh valid =
    subst (λ (s : Settings). IsValid s seen.marks p.select.query p.pieces) (sym fresh.settings) (subst (λ (m : Marks). IsValid p.settings m p.select.query p.pieces) (sym fresh.marks) valid)
