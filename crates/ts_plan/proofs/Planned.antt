-- The planner's result, from the result of the walk.
use Rattle.std.proofs.Common.{◌≡◌, List, sym, subst, ◌∙◌, false, true≢false}
use Rattle.std.specs.Bool.{IsTrue}
use Rattle.std.specs.Prelude.{◌↔◌, Bool}
use Rattle.ts_core.specs.settings.Settings.{Settings}
use Rattle.ts_core.specs.store.Marks.{Marks}
use Rattle.ts_core.specs.queries.Queries.{Query}
use Rattle.ts_core.specs.plans.Pieces.{Piece, QueryContext, query_context}
use Rattle.ts_core.proofs.settings.Intervals.{IsWide}
use Rattle.ts_core.specs.plans.Plans.{IsWalk, joined, IsPlan, IsPlanOf, IsTooMany}
use Rattle.ts_core.proofs.plans.Walks.{plan_valid}
use Rattle.ts_plan.specs.Planning.{IsPlanned}

-- a test that fails
pub untrue : {P : Type 0} (b : Bool) → IsTrue b ↔ P → b ≡ false → P → ⊥
untrue b h e p = true≢false (sym (h.1 p) ∙ e)

pub planned : (s : Settings) (m : Marks) (q : Query) (bs ps : List Piece) → IsWide (query_context s m q) → (IsTooMany s m q → ⊥) → IsWalk (query_context s m q) q.from bs → ps ≡ joined (query_context s m q) bs → IsPlanned s m q ps
planned s m q bs ps wide few w e =
    let plan : IsPlan s m q ps = (bs, w, e) in
    record { searched = few; determined = plan; valid = plan_valid (query_context s m q) ps wide plan }

-- the same from the planner's own facts
pub planned_of : (s : Settings) (m : Marks) (q : Query) (t : QueryContext) (ps : List Piece) → t ≡ query_context s m q → IsWide t → (IsTooMany s m q → ⊥) → IsPlanOf t ps → IsPlanned s m q ps
planned_of s m q t ps same wide few made =
    let plan : IsPlan s m q ps = subst (λ x. IsPlanOf x ps) same made in
    planned s m q plan.0 ps (subst IsWide same wide) few plan.1 plan.2
