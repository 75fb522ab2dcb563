-- The explanation of an InfluxQL text: the certificate of each query's plan, after a history. (Own rules: a plan is
-- returned as the text of its certificate, which can be passed with the query. A query without a plan has its error.)
use Rattle.std.specs.Prelude.{ℤ, Bool, true, false, List, Ok, Err}
use Rattle.ts_core.specs.facts.Facts.{Text}
use Rattle.ts_core.specs.store.History.{History, settings_of}
use Rattle.ts_core.specs.store.Marks.{marks_of}
use Rattle.ts_core.specs.plans.Pieces.{Piece}
use Rattle.ts_core.specs.settings.Settings.{Settings}
use Rattle.ts_check.specs.CertificateTexts.{certificate_text}
use Rattle.ts_plan.specs.Planning.{IsPlanFor}
use Rattle.ts_plan.specs.PlanTexts.{plan_fault_text}
use Rattle.ts_plan.specs.declared.fault.PlanError.TheVariants as errors
use Rattle.ts_plan.specs.declared.fault.PlanFault.{PlanFault}
use Rattle.ts_ql.specs.Laws.{TextSays, TextFault}
use Rattle.ts_ql.specs.QueryFaults as queries
use Rattle.ts_ql.specs.QueryFaultText.{query_fault_text}
use Rattle.ts_ql.specs.Selects.{Select}
use Rattle.ts_reply.specs.declared.epoch.Epoch.TheVariants.{Text as AsText}
use Rattle.ts_reply.specs.Answering.{AreOutcomes}
use Rattle.ts_reply.specs.Outcomes.{Outcome, Certificate, Fault}
use Rattle.ts_reply.specs.Replies.{TellsOutcomes, refusal_reply_text}

-- Explanation of a query: the certificate of its plan, or the error of planning.
pub data IsExplained (opening : Settings) (h : History) (s : Select) : Outcome → Type 0 where
  planned : (plan : List Piece) → IsPlanFor (settings_of opening h) (marks_of opening h) s.query (Ok plan)
      → IsExplained opening h s (Certificate (certificate_text plan))
  unplanned : (fault : PlanFault)
      → IsPlanFor (settings_of opening h) (marks_of opening h) s.query (Err (errors.Fault fault))
      → IsExplained opening h s (Fault (plan_fault_text fault))

-- The explanation of a text at time `now`, after a history: whether it is good, and its body.
pub data IsExplanation (opening : Settings) (h : History) (now : ℤ) (text : Text) : Bool → Text → Type 0 where
  -- the explanations of the text's queries; no time is written, so any format would do
  good : (body : Text) (queries : List Select) (outcomes : List Outcome)
      → TextSays now text queries → AreOutcomes (IsExplained opening h) queries outcomes
      → TellsOutcomes AsText outcomes body → IsExplanation opening h now text true body
  -- the first error of the text
  bad : (fault : queries.Fault)
      → TextFault now text fault → IsExplanation opening h now text false (refusal_reply_text (query_fault_text fault))
