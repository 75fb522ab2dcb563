-- The reply to an InfluxQL text, over all facts ever accepted. (InfluxData 1.8, API reference: /query, multiple
-- queries. Own rules: an error in the text refuses all of it. A query without a plan has its error, and the others are
-- answered. A certificate may come only with a single query.)
use Rattle.std.specs.Prelude.{◌≡◌, ℤ, Bool, true, false, nat_lt, List, [], ◌∷◌, length, ⊤, Option, Some, None, Ok, Err}
use Rattle.ts_core.specs.facts.Facts.{Text}
use Rattle.ts_core.specs.declared.text.fault_code.FaultCode.TheVariants.{SeveralStatements}
use Rattle.ts_core.specs.declared.text.fault_text.FaultDetail.TheVariants.{Alone}
use Rattle.ts_core.specs.plans.Faults.{first_fault}
use Rattle.ts_core.specs.text.FaultTexts.{fault_text}
use Rattle.ts_core.specs.store.History.{History, settings_of}
use Rattle.ts_core.specs.facts.Latest.{latest_of}
use Rattle.ts_core.specs.store.Marks.{marks_of}
use Rattle.ts_core.specs.plans.Pieces.{Piece, IsValid}
use Rattle.ts_core.specs.settings.Settings.{Settings}
use Rattle.ts_check.specs.CertificateTexts.{IsCertificate, IsFirstBadLine}
use Rattle.ts_check.specs.CheckTexts.{certificate_fault_text, check_fault_text}
use Rattle.ts_check.specs.declared.certificate_fault.CertificateFault.{CertificateFault}
use Rattle.ts_check.specs.declared.fault.CheckFault.{CheckFault}
use Rattle.ts_plan.specs.Planning.{IsPlanFor}
use Rattle.ts_plan.specs.PlanTexts.{plan_fault_text}
use Rattle.ts_plan.specs.declared.fault.PlanError.TheVariants as errors
use Rattle.ts_plan.specs.declared.fault.PlanFault.{PlanFault}
use Rattle.ts_ql.specs.Laws.{TextSays, TextFault}
use Rattle.ts_ql.specs.QueryFaults as queries
use Rattle.ts_ql.specs.QueryFaultText.{query_fault_text}
use Rattle.ts_ql.specs.Selects.{Select}
use Rattle.ts_reply.specs.declared.epoch.Epoch.{Epoch}
use Rattle.ts_reply.specs.Outcomes.{Outcome, Fault, rows_over}
use Rattle.ts_reply.specs.Replies.{TellsOutcomes, refusal_reply_text}

-- Outcome of a query: its rows over all facts ever accepted if it has a plan, else the error of planning.
pub data IsPlannedOutcome (opening : Settings) (h : History) (s : Select) : Outcome → Type 0 where
  answered : (plan : List Piece) → IsPlanFor (settings_of opening h) (marks_of opening h) s.query (Ok plan)
      → IsPlannedOutcome opening h s (rows_over (latest_of h) s)
  refused : (fault : PlanFault)
      → IsPlanFor (settings_of opening h) (marks_of opening h) s.query (Err (errors.Fault fault))
      → IsPlannedOutcome opening h s (Fault (plan_fault_text fault))

-- Outcome of a query by the pieces of a certificate: their first error, or else the query's rows over all facts ever
-- accepted.
pub data IsChecked (opening : Settings) (h : History) (pieces : List Piece) (s : Select) : Outcome → Type 0 where
  invalid : (fault : CheckFault)
      → first_fault (settings_of opening h) (marks_of opening h) s.query pieces ≡ Some (fault.kind, fault.piece)
      → IsChecked opening h pieces s (Fault (check_fault_text fault))
  valid : IsValid (settings_of opening h) (marks_of opening h) s.query pieces
      → IsChecked opening h pieces s (rows_over (latest_of h) s)

-- Outcome of a query by the text of a certificate: the error of the text, or the outcome by the pieces that it spells.
pub data IsCertified (opening : Settings) (h : History) (certificate : Text) (s : Select) : Outcome → Type 0 where
  misspelled : (fault : CertificateFault)
      → IsFirstBadLine certificate fault.at → IsCertified opening h certificate s (Fault (certificate_fault_text fault))
  spelled : (pieces : List Piece) (o : Outcome)
      → IsCertificate certificate pieces → IsChecked opening h pieces s o → IsCertified opening h certificate s o

-- outcome of a query by the given certificate, or else by its own plan
abbrev pub IsOutcome : Settings → History → Option Text → Select → Outcome → Type 0
IsOutcome opening h None s o = IsPlannedOutcome opening h s o
IsOutcome opening h (Some certificate) s o = IsCertified opening h certificate s o

-- the outcomes are those of the queries, one by one
abbrev pub AreOutcomes : (Select → Outcome → Type 0) → List Select → List Outcome → Type 0
AreOutcomes Becomes [] [] = ⊤
AreOutcomes Becomes [] (o ∷ os) = ⊥
AreOutcomes Becomes (s ∷ ss) [] = ⊥
AreOutcomes Becomes (s ∷ ss) (o ∷ os) = Becomes s o × AreOutcomes Becomes ss os

-- a certificate is given with more than one query
abbrev pub is_of_several : Option Text → List Select → Bool
is_of_several None queries = false
is_of_several (Some certificate) queries = nat_lt 1 (length queries)

abbrev pub several_text : Text
several_text = fault_text SeveralStatements Alone

-- The reply to queries, with or without a certificate, after a history: whether it is good, and its body.
pub data IsReplyTo (opening : Settings)
    (h : History) (queries : List Select) (certificate : Option Text) (epoch : Epoch) : Bool → Text → Type 0 where
  -- the outcomes of the queries
  good : (body : Text) (outcomes : List Outcome)
      → is_of_several certificate queries ≡ false → AreOutcomes (IsOutcome opening h certificate) queries outcomes
      → TellsOutcomes epoch outcomes body → IsReplyTo opening h queries certificate epoch true body
  -- a certificate is given with several queries
  several : is_of_several certificate queries ≡ true
      → IsReplyTo opening h queries certificate epoch false (refusal_reply_text several_text)

-- The reply to a text at time `now`: the reply to its queries, or its first error.
pub data IsReply (opening : Settings)
    (h : History) (now : ℤ) (text : Text) (certificate : Option Text) (epoch : Epoch) : Bool → Text → Type 0 where
  read : (queries : List Select) (good : Bool) (body : Text) → TextSays now text queries
      → IsReplyTo opening h queries certificate epoch good body → IsReply opening h now text certificate epoch good body
  bad : (fault : queries.Fault) → TextFault now text fault
      → IsReply opening h now text certificate epoch false (refusal_reply_text (query_fault_text fault))
