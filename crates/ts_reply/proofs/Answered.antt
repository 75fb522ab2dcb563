-- The outcome of a query, by the rows of a plan over a store.
use Rattle.std.proofs.Common.{◌≡◌, List, Result, Ok, Err, Some, sym, ap, ap₂, ◌∙◌, subst}
use Rattle.ts_core.specs.facts.Facts.{Text}
use Rattle.ts_core.specs.plans.Faults.{first_fault}
use Rattle.ts_core.specs.declared.queries.fill.Fill.{Fill}
use Rattle.ts_core.specs.queries.Answers.{answer_of}
use Rattle.ts_core.specs.queries.Fills.{filled}
use Rattle.ts_core.specs.store.History.{History, settings_of}
use Rattle.ts_core.specs.facts.Latest.{latest_of}
use Rattle.ts_core.specs.store.Marks.{Marks, marks_of}
use Rattle.ts_core.specs.plans.Pieces.{Piece, IsValid}
use Rattle.ts_core.specs.settings.Settings.{Settings}
use Rattle.ts_core.specs.store.StoreData.{StoreData, state_of, OfEachHistory, ShowsEach, store_settings, store_marks}
use Rattle.ts_core.specs.store.StoreStates.{StandsFor}
use Rattle.ts_core.specs.store.Views.{view_state_of}
use Rattle.ts_check.specs.CertificateTexts.{certificate_text, IsFirstBadLine}
use Rattle.ts_check.specs.CheckTexts.{certificate_fault_text, check_fault_text}
use Rattle.ts_check.specs.declared.certificate_fault.CertificateFault.{CertificateFault}
use Rattle.ts_check.specs.Checks.{Plan, IsCheckOf}
use Rattle.ts_check.specs.declared.fault.CheckError.{CheckError}
use Rattle.ts_check.specs.declared.fault.CheckError.TheVariants as checks
use Rattle.ts_check.specs.declared.fault.CheckFault.{CheckFault}
use Rattle.ts_exec.specs.Answered.{Answered}
use Rattle.ts_exec.specs.Executions.{IsSelectedAnswer}
use Rattle.ts_exec.specs.Fillings.{FilledAnswer, filled_answer, functions_of}
use Rattle.ts_plan.specs.Planning.{IsPlanFor}
use Rattle.ts_plan.specs.PlanTexts.{plan_fault_text}
use Rattle.ts_plan.specs.declared.fault.PlanError.{PlanError}
use Rattle.ts_plan.specs.declared.fault.PlanError.TheVariants as errors
use Rattle.ts_plan.specs.declared.fault.PlanFault.{PlanFault}
use Rattle.ts_ql.specs.Selects.{Select}
use Rattle.ts_reply.specs.Answering.{IsPlannedOutcome, answered, refused, IsChecked, invalid, valid, IsCertified, misspelled}
use Rattle.ts_reply.specs.Explaining as explaining
use Rattle.ts_reply.specs.Explaining.{IsExplained}
use Rattle.ts_reply.specs.Outcomes.{Outcome, Rows, Certificate, Fault, rows_outcome, rows_over}

pub rows_shown : (k : StoreData) (s : Select) (fill : Fill) (plan : Plan) (table : Answered) (r : FilledAnswer)
    → ShowsEach k → plan.select ≡ s → fill ≡ s.fill → IsSelectedAnswer (view_state_of (state_of k)) plan table → r ≡ filled_answer fill table
    → OfEachHistory k (λ opening h. rows_outcome r ≡ rows_over (latest_of h) s)
rows_shown k s fill plan table r shows e f a is opening h stands =
    let select : table.select ≡ s = a.select ∙ e in
    let values : filled fill (functions_of plan.select.columns) table.groups ≡ filled fill (functions_of plan.select.columns) (answer_of (latest_of h) plan.select.query) =
    a.answer opening h (shows opening h stands) fill in
    ap rows_outcome is
    ∙ ap (λ (x : Select). Rows x (filled fill (functions_of x.columns) table.groups)) a.select
    ∙ ap (Rows plan.select) values
    ∙ ap₂ (λ (x : Select) (y : Fill). Rows x (filled y (functions_of x.columns) (answer_of (latest_of h) x.query))) e f

-- a fact about a store's settings and marks is one about those of each history that it represents
pub carried : (Says : Settings → Marks → Type 0) (k : StoreData) (settings : Settings) (marks : Marks) (opening : Settings) (h : History)
    → ShowsEach k → StandsFor opening h (state_of k) → settings ≡ store_settings k → marks ≡ store_marks k → Says settings marks → Says (settings_of opening h) (marks_of opening h)
carried Says k settings marks opening h shows stands st mt said =
    let shown = shows opening h stands in
    let known : Says (settings_of opening h) marks = subst (λ (t : Settings). Says t marks) (st ∙ shown.settings) said in
    subst (Says (settings_of opening h)) (mt ∙ shown.marks) known

-- ---- by a plan

plan_carried : (k : StoreData) (settings : Settings) (marks : Marks) (opening : Settings) (h : History) (s : Select) (result plan : Result (List Piece) PlanError)
    → ShowsEach k → StandsFor opening h (state_of k) → settings ≡ store_settings k → marks ≡ store_marks k → result ≡ plan
    → IsPlanFor settings marks s.query result → IsPlanFor (settings_of opening h) (marks_of opening h) s.query plan
plan_carried k settings marks opening h s result plan shows stands st mt is p =
    carried (λ t m. IsPlanFor t m s.query plan) k settings marks opening h shows stands st mt (subst (IsPlanFor settings marks s.query) is p)

pub planned_rows : (k : StoreData) (settings : Settings) (marks : Marks) (s : Select) (result : Result (List Piece) PlanError) (plan : List Piece) (o : Outcome)
    → ShowsEach k → settings ≡ store_settings k → marks ≡ store_marks k → IsPlanFor settings marks s.query result → result ≡ Ok plan
    → OfEachHistory k (λ opening h. o ≡ rows_over (latest_of h) s) → OfEachHistory k (λ opening h. IsPlannedOutcome opening h s o)
planned_rows k settings marks s result plan o shows st mt p is e opening h stands =
    subst (IsPlannedOutcome opening h s) (sym (e opening h stands)) (answered plan (plan_carried k settings marks opening h s result (Ok plan) shows stands st mt is p))

pub planned_fault : (k : StoreData) (settings : Settings) (marks : Marks) (s : Select) (result : Result (List Piece) PlanError) (fault : PlanFault) (o : Outcome)
    → ShowsEach k → settings ≡ store_settings k → marks ≡ store_marks k → IsPlanFor settings marks s.query result → result ≡ Err (errors.Fault fault)
    → o ≡ Fault (plan_fault_text fault) → OfEachHistory k (λ opening h. IsPlannedOutcome opening h s o)
planned_fault k settings marks s result fault o shows st mt p is e opening h stands =
    subst (IsPlannedOutcome opening h s) (sym e) (refused fault (plan_carried k settings marks opening h s result (Err (errors.Fault fault)) shows stands st mt is p))

pub explained_plan : (k : StoreData) (settings : Settings) (marks : Marks) (s : Select) (result : Result (List Piece) PlanError) (plan : List Piece) (o : Outcome)
    → ShowsEach k → settings ≡ store_settings k → marks ≡ store_marks k → IsPlanFor settings marks s.query result → result ≡ Ok plan
    → o ≡ Certificate (certificate_text plan) → OfEachHistory k (λ opening h. IsExplained opening h s o)
explained_plan k settings marks s result plan o shows st mt p is e opening h stands =
    subst (IsExplained opening h s) (sym e) (explaining.planned plan (plan_carried k settings marks opening h s result (Ok plan) shows stands st mt is p))

pub explained_fault : (k : StoreData) (settings : Settings) (marks : Marks) (s : Select) (result : Result (List Piece) PlanError) (fault : PlanFault) (o : Outcome)
    → ShowsEach k → settings ≡ store_settings k → marks ≡ store_marks k → IsPlanFor settings marks s.query result → result ≡ Err (errors.Fault fault)
    → o ≡ Fault (plan_fault_text fault) → OfEachHistory k (λ opening h. IsExplained opening h s o)
explained_fault k settings marks s result fault o shows st mt p is e opening h stands =
    subst (IsExplained opening h s) (sym e) (explaining.unplanned fault (plan_carried k settings marks opening h s result (Err (errors.Fault fault)) shows stands st mt is p))

-- a plan that is valid has no fault
pub plan_faultless : (k : StoreData) (settings : Settings) (marks : Marks) (s : Select) (ps : List Piece) (result : Result Plan CheckError) (e : CheckError) (f : CheckFault)
    → settings ≡ store_settings k → marks ≡ store_marks k → IsValid (store_settings k) (store_marks k) s.query ps
    → IsCheckOf (record { settings = settings; marks = marks; select = s; pieces = ps }) result → result ≡ Err e → e ≡ checks.Fault f → ⊥
plan_faultless k settings marks s ps result e f st mt serves said is kind =
    let p : Plan = record { settings = settings; marks = marks; select = s; pieces = ps } in
    let refused : IsCheckOf p (Err (checks.Fault f)) = subst (IsCheckOf p) (is ∙ ap Err kind) said in
    let still : IsValid settings marks s.query ps =
    subst (λ (m : Marks). IsValid settings m s.query ps) (sym mt) (subst (λ (t : Settings). IsValid t (store_marks k) s.query ps) (sym st) serves) in
    refused.1 still

-- ---- by pieces that are handed in

pub checked_rows : (k : StoreData) (settings : Settings) (marks : Marks) (s : Select) (ps : List Piece) (result : Result Plan CheckError) (plan : Plan) (o : Outcome)
    → ShowsEach k → settings ≡ store_settings k → marks ≡ store_marks k
    → IsCheckOf (record { settings = settings; marks = marks; select = s; pieces = ps }) result → result ≡ Ok plan
    → OfEachHistory k (λ opening h. o ≡ rows_over (latest_of h) plan.select) → OfEachHistory k (λ opening h. IsChecked opening h ps s o)
checked_rows k settings marks s ps result plan o shows st mt said is e opening h stands =
    let p : Plan = record { settings = settings; marks = marks; select = s; pieces = ps } in
    let yes : IsCheckOf p (Ok plan) = subst (IsCheckOf p) is said in
    let select : plan.select ≡ s = ap (λ (x : Plan). x.select) yes.0 in
    let rows : o ≡ rows_over (latest_of h) s = e opening h stands ∙ ap (rows_over (latest_of h)) select in
    subst (IsChecked opening h ps s) (sym rows) (valid (carried (λ t m. IsValid t m s.query ps) k settings marks opening h shows stands st mt yes.1))

pub checked_fault : (k : StoreData) (settings : Settings) (marks : Marks) (s : Select) (ps : List Piece) (result : Result Plan CheckError) (f : CheckFault) (o : Outcome)
    → ShowsEach k → settings ≡ store_settings k → marks ≡ store_marks k
    → IsCheckOf (record { settings = settings; marks = marks; select = s; pieces = ps }) result → result ≡ Err (checks.Fault f)
    → o ≡ Fault (check_fault_text f) → OfEachHistory k (λ opening h. IsChecked opening h ps s o)
checked_fault k settings marks s ps result f o shows st mt said is e opening h stands =
    let p : Plan = record { settings = settings; marks = marks; select = s; pieces = ps } in
    let refused : IsCheckOf p (Err (checks.Fault f)) = subst (IsCheckOf p) is said in
    subst (IsChecked opening h ps s) (sym e) (invalid f (carried (λ t m. first_fault t m s.query ps ≡ Some (f.kind, f.piece)) k settings marks opening h shows stands st mt refused.0))

pub certificate_fault : (k : StoreData) (text : Text) (s : Select) (f : CertificateFault) (o : Outcome)
    → IsFirstBadLine text f.at → o ≡ Fault (certificate_fault_text f) → OfEachHistory k (λ opening h. IsCertified opening h text s o)
certificate_fault k text s f o first e opening h stands = subst (IsCertified opening h text s) (sym e) (misspelled f first)
