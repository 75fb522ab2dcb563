-- Counts: by a plan over a store, and of the query that counts in one bucket.
use Rattle.std.proofs.Common.{◌≡◌, ◌∙◌, ℕ, ℤ, ◌-ℤ◌, List, length, filter, Bool, true, false, ◌&&◌, refl, ap, subst, Result, Ok, Err}
use Rattle.ts_core.specs.facts.Facts.{Text, Fact, is_of, is_within, is_asked}
use Rattle.ts_core.specs.facts.Latest.{latest_of}
use Rattle.ts_core.specs.plans.Pieces.{Piece}
use Rattle.ts_core.specs.queries.Queries.{Query, matches}
use Rattle.ts_core.specs.settings.Settings.{Settings}
use Rattle.ts_core.specs.store.History.{History}
use Rattle.ts_core.specs.store.Marks.{Marks}
use Rattle.ts_core.specs.store.StoreData.{StoreData, state_of, OfEachHistory, ShowsEach, store_settings, store_marks}
use Rattle.ts_core.specs.store.Views.{view_state_of}
use Rattle.ts_core.proofs.queries.AnswersLaws.{filter_same}
use Rattle.ts_check.specs.Checks.{Plan}
use Rattle.ts_exec.specs.Executions.{IsPointCount}
use Rattle.ts_plan.specs.Planning.{IsPlanFor}
use Rattle.ts_plan.specs.declared.fault.PlanError.{PlanError}
use Rattle.ts_plan.specs.declared.fault.PlanError.TheVariants as plans
use Rattle.ts_plan.specs.declared.fault.PlanFault.{PlanFault}
use Rattle.ts_ql.specs.Counting.{count_select, IsInterval, IsCountQuery}
use Rattle.ts_ql.specs.Selects.{Select}
use Rattle.ts_ql.specs.declared.fault.ParseError.{ParseError}
use Rattle.ts_ql.specs.declared.fault.ParseError.TheVariants as parse
use Rattle.ts_ql.specs.declared.fault.QlFault.{QlFault}
use Rattle.ts_reply.specs.Counts.{IsCount, IsCounted}
use Rattle.ts_reply.specs.declared.counting.CountError.{CountError}
use Rattle.ts_reply.specs.declared.counting.CountError.TheVariants as errors
use Rattle.ts_reply.proofs.Answered.{carried}

-- ---- the facts that match the counting query

asked_same : (a w : Bool) → ((a && true) && w) ≡ (a && w)
asked_same true w = refl
asked_same false w = refl

matching_asked : (m f : Text) (a b : ℤ) (facts : List Fact) → length (filter (matches (count_select m f a b).query) facts) ≡ length (filter (is_asked m f a b) facts)
matching_asked m f a b facts =
    ap (λ (fs : List Fact). length fs) (filter_same (matches (count_select m f a b).query) (is_asked m f a b) (λ x. asked_same (is_of m f x.column) (is_within a b x.time)) facts)

-- ---- by a plan

-- a valid plan counts the facts that match, of all ever accepted
pub count_shown : (k : StoreData) (s : Select) (plan : Plan) (n : ℕ)
    → ShowsEach k → plan.select ≡ s → IsPointCount (view_state_of (state_of k)) plan n
    → OfEachHistory k (λ opening h. n ≡ length (filter (matches s.query) (latest_of h)))
count_shown k s plan n shows e is opening h stands =
    is.answer opening h (shows opening h stands) ∙ ap (λ (x : Select). length (filter (matches x.query) (latest_of h))) e

pub was_counted : (k : StoreData) (settings : Settings) (marks : Marks) (q : Query) (r : Result (List Piece) PlanError) (plan : List Piece) (n : ℕ)
    → ShowsEach k → settings ≡ store_settings k → marks ≡ store_marks k → IsPlanFor settings marks q r → r ≡ Ok plan
    → OfEachHistory k (λ opening h. n ≡ length (filter (matches q) (latest_of h))) → OfEachHistory k (λ opening h. IsCounted opening h q (Ok n))
was_counted k settings marks q r plan n shows st mt p is e opening h stands =
    let planned = carried (λ t m. IsPlanFor t m q (Ok plan)) k settings marks opening h shows stands st mt (subst (IsPlanFor settings marks q) is p) in
    ((plan, planned), e opening h stands)

pub was_refused : (k : StoreData) (settings : Settings) (marks : Marks) (q : Query) (r : Result (List Piece) PlanError) (fault : PlanFault)
    → ShowsEach k → settings ≡ store_settings k → marks ≡ store_marks k → IsPlanFor settings marks q r → r ≡ Err (plans.Fault fault)
    → OfEachHistory k (λ opening h. IsCounted opening h q (Err (errors.NoPlan fault)))
was_refused k settings marks q r fault shows st mt p is opening h stands =
    carried (λ t m. IsPlanFor t m q (Err (plans.Fault fault))) k settings marks opening h shows stands st mt (subst (IsPlanFor settings marks q) is p)

-- ---- the result

-- a range that is too long for an interval
pub count_refused : (opening : Settings) (h : History) (m f : Text) (a b : ℤ) (r : Result Select ParseError) (fault : QlFault)
    → IsCountQuery m f a b r → r ≡ Err (parse.Fault fault) → IsCount opening h m f a b (Err errors.BadRange)
count_refused opening h m f a b r fault p e = (subst (IsCountQuery m f a b) e p).1

-- out of memory for the query
pub count_stopped : (opening : Settings) (h : History) (m f : Text) (a b : ℤ) (r : Result Select ParseError)
    → IsCountQuery m f a b r → r ≡ Err parse.OutOfMemory → IsCount opening h m f a b (Err errors.OutOfMemory)
count_stopped opening h m f a b r p e = subst (IsCountQuery m f a b) e p

counted_asked : (opening : Settings) (h : History) (m f : Text) (a b : ℤ) (r : Result ℕ CountError) → IsInterval (b -ℤ a) → IsCounted opening h (count_select m f a b).query r → IsCount opening h m f a b r
counted_asked opening h m f a b (Ok n) fits c = ((c.0.0, (fits, c.0.1)), c.1 ∙ matching_asked m f a b (latest_of h))
counted_asked opening h m f a b (Err errors.BadRange) fits c = absurd c
counted_asked opening h m f a b (Err (errors.NoPlan fault)) fits c = (fits, c)
counted_asked opening h m f a b (Err errors.OutOfMemory) fits c = fits

pub count_given : (opening : Settings) (h : History) (m f : Text) (a b : ℤ) (r : Result Select ParseError) (s : Select) (n : Result ℕ CountError)
    → IsCountQuery m f a b r → r ≡ Ok s → IsCounted opening h s.query n → IsCount opening h m f a b n
count_given opening h m f a b r s n p e c =
    let q = subst (IsCountQuery m f a b) e p in
    counted_asked opening h m f a b n q.1 (subst (λ (x : Select). IsCounted opening h x.query n) q.0 c)
