-- Single buckets as steps of a walk, and the steps that reach the end. (Own rules.)
use Rattle.std.specs.Prelude.{◌≡◌, ℕ, ◌≤◌, ℤ, ◌+ℤ◌, ◌≤ℤ◌, ◌<ℤ◌, int_le, Bool, true, false, ◌&&◌, ◌||◌, List, [], ◌∷◌, ◌++◌, map, Option, Some, None, MatchOption, slice_get, if◌then◌else◌}
use Rattle.std.specs.Ordering.{int_eq}
use Rattle.std.specs.List.{AllByRecursion, list_all}
use Rattle.ts_core.specs.lists.Members.{Among, AllDistinct}
use Rattle.ts_core.specs.facts.Facts.{Text, same_text}
use Rattle.ts_core.specs.settings.Settings.{Rule}
use Rattle.ts_core.specs.settings.SettingsFaults.{is_rule_name}
use Rattle.ts_core.specs.store.Marks.{index_of}
use Rattle.ts_core.specs.queries.Queries.{Query}
use Rattle.ts_core.specs.plans.Pieces.{Piece, MarkedRule, QueryContext, IsBoundary, tags_of, RuleServes, IsValidPiece}
use Rattle.ts_core.specs.plans.Faults.{is_aligned, is_in_one_bucket, keeps}
use Rattle.ts_core.specs.plans.Plans.{rollup_piece, raw_piece}
use Rattle.ts_core.proofs.settings.Intervals.{IsWide}
use Rattle.ts_plan.specs.declared.steps.Step.{Step}

-- each rule's name is 1 to 32 of a to z, 0 to 9 and _
abbrev pub AreNamed : List MarkedRule → Type 0
AreNamed rules = AllByRecursion (λ (r : MarkedRule). is_rule_name r.rule.name ≡ true) rules

-- intervals are at least 1 nanosecond, and rule names are distinct and have the form of names
pub record IsPlannable (t : QueryContext) : Type 0 where
  pub wide : IsWide t
  pub named : AllDistinct (map (λ (r : MarkedRule). r.rule.name) t.rules)
  pub spelled : AreNamed t.rules

-- ---- steps

-- the bucket of a rule that starts at p: a valid piece that ends within the range
pub record IsBucketAt (t : QueryContext) (r : MarkedRule) (p : ℤ) (bucket : Piece) : Type 0 where
  pub piece : bucket ≡ rollup_piece r.rule.name p (p +ℤ r.rule.interval)
  pub valid : IsValidPiece t bucket
  pub inside : bucket.to ≤ℤ t.query.to

-- the rule is of the query's measurement, and keeps all tags that the query uses
abbrev pub matches_query : Query → Rule → Bool
matches_query q r = same_text r.measurement q.measurement && list_all (keeps r) (tags_of q)

-- the bucket from a to b is still complete, and doesn't cross a bucket boundary of the query
abbrev pub is_usable : Query → MarkedRule → ℤ → ℤ → Bool
is_usable q r a b = int_le r.low (index_of r.rule a) && (is_aligned r.rule q || is_in_one_bucket q a b)

-- one bucket of a rule that is a valid piece, within the range, and starts below the raw mark
pub record IsStep (t : QueryContext) (s : Step) : Type 0 where
  pub from : t.query.from ≤ℤ s.from
  pub below : s.from <ℤ t.mark
  pub inside : s.to ≤ℤ t.query.to
  pub rule : MarkedRule
  pub there : slice_get t.rules s.rule ≡ Some rule
  pub one : s.to ≡ s.from +ℤ rule.rule.interval
  pub serves : RuleServes t.query rule s.from s.to

-- s isn't after x
pub record Upto (s x : Step) : Type 0 where
  pub from : s.from ≤ℤ x.from
  pub rule : s.from ≡ x.from → s.rule ≤ x.rule

abbrev pub Ascends : List Step → Type 0
Ascends [] = Unit {0}
Ascends (s ∷ ss) = AllByRecursion (λ (x : Step). Upto s x) ss × Ascends ss

-- ---- the steps of one rule, bucket by bucket

-- start of the rule's first bucket from a on, if that is b or earlier
abbrev pub IsFirstStart : Rule → ℤ → ℤ → Option ℤ → Type 0
IsFirstStart r a b start = MatchOption start ((x : ℤ) → IsBoundary r x → a ≤ℤ x → b <ℤ x)
    (λ p. IsBoundary r p × (a ≤ℤ p) × (p ≤ℤ b) × ((x : ℤ) → IsBoundary r x → a ≤ℤ x → p ≤ℤ x))

-- end of the bucket at p, if it is within the range
abbrev pub IsNextInstant : QueryContext → MarkedRule → ℤ → Option ℤ → Type 0
IsNextInstant t r p q =
    MatchOption q (t.query.to <ℤ (p +ℤ r.rule.interval)) (λ e. (e ≡ p +ℤ r.rule.interval) × (e ≤ℤ t.query.to))

abbrev pub step_of : ℤ → ℕ → ℤ → Step
step_of p n e = record { from = p; rule = n; to = e }

-- appends the step of rule n from p to e, if it is a valid piece
abbrev pub with_usable_step : QueryContext → MarkedRule → ℕ → ℤ → Option ℤ → List Step → List Step
with_usable_step t r n p None ss = ss
with_usable_step t r n p (Some e) ss = if is_usable t.query r p e then (ss ++ step_of p n e ∷ []) else ss

-- adds all steps of rule n, and nothing else
pub record Adds (t : QueryContext) (n : ℕ) (old new : List Step) : Type 0 where
  pub sound : AllByRecursion (IsStep t) old → AllByRecursion (IsStep t) new
  pub complete : (x : Step) → IsStep t x → x.rule ≡ n → Among x new
  pub before : (x : Step) → Among x old → Among x new

-- ---- the sweep

abbrev pub starts_at : ℤ → List Step → Bool
starts_at e [] = false
starts_at e (s ∷ ss) = int_eq s.from e || starts_at e ss

abbrev pub starts_first : ℤ → List Step → Bool
starts_first e [] = false
starts_first e (s ∷ ss) = int_eq s.from e

-- the end can be reached from e: the end itself, a time at or above the raw mark, or the start of a step
abbrev pub reaches_end : QueryContext → List Step → ℤ → Bool
reaches_end t gs e = int_eq e t.query.to || (int_le t.mark e || starts_at e gs)

abbrev pub kept_if : Bool → Step → List Step → List Step
kept_if b s gs = if b then (s ∷ gs) else gs

-- the steps, sorted, from which the end can be reached
abbrev pub pruned_steps : QueryContext → List Step → List Step
pruned_steps t [] = []
pruned_steps t (s ∷ ss) = kept_if (reaches_end t (pruned_steps t ss) s.to) s (pruned_steps t ss)

-- ---- the walk over the remaining steps

abbrev pub name_or_none : Option MarkedRule → Text
name_or_none None = []
name_or_none (Some r) = r.rule.name

abbrev pub bucket_piece : QueryContext → Step → Piece
bucket_piece t s = rollup_piece (name_or_none (slice_get t.rules s.rule)) s.from s.to

abbrev pub walked : QueryContext → ℤ → List Step → List Piece
walked t p [] = if int_eq p t.query.to then [] else (raw_piece p t.query.to ∷ [])
walked t p (g ∷ gs) = if int_eq g.from p then (bucket_piece t g ∷ walked t g.to gs) else walked t p gs
