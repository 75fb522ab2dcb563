use Rattle.std.proofs.Common.{rules, ◌≡◌, ◌∙◌, ◌≤ℤ◌, ap, pos, Some, ℤ, string_bytes}
use Rattle.std.proofs.lemmas.Result.{IfOk-weaker}
use Rattle.ts_core.specs.facts.Durations.{offset_of, span_of}
use Rattle.tsdb.proofs.SettingsShownLemmas.{positive_shown, negative_shown, none_shown, interval_shown, no_interval_shown}
use Rattle.tsdb.proofs.duration_text.offset_text.Goals as goal

pub returns-then-nanos-eq0-clause-offset : goal.returns-then-nanos-eq0-clause-offset
returns-then-nanos-eq0-clause-offset c =
    let none : pos 0 ≡ c.args.nanos = search rules in
    IfOk-weaker c.from_str.result _ _ (λ text is. ap offset_of is ∙ none_shown ∙ ap (λ (n : ℤ). Some n) none) c.from_str.ensures.ok

pub returns-then-nanos-eq0-clause-interval : goal.returns-then-nanos-eq0-clause-interval
returns-then-nanos-eq0-clause-interval c = λ least.
    let none : pos 0 ≡ c.args.nanos = search rules in
    IfOk-weaker c.from_str.result _ _ (λ text is. ap span_of is ∙ no_interval_shown ∙ ap (λ (n : ℤ). Some n) none) c.from_str.ensures.ok

pub returns-then-nanos-gt0-clause-offset : goal.returns-then-nanos-gt0-clause-offset
returns-then-nanos-gt0-clause-offset c = positive_shown (string_bytes c.in_ok-size.size) c.args.nanos c.ranges.nanos (search rules) (search rules)

pub returns-then-nanos-gt0-clause-interval : goal.returns-then-nanos-gt0-clause-interval
returns-then-nanos-gt0-clause-interval c = λ least. interval_shown (string_bytes c.in_ok-size.size) c.args.nanos c.ranges.nanos least (search rules)

pub returns-clause-offset : goal.returns-clause-offset
returns-clause-offset c = ap offset_of (search rules) ∙ negative_shown (string_bytes c.in_ok-size.size) c.args.nanos c.ranges.nanos (search rules) (search rules)

pub returns-clause-interval : goal.returns-clause-interval
returns-clause-interval c = λ least. let not : pos 0 ≤ℤ c.args.nanos → ⊥ = search rules in absurd (not least)
