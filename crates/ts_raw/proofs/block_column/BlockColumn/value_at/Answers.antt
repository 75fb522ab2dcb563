use Rattle.std.proofs.Common.{rules, ◌≡◌, ◌+ℤ◌, ℤ, pos, List, [], filter, None, Some, sym, ap, ◌∙◌, SFits, w64, to_z, of_z, to_z-of_z, refl}
use Rattle.std.specs.FinMap as map
use Rattle.std.specs.FinMap.{get-entries}
use Rattle.ts_core.specs.facts.Facts.{is_within}
use Rattle.ts_raw.proofs.ColumnBlocks.{none_at, value_first}
use Rattle.ts_raw.proofs.block_column.BlockColumn.value_at.Given.{Over}
use Rattle.ts_raw.proofs.block_column.BlockColumn.value_at.Goals.{After-step}
use Rattle.ts_raw.proofs.block_column.BlockColumn.value_at.Goals as goal

there : (g : Over) (c : After-step g) → c.window.result ≡ filter (λ (p : ℤ × ℤ). is_within c.args.time (c.args.time +ℤ pos 1) p.0) (map.entries c.args.self.now.points)
there g c =
    let points : List (ℤ × ℤ) = map.entries c.args.self.now.points in
    let from_fits : SFits w64 c.nanos-nanos.result = search rules in
    let to_fits : SFits w64 (c.nanos-nanos.result +ℤ pos 1) = search rules in
    c.window.ensures.points
    ∙ (λ i. filter (λ (p : ℤ × ℤ). is_within (to_z-of_z from_fits i) (to_z w64 (of_z w64 (to_z-of_z from_fits i +ℤ pos 1))) p.0) points)
    ∙ (λ i. filter (λ (p : ℤ × ℤ). is_within c.nanos-nanos.result (to_z-of_z to_fits i) p.0) points)
    ∙ ap (λ z. filter (λ (p : ℤ × ℤ). is_within z (z +ℤ pos 1) p.0) points) c.nanos-nanos.ensures.value

pub returns-then-ends_before : goal.returns-then-ends_before
returns-then-ends_before g c =
    let points : List (ℤ × ℤ) = map.entries c.args.self.now.points in
    sym (get-entries c.args.self.now.points c.args.time ∙ none_at c.args.time points (c.ends_before.ensures c.if-ends_before.true))

pub returns-in_err-value : goal.returns-in_err-value
returns-in_err-value g c =
    let at = (goal.at.returns-in_err-value g c).After-step in
    let points : List (ℤ × ℤ) = map.entries c.args.self.now.points in
    c.from_residual.ensures ∙ sym (get-entries c.args.self.now.points c.args.time ∙ value_first c.args.time points [] None (sym (there g at) ∙ c.in_err-value.ensures.0, refl))

pub returns : goal.returns
returns g c =
    let at = (goal.at.returns g c).After-step in
    let points : List (ℤ × ℤ) = map.entries c.args.self.now.points in
    let fits : SFits w64 c.in_ok-value.value = search rules in
    ap Some (to_z-of_z fits)
    ∙ sym (get-entries c.args.self.now.points c.args.time ∙ value_first c.args.time points c.step.new.self (Some (c.in_ok-value.field-0-0, c.in_ok-value.value)) (sym (there g at) ∙ c.in_ok-value.ensures))
