use Rattle.std.proofs.Common.{◌∙◌, ◌++◌, ap, List, ℕ, arith}
use Rattle.tsdb.proofs.SettingsShownLemmas.{units_shown}
use Rattle.tsdb.proofs.duration_text.duration_text.Goals as goal

pub returns : goal.returns
returns c =
    let unit = c.unit_of-length in
    units_shown c.args.nanos unit.result.0 unit.result.1.now _ unit.ensures.divides.0 unit.ensures.divides.1 (omega (arith, c.ranges.nanos)) unit.ensures.unit
    (c.in_ok-push_str-2.ensures.bytes ∙ ap (λ (t : List ℕ). t ++ unit.result.1.now) (c.in_ok-push_str.ensures.bytes ∙ ap (λ (t : List ℕ). t ++ c.format.result.now) c.new-text.ensures.bytes ∙ c.format.ensures.text))
