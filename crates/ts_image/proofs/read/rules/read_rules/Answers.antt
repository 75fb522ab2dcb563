use Rattle.std.proofs.Common.{◌≡◌, ◌-◌, [], ◌∷◌, ◌++◌, map, ap, arith, refl}
use Rattle.ts_image.specs.RuleParts.{rule_from_parts, rules_of_parts}
use Rattle.ts_image.specs.Images.{image_rule}
use Rattle.std.proofs.lemmas.Result.{err_from_is_err_and}
use Rattle.std.proofs.lemmas.List.{map_push}
use Rattle.ts_core.proofs.lists.Remaining.{one_left}
use Rattle.ts_image.proofs.Loops.{starts, goes_on, breaks, no_memory_left, finishes}
use Rattle.ts_image.proofs.read.rules.read_rules.Goals as goal

pub loop-init : goal.loop-init
loop-init g c = starts image_rule c.args.count c.args.reader.now c.args.source.now (c.args.count - 0) (map rule_from_parts c.new-rules.result.items) (omega arith) (ap (map rule_from_parts) c.new-rules.ensures.items) c.requires

pub returns-in_err-rule : goal.returns-in_err-rule
returns-in_err-rule g c =
    let p = err_from_is_err_and c.from_residual.result c.from_residual.ensures.1 in
    rw (p.1, p.2) (breaks image_rule c.args.count c.args.reader.now c.args.source.now rule_from_parts _ _ (one_left c.args.count c.loop.counter c.loop-test.true) (map rule_from_parts c.loop.rules.items) c.loop.reader c.read_rule.new.reader c.loop.source c.read_rule.new.source c.loop.invariant rules_of_parts c.in_err-rule.field-0.0 c.in_err-rule.ensures)

pub returns-in_err-push : goal.returns-in_err-push
returns-in_err-push g c =
    let p = err_from_is_err_and c.from_residual-in_err-push.result c.from_residual-in_err-push.ensures.1 in
    rw (p.1, p.2) (no_memory_left image_rule c.args.count c.args.reader.now c.args.source.now rule_from_parts _ _ (one_left c.args.count c.loop.counter c.loop-test.true) (map rule_from_parts c.loop.rules.items) c.loop.reader c.read_rule.new.reader c.loop.source c.read_rule.new.source c.loop.invariant rules_of_parts c.in_ok-rule.rule c.in_ok-rule.ensures)

pub loop-preserved : goal.loop-preserved
loop-preserved g c =
    let pushed : map rule_from_parts c.push.new.self.items ≡ map rule_from_parts c.loop.rules.items ++ rule_from_parts c.in_ok-rule.rule ∷ [] = rw c.in_ok-push.ensures.items (map_push _ c.loop.rules.items c.in_ok-rule.rule) in
    goes_on image_rule c.args.count c.args.reader.now c.args.source.now rule_from_parts _ _ (one_left c.args.count c.loop.counter c.loop-test.true) (map rule_from_parts c.loop.rules.items) c.loop.reader c.read_rule.new.reader c.loop.source c.read_rule.new.source c.loop.invariant c.in_ok-rule.rule _ pushed c.in_ok-rule.ensures

pub returns : goal.returns
returns g c = finishes image_rule c.args.count c.args.reader.now c.args.source.now (c.args.count - c.loop.counter) (omega arith) (map rule_from_parts c.loop.rules.items) c.loop.reader c.loop.source rules_of_parts c.loop.rules c.loop.invariant refl
