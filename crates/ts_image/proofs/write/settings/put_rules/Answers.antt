use Rattle.ts_core.specs.settings.Settings.{AreKeptTags}
use Rattle.ts_image.proofs.Saved.{all_at}
use Rattle.ts_image.specs.SavedParts.{image_rule_of}
use Rattle.ts_image.specs.Images.{image_rule}
use Rattle.std.proofs.lemmas.Result.{err_from_is_err_and}
use Rattle.ts_image.proofs.Putting.{loop_more, loop_stops}
use Rattle.ts_image.proofs.write.settings.put_rules.Goals as goal

pub returns-in_err-put_rule : goal.returns-in_err-put_rule
returns-in_err-put_rule g c =
    let p = err_from_is_err_and c.from_residual.result c.from_residual.ensures.1 in
    rw p.1 (loop_stops image_rule image_rule_of c.args.sink.now c.args.out.now c.args.rules.now c.loop-rule.rule-index c.rule-item.result c.loop-rule.sink c.put_rule.new.sink c.loop-rule.out c.put_rule.new.out _ _ c.loop-rule-test.true c.rule-item.is c.loop-rule.invariant c.in_err-put_rule.ensures)

pub loop-rule-preserved : goal.loop-rule-preserved
loop-rule-preserved g c =
    loop_more image_rule image_rule_of c.args.sink.now c.args.out.now c.args.rules.now c.loop-rule.rule-index c.rule-item.result c.loop-rule.sink c.put_rule.new.sink c.loop-rule.out c.put_rule.new.out c.loop-rule-test.true c.rule-item.is c.loop-rule.invariant c.in_ok-put_rule.ensures

pub put_rule-requires : goal.put_rule-requires
put_rule-requires g c = all_at (λ r. AreKeptTags r.kept_tags) c.args.rules.now c.loop-rule.rule-index c.rule-item.result c.loop-rule-test.true c.rule-item.is c.requires
