use Rattle.std.proofs.Common.{[], ◌∷◌, ◌++◌, length, map, ap, sym, ◌∙◌, arith}
use Rattle.std.proofs.lemmas.List.{length-map, map_more, take_all}
use Rattle.ts_core.specs.settings.Settings.{Settings}
use Rattle.ts_core.specs.store.StoreData.{RuleData}
use Rattle.ts_image.specs.Saving.{saved_cells}
use Rattle.ts_image.proofs.SavedOf.{saved-length}
use Rattle.ts_image.proofs.write.store_cells.count_all_cells.Goals as goal

pub loop-number-init : goal.loop-number-init
loop-number-init g c = record {
  each = ap length (c.rules-rules.ensures.value ∙ ap (λ (s : Settings). s.rules) c.settings.ensures.value) ∙ length-map c.args.store.now.rules (λ (x : RuleData). x.rule) ∙ sym (saved-length c.args.store.now);
  counted = c.in_ok-counts.ensures.items;
}

pub loop-number-preserved : goal.loop-number-preserved
loop-number-preserved g c = record {
  each = c.loop-number.invariant.each;
  counted = c.in_ok-push.ensures.items ∙ (λ i. c.loop-number.invariant.counted i ++ c.in_ok-count_cells.ensures i ∷ []) ∙ sym (map_more length (saved_cells c.args.store.now) c.loop-number.number [] (omega arith));
}

pub returns : goal.returns
returns g c = c.loop-number.invariant.counted ∙ ap (map length) (take_all c.loop-number.number (saved_cells c.args.store.now) (omega arith))
