use Rattle.std.proofs.Common.{◌≡◌, ◌+◌, ℕ, List, [], ◌∷◌, length, map, drop, get_or, sym, ap, subst, ◌∙◌, arith}
use Rattle.std.specs.Int.{w64}
use Rattle.std.specs.List.{AllByRecursion}
use Rattle.std.proofs.lemmas.List.{length-map, drop_more, drop_all}
use Rattle.std.proofs.lemmas.Option.{slice_get_read, same_Some}
use Rattle.std.proofs.lemmas.Result.{err_from_is_err_and}
use Rattle.ts_core.specs.settings.Settings.{Rule, Settings}
use Rattle.ts_core.specs.store.StoreData.{RuleData, StoreData, store_settings}
use Rattle.ts_core.proofs.lists.Indices.{item_at}
use Rattle.ts_core.proofs.lists.MembersLemmas.{at_map_of}
use Rattle.ts_core.proofs.lists.NumberedLemmas.{at_among}
use Rattle.ts_core.proofs.lists.Permutations.{pick}
use Rattle.ts_store.specs.image.SavedContent.{FrozenCell, frozen_from}
use Rattle.ts_image.proofs.SavedOf.{saved-length, saved_at}
use Rattle.ts_image.specs.Formats.{Format, list_of}
use Rattle.ts_image.specs.Images.{ImageRule, ImageCell, image_cell}
use Rattle.ts_image.specs.SavedParts.{image_rule_of}
use Rattle.ts_image.specs.Saving.{image_cell_of, saved_cells, FitsCell}
use Rattle.ts_image.proofs.Putting.{along_none, along_more, along_stops}
use Rattle.ts_image.proofs.write.store_cells.put_all_cells.Goals as goal

abbrev cells_format : ImageRule → Format (List ImageCell)
cells_format r = list_of w64 (image_cell r)

pub put_rule_cells-requires-clause-fit : goal.put_rule_cells-requires-clause-fit
put_rule_cells-requires-clause-fit g c =
    let k : StoreData = c.args.store.now in
    let n : ℕ = c.loop-number.number in
    let r : Rule = c.index-rules-number.result in
    let same : c.rules-rules.result.now ≡ (store_settings k).rules = c.rules-rules.ensures.value ∙ ap (λ (s : Settings). s.rules) c.settings.ensures.value in
    let many = ap length c.requires.counts ∙ length-map (saved_cells k) length in
    let each : length c.args.counts.now ≡ length k.rules = many ∙ saved-length k in
    let its = item_at k.rules n (omega (arith, each)) in
    let rule : its.0.rule ≡ r =
    same_Some its.0.rule r (sym (at_map_of (λ (x : RuleData). x.rule) k.rules n its.0 its.1)
    ∙ slice_get_read (store_settings k).rules (length c.args.counts.now) n r (each ∙ sym (length-map k.rules (λ (x : RuleData). x.rule))) c.loop-number-test.true (c.index-rules-number.is ∙ ap (λ (xs : List Rule). get_or xs n r) same)) in
    let fit = pick (λ (x : RuleData). AllByRecursion (FitsCell x.rule) (frozen_from x.low x.cells)) its.0 k.rules c.requires.fit (at_among k.rules n its.0 its.1) in
    subst (λ (cs : List FrozenCell). AllByRecursion (FitsCell r) cs) (sym (saved_at k n its.0 its.1)) (subst (λ (x : Rule). AllByRecursion (FitsCell x) (frozen_from its.0.low its.0.cells)) rule fit)

pub returns-in_err-put_rule_cells : goal.returns-in_err-put_rule_cells
returns-in_err-put_rule_cells g c =
    let k : StoreData = c.args.store.now in
    let n : ℕ = c.loop-number.number in
    let rs : List Rule = c.rules-rules.result.now in
    let same : rs ≡ (store_settings k).rules = c.rules-rules.ensures.value ∙ ap (λ (s : Settings). s.rules) c.settings.ensures.value in
    let each : length c.args.counts.now ≡ length rs = (ap length c.requires.counts ∙ length-map (saved_cells k) length ∙ saved-length k ∙ sym (length-map k.rules (λ (x : RuleData). x.rule))) ∙ sym (ap length same) in
    let many = ap length c.requires.counts ∙ length-map (saved_cells k) length in
    let here : drop n rs ≡ c.index-rules-number.result ∷ drop (n + 1) rs = drop_more rs n c.index-rules-number.result (omega (arith, each)) ∙ ap (λ (x : Rule). x ∷ drop (n + 1) rs) (sym c.index-rules-number.is) in
    let p = err_from_is_err_and c.from_residual.result c.from_residual.ensures.1 in
    rw (p.1, ← same) (c.loop-number.invariant _ _ _ (rw (here, drop_more (saved_cells k) n [] (omega (arith, many))) (along_stops cells_format (image_rule_of c.index-rules-number.result) (map image_rule_of (drop (n + 1) rs)) (map (map image_cell_of) (drop (n + 1) (saved_cells k))) _ c.in_err-put_rule_cells.ensures)))

pub loop-number-preserved : goal.loop-number-preserved
loop-number-preserved g c =
    let k : StoreData = c.args.store.now in
    let n : ℕ = c.loop-number.number in
    let rs : List Rule = c.rules-rules.result.now in
    let same : rs ≡ (store_settings k).rules = c.rules-rules.ensures.value ∙ ap (λ (s : Settings). s.rules) c.settings.ensures.value in
    let each : length c.args.counts.now ≡ length rs = (ap length c.requires.counts ∙ length-map (saved_cells k) length ∙ saved-length k ∙ sym (length-map k.rules (λ (x : RuleData). x.rule))) ∙ sym (ap length same) in
    let many = ap length c.requires.counts ∙ length-map (saved_cells k) length in
    let here : drop n rs ≡ c.index-rules-number.result ∷ drop (n + 1) rs = drop_more rs n c.index-rules-number.result (omega (arith, each)) ∙ ap (λ (x : Rule). x ∷ drop (n + 1) rs) (sym c.index-rules-number.is) in
    λ r sink out h. c.loop-number.invariant r sink out (rw (here, drop_more (saved_cells k) n [] (omega (arith, many))) (along_more cells_format (image_rule_of c.index-rules-number.result) (map image_rule_of (drop (n + 1) rs)) c.in_ok-put_rule_cells.ensures h))

pub returns : goal.returns
returns g c =
    let k : StoreData = c.args.store.now in
    let rs : List Rule = c.rules-rules.result.now in
    let same : rs ≡ (store_settings k).rules = c.rules-rules.ensures.value ∙ ap (λ (s : Settings). s.rules) c.settings.ensures.value in
    let each : length c.args.counts.now ≡ length rs = (ap length c.requires.counts ∙ length-map (saved_cells k) length ∙ saved-length k ∙ sym (length-map k.rules (λ (x : RuleData). x.rule))) ∙ sym (ap length same) in
    let many = ap length c.requires.counts ∙ length-map (saved_cells k) length in
    rw (← same) (c.loop-number.invariant _ _ _ (rw (drop_all c.loop-number.number rs (omega (arith, each)), drop_all c.loop-number.number (saved_cells k) (omega (arith, many))) (along_none cells_format c.loop-number.sink c.loop-number.out)))
