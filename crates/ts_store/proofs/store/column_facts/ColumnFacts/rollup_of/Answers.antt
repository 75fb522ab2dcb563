use Rattle.std.proofs.Common.{◌≡◌, ◌∙◌, ◌<◌, ◌++◌, ℕ, ℤ, pos, ◌≤ℤ◌, List, [], ◌∷◌, length, Option, option_to_list, ap, sym, subst, arith}
use Rattle.std.specs.List.{AllByRecursion}
use Rattle.ts_core.specs.settings.Settings.{Rule}
use Rattle.ts_raw.specs.Columns.{ColumnState}
use Rattle.ts_raw.specs.Indexed.{Indexed}
use Rattle.ts_store.specs.store.ColumnStates.{StoreContent}
use Rattle.ts_store.specs.read.PointsRead.{number_of_points}
use Rattle.ts_store.specs.rules.RuleRollups.{IsRollupOf}
use Rattle.ts_store.specs.rollup.Rollups.{RollupState, cells_of}
use Rattle.ts_store.specs.retain.RollupSteps.{with_all_grid_cells}
use Rattle.ts_store.proofs.store.ColumnsLemmas.{its_points, written_back}
use Rattle.ts_store.proofs.write.PointsPut.{wide_still}
use Rattle.ts_store.proofs.rules.RuleRollupLemmas.{alone, alone_wide, alone_made}
use Rattle.ts_store.specs.rollup.PointsFilled.{MakeAllPoints, AddAllPoints}
use Rattle.ts_store.proofs.store.column_facts.ColumnFacts.rollup_of.Goals as goal

wide_rule : (r : Rule) (rs : List Rule) → rs ≡ r ∷ [] → pos 1 ≤ℤ r.interval → AllByRecursion (λ (q : Rule). pos 1 ≤ℤ q.interval) rs
wide_rule r rs e w = subst (AllByRecursion (λ (q : Rule). pos 1 ≤ℤ q.interval)) (sym e) (w, tt)

pub make_all_cells-requires-clause-intervals : goal.make_all_cells-requires-clause-intervals
make_all_cells-requires-clause-intervals g c = wide_rule c.args.rule.now _ (c.as_slice-one_rule.ensures.value ∙ c.in_ok-rules.ensures ∙ ap (λ (q : Rule). q ∷ []) c.in_ok-try_clone.ensures) c.requires.interval

pub make_all_cells-requires-clause-each : goal.make_all_cells-requires-clause-each
make_all_cells-requires-clause-each g c =
    let lent : length c.as_slice-columns.result.now ≡ length c.self.inside.columns.items = ap (λ (xs : List ColumnState). length xs) c.as_slice-columns.ensures.value in
    alone_wide (length c.as_slice-columns.result.now) c.in_ok-rollup_over.field-0 c.as_mut_slice-one_rollup.result.now (c.as_mut_slice-one_rollup.ensures.value ∙ c.in_ok-rollups.ensures)
    (c.in_ok-rollup_over.ensures.many ∙ sym c.self.invariant.each ∙ sym lent)

pub add_all_points-requires-clause-intervals : goal.add_all_points-requires-clause-intervals
add_all_points-requires-clause-intervals g c = wide_rule c.args.rule.now _ (c.as_slice-one_rule.ensures.value ∙ c.in_ok-rules.ensures ∙ ap (λ (q : Rule). q ∷ []) c.in_ok-try_clone.ensures) c.requires.interval

pub add_all_points-requires-clause-rules : goal.add_all_points-requires-clause-rules
add_all_points-requires-clause-rules g c =
    c.make_all_cells.auto.rollups ∙ ap length (c.as_mut_slice-one_rollup.ensures.value ∙ c.in_ok-rollups.ensures) ∙ sym (ap length (c.as_slice-one_rule.ensures.value ∙ c.in_ok-rules.ensures))

pub add_all_points-requires-clause-each : goal.add_all_points-requires-clause-each
add_all_points-requires-clause-each g c =
    let us : List RollupState = c.in_ok-rollups.rollups.items in
    let vs : List RollupState = c.make_all_cells.new.rollups in
    let n : ℕ = length c.as_slice-columns.result.now in
    let lent : n ≡ length c.self.inside.columns.items = ap (λ (xs : List ColumnState). length xs) c.as_slice-columns.ensures.value in
    let kept : vs ≡ with_all_grid_cells (cells_of vs) us = subst (λ (xs : List RollupState). vs ≡ with_all_grid_cells (cells_of vs) xs) c.as_mut_slice-one_rollup.ensures.value c.make_all_cells.ensures.kept in
    wide_still n us vs kept (alone_wide n c.in_ok-rollup_over.field-0 us c.in_ok-rollups.ensures (c.in_ok-rollup_over.ensures.many ∙ sym c.self.invariant.each ∙ sym lent))

pub add_all_points-requires-clause-few : goal.add_all_points-requires-clause-few
add_all_points-requires-clause-few g c =
    let all = its_points _ _ _ _ c.self.invariant c.self.view_is in
    let lent = ap number_of_points c.as_slice-columns.ensures.value in
    omega (arith, all, lent, c.requires.few)

pub unwrap-requires : goal.unwrap-requires
unwrap-requires g c =
    let counted = c.in_ok-rollups.rollups.ok.0 in
    let one : length c.in_ok-rollups.rollups.items ≡ 1 = ap (λ (xs : List RollupState). length xs) c.in_ok-rollups.ensures in
    c.pop.ensures.variant.1 (let some : 0 < c.in_ok-rollups.rollups.len = omega (arith, counted, one) in some)

pub returns : goal.returns
returns g c =
    let r : Rule = c.args.rule.now in
    let low : ℤ = c.args.low.now in
    let index : Indexed = c.self.inside.index in
    let ss : List ColumnState = c.self.inside.columns.items in
    let s : RollupState = c.in_ok-rollup_over.field-0 in
    let vs : List RollupState = c.make_all_cells.new.rollups in
    let ws : List RollupState = c.add_all_points.new.rollups in
    let t : RollupState = c.unwrap.result in
    let one_rule : c.as_slice-one_rule.result.now ≡ r ∷ [] = c.as_slice-one_rule.ensures.value ∙ c.in_ok-rules.ensures ∙ ap (λ (q : Rule). q ∷ []) c.in_ok-try_clone.ensures in
    let one_low : c.from_ref.result.now ≡ low ∷ [] = c.from_ref.ensures.value in
    let begins : c.as_mut_slice-one_rollup.result.now ≡ s ∷ [] = c.as_mut_slice-one_rollup.ensures.value ∙ c.in_ok-rollups.ensures in
    let lent : c.as_slice-columns.result.now ≡ ss = c.as_slice-columns.ensures.value in
    let one : vs ≡ with_all_grid_cells (cells_of vs) (s ∷ []) = subst (λ (xs : List RollupState). vs ≡ with_all_grid_cells (cells_of vs) xs) begins c.make_all_cells.ensures.kept in
    let make : MakeAllPoints (r ∷ []) (low ∷ []) ss (s ∷ []) vs =
    subst (λ (qs : List Rule). MakeAllPoints qs (low ∷ []) ss (s ∷ []) vs) one_rule
    (subst (λ (ls : List ℤ). MakeAllPoints c.as_slice-one_rule.result.now ls ss (s ∷ []) vs) one_low
    (subst (λ (xs : List ColumnState). MakeAllPoints c.as_slice-one_rule.result.now c.from_ref.result.now xs (s ∷ []) vs) lent
    (subst (λ (xs : List RollupState). MakeAllPoints c.as_slice-one_rule.result.now c.from_ref.result.now c.as_slice-columns.result.now xs vs) begins c.in_ok-make_all_cells.ensures.cells))) in
    let add : AddAllPoints (r ∷ []) ss vs ws = subst (λ (qs : List Rule). AddAllPoints qs ss vs ws) one_rule (subst (λ (xs : List ColumnState). AddAllPoints c.as_slice-one_rule.result.now xs vs ws) lent c.add_all_points.ensures.live) in
    let same : length ws ≡ length c.as_mut_slice-one_rollup.result.now = c.add_all_points.auto.rollups ∙ c.make_all_cells.auto.rollups in
    let many : length ws ≡ 1 = same ∙ ap length begins in
    let last : ws ≡ c.pop.new.self.items ++ t ∷ [] =
    sym (written_back c.in_ok-rollups.rollups _ ws same c.as_mut_slice-one_rollup.ensures.value) ∙ c.pop.ensures.items ∙ ap (λ (o : Option RollupState). c.pop.new.self.items ++ option_to_list o) c.unwrap.ensures in
    subst (λ (h : StoreContent). IsRollupOf h r low t) c.self.view_is
    (alone_made index ss c.self.inside.rollups.items r low s t vs ws c.self.invariant c.in_ok-rollup_over.ensures one c.add_all_points.ensures.kept make c.add_all_points.ensures.frozen add (alone ws c.pop.new.self.items t many last))

pub make_all_cells-requires-clause-rules : goal.make_all_cells-requires-clause-rules
make_all_cells-requires-clause-rules g c = ap length (c.as_mut_slice-one_rollup.ensures.value ∙ c.in_ok-rollups.ensures) ∙ sym (ap length (c.as_slice-one_rule.ensures.value ∙ c.in_ok-rules.ensures))

pub make_all_cells-requires-clause-lows : goal.make_all_cells-requires-clause-lows
make_all_cells-requires-clause-lows g c = ap length c.from_ref.ensures.value ∙ sym (ap length (c.as_slice-one_rule.ensures.value ∙ c.in_ok-rules.ensures))
