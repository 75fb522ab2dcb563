use Rattle.std.proofs.Common.{rules, ◌≡◌, ℤ, int_cmp, Some, None, sym, ap, subst, ◌∙◌, option_map}
use Rattle.std.specs.Cmp.{int_cmp_total}
use Rattle.std.specs.FinMap as map
use Rattle.ts_core.specs.facts.Times.{IsTime}
use Rattle.ts_raw.specs.BlockColumns.{IsStagedIfAny}
use Rattle.ts_raw.specs.CodedBlocks.{IsStaged, points_of_blocks}
use Rattle.ts_raw.specs.CodedPoints.{coded_points}
use Rattle.ts_raw.proofs.PointMaps.{from_sorted-put}
use Rattle.ts_raw.proofs.PushLemmas.{coded_less}
use Rattle.ts_raw.proofs.ColumnBlocks.{appended_map, all_dropped, points_rise}
use Rattle.ts_raw.proofs.block_column.BlockColumnColumn.commit.Given.{Over}
use Rattle.ts_raw.proofs.block_column.BlockColumnColumn.commit.Goals.{After-unwrap-point, After-into_inner}
use Rattle.ts_raw.proofs.block_column.BlockColumnColumn.commit.Goals as goal

point_is : (g : Over) (c : After-unwrap-point g) → c.self.inside.staged ≡ Some c.unwrap-point.result
point_is g c = sym c.take.ensures.value ∙ c.unwrap-point.ensures

staged : (g : Over) (c : After-unwrap-point g) → IsStaged c.self.inside.blocks c.unwrap-point.result (option_map (λ b. b.value) c.self.inside.rewritten)
staged g c = subst (λ s. IsStagedIfAny c.self.inside.blocks s (option_map (λ b. b.value) c.self.inside.rewritten)) (point_is g c) c.self.invariant.is_staged

appended : (g : Over) (c : After-unwrap-point g) → c.self.inside.rewritten ≡ None → IsStaged c.self.inside.blocks c.unwrap-point.result None
appended g c none = subst (IsStaged c.self.inside.blocks c.unwrap-point.result) (ap (option_map (λ b. b.value)) none) (staged g c)

replaced : (g : Over) (c : After-into_inner g) → IsStaged c.self.inside.blocks c.unwrap-point.result (option_map (λ b. b.value) c.self.inside.rewritten) → IsStaged c.self.inside.blocks c.unwrap-point.result (Some c.into_inner.result)
replaced g c s = subst (IsStaged c.self.inside.blocks c.unwrap-point.result) (ap (option_map (λ b. b.value)) (sym c.take-2.ensures.value ∙ c.in-Some.is) ∙ ap Some (sym c.into_inner.ensures)) s

pub append-requires-clause-staged : goal.append-requires-clause-staged
append-requires-clause-staged g c = appended g (goal.at.append-requires-clause-staged g c).After-unwrap-point (sym c.take-2.ensures.value ∙ c.in-None.is)

pub replace-requires-clause-staged : goal.replace-requires-clause-staged
replace-requires-clause-staged g c =
    let a = goal.at.replace-requires-clause-staged g c in
    let valid : IsTime c.unwrap-point.result.0 = search rules in
    (c.unwrap-point.result, valid, replaced g a.After-into_inner (staged g a.After-unwrap-point))

pub returns-in-None-clause-put : goal.returns-in-None-clause-put
returns-in-None-clause-put g c =
    let a = (goal.at.returns-in-None-clause-put g c).After-unwrap-point in
    let b = c.self.inside.blocks in
    let p : ℤ × ℤ = c.unwrap-point.result in
    let later = (appended g a (sym c.take-2.ensures.value ∙ c.in-None.is)).can.0 in
    rw (← c.self.view_is, point_is g a, c.append.ensures.points)
    (appended_map (points_of_blocks b) p (points_rise b c.self.invariant.sound) (all_dropped p.0 b.cut (coded_points b.bytes.items b.handles.items) (coded_less b.bytes.items p.0 b.handles.items c.self.invariant.sound.counted.coded.marked later)))

pub returns-in-Some-clause-put : goal.returns-in-Some-clause-put
returns-in-Some-clause-put g c =
    let a = goal.at.returns-in-Some-clause-put g c in
    let b = c.self.inside.blocks in
    let p : ℤ × ℤ = c.unwrap-point.result in
    let is = replaced g a.After-into_inner (staged g a.After-unwrap-point) in
    rw (← c.self.view_is, point_is g a.After-unwrap-point) (ap (map.from_sorted {R = int_cmp}) (c.replace.ensures.points p is) ∙ from_sorted-put int_cmp_total (points_of_blocks b) (points_rise b c.self.invariant.sound) p.0 p.1)
