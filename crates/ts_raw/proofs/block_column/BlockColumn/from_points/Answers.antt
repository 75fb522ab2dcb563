use Rattle.std.proofs.Common.{rules, ◌≡◌, ◌<◌, ℕ, ℤ, List, [], length, take, int_cmp, IfSome, Some, sym, ap, subst, ◌∙◌, refl, Option, SFits, w64, to_z-of_z}
use Rattle.std.proofs.Math.Seq.{take-length}
use Rattle.std.specs.FinMap as map
use Rattle.std.specs.FinMap.{entries-from_sorted}
use Rattle.ts_raw.specs.PlainColumns.{IsRising}
use Rattle.ts_raw.proofs.PointMaps.{from_sorted-nothing}
use Rattle.ts_raw.proofs.ColumnBlocks.{next_map}
use Rattle.ts_raw.proofs.block_column.BlockColumn.from_points.Goals as goal

pub loop-point-init : goal.loop-point-init
loop-point-init g c = record {
  points = c.new-column.ensures.points ∙ sym (from_sorted-nothing int_cmp [] refl);
  none_staged = c.new-column.ensures.none_staged;
}

pub loop-point-preserved : goal.loop-point-preserved
loop-point-preserved g c =
    let ps : List (ℤ × ℤ) = c.as_slice-point-items.result.now in
    let i : ℕ = c.loop-point.point-index in
    let x : ℤ × ℤ = c.point-item.result in
    let within : i < length ps = search rules in
    let rising : IsRising ps = subst IsRising (sym c.as_slice-point-items.ensures.value) c.requires.rising in
    let fits : SFits w64 x.1 = search rules in
    let staged = c.in_ok-prepare.ensures.staged ∙ ap (λ v. Some (x.0, v)) (to_z-of_z fits) in
    let put = subst (λ (a : Option (ℤ × ℤ)). IfSome a (λ p. c.commit.new.self.points ≡ map.insert c.prepare.new.self.points p.0 p.1)) staged c.commit.ensures.put in
    record {
      points = put ∙ ap (λ m. map.insert m x.0 x.1) (c.in_ok-prepare.ensures.unchanged ∙ c.loop-point.invariant.points) ∙ ap (λ (p : ℤ × ℤ). map.insert (map.from_sorted {R = int_cmp} (take i ps)) p.0 p.1) c.point-item.is ∙ next_map ps i x rising within;
      none_staged = c.commit.ensures.none_staged;
    }

pub returns-clause-entries : goal.returns-clause-entries
returns-clause-entries g c =
    let ps : List (ℤ × ℤ) = c.as_slice-point-items.result.now in
    let all : c.loop-point.point-index ≡ length ps = search rules in
    ap map.entries (c.loop-point.invariant.points ∙ ap (map.from_sorted {R = int_cmp}) (ap (λ n. take n ps) all ∙ take-length ps ∙ c.as_slice-point-items.ensures.value)) ∙ entries-from_sorted int_cmp c.args.points.items c.requires.rising
