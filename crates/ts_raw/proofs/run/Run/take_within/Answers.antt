use Rattle.std.proofs.Common.{ℤ, List, length, ◌≤◌, subst, sym}
use Rattle.std.proofs.lemmas.List.Sums.{prefix_len-le-length}
use Rattle.ts_block.specs.Decoding.{AreSpacedIf}
use Rattle.ts_raw.specs.PlainColumns.{IsRising}
use Rattle.ts_raw.proofs.CutLemmas.{is_rising_behind}
use Rattle.ts_raw.proofs.RunLemmas.{spaced_behind}
use Rattle.ts_raw.proofs.run.Run.take_within.Goals as goal

pub split_at-requires : goal.split_at-requires
split_at-requires c = subst (λ n. n ≤ length c.self.inside.points.now) (sym c.count_within.ensures) (prefix_len-le-length _ c.self.inside.points.now)

pub invariant_of-self : goal.invariant_of-self
invariant_of-self c =
    subst (λ (ps : List (ℤ × ℤ)). IsRising ps × AreSpacedIf c.self.inside.step ps) (sym c.split_at.ensures.back)
    (is_rising_behind c.count_within.result c.self.inside.points.now c.self.invariant.0, spaced_behind c.self.inside.step c.count_within.result c.self.inside.points.now c.self.invariant.1)
